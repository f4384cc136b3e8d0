-- The world of one key: the row that each node has, and what was ever sent, begun, confirmed and collected.
use Rattle.std.specs.Prelude.{ℕ, Option, None, List, []}

-- a row in a message, and the moment at which it was sent
pub record Sent (R : Type 0) : Type 0 where
  pub row : R
  pub moment : ℕ

-- a collection began: at this node, of this tombstone with this marker, when the node's newest layout version was this one
pub record Begun (R V : Type 0) : Type 0 where
  pub node : ℕ
  pub row : R
  pub version : V
  pub newest : ℕ

-- a node confirmed the first round, with its newest layout version
pub record Tombed (R V : Type 0) : Type 0 where
  pub begun : Begun R V
  pub node : ℕ
  pub newest : ℕ

-- a node's newest layout version at its confirmation
pub record Witness : Type 0 where
  pub node : ℕ
  pub newest : ℕ

-- the first round was complete: its witnesses, and what the beginner's clock showed then
pub record Ready (R V : Type 0) : Type 0 where
  pub begun : Begun R V
  pub first : List Witness
  pub clock : ℕ

-- a second round began: how many had begun before
pub record Second (R V : Type 0) : Type 0 where
  pub number : ℕ
  pub ready : Ready R V

-- a node confirmed a second round, with its newest layout version
pub record Again (R V : Type 0) : Type 0 where
  pub second : Second R V
  pub node : ℕ
  pub newest : ℕ

-- the world of one key; in each list the newest comes first
pub record World (C R V : Type 0) : Type 0 where
  pub control : C
  pub time : ℕ
  pub row : ℕ → Option R
  pub shown : List (Sent R)  -- rows of now that messages carry: of rounds, repairs and walks, of collections, and answers
  pub stored : List (Sent R)  -- rows of store phases that messages carry
  pub begun : List (Begun R V)
  pub tombed : List (Tombed R V)
  pub ready : List (Ready R V)
  pub second : List (Second R V)
  pub again : List (Again R V)
  pub dropped : List R  -- the tombstones of collections that came to their end

-- the world before anything happened
abbrev pub first : {C R V : Type 0} → C → World C R V
first c = record { control = c; time = 0; row = λ n. None; shown = []; stored = []; begun = []; tombed = []; ready = []; second = []; again = []; dropped = [] }
