-- The invariant of a state that acts lead to.
use Rattle.std.specs.Prelude.{◌≡◌, ◌≤◌, ◌<◌, ◌⊎◌, ⊤, ℕ, true, Option, Some, List, [], ◌∷◌, length}
use Rattle.std.specs.List.{All, Contains}
use Rattle.crdt_core.specs.Members.{Has}
use Rattle.crdt_core.specs.Order.{AtMost}
use Rattle.cluster_machine.specs.Node.{Question, Present, resting, asking, scanning, storing as keeping, fetching, Call}
use Rattle.cluster_machine.specs.Hashes.{NoClash}
use Rattle.cluster_machine.specs.World.{empty, numbered}
use Rattle.cluster_machine.specs.Worlds.{IsLawfulRun, run}
use Rattle.machine_origins.specs.Origins.{stored_by}
use Rattle.k2v_rows.specs.declared.value.K2vValue.{K2vValue}
use Rattle.k2v_rows.specs.declared.k2v_row.K2vRow.{K2vRow}
use Rattle.k2v_rows.specs.Row.{ItemKey, item_key, row_join, discard_at, value_of, time_at}
use Rattle.k2v_schema.specs.Schema.{words, key_of as row_key}
use Rattle.k2v_model.specs.declared.order.Ask.TheVariants.{Write, Read}
use Rattle.k2v_model.specs.Orders.{key_of, empty_row}
use Rattle.k2v_model.specs.Run.{World, Moving, ItemRequest, Stage, reading, storing, stored, shown, over, token_at, State}
use Rattle.k2v_model.specs.Owed.{IsWrite, HasRead}
use Rattle.k2v_laws.specs.Hashed.{StepsHash}
use Rattle.k2v_laws.proofs.Good.{IsGood}

-- ---- the world

module _ (H : List ℕ → Type 0) where
  -- a row of some item, good among these requests
  abbrev pub IsGoodRow : List ItemRequest → K2vRow → Type 0
  IsGoodRow requests row = IsGood H requests (item_key row) (length requests) row

  abbrev pub StoresGood : List ItemRequest → Moving → Type 0
  StoresGood requests m = All (IsGoodRow requests) (stored_by m.step)

  -- lawful steps lead to the world, what they hash for walks is among these strings, and each row that they began to store is good
  pub record IsReached (requests : List ItemRequest) (w : World) : Type 0 where
    pub moves : List Moving
    pub lawful : IsLawfulRun row_join words empty moves
    pub is : w ≡ run row_join words empty moves
    pub hashed : (x : List ℕ) → StepsHash empty moves x → H x
    pub good : All (StoresGood requests) moves

-- ---- open requests

-- the request began at this node
pub record BeganAt (requests : List ItemRequest) (n q : ℕ) : Type 0 where
  pub one : ItemRequest
  pub is_there : numbered requests q ≡ Some one
  pub node_is : one.node ≡ n

-- the question is for the item's row, and the rows of the writes that were acknowledged before the request began were kept before the question was asked
pub record Asks (requests : List ItemRequest) (a : ItemRequest) (question : Question K2vRow) : Type 0 where
  pub table : question.table ≡ 1
  pub key : question.key ≡ row_key (empty_row a.order.item)
  pub has : (p : ℕ) (b : ItemRequest) (row : K2vRow) → a.before p ≡ true → numbered requests p ≡ Some b → b.stage ≡ stored row → Contains question.kept row

-- the phase is the one that the request is in, if it is in one
abbrev pub Fits : List ItemRequest → ℕ → Present K2vRow → Type 0
Fits requests q resting = ⊤
Fits requests q (asking question answers) = (a : ItemRequest) → numbered requests q ≡ Some a → a.stage ≡ reading → Asks requests a question
Fits requests q (scanning scan answers) = ⊤
Fits requests q (keeping rows slots) = (a : ItemRequest) (row : K2vRow) → numbered requests q ≡ Some a → a.stage ≡ storing row → rows ≡ row ∷ []
Fits requests q (fetching hash) = ⊤

pub record IsPresent (requests : List ItemRequest) (n q : ℕ) (p : Present K2vRow) : Type 0 where
  pub began : BeganAt requests n q
  pub fits : Fits requests q p

abbrev pub ArePresent : List ItemRequest → ℕ → List (Call K2vRow) → Type 0
ArePresent requests n calls = (c : Call K2vRow) → Has calls c → IsPresent requests n c.request c.present

-- ---- requests

-- a token of this item that a request may have: none, or a read that finished before it began
abbrev pub IsTokenOf : List ItemRequest → ItemKey → ℕ → ℕ → Type 0
IsTokenOf requests key q token = (token ≡ 0) ⊎ ((given : Option K2vRow) × (begun : ℕ) × HasRead requests token key given begun × (begun < q))

-- which writes were acknowledged when a request began
abbrev pub HasBefore : List ItemRequest → ItemRequest → Type 0
HasBefore requests a = (p : ℕ) → a.before p ≡ true → (b : ItemRequest) × (row : K2vRow) × (numbered requests p ≡ Some b) × (b.stage ≡ stored row)

module _ (H : List ℕ → Type 0) where
  -- the row that write q stores
  pub record IsRowOf (requests : List ItemRequest) (q : ℕ) (a : ItemRequest) (row : K2vRow) : Type 0 where
    pub good : IsGood H requests (key_of a.order.item) (length requests) row
    pub shows : (v : K2vValue) (token : ℕ) → a.order.ask ≡ Write v token → value_of row a.node q ≡ Some v
    pub replaces : (v : K2vValue) (token : ℕ) → a.order.ask ≡ Write v token → (m : ℕ) → time_at (token_at (numbered requests token)) m ≤ discard_at row m

  -- what a read gave: a good row, and, where no two of these strings have one digest, at least the row of each write that was acknowledged before it began
  pub record IsGiven (requests : List ItemRequest) (a : ItemRequest) (given : Option K2vRow) (begun : ℕ) : Type 0 where
    pub reads : a.order.ask ≡ Read
    pub low : begun ≤ length requests
    pub good : (row : K2vRow) → given ≡ Some row → IsGood H requests (key_of a.order.item) begun row
    pub covers : NoClash H → (p : ℕ) (b : ItemRequest) (row : K2vRow) → a.before p ≡ true → numbered requests p ≡ Some b → b.stage ≡ stored row → key_of b.order.item ≡ key_of a.order.item →
        (r : K2vRow) × (given ≡ Some r) × AtMost row_join row r

  abbrev pub IsStage : List ItemRequest → List K2vRow → ℕ → ItemRequest → Stage → Type 0
  IsStage requests kept q a reading = ⊤
  IsStage requests kept q a (storing row) = IsRowOf requests q a row
  IsStage requests kept q a (stored row) = IsRowOf requests q a row × Contains kept row
  IsStage requests kept q a (shown given begun) = IsGiven requests a given begun
  IsStage requests kept q a over = ⊤

  pub record IsEntry (requests : List ItemRequest) (kept : List K2vRow) (q : ℕ) (a : ItemRequest) : Type 0 where
    pub before : HasBefore requests a
    pub token : (v : K2vValue) (token : ℕ) → a.order.ask ≡ Write v token → IsTokenOf requests (key_of a.order.item) q token
    pub stage : IsStage requests kept q a a.stage

  abbrev pub AreEntries : List ItemRequest → List K2vRow → Type 0
  AreEntries requests kept = (q : ℕ) (a : ItemRequest) → numbered requests q ≡ Some a → IsEntry requests kept q a

-- when a write began, an earlier one of its item at its node had been acknowledged, or had ended
abbrev pub Passed : ItemRequest → ℕ → Stage → Type 0
Passed a p reading = ⊥
Passed a p (storing row) = ⊥
Passed a p (stored row) = a.before p ≡ true
Passed a p (shown given begun) = ⊤
Passed a p over = ⊤

abbrev pub ArePassed : List ItemRequest → Type 0
ArePassed requests = (key : ItemKey) (n p q : ℕ) (v : IsWrite requests p key n) (w : IsWrite requests q key n) → p < q → Passed w.one p v.one.stage

-- of a state that acts lead to; its steps hash no more for walks than these strings
pub record IsSound (H : List ℕ → Type 0) (s : State) : Type 0 where
  pub reached : IsReached H s.requests s.world
  pub lengths : length s.requests ≡ length s.world.requests
  pub presents : (n : ℕ) → ArePresent s.requests n (s.world.nodes n).calls
  pub entries : AreEntries H s.requests s.world.kept
  pub passed : ArePassed s.requests
