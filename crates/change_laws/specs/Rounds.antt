-- Rounds on their way: with each node of the newer set that has not confirmed a partition a walk goes on, each of whose questions or its
-- answer waits, or a push or its answer waits.
use Rattle.std.specs.Prelude.{◌≡◌, ◌⊎◌, ◌≤◌, ℕ, suc, true, false, IsTrue, ⊤, Option, Some, None, List, [], ◌∷◌}
use Rattle.std.specs.List.{AllByRecursion}
use Rattle.blake2_hash.specs.Blake2b.{blake2b}
use Rattle.blake2_hash.specs.declared.digest.Hash32.{Hash32}
use Rattle.layout_trackers.specs.declared.which.Which.{Which}
use Rattle.layout_trackers.specs.declared.which.Which.TheVariants.{Ack, Sync, SyncAck}
use Rattle.control_model.specs.Facts.{entry_of}
use Rattle.table_schema.specs.Words.{Words}
use Rattle.table_model.specs.Rows.{rows, rows_in}
use Rattle.quorum_model.specs.Quorum.{is_among}
use Rattle.walk_model.specs.Walking.{is_open}
use Rattle.wire_messages.specs.declared.message.Message.{Message}
use Rattle.wire_messages.specs.declared.message.Message.TheVariants.{Store, Stored, Walk as AsksValue, Same, Differ}
use Rattle.wire_messages.specs.declared.message.Tag.{Tag}
use Rattle.wire_messages.specs.declared.message.Tag.TheVariants.{Round as ForRound}
use Rattle.view_model.specs.View.{View}
use Rattle.cluster_machine.specs.Layouts.{Layouts, set_of}
use Rattle.cluster_machine.specs.Node.{Node, Round, Mending, Part, Walk, Confirmed}
use Rattle.cluster_machine.specs.Rounds.{confirmed_for, is_complete, has_ended, walk_at}
use Rattle.cluster_machine.specs.World.{Sent}
use Rattle.drained_laws.specs.Waiting.{SomeOf, Has}
use Rattle.drained_laws.specs.Accounts.{confirms, Carries, OnWay, AreThree}
use Rattle.change_laws.specs.Resting.{AreUpTo}

-- three bounds, one for each tracker
abbrev pub tops : ℕ → ℕ → ℕ → Which → ℕ
tops ack sync sync_ack Ack = ack
tops ack sync sync_ack Sync = sync
tops ack sync sync_ack SyncAck = sync_ack

-- a round's tag
abbrev pub IsOfRound : Tag → Type 0
IsOfRound (ForRound number p) = ⊤
IsOfRound _ = ⊥

-- the tag of the round of this number
abbrev pub IsNumbered : ℕ → Tag → Type 0
IsNumbered n (ForRound number p) = number ≡ n
IsNumbered n _ = ⊥

-- the walks of the open round, else of the last one
abbrev pub walks_in : Option Round → Option Mending → List Walk
walks_in None None = []
walks_in None (Some lasting) = lasting.walks
walks_in (Some round) lasting = round.walks

-- that round has this number
abbrev pub HasNumber : ℕ → Option Round → Option Mending → Type 0
HasNumber n None None = ⊥
HasNumber n None (Some lasting) = lasting.number ≡ n
HasNumber n (Some round) lasting = round.number ≡ n

module _ {R : Type 0} (number p table : ℕ) (prefix : List ℕ) where
  -- the message asks for the value at this prefix, for a walk of this round
  abbrev pub AsksFor : Message R → Type 0
  AsksFor (AsksValue tag named q t x hash) = (tag ≡ ForRound number p) × (q ≡ p) × (t ≡ table) × (x ≡ prefix)
  AsksFor _ = ⊥

  -- the message answers that
  abbrev pub Tells : Message R → Type 0
  Tells (Same tag t x) = (tag ≡ ForRound number p) × (t ≡ table) × (x ≡ prefix)
  Tells (Differ tag t x pairs) = (tag ≡ ForRound number p) × (t ≡ table) × (x ≡ prefix)
  Tells _ = ⊥

module _ {R L : Type 0} (n m number p table : ℕ) (prefix : List ℕ) where
  -- node n's question to node m, or m's answer to n
  abbrev pub IsOnWalk : Sent R L → Type 0
  IsOnWalk x = ((x.from ≡ n) × (x.to ≡ m) × Carries (AsksFor number p table prefix) x.packet) ⊎ ((x.from ≡ m) × (x.to ≡ n) × Carries (Tells number p table prefix) x.packet)

  -- one of them waits
  abbrev pub OnWalk : List (Sent R L) → Type 0
  OnWalk ws = SomeOf IsOnWalk ws

module _ {R L : Type 0} (ws : List (Sent R L)) (n number : ℕ) (confirmed : List Confirmed) (walks : List Walk) where
  -- each node of the set has confirmed, or a push to it or its answer waits, or a walk with it goes on
  pub record IsPart (part : Part) : Type 0 where
    pub three : AreThree part.set
    pub owed : (m : ℕ) → IsTrue (is_among m part.set) → Has (confirmed_for part.partition confirmed) m ⊎ (OnWay (confirms (ForRound number part.partition)) n m ws ⊎ ((w : Walk) × (walk_at part.partition m walks ≡ Some w)))

module _ {R : Type 0} (s : Words R) where
  -- a noted key is that of a row among these
  abbrev pub IsOfRow : List R → ℕ × Hash32 → Type 0
  IsOfRow there key = SomeOf (λ r. (s.table r ≡ key.0) × (blake2b 32 (s.key r) ≡ key.1.0)) there

module _ {R : Type 0} (join : R → R → R) (s : Words R) {L : Type 0} (k : Layouts L) (l new : L) (part : List ℕ) where
  -- node n's walk over a partition with node m, where n accepted these rows
  pub record IsWalk (ws : List (Sent R L)) (n number p m : ℕ) (accepted : List R) (w : Walk) : Type 0 where
    pub given : IsTrue (is_among m (set_of k new p))
    pub goes_on : has_ended w ≡ false
    pub awaited : (table : ℕ) (prefix : List ℕ) → is_open table prefix w.state.prefixes ≡ true → OnWalk n m number p table prefix ws
    pub noted : AllByRecursion (IsOfRow s (rows_in s p (rows join s accepted))) w.state.noted

  -- each of node n's walks
  abbrev pub AreWalks : List (Sent R L) → ℕ → ℕ → List R → List Walk → Type 0
  AreWalks ws n number accepted walks = (p m : ℕ) (w : Walk) → walk_at p m walks ≡ Some w → IsWalk ws n number p m accepted w

  -- node n has synced, or its open round leads to the newer version and is accounted for
  abbrev pub IsRoundOf : List (Sent R L) → ℕ → View L → Option Round → Type 0
  IsRoundOf ws n v None = suc (k.reading.version l) ≤ entry_of Sync v n
  IsRoundOf ws n v (Some round) =
      (round.target ≡ suc (k.reading.version l)) × (is_complete round ≡ false) × AllByRecursion (IsPart ws n round.number round.confirmed round.walks) round.parts

  -- node n has begun its round, of this number
  pub record IsGoing (ws : List (Sent R L)) (n number : ℕ) (x : Node R L) : Type 0 where
    pub has_number : HasNumber number x.round x.lasting
    pub walks : AreWalks ws n number x.accepted (walks_in x.round x.lasting)
    pub state : IsRoundOf ws n x.view x.round

  module _ (number : ℕ → ℕ) (begun : ℕ → Type 0) where
    -- a question of a walk over the newer version or its answer, a push or its confirmation
    abbrev pub IsRoundMessage : ℕ → ℕ → Message R → Type 0
    IsRoundMessage from to (Store tag named p rows) = IsOfRound tag × (named ≡ k.reading.version new) × IsTrue (is_among to (set_of k new p))
    IsRoundMessage from to (Stored tag) = IsOfRound tag
    IsRoundMessage from to (AsksValue tag named p table prefix hash) = (tag ≡ ForRound (number from) p) × (named ≡ k.reading.version new) × IsTrue (is_among to (set_of k new p)) × begun from
    IsRoundMessage from to (Same tag table prefix) = IsNumbered (number to) tag × begun to
    IsRoundMessage from to (Differ tag table prefix pairs) = IsNumbered (number to) tag × begun to
    IsRoundMessage from to _ = ⊥

    -- from one that takes part to another
    abbrev pub IsOfRounds : Sent R L → Type 0
    IsOfRounds x = IsTrue (is_among x.from part) × IsTrue (is_among x.to part) × Carries (IsRoundMessage x.from x.to) x.packet

    -- a node that takes part
    pub record IsRounding (n : ℕ) (x : Node R L) : Type 0 where
      pub layouts : x.view.layouts ≡ l ∷ new ∷ []
      pub entries : AreUpTo k l (tops (suc (k.reading.version l)) (suc (k.reading.version l)) (k.reading.version l)) x.view
      pub calls : x.calls ≡ []
      pub proper : AllByRecursion (λ r. IsTrue (s.is_proper r)) x.accepted
      pub idle : (x.round ≡ None) ⊎ begun n

    -- all that take part; these have begun their rounds; the others are as they were
    pub record AreRounds (was : ℕ → Node R L) (nodes : ℕ → Node R L) (ws : List (Sent R L)) : Type 0 where
      pub inside : (n : ℕ) → IsTrue (is_among n part) → IsRounding n (nodes n)
      pub going : (n : ℕ) → begun n → IsGoing ws n (number n) (nodes n)
      pub outside : (n : ℕ) → is_among n part ≡ false → nodes n ≡ was n
      pub messages : AllByRecursion IsOfRounds ws
