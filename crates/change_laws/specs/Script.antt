-- The steps of a layout change, between which all messages are delivered.
use Rattle.std.specs.Prelude.{◌≡◌, ℕ, false, IsTrue, Some, List, [], ◌∷◌, ◌++◌, ⊤}
use Rattle.layout_roles.specs.declared.role.Role.{Role}
use Rattle.table_schema.specs.Words.{Words}
use Rattle.quorum_model.specs.Quorum.{is_among}
use Rattle.cluster_machine.specs.declared.step.Step.{Step}
use Rattle.cluster_machine.specs.declared.step.Step.TheVariants.{Apply, Deliver, Gossip, Ack, Sync, SyncAck, Clean}
use Rattle.cluster_machine.specs.Hashes.{RunHashes}
use Rattle.cluster_machine.specs.Layouts.{Layouts}
use Rattle.cluster_machine.specs.World.{World, numbered, forget_delivered}
use Rattle.cluster_machine.specs.Step.{Choice, given}
use Rattle.cluster_machine.specs.Run.{Move, does, next, run}
use Rattle.change_model.specs.Steps.{to_one, from_one, gossips, each}
use Rattle.drained_laws.specs.Waiting.{fresh, waiting}

-- no node stands twice
abbrev pub AreApart : List ℕ → Type 0
AreApart [] = ⊤
AreApart (n ∷ ns) = (is_among n ns ≡ false) × AreApart ns

-- the step delivers a message that waits
abbrev pub IsFresh : {R L : Type 0} → World R L → Step R → Type 0
IsFresh w (Deliver m) = numbered w.marks m ≡ Some fresh
IsFresh w _ = ⊥

-- a step of a change
abbrev pub IsOfChange : {R : Type 0} → Step R → Type 0
IsOfChange (Apply n) = ⊤
IsOfChange (Deliver m) = ⊤
IsOfChange (Gossip from to) = ⊤
IsOfChange (Ack n) = ⊤
IsOfChange (Sync n) = ⊤
IsOfChange (SyncAck n) = ⊤
IsOfChange (Clean n) = ⊤
IsOfChange _ = ⊥

module _ {R L : Type 0} (A C : Type 0) (join : R → R → R) (s : Words R) (k : Layouts L) (trio : L) (trio_roles : List Role → List Role) where
  -- deliveries, each of a message that waits
  abbrev pub AreFresh : World R L → List (Move R L A C) → Type 0
  AreFresh w [] = ⊤
  AreFresh w (m ∷ ms) = IsFresh w m.step × AreFresh (next {A = A} {C = C} join s k trio trio_roles w m) ms

  -- each step sends rows that have a spelling
  abbrev pub AreSpelled : World R L → List (Move R L A C) → Type 0
  AreSpelled w [] = ⊤
  AreSpelled w (m ∷ ms) = IsTrue ((does {A = A} {C = C} join s k trio trio_roles w m).is_spelled) × AreSpelled (next join s k trio trio_roles w m) ms

  -- deliveries lead from one world to the other, in which no message waits
  pub record Drains (w new : World R L) : Type 0 where
    pub deliveries : List (Move R L A C)
    pub fresh_ones : AreFresh w deliveries
    pub none : waiting (run {A = A} {C = C} join s k trio trio_roles w deliveries) ≡ []
    pub leads : new ≡ run {A = A} {C = C} join s k trio trio_roles w deliveries

  -- views go from one to others, or from others to one, and all is delivered
  abbrev pub Shows : Choice L A C → List (ℕ × ℕ) → World R L → World R L → Type 0
  Shows choice pairs w new = Drains (run {A = A} {C = C} join s k trio trio_roles w (gossips choice pairs)) new

  -- what all know becomes known to node m, and then to all
  pub record Spreads (choice : Choice L A C) (m : ℕ) (nodes : List ℕ) (w new : World R L) : Type 0 where
    pub between : World R L
    pub first : Shows choice (to_one m nodes) w between
    pub second : Shows choice (from_one m nodes) between new

  -- these nodes do one thing, and then it spreads what they know
  abbrev pub after_each : Choice L A C → (ℕ → Step R) → List ℕ → World R L → World R L
  after_each choice does nodes w = run {A = A} {C = C} join s k trio trio_roles w (each choice does nodes)

  -- the whole change: node m applies the layout, and these nodes take part
  pub record Changes (choice : Choice L A C) (l : L) (shown : A) (m : ℕ) (nodes : List ℕ) (w new : World R L) : Type 0 where
    pub told : World R L
    pub tells : Shows choice (from_one m nodes) (next {A = A} {C = C} join s k trio trio_roles w (record { step = Apply m; choice = given l shown })) told
    pub acked : World R L
    pub acks : Spreads choice m nodes (after_each choice Ack nodes told) acked
    pub moved : World R L
    pub moves : Drains (after_each choice Sync nodes acked) moved
    pub synced : World R L
    pub syncs : Spreads choice m nodes moved synced
    pub known : World R L
    pub knows : Spreads choice m nodes (after_each choice SyncAck nodes synced) known
    pub leads : new ≡ forget_delivered (after_each choice Clean nodes known)

  -- the strings that are hashed for walks while rounds begin and all is delivered
  abbrev pub RoundHashes : (choice : Choice L A C) (l : L) (shown : A) (m : ℕ) (nodes : List ℕ) (w new : World R L) → Changes choice l shown m nodes w new → List ℕ → Type 0
  RoundHashes choice l shown m nodes w new is x = RunHashes s join k trio trio_roles is.acked (each choice Sync nodes ++ is.moves.deliveries) x

  -- the steps by which something spreads
  abbrev pub spread_moves : (choice : Choice L A C) (m : ℕ) (nodes : List ℕ) (w new : World R L) → Spreads choice m nodes w new → List (Move R L A C)
  spread_moves choice m nodes w new is = gossips choice (to_one m nodes) ++ (is.first.deliveries ++ (gossips choice (from_one m nodes) ++ is.second.deliveries))

  -- the steps of a change, but that delivered messages are forgotten at its end
  abbrev pub moves_of : (choice : Choice L A C) (l : L) (shown : A) (m : ℕ) (nodes : List ℕ) (w new : World R L) → Changes choice l shown m nodes w new → List (Move R L A C)
  moves_of choice l shown m nodes w new is =
      record { step = Apply m; choice = given l shown } ∷ (gossips choice (from_one m nodes) ++ (is.tells.deliveries
      ++ (each choice Ack nodes ++ (spread_moves choice m nodes (after_each choice Ack nodes is.told) is.acked is.acks
      ++ (each choice Sync nodes ++ (is.moves.deliveries ++ (spread_moves choice m nodes is.moved is.synced is.syncs
      ++ (each choice SyncAck nodes ++ (spread_moves choice m nodes (after_each choice SyncAck nodes is.synced) is.known is.knows
      ++ each choice Clean nodes)))))))))
