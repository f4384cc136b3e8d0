-- What a call stands for: its slots in order, each with its sets and the nodes that have confirmed.
use Rattle.std.specs.Prelude.{List, [], ◌∷◌, ⊤}
use Rattle.quorum_model.specs.Quorum.{StoreSlot}
use Rattle.quorum_tally.specs.declared.tally.Tally.{Tally}
use Rattle.quorum_tally.specs.Stands.{Tallies}
use Rattle.write_call.specs.declared.call.WriteCall.{WriteCall}

-- each tally is that of its slot
abbrev pub AreTallies : List Tally → List StoreSlot → Type 0
AreTallies [] [] = ⊤
AreTallies [] (s ∷ ss) = ⊥
AreTallies (t ∷ ts) [] = ⊥
AreTallies (t ∷ ts) (s ∷ ss) = Tallies t s.first s.sets s.nodes × AreTallies ts ss

-- the call counts these slots
abbrev pub Stands : WriteCall → List StoreSlot → Type 0
Stands call slots = AreTallies call.slots.items slots
