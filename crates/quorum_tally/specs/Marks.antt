-- What the marks of a set show.
use Rattle.std.specs.Prelude.{◌≡◌, ℕ, ◌==◌, ◌||◌, Bool, false, List, [], ◌∷◌, map}
use Rattle.crdt_core.specs.Members.{two_pass}
use Rattle.quorum_model.specs.Quorum.{is_among}
use Rattle.quorum_tally.specs.declared.marks.Mark.{Mark}
use Rattle.quorum_tally.specs.declared.marks.Marks.{Marks}

-- a mark before its node confirmed
abbrev pub unmarked : ℕ → Mark
unmarked node = record { node = node; is_confirmed = false }

-- a mark after a node confirmed
abbrev pub mark_after : ℕ → Mark → Mark
mark_after node m = record { node = m.node; is_confirmed = m.is_confirmed || (node == m.node) }

-- a set's marks after a node confirmed
abbrev pub marks_after : ℕ → Marks → Marks
marks_after node s = record { first = mark_after node s.first; second = mark_after node s.second; third = mark_after node s.third }

-- the marks as a list
abbrev pub three : Marks → List Mark
three s = s.first ∷ s.second ∷ s.third ∷ []

-- the set's nodes
abbrev pub nodes_of : Marks → List ℕ
nodes_of s = map (λ m. m.node) (three s)

-- two of the three have confirmed
abbrev pub has_two : Marks → Bool
has_two s = two_pass (λ m. m.is_confirmed) (three s)

-- the marks are those of the nodes that have confirmed
abbrev pub IsRight : List ℕ → Marks → Type 0
IsRight nodes s = map (λ m. m.is_confirmed) (three s) ≡ map (λ n. is_among n nodes) (nodes_of s)
