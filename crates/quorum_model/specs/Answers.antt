-- What a phase takes from the answers of nodes, the first one first: those of the first two different nodes.
use Rattle.std.specs.Prelude.{ℕ, ◌==◌, if◌then◌else◌, Option, Some, None, is_some, option_map, List, [], ◌∷◌, ◌++◌, filter}
use Rattle.crdt_core.specs.Order.{option_join}
use Rattle.quorum_model.specs.Quorum.{is_among}

-- the answers of these nodes
abbrev pub heard : {A : Type 0} → List ℕ → List (ℕ × A) → List (ℕ × A)
heard nodes answers = filter (λ a. is_among a.0 nodes) answers

-- the first answer of another node
abbrev pub answer_of_other : {A : Type 0} → ℕ → List (ℕ × A) → Option A
answer_of_other node [] = None
answer_of_other node (a ∷ rest) = if a.0 == node then answer_of_other node rest else Some a.1

-- the first answers of the first two different nodes. None before the second has answered
abbrev pub first_two : {A : Type 0} → List (ℕ × A) → Option (A × A)
first_two [] = None
first_two (a ∷ rest) = option_map (λ b. (a.1, b)) (answer_of_other a.0 rest)

-- a phase asks these nodes and has these answers, and one more comes: the first two, where this one is the second.
-- None at each other answer
abbrev pub first_two_at : {A : Type 0} → List ℕ → List (ℕ × A) → ℕ × A → Option (A × A)
first_two_at nodes answers a =
    if is_some (first_two (heard nodes answers)) then None else first_two (heard nodes (answers ++ a ∷ []))

-- two answers to a read phase, merged. A node without the row answers none
abbrev pub merged : {R : Type 0} → (R → R → R) → Option R × Option R → Option R
merged join two = option_join join two.0 two.1
