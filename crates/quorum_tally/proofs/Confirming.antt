-- What marks say of the nodes that confirmed.
use Rattle.std.proofs.Common.{◌≡◌, ℕ, ◌||◌, ◌==◌, List, [], ◌∷◌, ◌++◌, map, refl, sym, ap, ◌∙◌}
use Rattle.std.specs.Prelude.{nat_le, count_by, Bool}
use Rattle.quorum_model.specs.Quorum.{is_among, two_of}
use Rattle.quorum_tally.specs.declared.marks.Marks.{Marks}
use Rattle.quorum_tally.specs.Marks.{unmarked, marks_after, nodes_of, has_two, IsRight}
use Rattle.quorum_model.proofs.Counting.{is_among-push}

-- whether each node was marked, or is n
abbrev marked_more : ℕ → List Bool → List ℕ → List Bool
marked_more n [] ms = []
marked_more n (b ∷ bs) [] = []
marked_more n (b ∷ bs) (m ∷ ms) = (b || (n == m)) ∷ marked_more n bs ms

among_more : (n : ℕ) (ns ms : List ℕ) → marked_more n (map (λ m. is_among m ns) ms) ms ≡ map (λ m. is_among m (ns ++ n ∷ [])) ms
among_more n ns [] = refl
among_more n ns (m ∷ ms) = λ i. sym (is_among-push m n ns) i ∷ among_more n ns ms i

-- marks stay right where a node confirms
pub after_right : (n : ℕ) (ns : List ℕ) (s : Marks) → IsRight ns s → IsRight (ns ++ n ∷ []) (marks_after n s)
after_right n ns s r = ap (λ bs. marked_more n bs (nodes_of s)) r ∙ among_more n ns (nodes_of s)

-- of a new set nobody has confirmed
pub new_right : (s : Marks) → s.first ≡ unmarked s.first.node → s.second ≡ unmarked s.second.node → s.third ≡ unmarked s.third.node → IsRight [] s
new_right s a b c i = (a i).is_confirmed ∷ (b i).is_confirmed ∷ (c i).is_confirmed ∷ []

-- two have confirmed exactly where two marks say so
pub two_shown : (nodes : List ℕ) (s : Marks) → IsRight nodes s → has_two s ≡ two_of (nodes_of s) nodes
two_shown nodes s r = ap (λ bs. nat_le 2 (count_by (λ (b : Bool). b) bs)) r
