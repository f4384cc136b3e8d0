-- Texts with a byte between them.
use Rattle.std.proofs.Common.{◌≡◌, ℕ, ◌+◌, ◌<◌, List, [], ◌∷◌, ◌++◌, length, drop, get_or, sym, ap, ◌∙◌}
use Rattle.std.specs.List.{join_with_byte}
use Rattle.std.proofs.lemmas.List.{append_assoc, drop_more}

-- the first two texts may be joined before the others
join_step : (c : ℕ) (a b : List ℕ) (texts : List (List ℕ)) → join_with_byte c ((a ++ c ∷ [] ++ b) ∷ texts) ≡ join_with_byte c (a ∷ b ∷ texts)
join_step c a b [] = append_assoc a (c ∷ []) b
join_step c a b (text ∷ texts) =
    ap (λ front. front ++ (c ∷ join_with_byte c (text ∷ texts))) (append_assoc a (c ∷ []) b) ∙ append_assoc a (c ∷ b) (c ∷ join_with_byte c (text ∷ texts))

-- the same, where the second text is the next of a list
pub join_next : (c : ℕ) (a : List ℕ) (texts : List (List ℕ)) (i : ℕ) (b d : List ℕ) → i < length texts → b ≡ get_or texts i d →
    join_with_byte c ((a ++ c ∷ [] ++ b) ∷ drop (i + 1) texts) ≡ join_with_byte c (a ∷ drop i texts)
join_next c a texts i b d within is =
    join_step c a b (drop (i + 1) texts) ∙ ap (λ rest. join_with_byte c (a ∷ rest)) (ap (λ x. x ∷ drop (i + 1) texts) is ∙ sym (drop_more texts i d within))
