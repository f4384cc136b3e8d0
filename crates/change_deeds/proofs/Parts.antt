-- Lists of what is done, put together.
use Rattle.std.proofs.Common.{◌≡◌, ℕ, List, [], ◌∷◌, ◌++◌, refl, ◌∙◌, ap, append_assoc}
use Rattle.cluster_machine.specs.Phases.{with_node, in_order}
use Rattle.store_model.specs.Acts.{Act}
use Rattle.change_deeds.specs.Deeds.{with_nodes}

-- the parts of a change past its apply, one behind the other
pub all_parts : (a b c d e f g h last : List Act) (one : Act) →
    ((((((a ++ (b ++ c)) ++ d) ++ one ∷ []) ++ e) ++ (f ++ g)) ++ h) ++ last ≡ a ++ (b ++ (c ++ (d ++ (one ∷ (e ++ (f ++ (g ++ (h ++ last))))))))
all_parts a b c d e f g h last one =
    let x1 = a ++ (b ++ c) in
    let x2 = x1 ++ d in
    let x3 = x2 ++ one ∷ [] in
    let x4 = x3 ++ e in
    let x5 = x4 ++ (f ++ g) in
    let t1 = f ++ (g ++ (h ++ last)) in
    let t2 = one ∷ (e ++ t1) in
    append_assoc x5 h last
    ∙ (append_assoc x4 (f ++ g) (h ++ last)
    ∙ (ap (λ y. x4 ++ y) (append_assoc f g (h ++ last))
    ∙ (append_assoc x3 e t1
    ∙ (append_assoc x2 (one ∷ []) (e ++ t1)
    ∙ (append_assoc x1 d t2
    ∙ (append_assoc a (b ++ c) (d ++ t2)
    ∙ ap (λ y. a ++ y) (append_assoc b c (d ++ t2))))))))

-- nodes in order are put in one after the other
in_order_is : (ys : List ℕ) → in_order ys ≡ with_nodes ys []
in_order_is [] = refl
in_order_is (y ∷ ys) = ap (with_node y) (in_order_is ys)

pub in_order_both : (xs ys : List ℕ) → in_order (xs ++ ys) ≡ with_nodes xs (with_nodes ys [])
in_order_both [] ys = in_order_is ys
in_order_both (x ∷ xs) ys = ap (with_node x) (in_order_both xs ys)
