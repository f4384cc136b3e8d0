-- Parameters in order.
use Rattle.std.proofs.Common.{◌≡◌, ℕ, ◌+◌, List, [], ◌∷◌, ◌++◌, map, cond, refl, sym, ap, ◌∙◌, subst, arith}
use Rattle.std.specs.Prelude.{◌||◌, ◌&&◌}
use Rattle.std.specs.List.Sorted.{IsSorted, IsPermutation}
use Rattle.std.specs.Ordering.{is_lt, is_eq, nat_cmp, ordering_then, then_cmp, on}
use Rattle.std.specs.declared.cmp.Ordering.{Ordering}
use Rattle.std.specs.declared.cmp.Ordering.TheVariants.{Less, Equal, Greater}
use Rattle.std.specs.Cmp.{IsTotalOrder, then_total}
use Rattle.std.specs.Cmp.Lexicographic.{slice_cmp, on_texts, texts_ties, same_text}
use Rattle.std.proofs.lemmas.List.Sorted.{sum_by-IsPermutation}
use Rattle.sig_request.specs.declared.query.Parameter.{Parameter}
use Rattle.sig_request.specs.Texts.{is_less}
use Rattle.sig_request.specs.Query.{parameter_of, comes_before, put_parameter, parameters_after}
use Rattle.sig_request.proofs.Sorting as sorting
use Rattle.sig_request.proofs.Sorting.{sum, sum_is}

-- by name, and then by value
abbrev pub order : Parameter → Parameter → Ordering
order = then_cmp (on (λ p. p.name) (slice_cmp nat_cmp)) (on (λ p. p.value) (slice_cmp nat_cmp))

total : IsTotalOrder order
total = then_total (on_texts (λ (p : Parameter). p.name)) (on_texts (λ (p : Parameter). p.value))

text_of : (a b : List ℕ) → slice_cmp nat_cmp a b ≡ Equal → a ≡ b
text_of a b e = same_text a b (sym (texts_ties a b ∙ ap is_eq e))

equal_parts : (r s : Ordering) → ordering_then r s ≡ Equal → (r ≡ Equal) × (s ≡ Equal)
equal_parts Less s e = cc
equal_parts Equal s e = (refl, e)
equal_parts Greater s e = cc

one : (x y : Parameter) → order x y ≡ Equal → x ≡ y
one x y e =
    let parts = equal_parts (slice_cmp nat_cmp x.name y.name) (slice_cmp nat_cmp x.value y.value) e in
    let name = text_of x.name y.name parts.0 in
    let value = text_of x.value y.value parts.1 in
    λ i. record { name = name i; value = value i }

tested : (r s : Ordering) → is_lt (ordering_then r s) ≡ (is_lt r || (is_eq r && is_lt s))
tested Less s = refl
tested Equal s = refl
tested Greater s = refl

before_is : (x y : Parameter) → is_lt (order x y) ≡ comes_before x y
before_is x y =
    tested (slice_cmp nat_cmp x.name y.name) (slice_cmp nat_cmp x.value y.value)
    ∙ ap (λ b. is_less x.name y.name || (b && is_less x.value y.value)) (sym (texts_ties x.name y.name))

put_is : (ys : List Parameter) (x : Parameter) → put_parameter ys x ≡ sorting.put order total one ys x
put_is [] x = refl
put_is (y ∷ ys) x =
    ap (λ b. cond b (x ∷ y ∷ ys) (y ∷ put_parameter ys x)) (sym (before_is x y))
    ∙ ap (λ zs. cond (is_lt (order x y)) (x ∷ y ∷ ys) (y ∷ zs)) (put_is ys x)

abbrev Ascends : List Parameter → Type 0
Ascends = sorting.Ascends order total one

after_ascends : (before : List Parameter) (words : List (List ℕ)) → Ascends before → Ascends (parameters_after before words)
after_ascends before [] h = h
after_ascends before (word ∷ words) h =
    after_ascends (put_parameter before (parameter_of word)) words (subst Ascends (sym (put_is before (parameter_of word))) (sorting.put_ascends order total one before (parameter_of word) h))

moved : (a b c : ℕ) → a + b + c ≡ b + (a + c)
moved a b c = omega arith

after_sums : (f : Parameter → ℕ) (before : List Parameter) (words : List (List ℕ)) → sum f (parameters_after before words) ≡ sum f before + sum f (map parameter_of words)
after_sums f before [] = let none : sum f before + 0 ≡ sum f before = omega arith in sym none
after_sums f before (word ∷ words) =
    let p = parameter_of word in
    after_sums f (put_parameter before p) words
    ∙ ap (λ n. n + sum f (map parameter_of words)) (ap (sum f) (put_is before p) ∙ sorting.put_sums order total one f before p)
    ∙ moved (f p) (sum f before) (sum f (map parameter_of words))

none_before : (n : ℕ) → n ≡ 0 + n
none_before n = omega arith

-- the parameters of words, once they are sorted, are those that are put in their places one by one
pub sorted_is : (words : List (List ℕ)) (sorted : List Parameter) → IsPermutation (map parameter_of words) sorted → IsSorted order sorted → sorted ≡ parameters_after [] words
sorted_is words sorted same in_order =
    sorting.one_list order total one sorted (parameters_after [] words) (sorting.ascends order total one sorted (λ k d low within. in_order k d low within)) (after_ascends [] words tt)
    (λ f. sym (sum_is f sorted) ∙ sum_by-IsPermutation f (map parameter_of words) sorted same ∙ sum_is f (map parameter_of words) ∙ none_before (sum f (map parameter_of words)) ∙ sym (after_sums f [] words))
