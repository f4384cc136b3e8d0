-- What more confirmations, repeated ones and those of other nodes change.
use Rattle.std.proofs.Common.{◌≡◌, ℕ, ◌≤◌, ◌+◌, ◌-◌, Bool, true, false, cond, ◌&&◌, ◌||◌, ◌==◌, List, [], ◌∷◌, ◌++◌, drop, refl, sym, ap, ◌∙◌, arith}
use Rattle.std.specs.Prelude.{nat_le, count_by, IsTrue, All}
use Rattle.std.specs.List.{AllByRecursion, list_all}
use Rattle.std.proofs.lemmas.Bool.Decides.{nat_tests}
use Rattle.std.proofs.lemmas.List.Sums.{sum_by-cons, AllPass-from_list_all, list_all-from_AllPass}
use Rattle.std.proofs.lemmas.List.Elements.{All-drop, recursion_from_All}
use Rattle.std.proofs.lemmas.List.Folds.{list_any-append}
use Rattle.std.proofs.Math.Bool.{or-false}
use Rattle.std.proofs.lemmas.Bool.{or_parts, le-leb, leb-true}
use Rattle.quorum_model.specs.Quorum.{is_among, two_of, is_some_set, reached}
use Rattle.crdt_core.proofs.Each.{all_weaker}

or_left : (a b : Bool) → IsTrue a → IsTrue (a || b)
or_left true b h = refl
or_left false b h = cc

pub is_among-append : (m : ℕ) (ns later : List ℕ) → is_among m (ns ++ later) ≡ (is_among m ns || is_among m later)
is_among-append m ns later = list_any-append (λ k. k == m) ns later

pub is_among-push : (m n : ℕ) (ns : List ℕ) → is_among m (ns ++ n ∷ []) ≡ (is_among m ns || (n == m))
is_among-push m n ns = is_among-append m ns (n ∷ []) ∙ ap (λ b. is_among m ns || b) (or-false (n == m))

among_more : (m : ℕ) (ns later : List ℕ) → IsTrue (is_among m ns) → IsTrue (is_among m (ns ++ later))
among_more m ns later h = rw (is_among-append m ns later) (or_left (is_among m ns) (is_among m later) h)

-- where each test passes that passed, no fewer are counted
count_more : (p q : ℕ → Bool) → ((x : ℕ) → IsTrue (p x) → IsTrue (q x)) → (xs : List ℕ) → count_by p xs ≤ count_by q xs
count_more p q h [] = omega arith
count_more p q h (x ∷ xs) =
    let rest = count_more p q h xs in
    rw (sum_by-cons (λ y. cond (p y) 1 0) x xs, sum_by-cons (λ y. cond (q y) 1 0) x xs)
    (elim (p x) as (λ b. p x ≡ b → cond b 1 0 + count_by p xs ≤ cond (q x) 1 0 + count_by q xs) [
      | true ↦ λ e. rw (h x e) (omega (arith, rest))
      | false ↦ λ e. elim (q x) as (λ b. cond false 1 0 + count_by p xs ≤ cond b 1 0 + count_by q xs) [ true ↦ omega (arith, rest) | false ↦ omega (arith, rest) ]
    ] refl)

-- tests that agree on the elements count the same
count_same : (p q : ℕ → Bool) (xs : List ℕ) → AllByRecursion (λ x. p x ≡ q x) xs → count_by p xs ≡ count_by q xs
count_same p q [] h = refl
count_same p q (x ∷ xs) h =
    sum_by-cons (λ y. cond (p y) 1 0) x xs ∙ rw (h.0, count_same p q xs h.1) (sym (sum_by-cons (λ y. cond (q y) 1 0) x xs))

two_more : (set ns later : List ℕ) → IsTrue (two_of set ns) → IsTrue (two_of set (ns ++ later))
two_more set ns later h =
    let before = leb-true 2 (count_by (λ n. is_among n ns) set) h in
    let more = count_more (λ n. is_among n ns) (λ n. is_among n (ns ++ later)) (λ x. among_more x ns later) set in
    le-leb 2 (count_by (λ n. is_among n (ns ++ later)) set) (omega (arith, before, more))

-- a test that is kept set by set
all_kept : (p q : List ℕ → Bool) → ((x : List ℕ) → IsTrue (p x) → IsTrue (q x)) → (xs : List (List ℕ)) → IsTrue (list_all p xs) → IsTrue (list_all q xs)
all_kept p q h xs t =
    let each = AllPass-from_list_all p xs t in
    list_all-from_AllPass q xs (λ k d lt. h _ (each k d lt))

-- a test that is the same set by set
all_same : (p q : List ℕ → Bool) (xs : List (List ℕ)) → AllByRecursion (λ x. p x ≡ q x) xs → list_all p xs ≡ list_all q xs
all_same p q [] h = refl
all_same p q (x ∷ xs) h = rw (h.0, all_same p q xs h.1) refl

and_right : (a b c : Bool) → (IsTrue b → IsTrue c) → IsTrue (a && b) → IsTrue (a && c)
and_right true b c h t = h t
and_right false b c h t = cc

pub reached_more : (first from : ℕ) (sets : List (List ℕ)) (nodes later : List ℕ) → IsTrue (reached first sets nodes from) → IsTrue (reached first sets (nodes ++ later) from)
reached_more first from sets nodes later h =
    let asked = drop (from - first) sets in
    and_right (is_some_set asked) (list_all (λ set. two_of set nodes) asked) (list_all (λ set. two_of set (nodes ++ later)) asked)
    (all_kept (λ set. two_of set nodes) (λ set. two_of set (nodes ++ later)) (λ set. two_more set nodes later) asked) h

each_of : {X : Type 0} (P : X → Type 0) → ((x : X) → P x) → (xs : List X) → AllByRecursion P xs
each_of P h [] = tt
each_of P h (x ∷ xs) = (h x, each_of P h xs)

-- where two lists of nodes give each set that is asked the same two
same_reached : (first from : ℕ) (sets : List (List ℕ)) (nodes others : List ℕ) → AllByRecursion (λ set. two_of set nodes ≡ two_of set others) (drop (from - first) sets) → reached first sets nodes from ≡ reached first sets others from
same_reached first from sets nodes others h =
    ap (λ b. is_some_set (drop (from - first) sets) && b) (all_same (λ set. two_of set nodes) (λ set. two_of set others) (drop (from - first) sets) h)

among_other : (node m : ℕ) (ns : List ℕ) → (node == m) ≡ false → is_among m (ns ++ node ∷ []) ≡ is_among m ns
among_other node m ns e = is_among-push m node ns ∙ rw e (or-false (is_among m ns))

same_node : (a b : ℕ) → (a == b) ≡ true → a ≡ b
same_node a b e = grind (arith, nat_tests)

among_again : (node m : ℕ) (ns : List ℕ) → IsTrue (is_among node ns) → is_among m (ns ++ node ∷ []) ≡ is_among m ns
among_again node m ns h =
    elim (node == m) as (λ b. (node == m) ≡ b → is_among m (ns ++ node ∷ []) ≡ is_among m ns) [
      | true ↦ λ e. let is : IsTrue (is_among m ns) = rw (sym (same_node node m e)) h in among_more m ns (node ∷ []) is ∙ sym is
      | false ↦ λ e. among_other node m ns e
    ] refl

pub reached_again : (first from node : ℕ) (sets : List (List ℕ)) (nodes : List ℕ) → IsTrue (is_among node nodes) → reached first sets (nodes ++ node ∷ []) from ≡ reached first sets nodes from
reached_again first from node sets nodes h =
    same_reached first from sets (nodes ++ node ∷ []) nodes
    (each_of _ (λ set. ap (nat_le 2) (count_same _ _ set (each_of _ (λ m. among_again node m nodes h) set))) (drop (from - first) sets))

unequal : (a b : ℕ) → (a == b) ≡ false → (b == a) ≡ false
unequal a b e = grind (arith, nat_tests)

-- a node outside the set is none of its nodes
among_outside : (node : ℕ) (nodes set : List ℕ) → is_among node set ≡ false → AllByRecursion (λ m. is_among m (nodes ++ node ∷ []) ≡ is_among m nodes) set
among_outside node nodes [] e = tt
among_outside node nodes (x ∷ set) e =
    let sides = or_parts (x == node) (is_among node set) e in
    (among_other node x nodes (unequal x node sides.0), among_outside node nodes set sides.1)

pub reached_stranger : (first from node : ℕ) (sets : List (List ℕ)) (nodes : List ℕ) → All (λ set. is_among node set ≡ false) sets → reached first sets (nodes ++ node ∷ []) from ≡ reached first sets nodes from
reached_stranger first from node sets nodes h =
    let later = recursion_from_All (λ set. is_among node set ≡ false) (drop (from - first) sets) (All-drop (λ set. is_among node set ≡ false) (from - first) sets h) in
    same_reached first from sets (nodes ++ node ∷ []) nodes
    (all_weaker _ (λ set. two_of set (nodes ++ node ∷ []) ≡ two_of set nodes) (λ set e. ap (nat_le 2) (count_same _ _ set (among_outside node nodes set e))) (drop (from - first) sets) later)
