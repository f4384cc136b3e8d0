-- What stands where in sorted lists.
use Rattle.std.proofs.Common.{◌≡◌, ℕ, ◌≤◌, ◌<◌, true, false, List, nat_lt, length, get_or, Ordering, refl, ap, sym, subst, ◌∙◌, arith}
use Rattle.std.specs.declared.cmp.Ordering.TheVariants.{Less, Equal, Greater}
use Rattle.std.specs.Cmp.{IsTotalOrder, ranks}
use Rattle.std.specs.Ordering.{nat_cmp, ordering_index, ordering_then, is_lt, MatchOrdering}
use Rattle.std.proofs.lemmas.Bool.{lt-ltb, le-ltb}
use Rattle.std.specs.List.Sorted.{IsSorted, IsPartitionedBy}
use Rattle.std.proofs.lemmas.List.Sorted.{searchable_from_sorted, sorted_far, ranks_by}
use Rattle.crdt_core.specs.LexLaws.{turned}

module _ {X : Type 0} {cmp : X → X → Ordering} (total : IsTotalOrder cmp) where
  -- what is less than x comes first
  pub less_first : (xs : List X) → IsSorted cmp xs → (x : X) → IsPartitionedBy (λ y. is_lt (cmp y x)) xs
  less_first xs sorted x i j d le lt at =
      lower (cmp (get_or xs i d) x) refl
    where
      rises : ordering_index (cmp (get_or xs i d) x) ≤ ordering_index (cmp (get_or xs j d) x)
      rises = searchable_from_sorted total (λ r. r) xs x sorted i j d le lt

      least : (o : Ordering) → is_lt o ≡ true → ordering_index o ≡ 0
      least Less e = refl
      least Equal e = let no : false ≡ true = e in cc
      least Greater e = let no : false ≡ true = e in cc

      lower : (o : Ordering) → cmp (get_or xs i d) x ≡ o → is_lt o ≡ true
      lower Less e = refl
      lower Equal e = let none = least (cmp (get_or xs j d) x) at in let one : ordering_index (cmp (get_or xs i d) x) ≡ 1 = ap ordering_index e in let up = rises in absurd (omega (arith, none, one, up))
      lower Greater e = let none = least (cmp (get_or xs j d) x) at in let two : ordering_index (cmp (get_or xs i d) x) ≡ 2 = ap ordering_index e in let up = rises in absurd (omega (arith, none, two, up))

  -- a later one isn't less than an earlier one
  pub not_less : (xs : List X) → IsSorted cmp xs → (m n : ℕ) (d : X) → m ≤ n → n < length xs → is_lt (cmp (get_or xs n d) (get_or xs m d)) ≡ false
  not_less xs sorted m n d le lt = sorted_far _ (ranks_by total (λ x. x)) xs sorted m n d le lt

  -- of two neither of which is less, each ties with the other
  pub ties : (x y : X) → is_lt (cmp x y) ≡ false → is_lt (cmp y x) ≡ false → cmp x y ≡ Equal
  ties x y xy yx = by_order (cmp x y) refl
    where
      by_order : (o : Ordering) → cmp x y ≡ o → o ≡ Equal
      by_order Less e = let no : true ≡ false = sym (ap is_lt e) ∙ xy in cc
      by_order Equal e = refl
      by_order Greater e = let no : true ≡ false = sym (ap is_lt (turned total x y Greater e)) ∙ yx in cc

  -- what is less isn't more
  pub less_back : (x y : X) → is_lt (cmp x y) ≡ true → is_lt (cmp y x) ≡ false
  less_back x y xy = by_order (cmp x y) refl
    where
      by_order : (o : Ordering) → cmp x y ≡ o → is_lt (cmp y x) ≡ false
      by_order Less e = ap is_lt (turned total x y Less e)
      by_order Equal e = ap is_lt (turned total x y Equal e)
      by_order Greater e = let no : false ≡ true = sym (ap is_lt e) ∙ xy in cc

-- where two comparisons don't come to less, the first one doesn't, and where it ties, the second one doesn't
pub first_not : (o p : Ordering) → is_lt (ordering_then o p) ≡ false → is_lt o ≡ false
first_not Less p e = e
first_not Equal p e = refl
first_not Greater p e = refl

pub second_not : (o p : Ordering) → is_lt (ordering_then o p) ≡ false → o ≡ Equal → is_lt p ≡ false
second_not o p e same = subst (λ x. is_lt (ordering_then x p) ≡ false) same e

-- the order of numbers is that of their test
pub lt_is : (m t : ℕ) → is_lt (nat_cmp m t) ≡ nat_lt m t
lt_is m t = by_order (nat_cmp m t) refl
  where
    by_order : (r : Ordering) → nat_cmp m t ≡ r → is_lt r ≡ nat_lt m t
    by_order Less e = sym (lt-ltb m t (subst (λ s. MatchOrdering s (m < t) (m ≡ t) (t < m)) e (ranks m t)))
    by_order Equal e = let same : m ≡ t = subst (λ s. MatchOrdering s (m < t) (m ≡ t) (t < m)) e (ranks m t) in let le : t ≤ m = omega arith in sym (le-ltb m t le)
    by_order Greater e = let more : t < m = subst (λ s. MatchOrdering s (m < t) (m ≡ t) (t < m)) e (ranks m t) in let le : t ≤ m = omega arith in sym (le-ltb m t le)
