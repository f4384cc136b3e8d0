-- Entries in order of hashes are one list where each hash has one value in both.
use Rattle.std.proofs.Common.{◌≡◌, ℕ, true, false, cond, List, [], ◌∷◌, Some, None, refl, sym, ap, ◌∙◌}
use Rattle.std.specs.List.Sorted.{IsStrictlySortedBy}
use Rattle.std.specs.Map.{keys_of, lookup}
use Rattle.std.specs.Cmp.{tied_itself, eq_by_cmp_equiv}
use Rattle.std.specs.declared.cmp.Ordering.TheVariants.{Less, Equal, Greater}
use Rattle.std.proofs.lemmas.Map.{lookup-none}
use Rattle.std.proofs.lemmas.Map.Entries.{lookup_tail, none_past_head, none_below_head}
use Rattle.std.proofs.lemmas.Map.Keys.{sorted_tail, IsDistinct-from_sorted}
use Rattle.std.proofs.lemmas.Option.{same_Some}
use Rattle.blake2_hash.specs.declared.digest.Hash32.{Hash32}
use Rattle.blake2_hash.specs.Hash.{hash_cmp, is_hash}
use Rattle.blake2_hash.specs.HashLaws.{hash_total, hash_identical}
use Rattle.block_store.proofs.Showing.{less_back}

abbrev Ascends : List (Hash32 × ℕ) → Type 0
Ascends es = IsStrictlySortedBy hash_cmp (keys_of es)

at_head : (x : Hash32 × ℕ) (xs : List (Hash32 × ℕ)) → lookup (is_hash x.0) (x ∷ xs) ≡ Some x.1
at_head x xs =
    let here : is_hash x.0 x.0 ≡ true = rw (tied_itself hash_total x.0) refl in
    ap (λ b. cond b (Some x.1) (lookup (is_hash x.0) xs)) here

module _ (x y : Hash32 × ℕ) (xs ys : List (Hash32 × ℕ)) (s : Ascends (x ∷ xs)) (t : Ascends (y ∷ ys)) (h : (q : Hash32) → lookup (is_hash q) (x ∷ xs) ≡ lookup (is_hash q) (y ∷ ys)) where
  heads : x.0 ≡ y.0
  heads =
      elim (hash_cmp x.0 y.0) as (λ r. hash_cmp x.0 y.0 ≡ r → x.0 ≡ y.0) [
        | Less ↦ λ e. let no : Some x.1 ≡ None = sym (at_head x xs) ∙ (h x.0 ∙ lookup-none (is_hash x.0) (y ∷ ys) (none_below_head hash_total x.0 y ys t e)) in cc
        | Equal ↦ λ e. hash_identical x.0 y.0 e
        | Greater ↦ λ e. let no : None ≡ Some y.1 = sym (lookup-none (is_hash y.0) (x ∷ xs) (none_below_head hash_total y.0 x xs s (less_back x.0 y.0 e))) ∙ (h y.0 ∙ at_head y ys) in cc
      ] refl

  values : x.1 ≡ y.1
  values = same_Some x.1 y.1 (sym (at_head x xs) ∙ (h x.0 ∙ (ap (λ k. lookup (is_hash k) (y ∷ ys)) heads ∙ at_head y ys)))

  tails : (q : Hash32) → lookup (is_hash q) xs ≡ lookup (is_hash q) ys
  tails q =
      elim (is_hash q x.0) as (λ b. is_hash q x.0 ≡ b → lookup (is_hash q) xs ≡ lookup (is_hash q) ys) [
        | true ↦ λ e.
            lookup-none (is_hash q) xs (none_past_head (eq_by_cmp_equiv hash_total) q x xs (IsDistinct-from_sorted hash_cmp (keys_of (x ∷ xs)) s) e)
            ∙ sym (lookup-none (is_hash q) ys (none_past_head (eq_by_cmp_equiv hash_total) q y ys (IsDistinct-from_sorted hash_cmp (keys_of (y ∷ ys)) t) (ap (is_hash q) (sym heads) ∙ e)))
        | false ↦ λ e.
            sym (lookup_tail (is_hash q) x xs e) ∙ (h q ∙ lookup_tail (is_hash q) y ys (ap (is_hash q) (sym heads) ∙ e))
      ] refl

pub same_entries : (es fs : List (Hash32 × ℕ)) → IsStrictlySortedBy hash_cmp (keys_of es) → IsStrictlySortedBy hash_cmp (keys_of fs) → ((q : Hash32) → lookup (is_hash q) es ≡ lookup (is_hash q) fs) → es ≡ fs
same_entries [] [] s t h = refl
same_entries [] (y ∷ ys) s t h = let no : None ≡ Some y.1 = h y.0 ∙ at_head y ys in cc
same_entries (x ∷ xs) [] s t h = let no : Some x.1 ≡ None = sym (at_head x xs) ∙ h x.0 in cc
same_entries (x ∷ xs) (y ∷ ys) s t h =
    let rest = same_entries xs ys (sorted_tail hash_cmp x.0 (keys_of xs) s) (sorted_tail hash_cmp y.0 (keys_of ys) t) (tails x y xs ys s t h) in
    λ i. (heads x y xs ys s t h i, values x y xs ys s t h i) ∷ rest i
