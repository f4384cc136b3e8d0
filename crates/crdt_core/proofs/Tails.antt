-- A merge of which one side is used up, and lists of no entry or one.
use Rattle.std.proofs.Common.{◌≡◌, ℕ, ◌<◌, ◌≤◌, arith, get_or, ◌⊎◌, List, [], ◌∷◌, ◌++◌, length, drop, refl, sym, ◌∙◌, inl, inr, append-nil, Ordering}
use Rattle.std.proofs.lemmas.List.{drop_all}
use Rattle.crdt_core.specs.Entries.{merged}

module _ {K V : Type 0} (R : K → K → Ordering) (j : V → V → V) where
  pub merged_nil : (xs : List (K × V)) → merged R j xs [] ≡ xs
  merged_nil [] = refl
  merged_nil (x ∷ xs) = refl

  -- what is left of one side is all that is left of the merge
  pub merged_tails : (xs ys : List (K × V)) (i k : ℕ) → (length xs ≤ i) ⊎ (length ys ≤ k) → drop i xs ++ drop k ys ≡ merged R j (drop i xs) (drop k ys)
  merged_tails xs ys i k (inl h) = rw (drop_all i xs h) refl
  merged_tails xs ys i k (inr h) = rw (drop_all k ys h) (append-nil (drop i xs) ∙ sym (merged_nil (drop i xs)))

pub no_entries : {X : Type 0} (xs : List X) → length xs < 1 → xs ≡ []
no_entries [] h = refl
no_entries (x ∷ xs) h = absurd (omega arith)

-- a list of one entry, whose parts were read one by one
pub one_entry : {K V : Type 0} (es : List (K × V)) (e f : K × V) → 1 ≤ length es → length es < 2 → e ≡ get_or es 0 e → f ≡ get_or es 0 f → (e.0, f.1) ∷ [] ≡ es
one_entry [] e f a b h k = absurd (omega arith)
one_entry (x ∷ []) e f a b h k = λ i. ((h i).0, (k i).1) ∷ []
one_entry (x ∷ y ∷ es) e f a b h k = absurd (omega arith)
