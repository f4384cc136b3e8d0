-- Laws that impls cite; no definition stands here.
-- What passes a test goes on passing it where entries are left out or merged.
use Rattle.std.specs.Prelude.{◌≡◌, Bool, true, false, cond, not, List, [], ◌∷◌, Option, Some, None, refl}
use Rattle.std.specs.declared.cmp.Ordering.{Ordering}
use Rattle.std.specs.declared.cmp.Ordering.TheVariants.{Less, Equal, Greater}
use Rattle.std.specs.Ordering.{is_lt}
use Rattle.crdt_core.specs.Entries.{entries_from, merged}
use Rattle.crdt_core.specs.EntryLaws.{and_parts, and_both}
use Rattle.crdt_rows.specs.Newest.{kept}
use Rattle.crdt_rows.specs.Each.{passes}

module _ {K V : Type 0} (R : K → K → Ordering) (test : V → Bool) where
  cond_passes : (e : K × V) (es : List (K × V)) (b : Bool) → test e.1 ≡ true → passes test es ≡ true → passes test (cond b (e ∷ es) es) ≡ true
  cond_passes e es true p q = and_both _ _ p q
  cond_passes e es false p q = q

  from_passes : (k : K) (es : List (K × V)) → passes test es ≡ true → passes test (entries_from R k es) ≡ true
  from_passes k [] h = refl
  from_passes k (e ∷ es) h =
      let parts = and_parts (test e.1) (passes test es) h in
      cond_passes e (entries_from R k es) (not (is_lt (R e.0 k))) parts.0 (from_passes k es parts.1)

  pub kept_passes : (n : Option K) (es : List (K × V)) → passes test es ≡ true → passes test (kept R n es) ≡ true
  kept_passes None es h = h
  kept_passes (Some k) es h = from_passes k es h

  module _ (j : V → V → V) (closed : (a b : V) → test a ≡ true → test b ≡ true → test (j a b) ≡ true) where
    merged_by : (x y : K × V) (xs ys : List (K × V)) (r : Ordering) → R x.0 y.0 ≡ r → test x.1 ≡ true → test y.1 ≡ true → passes test (merged R j xs (y ∷ ys)) ≡ true → passes test (merged R j xs ys) ≡ true → passes test (merged R j (x ∷ xs) ys) ≡ true → passes test (merged R j (x ∷ xs) (y ∷ ys)) ≡ true
    merged_by x y xs ys Less e p q a b c = rw e (and_both _ _ p a)
    merged_by x y xs ys Equal e p q a b c = rw e (and_both _ _ (closed x.1 y.1 p q) b)
    merged_by x y xs ys Greater e p q a b c = rw e (and_both _ _ q c)

    pub merged_passes : (xs ys : List (K × V)) → passes test xs ≡ true → passes test ys ≡ true → passes test (merged R j xs ys) ≡ true
    merged_passes [] ys p q = q
    merged_passes (x ∷ xs) [] p q = p
    merged_passes (x ∷ xs) (y ∷ ys) p q =
        let left = and_parts (test x.1) (passes test xs) p in
        let right = and_parts (test y.1) (passes test ys) q in
        merged_by x y xs ys (R x.0 y.0) refl left.0 right.0 (merged_passes xs (y ∷ ys) left.1 q) (merged_passes xs ys left.1 right.1) (merged_passes (x ∷ xs) ys p right.1)
