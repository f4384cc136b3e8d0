-- What a write at a key's place does.
use Rattle.std.proofs.Common.{◌≡◌, ℕ, zero, suc, List, [], ◌∷◌, drop, get_or, set, true, refl, sym, ap, arith, Ordering, Less, Result, Ok, Err, OnOk, OnErr, Some, None, unwrap_or, slice_get, is_lt, ◌&&◌, false, Equal, Greater, ◌∙◌}
use Rattle.std.specs.List.{insert}
use Rattle.std.specs.Cmp.{IsTotalOrder, tied_back}
use Rattle.crdt_core.specs.LexLaws.{turned}
use Rattle.crdt_core.specs.Entries.{is_below, is_ascending, value_at, entries_from, merged}
use Rattle.crdt_core.specs.EntryLaws.{and_parts, less_is, ascending_merged}
use Rattle.crdt_core.specs.Places.{IsAt, IsGap}
use Rattle.crdt_core.proofs.Tails.{merged_nil}

module _ {K : Type 0} {R : K → K → Ordering} (o : IsTotalOrder R) (k : K) where
  above_next : (a b : K) → R a b ≡ Less → (r : Ordering) → R a k ≡ r → is_lt r ≡ false → R b k ≡ Greater
  above_next a b e Less p h = cc
  above_next a b e Equal p h = turned o k b Less (sym (o.congr a k b p) ∙ e)
  above_next a b e Greater p h = turned o k b Less (o.trans k a b (turned o a k Greater p) e)

module _ {K V : Type 0} (R : K → K → Ordering) (k : K) where
  module _ (j : V → V → V) (v : V) where
    -- the value at the key's place joins with the new one
    pub merged_at : (es : List (K × V)) (i : ℕ) (e : K × V) → IsAt R k es i → e ≡ get_or es i e → merged R j es ((k, v) ∷ []) ≡ set es i (e.0, j e.1 v)
    merged_at [] i e h read = absurd (omega (arith, h.in_range))
    merged_at (x ∷ es) zero e h read = rw (h.equal e, read, merged_nil R j es) refl
    merged_at (x ∷ es) (suc i) e h read =
        let rest : IsAt R k es i = record { in_range = omega (arith, h.in_range); below = h.below.1; equal = h.equal } in
        rw h.below.0 (ap (λ fs. x ∷ fs) (merged_at es i e rest read))

    -- so it does where it is joined in place
    pub merged_set : (es : List (K × V)) (i : ℕ) (e : K × V) (w : V) → IsAt R k es i → e ≡ get_or es i e → w ≡ j e.1 v → set es i (e.0, w) ≡ merged R j es ((k, v) ∷ [])
    merged_set es i e w h read joined = rw joined (sym (merged_at es i e h read))

    -- a new entry goes into its gap
    pub merged_gap : (es : List (K × V)) (i : ℕ) → IsGap R k es i → merged R j es ((k, v) ∷ []) ≡ insert es i (k, v)
    merged_gap [] zero h = refl
    merged_gap [] (suc i) h = absurd (omega (arith, h.in_range))
    merged_gap (x ∷ es) zero h = rw h.above refl
    merged_gap (x ∷ es) (suc i) h =
        let rest : IsGap R k es i = record { in_range = omega (arith, h.in_range); below = h.below.1; above = h.above } in
        rw h.below.0 (ap (λ fs. x ∷ fs) (merged_gap es i rest))

  -- the value at the key's place is the one that the entries have
  pub value_at-place : (es : List (K × V)) (i : ℕ) (e : K × V) → IsTotalOrder R → IsAt R k es i → e ≡ get_or es i e → value_at R k es ≡ Some e.1
  value_at-place [] i e o h read = absurd (omega (arith, h.in_range))
  value_at-place (x ∷ es) zero e o h read = rw (tied_back o x.0 k (h.equal x), ← read) refl
  value_at-place (x ∷ es) (suc i) e o h read =
      let rest : IsAt R k es i = record { in_range = omega (arith, h.in_range); below = h.below.1; equal = h.equal } in
      rw (turned o x.0 k Less h.below.0) (value_at-place es i e o rest read)

  -- a key that would go into a gap has no value
  pub value_at-gap : (es : List (K × V)) (i : ℕ) → IsTotalOrder R → IsGap R k es i → value_at R k es ≡ None
  value_at-gap [] i o h = refl
  value_at-gap (x ∷ es) zero o h = rw (turned o x.0 k Greater h.above) refl
  value_at-gap (x ∷ es) (suc i) o h =
      let rest : IsGap R k es i = record { in_range = omega (arith, h.in_range); below = h.below.1; above = h.above } in
      rw (turned o x.0 k Less h.below.0) (value_at-gap es i o rest)

  module _ (o : IsTotalOrder R) where
    -- where the first key is not smaller, none is
    from_all : (e : K × V) (es : List (K × V)) → is_ascending R (e ∷ es) ≡ true → is_lt (R e.0 k) ≡ false → e ∷ es ≡ entries_from R k (e ∷ es)
    from_all e [] s h = rw h refl
    from_all e (f ∷ fs) s h =
        let next = above_next o k e.0 f.0 (less_is (R e.0 f.0) (and_parts _ _ s).0) (R e.0 k) refl h in
        rw h (ap (λ gs. e ∷ gs) (from_all f fs (and_parts _ _ s).1 (ap is_lt next)))

    -- what is left from the key's place on are the entries that are not smaller
    pub from_at : (es : List (K × V)) (i : ℕ) → is_ascending R es ≡ true → IsAt R k es i → drop i es ≡ entries_from R k es
    from_at [] i s h = absurd (omega (arith, h.in_range))
    from_at (x ∷ es) zero s h = from_all x es s (ap is_lt (h.equal x))
    from_at (x ∷ es) (suc i) s h = rw h.below.0 (from_at es i (and_parts _ _ s).1 (record { in_range = omega (arith, h.in_range); below = h.below.1; equal = h.equal }))

    pub from_gap : (es : List (K × V)) (i : ℕ) → is_ascending R es ≡ true → IsGap R k es i → drop i es ≡ entries_from R k es
    from_gap [] zero s h = refl
    from_gap [] (suc i) s h = absurd (omega (arith, h.in_range))
    from_gap (x ∷ es) zero s h = from_all x es s (ap is_lt h.above)
    from_gap (x ∷ es) (suc i) s h = rw h.below.0 (from_gap es i (and_parts _ _ s).1 (record { in_range = omega (arith, h.in_range); below = h.below.1; above = h.above }))

-- what is read at a place
pub read_some : {X : Type 0} (es : List X) (i : ℕ) (e : X) → slice_get es i ≡ Some e → e ≡ get_or es i e
read_some [] i e h = refl
read_some (x ∷ es) zero e h = ap (λ o. unwrap_or o e) (sym h)
read_some (x ∷ es) (suc i) e h = read_some es i e h

module _ {K V : Type 0} (R : K → K → Ordering) (e : K × V) (w : V) where
  below_set : (k : K) (es : List (K × V)) (i : ℕ) → slice_get es i ≡ Some e → is_below R k (set es i (e.0, w)) ≡ is_below R k es
  below_set k [] i h = refl
  below_set k (x ∷ es) zero h = ap (λ o. is_lt (R k (unwrap_or o e).0)) (sym h)
  below_set k (x ∷ es) (suc i) h = refl

  -- a new value under an old key keeps the order
  pub ascending_set : (es : List (K × V)) (i : ℕ) → slice_get es i ≡ Some e → is_ascending R (set es i (e.0, w)) ≡ is_ascending R es
  ascending_set [] i h = refl
  ascending_set (x ∷ es) zero h = ap (λ o. is_below R (unwrap_or o e).0 es && is_ascending R es) (sym h)
  ascending_set (x ∷ es) (suc i) h = λ t. below_set x.0 es i h t && ascending_set es i h t

-- merging one entry in keeps the order
pub ascending_merged_one : {K V : Type 0} {R : K → K → Ordering} → IsTotalOrder R → (j : V → V → V) (es : List (K × V)) (k : K) (v : V) → is_ascending R es ≡ true → is_ascending R (merged R j es ((k, v) ∷ [])) ≡ true
ascending_merged_one o j es k v h = ascending_merged o j es ((k, v) ∷ []) h refl

-- what is left of entries in order is in order
pub ascending_drop : {K V : Type 0} (R : K → K → Ordering) (es : List (K × V)) (i : ℕ) → is_ascending R es ≡ true → is_ascending R (drop i es) ≡ true
ascending_drop R es zero h = h
ascending_drop R [] (suc i) h = h
ascending_drop R (x ∷ es) (suc i) h = ascending_drop R es i (and_parts (is_below R x.0 es) (is_ascending R es) h).1

-- what follows from either outcome
pub by_result : {A E P Q C : Type 0} (r : Result A E) → OnOk r P → OnErr r Q → (P → C) → (Q → C) → C
by_result (Ok x) p q f g = f p
by_result (Err e) p q f g = g q

-- a fact holds at an error too
pub on_err : {A E P : Type 0} (r : Result A E) → P → OnErr r P
on_err (Ok x) p = tt
on_err (Err e) p = p
