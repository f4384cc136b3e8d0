-- The last of values in the order of their times has the greatest time.
use Rattle.std.proofs.Common.{◌≡◌, ℕ, suc, ◌-◌, ◌<◌, ◌≤◌, get_or, true, List, [], ◌∷◌, length, Some, None, unwrap_or, slice_get, Less, refl, ap, sym, subst, ◌∙◌, arith}
use Rattle.std.specs.Prelude.{max}
use Rattle.std.specs.Ordering.{nat_cmp}
use Rattle.std.specs.Cmp.{nat_cmp_is}
use Rattle.std.proofs.lemmas.Bool.{ltb-true}
use Rattle.std.proofs.lemmas.Cmp.{ranked}
use Rattle.std.proofs.lemmas.Option.{slice_get-get_or}
use Rattle.crdt_core.specs.Entries.{is_below, is_ascending, entries_from}
use Rattle.crdt_core.specs.EntryLaws.{and_parts, less_is}
use Rattle.k2v_rows.specs.Later.{are_later, greatest_from}

below_is : (a b : ℕ) → nat_cmp a b ≡ Less → a < b
below_is a b e = ranked a b Less (sym e)

module _ {V : Type 0} where
  last_at : (e : ℕ × V) (es : List (ℕ × V)) (x : ℕ × V) → is_ascending nat_cmp (e ∷ es) ≡ true → Some x ≡ slice_get (e ∷ es) (length es) → x.0 ≡ greatest_from 0 (e ∷ es)
  last_at e [] x s g =
      let mine : x ≡ e = ap (λ f. unwrap_or f e) g in
      ap (λ f. f.0) mine ∙ omega arith
  last_at e (f ∷ fs) x s g =
      let parts = and_parts (is_below nat_cmp e.0 (f ∷ fs)) (is_ascending nat_cmp (f ∷ fs)) s in
      let below = below_is e.0 f.0 (less_is (nat_cmp e.0 f.0) parts.0) in
      let rest = last_at f fs x parts.1 g in
      omega (arith, below, rest)

  -- the last time is the greatest
  pub last_time : (es : List (ℕ × V)) (x : ℕ × V) → is_ascending nat_cmp es ≡ true → Some x ≡ slice_get es (length es - 1) → x.0 ≡ greatest_from 0 es
  last_time [] x s g = let no : Some x ≡ None = g in cc
  last_time (e ∷ es) x s g =
      let last : length (e ∷ es) - 1 ≡ length es = omega arith in
      last_at e es x s (subst (λ i. Some x ≡ slice_get (e ∷ es) i) last g)

  pub no_last : (es : List (ℕ × V)) → None ≡ slice_get es (length es - 1) → es ≡ []
  no_last [] g = refl
  no_last (e ∷ es) g =
      let within : length (e ∷ es) - 1 < length (e ∷ es) = omega arith in
      let no : None ≡ Some (get_or (e ∷ es) (length (e ∷ es) - 1) e) = g ∙ slice_get-get_or (e ∷ es) (length (e ∷ es) - 1) e within in cc

  from_zero : (d : ℕ) (e : ℕ × V) (es : List (ℕ × V)) → are_later d (e ∷ es) ≡ true → greatest_from 0 (e ∷ es) ≡ greatest_from d (e ∷ es)
  from_zero d e [] h = let above = ltb-true d e.0 (and_parts _ _ h).0 in omega (arith, above)
  from_zero d e (f ∷ fs) h = ap (max e.0) (from_zero d f fs (and_parts _ _ h).1)

  -- the last of values after d has the greatest time of all, d included
  pub last_of_later : (d : ℕ) (es : List (ℕ × V)) (x : ℕ × V) → is_ascending nat_cmp es ≡ true → are_later d es ≡ true → Some x ≡ slice_get es (length es - 1) → x.0 ≡ greatest_from d es
  last_of_later d [] x s h g = let no : Some x ≡ None = g in cc
  last_of_later d (e ∷ es) x s h g = last_time (e ∷ es) x s g ∙ from_zero d e es h

  -- where the greatest time is at most d, none is later
  pub none_later : (d : ℕ) (es : List (ℕ × V)) → greatest_from 0 es ≤ d → entries_from nat_cmp (suc d) es ≡ []
  none_later d [] le = refl
  none_later d (e ∷ es) le =
      let past : nat_cmp e.0 (suc d) ≡ Less = sym (nat_cmp_is e.0 (suc d) Less (omega (arith, le))) in
      rw past (none_later d es (omega (arith, le)))
