-- What a set of names finds when it gets one more.
use Rattle.std.specs.Prelude.{◌≡◌, ℕ, ◌||◌, Bool, true, false, List, [], ◌∷◌, Vec, refl}
use Rattle.std.proofs.Common.{ap, sym, ◌∙◌}
use Rattle.std.specs.List.{list_any}
use Rattle.std.specs.BTreeMap.{is_at}
use Rattle.std.specs.BTreeSet.{insert_key}
use Rattle.std.specs.declared.cmp.Ordering.{Ordering}
use Rattle.std.specs.declared.cmp.Ordering.TheVariants.{Less, Equal, Greater}
use Rattle.std.specs.Ordering.{nat_cmp, is_eq, match_ordering}
use Rattle.std.specs.Cmp.Lexicographic.{slice_cmp}
use Rattle.crdt_core.specs.IdentityLaws.{slice_identical, nat_identical}

twice : (b c : Bool) → (b || c) ≡ (b || (b || c))
twice true c = refl
twice false c = refl

turned : (a b c : Bool) → (a || (b || c)) ≡ (b || (a || c))
turned true true c = refl
turned true false c = refl
turned false b c = refl

module _ {Z : Type 0} (name : List ℕ) where
  abbrev at : Vec ℕ Z → Bool
  at = is_at (λ k. slice_cmp nat_cmp name k.items)

  abbrev vec_cmp : Vec ℕ Z → Vec ℕ Z → Ordering
  vec_cmp a b = slice_cmp nat_cmp a.items b.items

  added_by : (k x : Vec ℕ Z) (ks : List (Vec ℕ Z)) → list_any at (insert_key vec_cmp ks k) ≡ (at k || list_any at ks) → (o : Ordering) → vec_cmp k x ≡ o →
      list_any at (match_ordering o (k ∷ x ∷ ks) (x ∷ ks) (x ∷ insert_key vec_cmp ks k)) ≡ (at k || list_any at (x ∷ ks))
  added_by k x ks rest Less o = refl
  added_by k x ks rest Equal o =
      let one : k.items ≡ x.items = slice_identical nat_identical k.items x.items o in
      twice (at x) (list_any at ks) ∙ ap (λ (i : List ℕ). is_eq (slice_cmp nat_cmp name i) || (at x || list_any at ks)) (sym one)
  added_by k x ks rest Greater o = ap (λ b. at x || b) rest ∙ turned (at x) (at k) (list_any at ks)

  -- the set finds the key that came in, and what it found
  pub added : (k : Vec ℕ Z) (ks : List (Vec ℕ Z)) → list_any at (insert_key vec_cmp ks k) ≡ (at k || list_any at ks)
  added k [] = refl
  added k (x ∷ ks) = added_by k x ks (added k ks) (vec_cmp k x) refl
