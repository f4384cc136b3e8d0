-- The keys of the rows that are looked at.
use Rattle.std.specs.Prelude.{◌≡◌, ◌≤◌, ◌<◌, ℕ, ◌+◌, ◌-◌, ◌||◌, leb, nat_eq, not, Bool, true, false, cond, is_some, map, option_map, List, [], ◌∷◌, ◌++◌, Option, Some, None, refl}
use Rattle.std.proofs.Common.{ap, ◌∙◌, arith}
use Rattle.std.specs.List.{filter, find, list_any}
use Rattle.std.specs.Ordering.{nat_cmp, is_eq}
use Rattle.std.specs.Cmp.Lexicographic.{pointwise, slice_cmp}
use Rattle.std.proofs.lemmas.Bool.{le-leb, leb-true, both_ways}
use Rattle.std.proofs.lemmas.Map.Text.{is_eq-slice_cmp}
use Rattle.gc_model.specs.declared.collection.Collection.{Collection}
use Rattle.gc_model.specs.Collecting.{number_of}
use Rattle.table_gc.specs.Keys.{is_of}
use Rattle.table_gc.proofs.Keyed.{key_itself, same_key}
use Rattle.table_schema.specs.Words.{Words}
use Rattle.table_model.specs.Rows.{find_row}
use Rattle.table_store.specs.Markers.{is_by, is_marked}
use Rattle.cluster_machine.specs.Collects.{collection_age, is_aged}
use Rattle.node_parts.specs.declared.contents.Contents.{Contents}
use Rattle.node_parts.specs.Collects.{gone_from, marker_of}

-- ---- tombstones that are old enough

same_by : (a n m : ℕ) → n ≤ m → (x : Bool) → leb (a + n) m ≡ x → (y : Bool) → leb a (m - n) ≡ y → x ≡ y
same_by a n m le true h true k = refl
same_by a n m le false h false k = refl
same_by a n m le true h false k = let first : a + n ≤ m = leb-true (a + n) m h in absurd (both_ways (leb a (m - n)) k (le-leb a (m - n) (omega arith)))
same_by a n m le false h true k = let first : a ≤ m - n = leb-true a (m - n) k in absurd (both_ways (leb (a + n) m) h (le-leb (a + n) m (omega arith)))

aged_by : (now : ℕ) → collection_age ≤ now → (version : Option (ℕ × ℕ)) → is_aged now version ≡ is_by (now - collection_age) version
aged_by now le None = refl
aged_by now le (Some version) = same_by version.0 collection_age now le (leb (version.0 + collection_age) now) refl (leb version.0 (now - collection_age)) refl

pub aged_is : {R : Type 0} (s : Words R) (now : ℕ) → collection_age ≤ now → (o : Option R) → is_aged now (marker_of s o) ≡ is_marked s (now - collection_age) o
aged_is s now le None = refl
aged_is s now le (Some r) = aged_by now le (s.marker r)

young_by : (a n m : ℕ) → m < n → (x : Bool) → leb (a + n) m ≡ x → x ≡ false
young_by a n m lt true h = let first : a + n ≤ m = leb-true (a + n) m h in absurd (omega arith)
young_by a n m lt false h = refl

pub none_aged : (now : ℕ) → now < collection_age → (version : Option (ℕ × ℕ)) → is_aged now version ≡ false
none_aged now lt None = refl
none_aged now lt (Some version) = young_by version.0 collection_age now lt (leb (version.0 + collection_age) now) refl

-- ---- open collections

pub any_found : {X : Type 0} (test : X → Bool) (xs : List X) → list_any test xs ≡ is_some (find test xs)
any_found test [] = refl
any_found test (x ∷ xs) = elim (test x) as (λ b. (b || list_any test xs) ≡ is_some (cond b (Some x) (find test xs))) [ true ↦ refl | false ↦ any_found test xs ]

pub or_move : (a b c : Bool) → ((a || b) || c) ≡ (a || (b || c))
or_move true b c = refl
or_move false b c = refl

-- a collection's key, as it is looked up
pub key_of : (key : List ℕ) (c : Collection) → is_eq (slice_cmp nat_cmp key c.key) ≡ is_of key c
key_of key c = is_eq-slice_cmp key c.key ∙ turn_by (pointwise nat_eq key c.key) refl (pointwise nat_eq c.key key) refl
  where
    turn_by : (a : Bool) → pointwise nat_eq key c.key ≡ a → (b : Bool) → pointwise nat_eq c.key key ≡ b → a ≡ b
    turn_by true h true k = refl
    turn_by false h false k = refl
    turn_by true h false k = absurd (both_ways (pointwise nat_eq c.key key) k (ap (λ q. pointwise nat_eq c.key q) (same_key key c.key h) ∙ key_itself c.key))
    turn_by false h true k = absurd (both_ways (pointwise nat_eq key c.key) h (ap (λ q. pointwise nat_eq key q) (same_key c.key key k) ∙ key_itself key))

-- ---- collections whose row is gone

pub mapped_some : {A B : Type 0} (f : A → B) (o : Option A) → is_some (option_map f o) ≡ is_some o
mapped_some f None = refl
mapped_some f (Some x) = refl

module _ {S R : Type 0} (join : R → R → R) (s : Words R) (c : Contents S R) where
  -- the first one's number stands before the others'
  pub gone_more : (o : Collection) (cs : List Collection) → gone_from join s c (o ∷ []) ++ gone_from join s c cs ≡ gone_from join s c (o ∷ cs)
  gone_more o cs =
      elim (is_some (find_row s 1 o.key c.table)) as (λ b. map number_of (cond (not b) (o ∷ []) []) ++ gone_from join s c cs ≡ map number_of (cond (not b) (o ∷ filter (λ x. not (is_some (find_row s 1 x.key c.table))) cs) (filter (λ x. not (is_some (find_row s 1 x.key c.table))) cs))) [ true ↦ refl | false ↦ refl ]
