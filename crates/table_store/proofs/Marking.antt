-- Which rows with nothing but a delete marker are noted, after rows or notes change.
use Rattle.std.specs.Prelude.{◌≡◌, ◌⊎◌, ℕ, ◌==◌, ◌&&◌, ◌||◌, ◌≤◌, Bool, true, false, cond, List, [], ◌∷◌, Option, Some, None, Vec, refl}
use Rattle.std.proofs.Common.{ap, sym, ◌∙◌}
use Rattle.std.proofs.lemmas.Bool.{eq-eqb}
use Rattle.std.proofs.lemmas.Cmp.{nat_cmp_total, tied_itself}
use Rattle.std.specs.Map.{lookup}
use Rattle.std.specs.BTreeMap.{get, is_at}
use Rattle.std.specs.BTreeSet.{BTreeSet}
use Rattle.std.specs.Ordering.{nat_cmp, is_eq}
use Rattle.std.specs.Cmp.{Equal-is}
use Rattle.std.specs.Cmp.Lexicographic.{slice_cmp}
use Rattle.crdt_core.specs.IdentityLaws.{slice_identical, nat_identical}
use Rattle.table_schema.specs.Words.{Words}
use Rattle.table_store.specs.declared.shelf.Placed.{Placed}
use Rattle.table_store.specs.Index.{Key}
use Rattle.table_store.specs.Shelf.{placed_at}
use Rattle.table_store.specs.Markers.{Markers, AllMarked, AllStay, OthersStay, RestStays, has_key_in, marked_at}
use Rattle.table_store.proofs.Entries.{eq_turn}
use Rattle.table_store.proofs.Forgetting.{IsWithout}

some_is : {X : Type 0} (a b : X) → Some a ≡ Some b → a ≡ b
some_is a b e = cc

same_number : (a b : ℕ) → is_eq (nat_cmp a b) ≡ true → a ≡ b
same_number a b h = nat_identical a b ((Equal-is _).0 h)

-- ---- the keys at a timestamp

-- a timestamp's keys were changed to these
module _ (old new : Markers) (ts : ℕ) (w : Option (BTreeSet Key)) (updates : (t : ℕ) → get nat_cmp new t ≡ cond (is_at (nat_cmp ts) t) w (get nat_cmp old t)) where
  pub marked_after : (t : ℕ) (key : List ℕ) → marked_at t key new ≡ cond (is_eq (nat_cmp ts t)) (has_key_in key w) (marked_at t key old)
  marked_after t key = ap (has_key_in key) (updates t) ∙ elim (is_eq (nat_cmp ts t)) as (λ b. has_key_in key (cond b w (get nat_cmp old t)) ≡ cond b (has_key_in key w) (marked_at t key old)) [ true ↦ refl | false ↦ refl ]

  stay_by : ((key : List ℕ) → marked_at ts key old ≡ true → has_key_in key w ≡ true) → (t : ℕ) (key : List ℕ) → marked_at t key old ≡ true → (b : Bool) → is_eq (nat_cmp ts t) ≡ b → cond b (has_key_in key w) (marked_at t key old) ≡ true
  stay_by more t key had true h = more key (ap (λ u. marked_at u key old) (same_number ts t h) ∙ had)
  stay_by more t key had false h = had

  -- where all keys stay
  pub all_stay : ((key : List ℕ) → marked_at ts key old ≡ true → has_key_in key w ≡ true) → AllStay old new
  all_stay more t key had = marked_after t key ∙ stay_by more t key had (is_eq (nat_cmp ts t)) refl

  -- and one more is there
  pub marked_here : (key : List ℕ) → has_key_in key w ≡ true → marked_at ts key new ≡ true
  marked_here key has = marked_after ts key ∙ (ap (λ o. cond (is_eq o) (has_key_in key w) (marked_at ts key old)) (tied_itself nat_cmp_total ts) ∙ has)

  rest_by : (key : List ℕ) → ((other : List ℕ) → is_eq (slice_cmp nat_cmp key other) ≡ false → marked_at ts other old ≡ true → has_key_in other w ≡ true) →
      (t : ℕ) (other : List ℕ) → ((ts == t) && is_eq (slice_cmp nat_cmp key other)) ≡ false → marked_at t other old ≡ true → (b : Bool) → is_eq (nat_cmp ts t) ≡ b → cond b (has_key_in other w) (marked_at t other old) ≡ true
  rest_by key more t other apart had true h =
      let one = same_number ts t h in
      more other (sym (same_and ts (is_eq (slice_cmp nat_cmp key other))) ∙ (ap (λ u. (ts == u) && is_eq (slice_cmp nat_cmp key other)) one ∙ apart)) (ap (λ u. marked_at u other old) one ∙ had)
    where
      same_and : (n : ℕ) (b : Bool) → ((n == n) && b) ≡ b
      same_and n b = ap (λ c. c && b) (eq-eqb n n refl)
  rest_by key more t other apart had false h = had

  -- where one key may have gone
  pub rest_stays : (key : List ℕ) → ((other : List ℕ) → is_eq (slice_cmp nat_cmp key other) ≡ false → marked_at ts other old ≡ true → has_key_in other w ≡ true) → RestStays ts key old new
  rest_stays key more t other apart had = marked_after t other ∙ rest_by key more t other apart had (is_eq (nat_cmp ts t)) refl

-- where nothing changed
pub same_stay : (old new : Markers) → new.entries ≡ old.entries → AllStay old new
same_stay old new same t key had = ap (λ es. has_key_in key (lookup (is_at (nat_cmp t)) es)) same ∙ had

-- ---- one change after the other

and_false : (b c : Bool) → c ≡ false → (b && c) ≡ false
and_false true c h = h
and_false false c h = refl

pub rest_others : (ts : ℕ) (key : List ℕ) (old new : Markers) → RestStays ts key old new → OthersStay key old new
rest_others ts key old new rest t other apart had = rest t other (and_false (ts == t) (is_eq (slice_cmp nat_cmp key other)) apart) had

pub all_others : (key : List ℕ) (old new : Markers) → AllStay old new → OthersStay key old new
all_others key old new stay t other apart had = stay t other had

-- ---- rows

module _ {R Z : Type 0} (s : Words R) where
  -- the same rows
  pub marked_stay : (old new : Markers) (rows later : List (Vec ℕ Z × Placed R)) → later ≡ rows → AllStay old new → AllMarked s old rows → AllMarked s new later
  marked_stay old new rows later same stay all key placed version found marker = stay version.0 key (all key placed version (ap (placed_at key) (sym same) ∙ found) marker)

  module _ (key : List ℕ) (old new : Markers) (rows later : List (Vec ℕ Z × Placed R)) (others : OthersStay key old new) (all : AllMarked s old rows) where
    -- a row is put at a key
    module _ (put : Placed R) (marked : (version : ℕ × ℕ) → s.marker put.row ≡ Some version → marked_at version.0 key new ≡ true)
        (updates : (other : List ℕ) → placed_at other later ≡ cond (is_eq (slice_cmp nat_cmp other key)) (Some put) (placed_at other rows)) where
      put_by : (other : List ℕ) (placed : Placed R) (version : ℕ × ℕ) → s.marker placed.row ≡ Some version → (b : Bool) → is_eq (slice_cmp nat_cmp other key) ≡ b → cond b (Some put) (placed_at other rows) ≡ Some placed → marked_at version.0 other new ≡ true
      put_by other placed version marker true h found =
          let one : other ≡ key = slice_identical nat_identical other key ((Equal-is _).0 h) in
          let same : put ≡ placed = some_is put placed found in
          ap (λ k. marked_at version.0 k new) one ∙ marked version (ap (λ p. s.marker p.row) same ∙ marker)
      put_by other placed version marker false h found = others version.0 other (eq_turn other key h) (all other placed version found marker)

      pub marked_put : AllMarked s new later
      marked_put other placed version found marker = put_by other placed version marker (is_eq (slice_cmp nat_cmp other key)) refl (sym (updates other) ∙ found)

    -- the row at a key went
    module _ (without : IsWithout key rows later) where
      gone_by : (other : List ℕ) (placed : Placed R) (version : ℕ × ℕ) → s.marker placed.row ≡ Some version → placed_at other later ≡ Some placed → (b : Bool) → is_eq (slice_cmp nat_cmp key other) ≡ b → marked_at version.0 other new ≡ true
      gone_by other placed version marker found true h =
          let one : key ≡ other = slice_identical nat_identical key other ((Equal-is _).0 h) in
          let none : None ≡ Some placed = sym without.gone ∙ (ap (λ k. placed_at k later) one ∙ found) in
          absurd (no_none none)
        where
          no_none : None ≡ Some placed → ⊥
          no_none h = cc
      gone_by other placed version marker found false h = others version.0 other h (all other placed version (sym (without.others other h) ∙ found) marker)

      pub marked_gone : AllMarked s new later
      marked_gone other placed version found marker = gone_by other placed version marker found (is_eq (slice_cmp nat_cmp key other)) refl
