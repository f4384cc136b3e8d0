-- The rows of a partition whose keys are noted.
use Rattle.std.specs.Prelude.{◌≡◌, ℕ, ◌==◌, ◌&&◌, ◌||◌, nat_eq, Bool, true, false, cond, List, [], ◌∷◌, Option, Some, None, Vec, filter, is_some, refl}
use Rattle.std.proofs.Common.{ap, sym, ◌∙◌}
use Rattle.std.specs.List.{cons_option, list_any}
use Rattle.std.specs.BTreeSet.{contains, IsFromIterResult}
use Rattle.std.specs.Cmp.{both_tied, nat_eq_equiv, unsigned_ties}
use Rattle.std.specs.Cmp.Lexicographic.{pointwise, nat_list_eq_equiv, texts_ties}
use Rattle.std.specs.Ordering.{eq_by_cmp, nat_cmp}
use Rattle.blake2_hash.specs.Hash.{hash_cmp, digest_of}
use Rattle.blake2_hash.specs.declared.digest.Hash32.{Hash32}
use Rattle.table_schema.specs.Words.{Words}
use Rattle.walk_model.specs.Noting.{is_noted}
use Rattle.table_store.specs.Notes.{AreNotes, Notes, is_among, note_cmp}
use Rattle.table_store.specs.declared.shelf.Placed.{Placed}
use Rattle.table_store.specs.Shelf.{AllPlaced, given, in_partition, placed_at, row_in, shelf_rows}
use Rattle.table_store.proofs.Partitions.{walked}
use Rattle.table_store.proofs.Settled.{given_row}
use Rattle.table_store.proofs.Shelves.{IsFound, found_is}

-- ---- the notes as a set

-- the set's order takes two notes for one where `is_noted` does
note_is : (one q : ℕ × Hash32) → eq_by_cmp note_cmp q one ≡ ((one.0 == q.0) && pointwise nat_eq one.1.0 q.1.0)
note_is one q =
    sym (both_tied (one.0 == q.0) (pointwise nat_eq one.1.0 q.1.0) (nat_cmp q.0 one.0) (hash_cmp q.1 one.1)
    (nat_eq_equiv.symm one.0 q.0 ∙ unsigned_ties q.0 one.0)
    (nat_list_eq_equiv.symm one.1.0 q.1.0 ∙ texts_ties q.1.0 one.1.0))

pub are_notes : (noted : List (ℕ × Hash32)) (notes : Notes) → IsFromIterResult note_cmp noted notes → AreNotes noted notes
are_notes noted notes from table hash = from.0 (table, hash) ∙ ap (λ test. list_any test noted) (λ i one. note_is one (table, hash) i)

-- a test of rows by the set is that by the list
pub among_is : {R : Type 0} (s : Words R) (noted : List (ℕ × Hash32)) (notes : Notes) → AreNotes noted notes → is_among s notes ≡ is_noted s noted
among_is s noted notes are = λ i r. are (s.table r) (digest_of (s.key r)) i

-- ---- the rows whose key hashes the set has

module _ {R Z : Type 0} (s : Words R) (n p : ℕ) (rows : List (Vec ℕ Z × Placed R)) (placed : AllPlaced s n rows) (notes : Notes) where
  among_by : (key : List ℕ) (row : R) (o : Option (Placed R)) → placed_at key rows ≡ o → given p o ≡ Some row → is_among s notes row ≡ contains note_cmp notes (n, digest_of key)
  among_by key row None is there = cc
  among_by key row (Some found) is there =
      let one = given_row found row (found.partition == p) there in
      let here : IsFound s n key found = found_is s n key found rows placed is in
      λ i. contains note_cmp notes ((ap s.table (sym one) ∙ here.table_is) i, digest_of ((ap s.key (sym one) ∙ here.key_is) i))

  -- a row of the partition is among them where its key's hash is
  among_there : (key : List ℕ) (row : R) → row_in p key rows ≡ Some row → is_among s notes row ≡ contains note_cmp notes (n, digest_of key)
  among_there key row there = among_by key row (placed_at key rows) refl there

  skip_by : (k : Vec ℕ Z) (keys : List (Vec ℕ Z)) → contains note_cmp notes (n, digest_of k.items) ≡ false → (r : Option R) → row_in p k.items rows ≡ r →
      filter (is_among s notes) (cons_option r (walked p keys rows)) ≡ filter (is_among s notes) (walked p keys rows)
  skip_by k keys not None there = refl
  skip_by k keys not (Some row) there = ap (λ b. cond b (row ∷ filter (is_among s notes) (walked p keys rows)) (filter (is_among s notes) (walked p keys rows))) (among_there k.items row there ∙ not)

  -- a key that isn't noted
  pub skip_key : (k : Vec ℕ Z) (keys : List (Vec ℕ Z)) → contains note_cmp notes (n, digest_of k.items) ≡ false → filter (is_among s notes) (walked p (k ∷ keys) rows) ≡ filter (is_among s notes) (walked p keys rows)
  skip_key k keys not = skip_by k keys not (row_in p k.items rows) refl

  -- a noted key with its row
  pub take_key : (k : Vec ℕ Z) (keys : List (Vec ℕ Z)) (row : R) → contains note_cmp notes (n, digest_of k.items) ≡ true → row_in p k.items rows ≡ Some row →
      filter (is_among s notes) (walked p (k ∷ keys) rows) ≡ row ∷ filter (is_among s notes) (walked p keys rows)
  take_key k keys row is there =
      ap (λ r. filter (is_among s notes) (cons_option r (walked p keys rows))) there
      ∙ ap (λ b. cond b (row ∷ filter (is_among s notes) (walked p keys rows)) (filter (is_among s notes) (walked p keys rows))) (among_there k.items row there ∙ is)

-- ---- whether a partition has rows

-- there is a row
abbrev pub any_row : {R : Type 0} → List R → Bool
any_row rows = list_any (λ row. true) rows

not_empty_by : {R Z : Type 0} (p : ℕ) (rows : List (Vec ℕ Z × Placed R)) (k : Vec ℕ Z) (keys : List (Vec ℕ Z)) → list_any (λ q. is_some (row_in p q.items rows)) keys ≡ any_row (walked p keys rows) → (r : Option R) → row_in p k.items rows ≡ r → list_any (λ q. is_some (row_in p q.items rows)) (k ∷ keys) ≡ any_row (walked p (k ∷ keys) rows)
not_empty_by p rows k keys rest None there = rw there rest
not_empty_by p rows k keys rest (Some row) there = rw there refl

not_empty : {R Z : Type 0} (p : ℕ) (rows : List (Vec ℕ Z × Placed R)) (keys : List (Vec ℕ Z)) → list_any (λ q. is_some (row_in p q.items rows)) keys ≡ any_row (walked p keys rows)
not_empty p rows [] = refl
not_empty p rows (k ∷ keys) = not_empty_by p rows k keys (not_empty p rows keys) (row_in p k.items rows) refl

any_by : {R Z : Type 0} (p : ℕ) (e : Vec ℕ Z × Placed R) (es : List (Vec ℕ Z × Placed R)) → any_row (shelf_rows (filter (in_partition p) es)) ≡ list_any (in_partition p) es → (b : Bool) → any_row (shelf_rows (cond b (e ∷ filter (in_partition p) es) (filter (in_partition p) es))) ≡ cond b true (list_any (in_partition p) es)
any_by p e es rest true = refl
any_by p e es rest false = rest

or_is : (b c : Bool) → cond b true c ≡ (b || c)
or_is true c = refl
or_is false c = refl

pub any_rows : {R Z : Type 0} (p : ℕ) (es : List (Vec ℕ Z × Placed R)) → any_row (shelf_rows (filter (in_partition p) es)) ≡ list_any (in_partition p) es
any_rows p [] = refl
any_rows p (e ∷ es) = any_by p e es (any_rows p es) (in_partition p e) ∙ or_is (in_partition p e) (list_any (in_partition p) es)

-- the keys find a row where there is one
pub found_some : {R Z : Type 0} (p : ℕ) (rows : List (Vec ℕ Z × Placed R)) (keys : List (Vec ℕ Z)) → walked p keys rows ≡ shelf_rows (filter (in_partition p) rows) → list_any (λ q. is_some (row_in p q.items rows)) keys ≡ list_any (in_partition p) rows
found_some p rows keys walk = not_empty p rows keys ∙ (ap any_row walk ∙ any_rows p rows)
