-- A partition of which nothing waits: its trie keeps the pairs of its rows.
use Rattle.std.specs.Prelude.{◌≡◌, ℕ, ◌||◌, Bool, true, false, cond, is_none, is_some, List, [], ◌∷◌, Option, Some, None, Vec, filter, map, option_map, unwrap_or, ◌==◌, refl}
use Rattle.std.proofs.Common.{ap, sym, ◌∙◌, subst, inl, inr}
use Rattle.std.specs.List.{AllByRecursion}
use Rattle.std.specs.List.Sorted.{IsStrictlySortedBy}
use Rattle.std.proofs.lemmas.Bool.{both_ways}
use Rattle.std.proofs.lemmas.Cmp.{nat_list_cmp_total, tied_itself}
use Rattle.std.proofs.lemmas.Map.Keys.{sorted_head, sorted_tail}
use Rattle.std.specs.Map.{keys_of, lookup}
use Rattle.std.specs.declared.cmp.Ordering.TheVariants.{Less, Greater}
use Rattle.std.specs.Ordering.{nat_cmp, is_eq}
use Rattle.std.specs.Cmp.Lexicographic.{slice_cmp}
use Rattle.crdt_core.specs.LexLaws.{turned}
use Rattle.blake2_hash.specs.Blake2b.{blake2b}
use Rattle.blake2_hash.specs.declared.digest.Hash32.{Hash32}
use Rattle.table_schema.specs.Words.{Words}
use Rattle.table_model.specs.Top.{any_unspelled, pair_of}
use Rattle.merkle_trie.specs.Keeping.{Keeps}
use Rattle.table_store.specs.declared.shelf.Placed.{Placed}
use Rattle.table_store.specs.declared.index.Part.{Part}
use Rattle.std.specs.Global.{Global}
use Rattle.table_store.specs.Index.{Entry, Key, has_key, known, known_pairs, pair_at, shown_pair}
use Rattle.table_store.specs.Shelf.{AllPlaced, given, in_partition, placed_at, row_in, shelf_rows, vec_cmp}
use Rattle.table_store.specs.Settled.{Fits, IsSettled, IsTaken}
use Rattle.table_store.proofs.Alike.{keeps_same}
use Rattle.table_store.proofs.Entries.{at}
use Rattle.table_store.proofs.Partitions.{Above, AreThere, walked, walk_is}
use Rattle.table_store.proofs.Shelves.{found_is}

-- ---- each entry is found at its key

found_past : {X Z : Type 0} (e : Vec ℕ Z × X) (es rest : List (Vec ℕ Z × X)) → Above e.0.items (keys_of rest) → AllByRecursion (λ d. lookup (at d.0.items) es ≡ Some d.1) rest → AllByRecursion (λ d. lookup (at d.0.items) (e ∷ es) ≡ Some d.1) rest
found_past e es [] above all = tt
found_past e es (d ∷ rest) above all =
    let apart : slice_cmp nat_cmp d.0.items e.0.items ≡ Greater = turned nat_list_cmp_total e.0.items d.0.items Less above.0 in
    (ap (λ o. cond (is_eq o) (Some e.1) (lookup (at d.0.items) es)) apart ∙ all.0, found_past e es rest above.1 all.1)

pub each_found : {X Z : Type 0} (es : List (Vec ℕ Z × X)) → IsStrictlySortedBy vec_cmp (keys_of es) → AllByRecursion (λ e. lookup (at e.0.items) es ≡ Some e.1) es
each_found [] sorted = tt
each_found (e ∷ es) sorted = (
  ap (λ o. cond (is_eq o) (Some e.1) (lookup (at e.0.items) es)) (tied_itself nat_list_cmp_total e.0.items),
  found_past e es es (sorted_head vec_cmp e.0 (keys_of es) sorted) (each_found es (sorted_tail vec_cmp e.0 (keys_of es) sorted)),
)

some_is : {X : Type 0} (a b : X) → Some a ≡ Some b → a ≡ b
some_is a b e = cc

pub given_row : {R : Type 0} (placed : Placed R) (row : R) (b : Bool) → cond b (Some placed.row) None ≡ Some row → placed.row ≡ row
given_row placed row true is = some_is placed.row row is
given_row placed row false is = cc

-- ---- known pairs are those of the rows

module _ {R : Type 0} (s : Words R) (p : ℕ) (rows : List (Key × Placed R)) where
  -- what is known of a key is what its row gives
  abbrev pub IsOf : List ℕ → Option (Hash32 × Hash32) → Type 0
  IsOf key pair = option_map shown_pair pair ≡ option_map (pair_of s) (row_in p key rows)

  each_of : (all es : List Entry) → ((key : List ℕ) → IsOf key (pair_at key all)) → AllByRecursion (λ e. lookup (at e.0.items) all ≡ Some e.1) es → AllByRecursion (λ e. IsOf e.0.items e.1) es
  each_of all [] is found = tt
  each_of all (e ∷ es) is found =
      (subst (λ o. IsOf e.0.items (known o)) found.0 (is e.0.items), each_of all es is found.1)

  pairs_by : (e : Entry) (es : List Entry) → known_pairs es ≡ map (pair_of s) (walked p (keys_of es) rows) → (o : Option (Hash32 × Hash32)) → e.1 ≡ o → (r : Option R) → row_in p e.0.items rows ≡ r → option_map shown_pair o ≡ option_map (pair_of s) r →
      known_pairs (e ∷ es) ≡ map (pair_of s) (walked p (keys_of (e ∷ es)) rows)
  pairs_by e es rest None is None there same = rw (is, there) rest
  pairs_by e es rest None is (Some row) there same = cc
  pairs_by e es rest (Some pair) is None there same = cc
  pairs_by e es rest (Some pair) is (Some row) there same =
      let one = some_is (shown_pair pair) (pair_of s row) same in
      rw (is, there) (λ i. one i ∷ rest i)

  pairs_walked : (es : List Entry) → AllByRecursion (λ e. IsOf e.0.items e.1) es → known_pairs es ≡ map (pair_of s) (walked p (keys_of es) rows)
  pairs_walked [] all = refl
  pairs_walked (e ∷ es) all = pairs_by e es (pairs_walked es all.1) e.1 refl (row_in p e.0.items rows) refl all.0

  module _ (part : Part) (fits : Fits s p rows part) (settled : IsSettled part) where
    -- each row is as the trie has it
    taken_by : (key : List ℕ) (row : R) → row_in p key rows ≡ Some row → IsTaken s key row (pair_at key part.pairs.entries)
    taken_by key row there =
        elim (fits.rows_are key row there) [
          | inl waited ↦ let none : has_key {Z = Global} key [] ≡ true = ap (has_key key) (sym settled.none_waits) ∙ waited in absurd (no_key none)
          | inr taken ↦ taken
        ]
      where
        no_key : false ≡ true → ⊥
        no_key h = cc

    module _ (n : ℕ) (placed : AllPlaced s n rows) where
      key_of : (key : List ℕ) (row : R) (o : Option (Placed R)) → placed_at key rows ≡ o → given p o ≡ Some row → s.key row ≡ key
      key_of key row None is there = cc
      key_of key row (Some found) is there = ap s.key (sym (given_row found row (found.partition == p) there)) ∙ (found_is s n key found rows placed is).key_is

      of_key : (key : List ℕ) (o : Option (Hash32 × Hash32)) → pair_at key part.pairs.entries ≡ o → (r : Option R) → row_in p key rows ≡ r → option_map shown_pair o ≡ option_map (pair_of s) r
      of_key key None is None there = refl
      of_key key (Some pair) is None there = let row : is_some (row_in p key rows) ≡ true = (fits.pairs_are key pair is).0 in let none : is_some (row_in p key rows) ≡ false = ap is_some there in absurd (both_ways (is_some (row_in p key rows)) none row)
      of_key key o is (Some row) there =
          let taken = taken_by key row there in
          sym (ap (option_map shown_pair) is) ∙ (taken.pair_is ∙ ap (λ k. Some (blake2b 32 k, blake2b 32 (unwrap_or (s.spelling row) []))) (sym (key_of key row (placed_at key rows) refl there)))

      -- the pairs that are known are those of the partition's rows
      pub known_of : IsStrictlySortedBy vec_cmp (keys_of part.pairs.entries) → known_pairs part.pairs.entries ≡ map (pair_of s) (walked p (keys_of part.pairs.entries) rows)
      known_of sorted = pairs_walked part.pairs.entries
          (each_of part.pairs.entries part.pairs.entries (λ key. of_key key (pair_at key part.pairs.entries) refl (row_in p key rows) refl) (each_found part.pairs.entries sorted))

-- ---- which rows can be written

module _ {R Z : Type 0} (s : Words R) (p : ℕ) (rows : List (Vec ℕ Z × Placed R)) where
  written_by : (k : Vec ℕ Z) (keys : List (Vec ℕ Z)) → any_unspelled s (walked p keys rows) ≡ false → ((row : R) → row_in p k.items rows ≡ Some row → is_none (s.spelling row) ≡ false) → (r : Option R) → row_in p k.items rows ≡ r → any_unspelled s (walked p (k ∷ keys) rows) ≡ false
  written_by k keys rest written None there = rw there rest
  written_by k keys rest written (Some row) there = rw there (λ i. written row there i || rest i)

  written_walked : ((key : List ℕ) (row : R) → row_in p key rows ≡ Some row → is_none (s.spelling row) ≡ false) → (keys : List (Vec ℕ Z)) → any_unspelled s (walked p keys rows) ≡ false
  written_walked written [] = refl
  written_walked written (k ∷ keys) = written_by k keys (written_walked written keys) (written k.items) (row_in p k.items rows) refl

any_rest : {R Z : Type 0} (s : Words R) (p : ℕ) (e : Vec ℕ Z × Placed R) (es : List (Vec ℕ Z × Placed R)) → any_unspelled s (shelf_rows (filter (in_partition p) es)) ≡ true → (b : Bool) → any_unspelled s (shelf_rows (cond b (e ∷ filter (in_partition p) es) (filter (in_partition p) es))) ≡ true
any_rest s p e es rest true = ap (λ b. is_none (s.spelling e.1.row) || b) rest ∙ or_true (is_none (s.spelling e.1.row))
  where
    or_true : (b : Bool) → (b || true) ≡ true
    or_true true = refl
    or_true false = refl
any_rest s p e es rest false = rest

any_here : {R Z : Type 0} (s : Words R) (p : ℕ) (e : Vec ℕ Z × Placed R) (es : List (Vec ℕ Z × Placed R)) (row : R) → s.spelling row ≡ None → (b : Bool) → cond b (Some e.1.row) None ≡ Some row → any_unspelled s (shelf_rows (cond b (e ∷ filter (in_partition p) es) (filter (in_partition p) es))) ≡ true
any_here s p e es row none true there = let one : e.1.row ≡ row = some_is e.1.row row there in ap (λ b. b || any_unspelled s (shelf_rows (filter (in_partition p) es))) (ap is_none (ap s.spelling one ∙ none))
any_here s p e es row none false there = cc

any_by : {R Z : Type 0} (s : Words R) (p : ℕ) (key : List ℕ) (e : Vec ℕ Z × Placed R) (es : List (Vec ℕ Z × Placed R)) (row : R) → s.spelling row ≡ None → (row_in p key es ≡ Some row → any_unspelled s (shelf_rows (filter (in_partition p) es)) ≡ true) →
    (b : Bool) → given p (cond b (Some e.1) (placed_at key es)) ≡ Some row → any_unspelled s (shelf_rows (filter (in_partition p) (e ∷ es))) ≡ true
any_by s p key e es row none rest true there = any_here s p e es row none (in_partition p e) there
any_by s p key e es row none rest false there = any_rest s p e es (rest there) (in_partition p e)

-- a row that is found in the partition, and can't be written
pub any_found : {R Z : Type 0} (s : Words R) (p : ℕ) (key : List ℕ) (es : List (Vec ℕ Z × Placed R)) (row : R) → s.spelling row ≡ None → row_in p key es ≡ Some row → any_unspelled s (shelf_rows (filter (in_partition p) es)) ≡ true
any_found s p key [] row none there = cc
any_found s p key (e ∷ es) row none there = any_by s p key e es row none (any_found s p key es row none) (is_eq (slice_cmp nat_cmp key e.0.items)) there

-- ---- of the rows of one table

module _ {R : Type 0} (s : Words R) (p : ℕ) (rows : List (Key × Placed R)) (part : Part) (fits : Fits s p rows part) (settled : IsSettled part)
    (sorted : IsStrictlySortedBy vec_cmp (keys_of rows)) (in_order : IsStrictlySortedBy vec_cmp (keys_of part.pairs.entries)) (there : AreThere p (keys_of part.pairs.entries) rows) where
  walk : walked p (keys_of part.pairs.entries) rows ≡ shelf_rows (filter (in_partition p) rows)
  walk = walk_is p (keys_of part.pairs.entries) rows sorted in_order there

  -- its trie keeps their pairs
  pub trie_keeps : (n : ℕ) → AllPlaced s n rows → Keeps (blake2b 32) part.trie (map (pair_of s) (shelf_rows (filter (in_partition p) rows)))
  trie_keeps n placed =
      let known = known_of s p rows part fits settled n placed in_order ∙ ap (map (pair_of s)) walk in
      let kept = fits.kept in
      subst (Keeps (blake2b 32) part.trie) known (keeps_same (blake2b 32) part.trie kept.held (known_pairs part.pairs.entries) settled.none_queued kept.same kept.keeps)

  -- each of them can be written
  pub all_written : any_unspelled s (shelf_rows (filter (in_partition p) rows)) ≡ false
  all_written = sym (ap (any_unspelled s) walk) ∙ written_walked s p rows (λ key row found. (taken_by s p rows part fits settled key row found).written) (keys_of part.pairs.entries)
