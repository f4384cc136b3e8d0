-- The value of pairs, branch by branch, and the roots of a shelf.
use Rattle.std.specs.Prelude.{◌≡◌, ℕ, zero, suc, ◌+◌, ◌<◌, ◌==◌, Bool, true, false, cond, List, [], ◌∷◌, ◌++◌, unwrap_or, Vec, length, map, filter, flat_map, slice_index, refl}
use Rattle.std.proofs.Common.{ap, sym, ◌∙◌, arith, append_assoc, append-nil}
use Rattle.std.specs.List.{concat, range_with_len}
use Rattle.std.proofs.lemmas.Bool.{eq-eqb}
use Rattle.std.proofs.lemmas.List.{flat_map_more}
use Rattle.std.proofs.lemmas.List.Elements.{All-head, All-tail, All-filter, filter-append}
use Rattle.blake2_hash.specs.Blake2b.{blake2b}
use Rattle.blake2_hash.specs.declared.digest.Hash32.{Hash32}
use Rattle.table_schema.specs.Words.{Words}
use Rattle.table_model.specs.Rows.{rows_in}
use Rattle.table_model.specs.Root.{Pair, with_byte, every_byte, branch, none_leaf_or_node, value_of, root}
use Rattle.table_model.specs.Top.{pair_of, pairs_of, root_of, table_roots, roots}
use Rattle.table_store.specs.declared.shelf.Placed.{Placed}
use Rattle.table_store.specs.declared.roots.Hashed.{Hashed}
use Rattle.table_store.specs.Shelf.{shelf_rows, in_partition, IsPlaced, AllPlaced, IsSound}
use Rattle.table_store.specs.Index.{shown_pair}
use Rattle.table_store.specs.Pairs.{shown, tagged, entry_pair, shelf_roots}
use Rattle.table_store.proofs.Tables.{rows_three}
use Rattle.crdt_core.proofs.Ranges.{range_more}

-- ---- lists

range_up_to : (n : ℕ) → range_with_len 0 (n + 1) ≡ range_with_len 0 n ++ n ∷ []
range_up_to n =
    let next : n + 1 ≡ suc n = omega arith in
    let same : 0 + n ≡ n = omega arith in
    ap (range_with_len 0) next ∙ (range_more 0 n ∙ ap (λ b. range_with_len 0 n ++ b ∷ []) same)

-- one more item's part
pub parts_more : (F : ℕ → List ℕ) (n : ℕ) → flat_map F (range_with_len 0 n) ++ F n ≡ flat_map F (range_with_len 0 (n + 1))
parts_more F n = flat_map_more F [] (range_with_len 0 n) n ∙ ap (flat_map F) (sym (range_up_to n))

byte_list : range_with_len 0 256 ≡ every_byte
unfolding every_byte
byte_list = refl

pub all_bytes : (n : ℕ) → n ≡ 256 → range_with_len 0 n ≡ every_byte
all_bytes n e = ap (range_with_len 0) e ∙ byte_list

map_filter : {X Y : Type 0} (f : X → Bool) (g : Y → Bool) (h : X → Y) (xs : List X) → ((x : X) → f x ≡ g (h x)) → map h (filter f xs) ≡ filter g (map h xs)
map_filter f g h [] same = refl
map_filter f g h (x ∷ xs) same =
    ap (λ b. map h (cond b (x ∷ filter f xs) (filter f xs))) (same x)
    ∙ elim (g (h x)) as (λ b. map h (cond b (x ∷ filter f xs) (filter f xs)) ≡ cond b (h x ∷ filter g (map h xs)) (filter g (map h xs))) [
      | true ↦ ap (λ ys. h x ∷ ys) (map_filter f g h xs same)
      | false ↦ map_filter f g h xs same
    ]

map_twice : {X Y Z : Type 0} (f : X → Y) (g : Y → Z) (xs : List X) → map g (map f xs) ≡ map (λ x. g (f x)) xs
map_twice f g [] = refl
map_twice f g (x ∷ xs) = ap (λ l. g (f x) ∷ l) (map_twice f g xs)

concat_append : (xs ys : List (List ℕ)) → concat (xs ++ ys) ≡ concat xs ++ concat ys
concat_append [] ys = refl
concat_append (x ∷ xs) ys = ap (λ l. x ++ l) (concat_append xs ys) ∙ sym (append_assoc x (concat xs) (concat ys))

concat_map : (f : ℕ → List ℕ) (xs : List ℕ) → concat (map f xs) ≡ flat_map f xs
concat_map f [] = refl
concat_map f (x ∷ xs) = ap (λ l. f x ++ l) (concat_map f xs)

-- ---- the value of pairs

pub shown_with : (place byte : ℕ) (pairs : List (Hash32 × Hash32)) → shown (filter (λ pair. slice_index pair.0.0 place == byte) pairs) ≡ with_byte place byte (shown pairs)
shown_with place byte pairs = map_filter (λ pair. slice_index pair.0.0 place == byte) (λ pair. slice_index pair.0 place == byte) shown_pair pairs (λ pair. refl)

module _ (hash : List ℕ → List ℕ) where
  pub value_zero : (depth : ℕ) (pairs : List Pair) → value_of hash 0 depth pairs ≡ none_leaf_or_node hash pairs []
  unfolding value_of
  value_zero depth pairs = refl

  value_none : (left depth : ℕ) → value_of hash left depth [] ≡ none_leaf_or_node hash [] []
  unfolding value_of
  value_none zero depth = refl
  value_none (suc left) depth = refl

  value_one : (left depth : ℕ) (pair : Pair) → value_of hash left depth (pair ∷ []) ≡ none_leaf_or_node hash (pair ∷ []) []
  unfolding value_of
  value_one zero depth pair = refl
  value_one (suc left) depth pair = refl

  pub value_few : (left depth : ℕ) (pairs : List (Hash32 × Hash32)) → length pairs < 2 → value_of hash left depth (shown pairs) ≡ none_leaf_or_node hash (shown pairs) []
  value_few left depth [] h = value_none left depth
  value_few left depth (pair ∷ []) h = value_one left depth (shown_pair pair)
  value_few left depth (pair ∷ next ∷ pairs) h = absurd (omega arith)

  -- the branches of the first n bytes
  abbrev pub branches : ℕ → ℕ → ℕ → List Pair → ℕ → List ℕ
  branches left depth next pairs n = flat_map (λ byte. branch byte (with_byte depth byte pairs) (value_of hash left next (with_byte depth byte pairs))) (range_with_len 0 n)

  value_suc : (left depth : ℕ) (pairs : List Pair) → value_of hash (suc left) depth pairs ≡ none_leaf_or_node hash pairs (flat_map (λ byte. branch byte (with_byte depth byte pairs) (value_of hash left (suc depth) (with_byte depth byte pairs))) every_byte)
  unfolding value_of
  value_suc left depth pairs = refl

  pub value_node : (left rest depth next n : ℕ) (pairs : List Pair) → left ≡ suc rest → next ≡ suc depth → n ≡ 256 → value_of hash left depth pairs ≡ none_leaf_or_node hash pairs (branches rest depth next pairs n)
  value_node left rest depth next n pairs e f g =
      ap (λ l. value_of hash l depth pairs) e
      ∙ (value_suc rest depth pairs
      ∙ (λ i. none_leaf_or_node hash pairs (flat_map (λ byte. branch byte (with_byte depth byte pairs) (value_of hash rest (sym f i) (with_byte depth byte pairs))) (sym (all_bytes n g) i))))

-- ---- the pairs of a partition

pub shown_pairs : (hs : List Hashed) → shown (map (λ h. h.pair) hs) ≡ map (λ h. (tagged h).1) hs
shown_pairs hs = map_twice (λ h. h.pair) shown_pair hs

picks : {X : Type 0} (tag : X → ℕ × Pair) (p : ℕ) (xs : List X) → map (λ x. (tag x).1) (filter (λ x. (tag x).0 == p) xs) ≡ map (λ q. q.1) (filter (λ q. q.0 == p) (map tag xs))
picks tag p xs = sym (map_twice tag (λ q. q.1) (filter (λ x. (tag x).0 == p) xs)) ∙ ap (map (λ q. q.1)) (map_filter (λ x. (tag x).0 == p) (λ q. q.0 == p) tag xs (λ x. refl))

module _ {R Z : Type 0} (s : Words R) where
  -- the hashes of all entries give the roots
  pub same_roots : (hs : List Hashed) (es : List (Vec ℕ Z × Placed R)) → map tagged hs ≡ map (λ e. (e.1.partition, entry_pair s e)) es → flat_map (λ p. root (blake2b 32) (map (λ h. (tagged h).1) (filter (λ h. h.partition == p) hs))) every_byte ≡ shelf_roots s es
  same_roots hs es h =
      let one : (p : ℕ) → map (λ g. (tagged g).1) (filter (λ g. g.partition == p) hs) ≡ map (entry_pair s) (filter (in_partition p) es) =
      λ p. picks tagged p hs ∙ (ap (λ l. map (λ q. q.1) (filter (λ q. q.0 == p) l)) h ∙ sym (picks (λ e. (e.1.partition, entry_pair s e)) p es)) in
      λ i. flat_map (λ p. root (blake2b 32) (one p i)) every_byte

  module _ (n : ℕ) where
    table_here : (es : List (Vec ℕ Z × Placed R)) → AllPlaced s n es → filter (λ r. s.table r == n) (shelf_rows es) ≡ shelf_rows es
    table_here [] all = refl
    table_here (e ∷ es) all =
        let placed = All-head (IsPlaced s n) e es all in
        rw (placed.table_is, eq-eqb n n refl) (ap (λ l. e.1.row ∷ l) (table_here es (All-tail (IsPlaced s n) e es all)))

    table_elsewhere : (m : ℕ) (es : List (Vec ℕ Z × Placed R)) → (n == m) ≡ false → AllPlaced s n es → filter (λ r. s.table r == m) (shelf_rows es) ≡ []
    table_elsewhere m [] h all = refl
    table_elsewhere m (e ∷ es) h all =
        let placed = All-head (IsPlaced s n) e es all in
        rw (placed.table_is, h) (table_elsewhere m es h (All-tail (IsPlaced s n) e es all))

    pairs_here : (es : List (Vec ℕ Z × Placed R)) → AllPlaced s n es → map (pair_of s) (shelf_rows es) ≡ map (entry_pair s) es
    pairs_here [] all = refl
    pairs_here (e ∷ es) all =
        let placed = All-head (IsPlaced s n) e es all in
        λ i. (blake2b 32 (sym placed.key_is i), blake2b 32 (unwrap_or (s.spelling e.1.row) [])) ∷ pairs_here es (All-tail (IsPlaced s n) e es all) i

  module _ (first second third : List (Vec ℕ Z × Placed R)) (sound : IsSound s first second third) where
    of_partition : (n p : ℕ) (es : List (Vec ℕ Z × Placed R)) → AllPlaced s n es → AllPlaced s n (filter (in_partition p) es)
    of_partition n p es all = All-filter (in_partition p) (IsPlaced s n) es all

    table_three : (m p : ℕ) → filter (λ r. s.table r == m) (rows_in s p (shelf_rows first ++ (shelf_rows second ++ shelf_rows third))) ≡
        filter (λ r. s.table r == m) (shelf_rows (filter (in_partition p) first)) ++ (filter (λ r. s.table r == m) (shelf_rows (filter (in_partition p) second)) ++ filter (λ r. s.table r == m) (shelf_rows (filter (in_partition p) third)))
    table_three m p =
        ap (filter (λ r. s.table r == m)) (rows_three s first second third sound.in_first sound.in_second sound.in_third p)
        ∙ (filter-append (λ r. s.table r == m) (shelf_rows (filter (in_partition p) first)) (shelf_rows (filter (in_partition p) second) ++ shelf_rows (filter (in_partition p) third))
        ∙ ap (λ l. filter (λ r. s.table r == m) (shelf_rows (filter (in_partition p) first)) ++ l) (filter-append (λ r. s.table r == m) (shelf_rows (filter (in_partition p) second)) (shelf_rows (filter (in_partition p) third))))

    -- the pairs of a table and partition are those of its shelf's rows
    pub of_first : (p : ℕ) → pairs_of s 1 p (shelf_rows first ++ (shelf_rows second ++ shelf_rows third)) ≡ map (pair_of s) (shelf_rows (filter (in_partition p) first))
    of_first p =
        let a = of_partition 1 p first sound.in_first in
        let b = of_partition 2 p second sound.in_second in
        let c = of_partition 3 p third sound.in_third in
        ap (map (pair_of s)) (table_three 1 p ∙ ((λ i. table_here 1 (filter (in_partition p) first) a i ++ (table_elsewhere 2 1 (filter (in_partition p) second) refl b i ++ table_elsewhere 3 1 (filter (in_partition p) third) refl c i)) ∙ append-nil (shelf_rows (filter (in_partition p) first))))

    pub of_second : (p : ℕ) → pairs_of s 2 p (shelf_rows first ++ (shelf_rows second ++ shelf_rows third)) ≡ map (pair_of s) (shelf_rows (filter (in_partition p) second))
    of_second p =
        let a = of_partition 1 p first sound.in_first in
        let b = of_partition 2 p second sound.in_second in
        let c = of_partition 3 p third sound.in_third in
        ap (map (pair_of s)) (table_three 2 p ∙ ((λ i. table_elsewhere 1 2 (filter (in_partition p) first) refl a i ++ (table_here 2 (filter (in_partition p) second) b i ++ table_elsewhere 3 2 (filter (in_partition p) third) refl c i)) ∙ append-nil (shelf_rows (filter (in_partition p) second))))

    pub of_third : (p : ℕ) → pairs_of s 3 p (shelf_rows first ++ (shelf_rows second ++ shelf_rows third)) ≡ map (pair_of s) (shelf_rows (filter (in_partition p) third))
    of_third p =
        let a = of_partition 1 p first sound.in_first in
        let b = of_partition 2 p second sound.in_second in
        let c = of_partition 3 p third sound.in_third in
        ap (map (pair_of s)) (table_three 3 p ∙ (λ i. table_elsewhere 1 3 (filter (in_partition p) first) refl a i ++ (table_elsewhere 2 3 (filter (in_partition p) second) refl b i ++ table_here 3 (filter (in_partition p) third) c i)))

    -- another table has none
    pub of_none : (table p : ℕ) → (1 == table) ≡ false → (2 == table) ≡ false → (3 == table) ≡ false → pairs_of s table p (shelf_rows first ++ (shelf_rows second ++ shelf_rows third)) ≡ []
    of_none table p x y z =
        let a = of_partition 1 p first sound.in_first in
        let b = of_partition 2 p second sound.in_second in
        let c = of_partition 3 p third sound.in_third in
        ap (map (pair_of s)) (table_three table p ∙ (λ i. table_elsewhere 1 table (filter (in_partition p) first) x a i ++ (table_elsewhere 2 table (filter (in_partition p) second) y b i ++ table_elsewhere 3 table (filter (in_partition p) third) z c i)))

    pairs_first : (p : ℕ) → pairs_of s 1 p (shelf_rows first ++ (shelf_rows second ++ shelf_rows third)) ≡ map (entry_pair s) (filter (in_partition p) first)
    pairs_first p = of_first p ∙ pairs_here 1 (filter (in_partition p) first) (of_partition 1 p first sound.in_first)

    pairs_second : (p : ℕ) → pairs_of s 2 p (shelf_rows first ++ (shelf_rows second ++ shelf_rows third)) ≡ map (entry_pair s) (filter (in_partition p) second)
    pairs_second p = of_second p ∙ pairs_here 2 (filter (in_partition p) second) (of_partition 2 p second sound.in_second)

    pairs_third : (p : ℕ) → pairs_of s 3 p (shelf_rows first ++ (shelf_rows second ++ shelf_rows third)) ≡ map (entry_pair s) (filter (in_partition p) third)
    pairs_third p = of_third p ∙ pairs_here 3 (filter (in_partition p) third) (of_partition 3 p third sound.in_third)

    table_parts : (table : ℕ) (es : List (Vec ℕ Z × Placed R)) → ((p : ℕ) → pairs_of s table p (shelf_rows first ++ (shelf_rows second ++ shelf_rows third)) ≡ map (entry_pair s) (filter (in_partition p) es)) → concat (table_roots s table (shelf_rows first ++ (shelf_rows second ++ shelf_rows third))) ≡ shelf_roots s es
    table_parts table es same =
        concat_map (λ p. root_of s table p (shelf_rows first ++ (shelf_rows second ++ shelf_rows third))) every_byte
        ∙ (λ i. flat_map (λ p. root (blake2b 32) (same p i)) every_byte)

    -- the bytes of all roots are those of the shelves' roots
    pub roots_three : (shelf_roots s first ++ shelf_roots s second) ++ shelf_roots s third ≡ concat (roots s (shelf_rows first ++ (shelf_rows second ++ shelf_rows third)))
    roots_three =
        let rows = shelf_rows first ++ (shelf_rows second ++ shelf_rows third) in
        sym (concat_append (table_roots s 1 rows ++ table_roots s 2 rows) (table_roots s 3 rows)
        ∙ (ap (λ l. l ++ concat (table_roots s 3 rows)) (concat_append (table_roots s 1 rows) (table_roots s 2 rows))
        ∙ (λ i. (table_parts 1 first pairs_first i ++ table_parts 2 second pairs_second i) ++ table_parts 3 third pairs_third i)))
