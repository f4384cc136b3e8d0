-- One table's shelf: what is found in it, what a merge makes of it, and what a partition takes of it.
use Rattle.std.specs.Prelude.{◌≡◌, ℕ, ◌==◌, Bool, true, false, cond, not, IsTrue, List, [], ◌∷◌, Option, Some, None, All, Vec, map, filter, option_map, refl}
use Rattle.std.proofs.Common.{ap, sym, ◌∙◌}
use Rattle.std.proofs.lemmas.List.Elements.{All-cons, All-head, All-tail, All-weaker}
use Rattle.std.specs.List.{AllByRecursion}
use Rattle.std.specs.List.Sorted.{IsStrictlySortedBy}
use Rattle.std.proofs.lemmas.Map.Keys.{sorted_head, sorted_tail}
use Rattle.std.specs.Map.{keys_of, set_value}
use Rattle.std.specs.BTreeMap.{insert_entry, is_at as at}
use Rattle.std.specs.declared.cmp.Ordering.{Ordering}
use Rattle.std.specs.declared.cmp.Ordering.TheVariants.{Less, Equal, Greater}
use Rattle.std.specs.Ordering.{nat_cmp, is_eq, ordering_then}
use Rattle.std.specs.Cmp.Lexicographic.{slice_cmp}
use Rattle.std.proofs.lemmas.Bool.{eq-eqb}
use Rattle.std.proofs.lemmas.Cmp.{nat_cmp_total, nat_list_cmp_total, tied_itself}
use Rattle.std.specs.Cmp.{Equal-is}
use Rattle.std.proofs.lemmas.Option.{same_Some}
use Rattle.crdt_core.specs.IdentityLaws.{slice_identical, nat_identical}
use Rattle.table_schema.specs.Words.{Words, partition_at, partition_of}
use Rattle.table_schema.specs.Laws.{Same, Laws}
use Rattle.table_model.specs.Rows.{row_cmp, is_at, merged_in, find_row, is_past, rows_in, without}
use Rattle.table_store.specs.declared.shelf.Placed.{Placed}
use Rattle.table_store.specs.Shelf.{shelf_rows, shelf_find, in_partition, is_after, IsPlaced, AllPlaced, placed_at, vec_cmp}

then_not : (o p : Ordering) → is_eq o ≡ false → is_eq (ordering_then o p) ≡ false
then_not Less p h = refl
then_not Equal p h = cc
then_not Greater p h = refl

-- what stands at a row's place after it is merged in
abbrev pub merged_with : {R : Type 0} → (R → R → R) → Option R → R → R
merged_with join None row = row
merged_with join (Some old) row = join old row

test_agrees : {X Y : Type 0} (f : X → Bool) (g : Y → Bool) (h : X → Y) (xs : List X) → All (λ x. f x ≡ g (h x)) xs → map h (filter f xs) ≡ filter g (map h xs)
test_agrees f g h [] all = refl
test_agrees f g h (x ∷ xs) all =
    let rest = test_agrees f g h xs (All-tail (λ y. f y ≡ g (h y)) x xs all) in
    ap (λ b. map h (cond b (x ∷ filter f xs) (filter f xs))) (All-head (λ y. f y ≡ g (h y)) x xs all)
    ∙ elim (g (h x)) as (λ b. map h (cond b (x ∷ filter f xs) (filter f xs)) ≡ cond b (h x ∷ filter g (map h xs)) (filter g (map h xs))) [
      | true ↦ ap (λ ys. h x ∷ ys) rest
      | false ↦ rest
    ]

module _ {R : Type 0} (s : Words R) (n : ℕ) where
  -- what is found at a key is of this table, has the key, and is in its partition
  pub record IsFound (key : List ℕ) (found : Placed R) : Type 0 where
    pub proper : IsTrue (s.is_proper found.row)
    pub table_is : s.table found.row ≡ n
    pub key_is : s.key found.row ≡ key
    pub partition_is : found.partition ≡ partition_of s found.row

module _ {R Z : Type 0} where
  pub find_is_lookup : (key : List ℕ) (es : List (Vec ℕ Z × Placed R)) → option_map (λ p. p.row) (placed_at key es) ≡ shelf_find key es
  find_is_lookup key [] = refl
  find_is_lookup key (e ∷ es) =
      elim (is_eq (slice_cmp nat_cmp key e.0.items)) as (λ b. option_map (λ p. p.row) (cond b (Some e.1) (placed_at key es)) ≡ cond b (Some e.1.row) (shelf_find key es)) [
        | true ↦ refl
        | false ↦ find_is_lookup key es
      ]

  -- what a look-up by a key gave is what stands there
  pub at_same : (o : Option (Placed R)) (q key : List ℕ) (es : List (Vec ℕ Z × Placed R)) → o ≡ placed_at q es → q ≡ key → placed_at key es ≡ o
  at_same o q key es is one = sym (is ∙ ap (λ k. placed_at k es) one)

  -- no key is the one that is below all
  none_under : (key : List ℕ) (k : Vec ℕ Z) (es : List (Vec ℕ Z × Placed R)) → slice_cmp nat_cmp key k.items ≡ Less → AllByRecursion (λ q. vec_cmp k q ≡ Less) (keys_of es) → shelf_find key es ≡ None
  none_under key k [] h all = refl
  none_under key k (e ∷ es) h all = rw (nat_list_cmp_total.trans key k.items e.0.items h all.0) (none_under key k es h all.1)

  -- ---- what is set at a key that is there

  abbrev set_at : Vec ℕ Z → Placed R → List (Vec ℕ Z × Placed R) → List (Vec ℕ Z × Placed R)
  set_at k v es = set_value (at (λ (x : Vec ℕ Z). slice_cmp nat_cmp k.items x.items)) es v

  set_by : (k : Vec ℕ Z) (v : Placed R) (row : R) (e : Vec ℕ Z × Placed R) (es : List (Vec ℕ Z × Placed R)) → AllByRecursion (λ q. vec_cmp e.0 q ≡ Less) (keys_of es) →
      (shelf_find k.items es ≡ Some row → set_at k v es ≡ insert_entry vec_cmp es k v) → (o : Ordering) → vec_cmp k e.0 ≡ o → shelf_find k.items (e ∷ es) ≡ Some row → set_at k v (e ∷ es) ≡ insert_entry vec_cmp (e ∷ es) k v
  set_by k v row e es above rest Less o is = let none : shelf_find k.items (e ∷ es) ≡ None = rw o (none_under k.items e.0 es o above) in cc
  set_by k v row e es above rest Equal o is = rw o refl
  set_by k v row e es above rest Greater o is =
      let later : shelf_find k.items (e ∷ es) ≡ shelf_find k.items es = rw o refl in
      let same : set_at k v es ≡ insert_entry vec_cmp es k v = rest (sym later ∙ is) in
      rw o (ap (λ l. e ∷ l) same)

  set_is_put : (k : Vec ℕ Z) (v : Placed R) (row : R) (es : List (Vec ℕ Z × Placed R)) → IsStrictlySortedBy vec_cmp (keys_of es) → shelf_find k.items es ≡ Some row → set_at k v es ≡ insert_entry vec_cmp es k v
  set_is_put k v row [] sorted is = cc
  set_is_put k v row (e ∷ es) sorted is =
      set_by k v row e es (sorted_head vec_cmp e.0 (keys_of es) sorted) (set_is_put k v row es (sorted_tail vec_cmp e.0 (keys_of es) sorted)) (vec_cmp k e.0) refl is

  pub row_there : (key : List ℕ) (old : Placed R) (es : List (Vec ℕ Z × Placed R)) → placed_at key es ≡ Some old → shelf_find key es ≡ Some old.row
  row_there key old es found = sym (find_is_lookup key es) ∙ ap (option_map (λ p. p.row)) found

  pub none_there : (key : List ℕ) (es : List (Vec ℕ Z × Placed R)) → placed_at key es ≡ None → shelf_find key es ≡ None
  none_there key es found = sym (find_is_lookup key es) ∙ ap (option_map (λ p. p.row)) found

  -- what is written in the place of what was found at a key is put there
  pub written_is_put : (k : Vec ℕ Z) (v old : Placed R) (es new : List (Vec ℕ Z × Placed R)) (key : List ℕ) → key ≡ k.items → IsStrictlySortedBy vec_cmp (keys_of es) → placed_at k.items es ≡ Some old →
      new ≡ set_value (at (λ (x : Vec ℕ Z). slice_cmp nat_cmp key x.items)) es v → new ≡ insert_entry vec_cmp es k v
  written_is_put k v old es new key one sorted found written =
      written ∙ (ap (λ q. set_value (at (λ (x : Vec ℕ Z). slice_cmp nat_cmp q x.items)) es v) one ∙ set_is_put k v old.row es sorted (row_there k.items old es found))

  module _ (s : Words R) (n : ℕ) where
    at_key : (key : List ℕ) (e : Vec ℕ Z × Placed R) → IsPlaced s n e → is_at s n key e.1.row ≡ is_eq (slice_cmp nat_cmp key e.0.items)
    at_key key e p = rw (p.table_is, tied_itself nat_cmp_total n, p.key_is) refl

    -- the row of a table and key is the one at the key in the table's shelf
    pub found_here : (key : List ℕ) (es : List (Vec ℕ Z × Placed R)) → AllPlaced s n es → find_row s n key (shelf_rows es) ≡ shelf_find key es
    found_here key [] all = refl
    found_here key (e ∷ es) all =
        ap (λ b. cond b (Some e.1.row) (find_row s n key (shelf_rows es))) (at_key key e (All-head (IsPlaced s n) e es all))
        ∙ ap (cond (is_eq (slice_cmp nat_cmp key e.0.items)) (Some e.1.row)) (found_here key es (All-tail (IsPlaced s n) e es all))

    -- and no row of another table is there
    pub found_elsewhere : (m : ℕ) (key : List ℕ) (es : List (Vec ℕ Z × Placed R)) → is_eq (nat_cmp m n) ≡ false → AllPlaced s n es → find_row s m key (shelf_rows es) ≡ None
    found_elsewhere m key [] h all = refl
    found_elsewhere m key (e ∷ es) h all =
        let p = All-head (IsPlaced s n) e es all in
        let apart : is_at s m key e.1.row ≡ false = then_not (nat_cmp m (s.table e.1.row)) (slice_cmp nat_cmp key (s.key e.1.row)) (ap (λ t. is_eq (nat_cmp m t)) p.table_is ∙ h) in
        ap (λ b. cond b (Some e.1.row) (find_row s m key (shelf_rows es))) apart ∙ found_elsewhere m key es h (All-tail (IsPlaced s n) e es all)

    -- ---- a merge

    same_cmp : (r : R) (k : Vec ℕ Z) (e : Vec ℕ Z × Placed R) → s.table r ≡ n → k.items ≡ s.key r → IsPlaced s n e → row_cmp s r e.1.row ≡ vec_cmp k e.0
    same_cmp r k e t h p = rw (t, p.table_is, tied_itself nat_cmp_total n, sym h, sym p.key_is) refl

    merge_by : (join : R → R → R) (r : R) (k : Vec ℕ Z) (v : Placed R) (e : Vec ℕ Z × Placed R) (es : List (Vec ℕ Z × Placed R)) →
        k.items ≡ s.key r → v.row ≡ merged_with join (shelf_find (s.key r) (e ∷ es)) r → AllByRecursion (λ q. vec_cmp e.0 q ≡ Less) (keys_of es) → row_cmp s r e.1.row ≡ vec_cmp k e.0 →
        (v.row ≡ merged_with join (shelf_find (s.key r) es) r → shelf_rows (insert_entry vec_cmp es k v) ≡ merged_in join s r (shelf_rows es)) →
        (o : Ordering) → vec_cmp k e.0 ≡ o → shelf_rows (insert_entry vec_cmp (e ∷ es) k v) ≡ merged_in join s r (shelf_rows (e ∷ es))
    merge_by join r k v e es h is sorted same rest Less o =
        let below : slice_cmp nat_cmp (s.key r) e.0.items ≡ Less = ap (λ key. slice_cmp nat_cmp key e.0.items) (sym h) ∙ o in
        let none : shelf_find (s.key r) (e ∷ es) ≡ None = rw below (none_under (s.key r) e.0 es below sorted) in
        let new : v.row ≡ r = is ∙ ap (λ x. merged_with join x r) none in
        rw (same, o) (ap (λ x. x ∷ e.1.row ∷ shelf_rows es) new)
    merge_by join r k v e es h is sorted same rest Equal o =
        let here : slice_cmp nat_cmp (s.key r) e.0.items ≡ Equal = ap (λ key. slice_cmp nat_cmp key e.0.items) (sym h) ∙ o in
        let found : shelf_find (s.key r) (e ∷ es) ≡ Some e.1.row = rw here refl in
        let new : v.row ≡ join e.1.row r = is ∙ ap (λ x. merged_with join x r) found in
        rw (same, o) (ap (λ x. x ∷ shelf_rows es) new)
    merge_by join r k v e es h is sorted same rest Greater o =
        let above : slice_cmp nat_cmp (s.key r) e.0.items ≡ Greater = ap (λ key. slice_cmp nat_cmp key e.0.items) (sym h) ∙ o in
        let later : shelf_find (s.key r) (e ∷ es) ≡ shelf_find (s.key r) es = rw above refl in
        rw (same, o) (ap (λ xs. e.1.row ∷ xs) (rest (is ∙ ap (λ x. merged_with join x r) later)))

    -- an entry that is put at a row's key, with the row merged in, merges the row into the rows
    pub merged_here : (join : R → R → R) (r : R) (k : Vec ℕ Z) (v : Placed R) (es : List (Vec ℕ Z × Placed R)) →
        s.table r ≡ n → k.items ≡ s.key r → v.row ≡ merged_with join (shelf_find (s.key r) es) r → IsStrictlySortedBy vec_cmp (keys_of es) → AllPlaced s n es →
        shelf_rows (insert_entry vec_cmp es k v) ≡ merged_in join s r (shelf_rows es)
    merged_here join r k v [] t h is sorted all = ap (λ x. x ∷ []) is
    merged_here join r k v (e ∷ es) t h is sorted all =
        merge_by join r k v e es h is (sorted_head vec_cmp e.0 (keys_of es) sorted) (same_cmp r k e t h (All-head (IsPlaced s n) e es all))
        (λ is-rest. merged_here join r k v es t h is-rest (sorted_tail vec_cmp e.0 (keys_of es) sorted) (All-tail (IsPlaced s n) e es all))
        (vec_cmp k e.0) refl

    put_by : (k : Vec ℕ Z) (v : Placed R) (e : Vec ℕ Z × Placed R) (es : List (Vec ℕ Z × Placed R)) → IsPlaced s n (k, v) → AllPlaced s n (e ∷ es) → AllPlaced s n (insert_entry vec_cmp es k v) → (o : Ordering) → vec_cmp k e.0 ≡ o → AllPlaced s n (insert_entry vec_cmp (e ∷ es) k v)
    put_by k v e es p all rest Less o = rw o (All-cons (IsPlaced s n) (k, v) (e ∷ es) p all)
    put_by k v e es p all rest Equal o =
        let one : k.items ≡ e.0.items = slice_identical nat_identical k.items e.0.items o in
        rw o (All-cons (IsPlaced s n) (e.0, v) es
        (record { proper = p.proper; table_is = p.table_is; key_is = sym one ∙ p.key_is; partition_is = p.partition_is })
        (All-tail (IsPlaced s n) e es all))
    put_by k v e es p all rest Greater o = rw o (All-cons (IsPlaced s n) e (insert_entry vec_cmp es k v) (All-head (IsPlaced s n) e es all) rest)

    pub placed_put : (k : Vec ℕ Z) (v : Placed R) (es : List (Vec ℕ Z × Placed R)) → IsPlaced s n (k, v) → AllPlaced s n es → AllPlaced s n (insert_entry vec_cmp es k v)
    placed_put k v [] p all = All-cons (IsPlaced s n) (k, v) [] p all
    placed_put k v (e ∷ es) p all = put_by k v e es p all (placed_put k v es p (All-tail (IsPlaced s n) e es all)) (vec_cmp k e.0) refl

    found_by : (key : List ℕ) (found : Placed R) (e : Vec ℕ Z × Placed R) (rest : Option (Placed R)) → IsPlaced s n e → (rest ≡ Some found → IsFound s n key found) → (b : Bool) → is_eq (slice_cmp nat_cmp key e.0.items) ≡ b → cond b (Some e.1) rest ≡ Some found → IsFound s n key found
    found_by key found e rest p others true h is =
        let one : e.1 ≡ found = same_Some e.1 found is in
        let here : key ≡ e.0.items = slice_identical nat_identical key e.0.items ((Equal-is _).0 h) in
        rw (sym one) (record { proper = p.proper; table_is = p.table_is; key_is = sym p.key_is ∙ sym here; partition_is = p.partition_is })
    found_by key found e rest p others false h is = others is

    pub found_is : (key : List ℕ) (found : Placed R) (es : List (Vec ℕ Z × Placed R)) → AllPlaced s n es → placed_at key es ≡ Some found → IsFound s n key found
    found_is key found [] all h = cc
    found_is key found (e ∷ es) all h =
        found_by key found e (placed_at key es) (All-head (IsPlaced s n) e es all) (found_is key found es (All-tail (IsPlaced s n) e es all)) (is_eq (slice_cmp nat_cmp key e.0.items)) refl h

    -- ---- a partition

    pub partition_here : (p : ℕ) (es : List (Vec ℕ Z × Placed R)) → AllPlaced s n es → shelf_rows (filter (in_partition p) es) ≡ rows_in s p (shelf_rows es)
    partition_here p es all =
        test_agrees (in_partition p) (λ r. partition_of s r == p) (λ e. e.1.row) es
        (All-weaker (IsPlaced s n) (λ e. in_partition p e ≡ (partition_of s e.1.row == p)) (λ e placed. ap (λ q. q == p) placed.partition_is) es all)

    pub partition_gone : (p : ℕ) (es : List (Vec ℕ Z × Placed R)) → AllPlaced s n es → shelf_rows (filter (λ e. not (in_partition p e)) es) ≡ without s p (shelf_rows es)
    partition_gone p es all =
        test_agrees (λ e. not (in_partition p e)) (λ r. not (partition_of s r == p)) (λ e. e.1.row) es
        (All-weaker (IsPlaced s n) (λ e. not (in_partition p e) ≡ not (partition_of s e.1.row == p)) (λ e placed. ap (λ q. not (q == p)) placed.partition_is) es all)

-- ---- a window

module _ {R Z : Type 0} (s : Words R) (n : ℕ) (prefix after : List ℕ) where
  past_by : (e : Vec ℕ Z × Placed R) → IsPlaced s n e → is_after prefix after e ≡ is_past s n prefix after e.1.row
  past_by e placed = rw (placed.table_is, eq-eqb n n refl, sym placed.key_is) refl

  pub past_here : (es : List (Vec ℕ Z × Placed R)) → AllPlaced s n es → shelf_rows (filter (is_after prefix after) es) ≡ filter (is_past s n prefix after) (shelf_rows es)
  past_here es all =
      test_agrees (is_after prefix after) (is_past s n prefix after) (λ e. e.1.row) es
      (All-weaker (IsPlaced s n) (λ e. is_after prefix after e ≡ is_past s n prefix after e.1.row) past_by es all)

  pub past_elsewhere : (m : ℕ) (es : List (Vec ℕ Z × Placed R)) → (n == m) ≡ false → AllPlaced s n es → filter (is_past s m prefix after) (shelf_rows es) ≡ []
  past_elsewhere m [] h all = refl
  past_elsewhere m (e ∷ es) h all =
      let placed = All-head (IsPlaced s n) e es all in
      rw (placed.table_is, h) (past_elsewhere m es h (All-tail (IsPlaced s n) e es all))

-- ---- the entry that a merge puts

module _ {R Z : Type 0} (s : Words R) (n : ℕ) (r : R) (k : Vec ℕ Z) (v : Placed R) (proper : IsTrue (s.is_proper r)) (t : s.table r ≡ n) (h : k.items ≡ s.key r) where
  -- a row that is new at its place
  pub entry_new : v.partition ≡ partition_of s r → v.row ≡ r → IsPlaced s n (k, v)
  entry_new p is =
      record {
        proper = rw is proper;
        table_is = ap s.table is ∙ t;
        key_is = h ∙ sym (ap s.key is);
        partition_is = p ∙ sym (ap (partition_of s) is);
      }

  -- a row that is merged with the one that was found there
  pub entry_merged : {join : R → R → R} → Laws join s → (old : Placed R) → v.partition ≡ old.partition → v.row ≡ join old.row r → IsFound s n (s.key r) old → IsPlaced s n (k, v)
  entry_merged {join} laws old p is was =
      let same : Same s old.row r = record { first_proper = was.proper; second_proper = proper; table = was.table_is ∙ sym t; key = was.key_is } in
      let again : Same s (join old.row r) old.row = record {
        first_proper = laws.joined_is_proper old.row r same;
        second_proper = was.proper;
        table = laws.joined_table old.row r same;
        key = laws.joined_key old.row r same;
      } in
      let place-is : partition_of s (join old.row r) ≡ partition_of s old.row = ap partition_at (laws.one_position (join old.row r) old.row again) in
      record {
        proper = rw is (laws.joined_is_proper old.row r same);
        table_is = ap s.table is ∙ (laws.joined_table old.row r same ∙ was.table_is);
        key_is = h ∙ sym (ap s.key is ∙ (laws.joined_key old.row r same ∙ was.key_is));
        partition_is = p ∙ (was.partition_is ∙ sym (ap (partition_of s) is ∙ place-is));
      }
