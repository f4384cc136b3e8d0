-- The rows of a partition by the keys that the index has of it.
use Rattle.std.specs.Prelude.{◌≡◌, ℕ, Bool, true, false, cond, not, ◌&&◌, ◌||◌, List, [], ◌∷◌, Option, Some, None, Result, Ok, Err, OnOk, OnErr, Vec, filter, filter_map, is_some, refl}
use Rattle.std.proofs.Common.{ap, sym, ◌∙◌, subst}
use Rattle.std.proofs.lemmas.Bool.{eqb-true, eqb-false, and_parts}
use Rattle.std.specs.List.{AllByRecursion, list_all, cons_option}
use Rattle.std.specs.List.Sorted.{IsStrictlySortedBy}
use Rattle.std.proofs.lemmas.Map.Keys.{sorted_head, sorted_tail}
use Rattle.std.specs.Map.{keys_of, remove_entry}
use Rattle.std.specs.BTreeMap.{BTreeMap, insert_entry, is_at}
use Rattle.std.specs.declared.cmp.Ordering.{Ordering}
use Rattle.std.specs.declared.cmp.Ordering.TheVariants.{Less, Equal, Greater}
use Rattle.std.specs.Ordering.{nat_cmp, is_eq, match_ordering}
use Rattle.std.specs.Cmp.{Equal-is}
use Rattle.std.specs.Cmp.Lexicographic.{slice_cmp}
use Rattle.std.proofs.lemmas.Cmp.{nat_list_cmp_total, tied_back}
use Rattle.std.proofs.lemmas.Option.{same_Some}
use Rattle.crdt_core.specs.IdentityLaws.{slice_identical, nat_identical}
use Rattle.crdt_core.specs.LexLaws.{turned}
use Rattle.table_store.proofs.Keys.{ne_cmp}
use Rattle.table_store.specs.declared.index.Part.{Part}
use Rattle.table_store.specs.declared.shelf.Placed.{Placed}
use Rattle.table_store.specs.Index.{Key, has_key, keys_under}
use Rattle.table_store.specs.Shelf.{shelf_rows, given, in_partition, placed_at, row_in, has_key_of, is_indexed, vec_cmp}

-- ---- keys in order

module _ {Z : Type 0} where
  -- each of these is above the key
  abbrev pub Above : List ℕ → List (Vec ℕ Z) → Type 0
  Above key keys = AllByRecursion (λ k. slice_cmp nat_cmp key k.items ≡ Less) keys

  higher : (a b : List ℕ) (keys : List (Vec ℕ Z)) → slice_cmp nat_cmp a b ≡ Less → Above b keys → Above a keys
  higher a b [] h all = tt
  higher a b (k ∷ keys) h all = (nat_list_cmp_total.trans a b k.items h all.0, higher a b keys h all.1)

  same_above : (a b : List ℕ) (keys : List (Vec ℕ Z)) → a ≡ b → Above b keys → Above a keys
  same_above a b keys e all = subst (λ key. Above key keys) (sym e) all

  absent : (key : List ℕ) (keys : List (Vec ℕ Z)) → Above key keys → has_key key keys ≡ false
  absent key [] all = refl
  absent key (k ∷ keys) all = rw all.0 (absent key keys all.1)

-- ---- what stands at a key

module _ {R Z : Type 0} where
  pub none_at : (key : List ℕ) (es : List (Vec ℕ Z × Placed R)) → Above key (keys_of es) → placed_at key es ≡ None
  none_at key [] all = refl
  none_at key (e ∷ es) all = rw all.0 (none_at key es all.1)

  abbrev pub walked : ℕ → List (Vec ℕ Z) → List (Vec ℕ Z × Placed R) → List R
  walked p keys es = filter_map (λ k. row_in p k.items es) keys

  -- keys above the first one find nothing there
  past_first : (p : ℕ) (e : Vec ℕ Z × Placed R) (es : List (Vec ℕ Z × Placed R)) (keys : List (Vec ℕ Z)) → Above e.0.items keys → walked p keys (e ∷ es) ≡ walked p keys es
  past_first p e es [] all = refl
  past_first p e es (k ∷ keys) all =
      let apart : slice_cmp nat_cmp k.items e.0.items ≡ Greater = turned nat_list_cmp_total e.0.items k.items Less all.0 in
      (λ i. cons_option (given p (cond (is_eq (apart i)) (Some e.1) (placed_at k.items es))) (past_first p e es keys all.1 i))

  -- the keys have that of each row of the partition
  abbrev pub AreThere : ℕ → List (Vec ℕ Z) → List (Vec ℕ Z × Placed R) → Type 0
  AreThere p keys es = AllByRecursion (λ e. in_partition p e ≡ true → has_key e.0.items keys ≡ true) es

  -- so have those past a key that is below all
  there_past : (p : ℕ) (k : Vec ℕ Z) (keys : List (Vec ℕ Z)) (es : List (Vec ℕ Z × Placed R)) → Above k.items (keys_of es) → AreThere p (k ∷ keys) es → AreThere p keys es
  there_past p k keys [] all there = tt
  there_past p k keys (e ∷ es) all there =
      let apart : slice_cmp nat_cmp e.0.items k.items ≡ Greater = turned nat_list_cmp_total k.items e.0.items Less all.0 in
      ((λ h. sym (ap (λ o. is_eq o || has_key e.0.items keys) apart) ∙ there.0 h), there_past p k keys es all.1 there.1)

  module _ (p : ℕ) (e : Vec ℕ Z × Placed R) (es : List (Vec ℕ Z × Placed R)) (sorted : IsStrictlySortedBy vec_cmp (keys_of (e ∷ es)))
      (later : (keys : List (Vec ℕ Z)) → IsStrictlySortedBy vec_cmp keys → AreThere p keys es → walked p keys es ≡ shelf_rows (filter (in_partition p) es)) where
    outside_by : (keys : List (Vec ℕ Z)) (rows : List R) → rows ≡ shelf_rows (filter (in_partition p) es) → (in_partition p e ≡ true → has_key e.0.items keys ≡ true) → has_key e.0.items keys ≡ false →
        (b : Bool) → in_partition p e ≡ b → rows ≡ shelf_rows (cond b (e ∷ filter (in_partition p) es) (filter (in_partition p) es))
    outside_by keys rows is there not-there true h = let wrong : true ≡ false = sym (there h) ∙ not-there in cc
    outside_by keys rows is there not-there false h = is

    inside_by : (rows : List R) → rows ≡ shelf_rows (filter (in_partition p) es) → (b : Bool) →
        cons_option (cond b (Some e.1.row) None) rows ≡ shelf_rows (cond b (e ∷ filter (in_partition p) es) (filter (in_partition p) es))
    inside_by rows is true = ap (λ l. e.1.row ∷ l) is
    inside_by rows is false = is

    walk_by : (k : Vec ℕ Z) (keys : List (Vec ℕ Z)) → IsStrictlySortedBy vec_cmp (k ∷ keys) → AreThere p (k ∷ keys) (e ∷ es) →
        (AreThere p keys (e ∷ es) → walked p keys (e ∷ es) ≡ shelf_rows (filter (in_partition p) (e ∷ es))) →
        (o : Ordering) → slice_cmp nat_cmp k.items e.0.items ≡ o → walked p (k ∷ keys) (e ∷ es) ≡ shelf_rows (filter (in_partition p) (e ∷ es))
    walk_by k keys in-order there next Less o =
        let below : Above k.items (keys_of (e ∷ es)) = (o, higher k.items e.0.items (keys_of es) o (sorted_head vec_cmp e.0 (keys_of es) sorted)) in
        ap (λ found. cons_option (given p found) (walked p keys (e ∷ es))) (none_at k.items (e ∷ es) below) ∙ next (there_past p k keys (e ∷ es) below there)
    walk_by k keys in-order there next Equal o =
        let one : k.items ≡ e.0.items = slice_identical nat_identical k.items e.0.items o in
        let rest-above : Above e.0.items keys = same_above e.0.items k.items keys (sym one) (sorted_head vec_cmp k keys in-order) in
        let rows-above : Above k.items (keys_of es) = same_above k.items e.0.items (keys_of es) one (sorted_head vec_cmp e.0 (keys_of es) sorted) in
        let rest = later keys (sorted_tail vec_cmp k keys in-order) (there_past p k keys es rows-above there.1) in
        (λ i. cons_option (given p (cond (is_eq (o i)) (Some e.1) (placed_at k.items es))) (past_first p e es keys rest-above i))
        ∙ inside_by (walked p keys es) rest (in_partition p e)
    walk_by k keys in-order there next Greater o =
        let less : slice_cmp nat_cmp e.0.items k.items ≡ Less = turned nat_list_cmp_total k.items e.0.items Greater o in
        let all-above : Above e.0.items (k ∷ keys) = (less, higher e.0.items k.items keys less (sorted_head vec_cmp k keys in-order)) in
        outside_by (k ∷ keys) (walked p (k ∷ keys) (e ∷ es)) (past_first p e es (k ∷ keys) all-above ∙ later (k ∷ keys) in-order there.1) there.0 (absent e.0.items (k ∷ keys) all-above) (in_partition p e) refl

    walk_one : (keys : List (Vec ℕ Z)) → IsStrictlySortedBy vec_cmp keys → AreThere p keys (e ∷ es) → walked p keys (e ∷ es) ≡ shelf_rows (filter (in_partition p) (e ∷ es))
    walk_one [] in-order there = outside_by [] [] (later [] in-order there.1) there.0 refl (in_partition p e) refl
    walk_one (k ∷ keys) in-order there =
        walk_by k keys in-order there (walk_one keys (sorted_tail vec_cmp k keys in-order)) (slice_cmp nat_cmp k.items e.0.items) refl

  none_walked : (p : ℕ) (keys : List (Vec ℕ Z)) → walked p keys [] ≡ []
  none_walked p [] = refl
  none_walked p (k ∷ keys) = none_walked p keys

  -- the rows that are found at the keys, one after the other, are those of the partition
  pub walk_is : (p : ℕ) (keys : List (Vec ℕ Z)) (es : List (Vec ℕ Z × Placed R)) → IsStrictlySortedBy vec_cmp (keys_of es) → IsStrictlySortedBy vec_cmp keys → AreThere p keys es →
      walked p keys es ≡ shelf_rows (filter (in_partition p) es)
  walk_is p keys [] sorted in-order there = none_walked p keys
  walk_is p keys (e ∷ es) sorted in-order there =
      walk_one p e es sorted (λ ks. walk_is p ks es (sorted_tail vec_cmp e.0 (keys_of es) sorted)) keys in-order there

-- ---- an index that has each row's key

module _ {R : Type 0} where
  there_by : (index : BTreeMap ℕ Part) (p : ℕ) (keys : List (Key)) (e : Key × Placed R) → keys_under index p ≡ keys → is_indexed index e ≡ true → in_partition p e ≡ true → has_key e.0.items keys ≡ true
  there_by index p keys e is indexed h =
      let one : e.1.partition ≡ p = eqb-true e.1.partition p h in
      ap (has_key e.0.items) (sym is ∙ ap (keys_under index) (sym one)) ∙ indexed

  pub are_there : (index : BTreeMap ℕ Part) (p : ℕ) (keys : List (Key)) (es : List (Key × Placed R)) → keys_under index p ≡ keys → list_all (is_indexed index) es ≡ true → AreThere p keys es
  are_there index p keys [] is all = tt
  are_there index p keys (e ∷ es) is all =
      let both = and_parts (is_indexed index e) (list_all (is_indexed index) es) all in
      (there_by index p keys e is both.0, are_there index p keys es is both.1)

module _ {R Z : Type 0} where
  none_in_by : (p : ℕ) (e : Vec ℕ Z × Placed R) → (in_partition p e ≡ true → false ≡ true) → (b : Bool) → in_partition p e ≡ b → b ≡ false
  none_in_by p e there true h = sym (there h)
  none_in_by p e there false h = refl

  -- a partition without keys has no rows
  pub none_in : (p : ℕ) (es : List (Vec ℕ Z × Placed R)) → AreThere p [] es → filter (in_partition p) es ≡ []
  none_in p [] there = refl
  none_in p (e ∷ es) there = ap (λ b. cond b (e ∷ filter (in_partition p) es) (filter (in_partition p) es)) (none_in_by p e there.0 (in_partition p e) refl) ∙ none_in p es there.1

  pub all_out : (p : ℕ) (es : List (Vec ℕ Z × Placed R)) → AreThere p [] es → filter (λ e. not (in_partition p e)) es ≡ es
  all_out p [] there = refl
  all_out p (e ∷ es) there =
      ap (λ b. cond (not b) (e ∷ filter (λ d. not (in_partition p d)) es) (filter (λ d. not (in_partition p d)) es)) (none_in_by p e there.0 (in_partition p e) refl)
      ∙ ap (λ l. e ∷ l) (all_out p es there.1)

  -- ---- after a merge

  pub indexed_more : (old new : BTreeMap ℕ Part) (es : List (Vec ℕ Z × Placed R)) → ((q : ℕ) (key : List ℕ) → has_key key (keys_under old q) ≡ true → has_key key (keys_under new q) ≡ true) →
      list_all (is_indexed old) es ≡ true → list_all (is_indexed new) es ≡ true
  indexed_more old new [] more all = refl
  indexed_more old new (e ∷ es) more all =
      let both = and_parts (is_indexed old e) (list_all (is_indexed old) es) all in
      ap (λ b. b && list_all (is_indexed new) es) (more e.1.partition e.0.items both.0) ∙ indexed_more old new es more both.1

  module _ (index : BTreeMap ℕ Part) where
    put_by : (k : Vec ℕ Z) (v : Placed R) (e : Vec ℕ Z × Placed R) (es : List (Vec ℕ Z × Placed R)) → has_key k.items (keys_under index v.partition) ≡ true → is_indexed index e ≡ true → list_all (is_indexed index) es ≡ true →
        list_all (is_indexed index) (insert_entry vec_cmp es k v) ≡ true → (o : Ordering) → vec_cmp k e.0 ≡ o → list_all (is_indexed index) (insert_entry vec_cmp (e ∷ es) k v) ≡ true
    put_by k v e es has here all rest Less o =
        ap (λ q. list_all (is_indexed index) (match_ordering q ((k, v) ∷ e ∷ es) ((e.0, v) ∷ es) (e ∷ insert_entry vec_cmp es k v))) o ∙ (λ i. has i && (here i && all i))
    put_by k v e es has here all rest Equal o =
        let one : k.items ≡ e.0.items = slice_identical nat_identical k.items e.0.items o in
        let found : has_key e.0.items (keys_under index v.partition) ≡ true = ap (λ key. has_key key (keys_under index v.partition)) (sym one) ∙ has in
        ap (λ q. list_all (is_indexed index) (match_ordering q ((k, v) ∷ e ∷ es) ((e.0, v) ∷ es) (e ∷ insert_entry vec_cmp es k v))) o ∙ (λ i. found i && all i)
    put_by k v e es has here all rest Greater o =
        ap (λ q. list_all (is_indexed index) (match_ordering q ((k, v) ∷ e ∷ es) ((e.0, v) ∷ es) (e ∷ insert_entry vec_cmp es k v))) o ∙ (λ i. here i && rest i)

    -- a row that is put at a key that the index has
    pub indexed_put : (k : Vec ℕ Z) (v : Placed R) (es : List (Vec ℕ Z × Placed R)) → has_key k.items (keys_under index v.partition) ≡ true → list_all (is_indexed index) es ≡ true → list_all (is_indexed index) (insert_entry vec_cmp es k v) ≡ true
    indexed_put k v [] has all = ap (λ b. b && true) has
    indexed_put k v (e ∷ es) has all =
        let both = and_parts (is_indexed index e) (list_all (is_indexed index) es) all in
        put_by k v e es has both.0 both.1 (indexed_put k v es has both.1) (vec_cmp k e.0) refl

    -- whether or not there was room to put it
    pub indexed_put_or_not : {A E : Type 0} (r : Result A E) (k : Vec ℕ Z) (v : Placed R) (es new : List (Vec ℕ Z × Placed R)) → OnOk r (new ≡ insert_entry vec_cmp es k v) → OnErr r (new ≡ es) →
        has_key k.items (keys_under index v.partition) ≡ true → list_all (is_indexed index) es ≡ true → list_all (is_indexed index) new ≡ true
    indexed_put_or_not (Ok x) k v es new put stays has all = ap (list_all (is_indexed index)) put ∙ indexed_put k v es has all
    indexed_put_or_not (Err e) k v es new put stays has all = ap (list_all (is_indexed index)) stays ∙ all

    found_by : (key : List ℕ) (found : Placed R) (e : Vec ℕ Z × Placed R) (es : List (Vec ℕ Z × Placed R)) → is_indexed index e ≡ true → (placed_at key es ≡ Some found → has_key key (keys_under index found.partition) ≡ true) →
        (b : Bool) → is_eq (slice_cmp nat_cmp key e.0.items) ≡ b → cond b (Some e.1) (placed_at key es) ≡ Some found → has_key key (keys_under index found.partition) ≡ true
    found_by key found e es here rest true h is =
        let one : e.1 ≡ found = same_Some e.1 found is in
        let same : key ≡ e.0.items = slice_identical nat_identical key e.0.items ((Equal-is _).0 h) in
        (λ i. has_key (same i) (keys_under index (sym (ap (λ v. v.partition) one) i))) ∙ here
    found_by key found e es here rest false h is = rest is

    -- it has the key of what is found
    pub indexed_found : (key : List ℕ) (found : Placed R) (es : List (Vec ℕ Z × Placed R)) → list_all (is_indexed index) es ≡ true → placed_at key es ≡ Some found → has_key key (keys_under index found.partition) ≡ true
    indexed_found key found [] all h = cc
    indexed_found key found (e ∷ es) all h =
        let both = and_parts (is_indexed index e) (list_all (is_indexed index) es) all in
        found_by key found e es both.0 (indexed_found key found es both.1) (is_eq (slice_cmp nat_cmp key e.0.items)) refl h

    -- a row that is put in the place of one of its partition
    pub indexed_again : (k : Vec ℕ Z) (v old : Placed R) (es new : List (Vec ℕ Z × Placed R)) → new ≡ insert_entry vec_cmp es k v → v.partition ≡ old.partition → placed_at k.items es ≡ Some old → list_all (is_indexed index) es ≡ true → list_all (is_indexed index) new ≡ true
    indexed_again k v old es new put same found all =
        ap (list_all (is_indexed index)) put ∙ indexed_put k v es (ap (λ q. has_key k.items (keys_under index q)) same ∙ indexed_found k.items old es all found) all

-- ---- rows that are dropped

and_false : (b : Bool) → (b && false) ≡ false
and_false true = refl
and_false false = refl

both_stay : (b x y : Bool) → (not (b && x) && not (b && y)) ≡ not (b && (x || y))
both_stay true true y = refl
both_stay true false y = refl
both_stay false x y = refl

module _ {R Z : Type 0} (p : ℕ) where
  -- the others, where the row at a key of the partition goes
  abbrev pub kept_at : Vec ℕ Z → Vec ℕ Z × Placed R → Bool
  kept_at key e = not (in_partition p e && has_key_of key e)

  -- the same of several keys
  abbrev pub kept_of : List (Vec ℕ Z) → Vec ℕ Z × Placed R → Bool
  kept_of keys e = not (in_partition p e && has_key e.0.items keys)

  -- rows above the key stay
  stay_above : (key : Vec ℕ Z) (es : List (Vec ℕ Z × Placed R)) → Above key.items (keys_of es) → filter (kept_at key) es ≡ es
  stay_above key [] all = refl
  stay_above key (e ∷ es) all =
      let apart : slice_cmp nat_cmp e.0.items key.items ≡ Greater = turned nat_list_cmp_total key.items e.0.items Less all.0 in
      let stays : kept_at key e ≡ true = ap (λ o. not (in_partition p e && is_eq o)) apart ∙ ap not (and_false (in_partition p e)) in
      ap (λ b. cond b (e ∷ filter (kept_at key) es) (filter (kept_at key) es)) stays ∙ ap (λ l. e ∷ l) (stay_above key es all.1)

  module _ (key : Vec ℕ Z) where
    -- what stands at the key leaves the rows
    abbrev gone : List (Vec ℕ Z × Placed R) → List (Vec ℕ Z × Placed R)
    gone es = remove_entry (is_at (λ (k : Vec ℕ Z). slice_cmp nat_cmp key.items k.items)) es

    gone_here : (e : Vec ℕ Z × Placed R) (es : List (Vec ℕ Z × Placed R)) (row : R) → filter (kept_at key) es ≡ es → (b : Bool) → cond b (Some e.1.row) None ≡ Some row → es ≡ cond (not (b && true)) (e ∷ filter (kept_at key) es) (filter (kept_at key) es)
    gone_here e es row rest true is = sym rest
    gone_here e es row rest false is = cc

    gone_by : (e : Vec ℕ Z × Placed R) (es : List (Vec ℕ Z × Placed R)) (row : R) → Above e.0.items (keys_of es) → (row_in p key.items es ≡ Some row → gone es ≡ filter (kept_at key) es) →
        (o : Ordering) → slice_cmp nat_cmp key.items e.0.items ≡ o → row_in p key.items (e ∷ es) ≡ Some row → gone (e ∷ es) ≡ filter (kept_at key) (e ∷ es)
    gone_by e es row above rest Less o is =
        let nothing : placed_at key.items (e ∷ es) ≡ None = none_at key.items (e ∷ es) (o, higher key.items e.0.items (keys_of es) o above) in
        let wrong : None ≡ Some row = ap (given p) (sym nothing) ∙ is in
        cc
    gone_by e es row above rest Equal o is =
        let one : key.items ≡ e.0.items = slice_identical nat_identical key.items e.0.items o in
        let back : slice_cmp nat_cmp e.0.items key.items ≡ Equal = tied_back nat_list_cmp_total key.items e.0.items o in
        let found : cond (in_partition p e) (Some e.1.row) None ≡ Some row = sym (ap (λ q. given p (cond (is_eq q) (Some e.1) (placed_at key.items es))) o) ∙ is in
        ap (λ q. cond (is_eq q) es (e ∷ gone es)) o
        ∙ (gone_here e es row (stay_above key es (same_above key.items e.0.items (keys_of es) one above)) (in_partition p e) found
        ∙ ap (λ q. cond (not (in_partition p e && is_eq q)) (e ∷ filter (kept_at key) es) (filter (kept_at key) es)) (sym back))
    gone_by e es row above rest Greater o is =
        let less : slice_cmp nat_cmp e.0.items key.items ≡ Less = turned nat_list_cmp_total key.items e.0.items Greater o in
        let stays : kept_at key e ≡ true = ap (λ q. not (in_partition p e && is_eq q)) less ∙ ap not (and_false (in_partition p e)) in
        let later : row_in p key.items es ≡ Some row = sym (ap (λ q. given p (cond (is_eq q) (Some e.1) (placed_at key.items es))) o) ∙ is in
        ap (λ q. cond (is_eq q) es (e ∷ gone es)) o
        ∙ (ap (λ l. e ∷ l) (rest later) ∙ sym (ap (λ b. cond b (e ∷ filter (kept_at key) es) (filter (kept_at key) es)) stays))

    gone_is : (es : List (Vec ℕ Z × Placed R)) (row : R) → IsStrictlySortedBy vec_cmp (keys_of es) → row_in p key.items es ≡ Some row → gone es ≡ filter (kept_at key) es
    gone_is [] row sorted is = cc
    gone_is (e ∷ es) row sorted is =
        gone_by e es row (sorted_head vec_cmp e.0 (keys_of es) sorted) (gone_is es row (sorted_tail vec_cmp e.0 (keys_of es) sorted)) (slice_cmp nat_cmp key.items e.0.items) refl is

    left_here : (e : Vec ℕ Z × Placed R) (es : List (Vec ℕ Z × Placed R)) → filter (kept_at key) es ≡ es → (b : Bool) → cond b (Some e.1.row) None ≡ None → cond (not (b && true)) (e ∷ filter (kept_at key) es) (filter (kept_at key) es) ≡ e ∷ es
    left_here e es rest true is = cc
    left_here e es rest false is = ap (λ l. e ∷ l) rest

    left_by : (e : Vec ℕ Z × Placed R) (es : List (Vec ℕ Z × Placed R)) → Above e.0.items (keys_of es) → (row_in p key.items es ≡ None → filter (kept_at key) es ≡ es) →
        (o : Ordering) → slice_cmp nat_cmp key.items e.0.items ≡ o → row_in p key.items (e ∷ es) ≡ None → filter (kept_at key) (e ∷ es) ≡ e ∷ es
    left_by e es above rest Less o is = stay_above key (e ∷ es) (o, higher key.items e.0.items (keys_of es) o above)
    left_by e es above rest Equal o is =
        let one : key.items ≡ e.0.items = slice_identical nat_identical key.items e.0.items o in
        let back : slice_cmp nat_cmp e.0.items key.items ≡ Equal = tied_back nat_list_cmp_total key.items e.0.items o in
        let found : cond (in_partition p e) (Some e.1.row) None ≡ None = sym (ap (λ q. given p (cond (is_eq q) (Some e.1) (placed_at key.items es))) o) ∙ is in
        ap (λ q. cond (not (in_partition p e && is_eq q)) (e ∷ filter (kept_at key) es) (filter (kept_at key) es)) back
        ∙ left_here e es (stay_above key es (same_above key.items e.0.items (keys_of es) one above)) (in_partition p e) found
    left_by e es above rest Greater o is =
        let less : slice_cmp nat_cmp e.0.items key.items ≡ Less = turned nat_list_cmp_total key.items e.0.items Greater o in
        let stays : kept_at key e ≡ true = ap (λ q. not (in_partition p e && is_eq q)) less ∙ ap not (and_false (in_partition p e)) in
        let later : row_in p key.items es ≡ None = sym (ap (λ q. given p (cond (is_eq q) (Some e.1) (placed_at key.items es))) o) ∙ is in
        ap (λ b. cond b (e ∷ filter (kept_at key) es) (filter (kept_at key) es)) stays ∙ ap (λ l. e ∷ l) (rest later)

    left_is : (es : List (Vec ℕ Z × Placed R)) → IsStrictlySortedBy vec_cmp (keys_of es) → row_in p key.items es ≡ None → filter (kept_at key) es ≡ es
    left_is [] sorted is = refl
    left_is (e ∷ es) sorted is =
        left_by e es (sorted_head vec_cmp e.0 (keys_of es) sorted) (left_is es (sorted_tail vec_cmp e.0 (keys_of es) sorted)) (slice_cmp nat_cmp key.items e.0.items) refl is

    gone_by_some : (es : List (Vec ℕ Z × Placed R)) → IsStrictlySortedBy vec_cmp (keys_of es) → (o : Option R) → row_in p key.items es ≡ o → is_some o ≡ true → gone es ≡ filter (kept_at key) es
    gone_by_some es sorted None is some = cc
    gone_by_some es sorted (Some row) is some = gone_is es row sorted is

    left_by_none : (es : List (Vec ℕ Z × Placed R)) → IsStrictlySortedBy vec_cmp (keys_of es) → (o : Option R) → row_in p key.items es ≡ o → is_some o ≡ false → filter (kept_at key) es ≡ es
    left_by_none es sorted None is none = left_is es sorted is
    left_by_none es sorted (Some row) is none = cc

    -- what stands at the key goes, where it is a row of the partition
    pub gone_where : (es : List (Vec ℕ Z × Placed R)) → IsStrictlySortedBy vec_cmp (keys_of es) → is_some (row_in p key.items es) ≡ true → gone es ≡ filter (kept_at key) es
    gone_where es sorted some = gone_by_some es sorted (row_in p key.items es) refl some

    pub left_where : (es : List (Vec ℕ Z × Placed R)) → IsStrictlySortedBy vec_cmp (keys_of es) → is_some (row_in p key.items es) ≡ false → filter (kept_at key) es ≡ es
    left_where es sorted none = left_by_none es sorted (row_in p key.items es) refl none

  again_by : (e : Vec ℕ Z × Placed R) (f g : Vec ℕ Z × Placed R → Bool) (es : List (Vec ℕ Z × Placed R)) (b : Bool) → f e ≡ b → filter g (cond b (e ∷ filter f es) (filter f es)) ≡ cond (b && g e) (e ∷ filter g (filter f es)) (filter g (filter f es))
  again_by e f g es true h = refl
  again_by e f g es false h = refl

  -- one key more
  pub kept_more : (key : Vec ℕ Z) (keys : List (Vec ℕ Z)) (es : List (Vec ℕ Z × Placed R)) → filter (kept_of keys) (filter (kept_at key) es) ≡ filter (kept_of (key ∷ keys)) es
  kept_more key keys [] = refl
  kept_more key keys (e ∷ es) =
      again_by e (kept_at key) (kept_of keys) es (kept_at key e) refl
      ∙ (λ i. cond (both_stay (in_partition p e) (has_key_of key e) (has_key e.0.items keys) i) (e ∷ kept_more key keys es i) (kept_more key keys es i))

  pub kept_all : (es : List (Vec ℕ Z × Placed R)) → filter (kept_of []) es ≡ es
  kept_all [] = refl
  kept_all (e ∷ es) = ap (λ b. cond (not b) (e ∷ filter (kept_of []) es) (filter (kept_of []) es)) (and_false (in_partition p e)) ∙ ap (λ l. e ∷ l) (kept_all es)

  one_gone : (keys : List (Vec ℕ Z)) (e : Vec ℕ Z × Placed R) → (in_partition p e ≡ true → has_key e.0.items keys ≡ true) → (b : Bool) → in_partition p e ≡ b → (b && has_key e.0.items keys) ≡ b
  one_gone keys e there true h = there h
  one_gone keys e there false h = refl

  -- keys that have that of each row of the partition: all its rows go
  pub kept_others : (keys : List (Vec ℕ Z)) (es : List (Vec ℕ Z × Placed R)) → AreThere p keys es → filter (kept_of keys) es ≡ filter (λ e. not (in_partition p e)) es
  kept_others keys [] there = refl
  kept_others keys (e ∷ es) there =
      λ i. cond (not (one_gone keys e there.0 (in_partition p e) refl i)) (e ∷ kept_others keys es there.1 i) (kept_others keys es there.1 i)

  -- an index without the partition has the keys of the others
  module _ (old new : BTreeMap ℕ Part) (others : (q : ℕ) → is_eq (nat_cmp p q) ≡ false → keys_under new q ≡ keys_under old q) where
    without_by : (e : Vec ℕ Z × Placed R) (rest : List (Vec ℕ Z × Placed R)) → is_indexed old e ≡ true → list_all (is_indexed new) rest ≡ true → (b : Bool) → in_partition p e ≡ b → list_all (is_indexed new) (cond (not b) (e ∷ rest) rest) ≡ true
    without_by e rest here all true h = all
    without_by e rest here all false h =
        let apart : is_eq (nat_cmp p e.1.partition) ≡ false = ne_cmp p e.1.partition (λ one. eqb-false e.1.partition p h (sym one)) in
        (λ i. has_key e.0.items (others e.1.partition apart i) && list_all (is_indexed new) rest) ∙ (λ i. here i && all i)

    pub indexed_without : (es : List (Vec ℕ Z × Placed R)) → list_all (is_indexed old) es ≡ true → list_all (is_indexed new) (filter (λ e. not (in_partition p e)) es) ≡ true
    indexed_without [] all = refl
    indexed_without (e ∷ es) all =
        let both = and_parts (is_indexed old e) (list_all (is_indexed old) es) all in
        without_by e (filter (λ d. not (in_partition p d)) es) both.0 (indexed_without es both.1) (in_partition p e) refl
