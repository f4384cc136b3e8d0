-- What a node does about the rows at the keys that it looks at is what the machine's node does about all its object rows.
use Rattle.std.specs.Prelude.{◌≡◌, ℕ, ◌==◌, ◌&&◌, ◌||◌, nat_eq, Bool, true, false, cond, List, [], ◌∷◌, Some, refl}
use Rattle.std.proofs.Common.{ap, sym, ◌∙◌, subst}
use Rattle.std.specs.List.{AllByRecursion, filter, find}
use Rattle.std.specs.Option.{is_some}
use Rattle.std.specs.declared.cmp.Ordering.TheVariants.{Less, Equal}
use Rattle.std.specs.BTreeSet.{BTreeSet}
use Rattle.std.specs.Cmp.Lexicographic.{pointwise}
use Rattle.std.proofs.lemmas.Bool.{both_ways, eqb-true}
use Rattle.std.proofs.lemmas.Cmp.{tied_itself}
use Rattle.layout_roles.specs.declared.layout.Layout.{Layout}
use Rattle.gc_model.specs.declared.collection.Collection.{Collection}
use Rattle.gc_model.specs.Collecting.{Open, IsNumbered, keyed}
use Rattle.table_gc.specs.Keys.{is_of}
use Rattle.table_gc.proofs.Keyed.{same_key}
use Rattle.table_schema.specs.Words.{Words}
use Rattle.table_schema.specs.Laws.{Laws}
use Rattle.table_model.specs.Rows.{find_row, place, place_cmp, rows, row_at}
use Rattle.table_model.proofs.RowLaws.{Above, Ascends, place_total, rows_ascend, row_found}
use Rattle.table_store.specs.Index.{Key, has_key}
use Rattle.cluster_machine.specs.Layouts.{layouts}
use Rattle.cluster_machine.specs.Node.{Node}
use Rattle.cluster_machine.specs.Collects.{is_aged, object_rows, with_rows, looked_at}
use Rattle.node_parts.specs.declared.contents.Contents.{Contents}
use Rattle.node_parts.specs.declared.collector.Collector.{Collector}
use Rattle.node_parts.specs.Contents.{IsContents}
use Rattle.node_parts.specs.Collects.{ClosesGone, Looks, about_rows, from_here, marker_of, rows_at}
use Rattle.node_parts.proofs.KeyedRows.{each_found, has_one_of, rows_at_is}
use Rattle.node_parts.proofs.Looking.{AllApart, about_looked, has, is_looked_at, itself}

module _ {R : Type 0} (join : R → R → R) (s : Words R) where
  -- ---- rows of table 1 have keys of their own

  apart_by : (x y : R) → s.table x ≡ 1 → s.table y ≡ 1 → place_cmp (place s x) (place s y) ≡ Less → (b : Bool) → pointwise nat_eq (s.key x) (s.key y) ≡ b → b ≡ false
  apart_by x y one other less true h =
      let key : s.key x ≡ s.key y = same_key (s.key x) (s.key y) h in
      let same : place s x ≡ place s y = λ i. ((one ∙ sym other) i, key i) in
      let wrong : Equal ≡ Less = sym (tied_itself place_total (place s x)) ∙ (ap (place_cmp (place s x)) same ∙ less) in
      cc
  apart_by x y one other less false h = refl

  apart_next : (x y : R) (ys : List R) → s.table x ≡ 1 → place_cmp (place s x) (place s y) ≡ Less → AllByRecursion (λ o. pointwise nat_eq (s.key x) (s.key o) ≡ false) (filter (λ r. s.table r == 1) ys) →
      (b : Bool) → (s.table y == 1) ≡ b → AllByRecursion (λ o. pointwise nat_eq (s.key x) (s.key o) ≡ false) (cond b (y ∷ filter (λ r. s.table r == 1) ys) (filter (λ r. s.table r == 1) ys))
  apart_next x y ys one less rest true h = (apart_by x y one (eqb-true (s.table y) 1 h) less (pointwise nat_eq (s.key x) (s.key y)) refl, rest)
  apart_next x y ys one less rest false h = rest

  apart_from : (x : R) (rs : List R) → s.table x ≡ 1 → Above s (place s x) rs → AllByRecursion (λ o. pointwise nat_eq (s.key x) (s.key o) ≡ false) (filter (λ r. s.table r == 1) rs)
  apart_from x [] one above = tt
  apart_from x (y ∷ ys) one above = apart_next x y ys one above.0 (apart_from x ys one above.1) (s.table y == 1) refl

  all_next : (id now version : ℕ) (x : R) (xs : List R) → Above s (place s x) xs → AllApart join s id now version (filter (λ r. s.table r == 1) xs) →
      (b : Bool) → (s.table x == 1) ≡ b → AllApart join s id now version (cond b (x ∷ filter (λ r. s.table r == 1) xs) (filter (λ r. s.table r == 1) xs))
  all_next id now version x xs above rest true h = (apart_from x xs (eqb-true (s.table x) 1 h) above, rest)
  all_next id now version x xs above rest false h = rest

  all_apart : (id now version : ℕ) (rs : List R) → Ascends s rs → AllApart join s id now version (filter (λ r. s.table r == 1) rs)
  all_apart id now version [] a = tt
  all_apart id now version (x ∷ xs) a = all_next id now version x xs a.0 (all_apart id now version xs a.1) (s.table x == 1) refl

  -- ---- the rows at the keys

  module _ (id now version : ℕ) (gc : Open) (all : List R) (keys : BTreeSet Key)
      (each : (key : List ℕ) → has_key key keys.keys ≡ (is_some (keyed key gc) || is_aged now (marker_of s (find_row s 1 key all)))) where
    looked_by : (r : R) (rs : List R) → find_row s (s.table r) (s.key r) all ≡ Some r → filter (has_one_of join s keys.keys) rs ≡ filter (is_looked_at join s id now version gc) (filter (λ o. s.table o == 1) rs) →
        (b : Bool) → (s.table r == 1) ≡ b → cond (b && has_key (s.key r) keys.keys) (r ∷ filter (has_one_of join s keys.keys) rs) (filter (has_one_of join s keys.keys) rs) ≡ filter (is_looked_at join s id now version gc) (cond b (r ∷ filter (λ o. s.table o == 1) rs) (filter (λ o. s.table o == 1) rs))
    looked_by r rs found rest true h =
        let here : find_row s 1 (s.key r) all ≡ Some r = ap (λ n. find_row s n (s.key r) all) (sym (eqb-true (s.table r) 1 h)) ∙ found in
        let same : has_key (s.key r) keys.keys ≡ is_looked_at join s id now version gc r = each (s.key r) ∙ ap (λ o. has (s.key r) gc.collections || is_aged now (marker_of s o)) here in
        λ i. cond (same i) (r ∷ rest i) (rest i)
    looked_by r rs found rest false h = rest

    looked_rows : (rs : List R) → AllByRecursion (λ r. find_row s (s.table r) (s.key r) all ≡ Some r) rs →
        filter (has_one_of join s keys.keys) rs ≡ filter (is_looked_at join s id now version gc) (filter (λ r. s.table r == 1) rs)
    looked_rows [] found = refl
    looked_rows (r ∷ rs) found = looked_by r rs found.0 (looked_rows rs found.1) (s.table r == 1) refl

  module _ {S : Type 0} (laws : Laws join s) (contents : Contents S R) (x : Node R Layout) (is : IsContents join s contents x) where
    ascends : Ascends s contents.table
    ascends = subst (Ascends s) (sym is.table) (rows_ascend laws x.accepted is.proper)

    module _ (c : Collector) (gc : Open) (keys : BTreeSet Key) (looks : Looks join s c.now contents gc keys) where
      pub rows_looked : rows_at join s contents.table keys.keys ≡ filter (is_looked_at join s c.node c.now c.newest gc) (object_rows join s x)
      rows_looked =
          rows_at_is join s contents.table keys.keys ascends looks.ordered
          ∙ (looked_rows c.node c.now c.newest gc contents.table keys looks.each contents.table (each_found join s contents.table ascends)
          ∙ ap (λ rs. filter (is_looked_at join s c.node c.now c.newest gc) (filter (λ r. s.table r == 1) rs)) is.table)

      -- what is done about the rows at the keys is what is done about all
      pub about_keys_is : IsNumbered gc.begun gc.collections → about_rows join s c (rows_at join s contents.table keys.keys) gc ≡ about_rows join s c (object_rows join s x) gc
      about_keys_is numbered =
          ap (λ rs. about_rows join s c rs gc) rows_looked
          ∙ about_looked join s c.node c.now c.newest gc (object_rows join s x) (from_here gc)
          (all_apart c.node c.now c.newest (rows join s x.accepted) (rows_ascend laws x.accepted is.proper)) numbered (itself join s c.node c.now c.newest gc (object_rows join s x))

    -- ---- collections whose row is gone

    same_tests : (cs : List Collection) → filter (λ o. is_some (find_row s 1 o.key contents.table)) cs ≡ filter (λ o. is_some (row_at join s x.accepted 1 o.key)) cs
    same_tests [] = refl
    same_tests (o ∷ cs) =
        let same : is_some (find_row s 1 o.key contents.table) ≡ is_some (row_at join s x.accepted 1 o.key) = ap (λ rs. is_some (find_row s 1 o.key rs)) is.table ∙ ap is_some (row_found laws x.accepted 1 o.key is.proper) in
        λ i. cond (same i) (o ∷ same_tests cs i) (same_tests cs i)

    pub closed_is : (old new : Open) → old ≡ x.gc → ClosesGone join s contents old new → new ≡ with_rows join s layouts x x.gc
    closed_is old new same closes = closes ∙ (ap {A = Open} (λ o. record o { collections = filter (λ p. is_some (find_row s 1 p.key contents.table)) o.collections }) same ∙ ap {A = List Collection} (λ cs. record x.gc { collections = cs }) (same_tests x.gc.collections))

    -- a row that is there has a collection whether or not the others were closed
    still_by : (key : List ℕ) (o : Collection) (cs : List Collection) → is_some (row_at join s x.accepted 1 key) ≡ true → has key (filter (λ p. is_some (row_at join s x.accepted 1 p.key)) cs) ≡ has key cs →
        (b : Bool) → is_of key o ≡ b → (t : Bool) → is_some (row_at join s x.accepted 1 o.key) ≡ t → has key (cond t (o ∷ filter (λ p. is_some (row_at join s x.accepted 1 p.key)) cs) (filter (λ p. is_some (row_at join s x.accepted 1 p.key)) cs)) ≡ is_some (cond b (Some o) (find (is_of key) cs))
    still_by key o cs there rest true h true t = ap (λ b. is_some (cond b (Some o) (find (is_of key) (filter (λ p. is_some (row_at join s x.accepted 1 p.key)) cs)))) h
    still_by key o cs there rest true h false t =
        let same = same_key o.key key h in
        absurd (both_ways (is_some (row_at join s x.accepted 1 key)) (ap (λ k. is_some (row_at join s x.accepted 1 k)) (sym same) ∙ t) there)
    still_by key o cs there rest false h true t = ap (λ b. is_some (cond b (Some o) (find (is_of key) (filter (λ p. is_some (row_at join s x.accepted 1 p.key)) cs)))) h ∙ rest
    still_by key o cs there rest false h false t = rest

    still_has : (key : List ℕ) → is_some (row_at join s x.accepted 1 key) ≡ true → (cs : List Collection) → has key (filter (λ o. is_some (row_at join s x.accepted 1 o.key)) cs) ≡ has key cs
    still_has key there [] = refl
    still_has key there (o ∷ cs) = still_by key o cs there (still_has key there cs) (is_of key o) refl (is_some (row_at join s x.accepted 1 o.key)) refl

    -- the machine looks at the same rows
    module _ (id now version : ℕ) where
      same_by : (r : R) (rs : List R) → find_row s (s.table r) (s.key r) (rows join s x.accepted) ≡ Some r → filter (is_looked_at join s id now version (with_rows join s layouts x x.gc)) (filter (λ o. s.table o == 1) rs) ≡ filter (λ o. is_some (keyed (s.key o) x.gc) || is_aged now (s.marker o)) (filter (λ o. s.table o == 1) rs) →
          (b : Bool) → (s.table r == 1) ≡ b → filter (is_looked_at join s id now version (with_rows join s layouts x x.gc)) (cond b (r ∷ filter (λ o. s.table o == 1) rs) (filter (λ o. s.table o == 1) rs)) ≡ filter (λ o. is_some (keyed (s.key o) x.gc) || is_aged now (s.marker o)) (cond b (r ∷ filter (λ o. s.table o == 1) rs) (filter (λ o. s.table o == 1) rs))
      same_by r rs found rest true h =
          let there : is_some (row_at join s x.accepted 1 (s.key r)) ≡ true = ap is_some (sym (row_found laws x.accepted 1 (s.key r) is.proper) ∙ (ap (λ n. find_row s n (s.key r) (rows join s x.accepted)) (sym (eqb-true (s.table r) 1 h)) ∙ found)) in
          let same : is_looked_at join s id now version (with_rows join s layouts x x.gc) r ≡ (is_some (keyed (s.key r) x.gc) || is_aged now (s.marker r)) = ap (λ b. b || is_aged now (s.marker r)) (still_has (s.key r) there x.gc.collections) in
          λ i. cond (same i) (r ∷ rest i) (rest i)
      same_by r rs found rest false h = rest

      same_looked : (rs : List R) → AllByRecursion (λ r. find_row s (s.table r) (s.key r) (rows join s x.accepted) ≡ Some r) rs → filter (is_looked_at join s id now version (with_rows join s layouts x x.gc)) (filter (λ o. s.table o == 1) rs) ≡ filter (λ o. is_some (keyed (s.key o) x.gc) || is_aged now (s.marker o)) (filter (λ o. s.table o == 1) rs)
      same_looked [] found = refl
      same_looked (r ∷ rs) found = same_by r rs found.0 (same_looked rs found.1) (s.table r == 1) refl

      pub looked_is : filter (is_looked_at join s id now version (with_rows join s layouts x x.gc)) (object_rows join s x) ≡ looked_at join s layouts now x
      looked_is = same_looked (rows join s x.accepted) (each_found join s (rows join s x.accepted) (rows_ascend laws x.accepted is.proper))
