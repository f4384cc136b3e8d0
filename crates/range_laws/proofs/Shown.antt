-- What an answer shows up to where it ends, and what the window of two answers shows.
use Rattle.std.specs.Prelude.{◌≡◌, ◌≤◌, ℕ, zero, suc, ◌==◌, nat_eq, nat_lt, Bool, true, false, if◌then◌else◌, ◌&&◌, List, [], ◌∷◌, ◌++◌, length, take, drop, map, filter, Option, Some, None, option_map, IsTrue, All, refl}
use Rattle.std.specs.List.{starts_with}
use Rattle.std.proofs.Common.{ap, sym, subst, ◌∙◌, arith}
use Rattle.std.proofs.lemmas.List.{take_all}
use Rattle.std.proofs.lemmas.List.Elements.{All-nil, All-cons, All-head, All-tail, All-take, All-filter, All-weaker, filter_passes}
use Rattle.std.proofs.lemmas.Bool.{eqb-true, ltb-false, not-true}
use Rattle.std.proofs.lemmas.Cmp.{nat_list_cmp_total}
use Rattle.std.specs.Ordering.{nat_cmp, is_lt}
use Rattle.std.specs.Cmp.Lexicographic.{slice_cmp}
use Rattle.std.specs.Cmp.{Equal-is}
use Rattle.crdt_core.specs.Order.{option_join}
use Rattle.crdt_core.specs.Entries.{is_ascending, value_at, merged}
use Rattle.crdt_core.specs.EntryLaws.{and_parts, and_both, ascending_merged, value_at-merged}
use Rattle.table_schema.specs.Words.{Words}
use Rattle.table_schema.specs.Laws.{Laws}
use Rattle.table_model.specs.Rows.{place_cmp, place, is_at, is_past, AllProper, row_at, rows, find_row}
use Rattle.table_model.proofs.RowLaws.{place_identical, Ascends, row_found, rows_ascend, rows_proper}
use Rattle.quorum_model.specs.Window.{key_cmp, keyed, last_of, nearer, shown_to, is_within, rows_within, after_position, end_of, end_key, IsNamed}
use Rattle.range_laws.specs.Scans.{answer, window_between}
use Rattle.range_laws.proofs.Fronts.{find_filter, last_from, last_is, last_has, ascends_filter, ascends_take, front}
use Rattle.range_laws.proofs.Entries.{Fits, rows_back, keys_ascend, found, merged_fit}
use Rattle.range_laws.proofs.Ends.{within_both, begins_with}

-- ---- where ends lie

-- an end is the position and what follows it
abbrev Whole : List ℕ → Option (List ℕ) → Type 0
Whole position None = Unit {0}
Whole position (Some end) = position ++ after_position end ≡ end

whole_nearer : (position : List ℕ) (a b : Option (List ℕ)) → Whole position a → Whole position b → Whole position (nearer a b)
whole_nearer position None b h g = g
whole_nearer position (Some a) None h g = h
whole_nearer position (Some a) (Some b) h g =
    elim (is_lt (key_cmp b a)) as (λ t. Whole position (if t then Some b else Some a)) [ true ↦ g | false ↦ h ]

whole_back : (position : List ℕ) (end : Option (List ℕ)) → Whole position end → end_key position (option_map after_position end) ≡ end
whole_back position None h = refl
whole_back position (Some end) h = ap Some h

-- ---- one answer

module _ {R : Type 0} (s : Words R) where
  at_place : (key : List ℕ) (r : R) → is_at s 1 key r ≡ true → (1, key) ≡ place s r
  at_place key r e = place_identical (1, key) (place s r) ((Equal-is (place_cmp (1, key) (place s r))).0 e)

  -- what is at a key that was asked for was asked for
  asked_at : (begin start key : List ℕ) (r : R) → starts_with nat_eq key begin ≡ true → is_lt (slice_cmp nat_cmp start key) ≡ true → is_at s 1 key r ≡ true → is_past s 1 begin start r ≡ true
  asked_at begin start key r b p e =
      subst (λ (q : ℕ × List ℕ). ((q.0 == 1) && starts_with nat_eq q.1 begin && is_lt (slice_cmp nat_cmp start q.1)) ≡ true) (at_place key r e) (and_both _ _ b p)

  -- the table, the prefix and the start key of what was asked for
  pub asked_parts : (begin start : List ℕ) (r : R) → is_past s 1 begin start r ≡ true → (s.table r ≡ 1) × (starts_with nat_eq (s.key r) begin ≡ true) × (is_lt (slice_cmp nat_cmp start (s.key r)) ≡ true)
  asked_parts begin start r e =
      let ends = and_parts ((s.table r == 1) && starts_with nat_eq (s.key r) begin) (is_lt (slice_cmp nat_cmp start (s.key r))) e in
      let begins = and_parts (s.table r == 1) (starts_with nat_eq (s.key r) begin) ends.0 in
      (eqb-true (s.table r) 1 begins.0, begins.1, ends.1)

  whole_shown : (position : List ℕ) (xs : List R) → All (λ r. position ++ after_position (s.key r) ≡ s.key r) xs → (b : Bool) → Whole position (if b then option_map s.key (last_of xs) else None)
  whole_shown position xs all false = tt
  whole_shown position [] all true = tt
  whole_shown position (x ∷ xs) all true = rw (last_is x xs) (last_has (λ r. position ++ after_position (s.key r) ≡ s.key r) x xs all)

  front_by : (m : ℕ) (x : R) (xs : List R) (key : List ℕ) → Ascends s (x ∷ xs) → All (λ r. s.table r ≡ 1) (x ∷ xs) → (b : Bool) → nat_lt (suc m) (length (x ∷ xs)) ≡ b →
      is_within (if b then option_map s.key (last_of (x ∷ take m xs)) else None) key ≡ true → find_row s 1 key (x ∷ take m xs) ≡ find_row s 1 key (x ∷ xs)
  front_by m x xs key a ts false e h = ap (find_row s 1 key) (take_all (suc m) (x ∷ xs) (ltb-false (suc m) (length (x ∷ xs)) e))
  front_by m x xs key a ts true e h =
      let last = last_from x (take m xs) in
      let at_last : is_within (Some (s.key last)) key ≡ true = sym (ap (λ o. is_within (option_map s.key o) key) (last_is x (take m xs))) ∙ h in
      let t : s.table last ≡ 1 = last_has (λ r. s.table r ≡ 1) x (take m xs) (All-take (λ r. s.table r ≡ 1) (suc m) (x ∷ xs) ts) in
      let apart : is_lt (place_cmp (place s last) (1, key)) ≡ false = ap (λ n. is_lt (place_cmp (n, s.key last) (1, key))) t ∙ not-true (is_lt (key_cmp (s.key last) key)) at_last in
      front s m x xs (1, key) a apart

  -- up to where it ends an answer of one row at least has all that was asked for
  shown_whole : (limit : ℕ) (xs : List R) (key : List ℕ) → 1 ≤ limit → Ascends s xs → All (λ r. s.table r ≡ 1) xs →
      is_within (shown_to s (record { rows = take limit xs; more = nat_lt limit (length xs) })) key ≡ true → find_row s 1 key (take limit xs) ≡ find_row s 1 key xs
  shown_whole zero xs key some a ts h = absurd (omega arith)
  shown_whole (suc m) [] key some a ts h = refl
  shown_whole (suc m) (x ∷ xs) key some a ts h = front_by m x xs key a ts (nat_lt (suc m) (length (x ∷ xs))) refl h

  -- ---- rows beside their keys

  -- proper rows of the object table in order
  pub record Plain (xs : List R) : Type 0 where
    pub proper : AllProper s xs
    pub table : All (λ r. s.table r ≡ 1) xs
    pub ascends : Ascends s xs

  pub all_fit : (xs : List R) → AllProper s xs → All (λ r. s.table r ≡ 1) xs → All (Fits s) (keyed s xs)
  all_fit [] ps ts = All-nil (Fits s)
  all_fit (x ∷ xs) ps ts =
      let p = All-head (λ r. IsTrue (s.is_proper r)) x xs ps in
      let t = All-head (λ r. s.table r ≡ 1) x xs ts in
      All-cons (Fits s) (s.key x, x) (keyed s xs) (record { proper = p; table = t; key = refl })
      (all_fit xs (All-tail (λ r. IsTrue (s.is_proper r)) x xs ps) (All-tail (λ r. s.table r ≡ 1) x xs ts))

  value_is : (key : List ℕ) (xs : List R) → Plain xs → value_at key_cmp key (keyed s xs) ≡ find_row s 1 key xs
  value_is key xs plain =
      sym (found s key (keyed s xs) (all_fit xs plain.proper plain.table) (keys_ascend s xs plain.table plain.ascends)) ∙ ap (find_row s 1 key) (rows_back s xs)

  within_by : (test : List ℕ → Bool) (e : List ℕ × R) (es : List (List ℕ × R)) → Fits s e → map (λ f. f.1) (filter (λ f. test f.0) es) ≡ filter (λ r. test (s.key r)) (map (λ f. f.1) es) →
      (b : Bool) → test e.0 ≡ b → map (λ f. f.1) (filter (λ f. test f.0) (e ∷ es)) ≡ filter (λ r. test (s.key r)) (map (λ f. f.1) (e ∷ es))
  within_by test e es fit rest true h =
      let here : test (s.key e.1) ≡ true = ap test fit.key ∙ h in
      rw (h, here) (ap (λ ys. e.1 ∷ ys) rest)
  within_by test e es fit rest false h =
      let here : test (s.key e.1) ≡ false = ap test fit.key ∙ h in
      rw (h, here) rest

  -- to keep entries by their keys is to keep rows by theirs
  kept_rows : (test : List ℕ → Bool) (es : List (List ℕ × R)) → All (Fits s) es → map (λ f. f.1) (filter (λ f. test f.0) es) ≡ filter (λ r. test (s.key r)) (map (λ f. f.1) es)
  kept_rows test [] fits = refl
  kept_rows test (e ∷ es) fits = within_by test e es (All-head (Fits s) e es fits) (kept_rows test es (All-tail (Fits s) e es fits)) (test e.0) refl

-- ---- two answers

module _ {R : Type 0} {join : R → R → R} {s : Words R} (laws : Laws join s) where
  pub both_fit : (xs ys : List R) → Plain s xs → Plain s ys → All (Fits s) (merged key_cmp join (keyed s xs) (keyed s ys))
  both_fit xs ys p q = merged_fit laws (keyed s xs) (keyed s ys) (all_fit s xs p.proper p.table) (all_fit s ys q.proper q.table)

  pub both_ascend : (xs ys : List R) → Plain s xs → Plain s ys → is_ascending key_cmp (merged key_cmp join (keyed s xs) (keyed s ys)) ≡ true
  both_ascend xs ys p q = ascending_merged nat_list_cmp_total join (keyed s xs) (keyed s ys) (keys_ascend s xs p.table p.ascends) (keys_ascend s ys q.table q.ascends)

  -- at a key within the end the rows of both have the merge of what each has
  both_found : (end : Option (List ℕ)) (key : List ℕ) (xs ys : List R) → Plain s xs → Plain s ys → is_within end key ≡ true →
      find_row s 1 key (rows_within end (merged key_cmp join (keyed s xs) (keyed s ys))) ≡ option_join join (find_row s 1 key xs) (find_row s 1 key ys)
  both_found end key xs ys p q h =
      let es = merged key_cmp join (keyed s xs) (keyed s ys) in
      ap (find_row s 1 key) (kept_rows s (is_within end) es (both_fit xs ys p q))
      ∙ (find_filter (is_at s 1 key) (λ r. is_within end (s.key r)) (λ r e. subst (λ (q : ℕ × List ℕ). is_within end q.1 ≡ true) (at_place s key r e) h) (map (λ f. f.1) es)
      ∙ (found s key es (both_fit xs ys p q) (both_ascend xs ys p q)
      ∙ (value_at-merged nat_list_cmp_total join key (keyed s xs) (keyed s ys) (keys_ascend s xs p.table p.ascends) (keys_ascend s ys q.table q.ascends)
      ∙ (λ i. option_join join (value_is s key xs p i) (value_is s key ys q i)))))

  module _ (position prefix after : List ℕ) (limit : ℕ) where
    -- the rows of these contents that were asked for
    abbrev pub asked : List R → List R
    asked contents = filter (is_past s 1 (position ++ prefix) (position ++ after)) (rows join s contents)

    asked_plain : (contents : List R) → AllProper s contents → Plain s (asked contents)
    asked_plain contents all =
        let test = is_past s 1 (position ++ prefix) (position ++ after) in
        record {
          proper = All-filter test (λ r. IsTrue (s.is_proper r)) (rows join s contents) (rows_proper laws contents all);
          table = All-weaker (λ r. test r ≡ true) (λ r. s.table r ≡ 1) (λ r e. (asked_parts s (position ++ prefix) (position ++ after) r e).0) (asked contents) (filter_passes test (rows join s contents));
          ascends = ascends_filter s test (rows join s contents) (rows_ascend laws contents all);
        }

    pub answer_plain : (contents : List R) → AllProper s contents → Plain s (take limit (asked contents))
    answer_plain contents all =
        let plain = asked_plain contents all in
        record {
          proper = All-take (λ r. IsTrue (s.is_proper r)) limit (asked contents) plain.proper;
          table = All-take (λ r. s.table r ≡ 1) limit (asked contents) plain.table;
          ascends = ascends_take s limit (asked contents) plain.ascends;
        }

    key_whole : length position ≡ 32 → (r : R) → is_past s 1 (position ++ prefix) (position ++ after) r ≡ true → position ++ after_position (s.key r) ≡ s.key r
    key_whole long r e = ap (λ n. position ++ drop n (s.key r)) (sym long) ∙ begins_with position prefix (s.key r) (asked_parts s (position ++ prefix) (position ++ after) r e).1

    end_whole : length position ≡ 32 → (contents : List R) → Whole position (shown_to s (answer join s position prefix after limit contents))
    end_whole long contents =
        let test = is_past s 1 (position ++ prefix) (position ++ after) in
        whole_shown s position (take limit (asked contents)) (All-take (λ r. position ++ after_position (s.key r) ≡ s.key r) limit (asked contents)
        (All-weaker (λ r. test r ≡ true) (λ r. position ++ after_position (s.key r) ≡ s.key r) (key_whole long) (asked contents) (filter_passes test (rows join s contents))))
        (nat_lt limit (length (asked contents)))

    -- an answer has what the contents have at each key that was asked for and that it reaches
    answer_shows : 1 ≤ limit → (contents : List R) → AllProper s contents → (key : List ℕ) → starts_with nat_eq key (position ++ prefix) ≡ true → is_lt (slice_cmp nat_cmp (position ++ after) key) ≡ true →
        is_within (shown_to s (answer join s position prefix after limit contents)) key ≡ true → find_row s 1 key (take limit (asked contents)) ≡ row_at join s contents 1 key
    answer_shows some contents all key b p h =
        let plain = asked_plain contents all in
        shown_whole s limit (asked contents) key some plain.ascends plain.table h
        ∙ (find_filter (is_at s 1 key) (is_past s 1 (position ++ prefix) (position ++ after)) (λ r. asked_at s (position ++ prefix) (position ++ after) key r b p) (rows join s contents)
        ∙ row_found laws contents 1 key all)

    pub end_back : length position ≡ 32 → (a b : List R) → end_key position (window_between join s position prefix after limit a b).end ≡ end_of s (answer join s position prefix after limit a, answer join s position prefix after limit b)
    end_back long a b =
        let one = shown_to s (answer join s position prefix after limit a) in
        let other = shown_to s (answer join s position prefix after limit b) in
        whole_back position (nearer one other) (whole_nearer position one other (end_whole long a) (end_whole long b))

    pub window_shows : length position ≡ 32 → 1 ≤ limit → (a b : List R) → AllProper s a → AllProper s b → (key : List ℕ) → IsNamed position prefix after (window_between join s position prefix after limit a b).end key →
        find_row s 1 key (window_between join s position prefix after limit a b).rows ≡ option_join join (row_at join s a 1 key) (row_at join s b 1 key)
    window_shows long some a b p q key named =
        let one = shown_to s (answer join s position prefix after limit a) in
        let other = shown_to s (answer join s position prefix after limit b) in
        let within : is_within (nearer one other) key ≡ true = sym (ap (λ end. is_within end key) (end_back long a b)) ∙ named.within in
        let parts = within_both one other key within in
        both_found (nearer one other) key (take limit (asked a)) (take limit (asked b)) (answer_plain a p) (answer_plain b q) within
        ∙ (λ i. option_join join (answer_shows some a p key named.begins named.past parts.0 i) (answer_shows some b q key named.begins named.past parts.1 i))
