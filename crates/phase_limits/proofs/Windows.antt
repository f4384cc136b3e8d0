-- A window that isn't the last passes as many keys as an answer has rows.
use Rattle.std.specs.Prelude.{◌≡◌, ◌≤◌, ◌+◌, ◌⊎◌, ℕ, nat_lt, Bool, true, false, not, ◌&&◌, cond, if◌then◌else◌, Option, Some, None, option_map, List, [], ◌∷◌, ◌++◌, length, map, filter, take, refl}
use Rattle.std.specs.List.{AllByRecursion}
use Rattle.std.specs.Ordering.{is_lt, ordering_reverse}
use Rattle.std.specs.Option.{unwrap_or}
use Rattle.std.specs.declared.cmp.Ordering.{Ordering}
use Rattle.std.specs.declared.cmp.Ordering.TheVariants.{Less, Equal, Greater}
use Rattle.std.proofs.Common.{ap, sym, subst, ◌∙◌, inl, inr, arith, length-take}
use Rattle.std.proofs.lemmas.Bool.{ltb-true}
use Rattle.std.proofs.lemmas.Cmp.{nat_list_cmp_total}
use Rattle.std.proofs.lemmas.List.{length-map}
use Rattle.crdt_core.specs.EntryLaws.{and_parts, and_both, less_is}
use Rattle.crdt_core.specs.Members.{Has}
use Rattle.table_schema.specs.Words.{Words}
use Rattle.table_schema.specs.Laws.{Laws}
use Rattle.table_model.specs.Rows.{AllProper, rows, is_past}
use Rattle.quorum_model.specs.Window.{key_cmp, last_of, nearer, keyed, shown_to, end_key}
use Rattle.crdt_core.specs.Entries.{is_ascending}
use Rattle.range_laws.specs.Scans.{answer, window_between}
use Rattle.range_laws.proofs.Entries.{keys_ascend}
use Rattle.range_laws.proofs.Fronts.{last_is, last_from}
use Rattle.range_laws.proofs.Shown.{asked, asked_parts, answer_plain, end_back}
use Rattle.machine_origins.proofs.Lists.{all_take}
use Rattle.machine_limits.proofs.Totals.{AreApart, total, total_ones, total_weaker, fewer, has_filter, all_has, all_from}
use Rattle.limit_rows.proofs.Keyed.{apart_keys}
use Rattle.drain_limits.proofs.Counting.{one, total_sum}
use Rattle.phase_limits.specs.Keys.{past, HasKeys}

-- ---- lists

kept_count : {X : Type 0} (test : X → Bool) (xs : List X) → length (filter test xs) ≡ total (λ x. one (test x)) xs
kept_count test [] = refl
kept_count test (x ∷ xs) =
    let rest : length (filter test xs) ≡ total (λ x. one (test x)) xs = kept_count test xs in
    elim (test x) as (λ b. length (cond b (x ∷ filter test xs) (filter test xs)) ≡ one b + total (λ x. one (test x)) xs) [ true ↦ omega (arith, rest) | false ↦ omega (arith, rest) ]

has_kept : {X : Type 0} (test : X → Bool) (xs : List X) (x : X) → Has xs x → test x ≡ true → Has (filter test xs) x
has_kept test [] x h e = elim h [ ]
has_kept test (y ∷ xs) x (inl same) e =
    let passes : test y ≡ true = ap test same ∙ e in
    subst (λ (b : Bool). Has (cond b (y ∷ filter test xs) (filter test xs)) x) (sym passes) (inl same)
has_kept test (y ∷ xs) x (inr h) e =
    let rest = has_kept test xs x h e in
    elim (test y) as (λ b. Has (cond b (y ∷ filter test xs) (filter test xs)) x) [ true ↦ inr rest | false ↦ rest ]

has_mapped : {X Y : Type 0} (f : X → Y) (P : Y → Type 0) (xs : List X) → AllByRecursion (λ x. P (f x)) xs → (y : Y) → Has (map f xs) y → P y
has_mapped f P [] a y h = elim h [ ]
has_mapped f P (x ∷ xs) a y (inl e) = subst P e a.0
has_mapped f P (x ∷ xs) a y (inr h) = has_mapped f P xs a.1 y h

last_all : {X : Type 0} (P : X → Type 0) (x : X) (xs : List X) → AllByRecursion P (x ∷ xs) → P (last_from x xs)
last_all P x [] a = a.0
last_all P x (y ∷ ys) a = last_all P y ys a.1

-- ---- keys

not_less : (a b c : List ℕ) → is_lt (key_cmp b c) ≡ true → is_lt (key_cmp a c) ≡ false → (o : Ordering) → key_cmp a b ≡ o → is_lt o ≡ false
not_less a b c low high Less e = let less : key_cmp a c ≡ Less = nat_list_cmp_total.trans a b c e (less_is (key_cmp b c) low) in let no : true ≡ false = sym (ap is_lt less) ∙ high in cc
not_less a b c low high Equal e = refl
not_less a b c low high Greater e = refl

not_itself : (k : List ℕ) (o : Ordering) → key_cmp k k ≡ o → is_lt o ≡ false
not_itself k Less e = let no : Less ≡ Greater = sym e ∙ (nat_list_cmp_total.antisymm k k ∙ ap ordering_reverse e) in cc
not_itself k Equal e = refl
not_itself k Greater e = refl

-- at most one of three counts
one_of : (a b : Bool) → (a ≡ true → b ≡ true) → one a + one (b && not a) ≤ one b
one_of true true h = omega arith
one_of true false h = let no : false ≡ true = h refl in absurd cc
one_of false true h = omega arith
one_of false false h = omega arith

-- of keys that are apart, past the start and at most the end, there are no more than the end passes
module _ (keys : List (List ℕ)) (start end : List ℕ) (before : is_lt (key_cmp start end) ≡ true) where
  abbrev between : List ℕ → Bool
  between key = is_lt (key_cmp start key) && not (is_lt (key_cmp end key))

  further : (key : List ℕ) → is_lt (key_cmp end key) ≡ true → is_lt (key_cmp start key) ≡ true
  further key h = ap is_lt (nat_list_cmp_total.trans start end key (less_is (key_cmp start end) before) (less_is (key_cmp end key) h))

  passes : (ks : List (List ℕ)) → AreApart ks → ((k : List ℕ) → Has ks k → Has keys k × (is_lt (key_cmp start k) ≡ true) × (is_lt (key_cmp end k) ≡ false)) → past end keys + length ks ≤ past start keys
  passes ks apart known =
      let inside : (k : List ℕ) → Has ks k → Has (filter between keys) k = λ k h. (let a = known k h in has_kept between keys k a.0 (and_both (is_lt (key_cmp start k)) (not (is_lt (key_cmp end k))) a.1 (ap not a.2))) in
      let few : total (λ (k : List ℕ). 1) ks ≤ total (λ (k : List ℕ). 1) (filter between keys) = fewer (λ (k : List ℕ). 1) ks (filter between keys) apart inside in
      let a = total_ones ks in
      let b = total_ones (filter between keys) in
      let c = kept_count between keys in
      let d = kept_count (λ (key : List ℕ). is_lt (key_cmp end key)) keys in
      let e = kept_count (λ (key : List ℕ). is_lt (key_cmp start key)) keys in
      let f = total_sum (λ (key : List ℕ). one (is_lt (key_cmp end key))) (λ (key : List ℕ). one (between key)) keys in
      let g = total_weaker (λ (key : List ℕ). one (is_lt (key_cmp end key)) + one (between key)) (λ (key : List ℕ). one (is_lt (key_cmp start key))) keys
      (all_from (λ (key : List ℕ). one (is_lt (key_cmp end key)) + one (between key) ≤ one (is_lt (key_cmp start key))) keys (λ key h. one_of (is_lt (key_cmp end key)) (is_lt (key_cmp start key)) (further key))) in
      omega (arith, few, a, b, c, d, e, f, g)

-- ---- rows

module _ {R : Type 0} (s : Words R) where
  -- the last of rows that ascend is the greatest
  last_greatest : (x : R) (xs : List R) → is_ascending key_cmp (keyed s (x ∷ xs)) ≡ true → AllByRecursion (λ r. is_lt (key_cmp (s.key (last_from x xs)) (s.key r)) ≡ false) (x ∷ xs)
  last_greatest x [] a = (not_itself (s.key x) (key_cmp (s.key x) (s.key x)) refl, tt)
  last_greatest x (y ∷ ys) a =
      let parts = and_parts (is_lt (key_cmp (s.key x) (s.key y))) (is_ascending key_cmp (keyed s (y ∷ ys))) a in
      let rest = last_greatest y ys parts.1 in
      let last = s.key (last_from y ys) in
      (not_less last (s.key x) (s.key y) parts.0 rest.0 (key_cmp last (s.key x)) refl, rest)

  keys_are : (xs : List R) → map (λ e. e.0) (keyed s xs) ≡ map s.key xs
  keys_are [] = refl
  keys_are (x ∷ xs) = ap (λ ks. s.key x ∷ ks) (keys_are xs)

  -- an answer that has more: its rows are as many as it may have, and its end is the last one's key
  module _ (keys : List (List ℕ)) (start : List ℕ) (limit : ℕ) where
    abbrev IsKnown : R → Type 0
    IsKnown r = Has keys (s.key r) × (is_lt (key_cmp start (s.key r)) ≡ true)

    shown_passes : (xs : List R) (end : List ℕ) → length xs ≡ limit → is_ascending key_cmp (keyed s xs) ≡ true → AllByRecursion IsKnown xs → option_map s.key (last_of xs) ≡ Some end → past end keys + limit ≤ past start keys
    shown_passes [] end count ascends known e = absurd cc
    shown_passes (x ∷ xs) end count ascends known e =
        let last_one : Some (s.key (last_from x xs)) ≡ Some end = ap (option_map s.key) (sym (last_is x xs)) ∙ e in
        let is : s.key (last_from x xs) ≡ end = ap (λ o. unwrap_or o end) last_one in
        let ks = map s.key (x ∷ xs) in
        let apart : AreApart ks = subst AreApart (keys_are (x ∷ xs)) (apart_keys nat_list_cmp_total (keyed s (x ∷ xs)) ascends) in
        let low = subst (λ (k : List ℕ). AllByRecursion (λ r. is_lt (key_cmp k (s.key r)) ≡ false) (x ∷ xs)) is (last_greatest x xs ascends) in
        let before : is_lt (key_cmp start end) ≡ true = subst (λ (k : List ℕ). is_lt (key_cmp start k) ≡ true) is (last_all IsKnown x xs known).1 in
        let all = both (x ∷ xs) known low in
        let p = passes keys start end before ks apart (has_mapped s.key (λ k. Has keys k × (is_lt (key_cmp start k) ≡ true) × (is_lt (key_cmp end k) ≡ false)) (x ∷ xs) all) in
        let n = length-map (x ∷ xs) s.key in
        omega (arith, p, n, count)
      where
        both : (xs : List R) → AllByRecursion IsKnown xs → AllByRecursion (λ r. is_lt (key_cmp end (s.key r)) ≡ false) xs → AllByRecursion (λ r. Has keys (s.key r) × (is_lt (key_cmp start (s.key r)) ≡ true) × (is_lt (key_cmp end (s.key r)) ≡ false)) xs
        both [] a b = tt
        both (x ∷ xs) a b = ((a.0.0, a.0.1, b.0), both xs a.1 b.1)

nearer_is : (o p : Option (List ℕ)) (end : List ℕ) → nearer o p ≡ Some end → (o ≡ Some end) ⊎ (p ≡ Some end)
nearer_is None p end e = inr e
nearer_is (Some a) None end e = inl e
nearer_is (Some a) (Some b) end e = by_test (is_lt (key_cmp b a)) e
  where
    by_test : (c : Bool) → (if c then Some b else Some a) ≡ Some end → (Some a ≡ Some end) ⊎ (Some b ≡ Some end)
    by_test true e = inr e
    by_test false e = inl e

-- ---- windows

module _ {R : Type 0} (join : R → R → R) (s : Words R) (laws : Laws join s) (keys : List (List ℕ)) (position prefix after : List ℕ) (limit : ℕ) where
  abbrev test : R → Bool
  test r = is_past s 1 (position ++ prefix) (position ++ after) r

  abbrev rows_of : List R → List R
  rows_of contents = asked laws position prefix after limit contents

  known_there : (contents : List R) → HasKeys s keys (rows join s contents) → AllByRecursion (IsKnown s keys (position ++ after) limit) (rows_of contents)
  known_there contents known =
      all_from (IsKnown s keys (position ++ after) limit) (rows_of contents)
      (λ r h.
      let both = has_filter test (rows join s contents) r h in
      let is = asked_parts s (position ++ prefix) (position ++ after) r both.1 in
      (all_has (λ (r : R). s.table r ≡ 1 → Has keys (s.key r)) (rows join s contents) r known both.0 is.0, is.2))

  answer_by : (contents : List R) (end : List ℕ) → AllProper s contents → HasKeys s keys (rows join s contents) → (b : Bool) → nat_lt limit (length (rows_of contents)) ≡ b →
      (if b then option_map s.key (last_of (take limit (rows_of contents))) else None) ≡ Some end → past end keys + limit ≤ past (position ++ after) keys
  answer_by contents end proper known false more e = absurd cc
  answer_by contents end proper known true more e =
      let found = rows_of contents in
      let plain = answer_plain laws position prefix after limit contents proper in
      let long = ltb-true limit (length found) more in
      let count : length (take limit found) ≡ limit = (let n = length-take limit found in omega (arith, n, long)) in
      shown_passes s keys (position ++ after) limit (take limit found) end count (keys_ascend s (take limit found) plain.table plain.ascends) (all_take (IsKnown s keys (position ++ after) limit) limit found (known_there contents known)) e

  answer_passes : (contents : List R) (end : List ℕ) → AllProper s contents → HasKeys s keys (rows join s contents) → shown_to s (answer join s position prefix after limit contents) ≡ Some end →
      past end keys + limit ≤ past (position ++ after) keys
  answer_passes contents end proper known e = answer_by contents end proper known (nat_lt limit (length (rows_of contents))) refl e

  pub window_passes : (a b : List R) (end : List ℕ) → length position ≡ 32 → AllProper s a → AllProper s b → HasKeys s keys (rows join s a) → HasKeys s keys (rows join s b) →
      end_key position (window_between join s position prefix after limit a b).end ≡ Some end → past end keys + limit ≤ past (position ++ after) keys
  window_passes a b end long pa pb ka kb e =
      elim (nearer_is (shown_to s (answer join s position prefix after limit a)) (shown_to s (answer join s position prefix after limit b)) end (sym (end_back laws position prefix after limit long a b) ∙ e)) [
        | inl one ↦ answer_passes a end pa ka one
        | inr other ↦ answer_passes b end pb kb other
      ]
