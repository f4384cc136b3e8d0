-- Which rows there are, and in which range those of a key stand.
use Rattle.std.proofs.Common.{◌≡◌, ℕ, zero, suc, ◌+◌, ◌<◌, ◌≤◌, Bool, true, false, ◌&&◌, List, [], ◌∷◌, Option, Some, None, nat_eq, nat_lt, cond, option_map, ◌-◌, length, get_or, slice_get, inl, inr, refl, ap, sym, ◌∙◌, subst, arith}
use Rattle.std.specs.List.{Contains, sum_by}
use Rattle.std.specs.Bool.{Decides}
use Rattle.std.specs.Option.{option_and_then}
use Rattle.std.specs.List.Sorted.{IsSorted, IsPartitionPoint}
use Rattle.std.specs.Ordering.{is_lt}
use Rattle.std.proofs.lemmas.Bool.{cases_lt, and_parts, lt-ltb, ltb-true}
use Rattle.std.proofs.lemmas.Bool.Decides.{Decides-eqb, Decides-and, Decides-like}
use Rattle.std.proofs.lemmas.Option.{option_and_then_some, slice_get_within, slice_get-get_or, get_or_from_slice_get}
use Rattle.std.proofs.lemmas.List.{get_or_default}
use Rattle.std.proofs.lemmas.Slice.Eq.{bytes_eq-Decides}
use Rattle.std.proofs.lemmas.List.Sums.{sum_by-cons}
use Rattle.crdt_rows.specs.declared.version.Version.{Version}
use Rattle.history_model.specs.declared.record.Answer.{Answer}
use Rattle.history_model.specs.declared.record.Record.{Record}
use Rattle.history_model.specs.declared.record.Record.TheVariants.{Began, Finished, Ended}
use Rattle.history_model.specs.Fresh.{IsAcknowledged}
use Rattle.history_model.specs.Record.{is_write, same_bytes, answer_of, version_of, finish_at, next, finish, acknowledged}
use Rattle.history_model.specs.Pairs.{sum_below}
use Rattle.world_history.specs.declared.rows.Row.{Row}
use Rattle.world_history.specs.Table.{row_cmp, ack_of, ack_at, sum_of, IsTable, IsTableOf, is_before, is_of, is_of_key, is_of_key_at, follows_key, one_if, version_in, version_of_row, row_version, AreNewest}
use Rattle.world_history.specs.Checks.{version_at, newest_of, IsNewestBelow}
use Rattle.world_history.proofs.Newest.{newest_not, newest_of-is, acknowledged_there, version_there, placed}
use Rattle.world_history.proofs.Sorted.{not_less, less_back}
use Rattle.world_history.proofs.Table.{row_total, before_split, own_before, between}

-- ---- what a sum of ones tells

pub some_passes : {X : Type 0} (p : X → Bool) (xs : List X) → 0 < sum_by (λ x. one_if (p x)) xs → (x : X) × Contains xs x × (p x ≡ true)
some_passes p [] more = absurd (omega arith)
some_passes {X} p (x ∷ xs) more = by_case (p x) refl (some_passes p xs)
  where
    by_case : (b : Bool) → p x ≡ b → (0 < sum_by (λ y. one_if (p y)) xs → (y : X) × Contains xs y × (p y ≡ true)) → (y : X) × Contains (x ∷ xs) y × (p y ≡ true)
    by_case true e later = (x, (0, omega arith, refl), e)
    by_case false e later =
        let none : one_if (p x) ≡ 0 = ap one_if e in
        let step = sum_by-cons (λ y. one_if (p y)) x xs in
        let rest : 0 < sum_by (λ y. one_if (p y)) xs = omega (arith, none, step, more) in
        let found = later rest in
        (found.0, (suc found.1.0, omega (arith, found.1.1), found.1.2), found.2)

pub passes_some : {X : Type 0} (p : X → Bool) (xs : List X) (m : ℕ) (d : X) → m < length xs → p (get_or xs m d) ≡ true → 0 < sum_by (λ x. one_if (p x)) xs
passes_some p [] m d lt e = absurd (omega arith)
passes_some p (x ∷ xs) zero d lt e =
    let one : one_if (p x) ≡ 1 = ap one_if e in
    let step = sum_by-cons (λ y. one_if (p y)) x xs in
    omega (arith, one, step)
passes_some p (x ∷ xs) (suc m) d lt e =
    let step = sum_by-cons (λ y. one_if (p y)) x xs in
    let inside : m < length xs = omega arith in
    let rest = passes_some p xs m d inside e in
    omega (arith, step, rest)

pub below_some : (g : ℕ → ℕ) (n : ℕ) → 0 < sum_below g n → (b : ℕ) × (b < n) × (0 < g b)
below_some g zero more = absurd (omega arith)
below_some g (suc n) more = elim (cases_lt 0 (g n)) as (λ t. (b : ℕ) × (b < suc n) × (0 < g b)) [
  | inl here ↦ (n, omega arith, here)
  | inr none ↦ let rest : 0 < sum_below g n = omega (arith, more, none) in let found = below_some g n rest in (found.0, omega (arith, found.1), found.2)
]

pub some_below : (g : ℕ → ℕ) (n b : ℕ) → b < n → 0 < g b → 0 < sum_below g n
some_below g zero b lt here = absurd (omega arith)
some_below g (suc n) b lt here = elim (cases_lt b n) as (λ t. 0 < sum_below g (suc n)) [
  | inl less ↦ let rest = some_below g n b less here in omega (arith, rest)
  | inr le ↦ let same : b ≡ n = omega arith in let there : 0 < g n = subst (λ k. 0 < g k) same here in omega (arith, there)
]

-- ---- which rows there are

abbrev is_row : Row → Row → Bool
is_row r x = same_bytes x.bucket r.bucket && (same_bytes x.key r.key && nat_eq x.place r.place)

is_row-Decides : (r x : Row) → Decides (is_row r x) (x ≡ r)
is_row-Decides r x =
    Decides-like (is_row r x) (λ e. λ i. record { bucket = e.0 i; key = e.1.0 i; place = e.1.1 i }) (λ e. (ap (λ y. y.bucket) e, (ap (λ y. y.key) e, ap (λ y. y.place) e)))
    (Decides-and _ _ (bytes_eq-Decides x.bucket r.bucket) (Decides-and _ _ (bytes_eq-Decides x.key r.key) (Decides-eqb x.place r.place)))

module _ (row_at : ℕ → Option Row) (n : ℕ) (rows : List Row) (t : IsTableOf row_at n rows) where
  -- the row of a place is there
  pub row_in : (b : ℕ) (r : Row) → b < n → row_at b ≡ Some r → Contains rows r
  row_in b r lt e =
      let here : sum_of (λ x. one_if (is_row r x)) (row_at b) ≡ 1 = ap (sum_of (λ x. one_if (is_row r x))) e ∙ ap one_if ((is_row-Decides r r).1 refl) in
      let positive : 0 < sum_of (λ x. one_if (is_row r x)) (row_at b) = omega (arith, here) in
      let all = some_below (λ k. sum_of (λ x. one_if (is_row r x)) (row_at k)) n b lt positive in
      let told = t.told (λ x. one_if (is_row r x)) in
      let more : 0 < sum_by (λ x. one_if (is_row r x)) rows = omega (arith, told, all) in
      let found = some_passes (is_row r) rows more in
      subst (Contains rows) ((is_row-Decides r found.0).0 found.2) found.1

  -- and a row is that of a place
  pub row_out : (m : ℕ) (d : Row) → m < length rows → (b : ℕ) × (b < n) × (row_at b ≡ Some (get_or rows m d))
  row_out m d lt =
      let r = get_or rows m d in
      let more = passes_some (is_row r) rows m d lt ((is_row-Decides r r).1 refl) in
      let told = t.told (λ x. one_if (is_row r x)) in
      let positive : 0 < sum_below (λ k. sum_of (λ x. one_if (is_row r x)) (row_at k)) n = omega (arith, told, more) in
      let found = below_some (λ k. sum_of (λ x. one_if (is_row r x)) (row_at k)) n positive in
      (found.0, found.1, by_case r (row_at found.0) refl found.2)
    where
      by_case : (r : Row) (o : Option Row) {o' : Option Row} → o' ≡ o → 0 < sum_of (λ x. one_if (is_row r x)) o → o' ≡ Some r
      by_case r None e more = absurd (omega arith)
      by_case r (Some x) {o'} e more = by_test (is_row r x) refl
        where
          by_test : (c : Bool) → is_row r x ≡ c → o' ≡ Some r
          by_test true c = e ∙ ap Some ((is_row-Decides r x).0 c)
          by_test false c = let none : one_if (is_row r x) ≡ 0 = ap one_if c in absurd (omega (arith, none, more))

-- ---- in which range those of a key stand

module _ (rows : List Row) (bucket key : List ℕ) (i low high : ℕ)
    (at_low : IsPartitionPoint (λ r. is_before bucket key 0 r ≡ true) (λ r. is_before bucket key 0 r ≡ false) rows low)
    (at_high : IsPartitionPoint (λ r. is_before bucket key i r ≡ true) (λ r. is_before bucket key i r ≡ false) rows high) where
  one_true : (b : Bool) → one_if b ≡ 1 → b ≡ true
  one_true true e = refl
  one_true false e = absurd (omega (arith, e))

  pub in_range : (m : ℕ) (d : Row) → low ≤ m → m < high → m < length rows → is_of bucket key i (get_or rows m d) ≡ true
  in_range m d above below inside =
      let first : 0 ≤ m = omega arith in
      let late : one_if (is_before bucket key 0 (get_or rows m d)) ≡ 0 = ap one_if (at_low.1 m d above inside) in
      let early : one_if (is_before bucket key i (get_or rows m d)) ≡ 1 = ap one_if (at_high.0 m d first below) in
      one_true _ (omega (arith, late, early, before_split bucket key i (get_or rows m d)))

  pub range_in : (m : ℕ) (d : Row) → m < length rows → is_of bucket key i (get_or rows m d) ≡ true → (low ≤ m) × (m < high)
  range_in m d inside e = (above, below)
    where
      here : one_if (is_of bucket key i (get_or rows m d)) ≡ 1
      here = ap one_if e

      most : (b : Bool) → one_if b ≤ 1
      most true = omega arith
      most false = omega arith

      above : low ≤ m
      above = elim (cases_lt m low) as (λ t. low ≤ m) [
        | inl less ↦
            let first : 0 ≤ m = omega arith in
            let two : one_if (is_before bucket key 0 (get_or rows m d)) ≡ 1 = ap one_if (at_low.0 m d first less) in
            let top = most (is_before bucket key i (get_or rows m d)) in
            let one : one_if (is_of bucket key i (get_or rows m d)) ≡ 1 = here in
            absurd (omega (arith, two, top, one, before_split bucket key i (get_or rows m d)))
        | inr le ↦ le
      ]

      below : m < high
      below = elim (cases_lt m high) as (λ t. m < high) [
        | inl less ↦ less
        | inr le ↦
            let none : one_if (is_before bucket key i (get_or rows m d)) ≡ 0 = ap one_if (at_high.1 m d le inside) in
            let one : one_if (is_of bucket key i (get_or rows m d)) ≡ 1 = here in
            absurd (omega (arith, none, one, before_split bucket key i (get_or rows m d)))
      ]

-- ---- the version of an acknowledgement stands where it was given

mapped : {A B : Type 0} (f : A → B) (o : Option A) (y : B) → option_map f o ≡ Some y → (x : A) × (o ≡ Some x) × (f x ≡ y)
mapped f None y e = cc
mapped f (Some x) y e = (x, refl, cc)

pub version_of_acknowledged : (h : List Record) (b q end : ℕ) (v : Version) → acknowledged h b q ≡ Some (end, v) → version_in h end ≡ Some v
version_of_acknowledged h b q end v e =
    option_and_then_some (λ f. option_map (λ w. (f.0, w)) (version_of f.1)) (finish h b q) (end, v) e (λ f is at. from_finish f is (mapped (λ w. (f.0, w)) (version_of f.1) (end, v) at))
  where
    from_finish : (f : ℕ × Answer) → finish h b q ≡ Some f → (w : Version) × (version_of f.1 ≡ Some w) × ◌≡◌ {A = ℕ × Version} (f.0, w) (end, v) → version_in h end ≡ Some v
    from_finish f is (w, has, same) =
        option_and_then_some (finish_at h) (next h b q) f is (λ j there at. from_place f w has same j (mapped (λ answer. (j, answer)) (option_and_then answer_of (slice_get h j)) f at))
      where
        from_place : (f : ℕ × Answer) (w : Version) → version_of f.1 ≡ Some w → ◌≡◌ {A = ℕ × Version} (f.0, w) (end, v) → (j : ℕ) → (a : Answer) × (option_and_then answer_of (slice_get h j) ≡ Some a) × ◌≡◌ {A = ℕ × Answer} (j, a) f → version_in h end ≡ Some v
        from_place f w has same j (a, told, is) =
            let place : j ≡ end = ap (λ x. x.0) is ∙ ap (λ x. x.0) same in
            let answer : a ≡ f.1 = ap (λ x. x.1) is in
            let version : w ≡ v = ap (λ x. x.1) same in
            ap (version_in h) (sym place) ∙ (ap (option_and_then version_of) told ∙ (ap version_of answer ∙ (has ∙ ap Some version)))

-- ---- the newest of a range is the newest of the places

module _ (h : List Record) (i b : ℕ) (r : Row) (early : r.place < i) where
  -- a row is that of an acknowledged write, with the version that stands where it was given
  pub ack_back : ack_at h b ≡ Some r → (v : Version) × IsAcknowledged h i r.bucket r.key v × (version_in h r.place ≡ Some v)
  ack_back e = there (slice_get h b) refl e
    where
      there : (o : Option Record) → slice_get h b ≡ o → ack_of h b o ≡ Some r → (v : Version) × IsAcknowledged h i r.bucket r.key v × (version_in h r.place ≡ Some v)
      there None at e = let no : ◌≡◌ {A = Option Row} None (Some r) = e in cc
      there (Some (Finished q answer)) at e = let no : ◌≡◌ {A = Option Row} None (Some r) = e in cc
      there (Some (Ended q cause)) at e = let no : ◌≡◌ {A = Option Row} None (Some r) = e in cc
      there (Some (Began q node kind bucket key)) at e = by_case (is_write kind) refl e
        where
          found : (a : ℕ × Version) × (acknowledged h b q ≡ Some a) × ◌≡◌ {A = Row} (record { bucket = bucket; key = key; place = a.0 }) r → is_write kind ≡ true → (v : Version) × IsAcknowledged h i r.bucket r.key v × (version_in h r.place ≡ Some v)
          found (a, is, same) writes =
              let ended : a.0 ≡ r.place = ap (λ x. x.place) same in (
                a.1,
                record {
                  request = q;
                  kind = kind;
                  place = b;
                  end = r.place;
                  writes = writes;
                  began = (node, at ∙ (λ t. Some (Began q node kind (same t).bucket (same t).key)));
                  finished = is ∙ (λ t. Some (ended t, a.1));
                  before = early;
                },
                ap (version_in h) (sym ended) ∙ version_of_acknowledged h b q a.0 a.1 is,
              )

          by_case : (c : Bool) → is_write kind ≡ c → cond c (option_map (λ (a : ℕ × Version). record { bucket = bucket; key = key; place = a.0 }) (acknowledged h b q)) None ≡ Some r → (v : Version) × IsAcknowledged h i r.bucket r.key v × (version_in h r.place ≡ Some v)
          by_case true c e = found (mapped (λ (a : ℕ × Version). record { bucket = bucket; key = key; place = a.0 }) (acknowledged h b q) r e) c
          by_case false c e = let no : ◌≡◌ {A = Option Row} None (Some r) = e in cc

-- what gives a version in a record is there
pub version_within : (h : List Record) (e : ℕ) (v : Version) → version_in h e ≡ Some v → e < length h
version_within h e v is = by_case (slice_get h e) refl is
  where
    by_case : (o : Option Record) → slice_get h e ≡ o → option_and_then version_of (option_and_then answer_of o) ≡ Some v → e < length h
    by_case None at told = let no : ◌≡◌ {A = Option Version} None (Some v) = told in cc
    by_case (Some r) at told = slice_get_within h e r at

-- a row stands where a record is
pub row_within : (h : List Record) (b : ℕ) (r : Row) → ack_at h b ≡ Some r → r.place < length h
row_within h b r is = let early : r.place < r.place + 1 = omega arith in let found = ack_back h (r.place + 1) b r early is in version_within h r.place found.0 found.2

-- an acknowledged write has its row
pub acknowledged_in : (h : List Record) (rows : List Row) → IsTable h rows → (i : ℕ) (bucket key : List ℕ) (v : Version) (a : IsAcknowledged h i bucket key v) → Contains rows (record { bucket = bucket; key = key; place = a.end })
acknowledged_in h rows t i bucket key v a = row_in (ack_at h) (length h) rows t a.place _ (slice_get_within h a.place _ a.began.1) told
  where
    writes : is_write a.kind ≡ true
    writes = a.writes

    told : ack_at h a.place ≡ Some (record { bucket = bucket; key = key; place = a.end })
    told = ap (ack_of h a.place) a.began.1 ∙ ((λ t. cond (writes t) (option_map (λ (x : ℕ × Version). record { bucket = bucket; key = key; place = x.0 }) (acknowledged h a.place a.request)) None) ∙ ap (option_map (λ (x : ℕ × Version). record { bucket = bucket; key = key; place = x.0 })) a.finished)

-- ---- the rows of a key

is_of_key-Decides : (bucket key : List ℕ) (r : Row) → Decides (is_of_key bucket key r) ((r.bucket ≡ bucket) × (r.key ≡ key))
is_of_key-Decides bucket key r = Decides-and _ _ (bytes_eq-Decides r.bucket bucket) (bytes_eq-Decides r.key key)

pub is_its_own : (r : Row) → is_of_key r.bucket r.key r ≡ true
is_its_own r = (is_of_key-Decides r.bucket r.key r).1 (refl, refl)

pub of_key : (bucket key : List ℕ) (r : Row) → is_of_key bucket key r ≡ true → (r.bucket ≡ bucket) × (r.key ≡ key)
of_key bucket key r = (is_of_key-Decides bucket key r).0

module _ (h : List Record) (rows : List Row) (sorted : IsSorted row_cmp rows) (bucket key : List ℕ) where
  -- the row before place k is of the key, or no row before it is, where what stands at the end of them is of the key, or would be
  pub none_of_key : (k : ℕ) (c : Row) → k ≤ length rows → c.bucket ≡ bucket → c.key ≡ key → ((d : Row) → 0 < k → is_lt (row_cmp c (get_or rows (k - 1) d)) ≡ false) →
      follows_key rows k bucket key ≡ false → (m : ℕ) → m < k → row_version h rows bucket key m ≡ None
  none_of_key k c le b e after follows m lt = by_row (slice_get rows m) refl
    where
      by_row : (o : Option Row) → slice_get rows m ≡ o → version_of_row h bucket key o ≡ None
      by_row None at = refl
      by_row (Some r) at = by_test (is_of_key bucket key r) refl
        where
          by_test : (t : Bool) → is_of_key bucket key r ≡ t → cond t (version_in h r.place) None ≡ None
          by_test false t = refl
          by_test true t =
              let some : 0 < k = omega arith in
              let last : k - 1 < length rows = omega arith in
              let upto : m ≤ k - 1 = omega arith in
              let mine = of_key bucket key r t in
              let here : get_or rows m r ≡ r = get_or_from_slice_get rows m r r at in
              let far : is_lt (row_cmp (get_or rows (k - 1) r) r) ≡ false = subst (λ x. is_lt (row_cmp (get_or rows (k - 1) r) x) ≡ false) here (not_less row_total rows sorted m (k - 1) r upto last) in
              let same = between r (get_or rows (k - 1) r) c far (after r some) (b ∙ sym mine.0) (e ∙ sym mine.1) in
              let yes : follows_key rows k bucket key ≡ true =
              ap (λ x. nat_lt 0 k && is_of_key_at bucket key x) (slice_get-get_or rows (k - 1) r last)
              ∙ (λ j. lt-ltb 0 k some j && (is_of_key-Decides bucket key (get_or rows (k - 1) r)).1 (same.0 ∙ mine.0, same.1 ∙ mine.1) j) in
              let no : false ≡ true = sym follows ∙ yes in cc

  -- where it is of the key, it is there
  pub of_key_before : (k : ℕ) → follows_key rows k bucket key ≡ true → (r : Row) × (0 < k) × ((slice_get rows (k - 1) ≡ Some r) × ((r.bucket ≡ bucket) × (r.key ≡ key)))
  of_key_before k e =
      let parts = and_parts (nat_lt 0 k) _ e in by_row (slice_get rows (k - 1)) refl (ltb-true 0 k parts.0) parts.1
    where
      by_row : (o : Option Row) → slice_get rows (k - 1) ≡ o → 0 < k → is_of_key_at bucket key o ≡ true → (r : Row) × (0 < k) × ((slice_get rows (k - 1) ≡ Some r) × ((r.bucket ≡ bucket) × (r.key ≡ key)))
      by_row None at some t = let no : false ≡ true = t in cc
      by_row (Some r) at some t = (r, some, (at, of_key bucket key r t))

module _ (h : List Record) (rows : List Row) (t : IsTable h rows) (bucket key : List ℕ) (i high : ℕ) (le : high ≤ length rows)
    (at_high : IsPartitionPoint (λ r. is_before bucket key i r ≡ true) (λ r. is_before bucket key i r ≡ false) rows high) where
  -- the row of this key at a place
  abbrev row_of : ℕ → Row
  row_of end = record { bucket = bucket; key = key; place = end }

  -- an acknowledged write of the key before place i has its row before the point
  acknowledged_row : (v : Version) → IsAcknowledged h i bucket key v → (m : ℕ) × (m < high) × (row_version h rows bucket key m ≡ Some v)
  acknowledged_row v a = (m.0, below, ap (version_of_row h bucket key) there ∙ (ap (λ x. cond x (version_in h a.end) None) (is_its_own (row_of a.end)) ∙ version_of_acknowledged h a.place a.request a.end v a.finished))
    where
      m : Contains rows (row_of a.end)
      m = acknowledged_in h rows t i bucket key v a

      is : (d : Row) → get_or rows m.0 d ≡ row_of a.end
      is d = get_or_default rows m.0 d (row_of a.end) m.1 ∙ m.2

      there : slice_get rows m.0 ≡ Some (row_of a.end)
      there = slice_get-get_or rows m.0 (row_of a.end) m.1 ∙ ap Some m.2

      passes : is_before bucket key i (get_or rows m.0 (row_of a.end)) ≡ true
      passes = ap (is_before bucket key i) (is (row_of a.end)) ∙ (own_before bucket key i (row_of a.end) refl refl ∙ lt-ltb a.end i a.before)

      below : m.0 < high
      below = elim (cases_lt m.0 high) as (λ c. m.0 < high) [
        | inl less ↦ less
        | inr up ↦ let no : false ≡ true = sym (at_high.1 m.0 (row_of a.end) up m.1) ∙ passes in cc
      ]

  -- and a version before the point is that of one
  row_acknowledged : (m : ℕ) (v : Version) → m < high → row_version h rows bucket key m ≡ Some v → IsAcknowledged h i bucket key v
  row_acknowledged m v lt e = by_row (slice_get rows m) refl e
    where
      by_row : (o : Option Row) → slice_get rows m ≡ o → version_of_row h bucket key o ≡ Some v → IsAcknowledged h i bucket key v
      by_row None at e = let no : ◌≡◌ {A = Option Version} None (Some v) = e in cc
      by_row (Some r) at e = by_test (is_of_key bucket key r) refl e
        where
          by_test : (c : Bool) → is_of_key bucket key r ≡ c → cond c (version_in h r.place) None ≡ Some v → IsAcknowledged h i bucket key v
          by_test false c e = let no : ◌≡◌ {A = Option Version} None (Some v) = e in cc
          by_test true c e =
              let mine = of_key bucket key r c in
              let here : get_or rows m r ≡ r = get_or_from_slice_get rows m r r at in
              let first : 0 ≤ m = omega arith in
              let inside : m < length rows = omega arith in
              let before : is_before bucket key i r ≡ true = subst (λ x. is_before bucket key i x ≡ true) here (at_high.0 m r first lt) in
              let early : r.place < i = ltb-true r.place i (sym (own_before bucket key i r mine.0 mine.1) ∙ before) in
              let told = row_out (ack_at h) (length h) rows t m r inside in
              let found = ack_back h i told.0 r early (told.2 ∙ ap Some here) in
              let same : ◌≡◌ {A = Option Version} (Some found.0) (Some v) = sym found.2 ∙ e in
              let version : found.0 ≡ v = cc in
              subst (λ x. IsAcknowledged h i bucket key x) version (subst (λ x. IsAcknowledged h i bucket x found.0) mine.1 (subst (λ x. IsAcknowledged h i x r.key found.0) mine.0 found.1))

  pub newest_of_rows : (r : Option Version) → IsNewestBelow (row_version h rows bucket key) high r → IsNewestBelow (version_at h i bucket key) i r
  newest_of_rows r newest = record {
    none = λ e k lt. silent e k (version_at h i bucket key k) refl;
    some = λ w e. (let found = newest.some w e in let a = row_acknowledged found.0 w found.1 found.2 in (a.place, placed h i bucket key w a, version_there h i bucket key w a));
    above = λ w e k v lt at. (let m = acknowledged_row v (acknowledged_there h i bucket key k v at) in newest.above w e m.0 v m.1 m.2);
  }
    where
      silent : r ≡ None → (k : ℕ) (o : Option Version) → version_at h i bucket key k ≡ o → o ≡ None
      silent e k None at = refl
      silent e k (Some v) at =
          let m = acknowledged_row v (acknowledged_there h i bucket key k v at) in
          let no : ◌≡◌ {A = Option Version} None (Some v) = sym (newest.none e m.0 m.1) ∙ m.2 in cc

  -- the newest of the key is that of the row before the point, where it is of the key, and none else
  pub newest_none : follows_key rows high bucket key ≡ false → IsNewestBelow (version_at h i bucket key) i None
  newest_none follows =
      newest_of_rows None (newest_not _ high (none_of_key h rows t.sorted bucket key high (row_of i) le refl refl
      (λ d some. let first : 0 ≤ high - 1 = omega arith in let lt : high - 1 < high = omega arith in less_back row_total (get_or rows (high - 1) d) (row_of i) (at_high.0 (high - 1) d first lt)) follows))

  pub newest_some : (all : List (Option Version)) → AreNewest h rows all → follows_key rows high bucket key ≡ true → (d : Option Version) → IsNewestBelow (version_at h i bucket key) i (get_or all (high - 1) d)
  newest_some all told follows d =
      let (r, some, (at, same)) = of_key_before h rows t.sorted bucket key high follows in
      let next : high - 1 + 1 ≡ high = omega (arith, some) in
      let is : get_or all (high - 1) d ≡ newest_of (row_version h rows bucket key) high = told.newest (high - 1) r d at ∙ (λ t. newest_of (row_version h rows (same.0 t) (same.1 t)) (next t)) in
      newest_of_rows (get_or all (high - 1) d) (subst (IsNewestBelow (row_version h rows bucket key) high) (sym is) (newest_of-is (row_version h rows bucket key) high))
