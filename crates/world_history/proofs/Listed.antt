-- The rows of the keys that a list names, key by key.
use Rattle.std.proofs.Common.{◌≡◌, ℕ, zero, suc, ◌+◌, ◌-◌, ◌<◌, ◌≤◌, Bool, true, false, ◌&&◌, List, [], ◌∷◌, Option, Some, None, nat_eq, nat_lt, length, get_or, take, slice_get, Ordering, eq-eqb, inl, inr, refl, ap, sym, ◌∙◌, subst, arith}
use Rattle.std.specs.declared.cmp.Ordering.TheVariants.{Less, Equal, Greater}
use Rattle.std.specs.List.{Contains, sum_by, starts_with}
use Rattle.std.specs.List.Sorted.{IsSorted, IsPartitionPoint}
use Rattle.std.specs.Ordering.{nat_cmp, ordering_then, is_lt, MatchOrdering}
use Rattle.std.specs.Cmp.{ranks, nat_cmp_total, tied_itself}
use Rattle.std.specs.Cmp.Lexicographic.{slice_cmp, nat_list_cmp_total}
use Rattle.std.proofs.lemmas.Bool.{cases_lt, and_parts, eqb-true, lt-ltb, le-ltb, ltb-true}
use Rattle.std.proofs.lemmas.List.{take_all}
use Rattle.std.proofs.lemmas.List.Sums.{sum_by_more}
use Rattle.std.proofs.lemmas.Option.{slice_get_within, slice_get-get_or, get_or_from_slice_get}
use Rattle.std.proofs.lemmas.Slice.Eq.{bytes_eq-Decides}
use Rattle.crdt_rows.specs.declared.version.Version.{Version}
use Rattle.history_model.specs.declared.record.Kind.{Kind}
use Rattle.history_model.specs.declared.record.Kind.TheVariants.{Put, Get, Head, Delete, Copy, List as Listing}
use Rattle.history_model.specs.declared.record.Answer.{Answer}
use Rattle.history_model.specs.declared.record.Record.{Record}
use Rattle.history_model.specs.Fresh.{IsAcknowledged}
use Rattle.history_model.specs.Record.{is_list, names, same_bytes}
use Rattle.world_history.specs.declared.rows.Row.{Row}
use Rattle.world_history.specs.Table.{row_cmp, IsTable, is_before, is_listed, is_listed_at, is_listed_before, IsKeyEnd, one_if}
use Rattle.world_history.specs.Checks.{covers_key, covers_all}
use Rattle.world_history.proofs.Newest.{not_covers, all_covers}
use Rattle.world_history.proofs.Sorted.{not_less, less_back, ties, first_not, second_not}
use Rattle.world_history.proofs.Table.{row_total, none_before, own_before, between, tied_bytes}
use Rattle.world_history.proofs.Rowed.{acknowledged_in}

-- ---- strings with a prefix

-- what ties is one number
tied_number : (x y : ℕ) → nat_cmp x y ≡ Equal → x ≡ y
tied_number x y e = subst (λ s. MatchOrdering s (x < y) (x ≡ y) (y < x)) e (ranks x y)

-- a string isn't less than its own beginning
pub starts_not_less : (prefix key : List ℕ) → starts_with nat_eq key prefix ≡ true → is_lt (slice_cmp nat_cmp key prefix) ≡ false
starts_not_less [] [] e = refl
starts_not_less [] (x ∷ xs) e = refl
starts_not_less (p ∷ ps) [] e = cc
starts_not_less (p ∷ ps) (x ∷ xs) e =
    let parts = and_parts (nat_eq p x) (starts_with nat_eq xs ps) e in
    let same : x ≡ p = sym (eqb-true p x parts.0) in
    (λ i. is_lt (ordering_then (nat_cmp (same i) p) (slice_cmp nat_cmp xs ps)))
    ∙ ((λ i. is_lt (ordering_then (tied_itself nat_cmp_total p i) (slice_cmp nat_cmp xs ps))) ∙ starts_not_less ps xs parts.1)

-- what stands between a prefix and a string that begins with it begins with it
pub starts_between : (prefix key other : List ℕ) → is_lt (slice_cmp nat_cmp key prefix) ≡ false → is_lt (slice_cmp nat_cmp other key) ≡ false → starts_with nat_eq other prefix ≡ true → starts_with nat_eq key prefix ≡ true
starts_between [] [] other a b e = refl
starts_between [] (x ∷ xs) other a b e = refl
starts_between (p ∷ ps) [] other a b e = let no : true ≡ false = a in cc
starts_between (p ∷ ps) (x ∷ xs) [] a b e = cc
starts_between (p ∷ ps) (x ∷ xs) (y ∷ ys) a b e =
    let parts = and_parts (nat_eq p y) (starts_with nat_eq ys ps) e in
    let same : y ≡ p = sym (eqb-true p y parts.0) in
    let tie : nat_cmp x p ≡ Equal = ties nat_cmp_total x p (first_not _ _ a) (subst (λ n. is_lt (nat_cmp n x) ≡ false) same (first_not _ _ b)) in
    let one : x ≡ p = tied_number x p tie in
    let back : nat_cmp y x ≡ Equal = (λ i. nat_cmp (same i) (one i)) ∙ tied_itself nat_cmp_total p in
    let rest = starts_between ps xs ys (second_not _ _ a tie) (second_not _ _ b back) parts.1 in
    (λ i. nat_eq p (one i) && starts_with nat_eq xs ps) ∙ ((λ i. eq-eqb p p refl i && rest i))

-- a list names the keys with its prefix
pub listing : (kind : Kind) → is_list kind ≡ true → kind ≡ Listing
listing Put e = let no : false ≡ true = e in cc
listing Get e = let no : false ≡ true = e in cc
listing Head e = let no : false ≡ true = e in cc
listing Delete e = let no : false ≡ true = e in cc
listing Copy e = let no : false ≡ true = e in cc
listing Listing e = refl

pub names_begun : (kind : Kind) → is_list kind ≡ true → (own key : List ℕ) → names kind own key ≡ starts_with nat_eq key own
names_begun kind e own key = ap (λ k. names k own key) (listing kind e)

-- ---- the rows that a list names

listed_parts : (bucket prefix : List ℕ) (r : Row) → is_listed bucket prefix r ≡ true → (r.bucket ≡ bucket) × (starts_with nat_eq r.key prefix ≡ true)
listed_parts bucket prefix r e = let parts = and_parts (same_bytes r.bucket bucket) (starts_with nat_eq r.key prefix) e in ((bytes_eq-Decides r.bucket bucket).0 parts.0, parts.1)

listed_both : (bucket prefix : List ℕ) (r : Row) → r.bucket ≡ bucket → starts_with nat_eq r.key prefix ≡ true → is_listed bucket prefix r ≡ true
listed_both bucket prefix r b s = λ i. (bytes_eq-Decides r.bucket bucket).1 b i && s i

-- a row is there, or none
pub listed_there : (rows : List Row) (k : ℕ) (bucket prefix : List ℕ) → is_listed_at bucket prefix (slice_get rows k) ≡ true → (r : Row) × (k < length rows) × ((slice_get rows k ≡ Some r) × (is_listed bucket prefix r ≡ true))
listed_there rows k bucket prefix e = by_row (slice_get rows k) refl e
  where
    by_row : (o : Option Row) → slice_get rows k ≡ o → is_listed_at bucket prefix o ≡ true → (r : Row) × (k < length rows) × ((slice_get rows k ≡ Some r) × (is_listed bucket prefix r ≡ true))
    by_row None at t = let no : false ≡ true = t in cc
    by_row (Some r) at t = (r, slice_get_within rows k r at, (at, t))

-- a row whose key isn't less than the prefix doesn't stand before what is named
own_start : (bucket prefix : List ℕ) (r : Row) → r.bucket ≡ bucket → is_lt (slice_cmp nat_cmp r.key prefix) ≡ false → is_before bucket prefix 0 r ≡ false
own_start bucket prefix r b k =
    (λ i. is_lt (ordering_then (slice_cmp nat_cmp (b i) bucket) (ordering_then (slice_cmp nat_cmp r.key prefix) (nat_cmp r.place 0))))
    ∙ ((λ i. is_lt (ordering_then (tied_itself nat_list_cmp_total bucket i) (ordering_then (slice_cmp nat_cmp r.key prefix) (nat_cmp r.place 0)))) ∙ by_order (slice_cmp nat_cmp r.key prefix) k)
  where
    by_order : (o : Ordering) → is_lt o ≡ false → is_lt (ordering_then o (nat_cmp r.place 0)) ≡ false
    by_order Less e = e
    by_order Equal e = none_before r.place
    by_order Greater e = refl

-- from place k on no row stands before those that are named
abbrev pub NoneBefore : List Row → List ℕ → List ℕ → ℕ → Type 0
NoneBefore rows bucket prefix k = (m : ℕ) (d : Row) → k ≤ m → m < length rows → is_before bucket prefix 0 (get_or rows m d) ≡ false

-- as a search found it, and further on
pub none_first : (rows : List Row) (bucket prefix : List ℕ) (k : ℕ) → IsPartitionPoint (λ r. is_before bucket prefix 0 r ≡ true) (λ r. is_before bucket prefix 0 r ≡ false) rows k → NoneBefore rows bucket prefix k
none_first rows bucket prefix k point m d le lt = point.1 m d le lt

pub none_further : (rows : List Row) (bucket prefix : List ℕ) (k end : ℕ) → k ≤ end → NoneBefore rows bucket prefix k → NoneBefore rows bucket prefix end
none_further rows bucket prefix k end up none m d le lt = let from : k ≤ m = omega arith in none m d from lt

module _ (rows : List Row) (sorted : IsSorted row_cmp rows) (bucket prefix : List ℕ) where
  -- the row that would stand before all that are named
  abbrev start_row : Row
  start_row = record { bucket = bucket; key = prefix; place = 0 }

  -- a row that stands before them isn't named
  pub before_unlisted : (r : Row) → is_before bucket prefix 0 r ≡ true → is_listed bucket prefix r ≡ false
  before_unlisted r e = by_test (is_listed bucket prefix r) refl
    where
      by_test : (t : Bool) → is_listed bucket prefix r ≡ t → t ≡ false
      by_test false t = refl
      by_test true t =
          let parts = listed_parts bucket prefix r t in
          let at_key = starts_not_less prefix r.key parts.1 in
          let not : is_before bucket prefix 0 r ≡ false = own_start bucket prefix r parts.0 at_key in
          let no : true ≡ false = sym e ∙ not in cc

  -- where the row at k isn't named, nor any before it that could come behind it, none is from there on
  pub unlisted_from : (k : ℕ) → NoneBefore rows bucket prefix k → is_listed_at bucket prefix (slice_get rows k) ≡ false → (m : ℕ) (d : Row) → k ≤ m → m < length rows → is_listed bucket prefix (get_or rows m d) ≡ false
  unlisted_from k none e m d le lt = by_test (is_listed bucket prefix (get_or rows m d)) refl
    where
      by_test : (t : Bool) → is_listed bucket prefix (get_or rows m d) ≡ t → t ≡ false
      by_test false t = refl
      by_test true t =
          let parts = listed_parts bucket prefix (get_or rows m d) t in
          let inside : k < length rows = omega arith in
          let same : k ≤ k = omega arith in
          let start : is_lt (row_cmp (get_or rows k d) start_row) ≡ false = none k d same inside in
          let far : is_lt (row_cmp (get_or rows m d) (get_or rows k d)) ≡ false = not_less row_total rows sorted k m d le lt in
          let tie : slice_cmp nat_cmp (get_or rows k d).bucket bucket ≡ Equal = ties nat_list_cmp_total (get_or rows k d).bucket bucket (first_not _ _ start) (subst (λ b. is_lt (slice_cmp nat_cmp b (get_or rows k d).bucket) ≡ false) parts.0 (first_not _ _ far)) in
          let is : (get_or rows k d).bucket ≡ bucket = tied_bytes _ _ tie in
          let back : slice_cmp nat_cmp (get_or rows m d).bucket (get_or rows k d).bucket ≡ Equal = (λ i. slice_cmp nat_cmp (parts.0 i) (is i)) ∙ tied_itself nat_list_cmp_total bucket in
          let begun = starts_between prefix (get_or rows k d).key (get_or rows m d).key (first_not _ _ (second_not _ _ start tie)) (first_not _ _ (second_not _ _ far back)) parts.1 in
          let yes : is_listed_at bucket prefix (slice_get rows k) ≡ true = ap (is_listed_at bucket prefix) (slice_get-get_or rows k d inside) ∙ listed_both bucket prefix (get_or rows k d) is begun in
          let no : false ≡ true = sym e ∙ yes in cc

-- ---- the end of a key's rows

module _ (rows : List Row) (sorted : IsSorted row_cmp rows) (k n end : ℕ) (r : Row) (at : slice_get rows k ≡ Some r) (le : end ≤ length rows)
    (point : IsPartitionPoint (λ x. is_before r.bucket r.key n x ≡ true) (λ x. is_before r.bucket r.key n x ≡ false) rows end) where
  -- the row itself stands before it
  pub end_further : r.place < n → k < end
  end_further lt = elim (cases_lt k end) as (λ t. k < end) [
    | inl less ↦ less
    | inr up ↦
        let inside = slice_get_within rows k r at in
        let here : get_or rows k r ≡ r = get_or_from_slice_get rows k r r at in
        let early : is_before r.bucket r.key n (get_or rows k r) ≡ true = ap (is_before r.bucket r.key n) here ∙ (own_before r.bucket r.key n r refl refl ∙ lt-ltb r.place n lt) in
        let no : false ≡ true = sym (point.1 k r up inside) ∙ early in cc
  ]

  -- each from it on, before the end, is of its key
  pub one_key_rows : (m : ℕ) (d : Row) → k ≤ m → m < end → ((get_or rows m d).bucket ≡ r.bucket) × ((get_or rows m d).key ≡ r.key)
  one_key_rows m d up lt =
      let inside : m < length rows = omega arith in
      let here : get_or rows k d ≡ r = get_or_from_slice_get rows k r d at in
      let first : 0 ≤ m = omega arith in
      let far : is_lt (row_cmp (get_or rows m d) r) ≡ false = subst (λ x. is_lt (row_cmp (get_or rows m d) x) ≡ false) here (not_less row_total rows sorted k m d up inside) in
      between r (get_or rows m d) (record { bucket = r.bucket; key = r.key; place = n }) far (less_back row_total (get_or rows m d) (record { bucket = r.bucket; key = r.key; place = n }) (point.0 m d first lt)) refl refl

-- ---- what a list covers

-- each key that the rows below place k have, and that a list names, is covered
abbrev pub CoversBelow : List Record → List Row → ℕ → ℕ → List ℕ → List ℕ → Answer → ℕ → Type 0
CoversBelow h rows i j bucket own answer k = (m : ℕ) (d : Row) → m < k → m < length rows → is_listed bucket own (get_or rows m d) ≡ true → covers_key h i j bucket own answer (get_or rows m d).key ≡ true

module _ (h : List Record) (rows : List Row) (t : IsTable h rows) (i j : ℕ) (kind : Kind) (bucket own : List ℕ) (answer : Answer) (list : is_list kind ≡ true) where
  pub covers_first : (k : ℕ) → IsPartitionPoint (λ r. is_before bucket own 0 r ≡ true) (λ r. is_before bucket own 0 r ≡ false) rows k → CoversBelow h rows i j bucket own answer k
  covers_first k point m d lt inside e =
      let first : 0 ≤ m = omega arith in
      let no : false ≡ true = sym (before_unlisted rows t.sorted bucket own (get_or rows m d) (point.0 m d first lt)) ∙ e in cc

  pub covers_next : (k end : ℕ) (r : Row) → slice_get rows k ≡ Some r → end ≤ length rows → IsKeyEnd rows k (length h) end → covers_key h i j bucket own answer r.key ≡ true → CoversBelow h rows i j bucket own answer k → CoversBelow h rows i j bucket own answer end
  covers_next k end r at le point here before m d lt inside e =
      elim (cases_lt m k) as (λ c. covers_key h i j bucket own answer (get_or rows m d).key ≡ true) [
        | inl less ↦ before m d less inside e
        | inr up ↦ let same = one_key_rows rows t.sorted k (length h) end r at le (point r at) m d up lt in ap (covers_key h i j bucket own answer) same.1 ∙ here
      ]

  pub covers_not : (r : Row) → is_listed bucket own r ≡ true → covers_key h i j bucket own answer r.key ≡ false → covers_all h i j kind bucket own answer ≡ false
  covers_not r e = not_covers h i j kind bucket own answer r.key (names_begun kind list own r.key ∙ (listed_parts bucket own r e).1)

  pub covers_end : (k : ℕ) → NoneBefore rows bucket own k → CoversBelow h rows i j bucket own answer k → is_listed_at bucket own (slice_get rows k) ≡ false → covers_all h i j kind bucket own answer ≡ true
  covers_end k none before e = all_covers h i j kind bucket own answer each
    where
      each : (key : List ℕ) (v : Version) → names kind own key ≡ true → IsAcknowledged h i bucket key v → covers_key h i j bucket own answer key ≡ true
      each key v named a = subst (λ x. covers_key h i j bucket own answer x.key ≡ true) m.2 there
        where
          row : Row
          row = record { bucket = bucket; key = key; place = a.end }

          m : Contains rows row
          m = acknowledged_in h rows t i bucket key v a

          is : is_listed bucket own (get_or rows m.0 row) ≡ true
          is = ap (is_listed bucket own) m.2 ∙ listed_both bucket own row refl (sym (names_begun kind list own key) ∙ named)

          there : covers_key h i j bucket own answer (get_or rows m.0 row).key ≡ true
          there = elim (cases_lt m.0 k) as (λ c. covers_key h i j bucket own answer (get_or rows m.0 row).key ≡ true) [
            | inl less ↦ before m.0 row less m.1 is
            | inr up ↦ let no : false ≡ true = sym (unlisted_from rows t.sorted bucket own k none e m.0 row up m.1) ∙ is in cc
          ]

-- ---- sums over the rows of a key

sum_no : {X : Type 0} (f : X → ℕ) (xs : List X) → sum_by f (take 0 xs) ≡ 0
sum_no f [] = refl
sum_no f (x ∷ xs) = refl

module _ {X : Type 0} (f : X → ℕ) (xs : List X) (d : X) where
  -- each of n counts one
  sum_ones : (k n : ℕ) → k + n ≤ length xs → ((m : ℕ) → k ≤ m → m < k + n → f (get_or xs m d) ≡ 1) → sum_by f (take (k + n) xs) ≡ sum_by f (take k xs) + n
  sum_ones k zero le each = let same : k + 0 ≡ k = omega arith in ap (λ x. sum_by f (take x xs)) same ∙ omega arith
  sum_ones k (suc n) le each =
      let inside : k + n < length xs = omega arith in
      let less : k + n ≤ length xs = omega arith in
      let up : k ≤ k + n = omega arith in
      let last : k + n < k + suc n = omega arith in
      let one = each (k + n) up last in
      let rest = sum_ones k n less (λ m a b. let c : m < k + suc n = omega arith in each m a c) in
      let step = sum_by_more f xs (k + n) d inside in
      let next : k + n + 1 ≡ k + suc n = omega arith in
      ap (λ x. sum_by f (take x xs)) (sym next) ∙ omega (arith, step, rest, one)

  -- each of n counts nothing
  sum_nothing : (k n : ℕ) → k + n ≤ length xs → ((m : ℕ) → k ≤ m → m < k + n → f (get_or xs m d) ≡ 0) → sum_by f (take (k + n) xs) ≡ sum_by f (take k xs)
  sum_nothing k zero le each = let same : k + 0 ≡ k = omega arith in ap (λ x. sum_by f (take x xs)) same
  sum_nothing k (suc n) le each =
      let inside : k + n < length xs = omega arith in
      let less : k + n ≤ length xs = omega arith in
      let up : k ≤ k + n = omega arith in
      let last : k + n < k + suc n = omega arith in
      let none = each (k + n) up last in
      let rest = sum_nothing k n less (λ m a b. let c : m < k + suc n = omega arith in each m a c) in
      let step = sum_by_more f xs (k + n) d inside in
      let next : k + n + 1 ≡ k + suc n = omega arith in
      ap (λ x. sum_by f (take x xs)) (sym next) ∙ omega (arith, step, rest, none)

  -- from k to `end` those before p count one, and the others nothing
  sum_upto : (k p end : ℕ) → k ≤ end → p ≤ end → end ≤ length xs → ((m : ℕ) → k ≤ m → m < end → f (get_or xs m d) ≡ one_if (nat_lt m p)) → sum_by f (take end xs) ≡ sum_by f (take k xs) + (p - k)
  sum_upto k p end from upto le each = elim (cases_lt p k) as (λ c. sum_by f (take end xs) ≡ sum_by f (take k xs) + (p - k)) [
    | inl less ↦
        let all : k + (end - k) ≡ end = omega arith in
        let inside : k + (end - k) ≤ length xs = omega arith in
        let none = sum_nothing k (end - k) inside (λ m a b. let c : m < end = omega arith in let later : p ≤ m = omega arith in each m a c ∙ ap one_if (le-ltb m p later)) in
        ap (λ x. sum_by f (take x xs)) (sym all) ∙ omega (arith, none)
    | inr more ↦
        let here : k + (p - k) ≡ p = omega arith in
        let all : p + (end - p) ≡ end = omega arith in
        let first : k + (p - k) ≤ length xs = omega arith in
        let inside : p + (end - p) ≤ length xs = omega arith in
        let ones = sum_ones k (p - k) first (λ m a b. let c : m < end = omega arith in let early : m < p = omega arith in each m a c ∙ ap one_if (lt-ltb m p early)) in
        let none = sum_nothing p (end - p) inside (λ m a b. let c : m < end = omega arith in let from_k : k ≤ m = omega arith in each m from_k c ∙ ap one_if (le-ltb m p a)) in
        ap (λ x. sum_by f (take x xs)) (sym all) ∙ (none ∙ (ap (λ x. sum_by f (take x xs)) (sym here) ∙ ones))
  ]

module _ (rows : List Row) (sorted : IsSorted row_cmp rows) (bucket prefix : List ℕ) (i : ℕ) where
  abbrev filler : Row
  filler = record { bucket = []; key = []; place = 0 }

  -- 1 of a row that a list names, and that stands before place i
  abbrev one_of : Row → ℕ
  one_of r = one_if (is_listed_before bucket prefix i r)

  none_of : (r : Row) → is_listed bucket prefix r ≡ false → one_of r ≡ 0
  none_of r e = λ x. one_if (e x && nat_lt r.place i)

  -- none of those that stand before all that it names
  pub count_first : (k : ℕ) → k ≤ length rows → IsPartitionPoint (λ r. is_before bucket prefix 0 r ≡ true) (λ r. is_before bucket prefix 0 r ≡ false) rows k → sum_by one_of (take k rows) ≡ 0
  count_first k le point =
      let same : 0 + k ≡ k = omega arith in
      let inside : 0 + k ≤ length rows = omega (arith, le) in
      sym (ap (λ x. sum_by one_of (take x rows)) same)
      ∙ (sum_nothing one_of rows filler 0 k inside (λ m a b. let first : 0 ≤ m = omega arith in let lt : m < k = omega (arith, b) in none_of (get_or rows m filler) (before_unlisted rows sorted bucket prefix (get_or rows m filler) (point.0 m filler first lt)))
      ∙ sum_no one_of rows)

  -- of the rows of a key those before place i
  pub count_next : (n k p end : ℕ) (r : Row) → slice_get rows k ≡ Some r → is_listed bucket prefix r ≡ true → r.place < n → i ≤ n → p ≤ length rows → end ≤ length rows → IsKeyEnd rows k n end →
      IsPartitionPoint (λ x. is_before bucket r.key i x ≡ true) (λ x. is_before bucket r.key i x ≡ false) rows p → (p ≤ end) × (sum_by one_of (take end rows) ≡ sum_by one_of (take k rows) + (p - k))
  count_next n k p end r at listed early up inside le point before = (upto, sum_upto one_of rows filler k p end from upto le each)
    where
      mine : (r.bucket ≡ bucket) × (starts_with nat_eq r.key prefix ≡ true)
      mine = listed_parts bucket prefix r listed

      from : k ≤ end
      from = let lt = end_further rows sorted k n end r at le (point r at) early in omega (arith, lt)

      own : (m : ℕ) → k ≤ m → m < end → ((get_or rows m filler).bucket ≡ r.bucket) × ((get_or rows m filler).key ≡ r.key)
      own m a b = one_key_rows rows sorted k n end r at le (point r at) m filler a b

      upto : p ≤ end
      upto = elim (cases_lt end p) as (λ c. p ≤ end) [
        | inl less ↦
            let lt : end < length rows = omega arith in
            let zero_le : 0 ≤ end = omega arith in
            let same : end ≤ end = omega arith in
            let here : get_or rows k filler ≡ r = get_or_from_slice_get rows k r filler at in
            let far : is_lt (row_cmp (get_or rows end filler) r) ≡ false = subst (λ x. is_lt (row_cmp (get_or rows end filler) x) ≡ false) here (not_less row_total rows sorted k end filler from lt) in
            let stop : Row = record { bucket = bucket; key = r.key; place = i } in
            let key = between r (get_or rows end filler) stop far (less_back row_total (get_or rows end filler) stop (before.0 end filler zero_le less)) (sym mine.0) refl in
            let soon : (get_or rows end filler).place < i = ltb-true _ i (sym (own_before bucket r.key i (get_or rows end filler) (key.0 ∙ mine.0) key.1) ∙ before.0 end filler zero_le less) in
            let within : (get_or rows end filler).place < n = omega (arith, soon) in
            let no : false ≡ true = sym ((point r at).1 end filler same lt) ∙ (own_before r.bucket r.key n (get_or rows end filler) key.0 key.1 ∙ lt-ltb _ n within) in cc
        | inr more ↦ more
      ]

      each : (m : ℕ) → k ≤ m → m < end → one_of (get_or rows m filler) ≡ one_if (nat_lt m p)
      each m a b =
          let key = own m a b in
          let named : is_listed bucket prefix (get_or rows m filler) ≡ true = listed_both bucket prefix (get_or rows m filler) (key.0 ∙ mine.0) (ap (λ x. starts_with nat_eq x prefix) key.1 ∙ mine.1) in
          let is : is_before bucket r.key i (get_or rows m filler) ≡ nat_lt (get_or rows m filler).place i = own_before bucket r.key i (get_or rows m filler) (key.0 ∙ mine.0) key.1 in
          (λ x. one_if (named x && nat_lt (get_or rows m filler).place i)) ∙ ap one_if (sym is ∙ by_place m b)
        where
          by_place : (m : ℕ) → m < end → is_before bucket r.key i (get_or rows m filler) ≡ nat_lt m p
          by_place m b = elim (cases_lt m p) as (λ c. is_before bucket r.key i (get_or rows m filler) ≡ nat_lt m p) [
            | inl less ↦ let zero_le : 0 ≤ m = omega arith in before.0 m filler zero_le less ∙ sym (lt-ltb m p less)
            | inr more ↦ let lt : m < length rows = omega arith in before.1 m filler more lt ∙ sym (le-ltb m p more)
          ]

  -- and none from where the row isn't named
  pub count_end : (k : ℕ) → NoneBefore rows bucket prefix k → k ≤ length rows → is_listed_at bucket prefix (slice_get rows k) ≡ false → sum_by one_of (take k rows) ≡ sum_by one_of rows
  count_end k none le e =
      let all : k + (length rows - k) ≡ length rows = omega arith in
      let inside : k + (length rows - k) ≤ length rows = omega arith in
      let upto : length rows ≤ length rows = omega arith in
      let rest = sum_nothing one_of rows filler k (length rows - k) inside (λ m a b. let lt : m < length rows = omega arith in none_of (get_or rows m filler) (unlisted_from rows sorted bucket prefix k none e m filler a lt)) in
      sym rest ∙ (ap (λ x. sum_by one_of (take x rows)) all ∙ ap (sum_by one_of) (take_all (length rows) rows upto))
