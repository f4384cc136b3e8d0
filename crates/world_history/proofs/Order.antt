-- The entries of requests' numbers and places, in order, and the next record of a request.
use Rattle.std.proofs.Common.{◌≡◌, ℕ, ◌+◌, ◌-◌, ◌<◌, ◌≤◌, ◌⊎◌, Bool, true, false, ◌&&◌, cond, List, [], ◌∷◌, ◌++◌, Option, Some, None, option_map, nat_eq, nat_lt, length, get_or, slice_get, drop, Ordering, inl, inr, refl, ap, sym, ◌∙◌, subst, arith}
use Rattle.std.specs.List.{Contains, list_any, position, position_or_len, HoldsAt}
use Rattle.std.specs.Bool.{Decides}
use Rattle.std.specs.Ordering.{nat_cmp, MatchOrdering, ordering_then, ordering_index, is_lt}
use Rattle.std.specs.Cmp.{IsTotalOrder, ranks, nat_cmp_total, on_total, then_total}
use Rattle.std.specs.List.Sorted.{IsSorted, IsPermutation, IsPartitionPoint, IsPartitionedBy, IsNonDecreasingBy}
use Rattle.std.specs.declared.cmp.Ordering.TheVariants.{Less, Equal, Greater}
use Rattle.std.proofs.lemmas.Bool.{cases_lt, lt-ltb, le-ltb, ltb-true}
use Rattle.std.proofs.lemmas.Bool.Decides.{Decides-eqb, Decides-and, Decides-like}
use Rattle.std.proofs.lemmas.List.{get_or-drop, length-drop}
use Rattle.std.proofs.lemmas.List.Sums.{passes_at_first, fails_before_first}
use Rattle.std.proofs.lemmas.List.Elements.{Contains-get_or, Contains-push, Contains-push_cases, Contains-append_left}
use Rattle.std.proofs.lemmas.List.Sorted.{Contains-permutation, IsPermutation-sym, sorted_far, ranks_by, searchable_from_sorted}
use Rattle.std.proofs.lemmas.Option.{slice_get_within, slice_get-get_or, get_or_from_slice_get}
use Rattle.history_model.specs.declared.record.Record.{Record}
use Rattle.history_model.specs.declared.record.Answer.TheVariants.{None as Nothing}
use Rattle.history_model.specs.declared.record.Record.TheVariants.{Finished}
use Rattle.history_model.specs.Record.{request_of, next}
use Rattle.world_history.specs.Index.{place_cmp, is_earlier, Speaks, IsOrder, place_of}
use Rattle.world_history.proofs.Parts.{list_any-Decides}
use Rattle.world_history.proofs.Sorted.{less_first, lt_is}

-- ---- the order of entries

pub place_total : IsTotalOrder place_cmp
place_total = then_total (on_total (λ (e : ℕ × ℕ). e.0) nat_cmp_total) (on_total (λ (e : ℕ × ℕ). e.1) nat_cmp_total)

ranked : (a b : ℕ) (r : Ordering) → nat_cmp a b ≡ r → MatchOrdering r (a < b) (a ≡ b) (b < a)
ranked a b r e = subst (λ s. MatchOrdering s (a < b) (a ≡ b) (b < a)) e (ranks a b)

cmp_less : (a b : ℕ) → a < b → nat_cmp a b ≡ Less
cmp_less a b lt = by_order (nat_cmp a b) refl
  where
    by_order : (r : Ordering) → nat_cmp a b ≡ r → r ≡ Less
    by_order Less e = refl
    by_order Equal e = let same : a ≡ b = ranked a b Equal e in absurd (omega arith)
    by_order Greater e = let more : b < a = ranked a b Greater e in absurd (omega arith)

cmp_same : (a : ℕ) → nat_cmp a a ≡ Equal
cmp_same a = by_order (nat_cmp a a) refl
  where
    by_order : (r : Ordering) → nat_cmp a a ≡ r → r ≡ Equal
    by_order Less e = let less : a < a = ranked a a Less e in absurd (omega arith)
    by_order Equal e = refl
    by_order Greater e = let more : a < a = ranked a a Greater e in absurd (omega arith)

-- an earlier request's entry, and of one request an earlier place's
pub less_by_request : (a b : ℕ × ℕ) → a.0 < b.0 → place_cmp a b ≡ Less
less_by_request a b lt = ap (λ r. ordering_then r (nat_cmp a.1 b.1)) (cmp_less a.0 b.0 lt)

pub less_by_place : (q m n : ℕ) → m < n → place_cmp (q, m) (q, n) ≡ Less
less_by_place q m n lt = ap (λ r. ordering_then r (nat_cmp m n)) (cmp_same q) ∙ cmp_less m n lt

pub earlier_place : (q m n : ℕ) → place_cmp (q, m) (q, n) ≡ Less → m < n
earlier_place q m n e = ranked m n Less (sym (ap (λ r. ordering_then r (nat_cmp m n)) (cmp_same q)) ∙ e)

-- what is greater is of a later request, or of the same at a later place
pub greater_is : (a b : ℕ × ℕ) → place_cmp a b ≡ Greater → (b.0 < a.0) ⊎ ((a.0 ≡ b.0) × (b.1 < a.1))
greater_is a b e = by_order (nat_cmp a.0 b.0) refl e
  where
    by_order : (r : Ordering) → nat_cmp a.0 b.0 ≡ r → ordering_then r (nat_cmp a.1 b.1) ≡ Greater → (b.0 < a.0) ⊎ ((a.0 ≡ b.0) × (b.1 < a.1))
    by_order Less p g = let no : ◌≡◌ {A = Ordering} Less Greater = g in cc
    by_order Equal p g = inr (ranked a.0 b.0 Equal p, ranked a.1 b.1 Greater g)
    by_order Greater p g = inl (ranked a.0 b.0 Greater p)

-- what ties is one entry
pub equal_is : (a b : ℕ × ℕ) → place_cmp a b ≡ Equal → a ≡ b
equal_is a b e = by_order (nat_cmp a.0 b.0) refl e
  where
    by_order : (r : Ordering) → nat_cmp a.0 b.0 ≡ r → ordering_then r (nat_cmp a.1 b.1) ≡ Equal → a ≡ b
    by_order Less p g = let no : ◌≡◌ {A = Ordering} Less Equal = g in cc
    by_order Equal p g = let x : a.0 ≡ b.0 = ranked a.0 b.0 Equal p in let y : a.1 ≡ b.1 = ranked a.1 b.1 Equal g in (λ t. (x t, y t))
    by_order Greater p g = let no : ◌≡◌ {A = Ordering} Greater Equal = g in cc

-- those before a place of a request come first
pub earlier_parts : (order : List (ℕ × ℕ)) → IsSorted place_cmp order → (q n : ℕ) → IsPartitionedBy (is_earlier q n) order
earlier_parts order sorted q n = less_first place_total order sorted (q, n)

-- the entry of a request stands before a place if its own is less
pub earlier_is : (q n m : ℕ) → is_earlier q n (q, m) ≡ nat_lt m n
earlier_is q n m = ap (λ r. is_lt (ordering_then r (nat_cmp m n))) (cmp_same q) ∙ lt_is m n

-- an entry between the first place of a request and another one is the request's, and of a place before that
pub earlier_between : (q n : ℕ) (e : ℕ × ℕ) → is_earlier q 0 e ≡ false → is_earlier q n e ≡ true → (e.0 ≡ q) × (e.1 < n)
earlier_between q n e from upto = by_order (nat_cmp e.0 q) refl
  where
    by_order : (r : Ordering) → nat_cmp e.0 q ≡ r → (e.0 ≡ q) × (e.1 < n)
    by_order Less c = let no : true ≡ false = sym (ap (λ r. is_lt (ordering_then r (nat_cmp e.1 0))) c) ∙ from in cc
    by_order Equal c = (ranked e.0 q Equal c, ltb-true e.1 n (sym (lt_is e.1 n) ∙ (sym (ap (λ r. is_lt (ordering_then r (nat_cmp e.1 n))) c) ∙ upto)))
    by_order Greater c = let no : false ≡ true = sym (ap (λ r. is_lt (ordering_then r (nat_cmp e.1 n))) c) ∙ upto in cc

-- ---- the next record of a request

filler : Record
filler = Finished 0 Nothing

module _ {X : Type 0} (p : X → Bool) (xs : List X) where
  position_by : (b : Bool) → nat_lt (position_or_len p xs) (length xs) ≡ b → position p xs ≡ cond b (Some (position_or_len p xs)) None
  position_by b e = ap (λ t. cond t (Some (position_or_len p xs)) None) e

  pub position_is : (j : ℕ) (d : X) → j < length xs → p (get_or xs j d) ≡ true → ((k : ℕ) → k < j → p (get_or xs k d) ≡ false) → position p xs ≡ Some j
  position_is j d lt here before =
      position_by true (lt-ltb _ _ inside) ∙ ap Some same
    where
      n : ℕ
      n = position_or_len p xs

      upto : n ≤ j
      upto = elim (cases_lt j n) as (λ t. n ≤ j) [
        | inl less ↦ let no : false ≡ true = sym (fails_before_first p xs j d less) ∙ here in cc
        | inr le ↦ le
      ]

      inside : n < length xs
      inside = let le : n ≤ j = upto in omega arith

      same : n ≡ j
      same = elim (cases_lt n j) as (λ t. n ≡ j) [
        | inl less ↦ let no : false ≡ true = sym (before n less) ∙ passes_at_first p xs d inside in cc
        | inr le ↦ let le2 : n ≤ j = upto in omega arith
      ]

  pub position_not : (d : X) → ((k : ℕ) → k < length xs → p (get_or xs k d) ≡ false) → position p xs ≡ None
  position_not d none =
      elim (cases_lt (position_or_len p xs) (length xs)) as (λ t. position p xs ≡ None) [
        | inl less ↦ let no : false ≡ true = sym (none _ less) ∙ passes_at_first p xs d less in cc
        | inr le ↦ position_by false (le-ltb _ _ le)
      ]

module _ (h : List Record) (q : ℕ) where
  speaks_at : (k : ℕ) → k < length h → Decides (nat_eq (request_of (get_or h k filler)) q) (Speaks h k q)
  speaks_at k lt =
      Decides-like _ (λ e. at ∙ ap Some e) (λ s. let same : ◌≡◌ {A = Option ℕ} (Some (request_of (get_or h k filler))) (Some q) = sym at ∙ s in cc)
      (Decides-eqb (request_of (get_or h k filler)) q)
    where
      at : option_map request_of (slice_get h k) ≡ Some (request_of (get_or h k filler))
      at = ap (option_map request_of) (slice_get-get_or h k filler lt)

  pub speaks_within : (k : ℕ) → Speaks h k q → k < length h
  speaks_within k s = by_case (slice_get h k) refl s
    where
      by_case : (o : Option Record) → slice_get h k ≡ o → option_map request_of o ≡ Some q → k < length h
      by_case None at e = let no : ◌≡◌ {A = Option ℕ} None (Some q) = e in cc
      by_case (Some r) at e = slice_get_within h k r at

  silent_at : (k : ℕ) → k < length h → (Speaks h k q → ⊥) → nat_eq (request_of (get_or h k filler)) q ≡ false
  silent_at k lt silent = by_case (nat_eq (request_of (get_or h k filler)) q) refl
    where
      by_case : (b : Bool) → nat_eq (request_of (get_or h k filler)) q ≡ b → b ≡ false
      by_case true e = absurd (silent ((speaks_at k lt).0 e))
      by_case false e = refl

  module _ (i : ℕ) where
    abbrev tail : List Record
    tail = drop (i + 1) h

    moved : (k : ℕ) → get_or tail k filler ≡ get_or h (i + 1 + k) filler
    moved k = get_or-drop (i + 1) h k filler

    pub next_is : (j : ℕ) → i < j → Speaks h j q → ((k : ℕ) → i < k → k < j → Speaks h k q → ⊥) → next h i q ≡ Some j
    next_is j later here none =
        ap (option_map (λ k. i + 1 + k)) (position_is (λ r. nat_eq (request_of r) q) tail (j - (i + 1)) filler inside passes earlier)
        ∙ (let same : i + 1 + (j - (i + 1)) ≡ j = omega arith in ap Some same)
      where
        within : j < length h
        within = speaks_within j here

        inside : j - (i + 1) < length tail
        inside = let lt : j < length h = within in let long : length tail ≡ length h - (i + 1) = length-drop (i + 1) h in omega arith

        passes : nat_eq (request_of (get_or tail (j - (i + 1)) filler)) q ≡ true
        passes =
            let same : j ≡ i + 1 + (j - (i + 1)) = omega arith in
            ap (λ r. nat_eq (request_of r) q) (moved (j - (i + 1)) ∙ ap (λ n. get_or h n filler) (sym same)) ∙ (speaks_at j within).1 here

        earlier : (k : ℕ) → k < j - (i + 1) → nat_eq (request_of (get_or tail k filler)) q ≡ false
        earlier k less =
            let lt : j < length h = within in
            let after : i < i + 1 + k = omega arith in
            let before : i + 1 + k < j = omega arith in
            let there : i + 1 + k < length h = omega arith in
            ap (λ r. nat_eq (request_of r) q) (moved k) ∙ silent_at (i + 1 + k) there (none (i + 1 + k) after before)

    pub next_not : ((k : ℕ) → i < k → Speaks h k q → ⊥) → next h i q ≡ None
    next_not none =
        ap (option_map (λ k. i + 1 + k)) (position_not (λ r. nat_eq (request_of r) q) tail filler (λ k less.
        let long : length tail ≡ length h - (i + 1) = length-drop (i + 1) h in
        let after : i < i + 1 + k = omega arith in
        let there : i + 1 + k < length h = omega arith in
        ap (λ r. nat_eq (request_of r) q) (moved k) ∙ silent_at (i + 1 + k) there (none (i + 1 + k) after)))

-- ---- what the entries tell

module _ (h : List Record) (order : List (ℕ × ℕ)) (o : IsOrder h order) where
  entry-Decides : (q k : ℕ) → Decides (list_any (λ e. nat_eq e.0 q && nat_eq e.1 k) order) ((e : ℕ × ℕ) × Contains order e × ((e.0 ≡ q) × (e.1 ≡ k)))
  entry-Decides q k = list_any-Decides _ (λ e. (e.0 ≡ q) × (e.1 ≡ k)) (λ e. Decides-and _ _ (Decides-eqb e.0 q) (Decides-eqb e.1 k)) order

  -- a record that speaks of a request has its entry
  pub entry : (k q : ℕ) → Speaks h k q → (m : ℕ) × (m < length order) × (get_or order m (q, k) ≡ (q, k))
  entry k q s =
      let found = (entry-Decides q k).0 (o.whole k q s) in
      let same : found.0 ≡ (q, k) = (λ t. (found.2.0 t, found.2.1 t)) in
      subst (Contains order) same found.1

  -- the entry of this very request and place
  pub next_here : (i q m : ℕ) → m < length order → HoldsAt (λ e. place_cmp e (q, i + 1) ≡ Equal) order m → Some (i + 1) ≡ next h i q
  next_here i q m within at =
      let there : Contains order (q, i + 1) = (m, within, equal_is _ _ (at (q, i + 1))) in sym (here there)
    where
      here : Contains order (q, i + 1) → next h i q ≡ Some (i + 1)
      here there = let later : i < i + 1 = omega arith in next_is h q i (i + 1) later (o.sound (q, i + 1) there) (λ k after before s. absurd (omega arith))

  -- the first entry that is greater
  pub next_there : (i q m : ℕ) → (IsNonDecreasingBy (λ e. ordering_index (place_cmp e (q, i + 1))) order → IsPartitionPoint (λ e. place_cmp e (q, i + 1) ≡ Less) (λ e. place_cmp e (q, i + 1) ≡ Greater) order m)
      → place_of q (slice_get order m) ≡ next h i q
  next_there i q m found = by_case (slice_get order m) refl
    where
      point : IsPartitionPoint (λ e. place_cmp e (q, i + 1) ≡ Less) (λ e. place_cmp e (q, i + 1) ≡ Greater) order m
      point = found (searchable_from_sorted place_total (λ x. x) order (q, i + 1) o.sorted)

      -- a later record of the request has its entry from m on
      late : (k : ℕ) → i < k → (s : Speaks h k q) → m ≤ (entry k q s).0
      late k after s =
          let n = entry k q s in
          elim (cases_lt n.0 m) as (λ t. m ≤ n.0) [
            | inl less ↦ let zero_le : 0 ≤ n.0 = omega arith in
                let e : place_cmp (q, k) (q, i + 1) ≡ Less = ap (λ x. place_cmp x (q, i + 1)) (sym n.2) ∙ point.0 n.0 (q, k) zero_le less in
                let lt = earlier_place q k (i + 1) e in absurd (omega arith)
            | inr le ↦ le
          ]

      by_case : (r : Option (ℕ × ℕ)) → slice_get order m ≡ r → place_of q r ≡ next h i q
      by_case None at = sym (next_not h q i (λ k after s.
          let n = entry k q s in
          let le = late k after s in
          let some : slice_get order m ≡ Some (get_or order m (q, k)) = (let lt : n.0 < length order = n.1 in let inside : m < length order = omega arith in slice_get-get_or order m (q, k) inside) in
          let no : ◌≡◌ {A = Option (ℕ × ℕ)} None (Some (get_or order m (q, k))) = sym at ∙ some in cc))
      by_case (Some e) at = by_request (nat_eq e.0 q) refl
        where
          within : m < length order
          within = slice_get_within order m e at

          is_at : (d : ℕ × ℕ) → get_or order m d ≡ e
          is_at d = get_or_from_slice_get order m e d at

          greater : place_cmp e (q, i + 1) ≡ Greater
          greater = let le : m ≤ m = omega arith in sym (ap (λ x. place_cmp x (q, i + 1)) (is_at e)) ∙ point.1 m e le within

          -- no entry of a later record is less than it
          not_less : (k : ℕ) → i < k → (s : Speaks h k q) → is_lt (place_cmp (q, k) e) ≡ false
          not_less k after s =
              let n = entry k q s in
              (λ t. is_lt (place_cmp (sym n.2 t) (sym (is_at (q, k)) t))) ∙ sorted_far _ (ranks_by place_total (λ x. x)) order o.sorted m n.0 (q, k) (late k after s) n.1

          by_request : (b : Bool) → nat_eq e.0 q ≡ b → cond b (Some e.1) None ≡ next h i q
          by_request true same = sym (next_is h q i e.1 after spoken (λ k later before s.
              let no : true ≡ false = sym (ap is_lt (less_here k before)) ∙ not_less k later s in cc))
            where
              is_q : e.0 ≡ q
              is_q = (Decides-eqb e.0 q).0 same

              spoken : Speaks h e.1 q
              spoken = subst (Speaks h e.1) is_q (o.sound e (m, within, is_at e))

              less_here : (k : ℕ) → k < e.1 → place_cmp (q, k) e ≡ Less
              less_here k lt = subst (λ n. place_cmp (q, k) (n, e.1) ≡ Less) (sym is_q) (less_by_place q k e.1 lt)

              after : i < e.1
              after = elim (greater_is e (q, i + 1) greater) as (λ t. i < e.1) [
                | inl lt ↦ let same2 : e.0 ≡ q = is_q in absurd (omega arith)
                | inr p ↦ let lt : i + 1 < e.1 = p.1 in omega arith
              ]
          by_request false other = sym (next_not h q i (λ k later s.
              let no : true ≡ false = sym (ap is_lt (less_by_request (q, k) e below)) ∙ not_less k later s in cc))
            where
              below : q < e.0
              below = elim (greater_is e (q, i + 1) greater) as (λ t. q < e.0) [
                | inl lt ↦ lt
                | inr p ↦ let t : nat_eq e.0 q ≡ true = (Decides-eqb e.0 q).1 p.0 in let no : true ≡ false = sym t ∙ other in cc
              ]

-- ---- the entries of a request before a place

module _ (h : List Record) (order : List (ℕ × ℕ)) (o : IsOrder h order) (q n low high : ℕ) (le : high ≤ length order)
    (at_low : IsPartitionPoint (λ e. is_earlier q 0 e ≡ true) (λ e. is_earlier q 0 e ≡ false) order low)
    (at_high : IsPartitionPoint (λ e. is_earlier q n e ≡ true) (λ e. is_earlier q n e ≡ false) order high) where
  -- an entry of the range is one of a place before n
  pub range_before : (m : ℕ) (d : ℕ × ℕ) → low ≤ m → m < high → ((get_or order m d).1 < n) × ((get_or order m d).1 < length h)
  range_before m d up lt =
      let inside : m < length order = omega arith in
      let zero_le : 0 ≤ m = omega arith in
      let is = earlier_between q n (get_or order m d) (at_low.1 m d up inside) (at_high.0 m d zero_le lt) in
      (is.1, speaks_within h (get_or order m d).0 (get_or order m d).1 (o.sound (get_or order m d) (Contains-get_or order m d inside)))

  -- a record of the request before place n has its entry there
  pub range_entry : (k : ℕ) → k < n → Speaks h k q → (m : ℕ) × (low ≤ m) × ((m < high) × ((m < length order) × (get_or order m (q, k) ≡ (q, k))))
  range_entry k lt s =
      let found = entry h order o k q s in
      let early : is_earlier q n (get_or order found.0 (q, k)) ≡ true = ap (is_earlier q n) found.2 ∙ (earlier_is q n k ∙ lt-ltb k n lt) in
      let late : is_earlier q 0 (get_or order found.0 (q, k)) ≡ false = ap (is_earlier q 0) found.2 ∙ (earlier_is q 0 k ∙ (let least : 0 ≤ k = omega arith in le-ltb k 0 least)) in
      (found.0, above found.0 late, (below found.0 found.1 early, (found.1, found.2)))
    where
      above : (m : ℕ) → is_earlier q 0 (get_or order m (q, k)) ≡ false → low ≤ m
      above m late = elim (cases_lt m low) as (λ t. low ≤ m) [
        | inl less ↦ let zero_le : 0 ≤ m = omega arith in let no : true ≡ false = sym (at_low.0 m (q, k) zero_le less) ∙ late in cc
        | inr up ↦ up
      ]

      below : (m : ℕ) → m < length order → is_earlier q n (get_or order m (q, k)) ≡ true → m < high
      below m inside early = elim (cases_lt m high) as (λ t. m < high) [
        | inl less ↦ less
        | inr up ↦ let no : false ≡ true = sym (at_high.1 m (q, k) up inside) ∙ early in cc
      ]

-- ---- how they are made

-- the entries of the records below place n
pub record Told (h : List Record) (n : ℕ) (xs : List (ℕ × ℕ)) : Type 0 where
  pub whole : (k q : ℕ) → k < n → Speaks h k q → Contains xs (q, k)
  pub sound : (e : ℕ × ℕ) → Contains xs e → Speaks h e.1 e.0

pub told_none : (h : List Record) → Told h 0 []
told_none h = record { whole = λ k q lt s. absurd (omega arith); sound = λ e there. absurd (omega (arith, there.1)) }

pub told_more : (h : List Record) (n : ℕ) (r : Record) (xs : List (ℕ × ℕ)) → slice_get h n ≡ Some r → Told h n xs → Told h (n + 1) (xs ++ (request_of r, n) ∷ [])
told_more h n r xs at t = record {
  whole = λ k q lt s. elim (cases_lt k n) as (λ c. Contains (xs ++ (request_of r, n) ∷ []) (q, k)) [
    | inl less ↦ Contains-append_left xs ((request_of r, n) ∷ []) (q, k) (t.whole k q less s)
    | inr le ↦
        let same : n ≡ k = omega arith in
        let is : ◌≡◌ {A = Option ℕ} (Some (request_of r)) (Some q) = sym (ap (option_map request_of) at) ∙ subst (λ m. Speaks h m q) (sym same) s in
        let number : request_of r ≡ q = cc in
        subst (Contains (xs ++ (request_of r, n) ∷ [])) (λ j. (number j, same j)) (Contains-push xs (request_of r, n))
  ];
  sound = λ e there. elim (Contains-push_cases xs (request_of r, n) e there) as (λ c. Speaks h e.1 e.0) [
    | inl before ↦ t.sound e before
    | inr same ↦ subst (λ x. Speaks h x.1 x.0) same (ap (option_map request_of) at)
  ];
}

pub told_sorted : (h : List Record) (xs ys : List (ℕ × ℕ)) → Told h (length h) xs → IsPermutation xs ys → IsSorted place_cmp ys → IsOrder h ys
told_sorted h xs ys t shuffled sorted = record {
  sorted = sorted;
  whole = λ k q s. (list_any-Decides _ (λ e. (e.0 ≡ q) × (e.1 ≡ k)) (λ e. Decides-and _ _ (Decides-eqb e.0 q) (Decides-eqb e.1 k)) ys).1
      ((q, k), Contains-permutation xs ys (q, k) shuffled (t.whole k q (speaks_within h q k s) s), (refl, refl));
  sound = λ e there. t.sound e (Contains-permutation ys xs e (IsPermutation-sym xs ys shuffled) there);
}
