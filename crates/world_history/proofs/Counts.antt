-- Sums and counts of the numbers below one, and what the code counts.
use Rattle.std.proofs.Common.{◌≡◌, ℕ, zero, suc, ◌<◌, ◌≤◌, Bool, true, false, ◌&&◌, cond, List, Option, Some, None, is_some, nat_eq, nat_lt, length, slice_get, option_map, inl, inr, refl, ap, sym, subst, ◌∙◌, arith}
use Rattle.std.proofs.lemmas.Bool.{cases_lt, le-ltb, and_right}
use Rattle.std.specs.List.{sum_by, starts_with}
use Rattle.std.proofs.lemmas.Bool.Decides.{same_from_decides}
use Rattle.std.proofs.lemmas.Slice.Eq.{bytes_eq-Decides}
use Rattle.crdt_rows.specs.declared.version.Version.{Version}
use Rattle.history_model.specs.declared.record.Kind.{Kind}
use Rattle.history_model.specs.declared.record.Record.{Record}
use Rattle.history_model.specs.declared.record.Record.TheVariants.{Began, Finished, Ended}
use Rattle.history_model.specs.Record.{is_read, is_write, is_list, finish, acknowledged, is_some_with, begins, names, same_bytes}
use Rattle.history_model.specs.Pairs.{is_owed, is_pair, sum_below, count_below, pair_count}
use Rattle.world_history.specs.declared.rows.Row.{Row}
use Rattle.world_history.specs.Table.{ack_of, sum_of, IsTable, is_of, is_listed_before, one_if}
use Rattle.world_history.specs.Checks.{owed_of, owed}
use Rattle.world_history.proofs.Places.{acknowledged-later}
use Rattle.world_history.proofs.Newest.{one_key, own_key}
use Rattle.world_history.proofs.Listed.{names_begun}

-- sums of the same numbers
pub sum_below_same : (f g : ℕ → ℕ) (n : ℕ) → ((k : ℕ) → k < n → f k ≡ g k) → sum_below f n ≡ sum_below g n
sum_below_same f g zero same = refl
sum_below_same f g (suc n) same =
    let before = sum_below_same f g n (λ k lt. let more : k < suc n = omega arith in same k more) in
    let last : n < suc n = omega arith in
    let here = same n last in
    cc

-- where none passes, the count is 0
pub count_below_none : (p : ℕ → Bool) (n : ℕ) → ((k : ℕ) → p k ≡ false) → count_below p n ≡ 0
count_below_none p zero none = refl
count_below_none p (suc n) none = rw (count_below_none p n none, none n) refl

-- where none passes from m on, the count is that below m
pub count_below_front : (p : ℕ → Bool) (m n : ℕ) → m ≤ n → ((k : ℕ) → m ≤ k → p k ≡ false) → count_below p n ≡ count_below p m
count_below_front p m zero le none = let same : 0 ≡ m = omega arith in ap (count_below p) same
count_below_front p m (suc n) le none =
    elim (cases_lt n m) as (λ t. count_below p (suc n) ≡ count_below p m) [
      | inl lt ↦ let same : suc n ≡ m = omega arith in ap (count_below p) same
      | inr above ↦ let before = count_below_front p m n above none in rw (none n above) (omega arith)
    ]

-- a count of what passes two tests that don't depend on the number
count_if : (a b : Bool) (p : ℕ → Bool) (n : ℕ) → cond (a && b) (count_below p n) 0 ≡ count_below (λ k. a && (b && p k)) n
count_if true true p n = refl
count_if true false p n = sym (count_below_none (λ k. false) n (λ k. refl))
count_if false b p n = sym (count_below_none (λ k. false) n (λ k. refl))

-- what the code counts at a place is the pairs whose read stands there
owed_counts : (h : List Record) (i : ℕ) (o : Option Record) →
    owed_of h i o ≡ count_below (λ b. begins (λ q kind bucket own. is_read kind && (is_some (finish h i q) && is_owed h i kind bucket own b)) o) i
owed_counts h i None = sym (count_below_none (λ k. false) i (λ k. refl))
owed_counts h i (Some (Began q node kind bucket own)) = count_if (is_read kind) (is_some (finish h i q)) (is_owed h i kind bucket own) i
owed_counts h i (Some (Finished q answer)) = sym (count_below_none (λ k. false) i (λ k. refl))
owed_counts h i (Some (Ended q cause)) = sym (count_below_none (λ k. false) i (λ k. refl))

begins_none : (p : ℕ → Kind → List ℕ → List ℕ → Bool) → ((q : ℕ) (kind : Kind) (bucket key : List ℕ) → p q kind bucket key ≡ false) → (o : Option Record) → begins p o ≡ false
begins_none p none None = refl
begins_none p none (Some (Began q node kind bucket key)) = none q kind bucket key
begins_none p none (Some (Finished q answer)) = refl
begins_none p none (Some (Ended q cause)) = refl

-- a request that begins at place i or later isn't acknowledged before place i
late : (i b : ℕ) (o : Option (ℕ × Version)) → i ≤ b → ((a : ℕ × Version) → o ≡ Some a → b < a.0) → is_some_with (λ a. nat_lt a.0 i) o ≡ false
late i b None le after = refl
late i b (Some a) le after = let more = after a refl in let above : i ≤ a.0 = omega arith in le-ltb a.0 i above

no_late_owed : (h : List Record) (i b : ℕ) (kind : Kind) (bucket own : List ℕ) → i ≤ b → is_owed h i kind bucket own b ≡ false
no_late_owed h i b kind bucket own le =
    begins_none _ (λ p other place key. and_right (is_write other) _ (and_right (names kind own key) _ (and_right (same_bytes place bucket) _ (late i b (acknowledged h b p) le (acknowledged-later h b p))))) (slice_get h b)

no_late_pair : (h : List Record) (i b : ℕ) → i ≤ b → is_pair h i b ≡ false
no_late_pair h i b le =
    begins_none _ (λ q kind bucket own. and_right (is_read kind) _ (and_right (is_some (finish h i q)) _ (no_late_owed h i b kind bucket own le)))
    (slice_get h i)

-- the code's sum is the count of pairs
pub owed-pairs : (h : List Record) → sum_below (owed h) (length h) ≡ pair_count h
owed-pairs h =
    sum_below_same (owed h) (λ i. count_below (is_pair h i) (length h)) (length h)
    (λ i lt. let le : i ≤ length h = omega arith in owed_counts h i (slice_get h i) ∙ sym (count_below_front (is_pair h i) i (length h) le (no_late_pair h i)))

-- a read that is no list names a key where it is its own
names_own : (kind : Kind) → is_list kind ≡ false → (own key : List ℕ) → names kind own key ≡ same_bytes key own
names_own kind no_list own key =
    same_from_decides (names kind own key) (same_bytes key own)
    (λ t. sym (one_key kind no_list own key t), λ e. subst (λ k. names kind own k ≡ true) (sym e) (own_key kind no_list own))
    (bytes_eq-Decides key own)

swapped : (a b c : Bool) → (b && (a && c)) ≡ (a && (b && c))
swapped true b c = refl
swapped false true c = refl
swapped false false c = refl

-- the rows of its key before its place are what a read of one key is owed
module _ (h : List Record) (rows : List Row) (t : IsTable h rows) (i : ℕ) (kind : Kind) (bucket own : List ℕ) (no_list : is_list kind ≡ false) where
  abbrev is_mine : Row → ℕ
  is_mine r = one_if (is_of bucket own i r)

  owed_row : (b : ℕ) (o : Option Record) →
      sum_of is_mine (ack_of h b o)
      ≡ one_if (begins (λ q other place key. is_write other && (names kind own key && (same_bytes place bucket && is_some_with (λ a. nat_lt a.0 i) (acknowledged h b q)))) o)
  owed_row b None = refl
  owed_row b (Some (Finished q answer)) = refl
  owed_row b (Some (Ended q cause)) = refl
  owed_row b (Some (Began q node other place key)) = by_case (is_write other) (acknowledged h b q)
    where
      by_case : (w : Bool) (o : Option (ℕ × Version)) →
          sum_of is_mine (cond w (option_map (λ (a : ℕ × Version). record { bucket = place; key = key; place = a.0 }) o) None)
          ≡ one_if (w && (names kind own key && (same_bytes place bucket && is_some_with (λ a. nat_lt a.0 i) o)))
      by_case false o = refl
      by_case true None = sym (ap one_if (and_right (names kind own key) _ (and_right (same_bytes place bucket) _ refl)))
      by_case true (Some a) =
          ap one_if (sym (swapped (same_bytes place bucket) (same_bytes key own) (nat_lt a.0 i)))
          ∙ sym (λ j. one_if (names_own kind no_list own key j && (same_bytes place bucket && nat_lt a.0 i)))

  pub owed_to_key : i ≤ length h → sum_by (λ r. one_if (is_of bucket own i r)) rows ≡ count_below (is_owed h i kind bucket own) i
  owed_to_key le =
      t.told is_mine
      ∙ (sum_below_same _ (λ b. one_if (is_owed h i kind bucket own b)) (length h) (λ b lt. owed_row b (slice_get h b))
      ∙ count_below_front (is_owed h i kind bucket own) i (length h) le (λ b above. no_late_owed h i b kind bucket own above))

moved : (a b c : Bool) → ((a && b) && c) ≡ (b && (a && c))
moved true true c = refl
moved true false c = refl
moved false true c = refl
moved false false c = refl

-- the rows of the keys that it names, before its place, are what a list is owed
module _ (h : List Record) (rows : List Row) (t : IsTable h rows) (i : ℕ) (kind : Kind) (bucket own : List ℕ) (list : is_list kind ≡ true) where
  abbrev is_named : Row → ℕ
  is_named r = one_if (is_listed_before bucket own i r)

  listed_row : (b : ℕ) (o : Option Record) →
      sum_of is_named (ack_of h b o)
      ≡ one_if (begins (λ q other place key. is_write other && (names kind own key && (same_bytes place bucket && is_some_with (λ a. nat_lt a.0 i) (acknowledged h b q)))) o)
  listed_row b None = refl
  listed_row b (Some (Finished q answer)) = refl
  listed_row b (Some (Ended q cause)) = refl
  listed_row b (Some (Began q node other place key)) = by_case (is_write other) (acknowledged h b q)
    where
      by_case : (w : Bool) (o : Option (ℕ × Version)) →
          sum_of is_named (cond w (option_map (λ (a : ℕ × Version). record { bucket = place; key = key; place = a.0 }) o) None)
          ≡ one_if (w && (names kind own key && (same_bytes place bucket && is_some_with (λ a. nat_lt a.0 i) o)))
      by_case false o = refl
      by_case true None = sym (ap one_if (and_right (names kind own key) _ (and_right (same_bytes place bucket) _ refl)))
      by_case true (Some a) =
          ap one_if (moved (same_bytes place bucket) (starts_with nat_eq key own) (nat_lt a.0 i))
          ∙ sym (λ j. one_if (names_begun kind list own key j && (same_bytes place bucket && nat_lt a.0 i)))

  pub owed_to_list : i ≤ length h → sum_by (λ r. one_if (is_listed_before bucket own i r)) rows ≡ count_below (is_owed h i kind bucket own) i
  owed_to_list le =
      t.told is_named
      ∙ (sum_below_same _ (λ b. one_if (is_owed h i kind bucket own b)) (length h) (λ b lt. listed_row b (slice_get h b))
      ∙ count_below_front (is_owed h i kind bucket own) i (length h) le (λ b above. no_late_owed h i b kind bucket own above))
