-- The open requests by number against those of the model: a look-up, a call changed, one forgotten, one begun.
use Rattle.std.specs.Prelude.{◌≡◌, ℕ, ◌<◌, ◌==◌, Bool, true, false, cond, min, Option, Some, None, List, [], ◌∷◌, map, option_map, ⊤, refl}
use Rattle.std.proofs.Common.{ap, sym, subst, ◌∙◌, arith}
use Rattle.std.specs.List.{All, AllZip}
use Rattle.std.specs.List.Sorted.{IsStrictlySortedBy}
use Rattle.std.specs.Map.{lookup, set_value, remove_entry, keys_of, values_of}
use Rattle.std.specs.BTreeMap.{insert_entry, is_at}
use Rattle.std.specs.Ordering.{nat_cmp, is_eq}
use Rattle.std.specs.Cmp.{IsTotalOrder, both_ways, Equal-is}
use Rattle.std.specs.declared.cmp.Ordering.{Ordering}
use Rattle.std.specs.declared.cmp.Reverse.{Reverse}
use Rattle.std.proofs.lemmas.Bool.{eq-eqb, eqb-true, lt-ltb, cond-true, cond-false}
use Rattle.std.proofs.lemmas.Cmp.{nat_cmp_total, tied_itself, eq_by_cmp_equiv, on_total, back_total}
use Rattle.std.proofs.lemmas.List.Elements.{All-head}
use Rattle.std.proofs.lemmas.Map.{NonePasses, none_passes_from_lookup}
use Rattle.std.proofs.lemmas.Map.Entries.{none_past_head, lookup_tail}
use Rattle.std.proofs.lemmas.Map.Keys.{sorted_tail, IsDistinct-from_sorted}
use Rattle.std.proofs.lemmas.Option.{same_Some}
use Rattle.crdt_core.specs.IdentityLaws.{nat_identical}
use Rattle.cluster_machine.specs.Node.{Call as Opened}
use Rattle.cluster_machine.specs.Phases.{call_at, with_call, without_call}
use Rattle.cluster_machine.specs.Step.{requests_of}
use Rattle.cluster_machine.specs.Acts.{least_start}
use Rattle.node_parts.specs.declared.call.Call.{Call}
use Rattle.node_parts.specs.Calls.{IsCall, IsEntry}

-- the greatest number first
abbrev pub newest_first : Reverse ℕ → Reverse ℕ → Ordering
newest_first a b = nat_cmp b.0 a.0

pub newest_first_total : IsTotalOrder newest_first
newest_first_total = on_total (λ (r : Reverse ℕ). r.0) (back_total nat_cmp_total)

abbrev pub finds : Reverse ℕ → Reverse ℕ → Bool
finds k = is_at (newest_first k)

abbrev pub numbers_of : List (Reverse ℕ) → List ℕ
numbers_of keys = map (λ k. k.0) keys

pub same_number : (a b : ℕ) → is_eq (nat_cmp a b) ≡ (a == b)
same_number a b =
    both_ways (is_eq (nat_cmp a b)) (a == b)
    (λ e. eq-eqb a b (nat_identical a b ((Equal-is (nat_cmp a b)).0 e)))
    (λ e. let same = eqb-true a b e in rw (← same, tied_itself nat_cmp_total a) refl)

-- both find nothing, or a call and the one that it stands for
abbrev pub AreFound : {S R : Type 0} → Option (Call S R) → Option (Opened R) → Type 0
AreFound None None = ⊤
AreFound None (Some m) = ⊥
AreFound (Some c) None = ⊥
AreFound (Some c) (Some m) = IsCall c m

module _ {R : Type 0} where
  abbrev phased : Opened R → Opened R → Opened R
  phased c m = cond (m.request == c.request) (record m { phases = c.phases; present = c.present }) m

  phased_here : (k : Reverse ℕ) (c m : Opened R) → c.request ≡ k.0 → (m.request == k.0) ≡ true → phased c m ≡ record m { phases = c.phases; present = c.present }
  phased_here k c m of here = cond-true (m.request == c.request) (record m { phases = c.phases; present = c.present }) m (ap (λ n. m.request == n) of ∙ here)

  phased_apart : (k : Reverse ℕ) (c m : Opened R) → c.request ≡ k.0 → (m.request == k.0) ≡ false → phased c m ≡ m
  phased_apart k c m of apart = cond-false (m.request == c.request) (record m { phases = c.phases; present = c.present }) m (ap (λ n. m.request == n) of ∙ apart)

module _ {S R : Type 0} where
  abbrev AreEntries : List (Reverse ℕ × Call S R) → List (Opened R) → Type 0
  AreEntries es ms = AllZip IsEntry es ms

  finds_request : (k : Reverse ℕ) (e : Reverse ℕ × Call S R) (m : Opened R) → IsEntry e m → finds k e.0 ≡ (m.request == k.0)
  finds_request k e m is = same_number e.0.0 k.0 ∙ ap (λ n. n == k.0) is.request

  pub looked_up : (k : Reverse ℕ) (es : List (Reverse ℕ × Call S R)) (ms : List (Opened R)) → AreEntries es ms → AreFound (lookup (finds k) es) (call_at ms k.0)
  looked_up k [] [] all = tt
  looked_up k [] (m ∷ ms) all = absurd all
  looked_up k (e ∷ es) [] all = absurd all
  looked_up k (e ∷ es) (m ∷ ms) all =
      rw (finds_request k e m all.0)
      (elim (m.request == k.0) as (λ b. AreFound (cond b (Some e.1) (lookup (finds k) es)) (cond b (Some m) (call_at ms k.0))) [
        | true ↦ all.0.call
        | false ↦ looked_up k es ms all.1
      ])

  -- none of these requests is k
  none_changed : (k : Reverse ℕ) (es : List (Reverse ℕ × Call S R)) (ms : List (Opened R)) → AreEntries es ms → NonePasses (finds k) es → (f : Opened R → Opened R) → ((m : Opened R) → (m.request == k.0) ≡ false → f m ≡ m) → map f ms ≡ ms
  none_changed k [] [] all none f stays = refl
  none_changed k [] (m ∷ ms) all none f stays = absurd all
  none_changed k (e ∷ es) [] all none f stays = absurd all
  none_changed k (e ∷ es) (m ∷ ms) all none f stays = λ i. stays m (sym (finds_request k e m all.0) ∙ none.0) i ∷ none_changed k es ms all.1 none.1 f stays i

  none_forgotten : (k : Reverse ℕ) (es : List (Reverse ℕ × Call S R)) (ms : List (Opened R)) → AreEntries es ms → NonePasses (finds k) es → without_call k.0 ms ≡ ms
  none_forgotten k [] [] all none = refl
  none_forgotten k [] (m ∷ ms) all none = absurd all
  none_forgotten k (e ∷ es) [] all none = absurd all
  none_forgotten k (e ∷ es) (m ∷ ms) all none = rw (sym (finds_request k e m all.0) ∙ none.0) (ap (λ rest. m ∷ rest) (none_forgotten k es ms all.1 none.1))

  forgotten_by : (k : Reverse ℕ) (e : Reverse ℕ × Call S R) (m : Opened R) (es : List (Reverse ℕ × Call S R)) (ms : List (Opened R)) → AreEntries (e ∷ es) (m ∷ ms) → (b : Bool) → finds k e.0 ≡ b → lookup (finds k) (cond b es (e ∷ remove_entry (finds k) es)) ≡ None →
      (lookup (finds k) (remove_entry (finds k) es) ≡ None → AreEntries (remove_entry (finds k) es) (without_call k.0 ms)) → AreEntries (cond b es (e ∷ remove_entry (finds k) es)) (without_call k.0 (m ∷ ms))
  forgotten_by k e m es ms all true here gone later =
      let same : without_call k.0 (m ∷ ms) ≡ ms = rw (sym (finds_request k e m all.0) ∙ here) (none_forgotten k es ms all.1 (none_passes_from_lookup (finds k) es gone)) in
      rw same all.1
  forgotten_by k e m es ms all false apart gone later =
      let same : without_call k.0 (m ∷ ms) ≡ m ∷ without_call k.0 ms = rw (sym (finds_request k e m all.0) ∙ apart) refl in
      rw same (all.0, later (sym (lookup_tail (finds k) e (remove_entry (finds k) es) apart) ∙ gone))

  rest_none : (k : Reverse ℕ) (e : Reverse ℕ × Call S R) (es : List (Reverse ℕ × Call S R)) → IsStrictlySortedBy newest_first (keys_of (e ∷ es)) → finds k e.0 ≡ true → NonePasses (finds k) es
  rest_none k e es sorted here = none_past_head (eq_by_cmp_equiv newest_first_total) k e es (IsDistinct-from_sorted newest_first (keys_of (e ∷ es)) sorted) here

  rest_stays : (k : Reverse ℕ) (c m : Opened R) (e : Reverse ℕ × Call S R) (es : List (Reverse ℕ × Call S R)) (ms : List (Opened R)) →
      IsStrictlySortedBy newest_first (keys_of (e ∷ es)) → AreEntries (e ∷ es) (m ∷ ms) → c.request ≡ k.0 → (m.request == k.0) ≡ true → with_call c ms ≡ ms
  rest_stays k c m e es ms sorted all of here =
      none_changed k es ms all.1 (rest_none k e es sorted (finds_request k e m all.0 ∙ here)) (phased c) (λ d. phased_apart k c d of)

  -- a call that is there, written again, changes nothing
  pub call_again : (k : Reverse ℕ) (c : Opened R) (es : List (Reverse ℕ × Call S R)) (ms : List (Opened R)) →
      IsStrictlySortedBy newest_first (keys_of es) → AreEntries es ms → c.request ≡ k.0 → call_at ms k.0 ≡ Some c → with_call c ms ≡ ms
  call_again k c [] [] sorted all of there = refl
  call_again k c [] (m ∷ ms) sorted all of there = absurd all
  call_again k c (e ∷ es) [] sorted all of there = absurd all
  call_again k c (e ∷ es) (m ∷ ms) sorted all of there =
      elim (m.request == k.0) as (λ b. (m.request == k.0) ≡ b → cond b (Some m) (call_at ms k.0) ≡ Some c → with_call c (m ∷ ms) ≡ m ∷ ms) [
        | true ↦ λ here is.
            let first : phased c m ≡ m = phased_here k c m of here ∙ ap (λ (d : Opened R). record m { phases = d.phases; present = d.present }) (sym (same_Some m c is)) in
            λ i. first i ∷ rest_stays k c m e es ms sorted all of here i
        | false ↦ λ apart later i. phased_apart k c m of apart i ∷ call_again k c es ms (sorted_tail newest_first e.0 (keys_of es) sorted) all.1 of later i
      ] refl there

  -- a call written anew
  pub call_written : (k : Reverse ℕ) (w : Call S R) (c : Opened R) (es : List (Reverse ℕ × Call S R)) (ms : List (Opened R)) →
      IsStrictlySortedBy newest_first (keys_of es) → AreEntries es ms → c.request ≡ k.0 → ((m : Opened R) → call_at ms k.0 ≡ Some m → c.start ≡ m.start) → IsCall w c → AreEntries (set_value (finds k) es w) (with_call c ms)
  call_written k w c [] [] sorted all of starts is = tt
  call_written k w c [] (m ∷ ms) sorted all of starts is = absurd all
  call_written k w c (e ∷ es) [] sorted all of starts is = absurd all
  call_written k w c (e ∷ es) (m ∷ ms) sorted all of starts is =
      rw (finds_request k e m all.0)
      (elim (m.request == k.0) as (λ b. (m.request == k.0) ≡ b → ((n : Opened R) → cond b (Some m) (call_at ms k.0) ≡ Some n → c.start ≡ n.start) → AreEntries (cond b ((e.0, w) ∷ es) (e ∷ set_value (finds k) es w)) (phased c m ∷ with_call c ms)) [
        | true ↦ λ here begun.
            let entry : IsEntry (e.0, w) (record m { phases = c.phases; present = c.present }) =
            record { request = all.0.request; call = record { start = is.start ∙ begun m refl; phases = is.phases; present = is.present } } in
            (subst (λ d. IsEntry (e.0, w) d) (sym (phased_here k c m of here)) entry, subst (λ ds. AreEntries es ds) (sym (rest_stays k c m e es ms sorted all of here)) all.1)
        | false ↦ λ apart begun.
            (subst (λ d. IsEntry e d) (sym (phased_apart k c m of apart)) all.0, call_written k w c es ms (sorted_tail newest_first e.0 (keys_of es) sorted) all.1 of begun is)
      ] refl starts)

  -- a call forgotten, where no other has its number
  pub call_forgotten : (k : Reverse ℕ) (es : List (Reverse ℕ × Call S R)) (ms : List (Opened R)) → lookup (finds k) (remove_entry (finds k) es) ≡ None → AreEntries es ms → AreEntries (remove_entry (finds k) es) (without_call k.0 ms)
  call_forgotten k [] [] gone all = tt
  call_forgotten k [] (m ∷ ms) gone all = absurd all
  call_forgotten k (e ∷ es) [] gone all = absurd all
  call_forgotten k (e ∷ es) (m ∷ ms) gone all =
      forgotten_by k e m es ms all (finds k e.0) refl gone (λ later. call_forgotten k es ms later all.1)

  -- a call begun, with a number above the others
  pub call_begun : (k : Reverse ℕ) (v : Call S R) (m : Opened R) (es : List (Reverse ℕ × Call S R)) (ms : List (Opened R)) → All (λ c. c.request < k.0) ms → AreEntries es ms → k.0 ≡ m.request → IsCall v m → AreEntries (insert_entry newest_first es k v) (m ∷ ms)
  call_begun k v m [] [] below all of is = (record { request = of; call = is }, tt)
  call_begun k v m [] (n ∷ ms) below all of is = absurd all
  call_begun k v m (e ∷ es) [] below all of is = absurd all
  call_begun k v m (e ∷ es) (n ∷ ms) below all of is =
      let under : n.request < k.0 = All-head (λ (c : Opened R). c.request < k.0) n ms below in
      rw (lt-ltb e.0.0 k.0 (omega (arith, under, all.0.request))) (record { request = of; call = is }, all)

  pub requests_are : (es : List (Reverse ℕ × Call S R)) (ms : List (Opened R)) → AreEntries es ms → numbers_of (keys_of es) ≡ requests_of ms
  requests_are [] [] all = refl
  requests_are [] (m ∷ ms) all = absurd all
  requests_are (e ∷ es) [] all = absurd all
  requests_are (e ∷ es) (m ∷ ms) all = λ i. all.0.request i ∷ requests_are es ms all.1 i

  -- the least of a version and of the calls' starts
  abbrev pub least_of : ℕ → List (Call S R) → ℕ
  least_of i [] = i
  least_of i (c ∷ cs) = min c.start (least_of i cs)

  pub least_taken : (i n : ℕ) (cs : List (Call S R)) → least_of (min i n) cs ≡ min n (least_of i cs)
  least_taken i n [] = omega arith
  least_taken i n (c ∷ cs) = ap (λ l. min c.start l) (least_taken i n cs) ∙ omega arith

  pub least_is : (i : ℕ) (es : List (Reverse ℕ × Call S R)) (ms : List (Opened R)) → AreEntries es ms → least_of i (values_of es) ≡ least_start i ms
  least_is i [] [] all = refl
  least_is i [] (m ∷ ms) all = absurd all
  least_is i (e ∷ es) [] all = absurd all
  least_is i (e ∷ es) (m ∷ ms) all = λ j. min (all.0.call.start j) (least_is i es ms all.1 j)

  pub same_phases : (a : Option (Call S R)) (b : Option (Opened R)) → AreFound a b → option_map (λ c. c.phases) a ≡ option_map (λ c. c.phases) b
  same_phases None None found = refl
  same_phases None (Some m) found = absurd found
  same_phases (Some c) None found = absurd found
  same_phases (Some c) (Some m) found = ap Some found.phases

  pub found_call : (a : Option (Call S R)) (c : Call S R) (m : Opened R) → a ≡ Some c → AreFound a (Some m) → IsCall c m
  found_call a c m is found = subst (λ o. AreFound o (Some m)) is found

  pub not_found : (a : Option (Call S R)) (m : Opened R) → a ≡ None → AreFound a (Some m) → ⊥
  not_found a m is found = subst (λ o. AreFound o (Some m)) is found
