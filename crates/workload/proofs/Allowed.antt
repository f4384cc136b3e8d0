-- The words of a workload's events are in their ranges, where no number of a message passes its range.
use Rattle.std.specs.Prelude.{IsTrue, IfOk, nat_lt, codes, decimal, ⊤}
use Rattle.std.proofs.Common.{Result, Ok, Err, ◌≡◌, ◌<◌, ◌≤◌, ℕ, zero, suc, ◌+◌, ◌*◌, ◌/◌, ◌%◌, ◌^◌, get_or, Bool, true, false, ◌&&◌, if◌then◌else◌, ◌==◌, ◌⊎◌, inl, inr, ap₂, List, [], ◌∷◌, ◌++◌, length, map, take, refl, sym, ap, subst, ◌∙◌, mod-lt, arith}
use Rattle.std.specs.List.{All, AllByRecursion, range_with_len}
use Rattle.std.proofs.lemmas.List.Elements.{All-nil, All-cons, recursion_from_All}
use Rattle.std.proofs.lemmas.List.Folds.{list_all_at}
use Rattle.std.proofs.lemmas.Bool.{cases_lt}
use Rattle.std.proofs.lemmas.Fmt.{decimal_digit, decimal_step}
use Rattle.std.proofs.lemmas.List.FromFn.{get_or-range_with_len}
use Rattle.crdt_core.specs.declared.memory.Memory.{Memory}
use Rattle.store_model.specs.declared.event.Event.{Event}
use Rattle.store_model.specs.declared.event.Event.TheVariants as event
use Rattle.store_model.specs.declared.event.Numbered.{Numbered}
use Rattle.layout_roles.specs.declared.role.Kind.TheVariants.{Storage, Gateway}
use Rattle.text_model.specs.Grammar.{IsAllowed, IsIn, IsFrom, is_key_byte, is_key, zone, object_range, issued_range, capacity_range}
use Rattle.text_model.specs.Played.{AreScheduled}
use Rattle.workload.specs.Numbers.{mixed, after, draw}
use Rattle.workload.specs.Turns.{Made, pics, key_of, size_of, chosen, first_event, plain_turn}
use Rattle.workload.specs.Change.{on_each, on_others, spread, role_of, stores, restarts, applied, moved, cleaned, change}
use Rattle.workload.specs.Schedule.{turn_of, made, on_lines, schedule}
use Rattle.workload.proofs.Growing.{made_has_events}

drawn_below : (x i k : ℕ) → 0 < k → draw x i k < k
drawn_below x i k h = mod-lt (mixed (after x i)) h

-- digits may stand in keys
digit_fits : (d : ℕ) → d < 10 → is_key_byte (48 + d) ≡ true
digit_fits d h =
    let test : ℕ → Bool = λ k. is_key_byte (48 + k) in
    let at : get_or (range_with_len 0 10) d 0 ≡ d = get_or-range_with_len 0 10 d 0 h ∙ omega arith in
    elim (is_key_byte (48 + d)) as (λ b. is_key_byte (48 + d) ≡ b → b ≡ true) [
      | true ↦ λ e. refl
      | false ↦ λ e. let no : true ≡ false = list_all_at test (range_with_len 0 10) d 0 h (ap test at ∙ e) in cc
    ] refl

-- the sixteen keys
key_fits : (i : ℕ) → i < 16 → IsTrue (is_key (key_of i))
key_fits i h = by_length (cases_lt i 10) where
  by_length : (i < 10) ⊎ (10 ≤ i) → IsTrue (is_key (key_of i))
  by_length (inl short) =
      subst (λ ds. IsTrue (is_key (codes "k" ++ ds))) (sym (decimal_digit i short)) (ap (λ b. b && true) (digit_fits i short))
  by_length (inr long) =
      let first : i / 10 < 10 = omega arith in
      let last : i % 10 < 10 = mod-lt i (omega arith) in
      let digits : decimal i ≡ (48 + i / 10) ∷ (48 + i % 10) ∷ [] = decimal_step i long (omega arith) ∙ ap (λ ds. ds ++ (48 + i % 10) ∷ []) (decimal_digit (i / 10) first) in
      subst (λ ds. IsTrue (is_key (codes "k" ++ ds))) (sym digits) (ap₂ (λ a b. a && (b && true)) (digit_fits (i / 10) first) (digit_fits (i % 10) last))

-- whichever of two events it is
either : (b : Bool) (m n : Made) → IsAllowed m.event → IsAllowed n.event → IsAllowed (if b then m else n).event
either true m n h k = h
either false m n h k = k

size_fits : (x : ℕ) → size_of x ≤ 65536
size_fits x =
    let great = drawn_below x 2 1024 (omega arith) in
    let small = drawn_below x 2 64 (omega arith) in
    elim (draw x 1 32 == 0) as (λ b. (if b then 3072 + draw x 2 1024 else draw x 2 64) ≤ 65536) [
      | true ↦ omega arith
      | false ↦ omega arith
    ]

-- the event of a turn: 8 * e is at most 2 ^ 32 - 8 where e is below 2 ^ 29
choice_allowed : (c n i e x : ℕ) → 1 ≤ n → n ≤ 6 → i < 16 → 0 < e → e < 2 ^ 29 → IsAllowed (chosen c n (key_of i) e x).event
choice_allowed c n i e x low high named some few =
    let key = key_fits i named in
    let other = key_fits (draw x 1 16) (drawn_below x 1 16 (omega arith)) in
    let fill = drawn_below x 3 251 (omega arith) in
    let ms = drawn_below x 1 1000 (omega arith) in
    let number = drawn_below x 1 (8 * e) (omega arith) in
    let node : (1 ≤ n) × (n ≤ 16) = (low, omega arith) in
    let object : IsIn (object_range n pics (key_of i)) = (node, (refl, key)) in
    let issued : IsIn (issued_range (1 + draw x 1 (8 * e))) = (omega arith, omega arith) in
    let filling : IsFrom 0 65536 (size_of x) × IsFrom 0 250 (draw x 3 251) = ((omega arith, size_fits x), (omega arith, omega arith)) in
    let put : IsAllowed (event.Put n pics (key_of i) (size_of x) (draw x 3 251)) = (object, filling) in
    let get : IsAllowed (event.Get n pics (key_of i)) = object in
    let keys : IsAllowed (event.List n pics []) = (node, (refl, refl)) in
    let copy : IsAllowed (event.Copy n pics (key_of i) pics (key_of (draw x 1 16))) = (object, (refl, other)) in
    let tick : IsAllowed (event.Tick (draw x 1 1000)) = (omega arith, omega arith) in
    either (nat_lt c 5) _ _ put
    (either (nat_lt c 8) _ _ get
    (either (c == 8) _ _ keys
    (either (c == 9) _ _ get
    (either (c == 10) _ _ get
    (either (c == 11) _ _ copy
    (either (c == 12) _ _ tick
    (either (c == 13) _ _ node
    (either (c == 14) _ _ issued issued))))))))

first_allowed : (x e : ℕ) → 0 < e → e < 2 ^ 29 → IsAllowed (first_event x e).event
first_allowed x e some few =
    let node = drawn_below x 2 6 (omega arith) in
    choice_allowed (draw x 1 16) (1 + draw x 2 6) (draw x 3 16) e (after x 3) (omega arith) (omega arith) (drawn_below x 3 16 (omega arith)) some few

-- events that are allowed wherever they stand
abbrev AreAllowed : List Event → Type 0
AreAllowed = AllByRecursion IsAllowed

both : (xs ys : List Event) → AreAllowed xs → AreAllowed ys → AreAllowed (xs ++ ys)
both [] ys h k = k
both (x ∷ xs) ys h k = (h.0, both xs ys h.1 k)

at_nodes : (f : ℕ → Event) → ((n : ℕ) → 1 ≤ n → n ≤ 16 → IsAllowed (f n)) → (a k : ℕ) → 1 ≤ a → a + k ≤ 17 → AreAllowed (map f (range_with_len a k))
at_nodes f h a zero low high = tt
at_nodes f h a (suc k) low high = (h a low (omega arith), at_nodes f h (a + 1) k (omega arith) (omega arith))

each : (f : ℕ → Event) → ((n : ℕ) → 1 ≤ n → n ≤ 16 → IsAllowed (f n)) → AreAllowed (on_each f)
each f h = at_nodes f h 1 6 (omega arith) (omega arith)

others : (f : ℕ → Event) → ((n : ℕ) → 1 ≤ n → n ≤ 16 → IsAllowed (f n)) → AreAllowed (on_others f)
others f h = at_nodes f h 2 5 (omega arith) (omega arith)

drains : IsAllowed (event.Drain 10000)
drains = (omega arith, omega arith)

first_node : (1 ≤ 1) × (1 ≤ 16)
first_node = (omega arith, omega arith)

spread_allowed : AreAllowed spread
spread_allowed =
    let tell : ℕ → Event = λ n. event.Gossip n 1 in
    let hear : ℕ → Event = λ n. event.Gossip 1 n in
    let told : AreAllowed (event.Drain 10000 ∷ []) = (drains, tt) in
    let heard : AreAllowed (event.Drain 10000 ∷ on_others hear ++ event.Drain 10000 ∷ []) = (drains, both (on_others hear) (event.Drain 10000 ∷ []) (others hear (λ n low high. (first_node, (low, high)))) told) in
    both (on_others tell) (event.Drain 10000 ∷ on_others hear ++ event.Drain 10000 ∷ []) (others tell (λ n low high. ((low, high), first_node))) heard

-- a, b and c are names of zones
zone_fits : (k : ℕ) → k < 3 → IsIn (zone ((97 + k) ∷ []))
zone_fits zero h = refl
zone_fits (suc zero) h = refl
zone_fits (suc (suc zero)) h = refl
zone_fits (suc (suc (suc k))) h = absurd (omega arith)

kind_allowed : (b : Bool) → IsIn (capacity_range (if b then Storage 1000 else Gateway))
kind_allowed true = (omega arith, omega arith)
kind_allowed false = tt

role_allowed : (j n : ℕ) → 1 ≤ n → n ≤ 16 → IsAllowed (role_of j n)
role_allowed j n low high = ((low, high), (zone_fits ((n + 2) % 3) (mod-lt (n + 2) (omega arith)), kind_allowed (stores j n)))

applied_allowed : (j : ℕ) → AreAllowed (applied j)
applied_allowed j =
    let rest : AreAllowed (event.Apply 1 ∷ spread) = (first_node, spread_allowed) in
    both (on_each (role_of j)) (event.Apply 1 ∷ spread) (each (role_of j) (role_allowed j)) rest

moved_allowed : AreAllowed moved
moved_allowed =
    let last : AreAllowed (event.Drain 10000 ∷ spread) = (drains, spread_allowed) in
    let synced = both (on_each event.Sync) (event.Drain 10000 ∷ spread) (each event.Sync (λ n low high. (low, high))) last in
    let heard = both spread (on_each event.Sync ++ event.Drain 10000 ∷ spread) spread_allowed synced in
    both (on_each event.Ack) (spread ++ on_each event.Sync ++ event.Drain 10000 ∷ spread) (each event.Ack (λ n low high. (low, high))) heard

cleaned_allowed : AreAllowed cleaned
cleaned_allowed =
    let heard = both spread (on_each event.Clean) spread_allowed (each event.Clean (λ n low high. (low, high))) in
    both (on_each event.SyncAck) (spread ++ on_each event.Clean) (each event.SyncAck (λ n low high. (low, high))) heard

change_allowed : (j : ℕ) → AreAllowed (change j)
unfolding change
change_allowed j =
    let start : AreAllowed restarts = (drains, each event.Restart (λ n low high. (low, high))) in
    let end = both moved cleaned moved_allowed cleaned_allowed in
    both restarts (applied j ++ moved ++ cleaned) start (both (applied j) (moved ++ cleaned) (applied_allowed j) end)

-- events that are allowed where fewer than 2 ^ 29 come before each; e come before the first
abbrev AreAllowedFrom : ℕ → List Event → Type 0
AreAllowedFrom e [] = ⊤
AreAllowedFrom e (x ∷ xs) = (e < 2 ^ 29 → IsAllowed x) × AreAllowedFrom (e + 1) xs

anywhere : (e : ℕ) (xs : List Event) → AreAllowed xs → AreAllowedFrom e xs
anywhere e [] h = tt
anywhere e (x ∷ xs) h = (λ few. h.0, anywhere (e + 1) xs h.1)

joined : (e : ℕ) (xs ys : List Event) → AreAllowedFrom e xs → AreAllowedFrom (e + length xs) ys → AreAllowedFrom e (xs ++ ys)
joined e [] ys h k = subst (λ n. AreAllowedFrom n ys) (omega arith) k
joined e (x ∷ xs) ys h k =
    let same : e + length (x ∷ xs) ≡ e + 1 + length xs = omega arith in
    (h.0, joined (e + 1) xs ys h.1 (subst (λ n. AreAllowedFrom n ys) same k))

plain_allowed : (x e : ℕ) → 0 < e → AreAllowedFrom e (plain_turn x e).events
unfolding plain_turn
plain_allowed x e some =
    let count = drawn_below (first_event x e).state 1 40 (omega arith) in
    (first_allowed x e some, ((λ few. (omega arith, omega arith)), tt))

turn_allowed : (i x e : ℕ) → 0 < e → AreAllowedFrom e (turn_of i x e).events
turn_allowed i x e some =
    elim (i % 250 == 0) as (λ b. AreAllowedFrom e (if b then record { events = change (i / 250); state = x } else plain_turn x e).events) [
      | true ↦ anywhere e (change (i / 250)) (change_allowed (i / 250))
      | false ↦ plain_allowed x e some
    ]

made_allowed : (seed i : ℕ) → AreAllowedFrom 0 (made seed i).events
unfolding made
made_allowed seed zero = ((λ few. tt), ((λ few. refl), ((λ few. (omega arith, omega arith)), tt)))
made_allowed seed (suc i) =
    let before = (made seed i).events in
    let some : 0 < length before = omega (arith, made_has_events seed i) in
    let zeros : 0 + length before ≡ length before = omega arith in
    let next = (turn_of (suc i) (made seed i).state (length before)).events in
    joined 0 before next (made_allowed seed i) (subst (λ e. AreAllowedFrom e next) (sym zeros) (turn_allowed (suc i) (made seed i).state (length before) some))

taken : (k e n : ℕ) (xs : List Event) → e + n ≤ 2 ^ 29 → AreAllowedFrom e xs → All (λ (l : Numbered). IsAllowed l.event) (on_lines k (take n xs))
taken k e zero xs few h = All-nil (λ (l : Numbered). IsAllowed l.event)
taken k e (suc n) [] few h = All-nil (λ (l : Numbered). IsAllowed l.event)
taken k e (suc n) (x ∷ xs) few h = All-cons (λ (l : Numbered). IsAllowed l.event) (record { line = k; event = x }) (on_lines (k + 1) (take n xs)) (h.0 (omega arith)) (taken (k + 1) (e + 1) n xs (omega arith) h.1)

-- the words of the first 2 ^ 29 events are in their ranges
schedule_allowed : (n seed : ℕ) → n ≤ 2 ^ 29 → All (λ (l : Numbered). IsAllowed l.event) (schedule n seed)
schedule_allowed n seed few = taken 1 0 n (made seed n).events (omega arith) (made_allowed seed n)

on_few : (k n : ℕ) (xs : List Event) → length (on_lines k (take n xs)) ≤ n
on_few k zero xs = omega arith
on_few k (suc n) [] = omega arith
on_few k (suc n) (x ∷ xs) = omega (arith, on_few (k + 1) n xs)

-- a workload of at most 100,000 events is within the limits of a schedule
pub schedule_is_within : (n seed : ℕ) → n ≤ 100000 → AreScheduled (schedule n seed)
schedule_is_within n seed few =
    let count = on_few 1 n (made seed n).events in
    record { few = omega arith; allowed = recursion_from_All (λ (l : Numbered). IsAllowed l.event) (schedule n seed) (schedule_allowed n seed (omega arith)) }

pub if_allowed : (r : Result (List Numbered) Memory) (n seed : ℕ) → n ≤ 2 ^ 29 → IfOk r (λ ls. ls ≡ schedule n seed) → IfOk r (λ ls. All (λ (l : Numbered). IsAllowed l.event) ls)
if_allowed (Ok ls) n seed few h = subst (λ (xs : List Numbered). All (λ (l : Numbered). IsAllowed l.event) xs) (sym h) (schedule_allowed n seed few)
if_allowed (Err m) n seed few h = tt
