-- No event of a workload is `collect`.
use Rattle.std.specs.Prelude.{nat_lt, ⊤}
use Rattle.std.proofs.Common.{ℕ, zero, suc, ◌+◌, ◌*◌, ◌/◌, ◌%◌, Bool, true, false, if◌then◌else◌, ◌==◌, List, [], ◌∷◌, ◌++◌, length, map, take}
use Rattle.std.specs.List.{AllByRecursion, range_with_len}
use Rattle.store_model.specs.declared.event.Event.{Event}
use Rattle.store_model.specs.declared.event.Event.TheVariants as event
use Rattle.store_model.specs.declared.event.Numbered.{Numbered}
use Rattle.workload.specs.Numbers.{after, draw}
use Rattle.workload.specs.Turns.{Made, chosen, plain_turn, key_of}
use Rattle.workload.specs.Change.{on_each, on_others, spread, role_of, restarts, applied, moved, cleaned, change}
use Rattle.workload.specs.Schedule.{turn_of, made, on_lines, schedule}

-- the event is not `collect`
abbrev pub IsOther : Event → Type 0
IsOther (event.Collect n) = ⊥
IsOther _ = ⊤

-- and none of these is
abbrev pub AreOther : List Numbered → Type 0
AreOther = AllByRecursion (λ (l : Numbered). IsOther l.event)

abbrev Others : List Event → Type 0
Others = AllByRecursion IsOther

both : (xs ys : List Event) → Others xs → Others ys → Others (xs ++ ys)
both [] ys h k = k
both (x ∷ xs) ys h k = (h.0, both xs ys h.1 k)

at_nodes : (f : ℕ → Event) → ((n : ℕ) → IsOther (f n)) → (a k : ℕ) → Others (map f (range_with_len a k))
at_nodes f h a zero = tt
at_nodes f h a (suc k) = (h a, at_nodes f h (a + 1) k)

each : (f : ℕ → Event) → ((n : ℕ) → IsOther (f n)) → Others (on_each f)
each f h = at_nodes f h 1 6

others : (f : ℕ → Event) → ((n : ℕ) → IsOther (f n)) → Others (on_others f)
others f h = at_nodes f h 2 5

-- ---- changes of the layout

spread_other : Others spread
spread_other =
    let tell : ℕ → Event = λ n. event.Gossip n 1 in
    let hear : ℕ → Event = λ n. event.Gossip 1 n in
    let last : List Event = event.Drain 10000 ∷ [] in
    both (on_others tell) (event.Drain 10000 ∷ on_others hear ++ last) (others tell (λ n. tt)) (tt, both (on_others hear) last (others hear (λ n. tt)) (tt, tt))

applied_other : (j : ℕ) → Others (applied j)
applied_other j = both (on_each (role_of j)) (event.Apply 1 ∷ spread) (each (role_of j) (λ n. tt)) (tt, spread_other)

moved_other : Others moved
moved_other =
    let synced = both (on_each event.Sync) (event.Drain 10000 ∷ spread) (each event.Sync (λ n. tt)) (tt, spread_other) in
    let heard = both spread (on_each event.Sync ++ event.Drain 10000 ∷ spread) spread_other synced in
    both (on_each event.Ack) (spread ++ on_each event.Sync ++ event.Drain 10000 ∷ spread) (each event.Ack (λ n. tt)) heard

cleaned_other : Others cleaned
cleaned_other =
    let heard = both spread (on_each event.Clean) spread_other (each event.Clean (λ n. tt)) in
    both (on_each event.SyncAck) (spread ++ on_each event.Clean) (each event.SyncAck (λ n. tt)) heard

change_other : (j : ℕ) → Others (change j)
unfolding change
change_other j =
    let start : Others restarts = (tt, each event.Restart (λ n. tt)) in
    let end = both moved cleaned moved_other cleaned_other in
    both restarts (applied j ++ moved ++ cleaned) start (both (applied j) (moved ++ cleaned) (applied_other j) end)

-- ---- other turns

-- whichever of two events it is
either : (b : Bool) (m n : Made) → IsOther m.event → IsOther n.event → IsOther (if b then m else n).event
either true m n h k = h
either false m n h k = k

chosen_other : (c n : ℕ) (key : List ℕ) (e x : ℕ) → IsOther (chosen c n key e x).event
chosen_other c n key e x =
    either (nat_lt c 5) _ _ tt
    (either (nat_lt c 8) _ _ tt
    (either (c == 8) _ _ tt
    (either (c == 9) _ _ tt
    (either (c == 10) _ _ tt
    (either (c == 11) _ _ tt
    (either (c == 12) _ _ tt
    (either (c == 13) _ _ tt
    (either (c == 14) _ _ tt tt))))))))

plain_other : (x e : ℕ) → Others (plain_turn x e).events
unfolding plain_turn
plain_other x e = (chosen_other (draw x 1 16) (1 + draw x 2 6) (key_of (draw x 3 16)) e (after x 3), (tt, tt))

-- ---- the schedule

turn_other : (i x e : ℕ) → Others (turn_of i x e).events
turn_other i x e =
    elim (i % 250 == 0) as (λ b. Others (if b then record { events = change (i / 250); state = x } else plain_turn x e).events) [
      | true ↦ change_other (i / 250)
      | false ↦ plain_other x e
    ]

made_other : (seed i : ℕ) → Others (made seed i).events
unfolding made
made_other seed zero = (tt, (tt, (tt, tt)))
made_other seed (suc i) =
    let before = (made seed i).events in
    let next = (turn_of (suc i) (made seed i).state (length before)).events in
    both before next (made_other seed i) (turn_other (suc i) (made seed i).state (length before))

lines_other : (k n : ℕ) (xs : List Event) → Others xs → AreOther (on_lines k (take n xs))
lines_other k zero xs h = tt
lines_other k (suc n) [] h = tt
lines_other k (suc n) (x ∷ xs) h = (h.0, lines_other (k + 1) n xs h.1)

pub schedule_is_other : (n seed : ℕ) → AreOther (schedule n seed)
schedule_is_other n seed = lines_other 1 n (made seed n).events (made_other seed n)
