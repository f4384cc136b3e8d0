-- No replay of a schedule's events stops for lack of room, and each node can be shown after it.
use Rattle.std.specs.Prelude.{◌≡◌, ◌≤◌, ◌<◌, ℕ, Bool, true, false, List, [], ◌∷◌, ◌++◌, length}
use Rattle.std.specs.List.{AllByRecursion, list_any, range_with_len}
use Rattle.std.proofs.Common.{ap, sym, subst, ◌∙◌, refl, arith, length-append}
use Rattle.std.proofs.lemmas.List.{length-map}
use Rattle.table_model.specs.Rows.{rows}
use Rattle.table_model.specs.Top.{any_unspelled}
use Rattle.cluster_machine.specs.Worlds.{HaveRoom}
use Rattle.k2v_rows.specs.Row.{row_join}
use Rattle.k2v_schema.specs.Schema.{words}
use Rattle.k2v_model.specs.Run.{start}
use Rattle.k2v_text.specs.declared.event.NumberedItemEvent.{NumberedItemEvent}
use Rattle.k2v_text.specs.Events.{Turn, run}
use Rattle.k2v_text.specs.Grammar.{IsAllowed}
use Rattle.k2v_text.specs.Played.{Step, events_of, steps_of, GoesOn, IsLawful, ArePlayed}
use Rattle.k2v_limits.specs.Limits.{AreAllowed, AreScheduled}
use Rattle.k2v_replay.specs.Replay.{LacksRoom, is_unshown, StopsAfter, IsUnshown, ReplayLacksRoom, in_step, in_line}

-- each step of one more event has room, where the replay goes on after each step before it
abbrev pub StepsHaveRoom : Type 0
StepsHaveRoom =
    (before : List Turn) (next : Turn) → ArePlayed before → AreAllowed before → length before < 100000 → IsAllowed next.numbered.event → IsLawful (run start before) next →
    (done : List Step) (last : Step) (later : List Step) → steps_of (run start before) next.numbered.event next.choice ≡ done ++ last ∷ later → AllByRecursion GoesOn done → HaveRoom row_join words last.from.world last.outcome.moves

-- each row that a node has after turns that were played has a spelling
abbrev pub NodesAreShown : Type 0
NodesAreShown = (turns : List Turn) → ArePlayed turns → AreAllowed turns → length turns ≤ 100000 → (n : ℕ) → any_unspelled words (rows row_join words ((run start turns).world.nodes n).accepted) ≡ false

-- the first of some events are allowed where all are
first_allowed : (ts : List Turn) (later : List NumberedItemEvent) → AllByRecursion (λ (e : NumberedItemEvent). IsAllowed e.event) (events_of ts ++ later) → AreAllowed ts
first_allowed [] later a = tt
first_allowed (t ∷ ts) later a = (a.0, first_allowed ts later a.1)

next_allowed : (ts : List Turn) (e : NumberedItemEvent) (later : List NumberedItemEvent) → AllByRecursion (λ (e : NumberedItemEvent). IsAllowed e.event) (events_of ts ++ e ∷ later) → IsAllowed e.event
next_allowed [] e later a = a.0
next_allowed (t ∷ ts) e later a = next_allowed ts e later a.1

pub all_allowed : (ts : List Turn) → AllByRecursion (λ (e : NumberedItemEvent). IsAllowed e.event) (events_of ts) → AreAllowed ts
all_allowed [] a = tt
all_allowed (t ∷ ts) a = (a.0, all_allowed ts a.1)

pub count_of : (ts : List Turn) → length (events_of ts) ≡ length ts
count_of ts = length-map ts (λ (t : Turn). t.numbered)

none_passes : (f : ℕ → Bool) (ns : List ℕ) → ((n : ℕ) → f n ≡ false) → list_any f ns ≡ false
none_passes f [] h = refl
none_passes f (n ∷ ns) h = rw (h n) (none_passes f ns h)

no_stop : StepsHaveRoom → (events : List NumberedItemEvent) (before : List Turn) → AreScheduled events → StopsAfter LacksRoom events before → ⊥
no_stop law events before s h =
    let all : AllByRecursion (λ (e : NumberedItemEvent). IsAllowed e.event) (events_of before ++ h.next.numbered ∷ h.later) = subst (AllByRecursion (λ (e : NumberedItemEvent). IsAllowed e.event)) h.whole s.allowed in
    let few = s.few in
    let whole : length events ≡ length (events_of before ++ h.next.numbered ∷ h.later) = ap (λ (es : List NumberedItemEvent). length es) h.whole in
    let parts = length-append (events_of before) (h.next.numbered ∷ h.later) in
    let count = count_of before in
    h.stops.is_so (law before h.next h.played (first_allowed before (h.next.numbered ∷ h.later) all) (omega arith) (next_allowed before h.next.numbered h.later all) h.lawful h.stops.before h.stops.last h.stops.later h.stops.whole h.stops.go_on)

no_unshown : NodesAreShown → (events : List NumberedItemEvent) (turns : List Turn) → AreScheduled events → events_of turns ≡ events → ArePlayed turns → IsUnshown (run start turns) → ⊥
no_unshown law events turns s is played h =
    let all : AllByRecursion (λ (e : NumberedItemEvent). IsAllowed e.event) (events_of turns) = subst (AllByRecursion (λ (e : NumberedItemEvent). IsAllowed e.event)) (sym is) s.allowed in
    let few = s.few in
    let whole : length (events_of turns) ≡ length events = ap (λ (es : List NumberedItemEvent). length es) is in
    let count = count_of turns in
    let none = none_passes (is_unshown (run start turns).world) (range_with_len 1 16) (law turns played (all_allowed turns all) (omega arith)) in
    let no : true ≡ false = sym h ∙ none in
    cc

pub never_lacks : StepsHaveRoom → NodesAreShown → (events : List NumberedItemEvent) → AreScheduled events → ReplayLacksRoom events → ⊥
never_lacks steps nodes events s (in_step before h) = no_stop steps events before s h
never_lacks steps nodes events s (in_line turns are played h) = no_unshown nodes events turns s are played h
