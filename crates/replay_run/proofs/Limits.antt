-- No replay of a schedule's events stops for lack of room, and each node can be shown after it.
use Rattle.std.specs.Prelude.{◌≡◌, ◌≤◌, ◌<◌, ℕ, Bool, true, false, List, [], ◌∷◌, ◌++◌, length}
use Rattle.std.specs.List.{AllByRecursion, list_any, range_with_len}
use Rattle.std.proofs.Common.{ap, sym, subst, ◌∙◌, refl, arith, length-append}
use Rattle.std.proofs.lemmas.List.{length-map}
use Rattle.crdt_rows.specs.AnyRow.{any_join}
use Rattle.object_schema.specs.Schema.{words}
use Rattle.table_model.specs.Rows.{rows}
use Rattle.table_model.specs.Top.{any_unspelled}
use Rattle.store_model.specs.declared.event.Numbered.{Numbered}
use Rattle.store_model.specs.Run.{start}
use Rattle.store_model.specs.Events.{Turn, events_of, run}
use Rattle.store_model.specs.Turns.{IsLawful, FitsOutcome}
use Rattle.text_model.specs.Grammar.{IsAllowed}
use Rattle.text_model.specs.Played.{Step, steps_of, GoesOn, ArePlayed, AreAllowed, AreScheduled}
use Rattle.world_text.specs.Shown.{is_unshown}
use Rattle.replay_run.specs.Replay.{LacksRoom, StopsAfter, IsUnshown, ReplayLacksRoom, in_step, in_line}

-- each step of one more event has room, where the replay goes on after each step before it
abbrev pub StepsHaveRoom : Type 0
StepsHaveRoom =
    (before : List Turn) (next : Turn) → ArePlayed before → AreAllowed before → length before < 100000 → IsAllowed next.numbered.event → IsLawful (run start before) next →
    (done : List Step) (last : Step) (later : List Step) → steps_of (run start before) next.numbered.event next.choice ≡ done ++ last ∷ later → AllByRecursion GoesOn done → FitsOutcome last.from last.outcome

-- each row that a node has after turns that were played has a spelling
abbrev pub NodesAreShown : Type 0
NodesAreShown = (turns : List Turn) → ArePlayed turns → AreAllowed turns → length turns ≤ 100000 → (n : ℕ) → any_unspelled words (rows any_join words ((run start turns).world.nodes n).accepted) ≡ false

-- the first of some events are allowed where all are
first_allowed : (ts : List Turn) (later : List Numbered) → AllByRecursion (λ (e : Numbered). IsAllowed e.event) (events_of ts ++ later) → AreAllowed ts
first_allowed [] later a = tt
first_allowed (t ∷ ts) later a = (a.0, first_allowed ts later a.1)

next_allowed : (ts : List Turn) (e : Numbered) (later : List Numbered) → AllByRecursion (λ (e : Numbered). IsAllowed e.event) (events_of ts ++ e ∷ later) → IsAllowed e.event
next_allowed [] e later a = a.0
next_allowed (t ∷ ts) e later a = next_allowed ts e later a.1

pub all_allowed : (ts : List Turn) → AllByRecursion (λ (e : Numbered). IsAllowed e.event) (events_of ts) → AreAllowed ts
all_allowed [] a = tt
all_allowed (t ∷ ts) a = (a.0, all_allowed ts a.1)

pub count_of : (ts : List Turn) → length (events_of ts) ≡ length ts
count_of ts = length-map ts (λ (t : Turn). t.numbered)

none_passes : (f : ℕ → Bool) (ns : List ℕ) → ((n : ℕ) → f n ≡ false) → list_any f ns ≡ false
none_passes f [] h = refl
none_passes f (n ∷ ns) h = rw (h n) (none_passes f ns h)

no_stop : StepsHaveRoom → (events : List Numbered) (before : List Turn) → AreScheduled events → StopsAfter LacksRoom events before → ⊥
no_stop law events before s h =
    let all : AllByRecursion (λ (e : Numbered). IsAllowed e.event) (events_of before ++ h.next.numbered ∷ h.later) = subst (AllByRecursion (λ (e : Numbered). IsAllowed e.event)) h.whole s.allowed in
    let few = s.few in
    let whole : length events ≡ length (events_of before ++ h.next.numbered ∷ h.later) = ap (λ (es : List Numbered). length es) h.whole in
    let parts = length-append (events_of before) (h.next.numbered ∷ h.later) in
    let count = count_of before in
    h.stops.is_so (law before h.next h.played (first_allowed before (h.next.numbered ∷ h.later) all) (omega arith) (next_allowed before h.next.numbered h.later all) h.lawful h.stops.before h.stops.last h.stops.later h.stops.whole h.stops.go_on)

no_unshown : NodesAreShown → (events : List Numbered) (turns : List Turn) → AreScheduled events → events_of turns ≡ events → ArePlayed turns → IsUnshown (run start turns) → ⊥
no_unshown law events turns s is played h =
    let all : AllByRecursion (λ (e : Numbered). IsAllowed e.event) (events_of turns) = subst (AllByRecursion (λ (e : Numbered). IsAllowed e.event)) (sym is) s.allowed in
    let few = s.few in
    let whole : length (events_of turns) ≡ length events = ap (λ (es : List Numbered). length es) is in
    let count = count_of turns in
    let none = none_passes (is_unshown (run start turns).world) (range_with_len 1 16) (law turns played (all_allowed turns all) (omega arith)) in
    let no : true ≡ false = sym h ∙ none in
    cc

pub never_lacks : StepsHaveRoom → NodesAreShown → (events : List Numbered) → AreScheduled events → ReplayLacksRoom events → ⊥
never_lacks steps nodes events s (in_step before h) = no_stop steps events before s h
never_lacks steps nodes events s (in_line turns are played h) = no_unshown nodes events turns s are played h
