-- A further lawful turn of a replay goes on, or passes the limit in some step.
use Rattle.std.proofs.Common.{◌≡◌, ◌<◌, ◌⊎◌, inl, inr, suc, List, [], ◌∷◌, ◌++◌, length, refl, sym, ap, subst, length-append, arith}
use Rattle.std.specs.List.{AllByRecursion}
use Rattle.store_model.specs.declared.event.Numbered.{Numbered}
use Rattle.store_model.specs.Run.{State, start}
use Rattle.store_model.specs.Events.{Turn, act_of, events_of, after, run}
use Rattle.store_model.specs.Acts.{IsLawfulAct}
use Rattle.store_model.specs.Turns.{IsLawful, AreLawful}
use Rattle.text_model.specs.Grammar.{IsAllowed}
use Rattle.text_model.specs.Played.{steps_of, GoesOn, AllGoOn, ArePlayed, AreAllowed, AreScheduled}
use Rattle.replay_run.specs.Replay.{SendsTooMuch, StopsAt, CutOff}
use Rattle.audit_findings.specs.Next.{Passes}

-- lawful turns are played or cut off
abbrev pub EndOnce : Type 0
EndOnce = (turns : List Turn) → AreScheduled (events_of turns) → AreLawful start turns → ArePlayed turns ⊎ CutOff turns

abbrev pub NeverBoth : Type 0
NeverBoth = (turns : List Turn) → ArePlayed turns → CutOff turns → ⊥

length_events : (ts : List Turn) → length (events_of ts) ≡ length ts
length_events [] = refl
length_events (t ∷ ts) = ap suc (length_events ts)

all_allowed : (ts : List Turn) (t : Turn) → AreAllowed ts → IsAllowed t.numbered.event → AllByRecursion (λ (e : Numbered). IsAllowed e.event) (events_of (ts ++ t ∷ []))
all_allowed [] t h k = (k, tt)
all_allowed (u ∷ us) t h k = (h.0, all_allowed us t h.1 k)

snoc_lawful : (s : State) (ts : List Turn) (t : Turn) → AreLawful s ts → IsLawful (run s ts) t → AreLawful s (ts ++ t ∷ [])
snoc_lawful s [] t h k = (k, tt)
snoc_lawful s (u ∷ us) t h k = (h.0, snoc_lawful (after s u) us t h.1 k)

last_goes : (s : State) (ts : List Turn) (t : Turn) → AllGoOn s (ts ++ t ∷ []) → AllByRecursion GoesOn (steps_of (run s ts) t.numbered.event t.choice)
last_goes s [] t h = h.0
last_goes s (u ∷ us) t h = last_goes (after s u) us t h.1

-- a turn of all is the last of them, or one before it
data Where (ts : List Turn) (t : Turn) (before : List Turn) (x : Turn) : Type 0 where
  at_last : ts ≡ before → t ≡ x → Where ts t before x
  in_front : (more : List Turn) → ts ≡ before ++ x ∷ more → Where ts t before x

where_is : (ts : List Turn) (t : Turn) (before : List Turn) (x : Turn) (later : List Turn) → ts ++ t ∷ [] ≡ before ++ x ∷ later → Where ts t before x
where_is [] t [] x later e = at_last refl (let is : t ≡ x = cc in is)
where_is [] t (b ∷ []) x later e = cc
where_is [] t (b ∷ c ∷ before) x later e = cc
where_is (u ∷ us) t [] x later e = in_front us (let is : u ≡ x = cc in λ i. is i ∷ us)
where_is (u ∷ us) t (b ∷ before) x later e =
    let first : u ≡ b = cc in
    let rest : us ++ t ∷ [] ≡ before ++ x ∷ later = cc in
    onto first (where_is us t before x later rest)
  where
    onto : u ≡ b → Where us t before x → Where (u ∷ us) t (b ∷ before) x
    onto first (at_last is same) = at_last (λ i. first i ∷ is i) same
    onto first (in_front more is) = in_front more (λ i. first i ∷ is i)

passes_of : (s : State) (t : Turn) → StopsAt SendsTooMuch (steps_of s t.numbered.event t.choice) → Passes (steps_of s t.numbered.event t.choice)
passes_of s t h = record {
  first = h.before;
  last = h.last;
  rest = h.later;
  steps_are = h.whole;
  first_go_on = h.go_on;
  bytes = h.is_so.bytes;
  sent = h.is_so.sent;
  beyond = h.is_so.beyond;
}

pub goes_or_passes : EndOnce → NeverBoth → (others : List Turn) (next : Turn) → ArePlayed others → AreAllowed others → length others < 100000 → IsAllowed next.numbered.event →
    IsLawfulAct (run start others) (act_of next.numbered.event next.choice) →
    AllByRecursion GoesOn (steps_of (run start others) next.numbered.event next.choice) ⊎ Passes (steps_of (run start others) next.numbered.event next.choice)
goes_or_passes once never others next played allowed few here lawful = by_end (once all scheduled (snoc_lawful start others next played.lawful lawful))
  where
    all : List Turn
    all = others ++ next ∷ []

    scheduled : AreScheduled (events_of all)
    scheduled =
        let count = length_events all in
        let parts = length-append others (next ∷ []) in
        record { few = omega arith; allowed = all_allowed others next allowed here }

    by_cut : (cut : CutOff all) → Where others next cut.before cut.next → Passes (steps_of (run start others) next.numbered.event next.choice)
    by_cut cut (at_last is same) =
        subst (λ (ts : List Turn). Passes (steps_of (run start ts) next.numbered.event next.choice)) (sym is)
        (subst (λ (t : Turn). Passes (steps_of (run start cut.before) t.numbered.event t.choice)) (sym same) (passes_of (run start cut.before) cut.next cut.stops))
    by_cut cut (in_front more is) = absurd (never others played (record { before = cut.before; next = cut.next; later = more; whole = is; played = cut.played; stops = cut.stops }))

    by_end : ArePlayed all ⊎ CutOff all → AllByRecursion GoesOn (steps_of (run start others) next.numbered.event next.choice) ⊎ Passes (steps_of (run start others) next.numbered.event next.choice)
    by_end (inl h) = inl (last_goes start others next h.go_on)
    by_end (inr cut) = inr (by_cut cut (where_is others next cut.before cut.next cut.later cut.whole))
