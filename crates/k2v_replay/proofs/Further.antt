-- The first events of a schedule, played, begin a replay of all of them that has a stated end.
use Rattle.std.proofs.Common.{◌≡◌, ◌⊎◌, inl, inr, List, [], ◌∷◌, ◌++◌, length, refl, sym, ap, ◌∙◌, subst, append_assoc}
use Rattle.std.specs.List.{AllByRecursion}
use Rattle.lab_outside.specs.declared.exit.Status.TheVariants.{Done, Limit}
use Rattle.k2v_model.specs.Run.{State, start}
use Rattle.k2v_text.specs.declared.event.NumberedItemEvent.{NumberedItemEvent}
use Rattle.k2v_text.specs.Events.{Turn, outcome_of, after, run}
use Rattle.k2v_text.specs.Grammar.{IsAllowed}
use Rattle.k2v_text.specs.Played.{events_of, AreLawful, ArePlayed}
use Rattle.k2v_text.specs.Transcript.{event_text, turns_text, tail_text}
use Rattle.k2v_limits.specs.Limits.{AreScheduled}
use Rattle.k2v_replay.specs.Replay.{sent_line, front, AreFirst, CutOff, IsReplay, whole, GoesFurther}
use Rattle.machine_origins.proofs.Lists.{all_parts}
use Rattle.limit_laws.proofs.Cuts.{Cuts, after_all, within, cuts}
use Rattle.k2v_replay.proofs.Lawful.{IsFine, start_fine, after_fine}
use Rattle.k2v_replay.proofs.Ending.{AreAllowedEvents, given}
use Rattle.k2v_replay.proofs.Cutting.{never_played_and_cut_off}

-- what is written of turns and of those after them
text_more : (s : State) (ts us : List Turn) → turns_text s (ts ++ us) ≡ turns_text s ts ++ turns_text (run s ts) us
text_more s [] us = refl
text_more s (t ∷ ts) us =
    let here = event_text t.numbered (outcome_of s t) in
    ap (λ w. here ++ w) (text_more (after s t) ts us) ∙ sym (append_assoc here (turns_text (after s t) ts) (turns_text (run (after s t) ts) us))

events_more : (ts us : List Turn) → events_of (ts ++ us) ≡ events_of ts ++ events_of us
events_more [] us = refl
events_more (t ∷ ts) us = ap (λ es. t.numbered ∷ es) (events_more ts us)

lawful_more : (s : State) (ts us : List Turn) → AreLawful s ts → AreLawful (run s ts) us → AreLawful s (ts ++ us)
lawful_more s [] us h k = k
lawful_more s (t ∷ ts) us h k = (h.0, lawful_more (after s t) ts us h.1 k)

run_fine : (s : State) (ts : List Turn) → AreLawful s ts → IsFine s → IsFine (run s ts)
run_fine s [] h k = k
run_fine s (t ∷ ts) h k = run_fine (after s t) ts h.1 (after_fine s t h.0 k)

allowed_after : (events first later : List NumberedItemEvent) → AreScheduled events → events ≡ first ++ later → AreAllowedEvents later
allowed_after events first later s is =
    let IsSo = λ (e : NumberedItemEvent). IsAllowed e.event in (all_parts IsSo first later (subst (AllByRecursion IsSo) is s.allowed)).1

module _ (one : (turns : List Turn) → AreScheduled (events_of turns) → AreLawful start turns → ArePlayed turns ⊎ CutOff turns)
    (limit : (turns : List Turn) → AreLawful start turns → (cut : CutOff turns) → IsReplay (events_of turns) Limit (front cut.before ++ sent_line))
    (ts us : List Turn) where
  played_further : ArePlayed (ts ++ us) → GoesFurther (events_of (ts ++ us)) ts
  played_further played =
      let all = ts ++ us in
      let tail = tail_text (length all) (run start all) in
      let more = turns_text (run start ts) us in
      let stated : IsReplay (events_of all) Done (front all ++ tail) = whole all refl played refl refl in
      record { status = Done; rest = more ++ tail; stated = subst (λ text. IsReplay (events_of all) Done text) (ap (λ w. w ++ tail) (text_more start ts us) ∙ append_assoc (front ts) more tail) stated }

  cut_further : ArePlayed ts → AreLawful start (ts ++ us) → (cut : CutOff (ts ++ us)) → Cuts ts cut.before cut.next → GoesFurther (events_of (ts ++ us)) ts
  cut_further played lawful cut (within more is) = absurd (never_played_and_cut_off ts played (record { before = cut.before; next = cut.next; later = more; whole = is; played = cut.played; stops = cut.stops }))
  cut_further played lawful cut (after_all more is) =
      let f = turns_text (run start ts) more in
      record {
        status = Limit;
        rest = f ++ sent_line;
        stated = subst (λ text. IsReplay (events_of (ts ++ us)) Limit text) (ap (λ before. front before ++ sent_line) is ∙ ap (λ w. w ++ sent_line) (text_more start ts more) ∙ append_assoc (front ts) f sent_line) (limit (ts ++ us) lawful cut);
      }

  ends_further : ArePlayed ts → AreLawful start (ts ++ us) → AreScheduled (events_of (ts ++ us)) → GoesFurther (events_of (ts ++ us)) ts
  ends_further played lawful s = elim (one (ts ++ us) s lawful) [
    | inl all ↦ played_further all
    | inr cut ↦ cut_further played lawful cut (cuts ts us cut.before cut.next cut.later cut.whole)
  ]

module _ (one : (turns : List Turn) → AreScheduled (events_of turns) → AreLawful start turns → ArePlayed turns ⊎ CutOff turns)
    (limit : (turns : List Turn) → AreLawful start turns → (cut : CutOff turns) → IsReplay (events_of turns) Limit (front cut.before ++ sent_line)) where
  pub goes_further : (events : List NumberedItemEvent) (turns : List Turn) → AreScheduled events → AreFirst events turns → GoesFurther events turns
  goes_further events turns s first =
      let lawful = first.played.lawful in
      let g = given first.later (run start turns) (run_fine start turns lawful start_fine) (allowed_after events (events_of turns) first.later s first.whole) in
      let is : events_of (turns ++ g.turns) ≡ events = events_more turns g.turns ∙ ap (λ es. events_of turns ++ es) g.events_are ∙ sym first.whole in
      subst (λ (es : List NumberedItemEvent). GoesFurther es turns) is
      (ends_further one limit turns g.turns first.played (lawful_more start turns g.turns lawful g.lawful) (subst AreScheduled (sym is) s))
