-- The first events of a schedule, played, begin a replay of all of them that has a stated end.
use Rattle.std.proofs.Common.{◌≡◌, ℕ, ◌⊎◌, inl, inr, List, [], ◌∷◌, ◌++◌, length, refl, sym, ap, ◌∙◌, subst, append_assoc}
use Rattle.std.specs.List.{AllByRecursion}
use Rattle.std.proofs.lemmas.List.Elements.{All-from_recursion}
use Rattle.lab_outside.specs.declared.exit.Status.TheVariants.{Done, Limit}
use Rattle.store_model.specs.declared.event.Numbered.{Numbered}
use Rattle.store_model.specs.Run.{State, start}
use Rattle.store_model.specs.Events.{Turn, events_of, outcome_of, after, run}
use Rattle.store_model.specs.Turns.{AreLawful}
use Rattle.text_model.specs.Grammar.{IsAllowed}
use Rattle.text_model.specs.Transcript.{event_text, turns_text}
use Rattle.text_model.specs.Played.{ArePlayed, AreScheduled}
use Rattle.replay_run.specs.declared.account.Account.{Account}
use Rattle.replay_run.specs.declared.account.Account.TheVariants.{Transcript, Checked, Summary}
use Rattle.replay_run.specs.Account.{front, opening, closing}
use Rattle.replay_run.specs.Replay.{sent_line, AreFirst, CutOff, IsReplay, whole, GoesFurther}
use Rattle.replay_run.proofs.Checked.{has_line}
use Rattle.machine_origins.proofs.Lists.{all_parts}
use Rattle.limit_laws.proofs.Cuts.{Cuts, after_all, within, cuts}
use Rattle.replay_run.proofs.Lawful.{IsFine, start_fine, after_fine}
use Rattle.replay_run.proofs.Meant.{allowed_is_meant}
use Rattle.replay_run.proofs.Ending.{AreMeant, given}
use Rattle.replay_run.proofs.Cutting.{never_played_and_cut_off}

-- what is written of turns and of those after them
text_more : (s : State) (ts us : List Turn) → turns_text s (ts ++ us) ≡ turns_text s ts ++ turns_text (run s ts) us
text_more s [] us = refl
text_more s (t ∷ ts) us =
    let here = event_text t.numbered (outcome_of s t) in
    ap (λ w. here ++ w) (text_more (after s t) ts us) ∙ sym (append_assoc here (turns_text (after s t) ts) (turns_text (run (after s t) ts) us))

front_more : (account : Account) (ts us : List Turn) → (rest : List ℕ) × (front account (ts ++ us) ≡ front account ts ++ rest)
front_more Transcript ts us = (turns_text (run start ts) us, text_more start ts us)
front_more Checked ts us = (turns_text (run start ts) us, text_more start ts us)
front_more (Summary count seed) ts us = ([], refl)

events_more : (ts us : List Turn) → events_of (ts ++ us) ≡ events_of ts ++ events_of us
events_more [] us = refl
events_more (t ∷ ts) us = ap (λ es. t.numbered ∷ es) (events_more ts us)

lawful_more : (s : State) (ts us : List Turn) → AreLawful s ts → AreLawful (run s ts) us → AreLawful s (ts ++ us)
lawful_more s [] us h k = k
lawful_more s (t ∷ ts) us h k = (h.0, lawful_more (after s t) ts us h.1 k)

run_fine : (s : State) (ts : List Turn) → AreLawful s ts → IsFine s → IsFine (run s ts)
run_fine s [] h k = k
run_fine s (t ∷ ts) h k = run_fine (after s t) ts h.1 (after_fine s t h.0 k)

meant_after : (events first later : List Numbered) → AreScheduled events → events ≡ first ++ later → AreMeant later
meant_after events first later s is k d lt =
    let IsSo = λ (e : Numbered). IsAllowed e.event in
    allowed_is_meant _ (All-from_recursion IsSo later (all_parts IsSo first later (subst (AllByRecursion IsSo) is s.allowed)).1 k d lt)

module _ (one : (turns : List Turn) → AreScheduled (events_of turns) → AreLawful start turns → ArePlayed turns ⊎ CutOff turns)
    (limit : (account : Account) (turns : List Turn) → AreLawful start turns → (cut : CutOff turns) → IsReplay account (events_of turns) Limit (front account cut.before ++ sent_line))
    (account : Account) (ts us : List Turn) where
  played_further : ArePlayed (ts ++ us) → GoesFurther account (events_of (ts ++ us)) ts
  played_further played =
      let all = ts ++ us in
      let s = run start all in
      let line = has_line account s.history in
      let tail = opening account s ++ closing (length all) s line.0 in
      let stated : IsReplay account (events_of all) Done (front account all ++ tail) = whole all refl played refl (record { tail = tail; ends = record { line = line.0; is_line = line.1; text_is = refl }; text_is = refl }) in
      let f = front_more account ts us in
      record { status = Done; rest = f.0 ++ tail; stated = subst (λ text. IsReplay account (events_of all) Done text) (ap (λ w. w ++ tail) f.1 ∙ append_assoc (front account ts) f.0 tail) stated }

  cut_further : ArePlayed ts → AreLawful start (ts ++ us) → (cut : CutOff (ts ++ us)) → Cuts ts cut.before cut.next → GoesFurther account (events_of (ts ++ us)) ts
  cut_further played lawful cut (within more is) = absurd (never_played_and_cut_off ts played (record { before = cut.before; next = cut.next; later = more; whole = is; played = cut.played; stops = cut.stops }))
  cut_further played lawful cut (after_all more is) =
      let f = front_more account ts more in
      record {
        status = Limit;
        rest = f.0 ++ sent_line;
        stated = subst (λ text. IsReplay account (events_of (ts ++ us)) Limit text) (ap (λ before. front account before ++ sent_line) is ∙ ap (λ w. w ++ sent_line) f.1 ∙ append_assoc (front account ts) f.0 sent_line) (limit account (ts ++ us) lawful cut);
      }

  ends_further : ArePlayed ts → AreLawful start (ts ++ us) → AreScheduled (events_of (ts ++ us)) → GoesFurther account (events_of (ts ++ us)) ts
  ends_further played lawful s = elim (one (ts ++ us) s lawful) [
    | inl all ↦ played_further all
    | inr cut ↦ cut_further played lawful cut (cuts ts us cut.before cut.next cut.later cut.whole)
  ]

module _ (one : (turns : List Turn) → AreScheduled (events_of turns) → AreLawful start turns → ArePlayed turns ⊎ CutOff turns)
    (limit : (account : Account) (turns : List Turn) → AreLawful start turns → (cut : CutOff turns) → IsReplay account (events_of turns) Limit (front account cut.before ++ sent_line)) where
  pub goes_further : (account : Account) (events : List Numbered) (turns : List Turn) → AreScheduled events → AreFirst events turns → GoesFurther account events turns
  goes_further account events turns s first =
      let lawful = first.played.lawful in
      let g = given first.later (run start turns) (run_fine start turns lawful start_fine) (meant_after events (events_of turns) first.later s first.whole) in
      let is : events_of (turns ++ g.turns) ≡ events = events_more turns g.turns ∙ ap (λ es. events_of turns ++ es) g.events_are ∙ sym first.whole in
      subst (λ (es : List Numbered). GoesFurther account es turns) is
      (ends_further one limit account turns g.turns first.played (lawful_more start turns g.turns lawful g.lawful) (subst AreScheduled (sym is) s))
