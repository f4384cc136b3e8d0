-- Lawful turns are played, or a replay of them is cut off where more was sent than may be, and never both; what is then stated.
use Rattle.std.proofs.Common.{◌≡◌, ◌+◌, ◌≤◌, ◌⊎◌, inl, inr, Some, List, [], ◌∷◌, ◌++◌, length, refl, sym, ap, ◌∙◌, subst, append_assoc, append-nil, length-append, arith}
use Rattle.std.specs.List.{AllByRecursion}
use Rattle.std.proofs.lemmas.Bool.{cases_lt}
use Rattle.cluster_machine.specs.Worlds.{FitAll, HaveRoom, next}
use Rattle.crdt_core.proofs.Each.{all_append}
use Rattle.machine_origins.proofs.Lists.{all_parts}
use Rattle.lab_outside.specs.declared.exit.Status.TheVariants.{Done, Limit}
use Rattle.text_model.specs.Played.{sent_limit}
use Rattle.k2v_rows.specs.Row.{row_join}
use Rattle.k2v_schema.specs.Schema.{words}
use Rattle.k2v_model.specs.Run.{World, Moving, State, start}
use Rattle.k2v_text.specs.Events.{Turn, after, run}
use Rattle.k2v_text.specs.Grammar.{IsAllowed}
use Rattle.k2v_text.specs.Played.{Step, events_of, steps_of, GoesOn, IsLawful, AreLawful, AllGoOn, ArePlayed}
use Rattle.k2v_text.specs.Transcript.{transcript}
use Rattle.k2v_limits.specs.Limits.{AreAllowed, AreScheduled}
use Rattle.k2v_replay.specs.Replay.{sent_line, front, SendsTooMuch, StopsAt, CutOff, IsReplay, whole, sent}
use Rattle.k2v_replay.proofs.Turns.{run_push, played_none, played_push}
use Rattle.k2v_replay.proofs.Leading.{AreSteps, are_steps, IsCounted, start_counted, run_counted, counted, event_counted}
use Rattle.k2v_replay.proofs.Limits.{StepsHaveRoom, all_allowed, count_of}

-- where all has room all fits
moves_fit : (w : World) (ms : List Moving) → HaveRoom row_join words w ms → FitAll row_join words w ms
moves_fit w [] h = tt
moves_fit w (m ∷ ms) h = (h.0.0, moves_fit (next row_join words w m) ms h.1)

-- of steps that have room as long as those before go on, each goes on, or the first that doesn't has sent too much
module _ (steps : List Step) (room : (done : List Step) (last : Step) (later : List Step) → steps ≡ done ++ last ∷ later → AllByRecursion GoesOn done → HaveRoom row_join words last.from.world last.outcome.moves) where
  go_on_from : (later done : List Step) (s : State) → AreSteps s later → IsCounted s.world → AllByRecursion GoesOn done → steps ≡ done ++ later → AllByRecursion GoesOn steps ⊎ StopsAt SendsTooMuch steps
  go_on_from [] done s are known all is = inl (subst (AllByRecursion GoesOn) (sym (is ∙ append-nil done)) all)
  go_on_from (x ∷ later) done s are known all is =
      let fits = moves_fit x.from.world x.outcome.moves (room done x later is all) in
      let here : IsCounted x.outcome.state.world = subst IsCounted are.1 (run_counted x.from.world x.outcome.moves fits (subst (λ (y : State). IsCounted y.world) (sym are.0) known)) in
      let bytes = counted x.outcome.state here in
      elim (cases_lt sent_limit bytes.0) [
        | inl more ↦ inr (record { before = done; last = x; later = later; whole = is; go_on = all; is_so = record { fits = fits; bytes = bytes.0; sent = bytes.1; beyond = more } })
        | inr within ↦
            go_on_from later (done ++ x ∷ []) x.outcome.state are.2 here (all_append GoesOn done (x ∷ []) all (record { fits = fits; bytes = bytes.0; sent = bytes.1; within = within }, tt))
            (is ∙ sym (append_assoc done (x ∷ []) later))
      ]

one_more : (before : List Turn) (t : Turn) (ts : List Turn) → length before + length (t ∷ ts) ≤ 100000 → length (before ++ t ∷ []) + length ts ≤ 100000
one_more before t ts few = let parts = length-append before (t ∷ []) in omega arith

-- the turns that are left are played too, or a replay is cut off in one of them
module _ (room : StepsHaveRoom) (turns : List Turn) where
  turns_end : (rest before : List Turn) → ArePlayed before → IsCounted (run start before).world → AreAllowed before → AreAllowed rest → length before + length rest ≤ 100000 → AreLawful (run start before) rest → turns ≡ before ++ rest → ArePlayed turns ⊎ CutOff turns
  turns_end [] before played known allowed left few lawful is = inl (subst ArePlayed (sym (is ∙ append-nil before)) played)
  turns_end (t ∷ ts) before played known allowed left few lawful is =
      let s = run start before in
      let steps = steps_of s t.numbered.event t.choice in
      elim (go_on_from steps (room before t played allowed (omega arith) left.0 lawful.0) steps [] s (are_steps s t.numbered.event t.choice) known tt refl) [
        | inl go_on ↦
            let here : run start (before ++ t ∷ []) ≡ after s t = run_push start before t in
            turns_end ts (before ++ t ∷ []) (played_push before t played lawful.0 go_on)
            (subst (λ (y : State). IsCounted y.world) (sym here) (event_counted s t.numbered.event t.choice go_on known))
            (all_append (λ (x : Turn). IsAllowed x.numbered.event) before (t ∷ []) allowed (left.0, tt)) left.1 (one_more before t ts few)
            (subst (λ (y : State). AreLawful y ts) (sym here) lawful.1) (is ∙ sym (append_assoc before (t ∷ []) ts))
        | inr stops ↦ inr (record { before = before; next = t; later = ts; whole = is; played = played; stops = stops })
      ]

  pub played_or_cut_off : AreScheduled (events_of turns) → AreLawful start turns → ArePlayed turns ⊎ CutOff turns
  played_or_cut_off s lawful =
      let few : length turns ≤ 100000 = subst (λ n. n ≤ 100000) (count_of turns) s.few in
      turns_end turns [] played_none start_counted tt (all_allowed turns s.allowed) (omega arith) lawful refl

-- the turns at a place
go_on_at : (s : State) (before : List Turn) (t : Turn) (later : List Turn) → AllGoOn s (before ++ t ∷ later) → AllByRecursion GoesOn (steps_of (run s before) t.numbered.event t.choice)
go_on_at s [] t later h = h.0
go_on_at s (x ∷ xs) t later h = go_on_at (after s x) xs t later h.1

lawful_at : (s : State) (before : List Turn) (t : Turn) (later : List Turn) → AreLawful s (before ++ t ∷ later) → IsLawful (run s before) t
lawful_at s [] t later h = h.0
lawful_at s (x ∷ xs) t later h = lawful_at (after s x) xs t later h.1

events_at : (before : List Turn) (t : Turn) (later : List Turn) → events_of (before ++ t ∷ later) ≡ events_of before ++ t.numbered ∷ events_of later
events_at [] t later = refl
events_at (x ∷ xs) t later = ap (λ es. x.numbered ∷ es) (events_at xs t later)

-- no step that goes on has sent too much
within_or_beyond : (step : Step) → GoesOn step → SendsTooMuch step → ⊥
within_or_beyond step h k =
    let same : h.bytes ≡ k.bytes = let both : Some h.bytes ≡ Some k.bytes = sym h.sent ∙ k.sent in cc in
    omega (arith, same, h.within, k.beyond)

pub never_played_and_cut_off : (turns : List Turn) → ArePlayed turns → CutOff turns → ⊥
never_played_and_cut_off turns played cut =
    let go_on : AllGoOn start (cut.before ++ cut.next ∷ cut.later) = subst (AllGoOn start) cut.whole played.go_on in
    let steps = go_on_at start cut.before cut.next cut.later go_on in
    within_or_beyond cut.stops.last (all_parts GoesOn cut.stops.before (cut.stops.last ∷ cut.stops.later) (subst (AllByRecursion GoesOn) cut.stops.whole steps)).1.0 cut.stops.is_so

-- of played turns the whole transcript is stated
pub played_are_stated : (turns : List Turn) → ArePlayed turns → IsReplay (events_of turns) Done (transcript turns)
played_are_stated turns played = whole turns refl played refl refl

-- where a replay is cut off, the limit is stated
pub cut_off_is_stated : (turns : List Turn) → AreLawful start turns → (cut : CutOff turns) → IsReplay (events_of turns) Limit (front cut.before ++ sent_line)
cut_off_is_stated turns lawful cut =
    sent cut.before
    (record {
      played = cut.played;
      next = cut.next;
      later = events_of cut.later;
      whole = ap events_of cut.whole ∙ events_at cut.before cut.next cut.later;
      lawful = lawful_at start cut.before cut.next cut.later (subst (AreLawful start) cut.whole lawful);
      stops = cut.stops;
    })
    refl refl
