-- A replay of a schedule's events has a stated end.
use Rattle.std.proofs.Common.{◌≡◌, ℕ, ◌⊎◌, inl, inr, List, [], ◌∷◌, ◌++◌, refl, sym, ap, subst}
use Rattle.std.specs.List.{AllByRecursion}
use Rattle.lab_outside.specs.declared.exit.Status.{Status}
use Rattle.lab_outside.specs.declared.exit.Status.TheVariants.{Done, Limit}
use Rattle.k2v_model.specs.Run.{State, start}
use Rattle.k2v_text.specs.declared.event.NumberedItemEvent.{NumberedItemEvent}
use Rattle.k2v_text.specs.Events.{Turn, after}
use Rattle.k2v_text.specs.Grammar.{IsAllowed}
use Rattle.k2v_text.specs.Played.{events_of, AreLawful, ArePlayed}
use Rattle.k2v_text.specs.Transcript.{transcript}
use Rattle.k2v_limits.specs.Limits.{AreScheduled}
use Rattle.k2v_replay.specs.Replay.{sent_line, front, CutOff, IsReplay}
use Rattle.k2v_replay.proofs.Lawful.{IsFine, start_fine, after_fine, event_lawful}

abbrev pub AreAllowedEvents : List NumberedItemEvent → Type 0
AreAllowedEvents events = AllByRecursion (λ (e : NumberedItemEvent). IsAllowed e.event) events

-- lawful turns with these events
pub record Given (s : State) (events : List NumberedItemEvent) : Type 0 where
  pub turns : List Turn
  pub events_are : events_of turns ≡ events
  pub lawful : AreLawful s turns

pub given : (events : List NumberedItemEvent) (s : State) → IsFine s → AreAllowedEvents events → Given s events
given [] s fine meant = record { turns = []; events_are = refl; lawful = tt }
given (e ∷ es) s fine meant =
    let choice = event_lawful s e.event meant.0 fine in
    let t : Turn = record { numbered = e; choice = choice.0 } in
    let rest = given es (after s t) (after_fine s t choice.1 fine) meant.1 in
    record { turns = t ∷ rest.turns; events_are = ap (λ xs. e ∷ xs) rest.events_are; lawful = (choice.1, rest.lawful) }

-- where lawful turns are played or cut off, and either has a stated end, so has each replay
module _ (one : (turns : List Turn) → AreScheduled (events_of turns) → AreLawful start turns → ArePlayed turns ⊎ CutOff turns)
    (done : (turns : List Turn) → ArePlayed turns → IsReplay (events_of turns) Done (transcript turns))
    (limit : (turns : List Turn) → AreLawful start turns → (cut : CutOff turns) → IsReplay (events_of turns) Limit (front cut.before ++ sent_line)) where
  ends : (turns : List Turn) → AreScheduled (events_of turns) → AreLawful start turns → (status : Status) × ((text : List ℕ) × IsReplay (events_of turns) status text)
  ends turns s lawful = elim (one turns s lawful) [
    | inl played ↦ (Done, (transcript turns, done turns played))
    | inr cut ↦ (Limit, (front cut.before ++ sent_line, limit turns lawful cut))
  ]

  pub replay_ends : (events : List NumberedItemEvent) → AreScheduled events → (status : Status) × ((text : List ℕ) × IsReplay events status text)
  replay_ends events s =
      let g = given events start start_fine s.allowed in
      subst (λ (es : List NumberedItemEvent). (status : Status) × ((text : List ℕ) × IsReplay es status text)) g.events_are (ends g.turns (subst AreScheduled (sym g.events_are) s) g.lawful)
