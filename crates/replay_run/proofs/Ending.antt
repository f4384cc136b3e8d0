-- A replay of a schedule's events has a stated end.
use Rattle.std.proofs.Common.{◌≡◌, ℕ, ◌⊎◌, inl, inr, List, [], ◌∷◌, ◌++◌, refl, sym, ap, subst}
use Rattle.std.specs.List.{All}
use Rattle.std.proofs.lemmas.List.Elements.{All-head, All-tail}
use Rattle.lab_outside.specs.declared.exit.Status.{Status}
use Rattle.lab_outside.specs.declared.exit.Status.TheVariants.{Done, Limit}
use Rattle.store_model.specs.declared.event.Numbered.{Numbered}
use Rattle.store_model.specs.Run.{State, start}
use Rattle.store_model.specs.Events.{Turn, events_of, after}
use Rattle.store_model.specs.Turns.{AreLawful}
use Rattle.s3_world.specs.Stands.{IsMeantEvent}
use Rattle.replay_run.specs.declared.account.Account.{Account}
use Rattle.replay_run.specs.Account.{front}
use Rattle.text_model.specs.Played.{ArePlayed, AreScheduled}
use Rattle.replay_run.specs.Replay.{sent_line, CutOff, IsReplay}
use Rattle.replay_run.specs.Turning.{turn}
use Rattle.replay_run.proofs.Lawful.{IsFine, start_fine, after_fine, event_lawful}

abbrev pub AreMeant : List Numbered → Type 0
AreMeant events = All (λ (e : Numbered). IsMeantEvent e.event) events

-- lawful turns with these events
pub record Given (s : State) (events : List Numbered) : Type 0 where
  pub turns : List Turn
  pub events_are : events_of turns ≡ events
  pub lawful : AreLawful s turns

pub given : (events : List Numbered) (s : State) → IsFine s → AreMeant events → Given s events
given [] s fine meant = record { turns = []; events_are = refl; lawful = tt }
given (e ∷ es) s fine meant =
    let here : IsMeantEvent e.event = All-head (λ (x : Numbered). IsMeantEvent x.event) e es meant in
    let choice = event_lawful s e.event here fine in
    let t = turn e choice.0 in
    let rest = given es (after s t) (after_fine s t choice.1 fine) (All-tail (λ (x : Numbered). IsMeantEvent x.event) e es meant) in
    record { turns = t ∷ rest.turns; events_are = ap (λ xs. e ∷ xs) rest.events_are; lawful = (choice.1, rest.lawful) }

-- where lawful turns are played or cut off, and either has a stated end, so has each replay
module _ (one : (turns : List Turn) → AreScheduled (events_of turns) → AreLawful start turns → ArePlayed turns ⊎ CutOff turns)
    (done : (account : Account) (turns : List Turn) → ArePlayed turns → (text : List ℕ) × IsReplay account (events_of turns) Done text)
    (limit : (account : Account) (turns : List Turn) → AreLawful start turns → (cut : CutOff turns) → IsReplay account (events_of turns) Limit (front account cut.before ++ sent_line)) where
  ends : (account : Account) (turns : List Turn) → AreScheduled (events_of turns) → AreLawful start turns → (status : Status) × ((text : List ℕ) × IsReplay account (events_of turns) status text)
  ends account turns s lawful = elim (one turns s lawful) [
    | inl played ↦ (Done, done account turns played)
    | inr cut ↦ (Limit, (front account cut.before ++ sent_line, limit account turns lawful cut))
  ]

  pub replay_ends : (account : Account) (events : List Numbered) → AreScheduled events → AreMeant events → (status : Status) × ((text : List ℕ) × IsReplay account events status text)
  replay_ends account events s meant =
      let g = given events start start_fine meant in
      subst (λ (es : List Numbered). (status : Status) × ((text : List ℕ) × IsReplay account es status text)) g.events_are (ends account g.turns (subst AreScheduled (sym g.events_are) s) g.lawful)
