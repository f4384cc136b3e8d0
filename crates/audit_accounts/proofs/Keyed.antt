-- Turns that differ in cuts from a replay of allowed events tell keys of the grammar alone.
use Rattle.std.proofs.Common.{◌≡◌, List, [], ◌∷◌, refl, sym, subst}
use Rattle.std.specs.Prelude.{⊤}
use Rattle.std.specs.List.{AllByRecursion}
use Rattle.cluster_machine.specs.declared.step.Step.TheVariants as step
use Rattle.cluster_machine.specs.Choices.{Decision}
use Rattle.flow_model.specs.declared.order.Order.TheVariants as order
use Rattle.store_model.specs.declared.event.Event.{Event}
use Rattle.store_model.specs.declared.event.Numbered.{Numbered}
use Rattle.store_model.specs.Run.{State, start}
use Rattle.store_model.specs.Acts.{IsLawfulAct}
use Rattle.cluster_machine.specs.Step.{given, none_given}
use Rattle.store_model.specs.Events.{Turn, act_of, outcome, outcome_of, after}
use Rattle.store_model.specs.Turns.{AreLawful}
use Rattle.text_model.specs.Grammar.{is_key, IsAllowed}
use Rattle.text_model.specs.Played.{AllGoOn, ArePlayed, AreAllowed, steps_of, GoesOn}
use Rattle.store_laws.proofs.Deeds.{Deed}
use Rattle.store_laws.proofs.Every.{EveryWorld}
use Rattle.store_laws.proofs.Sound.{IsSound}
use Rattle.store_laws.proofs.Starting.{start_sound}
use Rattle.store_laws.proofs.Acts.{act_keeps}
use Rattle.store_laws.proofs.Hashing.{FitIn, fit_in}
use Rattle.audit_runs.specs.Alike.{DifferInCut, DifferInCuts}
use Rattle.audit_accounts.specs.Saying.{IsKeyedLine, TellKeyed}
use Rattle.audit_runs.proofs.Cuts.{turn_alike}
use Rattle.limit_laws.proofs.Fit.{event_fits}
use Rattle.audit_runs.proofs.Telling.{GivenTells, HasPlain}
use Rattle.audit_runs.proofs.Keys.{AreOfKeys}
use Rattle.audit_runs.proofs.Events.{event_keyed, event_tells}

-- ---- lines

keyed_plain : HasPlain IsKeyedLine
keyed_plain = record { got = λ m. tt; sent = λ m a b k. tt; synced = λ n v. tt; dropped = λ n ts id. tt; ended = λ q word. tt; done = λ q word version size md5. tt }

given_keyed : (choice : Decision) → GivenTells IsKeyedLine choice
given_keyed (given l shown) = tt
given_keyed (none_given r) = tt

-- ---- turns

-- a state of such a run: what its invariant says, and that each key in its records is one of the grammar
record IsWhole (H : Deed → Type 0) (s : State) : Type 0 where
  pub sound : IsSound H s
  pub keyed : AreOfKeys is_key s.history

-- nothing is hashed for walks that isn't among these strings: no law on digests is asked for
abbrev pub Any : Deed → Type 0
Any x = ⊤

module _ (every : EveryWorld Any) where
  -- a turn and one beside it
  record IsStep (s : State) (t : Turn) : Type 0 where
    pub lines : AllByRecursion IsKeyedLine (outcome_of s t).lines
    pub whole : IsWhole Any (after s t)

  turn_whole : (s : State) (t : Turn) (d : Decision) → IsAllowed t.numbered.event → DifferInCut t.choice d → IsLawfulAct s (act_of t.numbered.event d) → AllByRecursion GoesOn (steps_of s t.numbered.event d) →
      IsWhole Any s → IsStep s t
  turn_whole s t d allowed differ lawful go h =
      let e : Event = t.numbered.event in
      let u : Turn = record { numbered = t.numbered; choice = d } in
      let fits : FitIn Any s.world (outcome s e d).moves = fit_in Any s.world (outcome s e d).moves (event_fits s e d go) (λ x is. tt) in
      record {
        lines = event_tells is_key IsKeyedLine keyed_plain (λ q keys all. all) every s e t.choice d (λ n is. given_keyed t.choice) fits h.sound h.keyed;
        whole = record {
          sound = subst (IsSound Any) (sym (turn_alike s t u refl differ).0) (act_keeps every s (act_of e d) lawful fits h.sound);
          keyed = event_keyed is_key (λ key allowed. allowed) s e t.choice allowed h.keyed;
        };
      }

  turns_whole : (s : State) (ts us : List Turn) → AreAllowed ts → DifferInCuts ts us → AreLawful s us → AllGoOn s us → IsWhole Any s → TellKeyed s ts
  turns_whole s [] us allowed differ lawful go h = tt
  turns_whole s (t ∷ ts) [] allowed differ lawful go h = absurd differ
  turns_whole s (t ∷ ts) (u ∷ us) allowed differ lawful go h =
      let same : t.numbered ≡ u.numbered = differ.0 in
      let alike : after s t ≡ after s u = (turn_alike s t u same differ.1).0 in
      let here = turn_whole s t u.choice allowed.0 differ.1 (subst (λ (x : Numbered). IsLawfulAct s (act_of x.event u.choice)) (sym same) lawful.0)
      (subst (λ (x : Numbered). AllByRecursion GoesOn (steps_of s x.event u.choice)) (sym same) go.0) h in
      (here.lines, turns_whole (after s t) ts us allowed.1 differ.2 (subst (λ (x : State). AreLawful x us) (sym alike) lawful.1) (subst (λ (x : State). AllGoOn x us) (sym alike) go.1) here.whole)

  start_whole : IsWhole Any start
  start_whole = record { sound = start_sound; keyed = tt }

  pub tell_keys : (turns others : List Turn) → AreAllowed turns → DifferInCuts turns others → ArePlayed others → TellKeyed start turns
  tell_keys turns others allowed differ played = turns_whole start turns others allowed differ played.lawful played.go_on start_whole
