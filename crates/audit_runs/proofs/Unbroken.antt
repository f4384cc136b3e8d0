-- Turns that differ in cuts from a replay of allowed events tell no key and no zone's name with a line feed.
use Rattle.std.proofs.Common.{◌≡◌, ℕ, suc, true, false, List, [], ◌∷◌, cond, refl, sym, ◌∙◌, subst}
use Rattle.std.specs.Prelude.{⊤}
use Rattle.std.specs.List.{AllByRecursion}
use Rattle.layout_roles.specs.declared.role.Role.{Role}
use Rattle.layout_roles.specs.declared.redundancy.Redundancy.{Redundancy as Wanted}
use Rattle.cluster_machine.specs.declared.step.Step.TheVariants as step
use Rattle.cluster_machine.specs.Choices.{Decision, IsComputed, IsNone}
use Rattle.cluster_machine.specs.Step.{given, none_given}
use Rattle.cluster_machine.specs.Worlds.{newest_at, comes_to_layout}
use Rattle.flow_model.specs.declared.order.Order.TheVariants as order
use Rattle.store_model.specs.declared.event.Event.{Event}
use Rattle.store_model.specs.declared.event.Event.TheVariants.{Apply}
use Rattle.store_model.specs.declared.event.Numbered.{Numbered}
use Rattle.store_model.specs.Run.{State, start}
use Rattle.store_model.specs.Acts.{IsLawfulAct}
use Rattle.store_model.specs.Events.{Turn, act_of, outcome, outcome_of, after}
use Rattle.store_model.specs.Turns.{AreLawful}
use Rattle.text_model.specs.Grammar.{IsAllowed}
use Rattle.text_model.specs.Played.{AllGoOn, ArePlayed, AreAllowed, steps_of, GoesOn}
use Rattle.store_laws.proofs.Deeds.{Deed}
use Rattle.store_laws.proofs.Every.{EveryWorld}
use Rattle.store_laws.proofs.Sound.{IsSound}
use Rattle.store_laws.proofs.Starting.{start_sound}
use Rattle.store_laws.proofs.Acts.{act_keeps}
use Rattle.store_laws.proofs.Hashing.{FitIn, fit_in}
use Rattle.audit_model.specs.Printed.{Staged}
use Rattle.audit_model.specs.Audit.{staged_in}
use Rattle.audit_runs.specs.Alike.{DifferInCut, DifferInCuts}
use Rattle.audit_runs.specs.Whole.{TellUnbroken, is_unbroken, IsUnbroken}
use Rattle.audit_runs.proofs.Cuts.{turn_alike}
use Rattle.limit_laws.proofs.Fit.{event_fits}
use Rattle.audit_runs.proofs.Staging.{EventsStage}
use Rattle.audit_runs.proofs.Telling.{GivenTells, HasPlain}
use Rattle.audit_runs.proofs.Zones.{AreWholeRoles, key_unbroken, names_whole, staged_stay_whole}
use Rattle.audit_runs.proofs.Keys.{AreOfKeys}
use Rattle.audit_runs.proofs.Events.{event_keyed, event_tells}

-- ---- lines

unbroken_plain : HasPlain IsUnbroken
unbroken_plain = record { got = λ m. tt; sent = λ m a b k. tt; synced = λ n v. tt; dropped = λ n ts id. tt; ended = λ q word. tt; done = λ q word version size md5. tt }

-- a layout that is given shows the staged roles
best_whole : (roles : List Role) → AreWholeRoles roles → (wanted : Wanted) (version : ℕ) (c d : Decision) → DifferInCut c d → IsComputed roles wanted version d → GivenTells IsUnbroken c
best_whole roles whole wanted version (given l shown) (given m other) differ best =
    names_whole shown.roles.list (subst AreWholeRoles (sym (differ.1.roles ∙ best.shown_roles)) whole)
best_whole roles whole wanted version (given l shown) (none_given refusal) differ best = absurd differ
best_whole roles whole wanted version (none_given refusal) d differ best = tt

none_whole : (c d : Decision) → DifferInCut c d → IsNone d → GivenTells IsUnbroken c
none_whole (given l shown) (given m other) differ none = absurd none
none_whole (given l shown) (none_given refusal) differ none = absurd differ
none_whole (none_given refusal) d differ none = tt

given_whole : (s : State) (n : ℕ) (c d : Decision) → AreWholeRoles s.world.roles → DifferInCut c d → IsLawfulAct s (act_of (Apply n) d) → GivenTells IsUnbroken c
given_whole s n c d whole differ lawful =
    let w = s.world in
    elim (comes_to_layout w n) as (λ b. cond b (IsComputed w.roles w.redundancy (suc (newest_at w n)) d) (IsNone d) → GivenTells IsUnbroken c) [
      | true ↦ best_whole w.roles whole w.redundancy (suc (newest_at w n)) c d differ
      | false ↦ none_whole c d differ
    ] lawful.2

-- ---- turns

-- a state of such a run: what its invariant says, and that no key in its records and no staged zone holds a line feed
record IsWhole (H : Deed → Type 0) (s : State) : Type 0 where
  pub sound : IsSound H s
  pub keyed : AreOfKeys is_unbroken s.history
  pub zoned : AreWholeRoles s.world.roles

-- nothing is hashed for walks that isn't among these strings: no law on digests is asked for
abbrev pub Any : Deed → Type 0
Any x = ⊤

module _ (stage : EventsStage) (every : EveryWorld Any) where
  -- a turn and one beside it
  record IsStep (s : State) (t : Turn) : Type 0 where
    pub lines : AllByRecursion IsUnbroken (outcome_of s t).lines
    pub whole : IsWhole Any (after s t)

  turn_whole : (s : State) (t : Turn) (d : Decision) → IsAllowed t.numbered.event → DifferInCut t.choice d → IsLawfulAct s (act_of t.numbered.event d) → AllByRecursion GoesOn (steps_of s t.numbered.event d) →
      IsWhole Any s → IsStep s t
  turn_whole s t d allowed differ lawful go h =
      let e : Event = t.numbered.event in
      let u : Turn = record { numbered = t.numbered; choice = d } in
      let fits : FitIn Any s.world (outcome s e d).moves = fit_in Any s.world (outcome s e d).moves (event_fits s e d go) (λ x is. tt) in
      record {
        lines = event_tells is_unbroken IsUnbroken unbroken_plain (λ q keys all. all) every s e t.choice d
            (λ n is. given_whole s n t.choice d h.zoned differ (subst (λ (x : Event). IsLawfulAct s (act_of x d)) is lawful)) fits h.sound h.keyed;
        whole = record {
          sound = subst (IsSound Any) (sym (turn_alike s t u refl differ).0) (act_keeps every s (act_of e d) lawful fits h.sound);
          keyed = event_keyed is_unbroken key_unbroken s e t.choice allowed h.keyed;
          zoned = subst (λ (x : Staged). AreWholeRoles x.roles) (sym (stage s t)) (staged_stay_whole (staged_in s) e (outcome_of s t).refused allowed h.zoned);
        };
      }

  turns_whole : (s : State) (ts us : List Turn) → AreAllowed ts → DifferInCuts ts us → AreLawful s us → AllGoOn s us → IsWhole Any s → TellUnbroken s ts
  turns_whole s [] us allowed differ lawful go h = tt
  turns_whole s (t ∷ ts) [] allowed differ lawful go h = absurd differ
  turns_whole s (t ∷ ts) (u ∷ us) allowed differ lawful go h =
      let same : t.numbered ≡ u.numbered = differ.0 in
      let alike : after s t ≡ after s u = (turn_alike s t u same differ.1).0 in
      let here = turn_whole s t u.choice allowed.0 differ.1 (subst (λ (x : Numbered). IsLawfulAct s (act_of x.event u.choice)) (sym same) lawful.0)
      (subst (λ (x : Numbered). AllByRecursion GoesOn (steps_of s x.event u.choice)) (sym same) go.0) h in
      (here.lines, turns_whole (after s t) ts us allowed.1 differ.2 (subst (λ (x : State). AreLawful x us) (sym alike) lawful.1) (subst (λ (x : State). AllGoOn x us) (sym alike) go.1) here.whole)

  start_whole : IsWhole Any start
  start_whole = record { sound = start_sound; keyed = tt; zoned = tt }

  pub tell_unbroken : (turns others : List Turn) → AreAllowed turns → DifferInCuts turns others → ArePlayed others → TellUnbroken start turns
  tell_unbroken turns others allowed differ played = turns_whole start turns others allowed differ played.lawful played.go_on start_whole
