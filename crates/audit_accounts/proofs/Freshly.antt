-- Each account that is read of a run's own text is fresh, where the records of the run are.
use Rattle.std.proofs.Common.{◌≡◌, List, [], sym, subst}
use Rattle.std.proofs.lemmas.List.{append-nil}
use Rattle.std.specs.Prelude.{ℕ, map}
use Rattle.history_model.specs.declared.record.Record.{Record}
use Rattle.history_model.specs.Fresh.{Fresh}
use Rattle.store_model.specs.declared.event.Numbered.{Numbered}
use Rattle.store_model.specs.Run.{State, start}
use Rattle.store_model.specs.Events.{Turn, acts_of, run}
use Rattle.store_model.specs.Fresh.{NoClash}
use Rattle.store_model.specs.Moments.{between}
use Rattle.store_anchors.specs.Promises.{EveryRunKeepsPromises, WalksAreClear}
use Rattle.text_model.specs.Played.{AreAllowed}
use Rattle.prompt_laws.specs.Times.{CollectsInTime}
use Rattle.prompt_laws.proofs.Safely.{TimelyTurnsArePrompt, collects_safely}
use Rattle.audit_laws.specs.Account.{blunt}
use Rattle.audit_runs.proofs.Cuts.{same_end}
use Rattle.limit_laws.proofs.Fit.{turns_fit}
use Rattle.audit_accounts.specs.Runs.{AreOfSchedule, history_told}

-- a history that is fresh is so without identifiers of superseded ends
abbrev pub StaysFresh : Type 0
StaysFresh = (history : List Record) → Fresh history → Fresh (map blunt history)

pub told_fresh : EveryRunKeepsPromises → TimelyTurnsArePrompt → StaysFresh → (input : List ℕ) (events : List Numbered) (turns others : List Turn) → AreOfSchedule input events turns others → AreAllowed others →
    WalksAreClear (acts_of others) → CollectsInTime (acts_of others) → NoClash (run start turns).buckets → Fresh (history_told turns)
told_fresh every timely stays input events turns others of allowed clear in_time apart =
    let promises = every (acts_of others) of.played.lawful (turns_fit start others of.played.go_on) in
    let last = promises (acts_of others) (between (acts_of others) [] (sym (append-nil (acts_of others)))) in
    let safely = collects_safely (acts_of others) (timely others allowed of.played.lawful) in_time in
    let same : run start turns ≡ run start others = same_end start turns others of.differ in
    stays (run start turns).history (subst (λ (s : State). NoClash s.buckets → Fresh s.history) (sym same) (last.recorded clear safely) apart)
