-- What is promised of replays, beside a run with other cuts.
use Rattle.std.proofs.Common.{◌≡◌, List, [], ◌∷◌, sym, subst}
use Rattle.history_model.specs.Fresh.{Fresh}
use Rattle.store_model.specs.declared.event.Numbered.{Numbered}
use Rattle.store_model.specs.Run.{State, start}
use Rattle.store_model.specs.Events.{Turn, acts_of, run}
use Rattle.store_model.specs.Fresh.{NoClash}
use Rattle.store_model.specs.Moments.{between}
use Rattle.store_anchors.specs.Promises.{EveryRunKeepsPromises}
use Rattle.text_model.specs.Grammar.{IsAllowed}
use Rattle.text_model.specs.Played.{ArePlayed, AreAllowed}
use Rattle.prompt_laws.proofs.Safely.{TimelyTurnsArePrompt, collects_safely}
use Rattle.audit_runs.specs.Alike.{DifferInCuts}
use Rattle.audit_runs.specs.Kept.{IsKeptBeside}
use Rattle.audit_runs.proofs.Cuts.{same_end}
use Rattle.limit_laws.proofs.Fit.{turns_fit}
use Rattle.std.proofs.lemmas.List.{append-nil}

-- the events of others are allowed too
allowed_beside : (turns others : List Turn) → DifferInCuts turns others → AreAllowed turns → AreAllowed others
allowed_beside [] [] differ h = tt
allowed_beside [] (u ∷ us) differ h = absurd differ
allowed_beside (t ∷ ts) [] differ h = absurd differ
allowed_beside (t ∷ ts) (u ∷ us) differ h = (subst (λ (x : Numbered). IsAllowed x.event) differ.0 h.0, allowed_beside ts us differ.2 h.1)

pub kept_beside : EveryRunKeepsPromises → TimelyTurnsArePrompt → (turns others : List Turn) → AreAllowed turns → DifferInCuts turns others → ArePlayed others → IsKeptBeside turns
kept_beside every timely turns others allowed differ played =
    let promises = every (acts_of others) played.lawful (turns_fit start others played.go_on) in
    let last = promises (acts_of others) (between (acts_of others) [] (sym (append-nil (acts_of others)))) in
    let prompt = timely others (allowed_beside turns others differ allowed) played.lawful in
    let same : run start turns ≡ run start others = same_end start turns others differ in
    record {
      others = others;
      differ = differ;
      played = played;
      promises = promises;
      prompt = prompt;
      recorded = λ clear in_time. subst (λ (s : State). NoClash s.buckets → Fresh s.history) (sym same) (last.recorded clear (collects_safely (acts_of others) prompt in_time));
    }
