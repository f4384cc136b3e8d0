-- What it says that all is well with a transcript.
use Rattle.std.proofs.Common.{ℕ, List, refl}
use Rattle.std.specs.Prelude.{⊤}
use Rattle.store_model.specs.declared.event.Numbered.{Numbered}
use Rattle.store_model.specs.Events.{Turn}
use Rattle.text_model.specs.Played.{AreScheduled}
use Rattle.audit_model.specs.declared.said.Said.{Said}
use Rattle.audit_model.specs.Audit.{Finding, ok, Finds, not_read, not_fresh, not_lawful, other_text, other_before, past_limit, all_well}
use Rattle.audit_runs.specs.Given.{AreRightlyGiven}
use Rattle.audit_runs.specs.Kept.{IsKeptBeside}
use Rattle.audit_runs.specs.Audited.{IsAudited}

-- what is promised of replays holds beside turns that are given lawful layouts
abbrev KeepBeside : Type 0
KeepBeside = (events : List Numbered) (saids : List Said) (turns : List Turn) → AreRightlyGiven events saids turns → IsKeptBeside turns

module _ (keep : KeepBeside) (events : List Numbered) (scheduled : AreScheduled events) (text : List ℕ) where
  -- what is said by the finding that all is well
  abbrev OfFinding : Finding → Type 0
  OfFinding (ok pairs) = IsAudited events text pairs
  OfFinding other = ⊤

  pub of_finding : {f : Finding} → Finds events text f → OfFinding f
  of_finding (not_read k is) = tt
  of_finding (not_fresh saids h q readable is) = tt
  of_finding (not_lawful saids h k readable fresh is) = tt
  of_finding (other_text saids h turns k readable fresh lawful printed differ) = tt
  of_finding (other_before saids h before k readable fresh lawful first differ within) = tt
  of_finding (past_limit saids h before more readable fresh lawful cut same) = tt
  of_finding (all_well saids h turns readable fresh lawful printed same) = record {
    saids = saids;
    history = h;
    turns = turns;
    readable = readable;
    fresh = fresh;
    pairs_are = refl;
    printed = printed;
    same_lines = same;
    kept = keep events saids turns (record { scheduled = scheduled; lawful = lawful; printed = printed });
  }
