-- What follows of what a command does.
use Rattle.std.proofs.Common.{◌≡◌, ◌⊎◌, ℕ, List, inl, inr, refl, ◌∙◌, subst}
use Rattle.lab_outside.specs.declared.ports.Source as source
use Rattle.lab_outside.specs.declared.ports.Sink as sink
use Rattle.lab_outside.specs.declared.ports.Link as ports
use Rattle.lab_outside.specs.declared.ports.Clock as times
use Rattle.lab_outside.specs.declared.exit.Status.{Status}
use Rattle.lab_outside.specs.declared.exit.Status.TheVariants.{Usage, WriteFault}
use Rattle.lab_main.specs.Ends.{Ends, said, cut_off, usage_line}
use Rattle.lab_main.specs.Edges.{IsUnlinked}
use Rattle.lab_main.proofs.Edges.{said_writes}
use Rattle.workload_run.specs.Answer.{IsOfWorkload}
use Rattle.garage_lab.specs.declared.command.Command.{Command}
use Rattle.garage_lab.specs.declared.command.Command.TheVariants.{Layout, Moves, Replay, Check, Audit, Items, Workload, Serve}
use Rattle.garage_lab.specs.Command.{AsksFor, IsInRange}
use Rattle.garage_lab.specs.Run.{IsUsage, Does, TellsUsage}
use Rattle.garage_lab.proofs.Words.{one_command}

module _ {I O L C : Type 0} (i : source.Ghosts I) (o : sink.Ghosts O) (l : ports.Ghosts L) (c : times.Ghosts C) (result : Status) (input input' : I) (output output' : O) (link link' : L) (clock clock' : C) where
  -- words ask for one command
  pub does_asked : (words : List (List ℕ)) (found : Command) → AsksFor words found → Does i o l c found result input input' output output' link link' clock clock' →
      (command : Command) → AsksFor words command → Does i o l c command result input input' output output' link link' clock clock'
  does_asked words found asks does command also = subst (λ (x : Command). Does i o l c x result input input' output output' link link' clock clock') (one_command words found command asks also) does

  -- the usage line
  pub tells_usage : Ends Usage usage_line result (o.written output) (o.written output') (o.faults output) (o.faults output') → (result ≡ WriteFault) ⊎ (o.faults output' ≡ o.faults output) → input' ≡ input → link' ≡ link → clock' ≡ clock →
      TellsUsage o result input input' output output' link link' clock clock'
  tells_usage ends told unread unlinked untimed = record {
    writes = said_writes o IsUsage Usage usage_line result output output' (refl, refl) (λ e. let no : Usage ≡ WriteFault = e in cc) ends told;
    statuses = which ends;
    unread = unread;
    unlinked = (unlinked, untimed);
  }
    where
      which : Ends Usage usage_line result (o.written output) (o.written output') (o.faults output) (o.faults output') → (result ≡ Usage) ⊎ (result ≡ WriteFault)
      which (said e wrote) = inl e
      which (cut_off e rose wrote) = inr e

-- what words ask for is in its range
pub asked_in_range : (words : List (List ℕ)) (command : Command) → AsksFor words command → IsInRange command
asked_in_range words Layout asks = tt
asked_in_range words Moves asks = tt
asked_in_range words Replay asks = tt
asked_in_range words Check asks = tt
asked_in_range words Audit asks = tt
asked_in_range words Items asks = tt
asked_in_range words (Workload w) asks = asks.few
asked_in_range words (Serve s) asks = tt

-- a command's status is no usage
pub unlinked_no_usage : (result : Status) → IsUnlinked result → result ≡ Usage → ⊥
unlinked_no_usage result h e = subst IsUnlinked e h

pub workload_no_usage : (result : Status) → IsOfWorkload result → result ≡ Usage → ⊥
workload_no_usage result h e = subst IsOfWorkload e h
