-- What the program does.
use Rattle.std.specs.Prelude.{◌≡◌, ◌⊎◌, ℕ, List}
use Rattle.lab_outside.specs.declared.ports.Source as source
use Rattle.lab_outside.specs.declared.ports.Sink as sink
use Rattle.lab_outside.specs.declared.ports.Link as ports
use Rattle.lab_outside.specs.declared.ports.Clock as times
use Rattle.lab_outside.specs.declared.exit.Status.{Status}
use Rattle.lab_outside.specs.declared.exit.Status.TheVariants.{Usage, WriteFault}
use Rattle.lab_main.specs.Ends.{usage_line}
use Rattle.lab_main.specs.Edges.{Writes}
use Rattle.serve_model.specs.Talk.{Grammar}
use Rattle.replay_run.specs.declared.account.Account.TheVariants.{Transcript, Checked}
use Rattle.layout_command.specs.declared.command.Goal.TheVariants as goal
use Rattle.layout_command.specs.Command.{LaysOut}
use Rattle.replay_command.specs.Replay.{Replays}
use Rattle.audit_run.specs.Command.{Audits}
use Rattle.k2v_api.specs.Command.{ReplaysItems}
use Rattle.workload_run.specs.Answer.{Summarizes}
use Rattle.serve_run.specs.Command.{Serves}
use Rattle.garage_lab.specs.declared.command.Command.{Command}
use Rattle.garage_lab.specs.declared.command.Command.TheVariants.{Layout, Moves, Replay, Check, Audit, Items, Workload, Serve}

-- the usage goes with its line
abbrev pub IsUsage : Status → List ℕ → Type 0
IsUsage is text = (is ≡ Usage) × (text ≡ usage_line)

-- what each command does with the outside: all but `serve` leave link and clock as they are, and `workload` reads nothing
abbrev pub Does : {I O L C : Type 0} → source.Ghosts I → sink.Ghosts O → ports.Ghosts L → times.Ghosts C → Command → Status → I → I → O → O → L → L → C → C → Type 0
Does i o l c Layout result input input' output output' link link' clock clock' = LaysOut i o goal.Size result input input' output output' × (link' ≡ link) × (clock' ≡ clock)
Does i o l c Moves result input input' output output' link link' clock clock' = LaysOut i o goal.Moves result input input' output output' × (link' ≡ link) × (clock' ≡ clock)
Does i o l c Replay result input input' output output' link link' clock clock' = Replays i o Transcript result input input' output output' × (link' ≡ link) × (clock' ≡ clock)
Does i o l c Check result input input' output output' link link' clock clock' = Replays i o Checked result input input' output output' × (link' ≡ link) × (clock' ≡ clock)
Does i o l c Audit result input input' output output' link link' clock clock' = Audits i o result input input' output output' × (link' ≡ link) × (clock' ≡ clock)
Does i o l c Items result input input' output output' link link' clock clock' = ReplaysItems i o result input input' output output' × (link' ≡ link) × (clock' ≡ clock)
Does i o l c (Workload w) result input input' output output' link link' clock clock' = Summarizes o w.count w.seed result output output' × (input' ≡ input) × (link' ≡ link) × (clock' ≡ clock)
Does i o l c (Serve s) result input input' output output' link link' clock clock' = (g : Grammar) → Serves i o l c g s.port s.count result input input' output output' link link' clock clock'

-- what words bring that ask for nothing: the usage line, unless a write fails; nothing is read, and link and clock are as before
pub record TellsUsage {I O L C : Type 0} (o : sink.Ghosts O) (result : Status) (input input' : I) (output output' : O) (link link' : L) (clock clock' : C) : Type 0 where
  pub writes : Writes o IsUsage result output output'
  pub statuses : (result ≡ Usage) ⊎ (result ≡ WriteFault)
  pub unread : input' ≡ input
  pub unlinked : (link' ≡ link) × (clock' ≡ clock)
