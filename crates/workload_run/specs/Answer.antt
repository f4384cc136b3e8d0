-- What `workload` answers, and all that is said of it.
use Rattle.std.specs.Prelude.{◌≡◌, ◌⊎◌, ℕ, ⊤, List, ◌++◌, length, Option}
use Rattle.lab_outside.specs.declared.ports.Sink as sink
use Rattle.lab_outside.specs.declared.exit.Status.{Status}
use Rattle.lab_outside.specs.declared.exit.Status.TheVariants.{Done, WriteFault, Memory, Limit}
use Rattle.lab_outside.specs.Bytes.{Wrote}
use Rattle.lab_outside.specs.Rose.{Rose}
use Rattle.lab_main.specs.Edges.{Answers, Writes}
use Rattle.store_model.specs.Run.{start}
use Rattle.store_model.specs.Events.{Turn, acts_of, events_of, run}
use Rattle.store_model.specs.Moments.{AtEachMoment}
use Rattle.store_model.specs.Fresh.{NoClash}
use Rattle.store_anchors.specs.Promises.{WalksAreClear, KeepsPromises}
use Rattle.replay_run.specs.declared.account.Account.TheVariants.{Summary}
use Rattle.replay_run.specs.Account.{IsText, summary_lines, closing, fresh_line}
use Rattle.text_model.specs.Played.{ArePlayed}
use Rattle.replay_run.specs.Replay.{IsReplay}
use Rattle.workload.specs.Schedule.{schedule}

-- how a replay of a workload's schedule ends, and what is written of it: a summary, or the line of a limit alone
abbrev pub IsAnswer : ℕ → ℕ → Status → List ℕ → Type 0
IsAnswer count seed status text = IsReplay (Summary count seed) (schedule count seed) status text

-- the statuses of a workload
abbrev pub IsOfWorkload : Status → Type 0
IsOfWorkload Done = ⊤
IsOfWorkload Limit = ⊤
IsOfWorkload WriteFault = ⊤
IsOfWorkload Memory = ⊤
IsOfWorkload _ = ⊥

-- the summary of turns, with the line that says that all finished reads are fresh, and how many pairs there were to look at
abbrev pub fresh_summary : ℕ → ℕ → List Turn → List ℕ
fresh_summary count seed turns =
    let s = run start turns in
    summary_lines count seed s ++ closing (length turns) s (fresh_line s.history)

-- what was written is the summary of the workload's events with some lawful layouts; after each step everything fits, and no more was sent than may be; where no digests of walks clash and the buckets' names have different digests, its check says that all reads are fresh; and at each moment of that run, within drains too, what is promised of the store holds
pub record IsSummarized (count seed : ℕ) (old new : Option (List ℕ)) : Type 0 where
  pub turns : List Turn
  pub schedule_is : events_of turns ≡ schedule count seed
  pub played : ArePlayed turns
  pub text : List ℕ
  pub is_text : IsText (Summary count seed) turns text
  pub is_fresh : WalksAreClear (acts_of turns) → NoClash (run start turns).buckets → text ≡ fresh_summary count seed turns
  pub wrote : Wrote old new text
  pub promises : AtEachMoment KeepsPromises (acts_of turns)

-- what `workload` does, which reads nothing: the output is as is said of every command; after Done what was written is the summary; no other status comes but Limit, WriteFault and Memory; and where the count of faults didn't rise, the status and the whole text that are stated came, or memory was wanting
pub record Summarizes {O : Type 0} (o : sink.Ghosts O) (count seed : ℕ) (result : Status) (output output' : O) : Type 0 where
  pub writes : Writes o (IsAnswer count seed) result output output'
  pub done : result ≡ Done → IsSummarized count seed (o.written output) (o.written output')
  pub statuses : IsOfWorkload result
  pub answered : (Rose (o.faults output) (o.faults output') → ⊥) → Answers (IsAnswer count seed) result (o.written output) (o.written output') ⊎ (result ≡ Memory)
