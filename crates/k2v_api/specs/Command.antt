-- What Done says, and all that is said of the command.
use Rattle.std.specs.Prelude.{◌≡◌, ◌⊎◌, ℕ, List, Option, IfSome}
use Rattle.lab_outside.specs.declared.ports.Source as source
use Rattle.lab_outside.specs.declared.ports.Sink as sink
use Rattle.lab_outside.specs.declared.exit.Status.{Status}
use Rattle.lab_outside.specs.declared.exit.Status.TheVariants.{Done, Memory}
use Rattle.lab_outside.specs.Rose.{Rose}
use Rattle.lab_outside.specs.Bytes.{Wrote}
use Rattle.lab_main.specs.Input.{OrTooLong, OfInput}
use Rattle.lab_main.specs.Edges.{IsUnlinked, Edges, IsAnswered}
use Rattle.k2v_model.specs.Acts.{Act}
use Rattle.k2v_text.specs.Events.{Turn}
use Rattle.k2v_text.specs.Played.{acts_of, events_of, ArePlayed}
use Rattle.k2v_text.specs.Schedule.{IsSchedule}
use Rattle.k2v_text.specs.Transcript.{transcript}
use Rattle.k2v_replay.specs.Moments.{IsMoment, KeepsItems}
use Rattle.k2v_api.specs.Answer.{IsAnswer, Agree}

-- what was written for this input is the whole transcript of its events with lawful layouts; after each step everything fits, and no more was sent than may be; and at each moment of that run, within drains too, what is owed holds
pub record IsTranscribed (input : List ℕ) (old new : Option (List ℕ)) : Type 0 where
  pub turns : List Turn
  pub schedule : IsSchedule input (events_of turns)
  pub played : ArePlayed turns
  pub wrote : Wrote old new (transcript turns)
  pub owed : (moment : List Act) → IsMoment (acts_of turns) moment → KeepsItems moment

-- what the command does: input and output are as is said of every command; after Done what was written is the whole transcript of the schedule that the input spells, with what is owed in that run; and where no count of faults rose, a status and the whole text that are stated come, or memory was wanting. One status is stated, but that a schedule's replay may end with Done or Limit, as the layouts decide that were chosen
pub record ReplaysItems {I O : Type 0} (i : source.Ghosts I) (o : sink.Ghosts O) (result : Status) (input input' : I) (output output' : O) : Type 0 where
  pub edges : Edges i o (OfInput IsAnswer (i.left input)) result input input' output output'
  pub done : result ≡ Done → IfSome (i.left input) (λ bytes. IsTranscribed bytes (o.written output) (o.written output'))
  pub statuses : IsUnlinked result
  pub answered : IsAnswered i o (OfInput IsAnswer (i.left input)) result input input' output output'
  pub complete : IfSome (i.left input) (λ bytes. (is : Status) (text : List ℕ) → OrTooLong IsAnswer bytes is text →
      (Rose (i.faults input) (i.faults input') → ⊥) → (Rose (o.faults output) (o.faults output') → ⊥) → Agree bytes result is ⊎ (result ≡ Memory))
