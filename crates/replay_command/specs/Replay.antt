-- What Done of a replay says, and all that is said of the command.
use Rattle.std.specs.Prelude.{◌≡◌, ◌⊎◌, ℕ, List, ◌++◌, length, Option, IfSome}
use Rattle.lab_outside.specs.declared.ports.Source as source
use Rattle.lab_outside.specs.declared.ports.Sink as sink
use Rattle.lab_outside.specs.declared.exit.Status.{Status}
use Rattle.lab_outside.specs.declared.exit.Status.TheVariants.{Done, Memory}
use Rattle.lab_outside.specs.Rose.{Rose}
use Rattle.lab_outside.specs.Bytes.{Wrote}
use Rattle.lab_main.specs.Input.{OrTooLong, OfInput}
use Rattle.lab_main.specs.Edges.{IsUnlinked, Edges, IsAnswered}
use Rattle.store_model.specs.Run.{start}
use Rattle.store_model.specs.Events.{Turn, acts_of, events_of, run}
use Rattle.store_model.specs.Moments.{AtEachMoment}
use Rattle.store_model.specs.Fresh.{NoClash}
use Rattle.store_anchors.specs.Promises.{WalksAreClear, KeepsPromises}
use Rattle.text_model.specs.Reading.{IsSchedule}
use Rattle.text_model.specs.Transcript.{turns_text, transcript}
use Rattle.replay_run.specs.declared.account.Account.{Account}
use Rattle.replay_run.specs.declared.account.Account.TheVariants.{Transcript, Checked, Summary}
use Rattle.replay_run.specs.Account.{IsText, fresh_line, closing}
use Rattle.text_model.specs.Played.{ArePlayed}
use Rattle.prompt_laws.specs.Times.{CollectsInTime, IsPromptIfTimely}
use Rattle.replay_command.specs.Answer.{IsAnswer, Agree}

-- what was written for this input is the whole transcript of its events with the layouts that the text prints; each of them is of the greatest partition size, with its printed cut; after each step everything fits, and no more was sent than may be; and at each moment of that run, within drains too, what is promised holds, and it is prompt if the turns are timely and no forget clashes
pub record IsTranscribed (input : List ℕ) (old new : Option (List ℕ)) : Type 0 where
  pub turns : List Turn
  pub schedule : IsSchedule input (events_of turns)
  pub played : ArePlayed turns
  pub wrote : Wrote old new (transcript turns)
  pub promises : AtEachMoment KeepsPromises (acts_of turns)
  pub prompt : IsPromptIfTimely (acts_of turns)

-- the transcript of turns with the line that says that all finished reads are fresh, and how many pairs there were to look at
abbrev pub checked_transcript : List Turn → List ℕ
checked_transcript turns = turns_text start turns ++ closing (length turns) (run start turns) (fresh_line (run start turns).history)

-- the same of a replay with a check: the transcript has the line of the check, and where no digests of walks clash, what is collected is collected in time and the buckets' names have different digests, this says that all reads are fresh
pub record IsChecked (input : List ℕ) (old new : Option (List ℕ)) : Type 0 where
  pub turns : List Turn
  pub schedule : IsSchedule input (events_of turns)
  pub played : ArePlayed turns
  pub text : List ℕ
  pub is_text : IsText Checked turns text
  pub is_fresh : WalksAreClear (acts_of turns) → CollectsInTime (acts_of turns) → NoClash (run start turns).buckets → text ≡ checked_transcript turns
  pub wrote : Wrote old new text
  pub promises : AtEachMoment KeepsPromises (acts_of turns)
  pub prompt : IsPromptIfTimely (acts_of turns)

-- what was written for this input is the whole account of its events, with lawful layouts, and what is promised holds at each moment of that run, which is prompt if the turns are timely and no forget clashes
pub record IsAccounted (account : Account) (input : List ℕ) (old new : Option (List ℕ)) : Type 0 where
  pub turns : List Turn
  pub schedule : IsSchedule input (events_of turns)
  pub played : ArePlayed turns
  pub text : List ℕ
  pub is_text : IsText account turns text
  pub wrote : Wrote old new text
  pub promises : AtEachMoment KeepsPromises (acts_of turns)
  pub prompt : IsPromptIfTimely (acts_of turns)

-- what Done says
abbrev pub IsWhole : Account → List ℕ → Option (List ℕ) → Option (List ℕ) → Type 0
IsWhole Transcript input old new = IsTranscribed input old new
IsWhole Checked input old new = IsChecked input old new
IsWhole (Summary count seed) input old new = IsAccounted (Summary count seed) input old new

-- what a replay does: input and output are as is said of every command; after Done what was written is the whole account of the schedule that the input spells, with what is promised of that run; and where no count of faults rose, a status and the whole text that are stated come, or memory was wanting. One status is stated, but that a schedule's replay may end with Done or Limit, as the layouts decide that were chosen
pub record Replays {I O : Type 0} (i : source.Ghosts I) (o : sink.Ghosts O) (account : Account) (result : Status) (input input' : I) (output output' : O) : Type 0 where
  pub edges : Edges i o (OfInput (IsAnswer account) (i.left input)) result input input' output output'
  pub done : result ≡ Done → IfSome (i.left input) (λ bytes. IsWhole account bytes (o.written output) (o.written output'))
  pub statuses : IsUnlinked result
  pub answered : IsAnswered i o (OfInput (IsAnswer account) (i.left input)) result input input' output output'
  pub complete : IfSome (i.left input) (λ bytes. (is : Status) (text : List ℕ) → OrTooLong (IsAnswer account) bytes is text →
      (Rose (i.faults input) (i.faults input') → ⊥) → (Rose (o.faults output) (o.faults output') → ⊥) → Agree bytes result is ⊎ (result ≡ Memory))
