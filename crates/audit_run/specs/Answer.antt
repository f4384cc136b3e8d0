-- What an audit of an input answers: the status and the line that are stated for its bytes.
use Rattle.std.specs.Prelude.{◌≡◌, ◌-◌, ◌^◌, min, ℕ, Option, Some, None, List, ◌++◌, codes}
use Rattle.lab_outside.specs.declared.exit.Status.{Status}
use Rattle.lab_outside.specs.declared.exit.Status.TheVariants.{Done, Refused, Limit}
use Rattle.layout_roles.specs.Text.{line, number}
use Rattle.store_model.specs.declared.event.Numbered.{Numbered}
use Rattle.text_model.specs.Reading.{IsSchedule, IsFirstBadLine, HasTooManyEvents}
use Rattle.audit_model.specs.Audit.{Finding, unreadable, stale, unlawful, differs, too_much, ok, Finds}
use Rattle.replay_run.specs.Replay.{sent_line}
use Rattle.replay_command.specs.Answer.{events_line, bad_line_text}
use Rattle.replay_command.specs.declared.stop.Stop.{Stop}
use Rattle.replay_command.specs.declared.stop.Stop.TheVariants.{BadLine, TooManyEvents}
use Rattle.audit_run.specs.declared.reply.Reply.{Reply}
use Rattle.audit_run.specs.Parts.{AreParts}

-- all is well, with so many pairs, or 2^64 - 1 where there are more
unfoldable pub ok_line : ℕ → List ℕ
ok_line pairs = line (codes "audit ok" ++ number (min pairs (2 ^ 64 - 1)))

-- the line that says what was found
abbrev pub finding_line : Finding → List ℕ
finding_line (unreadable k) = line (codes "unreadable" ++ number k)
finding_line (stale request) = line (codes "stale" ++ number request)
finding_line (unlawful k) = line (codes "unlawful" ++ number k)
finding_line (differs k) = line (codes "differs" ++ number k)
finding_line too_much = sent_line
finding_line (ok pairs) = ok_line pairs

-- and the status that goes with it
abbrev pub finding_status : Finding → Status
finding_status (ok pairs) = Done
finding_status too_much = Limit
finding_status other = Refused

-- the line where no line is the mark
abbrev pub no_transcript_line : List ℕ
no_transcript_line = line (codes "no transcript")

-- something is found first of this transcript of these events, and these are its status and its line
pub record IsFound (events : List Numbered) (transcript : List ℕ) (status : Status) (text : List ℕ) : Type 0 where
  pub finding : Finding
  pub finds : Finds events transcript finding
  pub status_is : status ≡ finding_status finding
  pub text_is : text ≡ finding_line finding

-- the same where there is a transcript
abbrev pub IsJudged : List Numbered → Option (List ℕ) → Status → List ℕ → Type 0
IsJudged events None status text = (status ≡ Refused) × (text ≡ no_transcript_line)
IsJudged events (Some transcript) status text = IsFound events transcript status text

-- the status and the line that are stated for a schedule and the transcript behind it, in the order in which their causes come
pub data IsOfParts (schedule : List ℕ) (transcript : Option (List ℕ)) (status : Status) (text : List ℕ) : Type 0 where
  bad_line : (n : ℕ) → IsFirstBadLine schedule n → status ≡ Refused → text ≡ bad_line_text n → IsOfParts schedule transcript status text
  many_events : HasTooManyEvents schedule → status ≡ Limit → text ≡ events_line → IsOfParts schedule transcript status text
  judged : (events : List Numbered) → IsSchedule schedule events → IsJudged events transcript status text → IsOfParts schedule transcript status text

-- the same for an input
pub record IsAnswer (input : List ℕ) (status : Status) (text : List ℕ) : Type 0 where
  pub schedule : List ℕ
  pub transcript : Option (List ℕ)
  pub parts : AreParts input schedule transcript
  pub stated : IsOfParts schedule transcript status text

-- the status and the line for a reason why there is no schedule, where one is stated for it
abbrev pub IsRefusedFor : Stop → Reply → Type 0
IsRefusedFor (BadLine n) reply = (reply.status ≡ Refused) × (reply.text ≡ bad_line_text n)
IsRefusedFor TooManyEvents reply = (reply.status ≡ Limit) × (reply.text ≡ events_line)
IsRefusedFor other reply = ⊥
