-- What is answered, by the parts of an input.
use Rattle.std.proofs.Common.{◌≡◌, ℕ, Option, Some, None, Result, Ok, Err, IfOk, List, refl, sym, ◌∙◌, subst}
use Rattle.crdt_core.specs.declared.memory.Memory.{Memory as Why}
use Rattle.store_model.specs.declared.event.Numbered.{Numbered}
use Rattle.text_model.specs.Grammar.{lines_of}
use Rattle.text_model.specs.Reading.{IsSchedule, IsFirstBadLine, HasTooManyEvents}
use Rattle.replay_command.specs.declared.stop.Stop.{Stop}
use Rattle.replay_command.specs.declared.stop.Stop.TheVariants.{Write, Memory, TooManyEvents, BadLine, Number, Sent}
use Rattle.audit_run.specs.declared.reply.Reply.{Reply}
use Rattle.audit_run.specs.Parts.{HaveNoMark, AreParts}
use Rattle.lab_outside.specs.declared.exit.Status.TheVariants.{Refused}
use Rattle.std.specs.Prelude.{option_map}
use Rattle.audit_run.specs.Answer.{no_transcript_line, IsFound, IsJudged, bad_line, many_events, judged, IsAnswer, IsRefusedFor}

module _ (input schedule : List ℕ) (transcript : Option (List ℕ)) (parts : AreParts input schedule transcript) where
  refusal_answers : (stop : Stop) (reply : Reply) → ((n : ℕ) → stop ≡ BadLine n → IsFirstBadLine schedule n) → (stop ≡ TooManyEvents → HasTooManyEvents schedule) → IsRefusedFor stop reply → IsAnswer input reply.status reply.text
  refusal_answers (BadLine n) reply bad many h = record { schedule = schedule; transcript = transcript; parts = parts; stated = bad_line n (bad n refl) h.0 h.1 }
  refusal_answers TooManyEvents reply bad many h = record { schedule = schedule; transcript = transcript; parts = parts; stated = many_events (many refl) h.0 h.1 }
  refusal_answers Write reply bad many h = absurd h
  refusal_answers Memory reply bad many h = absurd h
  refusal_answers Number reply bad many h = absurd h
  refusal_answers Sent reply bad many h = absurd h

  pub refused_answers : (stop : Stop) (r : Result Reply Why) → ((n : ℕ) → stop ≡ BadLine n → IsFirstBadLine schedule n) → (stop ≡ TooManyEvents → HasTooManyEvents schedule) → IfOk r (IsRefusedFor stop) → IfOk r (λ reply. IsAnswer input reply.status reply.text)
  refused_answers stop (Ok reply) bad many h = refusal_answers stop reply bad many h
  refused_answers stop (Err why) bad many h = tt

  pub judged_answers : (events : List Numbered) (r : Result Reply Why) → IsSchedule schedule events → IfOk r (λ reply. IsJudged events transcript reply.status reply.text) → IfOk r (λ reply. IsAnswer input reply.status reply.text)
  judged_answers events (Ok reply) spells h = record { schedule = schedule; transcript = transcript; parts = parts; stated = judged events spells h }
  judged_answers events (Err why) spells h = tt

-- the parts are those of the lines
pub same_parts : (a b schedule : List ℕ) (transcript : Option (List ℕ)) → lines_of a ≡ lines_of b → AreParts a schedule transcript → AreParts b schedule transcript
same_parts a b schedule None e h = (h.0 ∙ e, subst HaveNoMark e h.1)
same_parts a b schedule (Some x) e h = record { lines_are = sym e ∙ h.lines_are; first = h.first }

pub same_answers : (a b : List ℕ) (r : Result Reply Why) → lines_of a ≡ lines_of b → IfOk r (λ reply. IsAnswer a reply.status reply.text) → IfOk r (λ reply. IsAnswer b reply.status reply.text)
same_answers a b (Ok reply) e h = record { schedule = h.schedule; transcript = h.transcript; parts = same_parts a b h.schedule h.transcript e h.parts; stated = h.stated }
same_answers a b (Err why) e h = tt

-- what was found of the transcript, where there is one, or that there is none
pub some_judged : {A : Type 0} (now : A → List ℕ) (transcript : Option A) (text : A) (events : List Numbered) (r : Result Reply Why) → transcript ≡ Some text → IfOk r (λ reply. IsFound events (now text) reply.status reply.text) →
    IfOk r (λ reply. IsJudged events (option_map now transcript) reply.status reply.text)
some_judged now transcript text events r is h = subst (λ t. IfOk r (λ reply. IsJudged events (option_map now t) reply.status reply.text)) (sym is) h

pub none_judged : {A : Type 0} (now : A → List ℕ) (transcript : Option A) (events : List Numbered) (r : Result Reply Why) → transcript ≡ None → IfOk r (λ reply. reply.status ≡ Refused) → IfOk r (λ reply. reply.text ≡ no_transcript_line) →
    IfOk r (λ reply. IsJudged events (option_map now transcript) reply.status reply.text)
none_judged now transcript events (Ok reply) is s t = subst (λ t. IsJudged events (option_map now t) reply.status reply.text) (sym is) (s, t)
none_judged now transcript events (Err why) is s t = tt
