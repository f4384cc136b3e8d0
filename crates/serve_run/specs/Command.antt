-- What `serve` does with its input, its output, its link and its clock.
use Rattle.std.specs.Prelude.{◌≡◌, ◌⊎◌, ℕ, false, [], Some, None}
use Rattle.lab_outside.specs.declared.ports.Source as source
use Rattle.lab_outside.specs.declared.ports.Sink as sink
use Rattle.lab_outside.specs.declared.ports.Link as ports
use Rattle.lab_outside.specs.declared.ports.Clock as times
use Rattle.lab_outside.specs.declared.exit.Status.{Status}
use Rattle.lab_outside.specs.declared.exit.Status.TheVariants.{Refused, ReadFault, WriteFault, LinkFault, Memory, Done}
use Rattle.lab_outside.specs.Rose.{Rose}
use Rattle.lab_outside.specs.Bytes.{Wrote}
use Rattle.lab_main.specs.Edges.{Answers, Edges}
use Rattle.s3_model.specs.Words.{is_empty}
use Rattle.serve_model.specs.declared.buckets.Buckets.{Buckets}
use Rattle.serve_changes.specs.Changing.{changing}
use Rattle.serve_model.specs.Talk.{Grammar}
use Rattle.signed_laws.specs.Allowed.{OnlySignedIsCarriedOut, OnlyAllowedIsAnswered}
use Rattle.serve_run.specs.declared.plan.Plan.{Plan}
use Rattle.serve_run.specs.Plan.{SaysPlan}
use Rattle.serve_run.specs.Stop.{IsTooLong}
use Rattle.serve_run.specs.Told.{Told, told}
use Rattle.serve_run.specs.Answer.{IsEnd, IsSilent, AnswersPrefix, IsServedWhole, WantsMemory, Completes}

-- where keys are configured, nothing is carried out, and nothing is answered but by a refusal, that no key signed which may ask it, whatever buckets and keys a server has
abbrev pub OnlySignedIsServed : Grammar → Type 0
OnlySignedIsServed g = (buckets : Buckets) → is_empty buckets.access.keys ≡ false → OnlySignedIsCarriedOut changing buckets g × OnlyAllowedIsAnswered changing buckets g

-- what `serve` does for so many connections of a port. Input and output are as is said of every command. After Done, a failed link and a limit the whole text that is stated was written; so many connections were served as is stated of the plan that the input says, and as by a server that is one map; a failed write comes after a first part of such a text, a failed read and want of memory with nothing. Where no count of faults rose and the input says a plan, all was served, a limit was passed, or memory was wanting. Where the input is refused, can't be read or is too long, link and clock are as before. A failed link comes only where its count rose, and where it rose no other status comes. Afterwards no connection is present, and after Done the link is open at the port. Where keys are configured, only signed requests are served
pub record ServesSo {I O L C : Type 0} (i : source.Ghosts I) (o : sink.Ghosts O) (l : ports.Ghosts L) (g : Grammar) (port count : ℕ) (result : Status) (input input' : I) (output output' : O) (link link' : L) (clock clock' : C) (t : Told) : Type 0 where
  pub edges : Edges i o (IsEnd g count (i.left input) t) result input input' output output'
  pub done : result ≡ Done → IsServedWhole g count (i.left input) (o.written output) (o.written output') t
  pub link_failed : result ≡ LinkFault → Answers (IsEnd g count (i.left input) t) LinkFault (o.written output) (o.written output')
  pub cut_off : result ≡ WriteFault → AnswersPrefix (IsEnd g count (i.left input) t) (o.written output) (o.written output')
  pub silent : IsSilent result → Wrote (o.written output) (o.written output') []
  pub wants : result ≡ Memory → WantsMemory g (i.left input) t
  pub complete : (p : Plan) → SaysPlan (i.left input) p → (Rose (i.faults input) (i.faults input') → ⊥) → (Rose (o.faults output) (o.faults output') → ⊥) →
      (Rose (l.faults link) (l.faults link') → ⊥) → Completes g count (i.left input) (o.written output) (o.written output') t result
  pub untouched : (result ≡ Refused) ⊎ (result ≡ ReadFault) ⊎ IsTooLong (i.left input) → (link' ≡ link) × (clock' ≡ clock)
  pub link_fault : result ≡ LinkFault → Rose (l.faults link) (l.faults link')
  pub link_told : (result ≡ LinkFault) ⊎ (l.faults link' ≡ l.faults link)
  pub absent : l.present link' ≡ None
  pub opened : result ≡ Done → l.open_at link' ≡ Some port
  pub signed : OnlySignedIsServed g

-- the same, with what link and clock tell
abbrev pub Serves : {I O L C : Type 0} → source.Ghosts I → sink.Ghosts O → ports.Ghosts L → times.Ghosts C → Grammar → ℕ → ℕ → Status → I → I → O → O → L → L → C → C → Type 0
Serves i o l c g port count result input input' output output' link link' clock clock' =
    ServesSo i o l g port count result input input' output output' link link' clock clock' (told (c.times clock) (c.times clock') (l.coming link) (l.coming link') (l.past link) (l.past link'))
