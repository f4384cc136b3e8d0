-- All that is said of the command.
use Rattle.std.proofs.Common.{◌≡◌, ◌⊎◌, ℕ, List, [], Option, Some, None, inl, inr, refl, subst}
use Rattle.lab_outside.specs.declared.ports.Source as source
use Rattle.lab_outside.specs.declared.ports.Sink as sink
use Rattle.lab_outside.specs.declared.ports.Link as ports
use Rattle.lab_outside.specs.declared.exit.Status.{Status}
use Rattle.lab_outside.specs.declared.exit.Status.TheVariants as status
use Rattle.lab_outside.specs.Rose.{Rose}
use Rattle.lab_outside.specs.Bytes.{Wrote}
use Rattle.layout_command.proofs.Stated.{SmallerSizes}
use Rattle.lab_main.specs.Edges.{IsStated as IsWhole, Answers, Begins, nothing, begun, Reads}
use Rattle.lab_main.proofs.Edges.{answers_begin}
use Rattle.serve_model.specs.Talk.{Grammar}
use Rattle.serve_run.specs.Stop.{IsTooLong}
use Rattle.serve_run.specs.Told.{Told}
use Rattle.serve_run.specs.Answer.{IsEnd, IsStated, IsSilent, AnswersPrefix, WantsMemory}
use Rattle.serve_run.specs.Command.{OnlySignedIsServed, ServesSo}
use Rattle.serve_run.proofs.Ending.{done_whole}
use Rattle.serve_run.proofs.Completing.{completed}

-- a whole text goes with it
whole_is_stated : (is : Status) → IsWhole is → IsStated is
whole_is_stated status.Done h = tt
whole_is_stated status.Refused h = tt
whole_is_stated status.Usage h = tt
whole_is_stated status.Limit h = tt
whole_is_stated status.ReadFault h = absurd h
whole_is_stated status.WriteFault h = absurd h
whole_is_stated status.LinkFault h = absurd h
whole_is_stated status.Memory h = absurd h

-- whatever the status, a first part was written
begins_of : (Stated : Status → List ℕ → Type 0) (is : Status) (old new : Option (List ℕ)) → (IsStated is → Answers Stated is old new) → (is ≡ status.WriteFault → AnswersPrefix Stated old new) → (IsSilent is → Wrote old new []) → Begins Stated old new
begins_of Stated status.Done old new answers prefix silent = answers_begin Stated status.Done old new (answers tt)
begins_of Stated status.Refused old new answers prefix silent = answers_begin Stated status.Refused old new (answers tt)
begins_of Stated status.Usage old new answers prefix silent = answers_begin Stated status.Usage old new (answers tt)
begins_of Stated status.LinkFault old new answers prefix silent = answers_begin Stated status.LinkFault old new (answers tt)
begins_of Stated status.Limit old new answers prefix silent = answers_begin Stated status.Limit old new (answers tt)
begins_of Stated status.WriteFault old new answers prefix silent = let p = prefix refl in begun p.is p.text p.stated p.wrote
begins_of Stated status.ReadFault old new answers prefix silent = nothing (silent tt)
begins_of Stated status.Memory old new answers prefix silent = nothing (silent tt)

module _ {I O L C : Type 0} (i : source.Ghosts I) (o : sink.Ghosts O) (l : ports.Ghosts L) (smaller : SmallerSizes) (g : Grammar) (port count : ℕ) (result : Status) (input input' : I) (output output' : O) (link link' : L) (clock clock' : C) (t : Told) where
  pub serves : Reads i result input input' → (IsStated result → Answers (IsEnd g count (i.left input) t) result (o.written output) (o.written output')) →
      (result ≡ status.WriteFault → AnswersPrefix (IsEnd g count (i.left input) t) (o.written output) (o.written output')) → (IsSilent result → Wrote (o.written output) (o.written output') []) → (result ≡ status.Memory → WantsMemory g (i.left input) t) →
      (result ≡ status.Usage → ⊥) → (result ≡ status.ReadFault → output' ≡ output) → ((result ≡ status.Refused) ⊎ (result ≡ status.ReadFault) → (link' ≡ link) × (clock' ≡ clock)) → (IsTooLong (i.left input) → (link' ≡ link) × (clock' ≡ clock)) →
      (result ≡ status.WriteFault → Rose (o.faults output) (o.faults output')) → ((result ≡ status.WriteFault) ⊎ (o.faults output' ≡ o.faults output)) → (result ≡ status.LinkFault → Rose (l.faults link) (l.faults link')) →
      ((result ≡ status.LinkFault) ⊎ (l.faults link' ≡ l.faults link)) → l.present link' ≡ None → (result ≡ status.Done → l.open_at link' ≡ Some port) →
      OnlySignedIsServed g →
      ServesSo i o l g port count result input input' output output' link link' clock clock' t
  serves reads answers prefix silent wants no_usage unwritten untouched unopened write_fault write_told link_fault link_told absent opened signed =
      let as_done : Status → Type 0 = λ s. IsStated s → Answers (IsEnd g count (i.left input) t) s (o.written output) (o.written output') in
      record {
        edges = record {
          reads = reads;
          writes = record {
            whole = λ s. answers (whole_is_stated result s);
            begins = begins_of (IsEnd g count (i.left input) t) result (o.written output) (o.written output') answers prefix silent;
            fault = write_fault;
            told = write_told;
          };
          unwritten = unwritten;
        };
        done = λ e. let a = subst as_done e answers tt in done_whole g count (i.left input) (o.written output) (o.written output') t a.text a.wrote status.Done refl a.stated;
        link_failed = λ e. subst as_done e answers tt;
        cut_off = prefix;
        silent = silent;
        wants = wants;
        complete = λ p says no_read no_write no_link.
            completed smaller g count (i.left input) (o.written output) (o.written output') t p says result answers silent no_usage (λ e. no_read (reads.fault e)) (λ e. no_write (write_fault e)) (λ e. no_link (link_fault e));
        untouched = λ h. elim h [
          | inl refused ↦ untouched (inl refused)
          | inr (inl fault) ↦ untouched (inr fault)
          | inr (inr long) ↦ unopened long
        ];
        link_fault = link_fault;
        link_told = link_told;
        absent = absent;
        opened = opened;
        signed = signed;
      }
