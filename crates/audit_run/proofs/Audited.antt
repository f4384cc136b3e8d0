-- What Done of an audit says, and all that is said of the command.
use Rattle.std.proofs.Common.{◌≡◌, ℕ, ◌<◌, ◌^◌, Option, Some, None, List, length, refl, sym, ap, ◌∙◌, subst}
use Rattle.std.specs.Prelude.{⊤}
use Rattle.lab_outside.specs.declared.ports.Source as source
use Rattle.lab_outside.specs.declared.ports.Sink as sink
use Rattle.lab_outside.specs.declared.exit.Status.{Status}
use Rattle.lab_outside.specs.declared.exit.Status.TheVariants.{Done, Refused, Usage, LinkFault, ReadFault, WriteFault, Memory as MemoryStatus, Limit}
use Rattle.lab_outside.specs.Rose.{Rose}
use Rattle.lab_outside.specs.Bytes.{Wrote}
use Rattle.lab_main.specs.Ends.{Ends, said, cut_off}
use Rattle.lab_main.specs.Input.{OfInput}
use Rattle.lab_main.specs.Edges.{IsUnlinked, Edges}
use Rattle.lab_main.proofs.Edges.{is_answered}
use Rattle.lab_main.proofs.Stating.{of_done}
use Rattle.std.specs.List.{AllByRecursion}
use Rattle.history_model.specs.declared.record.Record.{Record}
use Rattle.store_model.specs.declared.event.Numbered.{Numbered}
use Rattle.store_model.specs.Events.{Turn}
use Rattle.text_model.specs.Grammar.{lines_of}
use Rattle.text_model.specs.Transcript.{transcript}
use Rattle.audit_model.specs.declared.said.Said.{Said}
use Rattle.audit_model.specs.Heard.{AreReadable}
use Rattle.audit_model.specs.Printed.{all_prints, IsLawfulPrint}
use Rattle.text_model.specs.Reading.{IsSchedule}
use Rattle.audit_model.specs.Audit.{Finding, unreadable, stale, unlawful, differs, too_much, ok, Finds, ArePrinted}
use Rattle.audit_runs.specs.Audited.{IsAudited}
use Rattle.audit_run.specs.Parts.{AreParts}
use Rattle.audit_run.specs.Answer.{finding_line, finding_status, IsFound, IsJudged, IsOfParts, bad_line, many_events, judged, IsAnswer}
use Rattle.audit_run.specs.Command.{IsWell, OwnTextsAreFresh, Audits}
use Rattle.audit_run.proofs.Agreeing.{OneFinding, one_came}

-- what is found well keeps what is promised
abbrev pub EveryAudited : Type 0
EveryAudited = (input text : List ℕ) (events : List Numbered) (pairs : ℕ) → IsSchedule input events → Finds events text (ok pairs) → IsAudited events text pairs

-- Done goes with one finding alone
done_is_ok : (f : Finding) → Done ≡ finding_status f → (pairs : ℕ) × (f ≡ ok pairs)
done_is_ok (unreadable k) e = let no : Done ≡ Refused = e in cc
done_is_ok (stale q) e = let no : Done ≡ Refused = e in cc
done_is_ok (unlawful k) e = let no : Done ≡ Refused = e in cc
done_is_ok (differs k) e = let no : Done ≡ Refused = e in cc
done_is_ok too_much e = let no : Done ≡ Limit = e in cc
done_is_ok (ok pairs) e = (pairs, refl)

-- the account of a run's own transcript
module _ (Says : List Turn → List Said) (Told : List Turn → List Record)
    (read : (schedule : List ℕ) (events : List Numbered) (saids : List Said) (turns : List Turn) → IsSchedule schedule events → length schedule < 2 ^ 64 → AllByRecursion IsLawfulPrint (all_prints events saids) →
    ArePrinted events (all_prints events saids) turns → AreReadable events (lines_of (transcript turns)) (Says turns) (Told turns)) where
  pub own_readable : (schedule : List ℕ) (events : List Numbered) (saids : List Said) (turns : List Turn) → IsSchedule schedule events → length schedule < 2 ^ 64 → AllByRecursion IsLawfulPrint (all_prints events saids) →
      ArePrinted events (all_prints events saids) turns → (said : List Said) × ((h : List Record) × AreReadable events (lines_of (transcript turns)) said h)
  own_readable schedule events saids turns spells short lawful printed = (Says turns, (Told turns, read schedule events saids turns spells short lawful printed))

-- what was found of the transcript with this text and Done
record IsFoundWell (schedule : List ℕ) (transcript : Option (List ℕ)) (text : List ℕ) : Type 0 where
  events : List Numbered
  spells : IsSchedule schedule events
  lines : List ℕ
  is_some : transcript ≡ Some lines
  found : IsFound events lines Done text

found_in : (events : List Numbered) (transcript : Option (List ℕ)) (text : List ℕ) → IsJudged events transcript Done text → (lines : List ℕ) × ((transcript ≡ Some lines) × IsFound events lines Done text)
found_in events None text h = let no : Done ≡ Refused = h.0 in cc
found_in events (Some lines) text h = (lines, (refl, h))

found_well : (schedule : List ℕ) (transcript : Option (List ℕ)) (text : List ℕ) → IsOfParts schedule transcript Done text → IsFoundWell schedule transcript text
found_well schedule transcript text (bad_line n bad e w) = let no : Done ≡ Refused = e in cc
found_well schedule transcript text (many_events many e w) = let no : Done ≡ Limit = e in cc
found_well schedule transcript text (judged events spells h) =
    let p = found_in events transcript text h in record { events = events; spells = spells; lines = p.0; is_some = p.1.0; found = p.1.1 }

module _ (kept : EveryAudited) (old new : Option (List ℕ)) (input text : List ℕ) (wrote : Wrote old new text) where
  of_found : (schedule : List ℕ) (transcript : Option (List ℕ)) → AreParts input schedule transcript → IsFoundWell schedule transcript text → IsWell input old new
  of_found schedule transcript parts h =
      let is = done_is_ok h.found.finding h.found.status_is in
      record {
        schedule = schedule;
        transcript = h.lines;
        cut = subst (AreParts input schedule) h.is_some parts;
        events = h.events;
        spells = h.spells;
        pairs = is.0;
        audited = kept schedule h.lines h.events is.0 h.spells (subst (λ (f : Finding). Finds h.events h.lines f) is.1 h.found.finds);
        wrote = subst (Wrote old new) (h.found.text_is ∙ ap finding_line is.1) wrote;
      }

done_says : EveryAudited → (old new : Option (List ℕ)) (input text : List ℕ) → IsAnswer input Done text → Wrote old new text → IsWell input old new
done_says kept old new input text h wrote = of_found kept old new input text wrote h.schedule h.transcript h.parts (found_well h.schedule h.transcript text h.stated)

-- ---- the statuses

-- the statuses of an answer
abbrev IsOfAudit : Status → Type 0
IsOfAudit Done = ⊤
IsOfAudit Refused = ⊤
IsOfAudit Limit = ⊤
IsOfAudit Usage = ⊥
IsOfAudit ReadFault = ⊥
IsOfAudit WriteFault = ⊥
IsOfAudit LinkFault = ⊥
IsOfAudit MemoryStatus = ⊥

of_finding : (f : Finding) → IsOfAudit (finding_status f)
of_finding (unreadable k) = tt
of_finding (stale q) = tt
of_finding (unlawful k) = tt
of_finding (differs k) = tt
of_finding too_much = tt
of_finding (ok pairs) = tt

status_of_parts : (schedule : List ℕ) (transcript : Option (List ℕ)) (s : Status) (text : List ℕ) → IsOfParts schedule transcript s text → IsOfAudit s
status_of_parts schedule transcript s text (bad_line n bad e w) = subst IsOfAudit (sym e) tt
status_of_parts schedule transcript s text (many_events many e w) = subst IsOfAudit (sym e) tt
status_of_parts schedule None s text (judged events spells h) = subst IsOfAudit (sym h.0) tt
status_of_parts schedule (Some transcript) s text (judged events spells h) = subst IsOfAudit (sym h.status_is) (of_finding h.finding)

module _ (input : List ℕ) (is : Status) (text : List ℕ) (h : IsAnswer input is text) where
  status_is : IsOfAudit is
  status_is = status_of_parts h.schedule h.transcript is text h.stated

  pub no_write_fault : is ≡ WriteFault → ⊥
  no_write_fault e = subst IsOfAudit e status_is

  unlinked : (s : Status) → IsOfAudit s → IsUnlinked s
  unlinked Done k = tt
  unlinked Refused k = tt
  unlinked Limit k = tt
  unlinked Usage k = absurd k
  unlinked ReadFault k = absurd k
  unlinked WriteFault k = absurd k
  unlinked LinkFault k = absurd k
  unlinked MemoryStatus k = absurd k

  module _ (said_text : List ℕ) (result : Status) (old new : Option (List ℕ)) (faults risen : ℕ) where
    pub said_statuses : Ends is said_text result old new faults risen → IsUnlinked result
    said_statuses (said e wrote) = subst IsUnlinked (sym e) (unlinked is status_is)
    said_statuses (cut_off e rose wrote) = subst IsUnlinked (sym e) tt

    pub said_no_read : Ends is said_text result old new faults risen → result ≡ ReadFault → ⊥
    said_no_read (said e wrote) k = subst IsOfAudit (sym e ∙ k) status_is
    said_no_read (cut_off e rose wrote) k = let no : WriteFault ≡ ReadFault = sym e ∙ k in cc

no_link : (result : Status) → IsUnlinked result → result ≡ LinkFault → ⊥
no_link result h e = subst IsUnlinked e h

-- all that is said of the command
module _ {I O : Type 0} (i : source.Ghosts I) (o : sink.Ghosts O) (result : Status) (input input' : I) (output output' : O) where
  pub audits : OneFinding → EveryAudited → OwnTextsAreFresh → Edges i o (OfInput IsAnswer (i.left input)) result input input' output output' → IsUnlinked result → Audits i o result input input' output output'
  audits one kept own edges statuses =
      let answered = is_answered i o (OfInput IsAnswer (i.left input)) input input' output output' result edges (no_link result statuses) in
      record {
        edges = edges;
        done = of_done IsAnswer (λ bytes. IsWell bytes (o.written output) (o.written output')) (o.written output) (o.written output') (done_says kept (o.written output) (o.written output')) (i.left input) result edges.writes.whole;
        own = own;
        statuses = statuses;
        answered = answered;
        complete = one_came one (i.left input) result (o.written output) (o.written output') (Rose (i.faults input) (i.faults input') → ⊥) (Rose (o.faults output) (o.faults output') → ⊥) answered;
      }
