use Rattle.std.proofs.Common.{◌≡◌, ◌+◌, ◌-◌, length, take, drop, get_or, ap, sym, subst, ◌∙◌}
use Rattle.std.proofs.lemmas.List.{take_rest}
use Rattle.crdt_core.specs.declared.list.List.{List}
use Rattle.audit_model.specs.declared.said.Said.{Said}
use Rattle.audit_model.specs.Heard.{event_at}
use Rattle.audit_model.specs.Printed.{stages_if}
use Rattle.audit_prints.specs.declared.stage.Stage.{Stage}
use Rattle.audit_prints.specs.Stages.{staged_of}
use Rattle.audit_prints.specs.Judged.{GoesOn}
use Rattle.audit_prints.proofs.Given.{some_found}
use Rattle.audit_prints.proofs.Walks.{IsWalked, event_on, line_on}
use Rattle.audit_prints.proofs.judging.judge.Goals.{in-Event+in_ok-next+in-Some, in_default}
use Rattle.audit_prints.proofs.judging.judge.Goals as goal

pub loop-i-preserved : goal.loop-i-preserved
loop-i-preserved c =
    let events = c.args.events.now in
    let saids = c.args.saids.now in
    let i = c.loop-i.i in
    let s = staged_of c.loop-i.stage in
    elim c.match-said.branch [
      | in-Event+in_ok-next+in-Some w ↦
          let line = w.in-Event.line in
          let name = w.in-Event.name in
          let told = w.in-Event.told in
          let e = event_at events line name in
          let is = subst (λ (x : Said). x ≡ get_or saids i x) w.in-Event.is c.index-saids-i.is in
          let staged = some_found (λ (next : Stage). staged_of next ≡ stages_if s e told) w.in_ok-next.field-0 w.in-Some.next w.in-Some.is w.in_ok-next.ensures.staged in
          let on = some_found (λ (_ : Stage). GoesOn s line e told (take (length saids - (i + 1)) (drop (i + 1) saids)) c.loop-i.sheets w.past_event.new.sheets) w.in_ok-next.field-0 w.in-Some.next w.in-Some.is w.in_ok-next.ensures.on in
          let goes = subst (λ (xs : List Said). GoesOn s line e told xs c.loop-i.sheets w.past_event.new.sheets) (take_rest saids (i + 1)) on in
          event_on events saids i s (staged_of c.match-said.stage) c.loop-i.sheets c.match-said.sheets line name told c.loop-i-test.true is c.loop-i.invariant
          (subst (GoesOn s line e told (drop (i + 1) saids) c.loop-i.sheets) (sym w.sheets-is) goes) (ap staged_of w.stage-is ∙ staged)
      | in_default w ↦
          let on = line_on events saids i s c.loop-i.sheets c.index-saids-i.result c.loop-i-test.true c.index-saids-i.is w.in_default.not-Event c.loop-i.invariant in
          subst (IsWalked events saids (i + 1) (staged_of c.match-said.stage)) (sym w.sheets-is) (subst (λ (x : Stage). IsWalked events saids (i + 1) (staged_of x) c.loop-i.sheets) (sym w.stage-is) on)
    ]
