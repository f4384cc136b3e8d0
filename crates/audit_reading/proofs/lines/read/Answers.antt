use Rattle.std.proofs.Common.{sym, subst}
use Rattle.audit_reading.specs.Reads.{AddsLine}
use Rattle.audit_reading.proofs.SoFar.{ReadSoFar, nothing_read, read_more, unreadable_here}
use Rattle.audit_reading.proofs.lines.read.Goals as goal

pub loop-rest-init : goal.loop-rest-init
loop-rest-init c =
    subst (ReadSoFar c.args.events.now c.args.text.now c.args.text.now 0 c.new-kept.result) (sym c.new-saids.ensures)
    (nothing_read c.args.events.now c.args.text.now c.new-kept.result c.new-kept.ensures)

pub returns-then-not-branch-clause-read : goal.returns-then-not-branch-clause-read
returns-then-not-branch-clause-read c =
    let events = c.args.events.now in
    let line = c.first_line.result.0.now in
    let k = c.loop-rest in
    let r = c.read_line.new in
    unreadable_here events c.args.text.now k.rest.now k.number k.kept k.saids k.invariant line c.first_line.result.1.now c.first_line.ensures.lines r.kept r.saids
    (subst (AddsLine events line k.kept r.kept k.saids r.saids) c.if-not-branch.true c.in_ok-read_line.ensures.adds)

pub loop-rest-preserved : goal.loop-rest-preserved
loop-rest-preserved c =
    let events = c.args.events.now in
    let line = c.first_line.result.0.now in
    let k = c.loop-rest in
    let r = c.read_line.new in
    read_more events c.args.text.now k.rest.now k.number k.kept k.saids k.invariant line c.first_line.result.1.now c.first_line.ensures.lines r.kept r.saids c.first_line.ensures.shorter
    (subst (AddsLine events line k.kept r.kept k.saids r.saids) c.if-not-branch.false c.in_ok-read_line.ensures.adds)
