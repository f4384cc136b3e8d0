use Rattle.std.proofs.Common.{subst}
use Rattle.schedule_text.specs.Reads.{Finds}
use Rattle.audit_model.specs.Lines.{Says}
use Rattle.audit_model.specs.Heard.{hears}
use Rattle.audit_reading.specs.Kept.{Follows}
use Rattle.audit_reading.proofs.OneLine.{deaf_line, heard_line}
use Rattle.audit_reading.proofs.lines.read_line.Goals as goal

pub returns-then-not-branch-clause-adds : goal.returns-then-not-branch-clause-adds
returns-then-not-branch-clause-adds c =
    deaf_line c.args.events.now c.args.line.now c.args.kept.now c.hear.new.kept c.args.saids.now c.args.saids.now c.in-Some.said
    (subst (Finds (Says c.args.line.now)) c.in-Some.is c.in_ok-said.ensures.says) (c.lines_say_one_thing.ensures.one c.args.line.now)
    (subst (Follows c.args.kept.now c.hear.new.kept (λ h. hears c.args.events.now h c.in-Some.said)) c.if-not-branch.true c.in_ok-hear.ensures.follows)

pub returns-clause-adds : goal.returns-clause-adds
returns-clause-adds c =
    heard_line c.args.events.now c.args.line.now c.args.kept.now c.hear.new.kept c.args.saids.now c.push.new.self c.in-Some.said
    (subst (Finds (Says c.args.line.now)) c.in-Some.is c.in_ok-said.ensures.says) c.in_ok-push.ensures.ok
    (subst (Follows c.args.kept.now c.hear.new.kept (λ h. hears c.args.events.now h c.in-Some.said)) c.if-not-branch.false c.in_ok-hear.ensures.follows)
