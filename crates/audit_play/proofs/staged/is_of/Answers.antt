use Rattle.audit_model.specs.Audit.{staged_in}
use Rattle.audit_play.proofs.Staging.{told_then, told_else}
use Rattle.audit_play.proofs.staged.is_of.Goals as goal

pub returns-then-is_same_wanted : goal.returns-then-is_same_wanted
returns-then-is_same_wanted c = λ s d.
    told_then (staged_in s) c.args.sheet.now c.staged-wanted.result.0.now.list c.staged-wanted.result.1 c.is_same_wanted.result c.is_same_wanted.ensures (c.staged-wanted.ensures.redundancy s d) c.are_same_roles.result
    (rw (c.as_slice.ensures, c.as_slice-then-is_same_wanted.ensures) at c.are_same_roles.ensures) (c.staged-wanted.ensures.roles s d) c.if-is_same_wanted.true

pub returns-else-is_same_wanted : goal.returns-else-is_same_wanted
returns-else-is_same_wanted c = λ s d.
    told_else (staged_in s) c.args.sheet.now c.staged-wanted.result.0.now.list c.staged-wanted.result.1 c.is_same_wanted.result c.is_same_wanted.ensures (c.staged-wanted.ensures.redundancy s d) c.if-is_same_wanted.false
