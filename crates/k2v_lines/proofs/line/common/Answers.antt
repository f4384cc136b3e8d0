use Rattle.std.proofs.Common.{sym}
use Rattle.k2v_lines.proofs.Names.{common_other}
use Rattle.k2v_lines.proofs.line.common.Goals as goal

pub returns-then-not-is_common : goal.returns-then-not-is_common
returns-then-not-is_common c = common_other c.args.line.now c.in-Some.event (rw c.in-Some.is at c.in_ok-event.ensures.spelled) (sym c.if-not-is_common.ensures)
