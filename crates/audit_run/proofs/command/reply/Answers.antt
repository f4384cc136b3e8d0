use Rattle.audit_run.proofs.Replies.{same_answers}
use Rattle.audit_run.proofs.command.reply.Goals as goal

pub returns-clause-stated : goal.returns-clause-stated
returns-clause-stated c = same_answers c.in_ok-all.all.items c.args.input.items c.answer.result c.in_ok-all.ensures.lines (rw c.deref.ensures.value at c.answer.ensures.stated)
