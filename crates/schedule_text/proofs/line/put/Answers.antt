use Rattle.std.proofs.lemmas.Result.{err_from_is_err_and}
use Rattle.schedule_text.specs.Kinds.{texts}
use Rattle.schedule_text.proofs.Inverse.{put_unread, filling_unread}
use Rattle.schedule_text.proofs.line.put.Goals as goal

pub returns-in_err-node : goal.returns-in_err-node
returns-in_err-node c =
    let p = err_from_is_err_and c.from_residual.result c.from_residual.ensures.1 in
    rw (p.1, p.2) (put_unread (texts c.args.words.now) (texts c.split_three.result.0.now) (texts c.split_three.result.1.now) c.split_three.ensures.front c.split_three.ensures.rest c.in_err-node.field-0.0 c.in_err-node.ensures)

pub returns-in_err-size : goal.returns-in_err-size
returns-in_err-size c =
    let p = err_from_is_err_and c.from_residual-in_err-size.result c.from_residual-in_err-size.ensures.1 in
    rw (p.1, p.2) (filling_unread (texts c.args.words.now) (texts c.split_three.result.0.now) (texts c.split_three.result.1.now) c.split_three.ensures.front c.split_three.ensures.rest c.in_err-size.field-0.0 c.in_err-size.ensures)
