use Rattle.std.proofs.lemmas.Result.{err_from_is_err_and}
use Rattle.schedule_text.specs.Kinds.{texts}
use Rattle.schedule_text.proofs.Inverse.{source_unread, destination_unread, copy_read}
use Rattle.schedule_text.proofs.line.copy.Goals as goal

pub returns-in_err-node : goal.returns-in_err-node
returns-in_err-node c =
    let p = err_from_is_err_and c.from_residual.result c.from_residual.ensures.1 in
    rw (p.1, p.2) (source_unread (texts c.args.words.now) (texts c.split_three.result.0.now) (texts c.split_three.result.1.now) c.split_three.ensures.front c.split_three.ensures.rest c.in_err-node.field-0.0 c.in_err-node.ensures)

pub returns-in_err-bucket : goal.returns-in_err-bucket
returns-in_err-bucket c =
    let p = err_from_is_err_and c.from_residual-in_err-bucket.result c.from_residual-in_err-bucket.ensures.1 in
    rw (p.1, p.2) (destination_unread (texts c.args.words.now) (texts c.split_three.result.0.now) (texts c.split_three.result.1.now) c.split_three.ensures.front c.split_three.ensures.rest c.in_err-bucket.field-0.0 c.in_err-bucket.ensures)

pub returns : goal.returns
returns c =
    copy_read (texts c.args.words.now) (texts c.split_three.result.0.now) (texts c.split_three.result.1.now) c.split_three.ensures.front c.split_three.ensures.rest c.in_ok-node.node c.in_ok-node.from_bucket c.in_ok-node.from_key c.in_ok-bucket.bucket c.in_ok-bucket.key c.in_ok-node.ensures c.in_ok-bucket.ensures
