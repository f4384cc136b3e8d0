use Rattle.std.proofs.lemmas.Result.{err_from_is_err_and}
use Rattle.transcript_text.proofs.Lists.{node_unread}
use Rattle.transcript_text.proofs.vertices.nodes.Goals as goal

pub returns-in_err-node : goal.returns-in_err-node
returns-in_err-node c =
    let p = err_from_is_err_and c.from_residual.result c.from_residual.ensures.1 in
    rw (p.1, p.2) (node_unread c.args.words.now c.loop-word.word-index c.loop-word-test.true c.in_err-node.field-0.0 c.in_err-node.ensures)
