use Rattle.std.proofs.Common.{codes}
use Rattle.k2v_lines.proofs.Lines.{named_line, common_line, failed}
use Rattle.k2v_lines.proofs.line.spelled.Goals as goal

pub returns-then-is : goal.returns-then-is
returns-then-is c = named_line c.args.line.now c.args.name.now c.args.words.now c.requires.first (codes "kput") (c.is.ensures.0 c.if-is.true) c.put.result c.put.ensures

pub returns-then-is-2 : goal.returns-then-is-2
returns-then-is-2 c = named_line c.args.line.now c.args.name.now c.args.words.now c.requires.first (codes "kdel") (c.is-else-is.ensures.0 c.if-is-2.true) c.delete.result c.delete.ensures

pub returns-then-is-3 : goal.returns-then-is-3
returns-then-is-3 c = named_line c.args.line.now c.args.name.now c.args.words.now c.requires.first (codes "kget") (c.is-else-is-2.ensures.0 c.if-is-3.true) c.get.result c.get.ensures

pub returns-else-is-3 : goal.returns-else-is-3
returns-else-is-3 c =
    common_line c.args.line.now c.args.name.now c.args.words.now c.requires.first (failed c.is.result c.if-is.false c.is.ensures.1) (failed c.is-else-is.result c.if-is-2.false c.is-else-is.ensures.1)
    (failed c.is-else-is-2.result c.if-is-3.false c.is-else-is-2.ensures.1) c.common.result c.common.ensures
