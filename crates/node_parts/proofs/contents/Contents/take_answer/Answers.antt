use Rattle.std.proofs.Common.{ap, subst, IsTrue}
use Rattle.std.specs.Prelude.{option_copied}
use Rattle.std.proofs.lemmas.Result.{IfOk-weaker, IfErr-weaker}
use Rattle.table_model.specs.Rows.{rows_in}
use Rattle.table_model.specs.Top.{any_unspelled}
use Rattle.node_parts.proofs.WalkSends.{causes_more}
use Rattle.node_parts.proofs.Spelled.{some_lacks, told_so}
use Rattle.node_parts.proofs.contents.Contents.take_answer.Goals as goal

pub returns-in-Some-clause-goes_on : goal.returns-in-Some-clause-goes_on
returns-in-Some-clause-goes_on g c =
    IfOk-weaker c.answer.result _ _
    (λ end told. told_so c.args.self.now c.args.answer c.settle.new.self.table c.in-Some.theirs.now c.args.walk.now c.answer.new.walk end (ap (λ z. z.table) c.in_ok-settle.ensures.unchanged) (ap option_copied c.in-Some.is) told)
    (c.answer.ensures.tells c.requires.awaits)

pub returns-in-Some-clause-causes : goal.returns-in-Some-clause-causes
returns-in-Some-clause-causes g c =
    IfErr-weaker c.answer.result _ _
    (λ e cause. causes_more e (λ lacks. some_lacks c.args.self.now c.args.walk.now.partition (subst (λ z. IsTrue (any_unspelled g.S.Schema.words (rows_in g.S.Schema.words c.args.walk.now.partition z.table))) c.in_ok-settle.ensures.unchanged lacks)) cause)
    c.answer.ensures.causes
