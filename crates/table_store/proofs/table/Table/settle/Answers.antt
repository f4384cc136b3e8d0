use Rattle.std.specs.Prelude.{◌≡◌, ◌==◌, ◌<◌, IsTrue, is_none}
use Rattle.std.proofs.Common.{ap, sym, ◌∙◌, arith}
use Rattle.std.proofs.lemmas.List.Elements.{All-weaker}
use Rattle.table_schema.specs.Words.{partition_of}
use Rattle.table_model.specs.Rows.{rows_in}
use Rattle.table_model.specs.Top.{any_unspelled}
use Rattle.table_store.proofs.Wholes.{any_part, passed_on, written_all}
use Rattle.table_store.proofs.table.Table.settle.Goals as goal

pub returns-in_err-settle_partition-clause-causes : goal.returns-in_err-settle_partition-clause-causes
returns-in_err-settle_partition-clause-causes g c =
    let words = g.S.Schema.words in
    let rows = c.args.self.now in
    passed_on c.from_residual.result c.in_err-settle_partition.field-0.0 c.from_residual.ensures.1 c.in_err-settle_partition.ensures.causes
    (λ any. any_part (λ r. is_none (words.spelling r)) (λ r. partition_of words r == c.loop-p.p) rows (ap (λ rs. any_unspelled words (rows_in words c.loop-p.p rs)) (sym c.loop-p.invariant.same) ∙ any))

pub returns-clause-written : goal.returns-clause-written
returns-clause-written g c =
    let words = g.S.Schema.words in
    let rows = c.args.self.now in
    let end : c.loop-p.p ≡ 256 = omega arith in
    let low = All-weaker (λ r. IsTrue (words.is_proper r)) (λ r. partition_of words r < c.loop-p.p) (λ r proper. let byte = g.met.S.Schema.laws.partition_is_byte r proper in omega (arith, end, byte)) rows (c.loop-p.invariant.proper (omega (arith, end))) in
    written_all words c.loop-p.p rows low c.loop-p.invariant.written
