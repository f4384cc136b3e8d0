use Rattle.std.proofs.Common.{sym, arith}
use Rattle.row_codec.specs.NumberLaws.{bytes_from}
use Rattle.k2v_rows.specs.Reading.{row_at}
use Rattle.row_codec.proofs.Whole.{read_is}
use Rattle.k2v_schema.proofs.codec.whole.Goals as goal

pub returns : goal.returns
returns c = read_is row_at c.args.bytes.now c.in_ok-row.row c.in_ok-row.rest.now (bytes_from c.args.bytes.now (λ i. omega (arith, c.type_inv.bytes i))) c.in_ok-row.ensures (sym c.if-not-is_empty.ensures)
