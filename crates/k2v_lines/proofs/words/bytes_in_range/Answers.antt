use Rattle.std.proofs.Common.{arith}
use Rattle.row_codec.specs.NumberLaws.{bytes_from}
use Rattle.k2v_lines.proofs.words.bytes_in_range.Goals as goal

pub returns : goal.returns
returns c = bytes_from c.args.bytes.now (λ i. omega (arith, c.type_inv.bytes i))
