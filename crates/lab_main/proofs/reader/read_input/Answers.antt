use Rattle.std.proofs.Common.{arith, inr}
use Rattle.lab_main.specs.Limits.{input_limit}
use Rattle.lab_main.proofs.Input.{longer, not_longer}
use Rattle.lab_main.proofs.reader.read_input.Goals as goal

pub returns-then-len-gt-INPUT_LIMIT-clause-reads : goal.returns-then-len-gt-INPUT_LIMIT-clause-reads
returns-then-len-gt-INPUT_LIMIT-clause-reads g c = record {
  end = tt;
  long = λ e. longer (g.I.Source.left c.args.input.now) input_limit c.in_ok-bytes.bytes.items (omega (arith, c.in_ok-bytes.bytes.ok.0, c.len.ensures, c.if-len-gt-INPUT_LIMIT.true)) c.in_ok-bytes.ensures.bytes;
  read = λ s. c.in_ok-bytes.ensures.left;
  fault = λ e. cc;
  told = inr c.in_ok-bytes.ensures.steady;
}

pub returns-clause-bytes : goal.returns-clause-bytes
returns-clause-bytes g c =
    not_longer (g.I.Source.left c.args.input.now) input_limit c.in_ok-bytes.bytes.items (omega (arith, c.in_ok-bytes.bytes.ok.0, c.len.ensures, c.if-len-gt-INPUT_LIMIT.false)) c.in_ok-bytes.ensures.bytes c.in_ok-bytes.ensures.short
