use Rattle.std.proofs.Common.{◌≤◌, length, arith}
use Rattle.lab_main.specs.Limits.{input_limit}
use Rattle.serve_run.specs.Plan.{IsSaid}
use Rattle.serve_run.specs.Stop.{IsOfInput}
use Rattle.lab_main.proofs.Input.{longer, not_longer, of_all}
use Rattle.serve_run.proofs.Input.{handed_on, input_of_text}
use Rattle.serve_run.proofs.plan.read_plan.Goals as goal

pub returns-then-len-gt-INPUT_LIMIT-clause-causes : goal.returns-then-len-gt-INPUT_LIMIT-clause-causes
returns-then-len-gt-INPUT_LIMIT-clause-causes g c =
    longer (g.I.Source.left c.args.input.now) input_limit c.in_ok-bytes.bytes.items (omega (arith, c.in_ok-bytes.bytes.ok.0, c.len.ensures, c.if-len-gt-INPUT_LIMIT.true)) c.in_ok-bytes.ensures.bytes

pub returns-in_err-plan-clause-causes : goal.returns-in_err-plan-clause-causes
returns-in_err-plan-clause-causes g c =
    let less : length c.in_ok-bytes.bytes.items ≤ input_limit = omega (arith, c.in_ok-bytes.bytes.ok.0, c.len.ensures, c.if-len-gt-INPUT_LIMIT.false) in
    let left = g.I.Source.left c.args.input.now in
    handed_on (IsOfInput left) c.from_residual-in_err-plan.result c.in_err-plan.field-0.0 c.from_residual-in_err-plan.ensures.1
    (input_of_text left c.in_ok-bytes.bytes.items less c.in_ok-bytes.ensures.bytes c.in_ok-bytes.ensures.short c.in_err-plan.field-0.0 (rw c.deref.ensures.value at c.in_err-plan.ensures.causes))

pub returns-clause-read : goal.returns-clause-read
returns-clause-read g c =
    let left = g.I.Source.left c.args.input.now in
    let less : length c.in_ok-bytes.bytes.items ≤ input_limit = omega (arith, c.in_ok-bytes.bytes.ok.0, c.len.ensures, c.if-len-gt-INPUT_LIMIT.false) in
    record {
      is_plan = c.in_ok-plan.ensures.plan;
      said =
          of_all (λ bytes. IsSaid bytes c.in_ok-plan.plan) left input_limit c.in_ok-bytes.bytes.items (not_longer left input_limit c.in_ok-bytes.bytes.items less c.in_ok-bytes.ensures.bytes c.in_ok-bytes.ensures.short)
          (rw c.deref.ensures.value at c.in_ok-plan.ensures.said);
    }
