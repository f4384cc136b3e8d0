use Rattle.std.proofs.Common.{◌≡◌, ℕ, List, ◌++◌, take, drop, sym, ap, ◌∙◌}
use Rattle.s3_answer.specs.Portions.{first_of}
use Rattle.s3_answer.proofs.Portions.{later_all, later_some}
use Rattle.s3_answer.proofs.portion.Portion.take.Goals as goal

pub returns-in-Some-clause-later : goal.returns-in-Some-clause-later
returns-in-Some-clause-later c = λ more.
    ap (λ count. first_of count (drop c.args.self.skip (c.args.bytes.now ++ more))) c.in-Some.is
    ∙ later_some c.args.self.skip c.saturating_sub-skip.result c.in-Some.count c.saturating_sub.result c.args.bytes.now more c.from_place-rest.result.now c.from_place-rest.ensures c.saturating_sub-skip.ensures c.saturating_sub.ensures
    ∙ ap (λ (t : List ℕ). t ++ take c.saturating_sub.result (drop c.saturating_sub-skip.result more)) (sym c.first_bytes-taken.ensures)

pub returns-in-None-clause-later : goal.returns-in-None-clause-later
returns-in-None-clause-later c = λ more.
    ap (λ count. first_of count (drop c.args.self.skip (c.args.bytes.now ++ more))) c.in-None.is
    ∙ later_all c.args.self.skip c.saturating_sub-skip.result c.args.bytes.now more c.from_place-rest.result.now c.from_place-rest.ensures c.saturating_sub-skip.ensures
