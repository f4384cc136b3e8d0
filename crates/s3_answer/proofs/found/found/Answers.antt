use Rattle.std.proofs.Common.{◌++◌, ℕ, List, sym, ap, ◌∙◌, []}
use Rattle.s3_model.specs.Answer.{found_text}
use Rattle.s3_answer.proofs.Portions.{head_then}
use Rattle.s3_answer.proofs.found.found.Goals as goal

pub returns-clause-text : goal.returns-clause-text
returns-clause-text c =
    let meta = c.args.meta.now in
    let head = found_text c.args.range c.args.version meta [] c.args.now c.args.close in
    c.in_ok-extend_from_slice.ensures.ok
    ∙ ap (λ (t : List ℕ). t ++ c.take.result.0.now) c.in_ok-out.ensures.text
    ∙ ap (λ (t : List ℕ). head ++ t) c.take.ensures.taken
    ∙ sym (head_then c.args.version meta c.args.body.now c.args.now c.args.close c.args.range c.in-Some.portion (sym c.of.ensures ∙ c.in-Some.is))
