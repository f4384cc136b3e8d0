use Rattle.std.proofs.Common.{◌≡◌, List, ℕ, IfOk, subst, ◌∙◌}
use Rattle.s3_model.specs.Lines.{xml_answer}
use Rattle.s3_answer.proofs.reply.copied.Goals as goal

pub returns-clause-text : goal.returns-clause-text
returns-clause-text c =
    let P : List ℕ → Type 0 = λ body. IfOk c.xml_answer.result (λ t. t ≡ xml_answer 200 c.args.now c.args.close body) in
    subst P (c.as_slice.ensures ∙ c.in_ok-body.ensures.text) c.xml_answer.ensures.text
