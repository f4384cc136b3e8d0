use Rattle.std.proofs.Common.{◌≡◌, List, ℕ, Some, IfOk, sym, subst, ◌∙◌}
use Rattle.s3_model.specs.declared.ask.Ask.{Ask}
use Rattle.s3_model.specs.Lines.{xml_answer}
use Rattle.s3_model.specs.Answer.{page_text}
use Rattle.s3_answer.proofs.reply.listed.Goals as goal

pub returns-in_ok-body-in-List-clause-text : goal.returns-in_ok-body-in-List-clause-text
returns-in_ok-body-in-List-clause-text c =
    let P : List ℕ → Type 0 = λ body. IfOk c.xml_answer.result (λ t. t ≡ xml_answer 200 c.args.now c.args.close body) in
    let Q : Ask → Type 0 = λ asked. IfOk c.xml_answer.result (λ t. t ≡ page_text (Some asked) c.args.page.now c.args.now c.args.close) in
    subst Q (sym c.in-List.is) (subst P (c.as_slice.ensures ∙ c.in_ok-body-in-List.ensures.text) c.xml_answer.ensures.text)
