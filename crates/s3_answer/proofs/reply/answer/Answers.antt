use Rattle.std.proofs.Common.{◌≡◌, List, ℕ, IfOk, sym, subst}
use Rattle.std.specs.Option.{option_copied}
use Rattle.s3_model.specs.declared.reply.Reply.{Reply}
use Rattle.s3_model.specs.Answer.{answer_text, buckets_text}
use Rattle.s3_answer.proofs.reply.answer.Goals as goal

pub returns-in-Buckets-clause-text : goal.returns-in-Buckets-clause-text
unfolding answer_text
returns-in-Buckets-clause-text c =
    let P : List (List ℕ) → Type 0 = λ names. IfOk c.buckets.result (λ t. t ≡ buckets_text names c.args.now c.args.close) in
    let Q : Reply → Type 0 = λ reply. IfOk c.buckets.result (λ t. t ≡ answer_text (option_copied c.args.ask) reply c.args.now c.args.close) in
    subst Q (sym c.in-Buckets.is) (subst P c.as_slice.ensures c.buckets.ensures.text)

pub returns-in-Copied-clause-text : goal.returns-in-Copied-clause-text
unfolding answer_text
returns-in-Copied-clause-text c =
    let Q : Reply → Type 0 = λ reply. IfOk c.copied.result (λ t. t ≡ answer_text (option_copied c.args.ask) reply c.args.now c.args.close) in
    subst Q (sym c.in-Copied.is) c.copied.ensures.text
