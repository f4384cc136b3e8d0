use Rattle.std.proofs.Common.{◌++◌, List, ℕ, codes, decimal, ap, ◌∙◌}
use Rattle.s3_model.specs.Xml.{element}
use Rattle.s3_answer.proofs.Appends.{five}
use Rattle.s3_answer.proofs.list.append_counted.Goals as goal

pub returns-clause-ok : goal.returns-clause-ok
returns-clause-ok c =
    five c.append_given_key.result _ _ _ _ _ _ _ _ _ _ _
    (c.in_ok-append_count.ensures.ok ∙ ap (λ (n : ℕ). c.args.out.now ++ element (codes "KeyCount") (decimal n)) c.len.ensures)
    (c.in_ok-append_element.ensures.ok ∙ ap (λ (t : List ℕ). c.append_count.new.out ++ element (codes "IsTruncated") t) c.truth.ensures)
    c.in_ok-append_given.ensures.ok
    c.in_ok-append_next.ensures.ok
    c.append_given_key.ensures.ok
