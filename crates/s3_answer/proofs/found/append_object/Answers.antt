use Rattle.std.proofs.Common.{◌++◌, List, ℕ, codes, ap, ◌∙◌}
use Rattle.s3_model.specs.Lines.{header_line, stored_lines}
use Rattle.s3_answer.proofs.Appends.{five}
use Rattle.s3_answer.proofs.found.append_object.Goals as goal

pub returns-clause-ok : goal.returns-clause-ok
returns-clause-ok c =
    five c.append_header-2.result _ _ _ _ _ _ _ _ _ _ _
    c.in_ok-append_length.ensures.ok
    c.in_ok-append_etag.ensures.ok
    (c.in_ok-append_header.ensures.ok ∙ ap (λ (t : List ℕ). c.append_etag.new.out ++ header_line (codes "Last-Modified") t) c.http_date.ensures)
    (c.in_ok-append_stored.ensures.ok ∙ ap (λ (h : List (List ℕ × List ℕ)). c.append_header.new.out ++ stored_lines h) c.as_slice.ensures)
    c.append_header-2.ensures.ok
