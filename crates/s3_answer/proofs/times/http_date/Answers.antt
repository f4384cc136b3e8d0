use Rattle.std.proofs.Common.{ℕ, sym, ap, ◌∙◌}
use Rattle.httpdate.specs.Text.{imf_fixdate}
use Rattle.s3_model.specs.Dates.{parts_of, http_date}
use Rattle.s3_answer.proofs.Days.{dates_written}
use Rattle.s3_answer.proofs.times.http_date.Goals as goal

pub returns : goal.returns
unfolding http_date
returns c =
    c.to_bytes.ensures ∙ sym (dates_written c.in-Ok.date)
    ∙ ap (λ (s : ℕ). imf_fixdate (parts_of s)) (c.in-Ok.ensures.value ∙ c.written_second.ensures)
