use Rattle.std.proofs.Common.{◌≡◌, ℕ, Option, Some, false, length, ◌-◌, slice_get, ap, sym, ◌∙◌}
use Rattle.std.specs.Option.{option_copied}
use Rattle.std.proofs.lemmas.Option.{same_Some}
use Rattle.http_wire.proofs.Lines.{no_line_end}
use Rattle.http_wire.proofs.end.ends_in_empty_line.Goals as goal

-- what ends with another byte, or has none
pub returns-in_default : goal.returns-in_default
returns-in_default c =
    sym (no_line_end c.args.front.now (λ e.
    let there : ◌≡◌ {A = Option ℕ} (Some c.in_default.field-0.now) (Some 10) = sym (ap option_copied c.in_default.is) ∙ (c.last.ensures.value ∙ e) in
    let is = c.in_default.field-0-is in
    let here : c.in_default.field-0.now ≡ 10 = same_Some c.in_default.field-0.now 10 there in
    c.in_default.field-0-test.1 cc))
