use Rattle.std.proofs.Common.{◌≡◌, ◌*◌, ◌<◌, ◌^◌, ℤ, ◌+ℤ◌, ◌*ℤ◌, min, pos, w64, ap, ◌∙◌, arith}
use Rattle.std.proofs.Math.Nat.{min-le_right}
use Rattle.std.proofs.lemmas.Int.{to_z_pos}
use Rattle.jiff_core.specs.DateTime.{civil_nanos}
use Rattle.jiff_core.proofs.SignedLemmas.{signed_arith}
use Rattle.s3_model.specs.Dates.{last_time}
use Rattle.date_model.proofs.Civil.{shown_at}
use Rattle.s3_answer.proofs.times.civil_at.Goals as goal

pub returns : goal.returns
returns c =
    let small : c.min.result < 2 ^ 63 = omega (arith, c.min.ensures, min-le_right c.args.ms last_time) in
    let value : c.in-Ok.instant.nanosecond ≡ pos c.min.result *ℤ pos 1000000 = c.in-Ok.ensures.value ∙ ap (λ (z : ℤ). z *ℤ pos 1000000) (to_z_pos w64 c.min.result small) in
    let at : civil_nanos c.to_datetime.result ≡ c.in-Ok.instant.nanosecond +ℤ pos 0 = c.to_datetime.ensures in
    let same : civil_nanos c.to_datetime.result ≡ pos (min c.args.ms last_time * 1000000) = omega (arith, signed_arith, at, value, c.min.ensures) in
    shown_at (min c.args.ms last_time) c.to_datetime.result same
