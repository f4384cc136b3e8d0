use Rattle.std.proofs.Common.{◌≡◌, pos, ◌+ℤ◌, unsigned_abs, ap, arith}
use Rattle.jiff_core.specs.Date.{epoch_day}
use Rattle.sig_v4.proofs.clock.seconds_at.Goals as goal

pub returns : goal.returns
returns c =
    let days : unsigned_abs (epoch_day c.args.civil.date +ℤ pos 4371587) ≡ c.days_since_min.result = ap unsigned_abs c.days_since_min.ensures.value in
    omega (arith, days, c.to_second.ensures.value)
