-- Each day that is counted is a day of jiff's calendar, with that number.
use Rattle.std.proofs.Common.{◌≡◌, ℕ, zero, suc, ◌+◌, ◌<◌, ◌≤◌, ◌⊎◌, inl, inr, Bool, true, false, nat_lt, if◌then◌else◌, refl, sym, ap, ◌∙◌, subst, arith, ℤ, pos, neg_ℤ, ◌+ℤ◌, ◌≤ℤ◌, rules}
use Rattle.std.proofs.lemmas.Bool.{ltb-true, ltb-false, cond-true, cond-false, cases_Bool}
use Rattle.jiff_core.specs.Calendar.{days_in_month, days_from_civil}
use Rattle.jiff_core.proofs.SignedLemmas.{signed_arith}
use Rattle.jiff_core.proofs.CalendarLemmas.{days_in_month_bounds, days_from_civil-day_count, day_count-epoch}
use Rattle.jiff_core.proofs.DateLemmas.{days_from_civil-day, days_from_civil-next_month, days_from_civil-next_year}
use Rattle.date_model.specs.Days.{Day, next_day, day_after}

-- the calendar has the day, and it is this many days after the first
pub record IsDay (n : ℕ) (x : Day) : Type 0 where
  pub year : 1970 ≤ x.year
  pub mon_low : 1 ≤ x.mon
  pub mon_high : x.mon ≤ 12
  pub day_low : 1 ≤ x.day
  pub day_high : x.day ≤ days_in_month (pos x.year) x.mon
  pub days : days_from_civil (pos x.year) x.mon x.day ≡ pos n

first_in : (y m : ℕ) → 1 ≤ days_in_month (pos y) m
first_in y m = let long = days_in_month_bounds (pos y) m in omega arith

december : (y : ℕ) → days_in_month (pos y) 12 ≡ 31
december y = refl

next_is : (n : ℕ) (x : Day) → IsDay n x → (nat_lt x.day (days_in_month (pos x.year) x.mon) ≡ true) ⊎ (nat_lt x.day (days_in_month (pos x.year) x.mon) ≡ false) → (nat_lt x.mon 12 ≡ true) ⊎ (nat_lt x.mon 12 ≡ false) → IsDay (suc n) (next_day x)
next_is n x is (inl more) other =
    let same : next_day x ≡ record { year = x.year; mon = x.mon; day = x.day + 1 } = cond-true (nat_lt x.day (days_in_month (pos x.year) x.mon)) (record { year = x.year; mon = x.mon; day = x.day + 1 }) (if nat_lt x.mon 12 then record { year = x.year; mon = x.mon + 1; day = 1 } else record { year = x.year + 1; mon = 1; day = 1 }) more in
    let within : x.day < days_in_month (pos x.year) x.mon = ltb-true x.day (days_in_month (pos x.year) x.mon) more in
    let P : Day → Type 0 = IsDay (suc n) in
    let number = days_from_civil-day (pos x.year) x.mon (x.day + 1) x.day (omega arith) is.day_low in
    subst P (sym same) (record { year = is.year; mon_low = is.mon_low; mon_high = is.mon_high; day_low = omega arith; day_high = omega arith; days = omega (arith, signed_arith, is.days, number) })
next_is n x is (inr full) (inl more) =
    let same : next_day x ≡ record { year = x.year; mon = x.mon + 1; day = 1 } =
    cond-false (nat_lt x.day (days_in_month (pos x.year) x.mon)) (record { year = x.year; mon = x.mon; day = x.day + 1 }) (if nat_lt x.mon 12 then record { year = x.year; mon = x.mon + 1; day = 1 } else record { year = x.year + 1; mon = 1; day = 1 }) full
    ∙ cond-true (nat_lt x.mon 12) (record { year = x.year; mon = x.mon + 1; day = 1 }) (record { year = x.year + 1; mon = 1; day = 1 }) more in
    let over : days_in_month (pos x.year) x.mon ≤ x.day = ltb-false x.day (days_in_month (pos x.year) x.mon) full in
    let last : x.day ≡ days_in_month (pos x.year) x.mon = omega (arith, is.day_high) in
    let within : x.mon < 12 = ltb-true x.mon 12 more in
    let number = days_from_civil-next_month (pos x.year) x.mon x.day is.mon_low last in
    let P : Day → Type 0 = IsDay (suc n) in
    subst P (sym same) (record { year = is.year; mon_low = omega arith; mon_high = omega arith; day_low = omega arith; day_high = first_in x.year (x.mon + 1); days = omega (arith, signed_arith, is.days, number) })
next_is n x is (inr full) (inr beyond) =
    let same : next_day x ≡ record { year = x.year + 1; mon = 1; day = 1 } =
    cond-false (nat_lt x.day (days_in_month (pos x.year) x.mon)) (record { year = x.year; mon = x.mon; day = x.day + 1 }) (if nat_lt x.mon 12 then record { year = x.year; mon = x.mon + 1; day = 1 } else record { year = x.year + 1; mon = 1; day = 1 }) full
    ∙ cond-false (nat_lt x.mon 12) (record { year = x.year; mon = x.mon + 1; day = 1 }) (record { year = x.year + 1; mon = 1; day = 1 }) beyond in
    let over : days_in_month (pos x.year) x.mon ≤ x.day = ltb-false x.day (days_in_month (pos x.year) x.mon) full in
    let last_month : 12 ≤ x.mon = ltb-false x.mon 12 beyond in
    let twelve : x.mon ≡ 12 = omega (arith, is.mon_high) in
    let long : days_in_month (pos x.year) x.mon ≡ 31 = ap (days_in_month (pos x.year)) twelve ∙ december x.year in
    let last : x.day ≡ 31 = omega (arith, is.day_high) in
    let number = days_from_civil-next_year (pos x.year) (pos (x.year + 1)) (omega (arith, signed_arith)) (omega (arith, signed_arith)) in
    let here : days_from_civil (pos x.year) 12 31 ≡ pos n = rw (twelve, last) at is.days in
    let P : Day → Type 0 = IsDay (suc n) in
    subst P (sym same) (record { year = omega (arith, is.year); mon_low = omega arith; mon_high = omega arith; day_low = omega arith; day_high = first_in (x.year + 1) 1; days = omega (arith, signed_arith, here, number) })

first_day : days_from_civil (pos 1970) 1 1 ≡ pos 0
first_day = omega (arith, signed_arith, days_from_civil-day_count (pos 1970) 1 1, day_count-epoch)

-- the day so many days after the first of 1970
pub day_is : (n : ℕ) → IsDay n (day_after n)
unfolding day_after
day_is zero = record { year = omega arith; mon_low = omega arith; mon_high = omega arith; day_low = omega arith; day_high = first_in 1970 1; days = first_day }
day_is (suc n) = next_is n (day_after n) (day_is n) (cases_Bool (nat_lt (day_after n).day (days_in_month (pos (day_after n).year) (day_after n).mon))) (cases_Bool (nat_lt (day_after n).mon 12))
