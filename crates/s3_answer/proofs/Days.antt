-- Each second's date is a date of the calendar, and HTTP writes it so.
use Rattle.std.proofs.Common.{◌≡◌, ℕ, zero, suc, ◌+◌, ◌-◌, ◌*◌, ◌/◌, ◌%◌, ◌<◌, ◌≤◌, ◌⊎◌, inl, inr, Bool, true, false, nat_lt, if◌then◌else◌, refl, sym, ap, ◌∙◌, subst, arith}
use Rattle.std.proofs.lemmas.Bool.{ltb-true, ltb-false, cond-true, cond-false, cases_Bool, cases_lt}
use Rattle.httpdate.specs.declared.date.HttpDate.{HttpDate}
use Rattle.httpdate.specs.Calendar.{days_in_year, days_in_month, days_of_years, days_of_months, days_from_civil, weekday}
use Rattle.httpdate.specs.Valid.{IsValid, parts_secs}
use Rattle.httpdate.specs.Text.{imf_fixdate}
use Rattle.httpdate.specs.Date.{unix_secs, date_text}
use Rattle.httpdate.proofs.CalendarLemmas.{days_of_months_more, days_of_months_all, days_from_civil_year}
use Rattle.httpdate.proofs.ValidLemmas.{is_valid_complete}
use Rattle.httpdate.proofs.Theorems.{date_text_is}
use Rattle.date_model.specs.Days.{Day, next_day, day_after}
use Rattle.s3_model.specs.Dates.{parts_of}

-- the calendar has the day, and it is this many days after the first
record IsDay (n : ℕ) (x : Day) : Type 0 where
  year : 1970 ≤ x.year
  mon_low : 1 ≤ x.mon
  mon_high : x.mon ≤ 12
  day_low : 1 ≤ x.day
  day_high : x.day ≤ days_in_month x.year x.mon
  days : days_from_civil x.year x.mon x.day ≡ n

some_or : (b : Bool) (x y : ℕ) → 1 ≤ x → 1 ≤ y → 1 ≤ (if b then x else y)
some_or true x y h k = h
some_or false x y h k = k

some_day : (y m : ℕ) → 1 ≤ days_in_month y m
some_day y m = some_or _ _ _ (some_or _ 29 28 (omega arith) (omega arith)) (some_or _ 30 31 (omega arith) (omega arith))

pub years_more : (y : ℕ) → 1970 ≤ y → days_of_years (y + 1 - 1970) ≡ days_of_years (y - 1970) + days_in_year y
unfolding days_of_years
years_more y h =
    let step : y + 1 - 1970 ≡ suc (y - 1970) = omega arith in
    let back : 1970 + (y - 1970) ≡ y = omega arith in
    ap days_of_years step ∙ ap (λ k. days_of_years (y - 1970) + days_in_year k) back

months_none : (y : ℕ) → days_of_months y 0 ≡ 0
unfolding days_of_months
months_none y = refl

next_is : (n : ℕ) (x : Day) → IsDay n x → (nat_lt x.day (days_in_month x.year x.mon) ≡ true) ⊎ (nat_lt x.day (days_in_month x.year x.mon) ≡ false) → (nat_lt x.mon 12 ≡ true) ⊎ (nat_lt x.mon 12 ≡ false) → IsDay (suc n) (next_day x)
next_is n x is (inl more) other =
    let same : next_day x ≡ record { year = x.year; mon = x.mon; day = x.day + 1 } = cond-true (nat_lt x.day (days_in_month x.year x.mon)) (record { year = x.year; mon = x.mon; day = x.day + 1 }) (if nat_lt x.mon 12 then record { year = x.year; mon = x.mon + 1; day = 1 } else record { year = x.year + 1; mon = 1; day = 1 }) more in
    let within : x.day < days_in_month x.year x.mon = ltb-true x.day (days_in_month x.year x.mon) more in
    let P : Day → Type 0 = IsDay (suc n) in
    subst P (sym same) (record { year = is.year; mon_low = is.mon_low; mon_high = is.mon_high; day_low = omega arith; day_high = omega arith; days = omega (arith, is.days, is.day_low) })
next_is n x is (inr full) (inl more) =
    let same : next_day x ≡ record { year = x.year; mon = x.mon + 1; day = 1 } =
    cond-false (nat_lt x.day (days_in_month x.year x.mon)) (record { year = x.year; mon = x.mon; day = x.day + 1 }) (if nat_lt x.mon 12 then record { year = x.year; mon = x.mon + 1; day = 1 } else record { year = x.year + 1; mon = 1; day = 1 }) full
    ∙ cond-true (nat_lt x.mon 12) (record { year = x.year; mon = x.mon + 1; day = 1 }) (record { year = x.year + 1; mon = 1; day = 1 }) more in
    let last : days_in_month x.year x.mon ≤ x.day = ltb-false x.day (days_in_month x.year x.mon) full in
    let within : x.mon < 12 = ltb-true x.mon 12 more in
    let months : days_of_months x.year x.mon ≡ days_of_months x.year (x.mon - 1) + days_in_month x.year x.mon = days_of_months_more x.year x.mon is.mon_low in
    let place : days_of_months x.year (x.mon + 1 - 1) ≡ days_of_months x.year x.mon = ap (days_of_months x.year) (omega arith) in
    let P : Day → Type 0 = IsDay (suc n) in
    subst P (sym same) (record { year = is.year; mon_low = omega arith; mon_high = omega arith; day_low = omega arith; day_high = some_day x.year (x.mon + 1); days = omega (arith, is.days, is.day_low, is.day_high) })
next_is n x is (inr full) (inr over) =
    let same : next_day x ≡ record { year = x.year + 1; mon = 1; day = 1 } =
    cond-false (nat_lt x.day (days_in_month x.year x.mon)) (record { year = x.year; mon = x.mon; day = x.day + 1 }) (if nat_lt x.mon 12 then record { year = x.year; mon = x.mon + 1; day = 1 } else record { year = x.year + 1; mon = 1; day = 1 }) full
    ∙ cond-false (nat_lt x.mon 12) (record { year = x.year; mon = x.mon + 1; day = 1 }) (record { year = x.year + 1; mon = 1; day = 1 }) over in
    let last : days_in_month x.year x.mon ≤ x.day = ltb-false x.day (days_in_month x.year x.mon) full in
    let twelve : 12 ≤ x.mon = ltb-false x.mon 12 over in
    let months : days_of_months x.year x.mon ≡ days_of_months x.year (x.mon - 1) + days_in_month x.year x.mon = days_of_months_more x.year x.mon is.mon_low in
    let all : days_of_months x.year x.mon ≡ days_in_year x.year = ap (days_of_months x.year) (omega (arith, is.mon_high)) ∙ days_of_months_all x.year in
    let years : days_of_years (x.year + 1 - 1970) ≡ days_of_years (x.year - 1970) + days_in_year x.year = years_more x.year is.year in
    let none : days_of_months (x.year + 1) (1 - 1) ≡ 0 = months_none (x.year + 1) in
    let P : Day → Type 0 = IsDay (suc n) in
    subst P (sym same) (record { year = omega (arith, is.year); mon_low = omega arith; mon_high = omega arith; day_low = omega arith; day_high = some_day (x.year + 1) 1; days = omega (arith, is.days, is.day_low, is.day_high) })

first_day : days_from_civil 1970 1 1 ≡ 0
unfolding days_of_years days_of_months
first_day = refl

day_is : (n : ℕ) → IsDay n (day_after n)
unfolding day_after
day_is zero = record { year = omega arith; mon_low = omega arith; mon_high = omega arith; day_low = omega arith; day_high = some_day 1970 1; days = first_day }
day_is (suc n) = next_is n (day_after n) (day_is n) (cases_Bool (nat_lt (day_after n).day (days_in_month (day_after n).year (day_after n).mon))) (cases_Bool (nat_lt (day_after n).mon 12))

-- ---- the numbers of a date

seconds_are : (secs days : ℕ) → days ≡ secs / 86400 → days * 86400 + secs % 86400 / 3600 * 3600 + secs % 86400 % 3600 / 60 * 60 + secs % 86400 % 3600 % 60 ≡ secs
seconds_are secs days e = omega arith

parts_are : (secs : ℕ) → parts_secs (parts_of secs) ≡ secs
parts_are secs = seconds_are secs (days_from_civil (day_after (secs / 86400)).year (day_after (secs / 86400)).mon (day_after (secs / 86400)).day) (day_is (secs / 86400)).days

day_of_secs : (days hour min sec : ℕ) → hour < 24 → min < 60 → sec < 60 → (days * 86400 + hour * 3600 + min * 60 + sec) / 86400 ≡ days
day_of_secs days hour min sec h m s = omega arith

-- no date lies in a later year than that of the last
year_fits : (d : HttpDate) → (day_after (unix_secs d / 86400)).year ≤ 9999
year_fits d =
    let x = day_after (unix_secs d / 86400) in
    let is = day_is (unix_secs d / 86400) in
    let same : days_from_civil x.year x.mon x.day ≡ days_from_civil d.parts.year d.parts.mon d.parts.day = is.days ∙ day_of_secs (days_from_civil d.parts.year d.parts.mon d.parts.day) d.parts.hour d.parts.min d.parts.sec d.time.0 d.time.1 d.time.2 in
    elim (cases_lt d.parts.year x.year) [
      | inl later ↦ absurd (let less : days_from_civil d.parts.year d.parts.mon d.parts.day < days_from_civil x.year x.mon x.day = days_from_civil_year d.parts.year d.parts.mon d.parts.day x.year x.mon x.day d.civil later in omega arith)
      | inr sooner ↦ omega (arith, d.civil.0.1)
    ]

parts_are_valid : (d : HttpDate) → IsValid (parts_of (unix_secs d))
parts_are_valid d =
    let is = day_is (unix_secs d / 86400) in
    (((is.year, year_fits d), (is.mon_low, is.mon_high), (is.day_low, is.day_high)), (omega arith, omega arith, omega arith), ap weekday (sym is.days))

-- how a date is written, from its second
pub dates_written : (d : HttpDate) → imf_fixdate (parts_of (unix_secs d)) ≡ date_text d
dates_written d = sym (date_text_is d (parts_of (unix_secs d)) (is_valid_complete (parts_of (unix_secs d)) (parts_are_valid d)) (sym (parts_are (unix_secs d))))
