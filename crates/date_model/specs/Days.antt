-- The days of the calendar (ISO 8601) from 1970 on.
use Rattle.std.specs.Prelude.{◌≡◌, ℕ, zero, suc, ◌+◌, ◌/◌, ◌%◌, pos, nat_lt, if◌then◌else◌}
use Rattle.jiff_core.specs.declared.civil.date.Date.{Date}
use Rattle.jiff_core.specs.declared.civil.datetime.DateTime.{DateTime}
use Rattle.jiff_core.specs.Calendar.{days_in_month}
use Rattle.jiff_core.specs.Time.{time_seconds}

-- a day of the calendar
pub record Day : Type 0 where
  pub year : ℕ
  pub mon : ℕ
  pub day : ℕ

-- the day after another: the next of its month, or the first of the next month, or the first of the next year
abbrev pub next_day : Day → Day
next_day x =
    if nat_lt x.day (days_in_month (pos x.year) x.mon) then record { year = x.year; mon = x.mon; day = x.day + 1 }
    else (if nat_lt x.mon 12 then record { year = x.year; mon = x.mon + 1; day = 1 } else record { year = x.year + 1; mon = 1; day = 1 })

-- the day that comes so many days after 1 January 1970
unfoldable pub day_after : ℕ → Day
day_after zero = record { year = 1970; mon = 1; day = 1 }
day_after (suc n) = next_day (day_after n)

-- jiff's date is the day
abbrev pub IsOn : Day → Date → Type 0
IsOn x d = (d.year ≡ pos x.year) × (d.month ≡ x.mon) × (d.day ≡ x.day)

-- jiff's date and time are those of a time in milliseconds since 1970: its day, the second of the day, and the rest
pub record IsShown (ms : ℕ) (dt : DateTime) : Type 0 where
  pub date : IsOn (day_after (ms / 1000 / 86400)) dt.date
  pub clock : time_seconds dt.time ≡ ms / 1000 % 86400
  pub milli : dt.time.subsec_nanosecond / 1000000 ≡ ms % 1000
