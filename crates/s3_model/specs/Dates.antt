-- The two ways in which a time is written: a date of HTTP (RFC 9110, section 5.6.7) and a time of a list (ISO 8601).
use Rattle.std.specs.Prelude.{ℕ, ◌+◌, ◌/◌, ◌%◌, min, List, [], ◌∷◌, ◌++◌, codes}
use Rattle.httpdate.specs.declared.parts.Parts.{Parts}
use Rattle.httpdate.specs.Calendar.{weekday}
use Rattle.httpdate.specs.Text.{two_digits, four_digits, imf_fixdate}
use Rattle.date_model.specs.Days.{Day, day_after}

-- the calendar and the clock so many seconds after the first of 1970
abbrev pub parts_of : ℕ → Parts
parts_of secs =
    let x = day_after (secs / 86400) in
    let time = secs % 86400 in
    record { year = x.year; mon = x.mon; day = x.day; hour = time / 3600; min = time % 3600 / 60; sec = time % 3600 % 60; wday = weekday (secs / 86400) }

-- the greatest time that is written, in milliseconds since 1970; a later one is written as this one
abbrev pub last_time : ℕ
last_time = 253402200000000

-- a time in milliseconds as a date of HTTP, in whole seconds: `Tue, 14 Nov 2023 22:13:20 GMT`
unfoldable pub http_date : ℕ → List ℕ
http_date ms = imf_fixdate (parts_of (min ms last_time / 1000))

-- a number below 1000 in three digits
abbrev pub three_digits : ℕ → List ℕ
three_digits n = (48 + n / 100) ∷ two_digits (n % 100)

-- year, month and day, with hyphens
abbrev pub day_digits : Day → List ℕ
day_digits x = four_digits x.year ++ codes "-" ++ two_digits x.mon ++ codes "-" ++ two_digits x.day

-- hour, minute and second of a day's second, with colons
abbrev pub clock_digits : ℕ → List ℕ
clock_digits time = two_digits (time / 3600) ++ codes ":" ++ two_digits (time % 3600 / 60) ++ codes ":" ++ two_digits (time % 3600 % 60)

-- the day and the clock so many seconds after the first of 1970
abbrev pub second_digits : ℕ → List ℕ
second_digits secs = day_digits (day_after (secs / 86400)) ++ codes "T" ++ clock_digits (secs % 86400)

-- a time in milliseconds as lists write it: `2023-11-14T22:13:20.000Z`
unfoldable pub list_time : ℕ → List ℕ
list_time ms = second_digits (min ms last_time / 1000) ++ codes "." ++ three_digits (min ms last_time % 1000) ++ codes "Z"
