-- Dates that are written YYYYMMDDTHHMMSSZ, the basic format of ISO 8601.
use Rattle.std.specs.Prelude.{ℕ, ◌+◌, ◌*◌, Bool, ◌&&◌, ◌==◌, nat_lt, List, length, take, slice_index, Option, Some, None, Result, Ok, Err, pos, ◌+ℤ◌, unsigned_abs, if◌then◌else◌}
use Rattle.std.specs.List.{list_all, slice_range}
use Rattle.std.specs.Char.{is_ascii_digit}
use Rattle.jiff_core.specs.Calendar.{days_from_civil}
use Rattle.jiff_core.specs.declared.error.Error.{Error}
use Rattle.jiff_fmt.specs.Temporal.{DateParts, TimeParts, parse_datetime}

-- 16 bytes, with T and Z in their places and digits in all others, and less than 60 seconds
unfoldable pub has_form : List ℕ → Bool
has_form text =
    (length text == 16) && (list_all is_ascii_digit (take 8 text) && ((slice_index text 8 == 84) && (list_all is_ascii_digit (slice_range text 9 15) && ((slice_index text 15 == 90) && nat_lt (slice_index text 13) 54))))

-- how many days before 1970 the first of jiff's calendar is, 1 January of the year -9999
abbrev pub epoch_days : ℕ
epoch_days = 4371587

-- the seconds of a date and a time of UTC, from that first day on
abbrev pub seconds_at : DateParts → TimeParts → ℕ
seconds_at d t = unsigned_abs (days_from_civil d.year d.month d.day +ℤ pos epoch_days) * 86400 + (t.hour * 3600 + t.minute * 60 + t.second)

-- the seconds of what was read
abbrev pub seconds_read : Result (DateParts × TimeParts) Error → Option ℕ
seconds_read (Ok (d, t)) = Some (seconds_at d t)
seconds_read (Err e) = None

-- the seconds of a date, where the text is one; all but its Z is read as `jiff` reads a date and a time
unfoldable pub seconds_of : List ℕ → Option ℕ
seconds_of text = if has_form text then seconds_read (parse_datetime (take 15 text)) else None
