-- Numbers in requests: decimal digits, of which there may be leading zeros.
use Rattle.std.specs.Prelude.{ℕ, Bool, ◌&&◌, not, nat_le, List, length, Option, Some, None, if◌then◌else◌}
use Rattle.std.specs.Char.{is_ascii_digit}
use Rattle.std.specs.List.{list_all}
use Rattle.std.specs.Str.Parse.{digits_value}
use Rattle.s3_model.specs.Words.{is_empty}

-- a text is one digit or more, up to so many
abbrev pub is_number : ℕ → List ℕ → Bool
is_number most text = not (is_empty text) && (nat_le (length text) most && list_all (λ b. is_ascii_digit b) text)

-- the number that a text of so many digits at most writes
abbrev pub number_in : ℕ → List ℕ → Option ℕ
number_in most text = if is_number most text then Some (digits_value 10 text) else None

-- how many digits a length or a place may have
abbrev pub digit_limit : ℕ
digit_limit = 18
