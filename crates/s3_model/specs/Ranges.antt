-- Ranges of bytes: what a Range header asks, and which bytes of an object that is.
use Rattle.std.specs.Prelude.{ℕ, ◌-◌, Bool, ◌==◌, ◌||◌, nat_eq, nat_lt, nat_le, min, List, [], ◌∷◌, drop, codes, Option, Some, None, option_map, if◌then◌else◌}
use Rattle.std.specs.List.{list_any, starts_with, before_first, after_first}
use Rattle.s3_model.specs.declared.ask.Range.{Range}
use Rattle.s3_model.specs.declared.ask.Range.TheVariants.{Between, From, Last}
use Rattle.s3_model.specs.Numbers.{number_in, digit_limit}

-- the byte is a hyphen
abbrev pub is_hyphen : ℕ → Bool
is_hyphen b = b == 45

-- from a place up to and with one that isn't before it
abbrev pub between : Option ℕ → Option ℕ → Option Range
between None last = None
between (Some first) None = None
between (Some first) (Some last) = if nat_le first last then Some (Between first last) else None

-- what stands before the hyphen and after it
abbrev pub range_with : List ℕ → List ℕ → Option Range
range_with [] last = option_map Last (number_in digit_limit last)
range_with (d ∷ ds) [] = option_map From (number_in digit_limit (d ∷ ds))
range_with (d ∷ ds) (e ∷ es) = between (number_in digit_limit (d ∷ ds)) (number_in digit_limit (e ∷ es))

-- the two sides of the first hyphen, if there is one
abbrev pub range_in : List ℕ → Option Range
range_in text = if list_any is_hyphen text then range_with (before_first is_hyphen text) (after_first is_hyphen text) else None

-- what the value of a Range header asks: `bytes=A-B`, `bytes=A-` or `bytes=-N`; any other form asks nothing
abbrev pub range_of : List ℕ → Option Range
range_of text = if starts_with nat_eq text (codes "bytes=") then range_in (drop 6 text) else None

-- the first and the last place of the bytes that a range is of an object of this size; none where it starts at or past the end
abbrev pub span_of : Range → ℕ → Option (ℕ × ℕ)
span_of (Between first last) size = if nat_lt first size then Some (first, min last (size - 1)) else None
span_of (From first) size = if nat_lt first size then Some (first, size - 1) else None
span_of (Last count) size = if (count == 0) || (size == 0) then None else Some (size - min count size, size - 1)
