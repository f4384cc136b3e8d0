-- Which bytes of an object are answered.
use Rattle.std.specs.Prelude.{ℕ, List, take, drop, Option, Some, None, option_map}
use Rattle.s3_model.specs.declared.ask.Range.{Range}
use Rattle.s3_model.specs.Ranges.{span_of}
use Rattle.s3_model.specs.Answer.{count_of}
use Rattle.s3_answer.specs.declared.portion.Portion.{Portion}

-- the first of these bytes, so many, or all where no number is said
abbrev pub first_of : Option ℕ → List ℕ → List ℕ
first_of None bytes = bytes
first_of (Some count) bytes = take count bytes

-- those of the bytes to come that are answered
abbrev pub taken : Portion → List ℕ → List ℕ
taken p bytes = first_of p.count (drop p.skip bytes)

-- the bytes of a range of an object of this size, or all of it; none where the range isn't one of the object
abbrev pub portion_of : Option Range → ℕ → Option Portion
portion_of None size = Some (record { skip = 0; count = None })
portion_of (Some range) size = option_map (λ (span : ℕ × ℕ). record { skip = span.0; count = Some (count_of span) }) (span_of range size)
