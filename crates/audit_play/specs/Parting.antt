-- Where a transcript and the text of a run part.
use Rattle.std.specs.Prelude.{◌≡◌, ℕ, ◌+◌, ◌==◌, ◌&&◌, ◌⊎◌, if◌then◌else◌, nat_eq, Option, Some, None, List, [], ◌∷◌, ◌++◌, length, take, drop, count_by}
use Rattle.std.specs.List.{common_prefix_len}

-- the text is empty or ends with a line feed
abbrev pub IsWhole : List ℕ → Type 0
IsWhole text = (text ≡ []) ⊎ ((first : List ℕ) × (text ≡ first ++ 10 ∷ []))

-- the number of the line in which a place of a text is, counted from 1
abbrev pub line_at : List ℕ → ℕ → ℕ
line_at text place = count_by (λ b. b == 10) (take place text) + 1

-- how many bytes of what was told stand in a text from a place on
abbrev pub same_from : List ℕ → ℕ → List ℕ → ℕ
same_from text place told = common_prefix_len nat_eq (drop place text) told

-- the first line in which what stands in a text from a place on differs from what was told, as far as that goes
abbrev pub differs_in : List ℕ → ℕ → List ℕ → Option ℕ
differs_in text place told = let same = same_from text place told in if same == length told then None else Some (line_at text (place + same))

-- the same where nothing may follow
abbrev pub ends_in : List ℕ → ℕ → List ℕ → Option ℕ
ends_in text place told =
    let same = same_from text place told in if (same == length told) && (place + same == length text) then None else Some (line_at text (place + same))
