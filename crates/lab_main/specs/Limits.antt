-- How long an input may be, and what is written at limits that programs share.
use Rattle.std.specs.Prelude.{ℕ, List, [], ◌∷◌, ◌++◌, codes}

-- how many bytes the input may have
abbrev pub input_limit : ℕ
input_limit = 8388608

-- the input is longer than the programs take
abbrev pub input_line : List ℕ
input_line = codes "limit input 8388608" ++ 10 ∷ []

-- a number would pass its type's greatest value, or a row has no spelling
abbrev pub number_line : List ℕ
number_line = codes "limit number" ++ 10 ∷ []
