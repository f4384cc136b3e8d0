-- The target of a request as it is signed: its path, and its parameters in order.
use Rattle.std.specs.Prelude.{ℕ, Bool, true, false, ◌&&◌, ◌||◌, ◌==◌, cond, if◌then◌else◌, List, [], ◌∷◌, ◌++◌, map, codes}
use Rattle.std.specs.List.{before_first, after_first, join_with_byte}
use Rattle.percent_encoding.specs.Percent.{percent_decode}
use Rattle.layout_roles.specs.Zones.{same_name}
use Rattle.sig_request.specs.declared.query.Parameter.{Parameter}
use Rattle.sig_request.specs.Texts.{is_less, words, escaped}

-- the path stands before the first ?
abbrev pub canonical_path : List ℕ → List ℕ
canonical_path target = escaped true (percent_decode (before_first (λ b. b == 63) target))

-- in a query + is a space
abbrev pub space_of : ℕ → ℕ
space_of b = if b == 43 then 32 else b

-- a name or a value of a query, decoded and encoded anew
abbrev pub recoded : List ℕ → List ℕ
recoded text = escaped false (percent_decode (map space_of text))

-- the first = stands between a name and its value
abbrev pub parameter_of : List ℕ → Parameter
parameter_of word = record { name = recoded (before_first (λ b. b == 61) word); value = recoded (after_first (λ b. b == 61) word) }

-- by name, and then by value, in order of bytes
abbrev pub comes_before : Parameter → Parameter → Bool
comes_before first second = is_less first.name second.name || (same_name first.name second.name && is_less first.value second.value)

-- before the first that is greater
abbrev pub put_parameter : List Parameter → Parameter → List Parameter
put_parameter [] parameter = parameter ∷ []
put_parameter (first ∷ parameters) parameter =
    cond (comes_before parameter first) (parameter ∷ first ∷ parameters) (first ∷ put_parameter parameters parameter)

-- the parameters before, and those of the words, in order
abbrev pub parameters_after : List Parameter → List (List ℕ) → List Parameter
parameters_after before [] = before
parameters_after before (word ∷ words) = parameters_after (put_parameter before (parameter_of word)) words

-- the parameters stand behind the first ?, with & between them; nothing between two & is none
abbrev pub parameters_of : List ℕ → List Parameter
parameters_of target = parameters_after [] (words 38 (after_first (λ b. b == 63) target))

-- name=value
abbrev pub parameter_text : Parameter → List ℕ
parameter_text parameter = parameter.name ++ codes "=" ++ parameter.value

-- the parameters in order
abbrev pub canonical_query : List ℕ → List ℕ
canonical_query target = join_with_byte 38 (map parameter_text (parameters_of target))
