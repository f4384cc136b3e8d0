-- What the target of a request says: its path names a place, its query gives parameters (RFC 3986, section 3).
use Rattle.std.specs.Prelude.{ℕ, Bool, true, not, ◌||◌, ◌==◌, nat_eq, List, [], ◌∷◌, drop, map, filter_map, codes, bytes_eq, Option, Some, None, if◌then◌else◌}
use Rattle.std.specs.List.{starts_with, before_first, after_first, slice_split}
use Rattle.std.specs.Str.{is_utf8}
use Rattle.percent_encoding.specs.Percent.{percent_decode}
use Rattle.s3_model.specs.declared.place.Place.{Place}
use Rattle.s3_model.specs.declared.place.Place.TheVariants.{Root, Bucket, Object}
use Rattle.s3_model.specs.Words.{is_empty}

-- `?`
abbrev pub is_question : ℕ → Bool
is_question b = b == 63

-- `/`
abbrev pub is_slash : ℕ → Bool
is_slash b = b == 47

-- `&`
abbrev pub is_and : ℕ → Bool
is_and b = b == 38

-- `=`
abbrev pub is_equals : ℕ → Bool
is_equals b = b == 61

-- the path is what stands before the first `?`
abbrev pub path_of : List ℕ → List ℕ
path_of target = before_first is_question target

-- the query is what stands after it
abbrev pub query_of : List ℕ → List ℕ
query_of target = after_first is_question target

-- a bucket, and what follows its slash
abbrev pub place_in : List ℕ → List ℕ → Place
place_in bucket [] = Bucket (percent_decode bucket)
place_in bucket (b ∷ bs) = Object (percent_decode bucket) (percent_decode (b ∷ bs))

-- what follows the first slash of a path
abbrev pub place_past_slash : List ℕ → Place
place_past_slash [] = Root
place_past_slash (b ∷ bs) = place_in (before_first is_slash (b ∷ bs)) (after_first is_slash (b ∷ bs))

-- what a path names
abbrev pub place_of : List ℕ → Place
place_of path = place_past_slash (drop 1 path)

-- a key is UTF-8
abbrev pub has_text_key : Place → Bool
has_text_key Root = true
has_text_key (Bucket bucket) = true
has_text_key (Object bucket key) = is_utf8 key

-- no target of a path: it doesn't begin with a slash, or its key isn't UTF-8
abbrev pub is_bad_target : List ℕ → Bool
is_bad_target target = not (starts_with nat_eq target (codes "/")) || not (has_text_key (place_of (path_of target)))

-- `+` is a space in a query
abbrev pub spaced : ℕ → ℕ
spaced b = if b == 43 then 32 else b

-- what a part of a query stands for
abbrev pub query_text : List ℕ → List ℕ
query_text part = percent_decode (map spaced part)

-- the name and the value of a parameter, on both sides of its first `=`
abbrev pub parameter_of : List ℕ → List ℕ × List ℕ
parameter_of piece = (query_text (before_first is_equals piece), query_text (after_first is_equals piece))

-- `x-id` names the operation once more, and is ignored
abbrev pub is_ignored : List ℕ × List ℕ → Bool
is_ignored parameter = bytes_eq parameter.0 (codes "x-id")

-- the parameter, unless it is ignored
abbrev pub if_heeded : List ℕ × List ℕ → Option (List ℕ × List ℕ)
if_heeded parameter = if is_ignored parameter then None else Some parameter

-- the parameter that a piece of a query gives; an empty piece gives none
abbrev pub parameter_in : List ℕ → Option (List ℕ × List ℕ)
parameter_in piece = if is_empty piece then None else if_heeded (parameter_of piece)

-- the parameters of a query, whose pieces stand between `&`
abbrev pub parameters_of : List ℕ → List (List ℕ × List ℕ)
parameters_of query = filter_map parameter_in (slice_split is_and query)
