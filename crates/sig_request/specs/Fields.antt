-- The headers of a request as they are signed.
use Rattle.std.specs.Prelude.{ℕ, Bool, true, not, ◌&&◌, ◌||◌, cond, List, [], ◌∷◌, ◌++◌, map, take, codes}
use Rattle.std.specs.List.{flat_map, join_with_byte, list_all, list_any}
use Rattle.std.specs.Char.{to_ascii_lowercase}
use Rattle.layout_roles.specs.Zones.{same_name}
use Rattle.http_model.specs.declared.head.Head.{Head}
use Rattle.sig_request.specs.Texts.{is_less, words}

-- the name in lower case, and the value
abbrev pub field_of : (List ℕ × List ℕ) → (List ℕ × List ℕ)
field_of header = (map to_ascii_lowercase header.0, header.1)

-- the headers of a request, with their names in lower case
abbrev pub fields_of : Head → List (List ℕ × List ℕ)
fields_of head = map field_of head.headers

-- the values of the fields of a name, in their order
abbrev pub values_of : List ℕ → List (List ℕ × List ℕ) → List (List ℕ)
values_of name [] = []
values_of name (field ∷ fields) = cond (same_name field.0 name) (field.1 ∷ values_of name fields) (values_of name fields)

-- without the spaces around it, and with one space for each run of them
abbrev pub plain_value : List ℕ → List ℕ
plain_value value = join_with_byte 32 (words 32 value)

-- a name's line: the name, and its values with commas between
abbrev pub field_line : List (List ℕ × List ℕ) → List ℕ → List ℕ
field_line fields name = name ++ codes ":" ++ join_with_byte 44 (map plain_value (values_of name fields)) ++ codes "\n"

-- the lines of the names that are signed
abbrev pub field_lines : List (List ℕ × List ℕ) → List (List ℕ) → List ℕ
field_lines fields names = flat_map (field_line fields) names

-- each name is above the one before it
abbrev pub ascend_after : List ℕ → List (List ℕ) → Bool
ascend_after last [] = true
ascend_after last (name ∷ names) = is_less last name && ascend_after name names

-- the request has a field of this name
abbrev pub has_field : List (List ℕ × List ℕ) → List ℕ → Bool
has_field fields name = list_any (λ field. same_name field.0 name) fields

-- one of the names is this
abbrev pub has_name : List (List ℕ) → List ℕ → Bool
has_name names name = list_any (same_name name) names

-- the name begins with x-amz-
abbrev pub is_of_amazon : List ℕ → Bool
is_of_amazon name = same_name (take 6 name) (codes "x-amz-")

-- the field need not be signed, or is
abbrev pub is_covered : List (List ℕ) → (List ℕ × List ℕ) → Bool
is_covered names field = not (is_of_amazon field.0) || has_name names field.0

-- names that may be signed: none is empty, they ascend, the request has each, and host and all x-amz- fields are among them
abbrev pub may_be_signed : List (List ℕ × List ℕ) → List (List ℕ) → Bool
may_be_signed fields names =
    ascend_after [] names && (list_all (has_field fields) names && (has_name names (codes "host") && list_all (is_covered names) fields))
