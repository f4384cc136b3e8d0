-- How names and values are compared: header names, and some words in header values, without case (RFC 9110, section 5.1).
use Rattle.std.specs.Prelude.{ℕ, Bool, false, ◌||◌, ◌==◌, List, [], ◌∷◌, length, take, map, filter, find, bytes_eq, Option, Some, None, option_map}
use Rattle.std.specs.Str.{str_eq_ignore_ascii_case}

-- a text has no bytes
abbrev pub is_empty : {A : Type 0} → List A → Bool
is_empty items = length items == 0

-- two texts are the same but for the case of ASCII letters
abbrev pub is_word : List ℕ → List ℕ → Bool
is_word text word = str_eq_ignore_ascii_case text word

-- a text begins with a word, without case
abbrev pub begins_word : List ℕ → List ℕ → Bool
begins_word text word = is_word (take (length word) text) word

-- a word, without case, begins in some place of a text
abbrev pub holds_word : List ℕ → List ℕ → Bool
holds_word [] word = begins_word [] word
holds_word (b ∷ bs) word = begins_word (b ∷ bs) word || holds_word bs word

-- a text is this one; none is another
abbrev pub is_text : Option (List ℕ) → List ℕ → Bool
is_text None word = false
is_text (Some text) word = bytes_eq text word

-- the same without case
abbrev pub is_said : Option (List ℕ) → List ℕ → Bool
is_said None word = false
is_said (Some text) word = is_word text word

-- the first value with this name among pairs of name and value; names are compared by the byte
abbrev pub first_named : List (List ℕ × List ℕ) → List ℕ → Option (List ℕ)
first_named pairs name = option_map (λ p. p.1) (find (λ p. bytes_eq p.0 name) pairs)

-- the value of the first header with this name
abbrev pub header : List (List ℕ × List ℕ) → List ℕ → Option (List ℕ)
header headers name = option_map (λ h. h.1) (find (λ h. is_word h.0 name) headers)

-- the values of all headers with this name
abbrev pub all_values : List (List ℕ × List ℕ) → List ℕ → List (List ℕ)
all_values headers name = map (λ h. h.1) (filter (λ h. is_word h.0 name) headers)
