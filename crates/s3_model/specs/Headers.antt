-- The headers of a request: which aren't served, what length they announce, and which are stored with an object.
use Rattle.std.specs.Prelude.{ℕ, Bool, false, not, ◌&&◌, ◌||◌, List, [], ◌∷◌, map, filter, codes, bytes_eq, Option, Some, None, option_and_then, unwrap_or, if◌then◌else◌}
use Rattle.std.specs.List.{list_any, list_all}
use Rattle.std.specs.Str.{str_to_ascii_lowercase}
use Rattle.s3_model.specs.Words.{is_word, begins_word, holds_word, header, all_values, is_said}
use Rattle.s3_model.specs.Numbers.{is_number, number_in, digit_limit}
use Rattle.s3_model.specs.Targets.{is_question}

-- one of some words, without case
abbrev pub is_one_of : List (List ℕ) → List ℕ → Bool
is_one_of words text = list_any (λ word. is_word text word) words

-- headers that ask for what isn't served: parts of a body, and conditions
abbrev pub refused_names : List (List ℕ)
refused_names = codes "transfer-encoding" ∷ codes "if-match" ∷ codes "if-none-match" ∷ codes "if-modified-since" ∷ codes "if-unmodified-since" ∷ codes "if-range" ∷ []

-- the header's name alone asks for what isn't served
abbrev pub has_refused_name : List ℕ → Bool
has_refused_name name = is_one_of refused_names name || (begins_word name (codes "x-amz-server-side-encryption") || begins_word name (codes "x-amz-copy-source-if"))

-- the value of the header does: a body in signed pieces, or a copy of one version
abbrev pub has_refused_value : List ℕ → List ℕ → Bool
has_refused_value name value =
    (is_word name (codes "x-amz-content-sha256") && begins_word value (codes "STREAMING-"))
    || ((is_word name (codes "content-encoding") && holds_word value (codes "aws-chunked"))
    || (is_word name (codes "x-amz-copy-source") && list_any is_question value))

-- some header asks for what isn't served
abbrev pub has_refused_header : List (List ℕ × List ℕ) → Bool
has_refused_header headers = list_any (λ h. has_refused_name h.0 || has_refused_value h.0 h.1) headers

-- all lengths that the headers announce
abbrev pub lengths : List (List ℕ × List ℕ) → List (List ℕ)
lengths headers = all_values headers (codes "content-length")

-- two of some texts differ
abbrev pub differ : List (List ℕ) → Bool
differ [] = false
differ (text ∷ texts) = not (list_all (λ other. bytes_eq text other) texts)

-- an announced length isn't a number, or two of them differ
abbrev pub is_bad_length : List (List ℕ × List ℕ) → Bool
is_bad_length headers = not (list_all (λ text. is_number digit_limit text) (lengths headers)) || differ (lengths headers)

-- the length of the body that the headers announce; 0 where they announce none
abbrev pub length_of : List (List ℕ × List ℕ) → ℕ
length_of headers = unwrap_or (option_and_then (λ text. number_in digit_limit text) (header headers (codes "content-length"))) 0

-- the length that an upload announces; 0 where none is announced that is in order
abbrev pub put_length : List (List ℕ × List ℕ) → ℕ
put_length headers = if is_bad_length headers then 0 else length_of headers

-- how many bytes a body may have
abbrev pub body_limit : ℕ
body_limit = 16777216

-- headers that are stored by their name
abbrev pub stored_names : List (List ℕ)
stored_names = codes "content-type" ∷ codes "cache-control" ∷ codes "content-disposition" ∷ codes "content-encoding" ∷ codes "content-language" ∷ codes "expires" ∷ []

-- a header is stored with an object
abbrev pub is_stored : List ℕ × List ℕ → Bool
is_stored h = is_one_of stored_names h.0 || begins_word h.0 (codes "x-amz-meta-")

-- a header is Content-Type, in whatever case
abbrev pub is_content_type : List ℕ × List ℕ → Bool
is_content_type h = is_word h.0 (codes "content-type")

-- of the items that pass a test only the first, and all others
abbrev pub first_alone : {A : Type 0} → (A → Bool) → List A → List A
first_alone test [] = []
first_alone test (x ∷ xs) = if test x then x ∷ filter (λ y. not (test y)) xs else x ∷ first_alone test xs

-- a header as it is stored: its name in lower case
abbrev pub as_stored : List ℕ × List ℕ → List ℕ × List ℕ
as_stored h = (str_to_ascii_lowercase h.0, h.1)

-- the headers of a request that are stored, in its order
abbrev pub own_stored : List (List ℕ × List ℕ) → List (List ℕ × List ℕ)
own_stored headers = map as_stored (first_alone is_content_type (filter is_stored headers))

-- an object whose request names no Content-Type has this one
abbrev pub default_type : List ℕ × List ℕ
default_type = (codes "content-type", codes "application/octet-stream")

-- what is stored with an object; a default Content-Type stands first
abbrev pub stored_headers : List (List ℕ × List ℕ) → List (List ℕ × List ℕ)
stored_headers headers = if list_any is_content_type headers then own_stored headers else default_type ∷ own_stored headers

-- the headers in the place of the source's, where a copy says so
abbrev pub copy_headers : List (List ℕ × List ℕ) → Option (List (List ℕ × List ℕ))
copy_headers headers = if is_said (header headers (codes "x-amz-metadata-directive")) (codes "REPLACE") then Some (stored_headers headers) else None
