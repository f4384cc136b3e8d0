-- What a list asks (ListObjectsV2): where it starts, how many entries it shows, and how they are written.
use Rattle.std.specs.Prelude.{ℕ, Bool, true, false, ◌&&◌, ◌==◌, min, List, [], ◌∷◌, codes, bytes_eq, Option, Some, None, option_map, option_and_then, unwrap_or, if◌then◌else◌}
use Rattle.std.specs.List.{list_any, list_all}
use Rattle.std.specs.Result.{result_ok}
use Rattle.hex.specs.Hex.{decode_of}
use Rattle.s3_model.specs.declared.ask.Ask.{Ask}
use Rattle.s3_model.specs.declared.ask.Ask.TheVariants.{List as Listing, BadList}
use Rattle.s3_model.specs.declared.page.After.{After}
use Rattle.s3_model.specs.declared.page.After.TheVariants.{Key, Prefix}
use Rattle.s3_model.specs.Words.{is_text, first_named}
use Rattle.s3_model.specs.Numbers.{number_in}

-- the parameters that a list may have
abbrev pub list_names : List (List ℕ)
list_names = codes "list-type" ∷ codes "prefix" ∷ codes "delimiter" ∷ codes "max-keys" ∷ codes "continuation-token" ∷ codes "start-after" ∷ codes "encoding-type" ∷ codes "fetch-owner" ∷ []

-- the parameters are those of a list, whose list-type is 2
abbrev pub is_list : List (List ℕ × List ℕ) → Bool
is_list parameters = is_text (first_named parameters (codes "list-type")) (codes "2") && list_all (λ p. list_any (λ name. bytes_eq p.0 name) list_names) parameters

-- how many entries a page shows, by default and at most
abbrev pub page_limit : ℕ
page_limit = 1000

-- how many entries are shown, if max-keys is a number of nine digits at most
abbrev pub max_of : Option (List ℕ) → Option ℕ
max_of None = Some page_limit
max_of (Some text) = option_map (λ n. min n page_limit) (number_in 9 text)

-- keys are percent-encoded in the answer where encoding-type is `url`, and it may have no other value
abbrev pub url_of : Option (List ℕ) → Option Bool
url_of None = Some false
url_of (Some text) = if bytes_eq text (codes "url") then Some true else None

-- the bytes of a token: `k` and a key, or `p` and a common prefix
abbrev pub after_marked : List ℕ → Option After
after_marked [] = None
after_marked (b ∷ bs) = if b == 107 then Some (Key bs) else if b == 112 then Some (Prefix bs) else None

-- where a list goes on whose token this is; a token is the hexadecimal of such bytes
abbrev pub after_token : List ℕ → Option After
after_token token = option_and_then after_marked (result_ok (decode_of token))

-- where a list starts: a token wins over start-after
abbrev pub after_of : Option (List ℕ) → Option (List ℕ) → Option After
after_of (Some token) start = after_token token
after_of None start = Some (Key (unwrap_or start []))

-- the list of a bucket, if each of its parameters may be so
abbrev pub list_with : List ℕ → List (List ℕ × List ℕ) → Option ℕ → Option Bool → Option After → Ask
list_with bucket parameters None url after = BadList bucket
list_with bucket parameters (Some max) None after = BadList bucket
list_with bucket parameters (Some max) (Some url) None = BadList bucket
list_with bucket parameters (Some max) (Some url) (Some after) =
    let delimiter = first_named parameters (codes "delimiter") in
    Listing bucket
    (record { prefix = unwrap_or (first_named parameters (codes "prefix")) []; delimiter = unwrap_or delimiter []; after = after; max = max })
    delimiter url (first_named parameters (codes "continuation-token")) (first_named parameters (codes "start-after"))

-- what the parameters of a list ask of a bucket
abbrev pub list_of : List ℕ → List (List ℕ × List ℕ) → Ask
list_of bucket parameters =
    list_with bucket parameters (max_of (first_named parameters (codes "max-keys"))) (url_of (first_named parameters (codes "encoding-type")))
    (after_of (first_named parameters (codes "continuation-token")) (first_named parameters (codes "start-after")))
