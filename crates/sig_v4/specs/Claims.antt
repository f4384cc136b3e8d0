-- What a request says of its signature.
use Rattle.std.specs.Prelude.{ℕ, Bool, ◌&&◌, ◌||◌, List, [], ◌∷◌, codes, take, slice_get, Option, None, option_map, option_and_then, Result, Ok, Err}
use Rattle.std.specs.Option.{ok_or}
use Rattle.layout_roles.specs.Zones.{same_name}
use Rattle.layout_text.specs.Values.{keep_if}
use Rattle.layout_text.specs.Settings.{◌>>=◌}
use Rattle.sig_v4.specs.declared.refusal.Refusal.{Refusal}
use Rattle.sig_v4.specs.declared.refusal.Refusal.TheVariants.{Unsigned, Malformed}
use Rattle.sig_v4.specs.declared.claim.Authorization.{Authorization}
use Rattle.sig_v4.specs.declared.claim.Claim.{Claim}
use Rattle.sig_request.specs.Texts.{parts, behind, unspaced, is_digest}
use Rattle.sig_request.specs.Fields.{values_of, may_be_signed}
use Rattle.date_model.specs.Texts.{seconds_of}

-- a value that a well-formed request has
abbrev pub needed : {A : Type 0} → Option A → Result A Refusal
needed found = ok_or found Malformed

-- the value of the one Authorization header
abbrev pub lone_value : List (List ℕ) → Result (List ℕ) Refusal
lone_value [] = Err Unsigned
lone_value (value ∷ []) = Ok value
lone_value (value ∷ other ∷ values) = Err Malformed

-- the three parts of its value, in this order
abbrev pub authorization_of : List (List ℕ) → Option Authorization
authorization_of (first ∷ second ∷ third ∷ []) =
    option_and_then (λ credential. option_and_then (λ names. option_map (λ signature. record { credential = credential; names = names; signature = signature }) (behind (codes "Signature=") (unspaced third))) (behind (codes "SignedHeaders=") (unspaced second))) (behind (codes "AWS4-HMAC-SHA256 Credential=") first)
authorization_of _ = None

-- the id of a credential ID/DATE/REGION/s3/aws4_request for this day and this region
abbrev pub credential_id : List ℕ → List ℕ → List (List ℕ) → Option (List ℕ)
credential_id day region (id ∷ first ∷ second ∷ third ∷ fourth ∷ []) =
    keep_if ((same_name first day && same_name second region) && (same_name third (codes "s3") && same_name fourth (codes "aws4_request"))) id
credential_id day region _ = None

-- the first value that a header has
abbrev pub first_value : List ℕ → List (List ℕ × List ℕ) → Option (List ℕ)
first_value name fields = slice_get (values_of name fields) 0

-- a body that isn't signed, or its digest
abbrev pub is_payload : List ℕ → Bool
is_payload text = same_name text (codes "UNSIGNED-PAYLOAD") || is_digest text

-- the day of a time
abbrev pub day_of : List ℕ → List ℕ
day_of time = take 8 time

-- the parts of the one Authorization header
unfoldable pub authorization_in : List (List ℕ × List ℕ) → Result Authorization Refusal
authorization_in fields = lone_value (values_of (codes "authorization") fields) >>= (λ value. needed (authorization_of (parts 44 value)))

-- what is said of the body
abbrev pub payload_in : List (List ℕ × List ℕ) → Option (List ℕ)
payload_in fields = option_and_then (λ text. keep_if (is_payload text) text) (first_value (codes "x-amz-content-sha256") fields)

-- the names may be signed, and the signature has its form
unfoldable pub is_signed_list : List (List ℕ × List ℕ) → Authorization → Bool
is_signed_list fields authorization = may_be_signed fields (parts 59 authorization.names) && is_digest authorization.signature

-- what the headers claim, where they are well-formed; the first header of a name counts
unfoldable pub claim_in : List ℕ → List (List ℕ × List ℕ) → Result Claim Refusal
claim_in region fields = do
  authorization ← authorization_in fields
  time ← needed (first_value (codes "x-amz-date") fields)
  seconds ← needed (seconds_of time)
  id ← needed (credential_id (day_of time) region (parts 47 authorization.credential))
  payload ← needed (payload_in fields)
  needed (keep_if (is_signed_list fields authorization) (record { id = id; time = time; seconds = seconds; names = authorization.names; payload = payload; signature = authorization.signature }))
