-- The check of a signed request: which key signed it, or the first refusal that applies.
use Rattle.std.specs.Prelude.{ℕ, ◌+◌, ◌-◌, ◌*◌, nat_lt, Bool, true, false, not, List, [], slice_get, Option, Result, Ok, Err, ◌≡◌, ⊤}
use Rattle.std.specs.Option.{ok_or, option_map_or}
use Rattle.std.specs.List.{position_from}
use Rattle.layout_roles.specs.Zones.{same_name}
use Rattle.layout_text.specs.declared.keys.Key.{Key}
use Rattle.date_model.specs.Texts.{epoch_days}
use Rattle.layout_text.specs.Settings.{◌>>=◌}
use Rattle.http_model.specs.declared.head.Head.{Head}
use Rattle.sig_v4.specs.declared.refusal.Refusal.{Refusal}
use Rattle.sig_v4.specs.declared.refusal.Refusal.TheVariants.{Unsigned, Malformed, UnknownKey, Skewed, WrongSignature, Memory}
use Rattle.sig_v4.specs.declared.claim.Claim.{Claim}
use Rattle.sig_v4.specs.declared.signed.Signed.{Signed}
use Rattle.sig_v4.specs.Bodies.{digest_of}
use Rattle.sig_v4.specs.Signing.{text_to_sign, signature}
use Rattle.sig_request.specs.Fields.{fields_of}
use Rattle.sig_request.specs.Canonical.{canonical_request}
use Rattle.sig_v4.specs.Claims.{claim_in, day_of}

-- the value, unless this refusal applies
abbrev pub unless : {A : Type 0} → Bool → Refusal → A → Result A Refusal
unless true refusal x = Err refusal
unless false refusal x = Ok x

-- the clock, in milliseconds since 1970, from the first day of jiff's calendar on
abbrev pub clock : ℕ → ℕ
clock now = now + epoch_days * 86400000

-- the clock, in milliseconds since 1970, and a date, in seconds from that first day on, differ by more than 900 seconds
abbrev pub is_skewed : ℕ → ℕ → Bool
is_skewed now seconds = nat_lt 900000 ((clock now - seconds * 1000) + (seconds * 1000 - clock now))

-- the place of the key of this id
abbrev pub place_of : List Key → List ℕ → Option ℕ
place_of keys id = position_from (λ key. same_name key.id id) 0 keys

-- the secret of the key at a place
abbrev pub secret_at : List Key → ℕ → List ℕ
secret_at keys place = option_map_or (λ key. key.secret) (slice_get keys place) []

-- the signature that a request must have under a secret
unfoldable pub due_signature : Head → List ℕ → List ℕ → Claim → List ℕ
due_signature head secret region claim =
    signature secret (day_of claim.time) region (text_to_sign claim.time (day_of claim.time) region (canonical_request head claim.names claim.payload))

-- it has another
abbrev pub is_forged : Head → List ℕ → List ℕ → Claim → Bool
is_forged head secret region claim = not (same_name claim.signature (due_signature head secret region claim))

-- the key that signed the request and the body that it signed, or the first refusal that applies
unfoldable pub checked : Head → List Key → List ℕ → ℕ → Result Signed Refusal
checked head keys region now = do
  claim ← claim_in region (fields_of head)
  place ← ok_or (place_of keys claim.id) UnknownKey
  known ← unless (is_skewed now claim.seconds) Skewed place
  unless (is_forged head (secret_at keys known) region claim) WrongSignature (record { place = known; digest = digest_of claim.payload })

-- what a call answers where this is due: the same, unless memory was wanting
abbrev pub Answers : {A : Type 0} → Result A Refusal → Result A Refusal → Type 0
Answers due (Ok x) = due ≡ Ok x
Answers due (Err Memory) = ⊤
Answers due (Err Unsigned) = due ≡ Err Unsigned
Answers due (Err Malformed) = due ≡ Err Malformed
Answers due (Err UnknownKey) = due ≡ Err UnknownKey
Answers due (Err Skewed) = due ≡ Err Skewed
Answers due (Err WrongSignature) = due ≡ Err WrongSignature
