-- A claim, from what was read on the way.
use Rattle.std.proofs.Common.{◌≡◌, ℕ, true, false, List, Some, Ok, Err, codes, refl}
use Rattle.sig_request.specs.Texts.{parts}
use Rattle.sig_v4.specs.declared.refusal.Refusal.TheVariants.{Malformed}
use Rattle.sig_v4.specs.declared.claim.Authorization.{Authorization}
use Rattle.date_model.specs.Texts.{seconds_of}
use Rattle.sig_v4.specs.Claims.{authorization_in, first_value, credential_id, day_of, payload_in, is_signed_list, claim_in}

-- all that a claim needs was found, but for the list of names
pub record IsRead (region : List ℕ) (fields : List (List ℕ × List ℕ)) (a : Authorization) (time : List ℕ) (seconds : ℕ) (id payload : List ℕ) : Type 0 where
  pub authorization : authorization_in fields ≡ Ok a
  pub dated : first_value (codes "x-amz-date") fields ≡ Some time
  pub moment : seconds_of time ≡ Some seconds
  pub credential : credential_id (day_of time) region (parts 47 a.credential) ≡ Some id
  pub said : payload_in fields ≡ Some payload

pub claim_fine : (region : List ℕ) (fields : List (List ℕ × List ℕ)) (a : Authorization) (time : List ℕ) (seconds : ℕ) (id payload : List ℕ) → IsRead region fields a time seconds id payload → is_signed_list fields a ≡ true →
    claim_in region fields ≡ Ok (record { id = id; time = time; seconds = seconds; names = a.names; payload = payload; signature = a.signature })
unfolding claim_in
claim_fine region fields a time seconds id payload h fine =
    rw (h.authorization, h.dated, h.moment, h.credential, h.said, fine) refl

pub claim_bad : (region : List ℕ) (fields : List (List ℕ × List ℕ)) (a : Authorization) (time : List ℕ) (seconds : ℕ) (id payload : List ℕ) → IsRead region fields a time seconds id payload → is_signed_list fields a ≡ false →
    claim_in region fields ≡ Err Malformed
unfolding claim_in
claim_bad region fields a time seconds id payload h bad =
    rw (h.authorization, h.dated, h.moment, h.credential, h.said, bad) refl
