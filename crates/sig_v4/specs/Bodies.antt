-- What is signed of a body.
use Rattle.std.specs.Prelude.{ℕ, Bool, List, codes, Option, Some, None, if◌then◌else◌}
use Rattle.sha2.specs.Sha256.{sha256}
use Rattle.hex.specs.Hex.{encode_lower}
use Rattle.layout_roles.specs.Zones.{same_name}

-- the digest of the body, which is said to be this, where the body is signed
abbrev pub digest_of : List ℕ → Option (List ℕ)
digest_of payload = if same_name payload (codes "UNSIGNED-PAYLOAD") then None else Some payload

-- a body has this digest: its SHA-256 in lower-case hexadecimal
abbrev pub is_body_of : List ℕ → List ℕ → Bool
is_body_of digest body = same_name digest (encode_lower (sha256 body))
