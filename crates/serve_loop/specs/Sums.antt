-- The digests of a body that comes part by part.
use Rattle.std.specs.Prelude.{ℕ, ⊤, not, Bool, false, List, Option, Some, None, if◌then◌else◌}
use Rattle.md5.specs.declared.Md5.{Md5}
use Rattle.md5.specs.Md5.{Holds}
use Rattle.sha2.specs.declared.Sha256.{Sha256}
use Rattle.sha2.specs.Hashers.{Holds256}
use Rattle.s3_model.specs.declared.ask.Ask.{Ask}
use Rattle.s3_model.specs.declared.ask.Ask.TheVariants as ask
use Rattle.s3_model.specs.declared.fault.Code.{Code}
use Rattle.s3_model.specs.declared.fault.Code.TheVariants.{BadDigest, XAmzContentSHA256Mismatch}
use Rattle.s3_model.specs.Sources.{is_digest_of}
use Rattle.serve_model.specs.declared.request.Request.{Request}
use Rattle.serve_model.specs.Judging.{differs}
use Rattle.serve_loop.specs.declared.sums.Sums.{Sums}

-- the Content-MD5 that was sent with an upload
abbrev pub sent_md5 : Ask → Option (List ℕ)
sent_md5 (ask.Put bucket key length md5 headers) = md5
sent_md5 _ = None

-- where a digest is to be compared, the MD5 of these bytes is taken
abbrev pub IsMd5Of : Option (List ℕ) → Option Md5 → List ℕ → Type 0
IsMd5Of None hasher bytes = ⊤
IsMd5Of (Some sent) None bytes = ⊥
IsMd5Of (Some sent) (Some hasher) bytes = Holds hasher bytes

-- and their SHA-256
abbrev pub IsSha256Of : Option (List ℕ) → Option Sha256 → List ℕ → Type 0
IsSha256Of None hasher bytes = ⊤
IsSha256Of (Some signed) None bytes = ⊥
IsSha256Of (Some signed) (Some hasher) bytes = Holds256 hasher bytes

-- the digests that a request says are taken of these bytes
pub record AreSums (r : Request) (sums : Sums) (bytes : List ℕ) : Type 0 where
  pub md5 : IsMd5Of (sent_md5 r.ask) sums.md5 bytes
  pub sha256 : IsSha256Of r.digest sums.sha256 bytes

-- the MD5 of the body isn't the one that was sent
abbrev pub is_other_md5 : Option (List ℕ) → List ℕ → Bool
is_other_md5 None body = false
is_other_md5 (Some sent) body = not (is_digest_of sent body)

-- the refusal of a body that has another digest than was said
abbrev pub refusal_of_sums : Request → List ℕ → Option Code
refusal_of_sums r body = if differs r.digest body then Some XAmzContentSHA256Mismatch else if is_other_md5 (sent_md5 r.ask) body then Some BadDigest else None
