-- What is signed, and how (AWS Signature Version 4 for S3).
use Rattle.std.specs.Prelude.{ℕ, List, ◌++◌, codes}
use Rattle.sha2.specs.Sha256.{sha256}
use Rattle.hex.specs.Hex.{encode_lower}
use Rattle.sig_v4.specs.Hmac.{hmac}

-- what a key may sign: DATE/REGION/s3/aws4_request
abbrev pub scope : List ℕ → List ℕ → List ℕ
scope date region = date ++ codes "/" ++ region ++ codes "/s3/aws4_request"

-- the text to sign: the algorithm, the time, the scope and the digest of the canonical request, a line each
abbrev pub text_to_sign : List ℕ → List ℕ → List ℕ → List ℕ → List ℕ
text_to_sign time date region request = codes "AWS4-HMAC-SHA256\n" ++ time ++ codes "\n" ++ scope date region ++ codes "\n" ++ encode_lower (sha256 request)

-- the key for a day, a region and the service
abbrev pub signing_key : List ℕ → List ℕ → List ℕ → List ℕ
signing_key secret date region = hmac (hmac (hmac (hmac (codes "AWS4" ++ secret) date) region) (codes "s3")) (codes "aws4_request")

-- the keyed digest of the text under the key for the day, the region and the service, in hexadecimal
abbrev pub signature : List ℕ → List ℕ → List ℕ → List ℕ → List ℕ
signature secret date region text = encode_lower (hmac (signing_key secret date region) text)
