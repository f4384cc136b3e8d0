-- What is judged once a request's bucket is known: the source of a copy, the length of a key, the digest of a body.
use Rattle.std.specs.Prelude.{ℕ, Bool, nat_eq, nat_lt, List, length, drop, codes, bytes_eq, Option, Some, None, if◌then◌else◌}
use Rattle.std.specs.List.{list_any, starts_with, before_first, after_first}
use Rattle.base64.specs.Engines.{standard}
use Rattle.base64.specs.GeneralPurpose.{encode_of}
use Rattle.md5.specs.Md5.{md5}
use Rattle.percent_encoding.specs.Percent.{percent_decode}
use Rattle.s3_model.specs.Targets.{is_slash}

-- a text without one slash in front
abbrev pub past_slash : List ℕ → List ℕ
past_slash text = if starts_with nat_eq text (codes "/") then drop 1 text else text

-- a bucket and a key, on both sides of the first slash
abbrev pub source_in : List ℕ → Option (List ℕ × List ℕ)
source_in text = if list_any is_slash text then Some (before_first is_slash text, after_first is_slash text) else None

-- the bucket and the key that a copy source names, if there is a slash between them
abbrev pub source_of : List ℕ → Option (List ℕ × List ℕ)
source_of from = source_in (past_slash (percent_decode from))

-- how many bytes a key may have
abbrev pub key_limit : ℕ
key_limit = 1024

-- a key is too long
abbrev pub is_long_key : List ℕ → Bool
is_long_key key = nat_lt key_limit (length key)

-- the value of Content-MD5 is that of a body: the base64 of its digest (RFC 1864)
abbrev pub is_digest_of : List ℕ → List ℕ → Bool
is_digest_of value body = bytes_eq value (encode_of standard (md5 body))
