-- What was read, and what that says of all bytes.
use Rattle.std.proofs.Common.{◌≡◌, ◌≢◌, ℕ, true, eqb, List, length, Option, Some, None, refl, sym, ap, ◌∙◌}
use Rattle.blake2_hash.specs.declared.digest.Hash32.{Hash32}
use Rattle.crdt_rows.specs.declared.object_row.ObjectRow.{ObjectRow}
use Rattle.crdt_rows.specs.ObjectRow.{object_key}
use Rattle.row_codec.specs.Reads.{are_bytes, read_whole}
use Rattle.row_codec.specs.Reading.{both_at, tested_at, hash_at, field_at, version_at, max_at, state_at}
use Rattle.row_codec.specs.Built.{VersionMap, object_parts, object_from}
use Rattle.row_codec.specs.BuiltLaws.{object_there}
use Rattle.row_codec.specs.Rows.{map_at, object_at}

pub object_taken : (bytes : List ℕ) (bucket : Hash32) (after_bucket key after_key : List ℕ) (versions : VersionMap) (rest : List ℕ) (row : ObjectRow)
    → hash_at bytes ≡ Some (bucket, after_bucket) → field_at after_bucket ≡ Some (key, after_key) → map_at version_at (max_at state_at) after_key ≡ Some (versions, rest)
    → object_key row ≡ (bucket, key) → row.versions ≡ versions → object_at bytes ≡ Some (row, rest)
unfolding object_at tested_at both_at
object_taken bytes bucket after_bucket key after_key versions rest row h k v e f =
    let parts : (bucket, (key, versions)) ≡ object_parts row = λ i. ((sym e i).0, ((sym e i).1, sym f i)) in
    let made : object_from (bucket, (key, versions)) ≡ Some row = ap object_from parts ∙ object_there row in
    rw (h, k, v, made) refl

-- what was taken from the front, with nothing behind it
pub read_is : {X : Type 0} (read : List ℕ → Option (X × List ℕ)) (bytes : List ℕ) (x : X) (rest : List ℕ) → are_bytes bytes ≡ true → read bytes ≡ Some (x, rest) → eqb (length rest) 0 ≡ true → read_whole read bytes ≡ Some x
read_is read bytes x rest fits h e = rw (fits, h, e) refl

-- bytes that aren't read are the spelling of nothing
pub none_reads : {X : Type 0} (read : List ℕ → Option X) (bytes spelled : List ℕ) (x : X) → read bytes ≡ None → read spelled ≡ Some x → bytes ≢ spelled
none_reads read bytes spelled x h again e =
    let no : None ≡ Some x = sym h ∙ (ap read e ∙ again) in
    cc
