use Rattle.std.proofs.Common.{[], ◌++◌, subst}
use Rattle.blake2_hash.specs.Hashing.{Holds}
use Rattle.k2v_schema.proofs.place.position.Goals as goal

-- the hasher was given the bucket, and then the partition key
pub returns : goal.returns
returns c =
    let bucket = c.args.row.now.bucket.0 in
    let both = c.update-2.ensures bucket (c.update.ensures [] c.new-hasher.ensures) in
    c.finish.ensures (bucket ++ c.args.row.now.pk) (subst (λ pk. Holds c.update-2.new.self (bucket ++ pk)) c.as_slice.ensures both)
