use Rattle.row_codec.proofs.Whole.{object_taken}
use Rattle.row_codec.proofs.rows.ObjectRowField.take.Goals as goal

pub returns-in-Some : goal.returns-in-Some
returns-in-Some c = object_taken c.args.bytes.now c.in_ok-bucket.bucket c.in_ok-bucket.rest.now c.in_ok-key.key c.in_ok-key.rest.now c.in_ok-versions.versions c.in_ok-versions.rest.now c.in-Some.row c.in_ok-bucket.ensures.gives c.in_ok-key.ensures c.in_ok-versions.ensures c.in-Some.ensures.key c.in-Some.ensures.versions
