use Rattle.k2v_rows.proofs.Taken.{row_taken}
use Rattle.k2v_rows.proofs.bytes.take_rest.Goals as goal

pub returns-in-Some : goal.returns-in-Some
returns-in-Some c = row_taken c.args.bytes.now c.in_ok-bucket.bucket c.in_ok-bucket.rest.now c.in_ok-pk.pk c.in_ok-pk.rest.now c.in_ok-sk.sk c.in_ok-sk.rest.now c.in_ok-entries.entries c.in_ok-entries.rest.now c.in-Some.row c.in_ok-bucket.ensures.gives c.in_ok-pk.ensures c.in_ok-sk.ensures c.in_ok-entries.ensures c.in-Some.ensures.key c.in-Some.ensures.entries
