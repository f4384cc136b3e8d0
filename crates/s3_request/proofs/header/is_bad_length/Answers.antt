use Rattle.s3_request.proofs.Lengths.{bad_with, bad_without}
use Rattle.s3_request.proofs.header.is_bad_length.Goals as goal

pub returns-in-Some : goal.returns-in-Some
returns-in-Some c = bad_with c.args.headers.now c.in-Some.text.now c.are_lengths.result c.in-Some.ensures c.are_lengths.ensures

pub returns-in-None : goal.returns-in-None
returns-in-None c = bad_without c.args.headers.now c.in-None.ensures
