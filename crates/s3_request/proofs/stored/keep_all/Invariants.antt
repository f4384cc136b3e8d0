use Rattle.std.proofs.Common.{◌≡◌, ◌++◌, drop}
use Rattle.s3_model.specs.Headers.{own_stored}
use Rattle.s3_request.proofs.Kept.{stored_after}
use Rattle.s3_request.proofs.stored.keep_all.Given as goal

abbrev pub invariant-loop-h : goal.invariant-loop-h
invariant-loop-h l = l.stored ++ stored_after l.typed (drop l.h-index l.headers) ≡ l.initial.stored ++ own_stored l.headers
