use Rattle.std.proofs.Common.{◌≡◌, ◌++◌, drop, map}
use Rattle.sig_request.specs.Query.{space_of}
use Rattle.sig_request.proofs.query.spaced.Given as goal

abbrev pub invariant-loop-byte : goal.invariant-loop-byte
invariant-loop-byte l = l.text ++ map space_of (drop l.byte-index l.bytes) ≡ map space_of l.bytes
