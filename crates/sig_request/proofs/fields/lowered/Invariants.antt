use Rattle.std.proofs.Common.{◌≡◌, ◌++◌, drop, map}
use Rattle.std.specs.Char.{to_ascii_lowercase}
use Rattle.sig_request.proofs.fields.lowered.Given as goal

abbrev pub invariant-loop-byte : goal.invariant-loop-byte
invariant-loop-byte l = l.text ++ map to_ascii_lowercase (drop l.byte-index l.name) ≡ map to_ascii_lowercase l.name
