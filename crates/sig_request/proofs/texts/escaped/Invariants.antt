use Rattle.std.proofs.Common.{◌≡◌, ◌++◌, drop}
use Rattle.sig_request.specs.Texts.{escaped}
use Rattle.sig_request.proofs.texts.escaped.Given as goal

abbrev pub invariant-loop-byte : goal.invariant-loop-byte
invariant-loop-byte l = l.text ++ escaped l.in_path (drop l.byte-index l.bytes) ≡ escaped l.in_path l.bytes
