use Rattle.std.proofs.Common.{◌≡◌, drop}
use Rattle.sig_request.specs.Texts.{unspaced}
use Rattle.sig_request.proofs.texts.unspaced.Given as goal

abbrev pub invariant-loop-i : goal.invariant-loop-i
invariant-loop-i l = unspaced (drop l.i l.text) ≡ unspaced l.text
