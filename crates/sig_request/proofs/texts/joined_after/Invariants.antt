use Rattle.std.proofs.Common.{◌≡◌, ◌∷◌, drop}
use Rattle.std.specs.List.{join_with_byte}
use Rattle.sig_request.proofs.texts.joined_after.Given as goal

abbrev pub invariant-loop-other : goal.invariant-loop-other
invariant-loop-other l = join_with_byte l.separator (l.text ∷ drop l.other-index l.others) ≡ join_with_byte l.separator (l.first ∷ l.others)
