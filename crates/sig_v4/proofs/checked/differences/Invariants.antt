use Rattle.std.proofs.Common.{◌≡◌, ◌&&◌, nat_eq, drop}
use Rattle.std.specs.Cmp.Lexicographic.{pointwise}
use Rattle.sig_v4.proofs.checked.differences.Given as goal

abbrev pub invariant-loop-i : goal.invariant-loop-i
invariant-loop-i l = (nat_eq l.difference 0 && pointwise nat_eq (drop l.i l.given) (drop l.i l.due)) ≡ pointwise nat_eq l.given l.due
