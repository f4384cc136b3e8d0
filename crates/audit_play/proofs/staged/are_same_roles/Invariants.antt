use Rattle.std.proofs.Common.{◌≡◌, ◌≤◌, ◌-◌, length, drop}
use Rattle.std.specs.Cmp.Lexicographic.{pointwise}
use Rattle.audit_play.specs.Staged.{same_role}
use Rattle.audit_play.proofs.staged.are_same_roles.Given as goal

-- those that are left are the same where all are
abbrev pub invariant-loop-i : goal.invariant-loop-i
invariant-loop-i l = record {
  first : l.i ≤ length l.a;
  second : l.i ≤ length l.b;
  same : pointwise same_role (drop l.i l.a) (drop l.i l.b) ≡ pointwise same_role l.a l.b;
}

abbrev pub decreases-loop-i : goal.decreases-loop-i
decreases-loop-i l = length l.a - l.i
