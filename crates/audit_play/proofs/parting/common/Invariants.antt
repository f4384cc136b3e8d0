use Rattle.std.proofs.Common.{length, ◌-◌, ◌≡◌, ◌≤◌, ◌+◌, nat_eq, drop}
use Rattle.std.specs.List.{common_prefix_len}
use Rattle.audit_play.proofs.parting.common.Given as goal

-- what is the same so far and from here on is what is the same
abbrev pub invariant-loop-n : goal.invariant-loop-n
invariant-loop-n l = record {
  first : l.n ≤ length l.a;
  second : l.n ≤ length l.b;
  same : l.n + common_prefix_len nat_eq (drop l.n l.a) (drop l.n l.b) ≡ common_prefix_len nat_eq l.a l.b;
}

abbrev pub decreases-loop-n : goal.decreases-loop-n
decreases-loop-n l = length l.a - l.n
