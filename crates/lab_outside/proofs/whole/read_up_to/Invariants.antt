use Rattle.std.proofs.Common.{◌≡◌, ◌≤◌, ◌+◌, ◌-◌, vec_len}
use Rattle.std.specs.Io.KnownBytes.{Consumes}
use Rattle.lab_outside.proofs.whole.read_up_to.Given as goal

abbrev pub invariant-loop-piece : goal.invariant-loop-piece
invariant-loop-piece g l =
    record {
      consumed : Consumes (g.I.Source.left l.fn.input) (g.I.Source.left l.input) l.all.items;
      count : vec_len l.all ≤ l.limit + 1;
      steady : g.I.Source.faults l.input ≡ g.I.Source.faults l.fn.input;
    }

abbrev pub decreases-loop-piece : goal.decreases-loop-piece
decreases-loop-piece g l = l.limit + 1 - vec_len l.all
