use Rattle.std.proofs.Common.{◌≡◌, ◌++◌, map}
use Rattle.sync_round.proofs.Counting.{open_of}
use Rattle.sync_round.proofs.round.Round.open_parts.Given as goal

abbrev pub invariant-loop-p : goal.invariant-loop-p
invariant-loop-p l =
    map (λ part. (part.0, part.1.items)) l.open.items ++ open_of l.p-iterator ≡ open_of l.initial.p-iterator
