use Rattle.std.proofs.Common.{◌≡◌, ◌^◌, ◌-◌, length, min, ap, ◌∙◌, arith}
use Rattle.history_model.specs.Pairs.{sum_below}
use Rattle.world_history.specs.Checks.{owed}
use Rattle.world_history.proofs.Counts.{owed-pairs}
use Rattle.world_history.proofs.pair_count.pairs_of.Goals as goal

-- the sum over all places is the count of pairs
pub returns : goal.returns
returns c =
    let records = c.args.table.now.index.records.now in
    let all : c.loop-i.i ≡ length records = omega arith in
    c.loop-i.invariant ∙ ap (λ t. min t (2 ^ 64 - 1)) (ap (sum_below (owed records)) all ∙ owed-pairs records)
