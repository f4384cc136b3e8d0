use Rattle.std.proofs.Common.{◌≡◌, ap, ◌∙◌, map, arith}
use Rattle.std.specs.List.{range_with_len}
use Rattle.std.proofs.lemmas.List.FromFn.{map-range_with_len_more}
use Rattle.layout_command.specs.Moves.{partition_words}
use Rattle.layout_command.proofs.potentials.all_words.Goals as goal

pub loop-partition-preserved : goal.loop-partition-preserved
loop-partition-preserved c =
    let e = map-range_with_len_more (partition_words c.args.entries.now) 0 c.loop-partition.partition c.loop-partition.partition (omega arith) in
    cc (c.in_ok-push.ensures.ok, c.in_ok-partition_words.ensures.words)

pub returns-clause-words : goal.returns-clause-words
returns-clause-words c =
    let all : c.loop-partition.partition ≡ 256 = omega arith in
    c.loop-partition.invariant ∙ ap (λ n. map (partition_words c.args.entries.now) (range_with_len 0 n)) all
