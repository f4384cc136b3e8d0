use Rattle.std.proofs.Common.{◌≡◌, ap, ◌∙◌, arith}
use Rattle.std.specs.List.{sum_by, range_with_len}
use Rattle.layout_roles.specs.Fits.{partitions, set_at}
use Rattle.layout_moves.specs.Moves.{new_nodes, moves_of}
use Rattle.layout_moves.proofs.Adding.{sum_push}
use Rattle.layout_moves.proofs.count.count_moves.Goals as goal

pub loop-p-preserved : goal.loop-p-preserved
loop-p-preserved c =
    let more = sum_push (λ p. new_nodes (set_at c.args.old.now p) (set_at c.args.sets.now p)) c.loop-p.p in
    let news = c.new_in-count.ensures.news in
    record { within = omega arith; count = omega arith }

pub returns : goal.returns
unfolding moves_of partitions
returns c =
    let end : c.loop-p.p ≡ 256 = omega arith in
    c.loop-p.invariant.count ∙ ap (λ n. sum_by (λ p. new_nodes (set_at c.args.old.now p) (set_at c.args.sets.now p)) (range_with_len 0 n)) end
