use Rattle.std.proofs.Common.{◌+◌, length, ap, ◌∙◌, arith}
use Rattle.std.specs.List.{concat}
use Rattle.std.proofs.lemmas.List.{length-append}
use Rattle.object_bytes.proofs.Joined.{size_next, size_within}
use Rattle.object_bytes.proofs.pieces.Pieces.into_rest.Goals as goal

pub overflow_sub-gone : goal.overflow_sub-gone
overflow_sub-gone c =
    let next = size_next c.as_slice-block-items.result.now c.loop-block.block-index c.block-item.result c.block-item.result c.loop-block-test.true c.block-item.is in
    let within = size_within c.as_slice-block-items.result.now (c.loop-block.block-index + 1) in
    let same = ap (λ blocks. length (concat blocks)) c.as_slice-block-items.ensures in
    let sum = length-append c.requires.0 (concat c.args.rest) in
    let all = ap length c.requires.1 in
    let size = c.self.invariant ∙ ap length c.self.view_is in
    let so_far = c.loop-block.invariant in
    let is = c.len-gone.ensures in
    omega arith

pub loop-block-preserved : goal.loop-block-preserved
loop-block-preserved c =
    let enough = overflow_sub-gone c in
    let next = size_next c.as_slice-block-items.result.now c.loop-block.block-index c.block-item.result c.block-item.result c.loop-block-test.true c.block-item.is in
    let so_far = c.loop-block.invariant in
    let is = c.len-gone.ensures in
    omega arith
