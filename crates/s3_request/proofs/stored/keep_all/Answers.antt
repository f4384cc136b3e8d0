use Rattle.std.proofs.Common.{◌∙◌, ◌||◌, ap}
use Rattle.s3_request.proofs.Kept.{stored_step}
use Rattle.s3_request.proofs.stored.keep_all.Goals as goal

pub loop-h-preserved : goal.loop-h-preserved
loop-h-preserved c =
    stored_step c.loop-h.typed c.is_either-typed.result c.args.headers.now c.args.stored.now c.loop-h.stored c.keep.new.stored c.loop-h.h-index c.h-item.result c.loop-h-test.true c.h-item.is c.loop-h.invariant
    c.in_ok-keep.ensures.ok (c.is_either-typed.ensures ∙ ap (λ b. c.loop-h.typed || b) c.is_content_type.ensures)
