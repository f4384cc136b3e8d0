use Rattle.std.proofs.Common.{sym}
use Rattle.block_store.specs.Contents.{told_live}
use Rattle.block_store.specs.Shelf.{contents}
use Rattle.block_store.proofs.Since.{go_out, stay, not_idle, live_sets}
use Rattle.block_store.proofs.blocks.Blocks.live.Goals as goal

pub invariant_of-self : goal.invariant_of-self
invariant_of-self c =
    let old = contents c.self.inside.shelf in
    let h = c.args.hash.now in
    record {
      ordered = c.add_reference.ensures.ordered;
      tied = rw c.add_reference.ensures.told (go_out old (told_live old h) h c.in-Some.moment c.self.inside.moments c.leave.new.moments (sym c.in-Some.ensures.since) (live_sets old h) c.self.invariant.tied c.leave.ensures);
    }

pub invariant_of-self-in_default : goal.invariant_of-self-in_default
invariant_of-self-in_default c =
    let old = contents c.self.inside.shelf in
    let h = c.args.hash.now in
    record {
      ordered = c.add_reference.ensures.ordered;
      tied = rw c.add_reference.ensures.told (stay old (told_live old h) c.self.inside.moments (not_idle old (told_live old h) h (sym c.in_default.ensures.since) (live_sets old h)) c.self.invariant.tied);
    }
