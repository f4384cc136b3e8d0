use Rattle.std.proofs.Common.{◌≡◌, sym, ap, ◌∙◌, arith}
use Rattle.block_store.specs.Contents.{deleted, live_count}
use Rattle.block_store.specs.Shelf.{contents}
use Rattle.block_store.proofs.Since.{go_out, stay, not_idle, deleted_sets}
use Rattle.block_store.proofs.InOrder.{in_order}
use Rattle.block_store.proofs.blocks.Blocks.delete.Goals as goal

pub remove_unused-requires : goal.remove_unused-requires
remove_unused-requires c =
    let unused : live_count c.args.self.now c.args.hash.now ≡ 0 = omega (arith, c.count-count.ensures, c.if-count-gt0.false) in
    record { unused = ap (λ k. live_count k c.args.hash.now) c.self.view_is ∙ unused; ordered = c.self.invariant.ordered }

pub invariant_of-self : goal.invariant_of-self
invariant_of-self c =
    let old = contents c.self.inside.shelf in
    let h = c.args.hash.now in
    record {
      ordered = c.remove_unused.ensures.ordered;
      tied = rw c.remove_unused.ensures.deleted (go_out old (deleted old h) h c.in-Some.moment c.self.inside.moments c.leave.new.moments (sym c.in-Some.ensures.since) (deleted_sets old h (in_order c.self.inside.shelf.entries c.self.invariant.ordered)) c.self.invariant.tied c.leave.ensures);
    }

pub invariant_of-self-in_default : goal.invariant_of-self-in_default
invariant_of-self-in_default c =
    let old = contents c.self.inside.shelf in
    let h = c.args.hash.now in
    record {
      ordered = c.remove_unused.ensures.ordered;
      tied = rw c.remove_unused.ensures.deleted (stay old (deleted old h) c.self.inside.moments (not_idle old (deleted old h) h (sym c.in_default.ensures.since) (deleted_sets old h (in_order c.self.inside.shelf.entries c.self.invariant.ordered))) c.self.invariant.tied);
    }
