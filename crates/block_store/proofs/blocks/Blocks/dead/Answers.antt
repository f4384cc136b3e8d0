use Rattle.std.proofs.Common.{◌≡◌, ◌≤◌, sym, subst, ◌∙◌, arith, eqb-true}
use Rattle.block_store.specs.Contents.{told_dead, live_count}
use Rattle.block_store.specs.Shelf.{contents}
use Rattle.block_store.proofs.Since.{come_in, stay, last_sets, other_stays, live_is_not_idle, two_or_more}
use Rattle.block_store.proofs.blocks.Blocks.dead.Goals as goal

pub invariant_of-self : goal.invariant_of-self
invariant_of-self c =
    let old = contents c.self.inside.shelf in
    let h = c.args.hash.now in
    let now = c.args.now in
    let one : live_count old h ≡ 1 = eqb-true (live_count old h) 1 (sym c.drop_reference.ensures.last ∙ c.if-drop_reference.true) in
    record {
      ordered = c.drop_reference.ensures.ordered;
      tied = rw c.drop_reference.ensures.told (come_in old (told_dead old h now) h now c.self.inside.moments c.enter.new.moments (live_is_not_idle old h (omega (arith, one))) (last_sets old h now one) c.self.invariant.tied c.enter.ensures);
    }

pub invariant_of-self-else-drop_reference : goal.invariant_of-self-else-drop_reference
invariant_of-self-else-drop_reference c =
    let old = contents c.self.inside.shelf in
    let h = c.args.hash.now in
    let now = c.args.now in
    let some : 1 ≤ live_count old h = subst (λ k. 1 ≤ live_count k h) (sym c.self.view_is) c.requires in
    let more = two_or_more (live_count old h) some (sym c.drop_reference.ensures.last ∙ c.if-drop_reference.false) in
    record {
      ordered = c.drop_reference.ensures.ordered;
      tied = rw c.drop_reference.ensures.told (stay old (told_dead old h now) c.self.inside.moments (other_stays old h now more) c.self.invariant.tied);
    }
