use Rattle.std.proofs.Common.{arith, ◌∙◌, ap, map}
use Rattle.std.proofs.lemmas.Grind.{common_steps}
use Rattle.std.proofs.lemmas.List.Edits.{map_over_more}
use Rattle.quorum_tally.specs.Marks.{nodes_of, marks_after}
use Rattle.quorum_tally.proofs.Counting.{all_after, all_right, same_sets}
use Rattle.quorum_tally.proofs.tally.Tally.confirm.Goals as goal

pub loop-i-preserved : goal.loop-i-preserved
loop-i-preserved c =
    record {
      first = c.loop-i.invariant.first;
      len = grind (arith, common_steps);
      slots = rw c.after.ensures (map_over_more (marks_after c.args.node) c.args.self.now.slots.items c.loop-i.self.slots.items c.loop-i.i c.index.result.now (omega arith) c.loop-i.invariant.slots c.index.ensures);
    }

pub returns : goal.returns
returns c first sets nodes t =
    let after = all_after (marks_after c.args.node) c.args.self.now.slots.items c.loop-i.self.slots.items c.loop-i.i (omega arith) c.loop-i.invariant.slots in
    record {
      version = c.loop-i.invariant.first ∙ t.version;
      sets_of = ap (map nodes_of) after ∙ same_sets c.args.node c.args.self.now.slots.items ∙ t.sets_of;
      marks = rw after (all_right c.args.node nodes c.args.self.now.slots.items t.marks);
    }
