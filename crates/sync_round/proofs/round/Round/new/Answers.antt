use Rattle.std.proofs.Common.{[], ◌∷◌, map, ap, ◌∙◌, arith, refl}
use Rattle.sync_round.specs.Round.{by_partition}
use Rattle.sync_round.proofs.Confirming.{first_right}
use Rattle.sync_round.proofs.Ordering.{shown, next_put, all_put, in_order, right_inserted}
use Rattle.sync_round.proofs.round.Round.new.Goals as goal

pub loop-p-preserved : goal.loop-p-preserved
loop-p-preserved c =
    let es = c.loop-p.marked.entries in
    record {
      parts = next_put c.deref-p-items.result.now c.loop-p.p-index (0, []) c.after.result es c.insert.new.self.entries (by_partition c.deref-p-items.result.now) (omega arith) c.loop-p.invariant.parts (rw c.after.ensures c.new.ensures.nodes) c.in_ok-insert.ensures.entries;
      marks = rw (c.in_ok-insert.ensures.entries, c.after.ensures) (right_inserted (c.args.own ∷ []) _ _ es c.loop-p.invariant.marks (first_right c.args.own c.new.result c.new.ensures.first c.new.ensures.second c.new.ensures.third));
    }

pub returns-clause-ascending : goal.returns-clause-ascending
returns-clause-ascending c asc =
    let items = c.deref-p-items.result.now in
    record {
      version = refl;
      parts_of = all_put items (map shown c.loop-p.marked.entries) (by_partition items) c.loop-p.p-index (omega arith) c.loop-p.invariant.parts ∙ ap by_partition c.deref-p-items.ensures.value ∙ in_order c.args.parts.items asc;
      marks = c.loop-p.invariant.marks;
    }
