use Rattle.std.proofs.Common.{sym, ◌∙◌, ap}
use Rattle.change_deeds.specs.Deeds.{with_nodes}
use Rattle.change_deeds.proofs.Parts.{in_order_both}
use Rattle.change_deeds.proofs.members.of_both.Goals as goal

pub returns-clause-both : goal.returns-clause-both
returns-clause-both c =
    c.from_vec.ensures
    ∙ (c.in_ok-put_all-2.ensures.put
    ∙ (ap (with_nodes c.args.older.now) (c.in_ok-put_all.ensures.put ∙ ap (with_nodes c.args.newer.now) c.new-nodes.ensures.items) ∙ sym (in_order_both c.args.older.now c.args.newer.now)))
