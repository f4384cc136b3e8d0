use Rattle.std.proofs.Common.{◌∙◌}
use Rattle.world_history.proofs.First.{of_history, none_tells}
use Rattle.world_history.proofs.checked.check.Goals as goal

pub returns-clause-fresh : goal.returns-clause-fresh
returns-clause-fresh c =
    none_tells c.args.h.now.0 c.first_of.result c.is_none.result c.is_none.ensures (of_history _ c.args.h.now.0 _ (c.in_ok-past.ensures.told ∙ c.as_slice.ensures) c.first_of.ensures)
