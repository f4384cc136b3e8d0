use Rattle.std.proofs.Common.{◌∙◌}
use Rattle.world_history.proofs.First.{first_of, of_history, none_is_fresh, some_is_stale}
use Rattle.world_history.proofs.freshness.first_stale.Goals as goal

-- the read that is found isn't fresh
pub returns-in-Some-clause-none : goal.returns-in-Some-clause-none
returns-in-Some-clause-none c =
    some_is_stale c.args.h.now.0 c.in-Some.field-0-0 c.in-Some.request (of_history _ c.args.h.now.0 _ (c.in_ok-past.ensures.told ∙ c.as_slice.ensures) c.in-Some.ensures)

pub returns-in-Some-clause-first : goal.returns-in-Some-clause-first
returns-in-Some-clause-first c =
    first_of c.args.h.now.0 (c.in-Some.field-0-0, c.in-Some.request) (of_history _ c.args.h.now.0 _ (c.in_ok-past.ensures.told ∙ c.as_slice.ensures) c.in-Some.ensures)

-- none is found
pub returns-clause-none : goal.returns-clause-none
returns-clause-none c = none_is_fresh c.args.h.now.0 (of_history _ c.args.h.now.0 _ (c.in_ok-past.ensures.told ∙ c.as_slice.ensures) c.in-None.ensures)
