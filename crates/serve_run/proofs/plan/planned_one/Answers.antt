use Rattle.std.proofs.Common.{refl}
use Rattle.serve_run.proofs.plan.planned_one.Goals as goal

pub returns-clause-computed : goal.returns-clause-computed
returns-clause-computed c = record {
  wanted = c.args.coming.in_range;
  is_for = record { same = refl; enough = c.in_ok-certified.ensures.computed.0; certified = c.in_ok-certified.ensures.computed.1 };
  within = c.requires.within;
  greatest = c.in_ok-certified.ensures.greatest;
}
