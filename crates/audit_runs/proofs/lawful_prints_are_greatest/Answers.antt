use Rattle.audit_runs.proofs.Greatest.{lawful_is_greatest, print_is_computed}
use Rattle.audit_runs.proofs.lawful_prints_are_greatest.Goals as goal

pub returns-clause-greatest : goal.returns-clause-greatest
returns-clause-greatest c = lawful_is_greatest c.light_cuts.ensures c.smaller_sizes.ensures

pub returns-clause-computed : goal.returns-clause-computed
returns-clause-computed c = print_is_computed c.light_cuts.ensures c.smaller_sizes.ensures
