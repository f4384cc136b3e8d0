use Rattle.std.specs.Prelude.{refl}
use Rattle.machine_collects.proofs.samples.a_run_collects.Goals as goal

pub returns-clause-begins : goal.returns-clause-begins
returns-clause-begins c = (refl, refl)

pub returns-clause-waits : goal.returns-clause-waits
returns-clause-waits c = (refl, refl)

pub returns-clause-goes_on : goal.returns-clause-goes_on
returns-clause-goes_on c = (refl, refl)

pub returns-clause-collects : goal.returns-clause-collects
returns-clause-collects c = (refl, refl)

pub returns-clause-ends : goal.returns-clause-ends
returns-clause-ends c = (refl, refl)
