use Rattle.std.proofs.Common.{◌≡◌, ◌≤◌, length, arith}
use Rattle.audit_prints.proofs.Given.{next_is, sets_high}
use Rattle.audit_prints.proofs.sets.add_sets.Goals as goal

pub returns-in-None-clause-went : goal.returns-in-None-clause-went
returns-in-None-clause-went c rest =
    let at : c.args.first ≡ length c.args.sets.now = omega (arith, c.len.ensures) in
    let up : c.args.first ≤ c.args.last = omega arith in
    sets_high c.args.sets.now c.args.first c.args.last c.args.set rest (next_is c.args.sets.now c.args.first c.args.last at up (omega arith)) up c.in-None.ensures.none
