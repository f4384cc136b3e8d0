use Rattle.std.proofs.lemmas.List.{take_rest}
use Rattle.audit_run.proofs.Parted.{is_cut}
use Rattle.audit_run.proofs.parts.cut.Goals as goal

pub returns-in-Some-clause-parts : goal.returns-in-Some-clause-parts
returns-in-Some-clause-parts c = rw take_rest (is_cut c.args.input.now c.in-Some.end c.in-Some.next c.in-Some.ensures.0 c.in-Some.ensures.2)
