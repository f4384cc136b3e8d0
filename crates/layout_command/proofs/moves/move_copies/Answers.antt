use Rattle.std.proofs.Common.{refl, ◌∙◌}
use Rattle.lab_outside.specs.declared.exit.Status.TheVariants.{Refused}
use Rattle.layout_text.specs.Settings.{settings_of}
use Rattle.layout_command.specs.Moves.{not_laid_out}
use Rattle.layout_command.proofs.Stated.{enough_ok, stated_reason}
use Rattle.layout_command.proofs.moves.move_copies.Goals as goal

pub with_fewest-requires-clause-enough : goal.with_fewest-requires-clause-enough
with_fewest-requires-clause-enough c = enough_ok (settings_of c.args.config.now) c.compute.result c.compute.ensures.nodes c.compute.ensures.zones c.in-Ok.certified c.in-Ok.is

pub returns-in_ok-reason-in-Err-clause-stated : goal.returns-in_ok-reason-in-Err-clause-stated
returns-in_ok-reason-in-Err-clause-stated c =
    not_laid_out
    (stated_reason (settings_of c.args.config.now) c.compute.result c.compute.ensures.nodes c.compute.ensures.zones Refused c.refused.result.text c.in-Err.fault
    c.in-Err.is c.in_ok-reason-in-Err.ensures.told refl (c.refused.ensures.text ∙ c.in_ok-reason-in-Err.ensures.text)
    c.compute.ensures.none)
    c.refused.ensures.status
