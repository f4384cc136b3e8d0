use Rattle.std.proofs.Common.{refl, ◌∙◌}
use Rattle.lab_outside.specs.declared.exit.Status.TheVariants.{Done}
use Rattle.layout_text.specs.Settings.{settings_of}
use Rattle.layout_command.proofs.Stated.{stated_reason, stated_layout}
use Rattle.layout_command.proofs.reply.lay_out.Goals as goal

pub returns-in_ok-text-in-Ok-clause-stated : goal.returns-in_ok-text-in-Ok-clause-stated
returns-in_ok-text-in-Ok-clause-stated c =
    stated_layout (settings_of c.args.config.now) c.compute.result c.compute.ensures.nodes c.compute.ensures.zones Done c.in_ok-text-in-Ok.text c.in-Ok.certified c.in-Ok.is
    c.in-Ok.ensures.certified refl c.in_ok-text-in-Ok.ensures.text

pub returns-in_ok-reason-in-Err-clause-stated : goal.returns-in_ok-reason-in-Err-clause-stated
returns-in_ok-reason-in-Err-clause-stated c =
    stated_reason (settings_of c.args.config.now) c.compute.result c.compute.ensures.nodes c.compute.ensures.zones c.refused.result.status c.refused.result.text c.in-Err.fault
    c.in-Err.is c.in_ok-reason-in-Err.ensures.told c.refused.ensures.status (c.refused.ensures.text ∙ c.in_ok-reason-in-Err.ensures.text)
    c.compute.ensures.none
