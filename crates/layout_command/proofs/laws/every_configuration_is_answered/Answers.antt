use Rattle.layout_command.proofs.Configured.{something_stated}
use Rattle.layout_command.proofs.laws.every_configuration_is_answered.Goals as goal

pub returns : goal.returns
returns c = something_stated
