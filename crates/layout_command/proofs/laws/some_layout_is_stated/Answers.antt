use Rattle.lab_main.proofs.Stating.{some_or_too_long}
use Rattle.layout_command.specs.Answer.{IsAnswer}
use Rattle.layout_command.proofs.laws.some_layout_is_stated.Goals as goal

pub returns : goal.returns
returns c = some_or_too_long IsAnswer c.every_configuration_is_answered.ensures
