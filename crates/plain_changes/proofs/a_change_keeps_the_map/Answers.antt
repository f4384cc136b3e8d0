use Rattle.plain_changes.proofs.Changed.{holds_on, rests_on}
use Rattle.plain_changes.proofs.a_change_keeps_the_map.Goals as goal

pub returns-clause-holds : goal.returns-clause-holds
returns-clause-holds q c P h new part m roles wanted choice shown after rest may apart is spelled clear = holds_on c P h new part m roles wanted choice shown after rest may apart is spelled clear

pub returns-clause-rests : goal.returns-clause-rests
returns-clause-rests q c P h new part m roles wanted choice shown after rest may apart is spelled = rests_on c P h new part m roles wanted choice shown after rest may apart is spelled
