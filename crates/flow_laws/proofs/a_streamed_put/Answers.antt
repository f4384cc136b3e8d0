use Rattle.std.proofs.Common.{refl, ap}
use Rattle.flow_model.specs.declared.flow.FlowStep.TheVariants.{Need}
use Rattle.flow_laws.specs.Streams.{needing}
use Rattle.flow_laws.proofs.Streaming.{wants_next, fed_next, finished_whole}
use Rattle.flow_laws.proofs.a_streamed_put.Goals as goal

pub returns-clause-begins : goal.returns-clause-begins
returns-clause-begins c id block name content value t = (refl, refl)

pub returns-clause-needs : goal.returns-clause-needs
returns-clause-needs c id block name version content i t = ap (Need (needing id block name version content i)) (wants_next id block content i)

pub returns-clause-feeds : goal.returns-clause-feeds
returns-clause-feeds c = fed_next

pub returns-clause-keeps : goal.returns-clause-keeps
returns-clause-keeps c = finished_whole

pub returns-clause-gives_up : goal.returns-clause-gives_up
returns-clause-gives_up c id block name version content i t = (refl, refl)
