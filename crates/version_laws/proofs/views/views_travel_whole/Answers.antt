use Rattle.version_laws.proofs.Laws.{travels_node, travels_message}
use Rattle.version_laws.proofs.views.views_travel_whole.Goals as goal

pub returns-clause-nodes : goal.returns-clause-nodes
returns-clause-nodes g c r parts w h n = travels_node r parts w n h

pub returns-clause-messages : goal.returns-clause-messages
returns-clause-messages g c r parts w h v has = travels_message r parts w v h has
