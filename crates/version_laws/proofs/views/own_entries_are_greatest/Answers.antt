use Rattle.version_laws.proofs.Laws.{safe_at, travels_message}
use Rattle.version_laws.proofs.views.own_entries_are_greatest.Goals as goal

pub returns-clause-in_nodes : goal.returns-clause-in_nodes
returns-clause-in_nodes g c r parts w h which n m = (safe_at r parts w h).own n which m

pub returns-clause-in_messages : goal.returns-clause-in_messages
returns-clause-in_messages g c r parts w h which v m has = (travels_message r parts w v h has).own which m

pub returns-clause-acks : goal.returns-clause-acks
returns-clause-acks g c r parts w h = (safe_at r parts w h).acks

pub returns-clause-sync_acks : goal.returns-clause-sync_acks
returns-clause-sync_acks g c r parts w h = (safe_at r parts w h).syncacks
