use Rattle.table_schema.specs.Words.{partition_at}
use Rattle.node_parts.proofs.SetAsked.{read_is_stored, set_is}
use Rattle.node_parts.proofs.begin.nodes_at.Goals as goal

pub returns-in-Some-clause-are : goal.returns-in-Some-clause-are
returns-in-Some-clause-are c =
    set_is c.args.view.now c.read_version.result (partition_at c.args.position.now.0) _ c.set.result c.read_version.ensures c.in-Some.ensures c.set.ensures

pub returns-in-None-clause-stored : goal.returns-in-None-clause-stored
returns-in-None-clause-stored c some = absurd (read_is_stored c.args.view.now c.read_version.result c.read_version.ensures c.in-None.ensures some)
