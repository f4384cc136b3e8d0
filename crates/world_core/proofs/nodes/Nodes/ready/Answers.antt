use Rattle.std.proofs.Common.{◌∙◌}
use Rattle.world_core.proofs.NodesAt.{none_copied, put_new, put_stays, newest_new}
use Rattle.world_core.proofs.nodes.Nodes.ready.Goals as goal

pub returns-in_ok-insert-clause-same : goal.returns-in_ok-insert-clause-same
returns-in_ok-insert-clause-same g c xs are =
    put_new g.S.Row.Crdt.join g.S.Schema.words c.args.self.now c.insert.new.self c.args.node c.in_ok-new.new xs (none_copied c.get.result c.if-is_none.ensures ∙ c.get.ensures.value) c.in_ok-insert.ensures.updates c.in_ok-new.ensures.stands are

pub returns-in_ok-insert-clause-newest : goal.returns-in_ok-insert-clause-newest
returns-in_ok-insert-clause-newest g c =
    newest_new g.S.Row.Crdt.join g.S.Schema.words c.args.self.now c.insert.new.self c.args.node c.in_ok-new.new (none_copied c.get.result c.if-is_none.ensures ∙ c.get.ensures.value) c.in_ok-insert.ensures.updates c.in_ok-new.ensures.stands

pub returns-in_ok-insert-clause-there : goal.returns-in_ok-insert-clause-there
returns-in_ok-insert-clause-there g c =
    put_stays g.S.Row.Crdt.join g.S.Schema.words c.args.self.now c.insert.new.self c.args.node c.in_ok-new.new (none_copied c.get.result c.if-is_none.ensures ∙ c.get.ensures.value) c.in_ok-insert.ensures.updates
