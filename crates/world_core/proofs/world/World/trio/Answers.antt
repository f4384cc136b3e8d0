use Rattle.std.proofs.Common.{[], ◌∷◌, subst, arith}
use Rattle.world_core.specs.Nodes.{AreNodes, given_to}
use Rattle.world_core.proofs.WorldsInstall.{world_knows_none, three_once}
use Rattle.world_core.proofs.WorldsApply.{trio_plays, trio_refused}
use Rattle.world_core.proofs.world.World.trio.Goals as goal

pub returns-then-self-ge1-clause-plays : goal.returns-then-self-ge1-clause-plays
returns-then-self-ge1-clause-plays g c = trio_refused g.S.Row.Crdt.join g.S.Schema.words c.args.self.now c.refused.result c.refused.ensures c.if-self-ge1.true

pub install-requires-clause-unused : goal.install-requires-clause-unused
install-requires-clause-unused g c =
    let h = c.requires.stands.1 in
    let same = h.applied in
    world_knows_none g.S.Row.Crdt.join g.S.Schema.words c.args.self.now c.requires.stands.0 h (omega arith)

pub install-requires-clause-each_once : goal.install-requires-clause-each_once
install-requires-clause-each_once g c = three_once

pub returns-clause-plays : goal.returns-clause-plays
returns-clause-plays g c =
    let join = g.S.Row.Crdt.join in
    let s = g.S.Schema.words in
    trio_plays join s c.args.self.now c.install.new.self c.in_ok-roles.roles c.silent.result c.silent.ensures (omega arith) c.in_ok-roles.ensures.staged
    (λ xs are. subst (λ l. AreNodes join s c.install.new.self (given_to (1 ∷ 2 ∷ 3 ∷ []) l xs)) c.in_ok-first.ensures.is (c.in_ok-install.ensures.installed xs are))
