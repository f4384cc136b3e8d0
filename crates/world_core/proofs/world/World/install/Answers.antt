use Rattle.std.proofs.Common.{sym, subst}
use Rattle.std.specs.List.{IsDistinct}
use Rattle.std.proofs.Common.{nat_eq}
use Rattle.world_core.specs.Nodes.{AreNodes, given_to}
use Rattle.world_core.proofs.WorldsInstall.{world_knows_none, first_has_members, members_once, installed_stands, same_world, on_err}
use Rattle.world_core.proofs.world.World.install.Goals as goal

pub install-requires-clause-inhabited : goal.install-requires-clause-inhabited
install-requires-clause-inhabited g c = first_has_members c.args.first c.requires.greatest

pub install-requires-clause-unused : goal.install-requires-clause-unused
install-requires-clause-unused g c =
    let w = c.requires.stands.0 in
    let h = c.requires.stands.1 in
    world_knows_none g.S.Row.Crdt.join g.S.Schema.words c.args.self.now w h (c.requires.unused w h)

pub install-requires-clause-each_once : goal.install-requires-clause-each_once
install-requires-clause-each_once g c = subst (IsDistinct nat_eq) (sym c.requires.members) (members_once c.args.first.roles)

pub returns-clause-installed : goal.returns-clause-installed
returns-clause-installed g c w h =
    let join = g.S.Row.Crdt.join in
    let s = g.S.Schema.words in
    installed_stands join s c.args.self.now c.install.new.self w c.args.first h (c.requires.unused w h) c.requires.greatest
    (subst (λ ns. AreNodes join s c.install.new.self (given_to ns c.args.first w.nodes)) c.requires.members (c.in_ok-install.ensures.installed w.nodes h.nodes))

pub returns-in_err-install-clause-unchanged : goal.returns-in_err-install-clause-unchanged
returns-in_err-install-clause-unchanged g c = on_err c.from_residual.result (λ w h. same_world g.S.Row.Crdt.join g.S.Schema.words c.args.self.now c.install.new.self w h (c.in_err-install.ensures.unchanged w.nodes h.nodes))
