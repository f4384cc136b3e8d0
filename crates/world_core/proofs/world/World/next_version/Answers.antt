use Rattle.std.proofs.Common.{sym, ◌∙◌, arith}
use Rattle.world_core.proofs.WorldsApply.{outside_version, taken_version, full_version, free_version}
use Rattle.world_core.proofs.world.World.next_version.Goals as goal

pub returns-then-is_outside : goal.returns-then-is_outside
returns-then-is_outside g c w h = outside_version g.S.Row.Crdt.join g.S.Schema.words c.args.self.now w h c.args.node (sym (c.is_outside.ensures w h) ∙ c.if-is_outside.true)

pub returns-then-newest-self : goal.returns-then-newest-self
returns-then-newest-self g c w h =
    taken_version g.S.Row.Crdt.join g.S.Schema.words c.args.self.now w h c.args.node c.newest-newest.result (c.newest-newest.ensures.is w.nodes h.nodes) (sym (c.is_outside.ensures w h) ∙ c.if-is_outside.false) c.if-newest-self.true

pub returns-then-self-ge-MOST_VERSIONS : goal.returns-then-self-ge-MOST_VERSIONS
returns-then-self-ge-MOST_VERSIONS g c w h =
    full_version g.S.Row.Crdt.join g.S.Schema.words c.args.self.now w h c.args.node c.newest-newest.result (c.newest-newest.ensures.is w.nodes h.nodes) (sym (c.is_outside.ensures w h) ∙ c.if-is_outside.false) c.if-newest-self.false c.if-self-ge-MOST_VERSIONS.true

pub returns : goal.returns
returns g c w h =
    free_version g.S.Row.Crdt.join g.S.Schema.words c.args.self.now w h c.args.node c.newest-newest.result (c.newest-newest.ensures.is w.nodes h.nodes) (sym (c.is_outside.ensures w h) ∙ c.if-is_outside.false) c.if-newest-self.false (omega arith)
