use Rattle.std.proofs.Common.{◌≡◌, ap, subst, ◌∙◌}
use Rattle.view_model.specs.Layouts.{reading}
use Rattle.view_model.specs.View.{oldest}
use Rattle.cluster_machine.specs.Rows.{still, drops}
use Rattle.cluster_machine.specs.Layouts.{layouts}
use Rattle.node_parts.specs.Contents.{Became}
use Rattle.node_parts.specs.Rounds.{AreRounds}
use Rattle.node_core.proofs.Nodes.{with_contents, seen, rose, stayed}
use Rattle.node_core.proofs.node.Node.look_around.Goals as goal

pub returns-in_ok-drop_lost-clause-sees : goal.returns-in_ok-drop_lost-clause-sees
returns-in_ok-drop_lost-clause-sees g c id x v before is =
    let join = g.S.Row.Crdt.join in
    let s = g.S.Schema.words in
    let self = c.args.self.now in
    let oldest_is : c.oldest-oldest.result ≡ oldest reading v = c.oldest-oldest.ensures ∙ ap (oldest reading) is.view in
    let round = still (oldest reading v) x.round in
    let closed = subst (λ o. AreRounds id c.close_below.new.self (still o x.round) x.rounds x.mending x.lasting) oldest_is (c.close_below.ensures id x.round x.rounds x.mending x.lasting is.rounds) in
    let y = record x { view = v; round = round } in
    let stands = seen self id x v c.close_below.new.self round is closed in
    let dropped = subst (λ n. Became join s c.drop_lost.new.self y (drops join s layouts n c.args.now y)) is.id_is (c.in_ok-drop_lost.ensures.drops y is.view stands.contents) in
    rw (rose (oldest reading x.view) (oldest reading v) c.args.before c.oldest-oldest.result oldest_is before c.if-before-oldest.true)
    (with_contents (record self { rounds = c.close_below.new.self }) id y (drops join s layouts id c.args.now y) c.drop_lost.new.self stands dropped)

pub returns-else-before-oldest-clause-sees : goal.returns-else-before-oldest-clause-sees
returns-else-before-oldest-clause-sees g c id x v before is =
    let oldest_is : c.oldest-oldest.result ≡ oldest reading v = c.oldest-oldest.ensures ∙ ap (oldest reading) is.view in
    let round = still (oldest reading v) x.round in
    let closed = subst (λ o. AreRounds id c.close_below.new.self (still o x.round) x.rounds x.mending x.lasting) oldest_is (c.close_below.ensures id x.round x.rounds x.mending x.lasting is.rounds) in
    rw (stayed (oldest reading x.view) (oldest reading v) c.args.before c.oldest-oldest.result oldest_is before c.if-before-oldest.false)
    (seen c.args.self.now id x v c.close_below.new.self round is closed)
