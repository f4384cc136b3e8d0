use Rattle.std.proofs.Common.{[], None, map, ap, ◌∙◌}
use Rattle.gc_model.specs.Collecting.{Open}
use Rattle.cluster_machine.specs.Acts.{unconfirmed}
use Rattle.node_core.specs.Stands.{StandsFor}
use Rattle.node_core.proofs.Collections.{other_collections}
use Rattle.node_core.proofs.Nodes.{same_contents, with_contents}
use Rattle.node_core.proofs.node.Node.restart.Goals as goal

pub returns-clause-restarts : goal.returns-clause-restarts
returns-clause-restarts g c id x is =
    let self = c.args.self.now in
    let y = record x { calls = []; round = None; mending = None; lasting = None; gc = record x.gc { collections = [] } } in
    let stands : StandsFor g.S.Row.Crdt.join g.S.Schema.words (record self { calls = c.lose_all.new.self; rounds = c.forget.new.self; gc = c.clear.new.self }) id y = record {
      id_is = is.id_is;
      view = is.view;
      contents = other_collections (record x { calls = []; round = None; mending = None; lasting = None }) (record x.gc { collections = [] }) (same_contents x x.view [] None x.rounds None None is.contents);
      calls = c.in_ok-lost.ensures.none;
      rounds = c.forget.ensures id x.round x.rounds x.mending x.lasting is.rounds;
      gc = c.clear.ensures ∙ ap (λ (o : Open). record o { collections = [] }) is.gc;
      has_version = tt;
    } in
    with_contents (record self { calls = c.lose_all.new.self; rounds = c.forget.new.self; gc = c.clear.new.self }) id y (record y { items = map unconfirmed y.items }) c.forget_confirmations.new.self stands (c.forget_confirmations.ensures y stands.contents)
