use Rattle.std.proofs.Common.{◌≡◌, ℕ, Some, None, ap, sym, subst, ◌∙◌}
use Rattle.std.specs.Option.{option_copied}
use Rattle.layout_roles.specs.declared.layout.Layout.{Layout}
use Rattle.view_model.specs.Layouts.{reading}
use Rattle.view_model.specs.View.{newest}
use Rattle.gc_model.specs.Collecting.{closed, numbered}
use Rattle.cluster_machine.specs.Layouts.{layouts}
use Rattle.cluster_machine.specs.Node.{Node as Model}
use Rattle.cluster_machine.specs.Collects.{finishes}
use Rattle.table_gc.proofs.Numbering.{found_number}
use Rattle.node_core.specs.Stands.{StandsFor, Done}
use Rattle.node_core.proofs.Collections.{finished}
use Rattle.node_core.proofs.Nodes.{silent}
use Rattle.node_core.proofs.node.Node.finish.Goals as goal

pub returns-in_default-clause-finishes : goal.returns-in_default-clause-finishes
returns-in_default-clause-finishes g c =
    let join = g.S.Row.Crdt.join in
    let s = g.S.Schema.words in
    let self = c.args.self.now in
    let out = c.args.out.now.items in (
      (λ id x is.
          let none : None ≡ numbered c.args.collection x.gc = sym (ap option_copied c.in_default.is) ∙ (c.numbered.ensures ∙ ap (numbered c.args.collection) is.gc) in
          subst (λ o. Done join s self id out out None (finishes join s layouts id x o)) none (silent self id x out is)),
      (λ id x is.
          let none : None ≡ numbered c.args.collection x.gc = sym (ap option_copied c.in_default.is) ∙ (c.numbered.ensures ∙ ap (numbered c.args.collection) is.gc) in
          ap (λ o. (finishes join s layouts id x o).dropped) none),
    )

pub returns-clause-finishes : goal.returns-clause-finishes
returns-clause-finishes g c =
    let join = g.S.Row.Crdt.join in
    let s = g.S.Schema.words in
    let self = c.args.self.now in
    let out = c.args.out.now.items in
    let later = c.end.new.out.items in
    let o = c.in-Some.ended.now in
    let new = record self { contents = c.end.new.contents; gc = c.close.new.self } in
    let both : (id : ℕ) (x : Model g.row.S-Row.Denot Layout) → StandsFor join s self id x →
    Done join s new id out later None (finishes join s layouts id x (numbered c.args.collection x.gc)) × (c.in_ok-dropped.dropped ≡ (finishes join s layouts id x (numbered c.args.collection x.gc)).dropped) =
    λ id x is.
    let found : numbered c.args.collection x.gc ≡ Some o = sym (sym (ap option_copied c.in-Some.is) ∙ (c.numbered.ensures ∙ ap (numbered c.args.collection) is.gc)) in
    let ends = c.in_ok-dropped.ensures.ends x is.contents in
    let left = c.close.ensures ∙ (λ i. closed (sym (found_number c.args.collection x.gc.collections o found) i) (is.gc i)) in
    let done = finished join s self id x is c.collector-collector.result o (ap (λ k. k.node) c.collector-collector.ensures ∙ is.id_is) (ap (λ k. k.newest) c.collector-collector.ensures ∙ ap (newest reading) is.view) c.end.new.contents c.close.new.self out later
    c.in_ok-dropped.dropped ends.0 ends.1 ends.2 left in
    subst (λ p. Done join s new id out later None (finishes join s layouts id x p) × (c.in_ok-dropped.dropped ≡ (finishes join s layouts id x p).dropped)) (sym found) done in
    ((λ id x is. (both id x is).0), (λ id x is. (both id x is).1))
