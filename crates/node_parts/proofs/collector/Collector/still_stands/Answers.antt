use Rattle.std.specs.Prelude.{◌&&◌}
use Rattle.std.proofs.Common.{ap, sym, ◌∙◌, eq-eqb}
use Rattle.table_model.specs.Rows.{find_row}
use Rattle.cluster_machine.specs.Collects.{has_bytes}
use Rattle.node_parts.proofs.collector.Collector.still_stands.Goals as goal

pub returns-then-self-ended-clause-is : goal.returns-then-self-ended-clause-is
returns-then-self-ended-clause-is g c =
    let has = has_bytes g.S.Row.Crdt.join g.S.Schema.words c.args.ended.now.row (find_row g.S.Schema.words 1 c.args.ended.now.key c.args.contents.now.table) in
    c.in_ok-same.ensures.is
    ∙ ((λ i. has_bytes g.S.Row.Crdt.join g.S.Schema.words (c.as_slice-2.ensures i) (find_row g.S.Schema.words 1 (c.as_slice.ensures i) c.args.contents.now.table))
    ∙ ap (λ b. b && has) (sym (eq-eqb c.args.self.newest c.args.ended.now.newest c.if-self-ended.true)))
