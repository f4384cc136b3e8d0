use Rattle.std.specs.Prelude.{◌||◌, is_some}
use Rattle.std.proofs.Common.{ap, ◌∙◌}
use Rattle.std.proofs.Math.Bool.{or_comm}
use Rattle.table_model.specs.Rows.{find_row}
use Rattle.gc_model.specs.Collecting.{keyed}
use Rattle.cluster_machine.specs.Collects.{is_aged}
use Rattle.node_parts.specs.Collects.{marker_of}
use Rattle.node_parts.proofs.collector.Collector.keys.Goals as goal

pub returns-clause-are : goal.returns-clause-are
returns-clause-are g c = record {
  each = λ key.
      let aged = is_aged c.args.self.now (marker_of g.S.Schema.words (find_row g.S.Schema.words 1 key c.args.contents.now.table)) in
      c.in_ok-add_open.ensures.adds key ∙ (ap (λ b. b || is_some (keyed key c.args.gc.now)) (c.in_ok-keys.ensures.are key) ∙ or_comm aged (is_some (keyed key c.args.gc.now)));
  ordered = c.len.ensures.ordered;
}
