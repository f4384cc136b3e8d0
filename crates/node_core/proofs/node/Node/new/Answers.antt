use Rattle.std.proofs.Common.{refl, []}
use Rattle.layout_history.proofs.Views.{same_view}
use Rattle.layout_trackers.specs.Trackers.{no_trackers}
use Rattle.node_core.proofs.Nodes.{no_entries}
use Rattle.node_core.proofs.node.Node.new.Goals as goal

pub returns-clause-stands : goal.returns-clause-stands
returns-clause-stands g c = record {
  id_is = refl;
  view = same_view c.new.result.layouts [] c.new.result.trackers no_trackers c.new.ensures.no_layouts (no_entries c.new.result.trackers c.new.ensures.no_entries);
  contents = c.in_ok-new.ensures.empty;
  calls = c.new-3.ensures;
  rounds = c.new-4.ensures c.args.id;
  gc = c.new-5.ensures;
  has_version = tt;
}
