use Rattle.std.proofs.Common.{◌≡◌, true, take}
use Rattle.std.specs.List.{list_all}
use Rattle.cluster_machine.specs.Phases.{is_spelled}
use Rattle.node_parts.specs.Sends.{rows_with_blocks}
use Rattle.node_parts.proofs.sender.bytes_of_each.Given as goal

abbrev pub invariant-loop-row : goal.invariant-loop-row
invariant-loop-row g l = record {
  stored_are : l.stored ≡ rows_with_blocks g.S.Schema.words l.blocks (take l.row-index l.rows);
  all_spelled : list_all (is_spelled g.S.Schema.words) (take l.row-index l.rows) ≡ true;
}
