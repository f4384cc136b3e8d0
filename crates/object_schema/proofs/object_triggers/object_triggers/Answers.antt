use Rattle.crdt_core.specs.Map.{map_entries}
use Rattle.object_schema.specs.Sets.{keys_of}
use Rattle.object_schema.proofs.SetLemmas.{versions_made}
use Rattle.object_schema.proofs.object_triggers.object_triggers.Goals as goal

pub returns-clause-are : goal.returns-clause-are
returns-clause-are c = versions_made c.args.old.now c.args.new.now c.in_ok-rows.rows.items (map_entries c.new-versions.result) (map_entries c.add_newly_aborted.new.set) (keys_of c.add_lost.new.set) c.as_slice-3.result.now c.as_slice.result.now c.as_slice-2.result.now c.new-versions.ensures c.as_slice.ensures c.as_slice-2.ensures c.as_slice-3.ensures c.in_ok-add_lost.ensures.ok c.in_ok-add_newly_aborted.ensures.ok c.in_ok-rows.ensures.are
