use Rattle.crdt_core.specs.Map.{map_entries}
use Rattle.object_schema.proofs.SetLemmas.{references_made}
use Rattle.object_schema.proofs.version_triggers.version_triggers.Goals as goal

pub returns-in_ok-rows-in-Present-blocks-clause-are : goal.returns-in_ok-rows-in-Present-blocks-clause-are
returns-in_ok-rows-in-Present-blocks-clause-are c = references_made c.args.old.now c.args.new.now c.in-Present-blocks.blocks c.in_ok-rows-in-Present-blocks.rows.items (map_entries c.in_ok-hashes-in-Present-blocks.hashes) c.as_slice-in-Present-blocks.result.now c.as_slice.result.now c.in-Present-blocks.is c.in-Deleted.is c.as_slice.ensures c.as_slice-in-Present-blocks.ensures c.in_ok-hashes-in-Present-blocks.ensures.are c.in_ok-rows-in-Present-blocks.ensures.are
