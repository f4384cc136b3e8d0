use Rattle.std.proofs.Common.{◌≡◌, drop}
use Rattle.crdt_rows.specs.Version.{version_cmp}
use Rattle.object_schema.specs.Sets.{keys_of}
use Rattle.object_schema.specs.Triggers.{with_values, is_newly_aborted, versions_that}
use Rattle.object_schema.proofs.object_triggers.add_newly_aborted.Given as goal

abbrev pub invariant-loop-entry : goal.invariant-loop-entry
invariant-loop-entry l = with_values version_cmp (keys_of l.set) (versions_that (is_newly_aborted l.old) (drop l.entry-index l.entries)) ≡ with_values version_cmp (keys_of l.fn.set) (versions_that (is_newly_aborted l.old) l.entries)
