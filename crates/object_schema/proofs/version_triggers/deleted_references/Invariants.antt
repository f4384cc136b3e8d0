use Rattle.std.proofs.Common.{◌≡◌, map, take}
use Rattle.object_schema.specs.Triggers.{deleted_reference}
use Rattle.object_schema.proofs.version_triggers.deleted_references.Given as goal

abbrev pub invariant-loop-entry : goal.invariant-loop-entry
invariant-loop-entry l = l.rows.items ≡ map (λ e. deleted_reference l.id e.0.0) (take l.entry-index l.hashes)
