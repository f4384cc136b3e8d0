use Rattle.std.proofs.Common.{◌≡◌, map, take}
use Rattle.object_schema.specs.Triggers.{deleted_version}
use Rattle.object_schema.proofs.object_triggers.deleted_versions.Given as goal

abbrev pub invariant-loop-entry : goal.invariant-loop-entry
invariant-loop-entry l = l.rows.items ≡ map (λ e. deleted_version e.0) (take l.entry-index l.versions)
