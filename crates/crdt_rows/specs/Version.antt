-- The order of versions.
use Rattle.std.specs.declared.cmp.Ordering.{Ordering}
use Rattle.std.specs.Ordering.{nat_cmp, ordering_then}
use Rattle.crdt_rows.specs.declared.version.Version.{Version}

-- by timestamp, and at a tie by identifier
abbrev pub version_cmp : Version → Version → Ordering
version_cmp a b = ordering_then (nat_cmp a.ts b.ts) (nat_cmp a.id b.id)
