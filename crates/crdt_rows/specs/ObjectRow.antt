-- The join of two object rows.
use Rattle.std.specs.Prelude.{ℕ, List, Option, option_map}
use Rattle.std.specs.declared.cmp.Ordering.{Ordering}
use Rattle.std.specs.Ordering.{nat_cmp, ordering_then}
use Rattle.std.specs.Cmp.Lexicographic.{slice_cmp}
use Rattle.blake2_hash.specs.declared.digest.Hash32.{Hash32}
use Rattle.crdt_core.specs.Laws.{through}
use Rattle.crdt_core.specs.Lex.{lex_join}
use Rattle.crdt_core.specs.Max.{max_join}
use Rattle.crdt_core.specs.Map.{map_entries, map_get}
use Rattle.blake2_hash.specs.Hash.{hash_cmp}
use Rattle.crdt_rows.specs.declared.object_row.ObjectRow.{ObjectRow}
use Rattle.crdt_rows.specs.declared.version.Version.{Version}
use Rattle.crdt_rows.specs.declared.state.State.{State}
use Rattle.crdt_rows.specs.State.{state_cmp, is_complete, is_sized}
use Rattle.crdt_rows.specs.Versions.{newest_version}
use Rattle.crdt_rows.specs.Settled.{settled_join}

-- by the bucket, then by the key
abbrev pub object_key_cmp : Hash32 × List ℕ → Hash32 × List ℕ → Ordering
object_key_cmp a b = ordering_then (hash_cmp a.0 b.0) (slice_cmp nat_cmp a.1 b.1)

-- the row's key
abbrev pub object_key : ObjectRow → Hash32 × List ℕ
object_key r = (r.bucket, r.key)

-- the newest complete version of a row
abbrev pub newest : ObjectRow → Option Version
newest r = newest_version (map_entries r.versions)

-- the state of a version in a row
abbrev pub state_at : ObjectRow → Version → Option State
state_at r v = option_map (λ s. s.0) (map_get r.versions v)

-- the row with the greater key; under one key the versions of both, each with its greater state, but those older than the newest complete one
abbrev pub object_join : ObjectRow → ObjectRow → ObjectRow
object_join =
    through (λ r. (object_key r, record { map = r.versions; settled = r.settled; fit = r.sized }))
    (λ t. record { bucket = t.0.0; key = t.0.1; versions = t.1.map; settled = t.1.settled; sized = t.1.fit })
    (lex_join object_key_cmp (settled_join (λ s. is_complete s.0) (λ s. is_sized s.0) (max_join state_cmp)))
