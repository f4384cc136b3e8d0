-- The order of what completed versions hold.
use Rattle.std.specs.Prelude.{ℕ}
use Rattle.std.specs.declared.cmp.Ordering.{Ordering}
use Rattle.std.specs.Ordering.{nat_cmp, ordering_then}
use Rattle.std.specs.Cmp.Lexicographic.{slice_cmp}
use Rattle.crdt_rows.specs.declared.body.Meta.{Meta}
use Rattle.crdt_rows.specs.declared.body.Body.{Body}
use Rattle.crdt_rows.specs.declared.body.Body.TheVariants.{Marker, Inline, Blocks}
use Rattle.crdt_rows.specs.Fields.{list_cmp, bytes_cmp, header_cmp}

-- by size, by etag, then by the headers
abbrev pub meta_cmp : Meta → Meta → Ordering
meta_cmp a b = ordering_then (ordering_then (nat_cmp a.size b.size) (slice_cmp nat_cmp a.etag b.etag)) (list_cmp header_cmp a.headers b.headers)

-- the tag of the row bytes
abbrev pub body_tag : Body → ℕ
body_tag Marker = 2
body_tag (Inline m d) = 3
body_tag (Blocks m h) = 4

-- by tag, and two of one tag by their fields
abbrev pub body_cmp : Body → Body → Ordering
body_cmp (Inline m d) (Inline n e) = ordering_then (meta_cmp m n) (bytes_cmp d e)
body_cmp (Blocks m h) (Blocks n k) = ordering_then (meta_cmp m n) (slice_cmp nat_cmp h.0 k.0)
body_cmp a b = nat_cmp (body_tag a) (body_tag b)
