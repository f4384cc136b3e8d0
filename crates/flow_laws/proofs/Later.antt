-- A version that is drawn is later than the one that the row says.
use Rattle.std.proofs.Common.{◌≡◌, ℕ, max, ◌<◌, ◌≤◌, cond, Option, Some, None, List, [], ◌∷◌, ap, arith}
use Rattle.std.specs.declared.cmp.Ordering.{Ordering}
use Rattle.std.specs.declared.cmp.Ordering.TheVariants.{Less, Equal, Greater}
use Rattle.crdt_core.specs.declared.max.Max.{Max}
use Rattle.crdt_core.specs.Lex.{by_order}
use Rattle.crdt_core.specs.Map.{map_entries}
use Rattle.crdt_rows.specs.declared.version.Version.{Version}
use Rattle.crdt_rows.specs.declared.body.Body.TheVariants.{Marker, Inline, Blocks}
use Rattle.crdt_rows.specs.declared.state.State.{State}
use Rattle.crdt_rows.specs.declared.state.State.TheVariants.{Uploading, Aborted, Complete}
use Rattle.crdt_rows.specs.declared.object_row.ObjectRow.{ObjectRow}
use Rattle.crdt_rows.specs.declared.any_row.AnyRow.{AnyRow}
use Rattle.crdt_rows.specs.declared.any_row.AnyRow.TheVariants as rows
use Rattle.crdt_rows.specs.State.{is_complete, is_aborted}
use Rattle.crdt_rows.specs.Version.{version_cmp}
use Rattle.crdt_rows.specs.Newest.{later}
use Rattle.crdt_rows.specs.Versions.{newest_version, greatest_ts as greatest_of}
use Rattle.crdt_rows.specs.ObjectRow.{newest, state_at}
use Rattle.flow_model.specs.Says.{marked, said_of, of_state, of_version, greatest_ts}
use Rattle.flow_model.specs.Next.{drawn}

-- the timestamp of a version that may be missing
abbrev ts_of : Option Version → ℕ
ts_of None = 0
ts_of (Some v) = v.ts

either : (o : Ordering) (a b : Version) → (by_order o b a a).ts ≤ max a.ts b.ts
either Less a b = omega arith
either Equal a b = omega arith
either Greater a b = omega arith

later_at_most : (a b : Option Version) (m n : ℕ) → ts_of a ≤ m → ts_of b ≤ n → ts_of (later version_cmp a b) ≤ max m n
later_at_most None b m n h k = omega arith
later_at_most (Some a) None m n h k = omega arith
later_at_most (Some a) (Some b) m n h k = let e = either (version_cmp a b) a b in omega arith

-- one version more, in its state
one_more : (s : State) (v : Version) (newest : Option Version) (m : ℕ) → ts_of newest ≤ m → ts_of (later version_cmp (cond (is_complete s) (Some v) None) newest) ≤ cond (is_aborted s) m (max v.ts m)
one_more Uploading v newest m h = later_at_most None newest v.ts m (omega arith) h
one_more Aborted v newest m h = h
one_more (Complete b) v newest m h = later_at_most (Some v) newest v.ts m (omega arith) h

at_most : (es : List (Version × Max State)) → ts_of (newest_version es) ≤ greatest_of es
at_most [] = omega arith
at_most (e ∷ es) = one_more e.1.0 e.0 (newest_version es) (greatest_of es) (at_most es)

the_marked : (v before : Version) (s : Option State) → of_state v s ≡ marked before → v ≡ before
the_marked v before None e = cc
the_marked v before (Some Uploading) e = cc
the_marked v before (Some Aborted) e = cc
the_marked v before (Some (Complete Marker)) e = cc
the_marked v before (Some (Complete (Inline meta body))) e = cc
the_marked v before (Some (Complete (Blocks meta first))) e = cc

the_newest : (r : ObjectRow) (before : Version) (o : Option Version) → of_version r o ≡ marked before → ts_of o ≡ before.ts
the_newest r before None e = cc
the_newest r before (Some v) e = ap (λ x. x.ts) (the_marked v before (state_at r v) e)

marked_below : (before : Version) (value : Option AnyRow) → said_of value ≡ marked before → before.ts ≤ greatest_ts value
marked_below before None e = cc
marked_below before (Some (rows.Object r)) e =
    let same : ts_of (newest r) ≡ before.ts = the_newest r before (newest r) e in
    let below : ts_of (newest r) ≤ greatest_of (map_entries r.versions) = at_most (map_entries r.versions) in
    omega arith
marked_below before (Some (rows.Version r)) e = cc
marked_below before (Some (rows.Ref r)) e = cc

pub marked_earlier : (id : ℕ) (value : Option AnyRow) (t : ℕ) (before : Version) → said_of value ≡ marked before → before.ts < (drawn id value t).ts
marked_earlier id value t before e = let below = marked_below before value e in omega arith
