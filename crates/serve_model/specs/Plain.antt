-- A plain store: one map from names to objects, which carries out one job after the other.
use Rattle.std.specs.Prelude.{◌≡◌, ◌⊎◌, ◌≤◌, ◌==◌, ℕ, suc, ◌+◌, ◌-◌, max, Bool, true, false, ⊤, ◌&&◌, nat_eq, if◌then◌else◌, Option, Some, None, List, [], ◌∷◌, length, take}
use Rattle.std.specs.Option.{unwrap_or}
use Rattle.std.specs.List.{AllByRecursion, starts_with}
use Rattle.std.specs.Ordering.{nat_cmp, is_lt}
use Rattle.std.specs.Cmp.Lexicographic.{pointwise, slice_cmp}
use Rattle.crdt_rows.specs.declared.version.Version.{Version}
use Rattle.crdt_rows.specs.declared.body.Meta.{Meta}
use Rattle.crdt_rows.specs.declared.any_row.AnyRow.{AnyRow}
use Rattle.flow_model.specs.declared.order.Order.{Order}
use Rattle.flow_model.specs.declared.order.Order.TheVariants as order
use Rattle.flow_model.specs.declared.flow.Name.{Name}
use Rattle.flow_model.specs.declared.flow.Content.{Content}
use Rattle.flow_model.specs.declared.flow.Wish.{Wish}
use Rattle.flow_model.specs.declared.flow.Wish.TheVariants as wish
use Rattle.flow_model.specs.declared.flow.FlowEnd.{FlowEnd}
use Rattle.flow_model.specs.declared.flow.FlowEnd.TheVariants.{Stored, Found, Nothing, Listed, Aborted}
use Rattle.blake2_hash.specs.Blake2b.{blake2b}
use Rattle.flow_model.specs.Blocks.{piece, has_piece, is_long}
use Rattle.flow_model.specs.Rows.{meta_of, complete, content_of}
use Rattle.flow_model.specs.Says.{shown_rows}
use Rattle.store_model.specs.Orders.{buckets_of}
use Rattle.store_model.specs.Run.{are_buckets}
use Rattle.serve_model.specs.Stores.{Upload, Job, carry, keep, leave, order_of_job, Carried, Store, Asking, IsFirstOf, given}

-- what the map has under a name
pub data Has : Type 0 where
  never : Has  -- it was never written
  deleted : Version → Has  -- it is deleted since this version
  object : Version → ℕ → Content → Has  -- these bytes and headers, written as this version when blocks had this size

-- a name and what the map has under it
pub record Entry : Type 0 where
  pub name : Name
  pub has : Has

-- the map, the buckets, the size of blocks, the time, and how many jobs there were
pub record Plain : Type 0 where
  pub buckets : List (List ℕ)
  pub block : ℕ  -- bytes
  pub clock : ℕ  -- milliseconds
  pub ticked : ℕ  -- to which time the clock was brought
  pub asked : ℕ  -- jobs that named buckets that are there
  pub entries : List Entry  -- in order of keys, each name once

-- ---- the map

-- two names have the same bucket and key
abbrev pub same_name : Name → Name → Bool
same_name a b = pointwise nat_eq a.bucket b.bucket && pointwise nat_eq a.key b.key

-- what these entries have under a name
abbrev pub has_among : List Entry → Name → Has
has_among [] name = never
has_among (e ∷ es) name = if same_name e.name name then e.has else has_among es name

-- the entries with this under a name, in place of what was there
abbrev pub with_has : List Entry → Name → Has → List Entry
with_has [] name has = record { name = name; has = has } ∷ []
with_has (e ∷ es) name has =
    if same_name e.name name then record { name = name; has = has } ∷ es
    else (if is_lt (slice_cmp nat_cmp name.key e.name.key) then record { name = name; has = has } ∷ e ∷ es else e ∷ with_has es name has)

-- the row that says what is under a name; none where nothing ever was
abbrev pub row_of : Name → Has → Option AnyRow
row_of name never = None
row_of name (deleted version) = Some (complete name version 0 wish.Marker)
row_of name (object version block c) = Some (complete name version block (wish.Content c))

-- rows before others, where there is one
abbrev pub with_row : Option AnyRow → List AnyRow → List AnyRow
with_row None rs = rs
with_row (Some r) rs = r ∷ rs

-- the rows of the names of a bucket whose keys begin with the prefix
abbrev pub rows_under : List Entry → List ℕ → List ℕ → List AnyRow
rows_under [] bucket prefix = []
rows_under (e ∷ es) bucket prefix =
    let rest = rows_under es bucket prefix in
    if pointwise nat_eq e.name.bucket bucket && starts_with nat_eq e.name.key prefix then with_row (row_of e.name e.has) rest else rest

-- ---- orders

-- the timestamp of what is there
abbrev pub last_ts : Has → ℕ
last_ts never = 0
last_ts (deleted version) = version.ts
last_ts (object version block c) = version.ts

-- what the map has under a name
abbrev pub has_at : Plain → Name → Has
has_at P name = has_among P.entries name

-- nothing changes, and the job ends so
abbrev pub tells : Plain → FlowEnd → Carried Plain
tells P end = record { state = P; end = Some end; begun = None }

-- the version that a write makes: by the clock, but after what is there, and with the number of the job
abbrev pub version_of : Plain → Name → Version
version_of P name = record { ts = max P.clock (suc (last_ts (has_at P name))); id = P.asked }

-- what a write makes; no order of the map wishes a stream, of which no byte is known
abbrev pub made : Version → ℕ → Wish → Has
made version block wish.Marker = deleted version
made version block (wish.Stream coming) = object version block (content_of coming [])
made version block (wish.Content c) = object version block c

-- what is told of the bytes that were written, none of a delete
abbrev pub meta_made : Wish → Option Meta
meta_made wish.Marker = None
meta_made (wish.Stream coming) = Some (meta_of (content_of coming []))
meta_made (wish.Content c) = Some (meta_of c)

-- something is written under a name
abbrev pub writes : Plain → Name → Wish → Carried Plain
writes P name wish =
    let version = version_of P name in
    record { state = record P { entries = with_has P.entries name (made version P.block wish) }; end = Some (Stored version (meta_made wish)); begun = None }

-- something is done with the object that is there, if any
abbrev pub with_object : Plain → Has → (Version → Content → Carried Plain) → Carried Plain
with_object P never f = tells P Nothing
with_object P (deleted version) f = tells P Nothing
with_object P (object version block c) f = f version c

-- the answer to an order; one whose bytes are still to come, of which none does, is given up
abbrev pub answered : Plain → Order → Carried Plain
answered P (order.Put bucket key body headers) = writes P (record { bucket = bucket; key = key }) (wish.Content (record { body = body; headers = headers }))
answered P (order.Stream bucket key announced headers) = tells P Aborted
answered P (order.Get bucket key) = with_object P (has_at P (record { bucket = bucket; key = key })) (λ version c. tells P (Found version (meta_of c) c.body))
answered P (order.Head bucket key) = with_object P (has_at P (record { bucket = bucket; key = key })) (λ version c. tells P (Found version (meta_of c) []))
answered P (order.Delete bucket key) = writes P (record { bucket = bucket; key = key }) wish.Marker
answered P (order.Copy from_bucket from_key bucket key headers) =
    with_object P (has_at P (record { bucket = from_bucket; key = from_key }))
    (λ version c. writes P (record { bucket = bucket; key = key }) (wish.Content (record { body = c.body; headers = unwrap_or headers c.headers })))
answered P (order.List bucket prefix) = tells P (Listed (shown_rows (rows_under P.entries bucket prefix)))

-- the clock is brought to this time, unless it was later
abbrev pub at_time : Plain → ℕ → Plain
at_time P time = record P { clock = P.clock + (time - P.ticked); ticked = max P.ticked time }

-- one job more
abbrev pub counted : Plain → Plain
counted P = record P { asked = suc P.asked }

-- an upload that is to be kept is a put of its bytes, if these are as many as were announced, or else given up
abbrev pub kept_by : Plain → Upload → List ℕ → Carried Plain
kept_by P u came = if length came == u.length then answered P (order.Put u.bucket u.key came u.headers) else tells P Aborted

-- the answer to a job; an upload that is given up changes nothing
abbrev pub done_for : Plain → Job → Carried Plain
done_for P (carry o) = answered P o
done_for P (keep u came) = kept_by P u came
done_for P (leave u came) = tells P Aborted

-- what comes of a job; one that names a bucket that is not there is not carried out
abbrev pub carried_by : Plain → ℕ → Job → Carried Plain
carried_by P time job =
    let now = at_time P time in
    if are_buckets now.buckets (buckets_of (order_of_job job)) then done_for (counted now) job else record { state = now; end = None; begun = None }

-- the plain store: in the middle of a get it may give a first part of the object
abbrev pub plain : Store Plain
plain = record { carries = carried_by; gives = λ P time order g. IsFirstOf (Some g) (given (carried_by P time (carry order))) }

-- ---- versions

-- the version of what is there
abbrev pub version_in : Has → Option Version
version_in never = None
version_in (deleted version) = Some version
version_in (object version block c) = Some version

-- each version has the number of a job that was asked, and another one under each name
pub record IsNumbered (P : Plain) : Type 0 where
  pub asked : (name : Name) (version : Version) → version_in (has_at P name) ≡ Some version → version.id ≤ P.asked
  pub apart : (a b : Name) (u v : Version) → version_in (has_at P a) ≡ Some u → version_in (has_at P b) ≡ Some v → u.id ≡ v.id → a ≡ b

-- ---- order

-- the second key is not below the first, and the names are two
abbrev pub IsBefore : Entry → Entry → Type 0
IsBefore e f = (is_lt (slice_cmp nat_cmp f.name.key e.name.key) ≡ false) × (same_name e.name f.name ≡ false)

-- keys don't descend, and no name stands twice
abbrev pub AreInOrder : List Entry → Type 0
AreInOrder [] = ⊤
AreInOrder (e ∷ es) = AllByRecursion (IsBefore e) es × AreInOrder es

-- the entries are those of a map, each key has a byte at least, and each version the number of a job
pub record IsMap (P : Plain) : Type 0 where
  pub numbered : IsNumbered P
  pub ordered : AreInOrder P.entries
  pub keyed : AllByRecursion (λ (e : Entry). 1 ≤ length e.name.key) P.entries

-- ---- blocks

-- bytes that are kept in blocks are cut into this one
abbrev pub IsPiece : ℕ → List ℕ → List ℕ → Type 0
IsPiece block body bytes = (i : ℕ) × (is_long body ≡ true) × (has_piece block body i ≡ true) × (bytes ≡ piece block body i)

-- the bytes that an order puts
abbrev pub body_put : Order → List ℕ
body_put (order.Put bucket key body headers) = body
body_put order = []

-- a block of an upload of which these bytes came: it came whole, or is the last one and all came that was announced
pub record IsPieceOf (block : ℕ) (u : Upload) (came bytes : List ℕ) : Type 0 where
  pub place : ℕ
  pub there : has_piece block (take u.length came) place ≡ true
  pub whole : (length bytes ≡ block) ⊎ (u.length ≤ length came)
  pub bytes_are : bytes ≡ piece block (take u.length came) place

-- a job puts bytes that are cut into this block
abbrev pub PutsPiece : ℕ → Job → List ℕ → Type 0
PutsPiece block (carry o) bytes = IsPiece block (body_put o) bytes
PutsPiece block (keep u came) bytes = IsPieceOf block u came bytes
PutsPiece block (leave u came) bytes = IsPieceOf block u came bytes

-- what is asked puts bytes that are cut into this block
abbrev pub PutsBlock : List ℕ → Asking Plain → Type 0
PutsBlock bytes a = PutsPiece a.state.block a.job bytes

-- no two such strings have one digest
abbrev pub AreApart : (List ℕ → Type 0) → Type 0
AreApart IsSuch = (a b : List ℕ) → IsSuch a → IsSuch b → blake2b 32 a ≡ blake2b 32 b → a ≡ b
