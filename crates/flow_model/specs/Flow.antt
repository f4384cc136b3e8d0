-- What a request begins with.
use Rattle.std.specs.Prelude.{ℕ, List, []}
use Rattle.blake2_hash.specs.Hash.{digest_of}
use Rattle.crdt_rows.specs.declared.any_row.AnyRow.{AnyRow}
use Rattle.wire_messages.specs.declared.phase.Phase.{Phase}
use Rattle.wire_messages.specs.declared.phase.Phase.TheVariants.{Read, Range}
use Rattle.flow_model.specs.declared.order.Order.{Order}
use Rattle.flow_model.specs.declared.order.Order.TheVariants as order
use Rattle.flow_model.specs.declared.flow.Name.{Name}
use Rattle.flow_model.specs.declared.flow.Wish.{Wish}
use Rattle.flow_model.specs.declared.flow.Wish.TheVariants as wish
use Rattle.flow_model.specs.declared.flow.Aim.{Aim}
use Rattle.flow_model.specs.declared.flow.Aim.TheVariants as aim
use Rattle.flow_model.specs.declared.flow.Stage.{Stage}
use Rattle.flow_model.specs.declared.flow.Stage.TheVariants.{Drawing, Looking, Listing}
use Rattle.flow_model.specs.declared.flow.Flow.{Flow}
use Rattle.flow_model.specs.Rows.{row_key}

-- the read phase of an object's row
abbrev pub asks_for : Name → Phase AnyRow
asks_for name = Read 1 (digest_of name.bucket) (row_key name)

-- the range phase of the rows of a bucket whose keys begin with the prefix and are past this key
abbrev pub asks_past : List ℕ → List ℕ → List ℕ → Phase AnyRow
asks_past bucket prefix after = Range (digest_of bucket) prefix after

-- a request that waits so, and its phase
abbrev pub waiting : ℕ → ℕ → Stage → Phase AnyRow → Flow × Phase AnyRow
waiting id block stage phase = (record { id = id; block = block; stage = stage }, phase)

-- a write asks for the row of the object that it writes
abbrev pub draws : ℕ → ℕ → Name → Wish → Flow × Phase AnyRow
draws id block name wish = waiting id block (Drawing name wish) (asks_for name)

-- a read asks for the object's row
abbrev pub looks : ℕ → ℕ → Name → Aim → Flow × Phase AnyRow
looks id block name aim = waiting id block (Looking name aim) (asks_for name)

-- what the request with this number begins with, at a time when blocks have this size
abbrev pub started : Order → ℕ → ℕ → Flow × Phase AnyRow
started (order.Put bucket key body headers) id block = draws id block (record { bucket = bucket; key = key }) (wish.Content (record { body = body; headers = headers }))
started (order.Stream bucket key length headers) id block = draws id block (record { bucket = bucket; key = key }) (wish.Stream (record { length = length; headers = headers }))
started (order.Get bucket key) id block = looks id block (record { bucket = bucket; key = key }) aim.Get
started (order.Head bucket key) id block = looks id block (record { bucket = bucket; key = key }) aim.Head
started (order.Delete bucket key) id block = draws id block (record { bucket = bucket; key = key }) wish.Marker
started (order.Copy from_bucket from_key bucket key headers) id block =
    looks id block (record { bucket = from_bucket; key = from_key }) (aim.Copy (record { bucket = bucket; key = key }) headers)
started (order.List bucket prefix) id block = waiting id block (Listing bucket prefix []) (asks_past bucket prefix [])
