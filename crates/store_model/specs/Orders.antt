-- What the history says of an order: its kind, and the key that it names.
use Rattle.std.specs.Prelude.{ℕ, List, [], ◌∷◌}
use Rattle.flow_model.specs.declared.order.Order.{Order}
use Rattle.flow_model.specs.declared.order.Order.TheVariants as order
use Rattle.flow_model.specs.declared.flow.Name.{Name}
use Rattle.history_model.specs.declared.record.Kind.{Kind}
use Rattle.history_model.specs.declared.record.Kind.TheVariants.{Put, Get, Head, Delete, Copy, List as Listing}

-- what the request does
abbrev pub kind_of : Order → Kind
kind_of (order.Put bucket key body headers) = Put
kind_of (order.Stream bucket key length headers) = Put
kind_of (order.Get bucket key) = Get
kind_of (order.Head bucket key) = Head
kind_of (order.Delete bucket key) = Delete
kind_of (order.Copy from_bucket from_key bucket key headers) = Copy
kind_of (order.List bucket prefix) = Listing

-- the object that a request is for: a copy's is its destination, and in place of a key a list has its prefix
abbrev pub name_of : Order → Name
name_of (order.Put bucket key body headers) = record { bucket = bucket; key = key }
name_of (order.Stream bucket key length headers) = record { bucket = bucket; key = key }
name_of (order.Get bucket key) = record { bucket = bucket; key = key }
name_of (order.Head bucket key) = record { bucket = bucket; key = key }
name_of (order.Delete bucket key) = record { bucket = bucket; key = key }
name_of (order.Copy from_bucket from_key bucket key headers) = record { bucket = bucket; key = key }
name_of (order.List bucket prefix) = record { bucket = bucket; key = prefix }

-- the buckets that a request names
abbrev pub buckets_of : Order → List (List ℕ)
buckets_of (order.Put bucket key body headers) = bucket ∷ []
buckets_of (order.Stream bucket key length headers) = bucket ∷ []
buckets_of (order.Get bucket key) = bucket ∷ []
buckets_of (order.Head bucket key) = bucket ∷ []
buckets_of (order.Delete bucket key) = bucket ∷ []
buckets_of (order.Copy from_bucket from_key bucket key headers) = from_bucket ∷ bucket ∷ []
buckets_of (order.List bucket prefix) = bucket ∷ []
