-- What records say: of which request, how it finished, which keys it names and which versions it shows.
use Rattle.std.specs.Prelude.{◌≡◌, ℕ, ◌+◌, ◌==◌, nat_eq, Bool, true, false, Option, Some, None, option_map, List, [], ◌∷◌, drop, position, slice_get, Contains}
use Rattle.std.specs.List.{starts_with}
use Rattle.std.specs.Option.{option_and_then}
use Rattle.std.specs.Cmp.Lexicographic.{pointwise}
use Rattle.crdt_rows.specs.declared.version.Version.{Version}
use Rattle.history_model.specs.declared.record.Kind.{Kind}
use Rattle.history_model.specs.declared.record.Kind.TheVariants.{Put, Get, Head, Delete, Copy, List as Listing}
use Rattle.history_model.specs.declared.record.Answer.{Answer}
use Rattle.history_model.specs.declared.record.Answer.TheVariants.{Version as Showing, None as Nothing, Listed}
use Rattle.history_model.specs.declared.record.Record.{Record}
use Rattle.history_model.specs.declared.record.Record.TheVariants.{Began, Finished, Ended}

-- the request reads
abbrev pub is_read : Kind → Bool
is_read Put = false
is_read Get = true
is_read Head = true
is_read Delete = false
is_read Copy = false
is_read Listing = true

-- the request writes
abbrev pub is_write : Kind → Bool
is_write Put = true
is_write Get = false
is_write Head = false
is_write Delete = true
is_write Copy = true
is_write Listing = false

-- the request lists
abbrev pub is_list : Kind → Bool
is_list Put = false
is_list Get = false
is_list Head = false
is_list Delete = false
is_list Copy = false
is_list Listing = true

-- the request deletes
abbrev pub is_delete : Kind → Bool
is_delete Put = false
is_delete Get = false
is_delete Head = false
is_delete Delete = true
is_delete Copy = false
is_delete Listing = false

-- a put or a copy, whose version a read can show
abbrev pub is_source : Kind → Bool
is_source Put = true
is_source Get = false
is_source Head = false
is_source Delete = false
is_source Copy = true
is_source Listing = false

-- the number of the request that a record speaks of
abbrev pub request_of : Record → ℕ
request_of (Began q node kind bucket key) = q
request_of (Finished q answer) = q
request_of (Ended q cause) = q

-- the answer with which a record finishes its request
abbrev pub answer_of : Record → Option Answer
answer_of (Began q node kind bucket key) = None
answer_of (Finished q answer) = Some answer
answer_of (Ended q cause) = None

-- the place of the next record after place i that speaks of request q
abbrev pub next : List Record → ℕ → ℕ → Option ℕ
next h i q = option_map (λ k. i + 1 + k) (position (λ r. request_of r == q) (drop (i + 1) h))

-- what stands at place j, with j, where it finishes its request
abbrev pub finish_at : List Record → ℕ → Option (ℕ × Answer)
finish_at h j = option_map (λ answer. (j, answer)) (option_and_then answer_of (slice_get h j))

-- where the request q that began at place i finished, and its answer: the next record that speaks of q, if it is a finish
abbrev pub finish : List Record → ℕ → ℕ → Option (ℕ × Answer)
finish h i q = option_and_then (finish_at h) (next h i q)

-- the version with which an answer acknowledges a write
abbrev pub version_of : Answer → Option Version
version_of (Showing v) = Some v
version_of Nothing = None
version_of (Listed entries) = None

-- where the request q that began at place i was acknowledged, if it finished with a version, and with which
abbrev pub acknowledged : List Record → ℕ → ℕ → Option (ℕ × Version)
acknowledged h i q = option_and_then (λ f. option_map (λ v. (f.0, v)) (version_of f.1)) (finish h i q)

-- at place i request q began, to do this to this key of this bucket
abbrev pub BeganAt : List Record → ℕ → ℕ → Kind → List ℕ → List ℕ → Type 0
BeganAt h i q kind bucket key = (node : ℕ) × (slice_get h i ≡ Some (Began q node kind bucket key))

-- a value that passes
abbrev pub is_some_with : {A : Type 0} → (A → Bool) → Option A → Bool
is_some_with p None = false
is_some_with p (Some a) = p a

-- a record says that a request began, which passes
abbrev pub begins : (ℕ → Kind → List ℕ → List ℕ → Bool) → Option Record → Bool
begins p None = false
begins p (Some (Began q node kind bucket key)) = p q kind bucket key
begins p (Some (Finished q answer)) = false
begins p (Some (Ended q cause)) = false

-- two strings of bytes are one
abbrev pub same_bytes : List ℕ → List ℕ → Bool
same_bytes = pointwise nat_eq

-- a read with this key of its own names this other key: a list each with its prefix, a get or head its own
abbrev pub names : Kind → List ℕ → List ℕ → Bool
names Put own key = same_bytes own key
names Get own key = same_bytes own key
names Head own key = same_bytes own key
names Delete own key = same_bytes own key
names Copy own key = same_bytes own key
names Listing own key = starts_with nat_eq key own

-- the versions that an answer shows, each with its key, to a read whose own key is this
abbrev pub shown : List ℕ → Answer → List (List ℕ × Version)
shown own (Showing v) = (own, v) ∷ []
shown own Nothing = []
shown own (Listed entries) = entries

-- the answer shows this version of the key
abbrev pub Shows : List ℕ → Answer → List ℕ → Version → Type 0
Shows own answer key v = Contains (shown own answer) (key, v)
