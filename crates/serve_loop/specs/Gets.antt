-- What is known of a get that is on its way.
use Rattle.std.specs.Prelude.{◌≡◌, ⊤, ℕ, List, [], ◌++◌, Option, Some, None}
use Rattle.crdt_rows.specs.declared.version.Version.{Version}
use Rattle.crdt_rows.specs.declared.body.Meta.{Meta}
use Rattle.flow_model.specs.declared.order.Order.{Order}
use Rattle.flow_model.specs.declared.flow.FlowEnd.{FlowEnd}
use Rattle.flow_model.specs.declared.flow.FlowEnd.TheVariants as flow
use Rattle.serve_model.specs.Stores.{Given, Carried, Store, given}
use Rattle.serve_loop.specs.declared.storage.Got.{Got}
use Rattle.serve_loop.specs.declared.storage.Got.TheVariants.{Found, Piece, End}

-- an object was found, of which nothing is given yet
abbrev pub found_now : Version → Meta → Given
found_now version meta = record { version = version; meta = meta; bytes = [] }

-- these bytes are given too
abbrev pub with_piece : Given → List ℕ → Given
with_piece g piece = record g { bytes = g.bytes ++ piece }

-- the bytes that were given
abbrev pub bytes_of : Option Given → List ℕ
bytes_of None = []
bytes_of (Some g) = g.bytes

-- the end of a get that told of the bytes that weren't given before
abbrev pub with_given : Option Given → Option FlowEnd → Option FlowEnd
with_given so_far (Some (flow.Found version meta rest)) = Some (flow.Found version meta (bytes_of so_far ++ rest))
with_given so_far end = end

-- a get that ended without an object gave all that it had
abbrev pub GaveAll : Option Given → Option Given → Option FlowEnd → Type 0
GaveAll so_far all (Some (flow.Found version meta rest)) = ⊤
GaveAll so_far all end = so_far ≡ all

-- the store may give so much in the middle of an order
abbrev pub MayGive : {S : Type 0} → Store S → S → ℕ → Order → Option Given → Type 0
MayGive store s time order None = ⊤
MayGive store s time order (Some g) = store.gives s time order g

-- there is more to come
abbrev pub GoesOn : Got → Type 0
GoesOn (Found version meta) = ⊤
GoesOn (Piece bytes) = ⊤
GoesOn (End end) = ⊥

-- what a get gives next: first what it found, then its bytes, then its end
abbrev pub Gives : {S : Type 0} → (Option Given → Type 0) → (Option FlowEnd → Type 0) → Carried S → Option Given → Got → Type 0
Gives on ended c so_far (Found version meta) = (so_far ≡ None) × on (Some (found_now version meta))
Gives on ended c so_far (Piece bytes) = (g : Given) × (so_far ≡ Some g) × on (Some (with_piece g bytes))
Gives on ended c so_far (End end) = ended (with_given so_far end) × GaveAll so_far (given c) end

-- a get is on its way
abbrev pub IsOnItsWay : {S : Type 0} → (S → ℕ → Order → Option Given → Type 0) → Type 0
IsOnItsWay {S} gives = (s : S) × (time : ℕ) × (order : Order) × (so_far : Option Given) × gives s time order so_far
