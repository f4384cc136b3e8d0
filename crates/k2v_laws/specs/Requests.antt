-- Requests of one item at a moment of a run, and what the next one is answered, worked out by hand from the rules.
use Rattle.std.specs.Prelude.{◌≡◌, ℕ, false, IsTrue, List, [], ◌∷◌, None, codes, refl}
use Rattle.cluster_machine.specs.Layouts.{layouts}
use Rattle.cluster_machine.specs.World.{is_member_at}
use Rattle.k2v_model.specs.declared.order.Item.{Item}
use Rattle.k2v_model.specs.declared.order.Ask.TheVariants.{Write, Read}
use Rattle.k2v_model.specs.declared.order.Order.{Order}
use Rattle.k2v_model.specs.declared.line.ItemRefusal.{ItemRefusal}
use Rattle.k2v_model.specs.Run.{World, ItemRequest, Stage, reading, shown, State, refusal, begins_reading, begins}
use Rattle.k2v_laws.specs.Rows.{letter}

-- the item with partition key `p` and sort key `s` of the bucket `pics`
abbrev pub item : Item
item = record { bucket = codes "pics"; pk = codes "p"; sk = codes "s"; short = refl; bytes = refl }

-- a request to write `a`, in the place of what the read with this number showed
abbrev pub writing : ℕ → Order
writing token = record { item = item; ask = Write (letter 97) token }

-- a request to read
abbrev pub to_read : Order
to_read = record { item = item; ask = Read }

-- a request in this stage that began at this node when nothing was acknowledged
abbrev pub request_at : ℕ → Order → Stage → ItemRequest
request_at node order stage = record { node = node; order = order; before = λ q. false; stage = stage }

-- request 1, a write at node 1, is open
abbrev pub open_write : List ItemRequest
open_write = request_at 1 (writing 0) reading ∷ []

-- and so is request 2, a read at node 1
abbrev pub open_read : List ItemRequest
open_read = request_at 1 (writing 0) reading ∷ request_at 1 to_read reading ∷ []

-- or it has finished, and found no row
abbrev pub finished_read : List ItemRequest
finished_read = request_at 1 (writing 0) reading ∷ request_at 1 to_read (shown None 2) ∷ []

-- these requests in a world, where the bucket was made
abbrev pub with_requests : World → List ItemRequest → State
with_requests w requests = record { world = w; buckets = item.bucket ∷ []; requests = requests }

-- where the node is a member, the request is refused for this reason
abbrev pub IsRefused : List ItemRequest → ℕ → Order → ItemRefusal → Type 0
IsRefused requests node order why =
    (w : World) → IsTrue (is_member_at layouts w node) →
    begins (with_requests w requests) node order ≡ refusal (with_requests w requests) why

-- where the node is a member, the request begins its read phase
abbrev pub IsAdmitted : List ItemRequest → ℕ → Order → Type 0
IsAdmitted requests node order =
    (w : World) → IsTrue (is_member_at layouts w node) →
    begins (with_requests w requests) node order ≡ begins_reading (with_requests w requests) node order
