-- What the code keeps of requests, and what it finds among them.
use Rattle.std.specs.Prelude.{ℕ, suc, ◌-◌, Bool, true, false, ◌&&◌, ◌||◌, ◌==◌, if◌then◌else◌, cond, Option, Some, None, option_map, List, [], ◌∷◌, slice_set}
use Rattle.std.specs.Option.{unwrap_or}
use Rattle.blake2_hash.specs.Hash.{digest_of}
use Rattle.layout_roles.specs.declared.cut.Cut.{Cut}
use Rattle.cluster_machine.specs.declared.step.Refusal.{Refusal}
use Rattle.cluster_machine.specs.World.{numbered}
use Rattle.k2v_rows.specs.declared.value.K2vValue.{K2vValue}
use Rattle.k2v_rows.specs.declared.k2v_row.K2vRow.{K2vRow}
use Rattle.k2v_rows.specs.Row.{ItemKey, can_put, after_put}
use Rattle.k2v_rows.specs.Token.{TimeMap}
use Rattle.k2v_model.specs.declared.order.Ask.{Ask}
use Rattle.k2v_model.specs.declared.order.Ask.TheVariants.{Write, Read}
use Rattle.k2v_model.specs.declared.line.ItemRefusal.{ItemRefusal}
use Rattle.k2v_model.specs.declared.line.ItemRefusal.TheVariants.{NoSuchToken, Busy}
use Rattle.k2v_model.specs.Orders.{is_same_key, is_write, empty_row, no_times, token_in}
use Rattle.k2v_model.specs.Run as model
use Rattle.k2v_model.specs.Run.{ItemRequest}
use Rattle.k2v_world.specs.declared.asked.Asked.{Asked}
use Rattle.k2v_world.specs.declared.asked.Stage.{Stage}
use Rattle.k2v_world.specs.declared.asked.Stage.TheVariants.{Reading, Storing, Shown, Over}

-- the token of a read that gave this row; one that found none has no times
abbrev pub read_token : Option K2vRow → TimeMap
read_token None = no_times
read_token (Some row) = token_in row

-- what is kept of a stage: of a read that finished its token, and of a write's row nothing
abbrev pub kept_stage : model.Stage → Stage
kept_stage model.reading = Reading
kept_stage (model.storing row) = Storing
kept_stage (model.stored row) = Over
kept_stage (model.shown given begun) = Shown (read_token given)
kept_stage model.over = Over

-- what is kept of a request: its stage so, the digest of its bucket's name, and not which writes were acknowledged before
abbrev pub kept : ItemRequest → Asked
kept m = record { node = m.node; order = m.order; bucket = digest_of m.order.item.bucket; stage = kept_stage m.stage }

-- ---- what a request is doing

-- it asks for its item's row
abbrev pub is_reading : Stage → Bool
is_reading Reading = true
is_reading Storing = false
is_reading (Shown times) = false
is_reading Over = false

-- it stores a row
abbrev pub is_storing : Stage → Bool
is_storing Reading = false
is_storing Storing = true
is_storing (Shown times) = false
is_storing Over = false

-- it was a read that finished
abbrev pub is_shown : Stage → Bool
is_shown Reading = false
is_shown Storing = false
is_shown (Shown times) = true
is_shown Over = false

-- it is open
abbrev pub waits : Stage → Bool
waits Reading = true
waits Storing = true
waits (Shown times) = false
waits Over = false

-- the token that it gave
abbrev pub stage_times : Stage → TimeMap
stage_times Reading = no_times
stage_times Storing = no_times
stage_times (Shown times) = times
stage_times Over = no_times

-- the request is of the item with this key
abbrev pub is_of : ItemKey → Asked → Bool
is_of key a = is_same_key (a.bucket, (a.order.item.pk, a.order.item.sk)) key

-- it is an open write of the item at this node
abbrev pub is_open_write : ℕ → ItemKey → Asked → Bool
is_open_write n key a = is_write a.order.ask && (waits a.stage && ((a.node == n) && is_of key a))

-- ---- among requests

-- there is a request, and it is a finished read of the item
abbrev pub has_shown : ItemKey → Option Asked → Bool
has_shown key None = false
has_shown key (Some a) = is_shown a.stage && is_of key a

-- the number may be given as a token with a request for this item
abbrev pub is_token : List Asked → ItemKey → ℕ → Bool
is_token requests key t = (t == 0) || has_shown key (numbered requests t)

-- the token of the request, where there is one
abbrev pub times_at : Option Asked → TimeMap
times_at None = no_times
times_at (Some a) = stage_times a.stage

-- the least number of an open write of the item at this node, where the first of these requests has number q
abbrev pub busy_from : ℕ → List Asked → ℕ → ItemKey → Option ℕ
busy_from q [] n key = None
busy_from q (a ∷ as') n key = if is_open_write n key a then Some q else busy_from (suc q) as' n key

-- why a request may not begin: its token isn't one, or another write of the item is open at the node
abbrev pub hindrance : List Asked → ℕ → ItemKey → Ask → Option ItemRefusal
hindrance requests n key Read = None
hindrance requests n key (Write value token) =
    if is_token requests key token then option_map Busy (busy_from 1 requests n key) else Some (NoSuchToken token)

-- the request at place i is in this stage now
abbrev pub with_stage : List Asked → ℕ → Option Asked → Stage → List Asked
with_stage requests i None stage = requests
with_stage requests i (Some a) stage = slice_set requests i (record a { stage = stage })

-- a request that is open is over
abbrev pub ended_one : List Asked → ℕ → Option Asked → List Asked
ended_one requests q None = requests
ended_one requests q (Some a) = cond (waits a.stage) (slice_set requests (q - 1) (record a { stage = Over })) requests

-- these requests are over, where they are open
abbrev pub ended_all : List Asked → List ℕ → List Asked
ended_all requests [] = requests
ended_all requests (q ∷ qs) = ended_all (ended_one requests q (numbered requests q)) qs

-- a request that was to be expired is over, unless that was refused
abbrev pub ended_by : List Asked → ℕ → Option (Refusal Cut) → List Asked
ended_by requests q None = ended_one requests q (numbered requests q)
ended_by requests q (Some reason) = requests

-- the row that a write stores which read this, or none where it could not be made
abbrev pub written : List Asked → ℕ → Asked → K2vValue → ℕ → Option K2vRow → Option K2vRow
written requests q a value token read =
    let base = unwrap_or read (empty_row a.order.item) in
    let times = times_at (numbered requests token) in cond (can_put base a.node q times) (Some (after_put base a.node q value times)) None
