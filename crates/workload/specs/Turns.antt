-- The turns of a workload that ask something of the store: an event that is drawn, and deliveries.
use Rattle.std.specs.Prelude.{ℕ, ◌+◌, ◌*◌, if◌then◌else◌, nat_lt, ◌==◌, List, [], ◌∷◌, ◌++◌, codes, decimal}
use Rattle.store_model.specs.declared.event.Event.{Event}
use Rattle.store_model.specs.declared.event.Event.TheVariants.{Put, Get, Head, Delete, Copy, List as Keys, Deliver, Lose, Drain, Tick, Work}
use Rattle.workload.specs.Numbers.{after, draw}

-- an event that was made with drawn numbers, and the state after them
pub record Made : Type 0 where
  pub event : Event
  pub state : ℕ

-- events that were made with drawn numbers, and the state after them
pub record Several : Type 0 where
  pub events : List Event
  pub state : ℕ

-- the one bucket
abbrev pub pics : List ℕ
pics = codes "pics"

-- the key k0, k1, k2 ..
abbrev pub key_of : ℕ → List ℕ
key_of i = codes "k" ++ decimal i

-- the size of what is put: below 64 bytes, and once in 32 times from 3072 to 4095
abbrev pub size_of : ℕ → ℕ
size_of x = if draw x 1 32 == 0 then 3072 + draw x 2 1024 else draw x 2 64

-- the event of choice c, at node n and for a key, after e events; x is the state after these were drawn
abbrev pub chosen : ℕ → ℕ → List ℕ → ℕ → ℕ → Made
chosen c n key e x =
    if nat_lt c 5 then record { event = Put n pics key (size_of x) (draw x 3 251); state = after x 3 }
    else if nat_lt c 8 then record { event = Get n pics key; state = x }
    else if c == 8 then record { event = Keys n pics []; state = x }
    else if c == 9 then record { event = Delete n pics key; state = x }
    else if c == 10 then record { event = Head n pics key; state = x }
    else if c == 11 then record { event = Copy n pics key pics (key_of (draw x 1 16)); state = after x 1 }
    else if c == 12 then record { event = Tick (draw x 1 1000); state = after x 1 }
    else if c == 13 then record { event = Work n; state = x }
    else if c == 14 then record { event = Deliver (1 + draw x 1 (8 * e)); state = after x 1 }
    else record { event = Lose (1 + draw x 1 (8 * e)); state = after x 1 }

-- the choice, the node and the key are drawn, in this order, and then what the event needs
abbrev pub first_event : ℕ → ℕ → Made
first_event x e = chosen (draw x 1 16) (1 + draw x 2 6) (key_of (draw x 3 16)) e (after x 3)

-- an event, and then deliveries
abbrev pub with_drain : Made → Several
with_drain m = record { events = m.event ∷ Drain (1 + draw m.state 1 40) ∷ []; state = after m.state 1 }

-- a turn from state x on, after e events
unfoldable pub plain_turn : ℕ → ℕ → Several
plain_turn x e = with_drain (first_event x e)
