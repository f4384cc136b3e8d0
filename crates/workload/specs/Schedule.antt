-- The schedule of n events that a seed gives.
use Rattle.std.specs.Prelude.{ℕ, zero, suc, ◌+◌, ◌%◌, ◌/◌, if◌then◌else◌, ◌==◌, List, [], ◌∷◌, ◌++◌, length, take}
use Rattle.store_model.specs.declared.event.Event.{Event}
use Rattle.store_model.specs.declared.event.Event.TheVariants.{Trio, Bucket, Block}
use Rattle.store_model.specs.declared.event.Numbered.{Numbered}
use Rattle.workload.specs.Turns.{Several, pics, plain_turn}
use Rattle.workload.specs.Change.{change}

-- three nodes, a bucket and a size of blocks
abbrev pub opening : List Event
opening = Trio ∷ Bucket pics ∷ Block 4096 ∷ []

-- turn i from state x on, after e events: each 250th changes the layout, and draws nothing
abbrev pub turn_of : ℕ → ℕ → ℕ → Several
turn_of i x e = if i % 250 == 0 then record { events = change (i / 250); state = x } else plain_turn x e

-- what was made, and then the events of turn i
abbrev pub followed : ℕ → Several → Several
followed i m =
    let t = turn_of i m.state (length m.events) in
    record { events = m.events ++ t.events; state = t.state }

-- the opening, and the events of turns 1 to i
unfoldable pub made : ℕ → ℕ → Several
made seed zero = record { events = opening; state = seed }
made seed (suc i) = followed (suc i) (made seed i)

-- events on lines one after the other, the first of which has number k
abbrev pub on_lines : ℕ → List Event → List Numbered
on_lines k [] = []
on_lines k (e ∷ es) = record { line = k; event = e } ∷ on_lines (k + 1) es

-- the first n events, event i on line i: the opening and n turns have as many, since every turn has one or more
abbrev pub schedule : ℕ → ℕ → List Numbered
schedule n seed = on_lines 1 (take n (made seed n).events)
