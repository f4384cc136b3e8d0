-- The turns of a workload that change the layout: nodes 1 to 6 restart, take other roles, and move to the layout that follows from these.
use Rattle.std.specs.Prelude.{ℕ, ◌+◌, ◌%◌, Bool, if◌then◌else◌, nat_le, ◌==◌, Some, List, [], ◌∷◌, ◌++◌, map}
use Rattle.std.specs.List.{range_with_len}
use Rattle.layout_roles.specs.declared.role.Zone.{Zone}
use Rattle.layout_roles.specs.declared.role.Kind.{Kind}
use Rattle.layout_roles.specs.declared.role.Kind.TheVariants.{Storage, Gateway}
use Rattle.store_model.specs.declared.event.Event.{Event}
use Rattle.store_model.specs.declared.event.Event.TheVariants.{Role, Apply, Drain, Restart, Gossip, Ack, Sync, SyncAck, Clean}

-- an event at each of nodes 1 to 6
abbrev pub on_each : (ℕ → Event) → List Event
on_each f = map f (range_with_len 1 6)

-- an event for each of nodes 2 to 6
abbrev pub on_others : (ℕ → Event) → List Event
on_others f = map f (range_with_len 2 5)

-- all nodes tell node 1 what they know of the layout, and then node 1 tells all nodes
abbrev pub spread : List Event
spread = on_others (λ n. Gossip n 1) ++ Drain 10000 ∷ on_others (λ n. Gossip 1 n) ++ Drain 10000 ∷ []

-- nodes 1 to 6 lie in the zones a, b, c, a, b and c
abbrev pub zone_of : ℕ → Zone
zone_of n = record { 0 = (97 + (n + 2) % 3) ∷ [] }

-- nodes 4 to 6 store rows in the odd changes, nodes 1 to 3 in the even ones
abbrev pub stores : ℕ → ℕ → Bool
stores j n = if j % 2 == 0 then nat_le n 3 else nat_le 4 n

-- who stores rows has 1000 bytes for them, the others are gateways
abbrev pub kind_of : ℕ → ℕ → Kind
kind_of j n = if stores j n then Storage 1000 else Gateway

-- the role of a node in change j
abbrev pub role_of : ℕ → ℕ → Event
role_of j n = Role n (Some (zone_of n, kind_of j n))

-- what was sent is delivered, and all nodes restart
abbrev pub restarts : List Event
restarts = Drain 10000 ∷ on_each Restart

-- the roles of change j become a layout, of which every node hears
abbrev pub applied : ℕ → List Event
applied j = on_each (role_of j) ++ Apply 1 ∷ spread

-- all nodes acknowledge it, and move their rows to the nodes that have them in it
abbrev pub moved : List Event
moved = on_each Ack ++ spread ++ on_each Sync ++ Drain 10000 ∷ spread

-- all nodes acknowledge that the rows are moved, and drop the layout before it
abbrev pub cleaned : List Event
cleaned = on_each SyncAck ++ spread ++ on_each Clean

-- the events of change j, counted from 1
unfoldable pub change : ℕ → List Event
change j = restarts ++ applied j ++ moved ++ cleaned
