-- Three maps from nodes to versions, and how they merge.
use Rattle.std.specs.Prelude.{ℕ, Bool, leb, nat_eq, Option, Some, option_map, [], refl}
use Rattle.std.specs.Option.{unwrap_or}
use Rattle.std.specs.List.{list_any}
use Rattle.std.specs.Ordering.{nat_cmp}
use Rattle.crdt_core.specs.declared.max.Max.{Max}
use Rattle.crdt_core.specs.Max.{max_join}
use Rattle.crdt_core.specs.Map.{MapOf, map_entries, map_get, map_join, map_single}
use Rattle.layout_trackers.specs.declared.trackers.Trackers.{Trackers}
use Rattle.layout_trackers.specs.declared.which.Which.{Which}
use Rattle.layout_trackers.specs.declared.which.Which.TheVariants.{Ack, Sync, SyncAck}

-- a map from nodes to versions
abbrev pub Tracker : Type 0
Tracker = MapOf nat_cmp nat_eq (λ x y. Some (nat_cmp x y)) (Max ℕ)

-- trackers without an entry
abbrev pub no_trackers : Trackers
no_trackers = record { ack = record { entries = []; ascending = refl }; sync = record { entries = []; ascending = refl }; sync_ack = record { entries = []; ascending = refl } }

-- node by node, the greater version
abbrev pub tracker_join : Tracker → Tracker → Tracker
tracker_join = map_join (max_join nat_cmp)

-- one of the three trackers
abbrev pub tracker : Which → Trackers → Tracker
tracker Ack t = t.ack
tracker Sync t = t.sync
tracker SyncAck t = t.sync_ack

-- a node's version, where it has an entry
abbrev pub entry : Which → ℕ → Trackers → Option ℕ
entry which node t = option_map (λ v. v.0) (map_get (tracker which t) node)

-- a node's version, where one without an entry counts as of this version
abbrev pub counts : ℕ → Which → Trackers → ℕ → ℕ
counts missing which t node = unwrap_or (entry which node t) missing

-- some node's entry is at least this version
abbrev pub is_reached : Which → ℕ → Trackers → Bool
is_reached which v t = list_any (λ e. leb v e.1.0) (map_entries (tracker which t))

-- tracker by tracker
abbrev pub trackers_join : Trackers → Trackers → Trackers
trackers_join a b = record { ack = tracker_join a.ack b.ack; sync = tracker_join a.sync b.sync; sync_ack = tracker_join a.sync_ack b.sync_ack }

-- this version at this node, and nothing else
abbrev pub one : ℕ → ℕ → Tracker
one node v = map_single node (record { 0 = v })

-- one node's entry, merged with this version
abbrev pub raised : Which → ℕ → ℕ → Trackers → Trackers
raised Ack node v t = record t { ack = tracker_join t.ack (one node v) }
raised Sync node v t = record t { sync = tracker_join t.sync (one node v) }
raised SyncAck node v t = record t { sync_ack = tracker_join t.sync_ack (one node v) }
