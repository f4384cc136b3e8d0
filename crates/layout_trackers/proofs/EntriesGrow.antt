-- What trackers hold of each node after they merged, and after one entry was raised: no entry falls.
use Rattle.std.specs.Prelude.{◌≡◌, ◌≢◌, ℕ, max, Option, Some, None, option_map, refl}
use Rattle.std.specs.Option.{unwrap_or}
use Rattle.std.proofs.Common.{ap, sym, subst, ◌∙◌, ◌<◌, arith}
use Rattle.std.specs.declared.cmp.Ordering.{Ordering}
use Rattle.std.specs.declared.cmp.Ordering.TheVariants.{Less, Equal, Greater}
use Rattle.std.specs.Ordering.{nat_cmp}
use Rattle.std.specs.Cmp.{nat_cmp_total}
use Rattle.std.proofs.lemmas.Cmp.{ranked}
use Rattle.crdt_core.specs.declared.max.Max.{Max}
use Rattle.crdt_core.specs.IdentityLaws.{nat_identical}
use Rattle.crdt_core.specs.Lex.{by_order}
use Rattle.crdt_core.specs.Max.{max_join}
use Rattle.crdt_core.specs.Order.{option_join}
use Rattle.crdt_core.specs.Map.{map_get}
use Rattle.crdt_core.specs.MapLaws.{map_get-join}
use Rattle.crdt_core.proofs.MapPuts.{map_get-put, map_get-put_other}
use Rattle.layout_trackers.specs.declared.trackers.Trackers.{Trackers}
use Rattle.layout_trackers.specs.declared.which.Which.{Which}
use Rattle.layout_trackers.specs.declared.which.Which.TheVariants.{Ack, Sync, SyncAck}
use Rattle.layout_trackers.specs.Trackers.{Tracker, tracker_join, entry, counts, raised, trackers_join, one}
use Rattle.layout_trackers.specs.Entries.{later, IsNotAbove, Grows}

larger_by : (a b : ℕ) (r : Ordering) → nat_cmp a b ≡ r → by_order r b a a ≡ max a b
larger_by a b Less e = let h : a < b = ranked a b Less (sym e) in omega arith
larger_by a b Equal e = let h : a ≡ b = ranked a b Equal (sym e) in omega arith
larger_by a b Greater e = let h : b < a = ranked a b Greater (sym e) in omega arith

joined_versions : (a b : Option (Max ℕ)) → option_map (λ v. v.0) (option_join (max_join nat_cmp) a b) ≡ later (option_map (λ v. v.0) a) (option_map (λ v. v.0) b)
joined_versions None b = refl
joined_versions (Some a) None = refl
joined_versions (Some a) (Some b) = ap Some (larger_by a.0 b.0 (nat_cmp a.0 b.0) refl)

at_joined : (a b : Tracker) (node : ℕ) → option_map (λ v. v.0) (map_get (tracker_join a b) node) ≡ later (option_map (λ v. v.0) (map_get a node)) (option_map (λ v. v.0) (map_get b node))
at_joined a b node = ap (option_map (λ v. v.0)) (map_get-join nat_cmp_total (max_join nat_cmp) a b node) ∙ joined_versions (map_get a node) (map_get b node)

-- merged trackers have at each node the greater version
pub entry-joined : (which : Which) (node : ℕ) (a b : Trackers) → entry which node (trackers_join a b) ≡ later (entry which node a) (entry which node b)
entry-joined Ack node a b = at_joined a.ack b.ack node
entry-joined Sync node a b = at_joined a.sync b.sync node
entry-joined SyncAck node a b = at_joined a.sync_ack b.sync_ack node

at_own : (t : Tracker) (node v : ℕ) → option_map (λ v. v.0) (map_get (tracker_join t (one node v)) node) ≡ later (option_map (λ v. v.0) (map_get t node)) (Some v)
at_own t node v = ap (option_map (λ v. v.0)) (map_get-put nat_cmp_total (max_join nat_cmp) t node (record { 0 = v })) ∙ joined_versions (map_get t node) (Some (record { 0 = v }))

-- the raised entry is the greater version
pub entry-raised : (which : Which) (node v : ℕ) (t : Trackers) → entry which node (raised which node v t) ≡ later (entry which node t) (Some v)
entry-raised Ack node v t = at_own t.ack node v
entry-raised Sync node v t = at_own t.sync node v
entry-raised SyncAck node v t = at_own t.sync_ack node v

at_other : (t : Tracker) (node v at : ℕ) → at ≢ node → option_map (λ v. v.0) (map_get (tracker_join t (one node v)) at) ≡ option_map (λ v. v.0) (map_get t at)
at_other t node v at apart = ap (option_map (λ v. v.0)) (map_get-put_other nat_cmp_total (max_join nat_cmp) t node (record { 0 = v }) at (λ e. apart (nat_identical at node e)))

-- no other node's entry changes
pub entry-raised_alone : (which other : Which) (node at v : ℕ) (t : Trackers) → at ≢ node → entry other at (raised which node v t) ≡ entry other at t
entry-raised_alone Ack Ack node at v t apart = at_other t.ack node v at apart
entry-raised_alone Ack Sync node at v t apart = refl
entry-raised_alone Ack SyncAck node at v t apart = refl
entry-raised_alone Sync Ack node at v t apart = refl
entry-raised_alone Sync Sync node at v t apart = at_other t.sync node v at apart
entry-raised_alone Sync SyncAck node at v t apart = refl
entry-raised_alone SyncAck Ack node at v t apart = refl
entry-raised_alone SyncAck Sync node at v t apart = refl
entry-raised_alone SyncAck SyncAck node at v t apart = at_other t.sync_ack node v at apart

-- and no other tracker
pub entry-raised_one : (which other : Which) (node at v : ℕ) (t : Trackers) → other ≢ which → entry other at (raised which node v t) ≡ entry other at t
entry-raised_one Ack Ack node at v t apart = absurd (apart refl)
entry-raised_one Ack Sync node at v t apart = refl
entry-raised_one Ack SyncAck node at v t apart = refl
entry-raised_one Sync Ack node at v t apart = refl
entry-raised_one Sync Sync node at v t apart = absurd (apart refl)
entry-raised_one Sync SyncAck node at v t apart = refl
entry-raised_one SyncAck Ack node at v t apart = refl
entry-raised_one SyncAck Sync node at v t apart = refl
entry-raised_one SyncAck SyncAck node at v t apart = absurd (apart refl)

pub later-left : (a b : Option ℕ) → IsNotAbove a (later a b)
later-left None b = tt
later-left (Some a) None = omega arith
later-left (Some a) (Some b) = omega arith

pub later-right : (a b : Option ℕ) → IsNotAbove b (later a b)
later-right None None = tt
later-right None (Some b) = omega arith
later-right (Some a) None = tt
later-right (Some a) (Some b) = omega arith

pub never_above : (a : Option ℕ) → IsNotAbove a a
never_above None = tt
never_above (Some a) = omega arith

pub not_above_trans : (a b c : Option ℕ) → IsNotAbove a b → IsNotAbove b c → IsNotAbove a c
not_above_trans None b c h k = tt
not_above_trans (Some a) None c h k = absurd h
not_above_trans (Some a) (Some b) None h k = absurd k
not_above_trans (Some a) (Some b) (Some c) h k = omega arith

pub joins_grow : (a b : Trackers) → Grows a (trackers_join a b) × Grows b (trackers_join a b)
joins_grow a b = (
  (λ which node. subst (IsNotAbove (entry which node a)) (sym (entry-joined which node a b)) (later-left (entry which node a) (entry which node b))),
  (λ which node. subst (IsNotAbove (entry which node b)) (sym (entry-joined which node a b)) (later-right (entry which node a) (entry which node b))),
)

grows_at : (t : Tracker) (node v at : ℕ) → IsNotAbove (option_map (λ v. v.0) (map_get t at)) (option_map (λ v. v.0) (map_get (tracker_join t (one node v)) at))
grows_at t node v at =
    let mine = option_map (λ v. v.0) (map_get t at) in
    subst (IsNotAbove mine) (sym (at_joined t (one node v) at)) (later-left mine (option_map (λ v. v.0) (map_get (one node v) at)))

pub raises_grow : (which : Which) (node v : ℕ) (t : Trackers) → Grows t (raised which node v t)
raises_grow Ack node v t Ack at = grows_at t.ack node v at
raises_grow Ack node v t Sync at = never_above (entry Sync at t)
raises_grow Ack node v t SyncAck at = never_above (entry SyncAck at t)
raises_grow Sync node v t Ack at = never_above (entry Ack at t)
raises_grow Sync node v t Sync at = grows_at t.sync node v at
raises_grow Sync node v t SyncAck at = never_above (entry SyncAck at t)
raises_grow SyncAck node v t Ack at = never_above (entry Ack at t)
raises_grow SyncAck node v t Sync at = never_above (entry Sync at t)
raises_grow SyncAck node v t SyncAck at = grows_at t.sync_ack node v at

later_from_0 : (a b : Option ℕ) → unwrap_or (later a b) 0 ≡ max (unwrap_or a 0) (unwrap_or b 0)
later_from_0 None None = refl
later_from_0 None (Some b) = omega arith
later_from_0 (Some a) None = omega arith
later_from_0 (Some a) (Some b) = refl

pub counts-joined : (which : Which) (node : ℕ) (a b : Trackers) → counts 0 which (trackers_join a b) node ≡ max (counts 0 which a node) (counts 0 which b node)
counts-joined which node a b = ap (λ x. unwrap_or x 0) (entry-joined which node a b) ∙ later_from_0 (entry which node a) (entry which node b)

pub never_falls : (t : Trackers) → Grows t t
never_falls t which node = never_above (entry which node t)

pub grows_trans : (a b c : Trackers) → Grows a b → Grows b c → Grows a c
grows_trans a b c h k which node = not_above_trans (entry which node a) (entry which node b) (entry which node c) (h which node) (k which node)
