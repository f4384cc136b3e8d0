-- Laws that impls cite; no definition stands here.
-- The join of trackers has the laws of a join.
use Rattle.std.specs.Cmp.{nat_cmp_total}
use Rattle.crdt_core.specs.Laws.{JoinLaws}
use Rattle.crdt_core.specs.IdentityLaws.{nat_identical}
use Rattle.crdt_core.specs.TypeLaws.{max_laws}
use Rattle.crdt_core.specs.MapLaws.{map_laws}
use Rattle.layout_trackers.specs.Trackers.{tracker_join, trackers_join}

tracker_laws : JoinLaws tracker_join
tracker_laws = map_laws nat_cmp_total nat_identical (max_laws nat_cmp_total nat_identical)

pub trackers_laws : JoinLaws trackers_join
trackers_laws = record {
  commutative = λ a b i. record { ack = tracker_laws.commutative a.ack b.ack i; sync = tracker_laws.commutative a.sync b.sync i; sync_ack = tracker_laws.commutative a.sync_ack b.sync_ack i };
  associative = λ a b c i. record { ack = tracker_laws.associative a.ack b.ack c.ack i; sync = tracker_laws.associative a.sync b.sync c.sync i; sync_ack = tracker_laws.associative a.sync_ack b.sync_ack c.sync_ack i };
  idempotent = λ a i. record { ack = tracker_laws.idempotent a.ack i; sync = tracker_laws.idempotent a.sync i; sync_ack = tracker_laws.idempotent a.sync_ack i };
}
