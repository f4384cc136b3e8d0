-- What is seen of a cluster that holds a map: that nothing goes on, which rows its nodes have, and which blocks.
use Rattle.std.specs.Prelude.{◌≡◌, ◌≤◌, ◌<◌, ℕ, suc, max, IsTrue, false, Option, Some, None, List, [], length}
use Rattle.std.specs.List.{AllByRecursion, Contains}
use Rattle.blake2_hash.specs.Hash.{digest_of}
use Rattle.crdt_rows.specs.declared.version.Version.{Version}
use Rattle.crdt_rows.specs.declared.state.State.TheVariants.{Uploading, Aborted}
use Rattle.crdt_rows.specs.declared.object_row.ObjectRow.{ObjectRow}
use Rattle.crdt_rows.specs.declared.any_row.AnyRow.{AnyRow}
use Rattle.crdt_rows.specs.declared.any_row.AnyRow.TheVariants as rows
use Rattle.crdt_rows.specs.AnyRow.{any_join}
use Rattle.crdt_rows.specs.Facts.{HasState}
use Rattle.object_schema.specs.Schema.{words}
use Rattle.table_model.specs.Rows.{row_at, rows as rows_of, rows_in}
use Rattle.quorum_model.specs.Quorum.{is_among}
use Rattle.layout_roles.specs.declared.layout.Layout.{Layout}
use Rattle.cluster_machine.specs.Hashes.{NoClash as NoTrieClash}
use Rattle.cluster_machine.specs.Layouts.{layouts, set_of}
use Rattle.cluster_machine.specs.Run.{IsLayout}
use Rattle.cluster_machine.specs.World.{undelivered}
use Rattle.drained_laws.specs.Calm.{AllHave}
use Rattle.flow_model.specs.declared.flow.Name.{Name}
use Rattle.flow_model.specs.Rows.{row_key}
use Rattle.flow_model.specs.Says.{said_of}
use Rattle.store_model.specs.Acts.{Act, after_acts, AreLawfulActs, ActsFit}
use Rattle.store_model.specs.Fresh.{NoClash}
use Rattle.store_model.specs.Run.{World, start}
use Rattle.store_laws.specs.Hashed.{ActsHash}
use Rattle.serve_model.specs.Clusters.{Cluster}
use Rattle.serve_model.specs.Plain.{Has, Entry, Plain, row_of, last_ts, has_at, AreInOrder}
use Rattle.plain_laws.specs.Holds.{nodes_at, HasItsBlocks}

-- each member stores this layout version alone, no request is open, each message was delivered or lost, the outboxes are empty, and no clock is ahead
pub record IsStill (l : Layout) (w : World) : Type 0 where
  pub views : AllHave layouts l w.nodes
  pub calls : (n : ℕ) → (w.nodes n).calls ≡ []
  pub delivered : undelivered w ≡ None
  pub items : (n : ℕ) → (w.nodes n).items ≡ []
  pub skews : (n : ℕ) → w.skew_of n ≡ 0

-- what a node has of a partition
abbrev pub part_of : World → ℕ → ℕ → List AnyRow
part_of w p n = rows_in words p (rows_of any_join words (w.nodes n).accepted)

-- the three nodes of each partition have the same rows of it, and no other node has any
pub record AreReplicas (l : Layout) (w : World) : Type 0 where
  pub same : (p n m : ℕ) → p < 256 → IsTrue (is_among n (set_of layouts l p)) → IsTrue (is_among m (set_of layouts l p)) → part_of w p n ≡ part_of w p m
  pub nobody : (p n : ℕ) → p < 256 → is_among n (set_of layouts l p) ≡ false → part_of w p n ≡ []

-- the row that a node has of a name
abbrev pub row_there : World → ℕ → Name → Option AnyRow
row_there w n name = row_at any_join words (w.nodes n).accepted 1 (row_key name)

-- of this name the newest complete version in the row is what the map has, and none is being uploaded
pub record IsSeen (name : Name) (has : Has) (row : Option AnyRow) : Type 0 where
  pub newest : said_of row ≡ said_of (row_of name has)
  pub none_begun : (r : ObjectRow) (v : Version) → row ≡ Some (rows.Object r) → ¬ HasState r v Uploading

-- the entries are in order of keys, each name once, each key has a byte at least, and each bucket was made
pub record AreEntries (P : Plain) : Type 0 where
  pub ordered : AreInOrder P.entries
  pub keyed : AllByRecursion (λ (e : Entry). 1 ≤ length e.name.key) P.entries
  pub made : AllByRecursion (λ (e : Entry). Contains P.buckets e.name.bucket) P.entries

-- the cluster looks like one that holds the map: nothing goes on, all members have one layout and no other, replicas are equal, each of the three nodes of a name
-- shows what the map has of it, with its blocks; and buckets, size of blocks, times and the number of requests are the map's
pub record LooksLike (c : Cluster) (P : Plain) : Type 0 where
  pub layout : Layout
  pub is_layout : IsLayout layouts 256 layout
  pub members_are : c.members ≡ layouts.reading.members layout
  pub still : IsStill layout c.run.world
  pub replicas : AreReplicas layout c.run.world
  pub rows : (name : Name) (n : ℕ) → Contains P.buckets name.bucket → IsTrue (is_among n (nodes_at layout (digest_of name.bucket).0)) → IsSeen name (has_at P name) (row_there c.run.world n name)
  pub blocks : (name : Name) → Contains P.buckets name.bucket → HasItsBlocks layout c.run.world (has_at P name)
  pub buckets : c.run.buckets ≡ P.buckets
  pub block : c.run.block ≡ P.block
  pub clock : c.run.world.time ≡ P.clock
  pub ticked : c.ticked ≡ P.ticked
  pub requests : length c.run.world.requests ≡ P.asked
  pub entries : AreEntries P

-- no version that was given up is later than what a write of its name would draw now
abbrev pub AreInTime : World → Plain → Type 0
AreInTime w P =
    (name : Name) (n : ℕ) (r : ObjectRow) (v : Version) → Contains P.buckets name.bucket → row_there w n name ≡ Some (rows.Object r) → HasState r v Aborted →
    v.ts ≤ max P.clock (suc (last_ts (has_at P name)))

-- lawful acts led to the cluster, which looks like one that holds the map, and no version that was given up is late; no two strings that the acts hash for walks have one digest, and no two names of buckets
pub record IsLedToLooks (c : Cluster) (P : Plain) : Type 0 where
  pub acts : List Act
  pub lawful : AreLawfulActs start acts
  pub fit : ActsFit start acts
  pub run_is : c.run ≡ after_acts start acts
  pub walks : NoTrieClash (ActsHash start acts)
  pub names : NoClash P.buckets
  pub looks : LooksLike c P
  pub in_time : AreInTime c.run.world P
