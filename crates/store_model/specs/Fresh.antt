-- Fresh reads: what each finished get, head and list owes to the writes that were acknowledged before it began.
use Rattle.std.specs.Prelude.{◌≡◌, ◌≤◌, ◌<◌, ℕ, IsTrue, Some, List}
use Rattle.std.specs.List.{Contains}
use Rattle.blake2_hash.specs.Blake2b.{blake2b}
use Rattle.blake2_hash.specs.Hash.{digest_of}
use Rattle.crdt_rows.specs.declared.version.Version.{Version}
use Rattle.crdt_rows.specs.declared.object_row.ObjectRow.{ObjectRow}
use Rattle.crdt_rows.specs.declared.any_row.AnyRow.{AnyRow}
use Rattle.crdt_rows.specs.declared.any_row.AnyRow.TheVariants as rows
use Rattle.wire_messages.specs.declared.phase.PhaseEnd.{PhaseEnd}
use Rattle.wire_messages.specs.declared.phase.PhaseEnd.TheVariants.{Row, Window, Kept, Block}
use Rattle.history_model.specs.declared.record.Kind.{Kind}
use Rattle.history_model.specs.declared.record.Answer.{Answer}
use Rattle.history_model.specs.declared.record.Record.{Record}
use Rattle.history_model.specs.Record.{is_read, is_delete, is_source, finish, BeganAt, names, Shows}
use Rattle.history_model.specs.Fresh.{Below, IsAcknowledged}
use Rattle.flow_model.specs.Says.{said_by, marked}
use Rattle.store_model.specs.Run.{Draw, Saw, State}

-- a phase gave this row
abbrev pub Gave : PhaseEnd AnyRow → AnyRow → Type 0
Gave (Row value) r = value ≡ Some r
Gave (Window rs end) r = Contains rs r
Gave Kept r = ⊥
Gave (Block bytes) r = ⊥

-- a phase of request q gave the object's row, whose newest complete version is a delete marker that is not below w
pub record IsMarked (saw : List Saw) (q : ℕ) (bucket key : List ℕ) (w : Version) : Type 0 where
  pub end : PhaseEnd AnyRow
  pub was_seen : Contains saw (record { request = q; end = end })
  pub row : ObjectRow
  pub gave : Gave end (rows.Object row)
  pub bucket_is : row.bucket ≡ digest_of bucket
  pub key_is : row.key ≡ key
  pub version : Version
  pub says : said_by row ≡ marked version
  pub not_below : ¬ Below version w

-- what request q shows of the key covers w: each version that it shows isn't below, and if it shows none, a marker explains it
pub record Covers (saw : List Saw) (q : ℕ) (bucket own : List ℕ) (answer : Answer) (key : List ℕ) (w : Version) : Type 0 where
  pub versions : (v : Version) → Shows own answer key v → ¬ Below v w
  pub none : ((v : Version) → ¬ Shows own answer key v) → IsMarked saw q bucket key w

-- before place j the request with the version's identifier, a put or copy of this object that had begun, drew this version
pub record IsDrawn (s : State) (j : ℕ) (bucket key : List ℕ) (version : Version) : Type 0 where
  pub draw : Draw
  pub drawn : Contains s.draws draw
  pub version_is : draw.version ≡ version
  pub request_is : draw.request ≡ version.id
  pub name_is : draw.name ≡ record { bucket = bucket; key = key }
  pub kind : Kind
  pub is_source : IsTrue (is_source kind)
  pub place : ℕ
  pub began : BeganAt s.history place version.id kind bucket key
  pub in_time : place < draw.moment
  pub before : draw.moment ≤ j

-- before place j a delete of this object that had begun drew a version that is not below w
pub record HasDeleted (s : State) (j : ℕ) (bucket key : List ℕ) (w : Version) : Type 0 where
  pub draw : Draw
  pub drawn : Contains s.draws draw
  pub not_below : ¬ Below draw.version w
  pub name_is : draw.name ≡ record { bucket = bucket; key = key }
  pub kind : Kind
  pub is_delete : IsTrue (is_delete kind)
  pub place : ℕ
  pub began : BeganAt s.history place draw.request kind bucket key
  pub in_time : place < draw.moment
  pub before : draw.moment ≤ j

-- no two of these names have one digest
abbrev pub NoClash : List (List ℕ) → Type 0
NoClash names = (a b : List ℕ) → Contains names a → Contains names b → blake2b 32 a ≡ blake2b 32 b → a ≡ b

-- request q, which read this key of this bucket, began at place i and finished at place j with this answer
pub record IsRead (h : List Record) (i j q : ℕ) (kind : Kind) (bucket own : List ℕ) (answer : Answer) : Type 0 where
  pub reads : IsTrue (is_read kind)
  pub began : BeganAt h i q kind bucket own
  pub finished : finish h i q ≡ Some (j, answer)

-- what a read owes
pub record IsFreshRead (s : State) (i j q : ℕ) (kind : Kind) (bucket own : List ℕ) (answer : Answer) : Type 0 where
  -- for each key that it names, it covers each version with which a write of it was acknowledged before it began
  pub covers : (key : List ℕ) (w : Version) → IsTrue (names kind own key) → IsAcknowledged s.history i bucket key w → Covers s.saw q bucket own answer key w
  -- where the buckets' names have different digests, each version that it shows for a key that it names was drawn before it finished, by a put or copy of that key
  pub written : NoClash s.buckets → (key : List ℕ) (v : Version) → IsTrue (names kind own key) → Shows own answer key v → IsDrawn s j bucket key v
  -- and where it shows none for a key of which a write was acknowledged before it began, a delete of that key drew a version that is not below before it finished
  pub deleted : NoClash s.buckets → (key : List ℕ) (w : Version) → IsTrue (names kind own key) → IsAcknowledged s.history i bucket key w → ((v : Version) → ¬ Shows own answer key v) → HasDeleted s j bucket key w

-- each finished read is fresh
abbrev pub IsFresh : State → Type 0
IsFresh s = (i j q : ℕ) (kind : Kind) (bucket own : List ℕ) (answer : Answer) → IsRead s.history i j q kind bucket own answer → IsFreshRead s i j q kind bucket own answer
