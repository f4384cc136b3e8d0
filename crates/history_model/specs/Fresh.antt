-- Fresh reads, told from the records alone: what each finished read owes to the writes before it.
use Rattle.std.specs.Prelude.{◌≡◌, ℕ, ◌<◌, IsTrue, Some, List}
use Rattle.std.specs.declared.cmp.Ordering.TheVariants.{Less}
use Rattle.crdt_rows.specs.declared.version.Version.{Version}
use Rattle.crdt_rows.specs.Version.{version_cmp}
use Rattle.history_model.specs.declared.record.Kind.{Kind}
use Rattle.history_model.specs.declared.record.Answer.{Answer}
use Rattle.history_model.specs.declared.record.Record.{Record}
use Rattle.history_model.specs.Record.{is_read, is_write, is_delete, is_source, finish, acknowledged, BeganAt, names, Shows}

-- v is older than w: by timestamp, and at a tie by identifier
abbrev pub Below : Version → Version → Type 0
Below v w = version_cmp v w ≡ Less

-- a read of this key began at place i, and finished at place j with this answer
pub record IsRead (h : List Record) (i j : ℕ) (kind : Kind) (bucket own : List ℕ) (answer : Answer) : Type 0 where
  pub request : ℕ
  pub reads : IsTrue (is_read kind)
  pub began : BeganAt h i request kind bucket own
  pub finished : finish h i request ≡ Some (j, answer)

-- before place i a write of the key was acknowledged with this version
pub record IsAcknowledged (h : List Record) (i : ℕ) (bucket key : List ℕ) (w : Version) : Type 0 where
  pub request : ℕ
  pub kind : Kind
  pub place : ℕ
  pub end : ℕ
  pub writes : IsTrue (is_write kind)
  pub began : BeganAt h place request kind bucket key
  pub finished : acknowledged h place request ≡ Some (end, w)
  pub before : end < i

-- before place j a delete of the key began which wasn't acknowledged with a version below w
pub record IsDeleted (h : List Record) (j : ℕ) (bucket key : List ℕ) (w : Version) : Type 0 where
  pub request : ℕ
  pub kind : Kind
  pub place : ℕ
  pub deletes : IsTrue (is_delete kind)
  pub began : BeganAt h place request kind bucket key
  pub before : place < j
  pub not_below : (end : ℕ) (v : Version) → acknowledged h place request ≡ Some (end, v) → ¬ Below v w

-- before place j a put or copy of the key with the number of v began, which wasn't acknowledged with another version
pub record IsWritten (h : List Record) (j : ℕ) (bucket key : List ℕ) (v : Version) : Type 0 where
  pub kind : Kind
  pub place : ℕ
  pub writes : IsTrue (is_source kind)
  pub began : BeganAt h place v.id kind bucket key
  pub before : place < j
  pub no_other : (end : ℕ) (other : Version) → acknowledged h place v.id ≡ Some (end, other) → other ≡ v

-- what a read shows for the key covers w: each version that it shows isn't older, and if it shows none, a delete explains it
pub record Covers (h : List Record) (j : ℕ) (bucket own : List ℕ) (answer : Answer) (key : List ℕ) (w : Version) : Type 0 where
  pub versions : (v : Version) → Shows own answer key v → ¬ Below v w
  pub none : ((v : Version) → ¬ Shows own answer key v) → IsDeleted h j bucket key w

-- what a read owes that began at place i and finished at place j
pub record IsFreshRead (h : List Record) (i j : ℕ) (kind : Kind) (bucket own : List ℕ) (answer : Answer) : Type 0 where
  -- for each key that it names, it covers each version with which a write of it was acknowledged before it began
  pub covers : (key : List ℕ) (w : Version) → IsTrue (names kind own key) → IsAcknowledged h i bucket key w → Covers h j bucket own answer key w
  -- each version that it shows for a key that it names was written there
  pub written : (key : List ℕ) (v : Version) → IsTrue (names kind own key) → Shows own answer key v → IsWritten h j bucket key v

-- each finished read is fresh
abbrev pub Fresh : List Record → Type 0
Fresh h = (i j : ℕ) (kind : Kind) (bucket own : List ℕ) (answer : Answer) → IsRead h i j kind bucket own answer → IsFreshRead h i j kind bucket own answer
