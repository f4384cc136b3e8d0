-- What a node does about tombstones, and about its collections of delete markers.
use Rattle.std.specs.Prelude.{◌≡◌, ◌<◌, ◌^◌, ℕ, ◌+◌, ◌==◌, ◌&&◌, ◌||◌, Bool, true, cond, not, map, List, [], ◌∷◌, Option, Some, None}
use Rattle.std.specs.List.{filter, filter_map, list_all}
use Rattle.std.specs.Option.{is_some}
use Rattle.std.specs.BTreeSet.{BTreeSet, IsOrdered}
use Rattle.blake2_hash.specs.declared.digest.Hash32.{Hash32}
use Rattle.layout_roles.specs.declared.layout.Layout.{Layout}
use Rattle.layout_history.specs.declared.view.View.{View}
use Rattle.layout_history.specs.Views.{known}
use Rattle.table_schema.specs.Words.{Words}
use Rattle.table_model.specs.Rows.{find_row, row_at}
use Rattle.table_store.specs.Index.{Key, has_key}
use Rattle.table_store.specs.Shelf.{vec_cmp}
use Rattle.wire_messages.specs.declared.message.Message.TheVariants.{Tomb}
use Rattle.gc_model.specs.declared.collection.Collection.{Collection}
use Rattle.gc_model.specs.Collecting.{Open, begun_with, closed, keyed, number_of, numbered}
use Rattle.cluster_machine.specs.Layouts.{layouts}
use Rattle.cluster_machine.specs.Node.{Node, Did, quiet}
use Rattle.cluster_machine.specs.Ties as ties
use Rattle.cluster_machine.specs.Phases.{is_spelled, to_each}
use Rattle.cluster_machine.specs.Collects.{Progress, is_aged, object_rows, others, has_bytes, has_digest, forgets_row, drops_row, with_rows, looked_at, merges, goes_on_with, about, about_all}
use Rattle.node_parts.specs.declared.contents.Contents.{Contents}
use Rattle.node_parts.specs.declared.collector.Collector.{Collector}
use Rattle.node_parts.specs.declared.packet.Envelope.{Envelope}
use Rattle.node_parts.specs.Contents.{IsContents, Became, Holds}
use Rattle.node_parts.specs.Posts.{Posts}

-- the delete marker of a row with nothing else, if there is one
abbrev pub marker_of : {R : Type 0} → Words R → Option R → Option (ℕ × ℕ)
marker_of s None = None
marker_of s (Some r) = s.marker r

-- ---- tombstones

module _ {S R : Type 0} (join : R → R → R) (s : Words R) where
  -- the row was merged, if there is one, where the view gives the node its partition
  abbrev pub MergesRow : Contents S R → Contents S R → View → ℕ → ℕ → Option R → Type 0
  MergesRow old new view node now row = (x : Node R Layout) → known view ≡ x.view → IsContents join s old x → Became join s new x (merges join s layouts node now x row)

  -- the contents can't take it
  abbrev pub CannotMergeRow : Contents S R → View → ℕ → ℕ → Option R → Type 0
  CannotMergeRow old view node now row = (x : Node R Layout) → known view ≡ x.view → IsContents join s old x → Holds s (merges join s layouts node now x row) → ⊥

  -- the same of the row with these bytes
  abbrev pub Merges : Contents S R → Contents S R → View → ℕ → ℕ → List ℕ → Type 0
  Merges old new view node now bytes = MergesRow old new view node now (s.read bytes)

  abbrev pub CannotMerge : Contents S R → View → ℕ → ℕ → List ℕ → Type 0
  CannotMerge old view node now bytes = CannotMergeRow old view node now (s.read bytes)

  -- the row of a table and key was dropped, where its bytes have this digest; and this is its delete marker
  abbrev pub Forgets : Contents S R → Contents S R → ℕ → List ℕ → Hash32 → Option (ℕ × ℕ) → Type 0
  Forgets old new table key hash dropped = ties.Steps (IsContents join s) old
      (λ x. let d = forgets_row join s x table key (has_digest join s hash.0) (row_at join s x.accepted table key) in Became join s new x d.node × (dropped ≡ d.dropped))

-- ---- collections

-- nothing was done yet
abbrev pub from_here : {R : Type 0} → Open → Progress R Layout
from_here gc = record { gc = gc; posts = []; begun = 0 }

-- the collections are those that t has, and t's messages were sent
pub record IsDone {R : Type 0} (node : ℕ) (gc : Open) (old new : List (Envelope R)) (t : Progress R Layout) : Type 0 where
  pub gc_is : gc ≡ t.gc
  pub posts : Posts node old new t.posts

-- the collections with these numbers were closed
abbrev pub closed_all : List ℕ → Open → Open
closed_all [] gc = gc
closed_all (n ∷ ns) gc = closed_all ns (closed n gc)

-- the collection with this number is open, in this round, with this row, and its round 1 was complete then
pub record IsOpen (number round : ℕ) (ready : Option ℕ) (row : List ℕ) (gc : Open) : Type 0 where
  pub it : Collection
  pub found : numbered number gc ≡ Some it
  pub round_is : it.round ≡ round
  pub ready_is : it.ready ≡ ready
  pub row_is : it.row ≡ row

-- a collection of the row with this key and these bytes began, and the others were asked
pub record Begins {R : Type 0} (c : Collector) (key row : List ℕ) (old new : Open) (old_out new_out : List (Envelope R)) : Type 0 where
  pub gc_is : new ≡ begun_with old key row c.node c.newest
  pub posts : Posts c.node old_out new_out (to_each (others c.node) (Tomb (old.begun + 1) 1 row))

module _ {R : Type 0} (join : R → R → R) (s : Words R) where
  -- this is done about an open collection
  abbrev pub going_on : Collector → Collection → Open → Progress R Layout
  going_on c o gc = goes_on_with join s layouts c.now o o.ready (from_here gc)

  -- it was done about the one with this number
  abbrev pub GoesOn : Collector → ℕ → Open → Open → List (Envelope R) → List (Envelope R) → Type 0
  GoesOn c number old new old_out new_out = (o : Collection) → numbered number old ≡ Some o → IsDone c.node new old_out new_out (going_on c o old)

  -- this is done about a row
  abbrev pub about_row : Collector → R → Open → Progress R Layout
  about_row c r gc = about join s layouts c.node c.now c.newest r (keyed (s.key r) gc) (from_here gc)

  -- it was done
  pub record Abouts (c : Collector) (r : R) (old new : Open) (old_out new_out : List (Envelope R)) : Type 0 where
    pub done : IsDone c.node new old_out new_out (about_row c r old)
    pub spelled : is_spelled s r ≡ true

  -- the row can't be written, or a collection's number would be 2 ^ 64
  abbrev pub CannotAbout : Collector → R → Open → Type 0
  CannotAbout c r gc = is_spelled s r ≡ true → (about_row c r gc).gc.begun < 2 ^ 64 → ⊥

  -- the same of the row, if there is one
  abbrev pub AboutAt : Collector → Option R → Open → Open → List (Envelope R) → List (Envelope R) → Type 0
  AboutAt c None old new old_out new_out = IsDone c.node new old_out new_out (from_here old)
  AboutAt c (Some r) old new old_out new_out = Abouts c r old new old_out new_out

  abbrev pub CannotAboutAt : Collector → Option R → Open → Type 0
  CannotAboutAt c None gc = ⊥
  CannotAboutAt c (Some r) gc = CannotAbout c r gc

  -- this is done about these rows
  abbrev pub about_rows : Collector → List R → Open → Progress R Layout
  about_rows c rs gc = about_all join s layouts c.node c.now c.newest rs (from_here gc)

  -- the rows of table 1 at these keys
  abbrev pub rows_at : List R → List Key → List R
  rows_at rows keys = filter_map (λ key. find_row s 1 key.items rows) keys

  -- it was done about the rows at these keys, one after the other
  pub record AboutKeys (c : Collector) (rows : List R) (keys : List Key) (old new : Open) (old_out new_out : List (Envelope R)) : Type 0 where
    pub done : IsDone c.node new old_out new_out (about_rows c (rows_at rows keys) old)
    pub spelled : list_all (is_spelled s) (rows_at rows keys) ≡ true

  -- one of them can't be written, or a collection's number would be 2 ^ 64
  abbrev pub CannotAboutKeys : Collector → List R → List Key → Open → Type 0
  CannotAboutKeys c rows keys gc = list_all (is_spelled s) (rows_at rows keys) ≡ true → (about_rows c (rows_at rows keys) gc).gc.begun < 2 ^ 64 → ⊥

  -- what a collection that has come to its end makes of a node
  abbrev pub ends_row : Collector → Node R Layout → Collection → Did R Layout
  ends_row c x o =
      let row = row_at join s x.accepted 1 o.key in
      cond ((c.newest == o.newest) && has_bytes join s o.row row) (drops_row join s c.node x o row) (quiet x)

  -- the row is looked at: there is a collection of it, or it is a tombstone that is old enough
  abbrev pub is_looked_at : ℕ → Open → R → Bool
  is_looked_at now gc r = is_some (keyed (s.key r) gc) || is_aged now (s.marker r)

  -- all was done that the node does about its rows, and so many collections began
  pub record Collected (x : Node R Layout) (c : Collector) (new : Open) (old_out new_out : List (Envelope R)) (begun : ℕ) : Type 0 where
    pub done : IsDone c.node new old_out new_out (about_rows c (object_rows join s x) (with_rows join s layouts x x.gc))
    pub begun_is : begun ≡ (about_rows c (object_rows join s x) (with_rows join s layouts x x.gc)).begun
    pub spelled : list_all (is_spelled s) (looked_at join s layouts c.now x) ≡ true

  module _ {S : Type 0} where
    -- it was made of the contents, its messages were sent, and this is the delete marker of the row that was dropped
    abbrev pub Ends : Collector → Collection → Contents S R → Contents S R → List (Envelope R) → List (Envelope R) → Option (ℕ × ℕ) → Type 0
    Ends c o old new old_out new_out dropped = ties.Steps (IsContents join s) old
        (λ x. let d = ends_row c x o in Became join s new x d.node × Posts c.node old_out new_out d.posts × (dropped ≡ d.dropped))

    -- the collections whose row is gone were closed
    abbrev pub ClosesGone : Contents S R → Open → Open → Type 0
    ClosesGone c old new = new ≡ record old { collections = filter (λ o. is_some (find_row s 1 o.key c.table)) old.collections }

    -- the numbers of these
    abbrev pub gone_from : Contents S R → List Collection → List ℕ
    gone_from c cs = map number_of (filter (λ o. not (is_some (find_row s 1 o.key c.table))) cs)

    -- these are the keys of the rows of table 1 that are looked at, in order
    pub record Looks (now : ℕ) (c : Contents S R) (gc : Open) (keys : BTreeSet Key) : Type 0 where
      pub each : (key : List ℕ) → has_key key keys.keys ≡ (is_some (keyed key gc) || is_aged now (marker_of s (find_row s 1 key c.table)))
      pub ordered : IsOrdered vec_cmp keys

    abbrev pub Collects : Collector → Contents S R → Open → Open → List (Envelope R) → List (Envelope R) → ℕ → Type 0
    Collects c contents old new old_out new_out begun = (x : Node R Layout) → IsContents join s contents x → old ≡ x.gc → Collected x c new old_out new_out begun

    -- some row that is looked at can't be written, or a collection's number would be 2 ^ 64
    abbrev pub CannotCollect : Collector → Contents S R → Open → Type 0
    CannotCollect c contents old = (x : Node R Layout) → IsContents join s contents x → old ≡ x.gc →
        list_all (is_spelled s) (looked_at join s layouts c.now x) ≡ true → (about_rows c (object_rows join s x) (with_rows join s layouts x x.gc)).gc.begun < 2 ^ 64 → ⊥
