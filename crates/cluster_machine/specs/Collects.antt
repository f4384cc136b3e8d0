-- Collections of delete markers: each in two rounds over nodes 1 to 16, after which the row is dropped.
use Rattle.std.specs.Prelude.{ℕ, ◌+◌, Bool, false, not, ◌&&◌, ◌||◌, ◌==◌, leb, nat_lt, cond, Option, Some, None, is_some, List, [], ◌∷◌, ◌++◌}
use Rattle.std.specs.List.{filter, list_all}
use Rattle.blake2_hash.specs.Blake2b.{blake2b}
use Rattle.view_model.specs.View.{newest}
use Rattle.table_schema.specs.Words.{Words, partition_of}
use Rattle.table_model.specs.Rows.{is_at, row_at, rows}
use Rattle.gc_model.specs.declared.collection.Collection.{Collection}
use Rattle.gc_model.specs.declared.collection.GcEnd.{GcEnd}
use Rattle.gc_model.specs.declared.collection.GcEnd.TheVariants.{Wait, Closed, Complete}
use Rattle.gc_model.specs.Collecting.{Open, numbered, keyed, begun_with, changed, closed, answer_end, answered, in_second, missing_of}
use Rattle.wire_messages.specs.declared.message.Message.TheVariants.{Tomb, Tombed, Forget}
use Rattle.cluster_machine.specs.Layouts.{Layouts, is_given}
use Rattle.cluster_machine.specs.Node.{Node, Post, says, Did, quiet}
use Rattle.cluster_machine.specs.Rows.{same_bytes, accepts}
use Rattle.cluster_machine.specs.Phases.{to_each, bytes_of, is_spelled}

-- a delete marker is collected when its timestamp lies so far back, in milliseconds
abbrev pub collection_age : ℕ
collection_age = 86400000

-- so long after the first round was complete the second one begins
abbrev pub collection_pause : ℕ
collection_pause = 10800000

-- the nodes that each collection asks
abbrev pub all_nodes : List ℕ
all_nodes = 1 ∷ 2 ∷ 3 ∷ 4 ∷ 5 ∷ 6 ∷ 7 ∷ 8 ∷ 9 ∷ 10 ∷ 11 ∷ 12 ∷ 13 ∷ 14 ∷ 15 ∷ 16 ∷ []

-- all but one node
abbrev pub others : ℕ → List ℕ
others id = filter (λ n. not (n == id)) all_nodes

-- the marker lies far enough back
abbrev pub is_aged : ℕ → Option (ℕ × ℕ) → Bool
is_aged now None = false
is_aged now (Some version) = leb (version.0 + collection_age) now

-- what a step has made of a node's collections so far
pub record Progress (R L : Type 0) : Type 0 where
  pub gc : Open
  pub posts : List (Post R L)
  pub begun : ℕ  -- in this step

module _ {R : Type 0} (join : R → R → R) (s : Words R) where
  -- the node's rows of table 1, in order of keys
  abbrev pub object_rows : {L : Type 0} → Node R L → List R
  object_rows x = filter (λ r. s.table r == 1) (rows join s x.accepted)

  -- the row has these bytes
  abbrev pub has_bytes : List ℕ → Option R → Bool
  has_bytes bytes None = false
  has_bytes bytes (Some r) = is_spelled s r && same_bytes (bytes_of s r) bytes

  -- the row's bytes have this digest
  abbrev pub has_digest : List ℕ → R → Bool
  has_digest hash r = is_spelled s r && same_bytes (blake2b 32 (bytes_of s r)) hash

  module _ {L : Type 0} where
    -- nothing is there at the table and key
    abbrev pub without_row : Node R L → ℕ → List ℕ → Node R L
    without_row x table key = record x { accepted = filter (λ r. not (is_at s table key r)) x.accepted }

    -- the node drops its row, which enters what was collected, if it passes a test
    abbrev pub forgets_row : Node R L → ℕ → List ℕ → (R → Bool) → Option R → Did R L
    forgets_row x table key test None = quiet x
    forgets_row x table key test (Some r) = cond (test r) (record (quiet (without_row x table key)) { collects = r ∷ []; dropped = s.marker r }) (quiet x)

    -- another node has collected this row
    abbrev pub forgets : Node R L → ℕ → List ℕ → List ℕ → Did R L
    forgets x table key hash = forgets_row x table key (has_digest hash) (row_at join s x.accepted table key)

    -- the second round is complete: the row is dropped where it is still the collection's
    abbrev pub drops_row : ℕ → Node R L → Collection → Option R → Did R L
    drops_row id x c None = quiet x
    drops_row id x c (Some r) = record (quiet (without_row x 1 c.key)) {
      posts = to_each (others id) (Forget 1 c.key (record { 0 = blake2b 32 (bytes_of s r) }));
      collects = r ∷ [];
      dropped = s.marker r;
    }

  module _ {L : Type 0} (k : Layouts L) where
    -- a node merges a tombstone, where it is given its partition
    abbrev pub merges : ℕ → ℕ → Node R L → Option R → Node R L
    merges id now x None = x
    merges id now x (Some r) = cond (is_given k x.view id (partition_of s r)) (accepts join s now x r None) x

    -- a node is asked to confirm a tombstone
    abbrev pub takes_tomb : ℕ → ℕ → Node R L → ℕ → ℕ → ℕ → List ℕ → Did R L
    takes_tomb id now x from number round row = record (quiet (merges id now x (s.read row))) {
      posts = record { to = from; packet = says (Tombed number round (newest k.reading x.view)) } ∷ [];
    }

    -- a collection has come to its end: its row is dropped, where neither that nor the node's newest version has changed
    abbrev pub finishes : ℕ → Node R L → Option Collection → Did R L
    finishes id x None = quiet x
    finishes id x (Some c) =
        let y = record x { gc = closed c.number x.gc } in
        let row = row_at join s x.accepted 1 c.key in
        cond ((newest k.reading x.view == c.newest) && has_bytes c.row row) (drops_row id y c row) (quiet y)

    -- where an answer leads
    abbrev pub answered_to : ℕ → Node R L → ℕ → ℕ → Open → GcEnd → Did R L
    answered_to id x number round o Wait = quiet (record x { gc = o })
    answered_to id x number round o Closed = quiet (record x { gc = o })
    answered_to id x number round o Complete = cond (round == 2) (finishes id x (numbered number x.gc)) (quiet (record x { gc = o }))

    -- a node has confirmed a tombstone
    abbrev pub tomb_came : ℕ → ℕ → Node R L → ℕ → ℕ → ℕ → ℕ → Did R L
    tomb_came id now x from number round named = answered_to id x number round (answered number round from named now x.gc) (answer_end number round from named x.gc)

    -- below: what a node does about each of its object rows when it is told to collect

    -- no collection of the row is open: one begins, if it is a tombstone that is old enough
    abbrev pub begins_one : ℕ → ℕ → ℕ → R → Progress R L → Progress R L
    begins_one id now version r t = cond (is_spelled s r && is_aged now (s.marker r)) (record {
      gc = begun_with t.gc (s.key r) (bytes_of s r) id version;
      posts = t.posts ++ to_each (others id) (Tomb (t.gc.begun + 1) 1 (bytes_of s r));
      begun = t.begun + 1;
    }) t

    -- the first round is complete since a moment
    abbrev pub second_round : ℕ → Collection → ℕ → Progress R L → Progress R L
    second_round now c ready t = cond (nat_lt now (ready + collection_pause)) t (record t {
      gc = cond (c.round == 1) (changed in_second c.number t.gc) t.gc;
      posts = t.posts ++ to_each (missing_of (cond (c.round == 1) (in_second c) c)) (Tomb c.number 2 c.row);
    })

    -- the first round goes on, or the second one begins or goes on
    abbrev pub goes_on_with : ℕ → Collection → Option ℕ → Progress R L → Progress R L
    goes_on_with now c None t = record t { posts = t.posts ++ to_each (missing_of c) (Tomb c.number 1 c.row) }
    goes_on_with now c (Some ready) t = second_round now c ready t

    -- a collection of the row is open, or not
    abbrev pub about : ℕ → ℕ → ℕ → R → Option Collection → Progress R L → Progress R L
    about id now version r None t = begins_one id now version r t
    about id now version r (Some c) t = cond (has_bytes c.row (Some r) && (version == c.newest)) (goes_on_with now c c.ready t) (record t { gc = closed c.number t.gc })

    -- one row after the other
    abbrev pub about_all : ℕ → ℕ → ℕ → List R → Progress R L → Progress R L
    about_all id now version [] t = t
    about_all id now version (r ∷ rs) t = about_all id now version rs (about id now version r (keyed (s.key r) t.gc) t)

    -- collections whose row is gone are closed
    abbrev pub with_rows : Node R L → Open → Open
    with_rows x o = record o { collections = filter (λ c. is_some (row_at join s x.accepted 1 c.key)) o.collections }

    -- all that is done about a node's rows
    abbrev pub progress : ℕ → ℕ → Node R L → Progress R L
    progress id now x = about_all id now (newest k.reading x.view) (object_rows x) (record { gc = with_rows x x.gc; posts = []; begun = 0 })

    -- the object rows whose bytes it asks for: those with an open collection, and tombstones that are old enough
    abbrev pub looked_at : ℕ → Node R L → List R
    looked_at now x = filter (λ r. is_some (keyed (s.key r) x.gc) || is_aged now (s.marker r)) (object_rows x)

    -- a node begins to collect delete markers, and goes on with its collections
    abbrev pub collects : ℕ → ℕ → Node R L → Did R L
    collects id now x =
        let t = progress id now x in record (quiet (record x { gc = t.gc })) { posts = t.posts; is_spelled = list_all (is_spelled s) (looked_at now x) }
