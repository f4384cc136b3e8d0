-- What a node does begins no round or repair, but where it goes on with its rounds, or repairs; and no collection, but where it collects.
use Rattle.std.specs.Prelude.{◌≡◌, ◌≤◌, ◌+◌, ⊤, ℕ, suc, Bool, true, false, if◌then◌else◌, ◌==◌, ◌&&◌, leb, nat_lt, not, cond, List, [], ◌∷◌, ◌++◌, Option, Some, None, map, refl}
use Rattle.std.proofs.Common.{ap, ◌∙◌, arith}
use Rattle.blake2_hash.specs.declared.digest.Hash32.{Hash32}
use Rattle.layout_roles.specs.declared.layout.Layout.{Layout}
use Rattle.view_model.specs.View.{View, newest, oldest, read_version, layout_at, merged, cleaned}
use Rattle.table_schema.specs.Words.{Words, partition_of}
use Rattle.table_model.specs.Rows.{row_at}
use Rattle.gc_model.specs.declared.collection.Collection.{Collection}
use Rattle.gc_model.specs.declared.collection.GcEnd.{GcEnd}
use Rattle.gc_model.specs.declared.collection.GcEnd.TheVariants.{Wait, Closed, Complete}
use Rattle.gc_model.specs.Collecting.{Open, numbered as numbered_open, closed, changed, told, answer_end, answered}
use Rattle.gc_model.specs.Rounds.{is_closed}
use Rattle.quorum_model.specs.Quorum.{is_kept, with_confirmation}
use Rattle.quorum_model.specs.Answers.{first_two_at}
use Rattle.quorum_model.specs.Window.{Window}
use Rattle.walk_model.specs.Walking.{is_open}
use Rattle.wire_messages.specs.declared.message.Message.{Message}
use Rattle.wire_messages.specs.declared.message.Message.TheVariants.{Get, Row, Range, Rows, Store, Stored, Behind, NotHere, BlockGet, Block, NoBlock, Walk as AsksValue, Same as HasSame, Differ, Tomb, Tombed, Forget}
use Rattle.wire_messages.specs.declared.message.Tag.{Tag}
use Rattle.wire_messages.specs.declared.message.Tag.TheVariants.{Call as ForCall, Round as ForRound, Item as ForItem}
use Rattle.wire_messages.specs.declared.phase.Phase.{Phase}
use Rattle.wire_messages.specs.declared.phase.Phase.TheVariants.{Read, Range as Scans, Store as Keeps, Block as Fetches}
use Rattle.cluster_machine.specs.declared.step.Action.{Action}
use Rattle.cluster_machine.specs.declared.step.Action.TheVariants.{Ack as RaiseAck, Sync as GoOn, SyncAck as RaiseSyncAck, Clean as CleanUp, Work as WorkOff, Repair as Mend, Collect as Gather}
use Rattle.cluster_machine.specs.declared.step.LocalEnd.{LocalEnd}
use Rattle.cluster_machine.specs.Layouts.{layouts, is_given, is_stored}
use Rattle.cluster_machine.specs.Node.{Present, resting, asking, scanning, storing, fetching, Call, Part, Round, Mending, Walk, Node, Packet, says, shows, Did, quiet}
use Rattle.cluster_machine.specs.Rows.{block_at, accepts_read, accepts_all, sees}
use Rattle.cluster_machine.specs.Phases.{asked, looked, stored, value_after, window_at, row_came, rows_came, stored_came, block_came, at_call, call_at, begins}
use Rattle.cluster_machine.specs.Rounds.{is_complete, parts_of, walks_of, other_nodes, goes_on, may_sync, begin_round, walked_anew, found_same, walk_after, walk_at, walks_after, round_walks, mending_walks, at_walk, mending_came, with_mending, with_lasting, late_came, answer_came}
use Rattle.cluster_machine.specs.Collects.{has_bytes, has_digest, forgets_row, drops_row, merges, finishes, answered_to}
use Rattle.cluster_machine.specs.Receives.{where_stored, gives_block, takes, compares, round_came, hears, receives, walks_on}
use Rattle.cluster_machine.specs.Acts.{Acted, syncs, acts}

-- how many rounds and repairs an action may begin
abbrev pub beginning_by : Action → ℕ
beginning_by GoOn = 1
beginning_by Mend = 1
beginning_by _ = 0

-- it doesn't collect
abbrev pub IsNoGather : Action → Type 0
IsNoGather Gather = ⊥
IsNoGather _ = ⊤

module _ {R : Type 0} (join : R → R → R) (s : Words R) where
  abbrev Machine : Type 0
  Machine = Node R Layout

  -- how many rounds and repairs began, and how many collections
  abbrev pub counts : Machine → ℕ × ℕ
  counts x = (x.rounds, x.gc.begun)

  read_rounds : (now : ℕ) (o : Option R) (given : Option (List ℕ)) (x : Machine) → counts (accepts_read join s now x o given) ≡ counts x
  read_rounds now None given x = refl
  read_rounds now (Some r) given x = refl

  accepts_rounds : (now : ℕ) (rs : List (List ℕ × Option (List ℕ))) (x : Machine) → counts (accepts_all join s now x rs) ≡ counts x
  accepts_rounds now [] x = refl
  accepts_rounds now (r ∷ rs) x = accepts_rounds now rs (accepts_read join s now x (s.read r.0) r.1) ∙ read_rounds now (s.read r.0) r.1 x

  -- one of two nodes, or of two deeds
  node_either : (n : ℕ × ℕ) (b : Bool) (x y : Machine) → counts x ≡ n → counts y ≡ n → counts (cond b x y) ≡ n
  node_either n true x y h g = h
  node_either n false x y h g = g

  module _ (id : ℕ) where
    sees_rounds : (now : ℕ) (x : Machine) (v : View Layout) → counts (sees join s layouts id now x v) ≡ counts x
    sees_rounds now x v = node_either (counts x) (leb (oldest layouts.reading v) (oldest layouts.reading x.view)) _ _ refl refl

    goes_rounds : (x : Machine) (round : Round) → counts (goes_on join s layouts id x round) ≡ counts x
    goes_rounds x round = node_either (counts x) (is_complete round) _ _ refl refl

    module _ (x : Machine) where
      abbrev Same : Did R Layout → Type 0
      Same d = counts d.node ≡ counts x

      either : (b : Bool) (d e : Did R Layout) → Same d → Same e → Same (cond b d e)
      either true d e h g = h
      either false d e h g = g

      in_call : (phase : ℕ) (f : Call R → Did R Layout) (o : Option (Call R)) → ((c : Call R) → Same (f c)) → Same (at_call x phase f o)
      in_call phase f None h = refl
      in_call phase f (Some c) h = either (c.phases == phase) (f c) (quiet x) (h c) refl

      -- ---- answers to phases

      row_same : (c : Call R) (from : ℕ) (row : Option R) (p : Present R) → Same (row_came join x c from row p)
      row_same c from row (asking q as') = by_value (value_after join q as' (from, row))
        where
          by_value : (o : Option (Option R)) → Same (asked x c q as' (from, row) o)
          by_value None = refl
          by_value (Some value) = refl
      row_same c from row resting = refl
      row_same c from row (scanning q as') = refl
      row_same c from row (storing rs slots) = refl
      row_same c from row (fetching hash) = refl

      rows_same : (c : Call R) (from : ℕ) (rs : List R) (more : Bool) (p : Present R) → Same (rows_came join s x c from rs more p)
      rows_same c from rs more (scanning q as') = by_window (window_at join s (first_two_at q.set as' (from, record { rows = rs; more = more })))
        where
          by_window : (o : Option (Window R)) → Same (looked x c q as' (from, record { rows = rs; more = more }) o)
          by_window None = refl
          by_window (Some w) = refl
      rows_same c from rs more resting = refl
      rows_same c from rs more (asking q as') = refl
      rows_same c from rs more (storing others slots) = refl
      rows_same c from rs more (fetching hash) = refl

      stored_same : (c : Call R) (slot from : ℕ) (p : Present R) → Same (stored_came layouts x c slot from p)
      stored_same c slot from (storing rs slots) = by_kept (is_kept (with_confirmation slots slot from) (oldest layouts.reading x.view))
        where
          by_kept : (b : Bool) → Same (stored x c rs (with_confirmation slots slot from) b)
          by_kept true = refl
          by_kept false = refl
      stored_same c slot from resting = refl
      stored_same c slot from (asking q as') = refl
      stored_same c slot from (scanning q as') = refl
      stored_same c slot from (fetching hash) = refl

      block_same : (c : Call R) (bytes : List ℕ) (p : Present R) → Same (block_came x c bytes p)
      block_same c bytes (fetching hash) = refl
      block_same c bytes resting = refl
      block_same c bytes (asking q as') = refl
      block_same c bytes (scanning q as') = refl
      block_same c bytes (storing rs slots) = refl

      -- ---- walks

      at_walk_same : (table : ℕ) (prefix : List ℕ) (f : Walk → Did R Layout) (o : Option Walk) → ((w : Walk) → Same (f w)) → Same (at_walk join s layouts x table prefix f o)
      at_walk_same table prefix f None h = refl
      at_walk_same table prefix f (Some w) h = either (is_open table prefix w.state.prefixes) (f w) (quiet x) (h w) refl

      round_same : (table : ℕ) (prefix : List ℕ) (answer : Option (List (ℕ × Hash32))) (round : Round) (w : Walk) → Same (round_walks join s layouts id x table prefix answer round w)
      round_same table prefix answer round w =
          let later = walk_after join s x w table prefix answer in
          let now : Round = record round { walks = walks_after later round.walks } in
          node_either (counts x) (found_same later) _ _ (goes_rounds x (record now { confirmed = now.confirmed ++ record { partition = w.state.partition; node = w.node } ∷ [] })) refl

      mending_same : (now : Mending → Machine) (other : Did R Layout) → ((m : Mending) → counts (now m) ≡ counts x) → Same other → (from number p table : ℕ) (prefix : List ℕ) (answer : Option (List (ℕ × Hash32))) (o : Option Mending) → Same (mending_came join s layouts x now other from number p table prefix answer o)
      mending_same now other h g from number p table prefix answer None = g
      mending_same now other h g from number p table prefix answer (Some mending) =
          either (mending.number == number) _ other (at_walk_same table prefix (mending_walks join s layouts x now table prefix answer mending) (walk_at p from mending.walks) (λ w. h _)) g

      late_same : (from number p table : ℕ) (prefix : List ℕ) (answer : Option (List (ℕ × Hash32))) → Same (late_came join s layouts x from number p table prefix answer)
      late_same from number p table prefix answer =
          mending_same (with_lasting join s layouts x) _ (λ m. refl) (mending_same (with_mending join s layouts x) (quiet x) (λ m. refl) refl from number p table prefix answer x.mending) from number p table prefix answer x.lasting

      answer_same : (from number p table : ℕ) (prefix : List ℕ) (answer : Option (List (ℕ × Hash32))) (o : Option Round) → Same (answer_came join s layouts id x from number p table prefix answer o)
      answer_same from number p table prefix answer None = late_same from number p table prefix answer
      answer_same from number p table prefix answer (Some round) =
          either (round.number == number) _ _ (at_walk_same table prefix (round_walks join s layouts id x table prefix answer round) (walk_at p from round.walks) (round_same table prefix answer round)) (late_same from number p table prefix answer)

      walks_same : (from : ℕ) (tag : Tag) (table : ℕ) (prefix : List ℕ) (answer : Option (List (ℕ × Hash32))) → Same (walks_on join s layouts id x from tag table prefix answer)
      walks_same from (ForCall request phase slot) table prefix answer = refl
      walks_same from (ForRound number p) table prefix answer = answer_same from number p table prefix answer x.round
      walks_same from (ForItem number) table prefix answer = refl

      -- ---- messages

      here : (from request phase at : ℕ) (d : Did R Layout) → Same d → Same (where_stored join s layouts x from request phase at d)
      here from request phase at d h = either (is_stored layouts x.view at) d _ h refl

      block_given : (from request phase : ℕ) (o : Option (List ℕ)) → Same (gives_block join s layouts x from request phase o)
      block_given from request phase None = refl
      block_given from request phase (Some bytes) = refl

      takes_same : (now from : ℕ) (tag : Tag) (named p : ℕ) (rs : List (List ℕ × Option (List ℕ))) → Same (takes join s layouts id now x from tag named p rs)
      takes_same now from tag named p rs = either (nat_lt (newest layouts.reading x.view) named) _ _ refl (either (not (is_given layouts x.view id p)) _ _ refl (accepts_rounds now rs x))

      compares_same : (from : ℕ) (tag : Tag) (named p table : ℕ) (prefix : List ℕ) (hash : Hash32) → Same (compares join s layouts id x from tag named p table prefix hash)
      compares_same from tag named p table prefix hash = either (nat_lt (newest layouts.reading x.view) named) _ _ refl (either (not (is_given layouts x.view id p)) _ _ refl refl)

      came_same : (from number p : ℕ) (o : Option Round) → Same (round_came join s layouts id x from number p o)
      came_same from number p None = refl
      came_same from number p (Some round) = either (round.number == number) _ _ (goes_rounds x (record round { confirmed = round.confirmed ++ record { partition = p; node = from } ∷ [] })) refl

      confirms_same : (now from : ℕ) (tag : Tag) → Same (hears join s layouts id now x from (Stored tag))
      confirms_same now from (ForCall request phase slot) = in_call phase (λ c. stored_came layouts x c slot from c.present) (call_at x.calls request) (λ c. stored_same c slot from c.present)
      confirms_same now from (ForRound number p) = came_same from number p x.round
      confirms_same now from (ForItem number) = refl

      -- ---- collections

      forgotten_same : (table : ℕ) (key : List ℕ) (test : R → Bool) (o : Option R) → Same (forgets_row join s x table key test o)
      forgotten_same table key test None = refl
      forgotten_same table key test (Some r) = either (test r) _ (quiet x) refl refl

      dropped_same : (o : Open) (c : Collection) (row : Option R) → o.begun ≡ x.gc.begun → Same (drops_row join s id (record x { gc = o }) c row)
      dropped_same o c None e = ap (λ (n : ℕ). (x.rounds, n)) e
      dropped_same o c (Some r) e = ap (λ (n : ℕ). (x.rounds, n)) e

      finished_same : (o : Option Collection) → Same (finishes join s layouts id x o)
      finished_same None = refl
      finished_same (Some c) =
          let row = row_at join s x.accepted 1 c.key in
          either ((newest layouts.reading x.view == c.newest) && has_bytes join s c.row row) _ _ (dropped_same (closed c.number x.gc) c row refl) refl

      tombed_same : (number round : ℕ) (o : Open) (e : GcEnd) → o.begun ≡ x.gc.begun → Same (answered_to join s layouts id x number round o e)
      tombed_same number round o Wait e = ap (λ (n : ℕ). (x.rounds, n)) e
      tombed_same number round o Closed e = ap (λ (n : ℕ). (x.rounds, n)) e
      tombed_same number round o Complete e = either (round == 2) _ _ (finished_same (numbered_open number x.gc)) (ap (λ (n : ℕ). (x.rounds, n)) e)

      -- an answer begins none
      answered_same : (number round from named now : ℕ) → (answered number round from named now x.gc).begun ≡ x.gc.begun
      answered_same number round from named now = elim (is_closed (answer_end number round from named x.gc)) as (λ b. (if b then closed number x.gc else changed (told round from named now) number x.gc).begun ≡ x.gc.begun) [ true ↦ refl | false ↦ refl ]

      merged_same : (now : ℕ) (o : Option R) → counts (merges join s layouts id now x o) ≡ counts x
      merged_same now None = refl
      merged_same now (Some r) = node_either (counts x) (is_given layouts x.view id (partition_of s r)) _ _ refl refl

      hears_same : (now from : ℕ) (m : Message R) → Same (hears join s layouts id now x from m)
      hears_same now from (Get request phase at table key) = here from request phase at _ refl
      hears_same now from (Row request phase row) = in_call phase (λ c. row_came join x c from row c.present) (call_at x.calls request) (λ c. row_same c from row c.present)
      hears_same now from (Range request phase at bucket prefix after) = here from request phase at _ refl
      hears_same now from (Rows request phase rs more) = in_call phase (λ c. rows_came join s x c from rs more c.present) (call_at x.calls request) (λ c. rows_same c from rs more c.present)
      hears_same now from (Store tag named p rs) = takes_same now from tag named p rs
      hears_same now from (Stored tag) = confirms_same now from tag
      hears_same now from (Behind tag v) = refl
      hears_same now from (NotHere tag) = refl
      hears_same now from (BlockGet request phase at hash) = here from request phase at _ (block_given from request phase (block_at x.blocks hash.0))
      hears_same now from (Block request phase bytes) = in_call phase (λ c. block_came x c bytes c.present) (call_at x.calls request) (λ c. block_same c bytes c.present)
      hears_same now from (NoBlock request phase) = refl
      hears_same now from (AsksValue tag named p table prefix hash) = compares_same from tag named p table prefix hash
      hears_same now from (HasSame tag table prefix) = walks_same from tag table prefix None
      hears_same now from (Differ tag table prefix pairs) = walks_same from tag table prefix (Some pairs)
      hears_same now from (Tomb number round row) = merged_same now (s.read row)
      hears_same now from (Tombed number round named) = tombed_same number round (answered number round from named now x.gc) (answer_end number round from named x.gc) (answered_same number round from named now)
      hears_same now from (Forget table key hash) = forgotten_same table key (has_digest join s hash.0) (row_at join s x.accepted table key)

      -- a packet begins none
      pub receives_same : (now from : ℕ) (p : Packet R Layout) → counts (receives join s layouts id now x from p).node ≡ counts x
      receives_same now from (says m) = hears_same now from m
      receives_same now from (shows v) = sees_rounds now x (merged layouts.reading x.view v)

      -- ---- what a node does by itself

      -- so many rounds more at most, and no collection
      abbrev pub Begins : ℕ → Machine → Type 0
      Begins k y = (y.rounds ≤ x.rounds + k) × (y.gc.begun ≡ x.gc.begun)

      same_begins : (k : ℕ) (y : Machine) → counts y ≡ counts x → Begins k y
      same_begins k y e = let rounds = ap (λ (c : ℕ × ℕ). c.0) e in (omega (arith, rounds), ap (λ (c : ℕ × ℕ). c.1) e)

      syncs_more : (o : Option Round) → Begins 1 (syncs join s layouts id x o).did.node
      syncs_more (Some round) = same_begins 1 (syncs join s layouts id x (Some round)).did.node (goes_rounds x (walked_anew join s layouts x round))
      syncs_more None = by_test (may_sync join s layouts id x.view) _ _
        where
          begun : Begins 1 (begin_round join s layouts id x).node
          begun =
              let at = read_version layouts.reading x.view in
              let parts = parts_of join s layouts id x (layout_at layouts.reading x.view at) (layout_at layouts.reading x.view (suc at)) in
              let e = goes_rounds (record x { rounds = suc x.rounds; lasting = None })
              (record { number = suc x.rounds; target = suc at; parts = parts; confirmed = map (λ (part : Part). record { partition = part.partition; node = id }) parts; walks = walks_of join s x (other_nodes join s layouts id) parts }) in
              let rounds = ap (λ (c : ℕ × ℕ). c.0) e in
              (omega (arith, rounds), ap (λ (c : ℕ × ℕ). c.1) e)

          by_test : (b : Bool) (how other : LocalEnd) → Begins 1 (cond {A = Acted R Layout} b (record { did = begin_round join s layouts id x; how = how }) (record { did = quiet x; how = other })).did.node
          by_test true how other = begun
          by_test false how other = (omega arith, refl)

      -- an action begins one round at most
      pub acts_more : (now : ℕ) (action : Action) → (acts join s layouts id now x action).did.node.rounds ≤ x.rounds + beginning_by action
      acts_more now RaiseAck = omega arith
      acts_more now GoOn = (syncs_more x.round).0
      acts_more now RaiseSyncAck = omega arith
      acts_more now CleanUp = let e = ap (λ (c : ℕ × ℕ). c.0) (sees_rounds now x (cleaned layouts.reading x.view)) in omega (arith, e)
      acts_more now WorkOff = omega arith
      acts_more now Mend = omega arith
      acts_more now Gather = omega arith

      -- and no collection, unless it collects
      pub acts_begun : (now : ℕ) (action : Action) → IsNoGather action → (acts join s layouts id now x action).did.node.gc.begun ≡ x.gc.begun
      acts_begun now RaiseAck other = refl
      acts_begun now GoOn other = (syncs_more x.round).1
      acts_begun now RaiseSyncAck other = refl
      acts_begun now CleanUp other = ap (λ (c : ℕ × ℕ). c.1) (sees_rounds now x (cleaned layouts.reading x.view))
      acts_begun now WorkOff other = refl
      acts_begun now Mend other = refl
      acts_begun now Gather other = absurd other

  -- a phase that begins begins none
  pub begins_same : (kept : List R) (x : Machine) (c : Call R) (phase : Phase R) → counts (begins s layouts kept x c phase).node ≡ counts x
  begins_same kept x c (Read table position key) = refl
  begins_same kept x c (Scans position prefix after) = refl
  begins_same kept x c (Keeps rs) = refl
  begins_same kept x c (Fetches hash) = refl
