-- What a node does when a message comes, by itself, and when a phase of one of its requests begins.
use Rattle.std.specs.Prelude.{◌≡◌, ℕ, suc, Bool, true, false, not, cond, ◌==◌, nat_lt, Option, Some, None, List, [], ◌∷◌, ◌++◌, map}
use Rattle.std.specs.List.{AllByRecursion}
use Rattle.std.proofs.lemmas.List.Elements.{recursion_from_All}
use Rattle.view_model.specs.View.{View, newest, oldest, layout_at, read_version, merged, cleaned}
use Rattle.blake2_hash.specs.declared.digest.Hash32.{Hash32}
use Rattle.walk_model.specs.Walking.{is_open}
use Rattle.table_schema.specs.Words.{Words}
use Rattle.table_schema.specs.Laws.{Laws}
use Rattle.table_model.specs.Rows.{row_at, rows}
use Rattle.quorum_model.specs.Quorum.{StoreSlot, is_kept, with_confirmation}
use Rattle.quorum_model.specs.Answers.{first_two_at}
use Rattle.quorum_model.specs.Window.{Window}
use Rattle.quorum_model.specs.declared.range.RangeAnswer.{RangeAnswer}
use Rattle.wire_messages.specs.declared.message.Message.{Message}
use Rattle.wire_messages.specs.declared.message.Message.TheVariants.{Get, Row, Range, Rows, Store, Stored, Behind, NotHere, BlockGet, Block, NoBlock, Walk as AsksValue, Same as HasSame, Differ, Tomb, Tombed, Forget}
use Rattle.wire_messages.specs.declared.message.Tag.{Tag}
use Rattle.wire_messages.specs.declared.message.Tag.TheVariants.{Call as ForCall, Round as ForRound, Item as ForItem}
use Rattle.wire_messages.specs.declared.phase.Phase.{Phase}
use Rattle.wire_messages.specs.declared.phase.Phase.TheVariants.{Read, Range as Scans, Store as Keeps, Block as Fetches}
use Rattle.cluster_machine.specs.declared.step.Action.{Action}
use Rattle.cluster_machine.specs.declared.step.Action.TheVariants.{Ack as RaiseAck, Sync as GoOn, SyncAck as RaiseSyncAck, Clean, Work, Repair, Collect}
use Rattle.cluster_machine.specs.declared.step.LocalEnd.{LocalEnd}
use Rattle.cluster_machine.specs.Layouts.{Layouts, is_given, is_stored}
use Rattle.cluster_machine.specs.Node.{Question, Scan, Present, resting, asking, scanning, storing, fetching, Call, Item, Part, Walk, Round, Mending, Node, Packet, says, shows, Did, quiet}
use Rattle.cluster_machine.specs.Phases.{call_at, asked, looked, stored, value_after, row_came, window_at, rows_came, stored_came, block_came, at_call, begins}
use Rattle.cluster_machine.specs.Rows.{same_bytes, block_at, accepts_all}
use Rattle.cluster_machine.specs.Receives.{answers, where_stored, gives_row, gives_block, takes, compared, compares, walks_on, round_came, is_done, kept_item, item_came, confirms, hears, receives}
use Rattle.cluster_machine.specs.Rounds.{is_complete, value_here, children_here, walk_at, walks_of, walks_after, found_same, walk_after, asked_after, other_nodes, parts_of, synced, goes_on, may_sync, begin_round, round_walks, mending_walks, at_walk, mending_came, with_mending, with_lasting, late_came, answer_came, new_walks, walked_anew}
use Rattle.cluster_machine.specs.Acts.{Acted, syncs, acts}
use Rattle.cluster_machine.specs.Blocks.{IsBeside, CarriesBlocks, PacketCarriesBlocks, BringsBlocks, IsStocked}
use Rattle.block_laws.proofs.Accepting.{accepts_all_node, sees_node, without_due_node}
use Rattle.block_laws.proofs.Collecting.{Stocks, tomb_stocks, tombed_stocks, forget_stocks, collects_stocks}
use Rattle.block_laws.proofs.Sending.{ArePosts, each_post, stores_posts, items_posts, starts_posts, after_posts}

module _ (digest : List ℕ → List ℕ) {R : Type 0} {join : R → R → R} {s : Words R} (laws : Laws join s) {L : Type 0} (k : Layouts L) where
  abbrev Sound : Node R L → Type 0
  Sound x = IsStocked digest s join x

  -- what a node does leaves it with the blocks that it needs, and its messages have theirs
  pub record IsDone (d : Did R L) : Type 0 where
    pub node : Sound d.node
    pub posts : ArePosts digest laws k d.posts

  still : (x : Node R L) → Sound x → IsDone (quiet x)
  still x i = record { node = i; posts = tt }

  either : (b : Bool) (d e : Did R L) → IsDone d → IsDone e → IsDone (cond b d e)
  either true d e h f = h
  either false d e h f = f

  answers_done : (x : Node R L) (to : ℕ) (m : Message R) → Sound x → CarriesBlocks digest s m → IsDone (answers x to m)
  answers_done x to m i h = record { node = i; posts = (h, tt) }

  -- ---- answers to a request

  module _ (x : Node R L) (i : Sound x) where
    module _ (c : Call R) where
      asked_done : (q : Question R) (as' : List (ℕ × Option R)) (a : ℕ × Option R) (o : Option (Option R)) → IsDone (asked x c q as' a o)
      asked_done q as' a None = record { node = i; posts = tt }
      asked_done q as' a (Some value) = record { node = i; posts = tt }

      looked_done : (q : Scan R) (as' : List (ℕ × RangeAnswer R)) (a : ℕ × RangeAnswer R) (o : Option (Window R)) → IsDone (looked x c q as' a o)
      looked_done q as' a None = record { node = i; posts = tt }
      looked_done q as' a (Some w) = record { node = i; posts = tt }

      kept_done : (rs : List R) (slots : List StoreSlot) (b : Bool) → IsDone (stored x c rs slots b)
      kept_done rs slots false = record { node = i; posts = tt }
      kept_done rs slots true = record { node = i; posts = tt }

      row_done : (from : ℕ) (row : Option R) (p : Present R) → IsDone (row_came join x c from row p)
      row_done from row resting = still x i
      row_done from row (asking q as') = asked_done q as' (from, row) (value_after join q as' (from, row))
      row_done from row (scanning q as') = still x i
      row_done from row (storing rs slots) = still x i
      row_done from row (fetching hash) = still x i

      rows_done : (from : ℕ) (rs : List R) (more : Bool) (p : Present R) → IsDone (rows_came join s x c from rs more p)
      rows_done from rs more resting = still x i
      rows_done from rs more (asking q as') = still x i
      rows_done from rs more (scanning q as') = let a : ℕ × RangeAnswer R = (from, record { rows = rs; more = more }) in looked_done q as' a (window_at join s (first_two_at q.set as' a))
      rows_done from rs more (storing others slots) = still x i
      rows_done from rs more (fetching hash) = still x i

      stored_done : (slot from : ℕ) (p : Present R) → IsDone (stored_came k x c slot from p)
      stored_done slot from resting = still x i
      stored_done slot from (asking q as') = still x i
      stored_done slot from (scanning q as') = still x i
      stored_done slot from (storing rs slots) = kept_done rs (with_confirmation slots slot from) (is_kept (with_confirmation slots slot from) (oldest k.reading x.view))
      stored_done slot from (fetching hash) = still x i

      block_done : (bytes : List ℕ) (p : Present R) → IsDone (block_came x c bytes p)
      block_done bytes resting = still x i
      block_done bytes (asking q as') = still x i
      block_done bytes (scanning q as') = still x i
      block_done bytes (storing rs slots) = still x i
      block_done bytes (fetching hash) = record { node = i; posts = tt }

    in_call : (phase : ℕ) (f : Call R → Did R L) (o : Option (Call R)) → ((c : Call R) → IsDone (f c)) → IsDone (at_call x phase f o)
    in_call phase f None h = still x i
    in_call phase f (Some c) h = either (c.phases == phase) (f c) (quiet x) (h c) (still x i)

    -- ---- a message comes

    here : (from request phase at : ℕ) (d : Did R L) → IsDone d → IsDone (where_stored join s k x from request phase at d)
    here from request phase at d h = either (is_stored k x.view at) d _ h (answers_done x from (NotHere (ForCall request phase 0)) i tt)

    gives_done : (from request phase : ℕ) (o : Option (List ℕ)) → IsDone (gives_block join s k x from request phase o)
    gives_done from request phase None = answers_done x from (NoBlock request phase) i tt
    gives_done from request phase (Some bytes) = answers_done x from (Block request phase bytes) i tt

    takes_done : (id now from : ℕ) (tag : Tag) (named p : ℕ) (bs : List (List ℕ × Option (List ℕ))) → CarriesBlocks digest s (Store tag named p bs) → IsDone (takes join s k id now x from tag named p bs)
    takes_done id now from tag named p bs m =
        either (nat_lt (newest k.reading x.view) named) _ _ (answers_done x from (Behind tag (newest k.reading x.view)) i tt)
        (either (not (is_given k x.view id p)) _ _ (answers_done x from (NotHere tag) i tt)
        (answers_done (accepts_all join s now x bs) from (Stored tag) (accepts_all_node digest laws now bs x m i) tt))

    goes_node : (id : ℕ) (rounds : ℕ) (lasting : Option Mending) (round : Round) → Sound (goes_on join s k id (record x { rounds = rounds; lasting = lasting }) round)
    goes_node id rounds lasting round = elim (is_complete round) as (λ b. Sound (cond b (synced join s k id (record x { rounds = rounds; lasting = lasting }) round) (record x { rounds = rounds; lasting = lasting; round = Some round }))) [ true ↦ i | false ↦ i ]

    round_done : (id from number p : ℕ) (o : Option Round) → IsDone (round_came join s k id x from number p o)
    round_done id from number p None = still x i
    round_done id from number p (Some round) =
        let new : Round = record round { confirmed = round.confirmed ++ record { partition = p; node = from } ∷ [] } in
        either (round.number == number) (quiet (goes_on join s k id x new)) (quiet x) (record { node = goes_node id x.rounds x.lasting new; posts = tt }) (still x i)

    -- a test, where what is done sends only rows with a spelling
    by_spelled : (b : Bool) (d e : Did R L) → (d.is_spelled ≡ true → IsDone d) → (e.is_spelled ≡ true → IsDone e) → (cond b d e).is_spelled ≡ true → IsDone (cond b d e)
    by_spelled true d e f h = f
    by_spelled false d e f h = h

    compared_has : (tag : Tag) (p table : ℕ) (prefix : List ℕ) (hash : Hash32) → CarriesBlocks digest s (compared join s k x tag p table prefix hash)
    compared_has tag p table prefix hash =
        elim (same_bytes hash.0 (value_here join s x table p prefix).0) as (λ b. CarriesBlocks digest s (cond b (HasSame tag table prefix) (Differ tag table prefix (children_here join s x table p prefix)))) [ true ↦ tt | false ↦ tt ]

    compares_done : (id from : ℕ) (tag : Tag) (named p table : ℕ) (prefix : List ℕ) (hash : Hash32) → IsDone (compares join s k id x from tag named p table prefix hash)
    compares_done id from tag named p table prefix hash =
        either (nat_lt (newest k.reading x.view) named) _ _ (answers_done x from (Behind tag (newest k.reading x.view)) i tt)
        (either (not (is_given k x.view id p)) _ _ (answers_done x from (NotHere tag) i tt)
        (record { node = i; posts = (compared_has tag p table prefix hash, tt) }))

    at_walk_done : (table : ℕ) (prefix : List ℕ) (f : Walk → Did R L) (o : Option Walk) → ((w : Walk) → (f w).is_spelled ≡ true → IsDone (f w)) → (at_walk join s k x table prefix f o).is_spelled ≡ true → IsDone (at_walk join s k x table prefix f o)
    at_walk_done table prefix f None h e = still x i
    at_walk_done table prefix f (Some w) h e = by_spelled (is_open table prefix w.state.prefixes) (f w) (quiet x) (h w) (λ e. still x i) e

    mending_done : (now : Mending → Node R L) (other : Did R L) → ((m : Mending) → Sound (now m)) → (other.is_spelled ≡ true → IsDone other) → (from number p table : ℕ) (prefix : List ℕ) (answer : Option (List (ℕ × Hash32))) (o : Option Mending) →
        (mending_came join s k x now other from number p table prefix answer o).is_spelled ≡ true → IsDone (mending_came join s k x now other from number p table prefix answer o)
    mending_done now other h d from number p table prefix answer None e = d e
    mending_done now other h d from number p table prefix answer (Some mending) e =
        by_spelled (mending.number == number) (at_walk join s k x table prefix (mending_walks join s k x now table prefix answer mending) (walk_at p from mending.walks)) other
        (at_walk_done table prefix (mending_walks join s k x now table prefix answer mending) (walk_at p from mending.walks)
        (λ w e. record { node = h _; posts = after_posts digest laws k x i mending.number (walk_after join s x w table prefix answer) table (asked_after join s x w.state.partition table prefix answer) e }))
        d e

    late_done : (from number p table : ℕ) (prefix : List ℕ) (answer : Option (List (ℕ × Hash32))) → (late_came join s k x from number p table prefix answer).is_spelled ≡ true → IsDone (late_came join s k x from number p table prefix answer)
    late_done from number p table prefix answer e =
        mending_done (with_lasting join s k x) _ (λ m. i) (mending_done (with_mending join s k x) (quiet x) (λ m. i) (λ e. still x i) from number p table prefix answer x.mending) from number p table prefix answer x.lasting e

    walked_done : (id table : ℕ) (prefix : List ℕ) (answer : Option (List (ℕ × Hash32))) (round : Round) (w : Walk) → (round_walks join s k id x table prefix answer round w).is_spelled ≡ true → IsDone (round_walks join s k id x table prefix answer round w)
    walked_done id table prefix answer round w e =
        let later = walk_after join s x w table prefix answer in
        let now : Round = record round { walks = walks_after later round.walks } in
        let there : Round = record now { confirmed = now.confirmed ++ record { partition = w.state.partition; node = w.node } ∷ [] } in
        record {
          node = elim (found_same later) as (λ b. Sound (cond b (goes_on join s k id x there) (record x { round = Some now }))) [ true ↦ goes_node id x.rounds x.lasting there | false ↦ i ];
          posts = after_posts digest laws k x i round.number later table (asked_after join s x w.state.partition table prefix answer) e;
        }

    answered_done : (id from number p table : ℕ) (prefix : List ℕ) (answer : Option (List (ℕ × Hash32))) (o : Option Round) → (answer_came join s k id x from number p table prefix answer o).is_spelled ≡ true → IsDone (answer_came join s k id x from number p table prefix answer o)
    answered_done id from number p table prefix answer None e = late_done from number p table prefix answer e
    answered_done id from number p table prefix answer (Some round) e =
        by_spelled (round.number == number) (at_walk join s k x table prefix (round_walks join s k id x table prefix answer round) (walk_at p from round.walks)) (late_came join s k x from number p table prefix answer)
        (at_walk_done table prefix (round_walks join s k id x table prefix answer round) (walk_at p from round.walks) (walked_done id table prefix answer round))
        (late_done from number p table prefix answer) e

    walks_done : (id from : ℕ) (tag : Tag) (table : ℕ) (prefix : List ℕ) (answer : Option (List (ℕ × Hash32))) → (walks_on join s k id x from tag table prefix answer).is_spelled ≡ true → IsDone (walks_on join s k id x from tag table prefix answer)
    walks_done id from (ForCall request phase slot) table prefix answer e = still x i
    walks_done id from (ForRound number p) table prefix answer e = answered_done id from number p table prefix answer x.round e
    walks_done id from (ForItem number) table prefix answer e = still x i

    items_came : (v : View L) (from number : ℕ) (items : List (Item R)) → AllByRecursion (λ (item : Item R). s.live_block item.row ≡ None) items → AllByRecursion (λ (item : Item R). s.live_block item.row ≡ None) (item_came join s k v from number items)
    items_came v from number [] a = tt
    items_came v from number (item ∷ items) a =
        let new : Item R = record item { confirmed = item.confirmed ++ from ∷ [] } in
        elim (item.number == number) as (λ b. AllByRecursion (λ (item : Item R). s.live_block item.row ≡ None) (cond b (kept_item join s k v new items) (item ∷ item_came join s k v from number items))) [
          | true ↦ (elim (is_done join s k v new) as (λ b. AllByRecursion (λ (item : Item R). s.live_block item.row ≡ None) (cond b items (new ∷ items))) [ true ↦ a.1 | false ↦ (a.0, a.1) ])
          | false ↦ (a.0, items_came v from number items a.1)
        ]

    confirms_done : (id from : ℕ) (tag : Tag) → IsDone (confirms join s k id x from tag)
    confirms_done id from (ForCall request phase slot) = in_call phase (λ c. stored_came k x c slot from c.present) (call_at x.calls request) (λ c. stored_done c slot from c.present)
    confirms_done id from (ForRound number p) = round_done id from number p x.round
    confirms_done id from (ForItem number) = record { node = record { proper = i.proper; items_need_none = items_came x.view from number x.items i.items_need_none; collections_need_none = i.collections_need_none; digests = i.digests; has = i.has }; posts = tt }

    -- what a node does about collections
    stocked_done : {id : ℕ} {d : Did R L} → Stocks digest laws k id x i d → IsDone d
    stocked_done h = record { node = h.node; posts = h.posts }

    hears_done : (id now from : ℕ) (m : Message R) → CarriesBlocks digest s m → (hears join s k id now x from m).is_spelled ≡ true → IsDone (hears join s k id now x from m)
    hears_done id now from (Get request phase at table key) m e = here from request phase at (gives_row join s k x from request phase (row_at join s x.accepted table key)) (record { node = i; posts = (tt, tt) })
    hears_done id now from (Row request phase row) m e = in_call phase (λ c. row_came join x c from row c.present) (call_at x.calls request) (λ c. row_done c from row c.present)
    hears_done id now from (Range request phase at position prefix after) m e = here from request phase at _ (record { node = i; posts = (tt, tt) })
    hears_done id now from (Rows request phase rs more) m e = in_call phase (λ c. rows_came join s x c from rs more c.present) (call_at x.calls request) (λ c. rows_done c from rs more c.present)
    hears_done id now from (Store tag named p bs) m e = takes_done id now from tag named p bs m
    hears_done id now from (Stored tag) m e = confirms_done id from tag
    hears_done id now from (Behind tag v) m e = still x i
    hears_done id now from (NotHere tag) m e = still x i
    hears_done id now from (BlockGet request phase at hash) m e = here from request phase at _ (gives_done from request phase (block_at x.blocks hash.0))
    hears_done id now from (Block request phase bytes) m e = in_call phase (λ c. block_came x c bytes c.present) (call_at x.calls request) (λ c. block_done c bytes c.present)
    hears_done id now from (NoBlock request phase) m e = still x i
    hears_done id now from (AsksValue tag named p table prefix hash) m e = compares_done id from tag named p table prefix hash
    hears_done id now from (HasSame tag table prefix) m e = walks_done id from tag table prefix None e
    hears_done id now from (Differ tag table prefix pairs) m e = walks_done id from tag table prefix (Some pairs) e
    hears_done id now from (Tomb number round row) m e = stocked_done (tomb_stocks digest laws k id x i now from number round row m)
    hears_done id now from (Tombed number round named) m e = stocked_done (tombed_stocks digest laws k id x i now from number round named)
    hears_done id now from (Forget table key hash) m e = stocked_done (forget_stocks digest laws k id x i table key hash.0)

    pub receives_done : (id now from : ℕ) (p : Packet R L) → PacketCarriesBlocks digest s p → (receives join s k id now x from p).is_spelled ≡ true → IsDone (receives join s k id now x from p)
    receives_done id now from (says m) h e = hears_done id now from m h e
    receives_done id now from (shows v) h e = record { node = sees_node digest laws k id now x (merged k.reading x.view v) i; posts = tt }

    -- ---- a node acts

    begin_done : (id : ℕ) → (begin_round join s k id x).is_spelled ≡ true → IsDone (begin_round join s k id x)
    begin_done id e =
        let at = read_version k.reading x.view in
        let parts = parts_of join s k id x (layout_at k.reading x.view at) (layout_at k.reading x.view (suc at)) in
        let round : Round = record { number = suc x.rounds; target = suc at; parts = parts; confirmed = map (λ (part : Part). record { partition = part.partition; node = id }) parts; walks = walks_of join s x (other_nodes join s k id) parts } in
        record { node = goes_node id (suc x.rounds) None round; posts = starts_posts digest laws k x (suc x.rounds) round.walks }

    syncs_done : (id : ℕ) (o : Option Round) → (syncs join s k id x o).did.is_spelled ≡ true → IsDone (syncs join s k id x o).did
    syncs_done id (Some round) e = record { node = goes_node id x.rounds x.lasting (walked_anew join s k x round); posts = starts_posts digest laws k x round.number (new_walks join s k x round) }
    syncs_done id None e = by_test (may_sync join s k id x.view) _ _ e
      where
        by_test : (b : Bool) (how other : LocalEnd) → (cond {A = Acted R L} b (record { did = begin_round join s k id x; how = how }) (record { did = quiet x; how = other })).did.is_spelled ≡ true → IsDone (cond {A = Acted R L} b (record { did = begin_round join s k id x; how = how }) (record { did = quiet x; how = other })).did
        by_test true how other e = begin_done id e
        by_test false how other e = still x i

    pub acts_done : (id now : ℕ) (action : Action) → (acts join s k id now x action).did.is_spelled ≡ true → IsDone (acts join s k id now x action).did
    acts_done id now RaiseAck e = record { node = i; posts = tt }
    acts_done id now GoOn e = syncs_done id x.round e
    acts_done id now RaiseSyncAck e = record { node = i; posts = tt }
    acts_done id now Clean e = record { node = sees_node digest laws k id now x (cleaned k.reading x.view) i; posts = tt }
    acts_done id now Work e = record { node = without_due_node digest laws now x i; posts = items_posts digest laws k x.view x.items i.items_need_none e }
    acts_done id now Repair e =
        let l = layout_at k.reading x.view (newest k.reading x.view) in
        record { node = i; posts = starts_posts digest laws k x (suc x.rounds) (walks_of join s x (other_nodes join s k id) (parts_of join s k id x l l)) }
    acts_done id now Collect e = stocked_done (collects_stocks digest laws k id x i now)

    -- ---- a phase begins

    pub begins_done : (kept : List R) (c : Call R) (phase : Phase R) → BringsBlocks digest s phase → (begins s k kept x c phase).is_spelled ≡ true → IsDone (begins s k kept x c phase)
    begins_done kept c (Read table position key) h e = record { node = i; posts = each_post digest laws k _ _ tt }
    begins_done kept c (Scans position prefix after) h e = record { node = i; posts = each_post digest laws k _ _ tt }
    begins_done kept c (Keeps rows) h e = record { node = i; posts = stores_posts digest laws k x.view c.request (suc c.phases) 0 rows (recursion_from_All (λ r. IsBeside digest (s.live_block r.0) r.1) rows h) e }
    begins_done kept c (Fetches hash) h e = record { node = i; posts = each_post digest laws k _ _ tt }
