-- What a node does changes no collection, where it isn't told to collect and what comes isn't about collections.
use Rattle.std.specs.Prelude.{◌≡◌, ℕ, suc, Bool, true, false, ◌==◌, leb, nat_lt, not, cond, List, [], ◌∷◌, ◌++◌, Option, Some, None, map, refl, ⊤}
use Rattle.std.proofs.Common.{◌∙◌}
use Rattle.blake2_hash.specs.declared.digest.Hash32.{Hash32}
use Rattle.view_model.specs.View.{View, newest, oldest, read_version, layout_at, merged, cleaned}
use Rattle.table_schema.specs.Words.{Words}
use Rattle.quorum_model.specs.Quorum.{is_kept, with_confirmation}
use Rattle.quorum_model.specs.Answers.{first_two_at}
use Rattle.quorum_model.specs.Window.{Window}
use Rattle.gc_model.specs.Collecting.{Open}
use Rattle.walk_model.specs.Walking.{is_open}
use Rattle.wire_messages.specs.declared.message.Message.{Message}
use Rattle.wire_messages.specs.declared.message.Message.TheVariants.{Get, Row, Range, Rows, Store, Stored, Behind, NotHere, BlockGet, Block, NoBlock, Walk as AsksValue, Same as HasSame, Differ, Tomb, Tombed, Forget}
use Rattle.wire_messages.specs.declared.message.Tag.{Tag}
use Rattle.wire_messages.specs.declared.message.Tag.TheVariants.{Call as ForCall, Round as ForRound, Item as ForItem}
use Rattle.wire_messages.specs.declared.phase.Phase.{Phase}
use Rattle.wire_messages.specs.declared.phase.Phase.TheVariants.{Read, Range as Scans, Store as Keeps, Block as Fetches}
use Rattle.cluster_machine.specs.declared.step.Action.{Action}
use Rattle.cluster_machine.specs.declared.step.Action.TheVariants.{Ack as RaiseAck, Sync as GoOn, SyncAck as RaiseSyncAck, Clean as CleanUp, Work as WorkOff, Repair as Mend, Collect as Gather}
use Rattle.cluster_machine.specs.declared.step.LocalEnd.{LocalEnd}
use Rattle.cluster_machine.specs.Layouts.{Layouts, is_given, is_stored}
use Rattle.cluster_machine.specs.Node.{Present, resting, asking, scanning, storing, fetching, Call, Part, Round, Mending, Walk, Node, Packet, says, shows, Did, quiet}
use Rattle.cluster_machine.specs.Rows.{block_at, accepts_read, accepts_all, sees}
use Rattle.cluster_machine.specs.Phases.{asked, looked, stored, value_after, window_at, row_came, rows_came, stored_came, block_came, at_call, call_at, begins}
use Rattle.cluster_machine.specs.Rounds.{is_complete, parts_of, walks_of, other_nodes, goes_on, may_sync, begin_round, walked_anew, found_same, walk_after, walk_at, walks_after, round_walks, mending_walks, at_walk, mending_came, with_mending, with_lasting, late_came, answer_came}
use Rattle.cluster_machine.specs.Receives.{where_stored, gives_block, takes, compares, round_came, hears, receives, walks_on}
use Rattle.cluster_machine.specs.Acts.{Acted, syncs, acts}
use Rattle.machine_collects.specs.Without.{IsBare}

-- an action that isn't to collect
abbrev pub IsElse : Action → Type 0
IsElse Gather = ⊥
IsElse _ = ⊤

module _ {R L : Type 0} (join : R → R → R) (s : Words R) (k : Layouts L) where
  abbrev Machine : Type 0
  Machine = Node R L

  read_gc : (now : ℕ) (o : Option R) (given : Option (List ℕ)) (x : Machine) → (accepts_read join s now x o given).gc ≡ x.gc
  read_gc now None given x = refl
  read_gc now (Some r) given x = refl

  accepts_gc : (now : ℕ) (rs : List (List ℕ × Option (List ℕ))) (x : Machine) → (accepts_all join s now x rs).gc ≡ x.gc
  accepts_gc now [] x = refl
  accepts_gc now (r ∷ rs) x = accepts_gc now rs (accepts_read join s now x (s.read r.0) r.1) ∙ read_gc now (s.read r.0) r.1 x

  -- one of two nodes, or of two deeds
  node_either : (n : Open) (b : Bool) (x y : Machine) → x.gc ≡ n → y.gc ≡ n → (cond b x y).gc ≡ n
  node_either n true x y h g = h
  node_either n false x y h g = g

  module _ (id : ℕ) where
    sees_gc : (now : ℕ) (x : Machine) (v : View L) → (sees join s k id now x v).gc ≡ x.gc
    sees_gc now x v = node_either x.gc (leb (oldest k.reading v) (oldest k.reading x.view)) _ _ refl refl

    goes_gc : (x : Machine) (round : Round) → (goes_on join s k id x round).gc ≡ x.gc
    goes_gc x round = node_either x.gc (is_complete round) _ _ refl refl

    module _ (x : Machine) where
      abbrev Same : Did R L → Type 0
      Same d = d.node.gc ≡ x.gc

      either : (b : Bool) (d e : Did R L) → Same d → Same e → Same (cond b d e)
      either true d e h g = h
      either false d e h g = g

      in_call : (phase : ℕ) (f : Call R → Did R L) (o : Option (Call R)) → ((c : Call R) → Same (f c)) → Same (at_call x phase f o)
      in_call phase f None h = refl
      in_call phase f (Some c) h = either (c.phases == phase) (f c) (quiet x) (h c) refl

      -- ---- answers to phases

      row_same : (c : Call R) (from : ℕ) (row : Option R) (p : Present R) → Same (row_came join x c from row p)
      row_same c from row (asking q as') = by_value (value_after join q as' (from, row))
        where
          by_value : (o : Option (Option R)) → Same (asked x c q as' (from, row) o)
          by_value None = refl
          by_value (Some value) = refl
      row_same c from row resting = refl
      row_same c from row (scanning q as') = refl
      row_same c from row (storing rs slots) = refl
      row_same c from row (fetching hash) = refl

      rows_same : (c : Call R) (from : ℕ) (rs : List R) (more : Bool) (p : Present R) → Same (rows_came join s x c from rs more p)
      rows_same c from rs more (scanning q as') = by_window (window_at join s (first_two_at q.set as' (from, record { rows = rs; more = more })))
        where
          by_window : (o : Option (Window R)) → Same (looked x c q as' (from, record { rows = rs; more = more }) o)
          by_window None = refl
          by_window (Some w) = refl
      rows_same c from rs more resting = refl
      rows_same c from rs more (asking q as') = refl
      rows_same c from rs more (storing others slots) = refl
      rows_same c from rs more (fetching hash) = refl

      stored_same : (c : Call R) (slot from : ℕ) (p : Present R) → Same (stored_came k x c slot from p)
      stored_same c slot from (storing rs slots) = by_kept (is_kept (with_confirmation slots slot from) (oldest k.reading x.view))
        where
          by_kept : (b : Bool) → Same (stored x c rs (with_confirmation slots slot from) b)
          by_kept true = refl
          by_kept false = refl
      stored_same c slot from resting = refl
      stored_same c slot from (asking q as') = refl
      stored_same c slot from (scanning q as') = refl
      stored_same c slot from (fetching hash) = refl

      block_same : (c : Call R) (bytes : List ℕ) (p : Present R) → Same (block_came x c bytes p)
      block_same c bytes (fetching hash) = refl
      block_same c bytes resting = refl
      block_same c bytes (asking q as') = refl
      block_same c bytes (scanning q as') = refl
      block_same c bytes (storing rs slots) = refl

      -- ---- walks

      at_walk_same : (table : ℕ) (prefix : List ℕ) (f : Walk → Did R L) (o : Option Walk) → ((w : Walk) → Same (f w)) → Same (at_walk join s k x table prefix f o)
      at_walk_same table prefix f None h = refl
      at_walk_same table prefix f (Some w) h = either (is_open table prefix w.state.prefixes) (f w) (quiet x) (h w) refl

      round_same : (table : ℕ) (prefix : List ℕ) (answer : Option (List (ℕ × Hash32))) (round : Round) (w : Walk) → Same (round_walks join s k id x table prefix answer round w)
      round_same table prefix answer round w =
          let later = walk_after join s x w table prefix answer in
          let now : Round = record round { walks = walks_after later round.walks } in
          node_either x.gc (found_same later) _ _ (goes_gc x (record now { confirmed = now.confirmed ++ record { partition = w.state.partition; node = w.node } ∷ [] })) refl

      mending_same : (now : Mending → Machine) (other : Did R L) → ((m : Mending) → (now m).gc ≡ x.gc) → Same other → (from number p table : ℕ) (prefix : List ℕ) (answer : Option (List (ℕ × Hash32))) (o : Option Mending) → Same (mending_came join s k x now other from number p table prefix answer o)
      mending_same now other h g from number p table prefix answer None = g
      mending_same now other h g from number p table prefix answer (Some mending) =
          either (mending.number == number) _ other (at_walk_same table prefix (mending_walks join s k x now table prefix answer mending) (walk_at p from mending.walks) (λ w. h _)) g

      late_same : (from number p table : ℕ) (prefix : List ℕ) (answer : Option (List (ℕ × Hash32))) → Same (late_came join s k x from number p table prefix answer)
      late_same from number p table prefix answer =
          mending_same (with_lasting join s k x) _ (λ m. refl) (mending_same (with_mending join s k x) (quiet x) (λ m. refl) refl from number p table prefix answer x.mending) from number p table prefix answer x.lasting

      answer_same : (from number p table : ℕ) (prefix : List ℕ) (answer : Option (List (ℕ × Hash32))) (o : Option Round) → Same (answer_came join s k id x from number p table prefix answer o)
      answer_same from number p table prefix answer None = late_same from number p table prefix answer
      answer_same from number p table prefix answer (Some round) =
          either (round.number == number) _ _ (at_walk_same table prefix (round_walks join s k id x table prefix answer round) (walk_at p from round.walks) (round_same table prefix answer round)) (late_same from number p table prefix answer)

      walks_same : (from : ℕ) (tag : Tag) (table : ℕ) (prefix : List ℕ) (answer : Option (List (ℕ × Hash32))) → Same (walks_on join s k id x from tag table prefix answer)
      walks_same from (ForCall request phase slot) table prefix answer = refl
      walks_same from (ForRound number p) table prefix answer = answer_same from number p table prefix answer x.round
      walks_same from (ForItem number) table prefix answer = refl

      -- ---- messages

      here : (from request phase at : ℕ) (d : Did R L) → Same d → Same (where_stored join s k x from request phase at d)
      here from request phase at d h = either (is_stored k x.view at) d _ h refl

      block_given : (from request phase : ℕ) (o : Option (List ℕ)) → Same (gives_block join s k x from request phase o)
      block_given from request phase None = refl
      block_given from request phase (Some bytes) = refl

      takes_same : (now from : ℕ) (tag : Tag) (named p : ℕ) (rs : List (List ℕ × Option (List ℕ))) → Same (takes join s k id now x from tag named p rs)
      takes_same now from tag named p rs = either (nat_lt (newest k.reading x.view) named) _ _ refl (either (not (is_given k x.view id p)) _ _ refl (accepts_gc now rs x))

      compares_same : (from : ℕ) (tag : Tag) (named p table : ℕ) (prefix : List ℕ) (hash : Hash32) → Same (compares join s k id x from tag named p table prefix hash)
      compares_same from tag named p table prefix hash = either (nat_lt (newest k.reading x.view) named) _ _ refl (either (not (is_given k x.view id p)) _ _ refl refl)

      came_same : (from number p : ℕ) (o : Option Round) → Same (round_came join s k id x from number p o)
      came_same from number p None = refl
      came_same from number p (Some round) = either (round.number == number) _ _ (goes_gc x (record round { confirmed = round.confirmed ++ record { partition = p; node = from } ∷ [] })) refl

      confirms_same : (now from : ℕ) (tag : Tag) → Same (hears join s k id now x from (Stored tag))
      confirms_same now from (ForCall request phase slot) = in_call phase (λ c. stored_came k x c slot from c.present) (call_at x.calls request) (λ c. stored_same c slot from c.present)
      confirms_same now from (ForRound number p) = came_same from number p x.round
      confirms_same now from (ForItem number) = refl

      hears_same : (now from : ℕ) (m : Message R) → IsBare {L = L} (says m) → Same (hears join s k id now x from m)
      hears_same now from (Get request phase at table key) bare = here from request phase at _ refl
      hears_same now from (Row request phase row) bare = in_call phase (λ c. row_came join x c from row c.present) (call_at x.calls request) (λ c. row_same c from row c.present)
      hears_same now from (Range request phase at bucket prefix after) bare = here from request phase at _ refl
      hears_same now from (Rows request phase rs more) bare = in_call phase (λ c. rows_came join s x c from rs more c.present) (call_at x.calls request) (λ c. rows_same c from rs more c.present)
      hears_same now from (Store tag named p rs) bare = takes_same now from tag named p rs
      hears_same now from (Stored tag) bare = confirms_same now from tag
      hears_same now from (Behind tag v) bare = refl
      hears_same now from (NotHere tag) bare = refl
      hears_same now from (BlockGet request phase at hash) bare = here from request phase at _ (block_given from request phase (block_at x.blocks hash.0))
      hears_same now from (Block request phase bytes) bare = in_call phase (λ c. block_came x c bytes c.present) (call_at x.calls request) (λ c. block_same c bytes c.present)
      hears_same now from (NoBlock request phase) bare = refl
      hears_same now from (AsksValue tag named p table prefix hash) bare = compares_same from tag named p table prefix hash
      hears_same now from (HasSame tag table prefix) bare = walks_same from tag table prefix None
      hears_same now from (Differ tag table prefix pairs) bare = walks_same from tag table prefix (Some pairs)
      hears_same now from (Tomb number round row) bare = absurd bare
      hears_same now from (Tombed number round named) bare = absurd bare
      hears_same now from (Forget table key hash) bare = absurd bare

      -- a packet that is not about collections changes none
      pub receives_same : (now from : ℕ) (p : Packet R L) → IsBare p → (receives join s k id now x from p).node.gc ≡ x.gc
      receives_same now from (says m) bare = hears_same now from m bare
      receives_same now from (shows v) bare = sees_gc now x (merged k.reading x.view v)

      -- ---- what a node does by itself

      syncs_same : (o : Option Round) → (syncs join s k id x o).did.node.gc ≡ x.gc
      syncs_same (Some round) = goes_gc x (walked_anew join s k x round)
      syncs_same None = by_test (may_sync join s k id x.view) _ _
        where
          begun : (begin_round join s k id x).node.gc ≡ x.gc
          begun =
              let at = read_version k.reading x.view in
              let parts = parts_of join s k id x (layout_at k.reading x.view at) (layout_at k.reading x.view (suc at)) in
              goes_gc (record x { rounds = suc x.rounds; lasting = None })
              (record { number = suc x.rounds; target = suc at; parts = parts; confirmed = map (λ (part : Part). record { partition = part.partition; node = id }) parts; walks = walks_of join s x (other_nodes join s k id) parts })

          by_test : (b : Bool) (how other : LocalEnd) → (cond {A = Acted R L} b (record { did = begin_round join s k id x; how = how }) (record { did = quiet x; how = other })).did.node.gc ≡ x.gc
          by_test true how other = begun
          by_test false how other = refl

      -- no action but that to collect changes the collections
      pub acts_same : (now : ℕ) (action : Action) → IsElse action → (acts join s k id now x action).did.node.gc ≡ x.gc
      acts_same now RaiseAck other = refl
      acts_same now GoOn other = syncs_same x.round
      acts_same now RaiseSyncAck other = refl
      acts_same now CleanUp other = sees_gc now x (cleaned k.reading x.view)
      acts_same now WorkOff other = refl
      acts_same now Mend other = refl
      acts_same now Gather other = absurd other

  -- a phase that begins opens none
  pub begins_same : (kept : List R) (x : Machine) (c : Call R) (phase : Phase R) → (begins s k kept x c phase).node.gc ≡ x.gc
  begins_same kept x c (Read table position key) = refl
  begins_same kept x c (Scans position prefix after) = refl
  begins_same kept x c (Keeps rs) = refl
  begins_same kept x c (Fetches hash) = refl
