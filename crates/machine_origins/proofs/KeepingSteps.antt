-- What each handler of a node keeps.
use Rattle.std.specs.Prelude.{◌≡◌, ◌≤◌, ℕ, suc, max, Bool, true, false, not, cond, ◌==◌, nat_lt, IsTrue, List, [], ◌∷◌, ◌++◌, Option, Some, None, refl}
use Rattle.std.specs.List.{flat_map}
use Rattle.std.proofs.Common.{ap, sym, subst, ◌∙◌, inl, arith}
use Rattle.view_model.specs.View.{is_gapless, newest, layout_at, read_version, merged, cleaned}
use Rattle.view_model.proofs.Joins.{newest_merged}
use Rattle.blake2_hash.specs.declared.digest.Hash32.{Hash32}
use Rattle.walk_model.specs.Walking.{is_open}
use Rattle.table_schema.specs.Words.{Words, partition_at, partition_of}
use Rattle.quorum_model.specs.declared.range.RangeAnswer.{RangeAnswer}
use Rattle.quorum_model.specs.Quorum.{StoreSlot, with_confirmation}
use Rattle.quorum_model.specs.Window.{Window}
use Rattle.wire_messages.specs.declared.message.Message.{Message}
use Rattle.wire_messages.specs.declared.message.Message.TheVariants.{Get, Row, Range, Rows, Store, Stored, Behind, NotHere, BlockGet, Block, NoBlock, Walk as AsksValue, Same as HasSame, Differ, Tomb, Tombed, Forget}
use Rattle.wire_messages.specs.declared.message.Tag.{Tag}
use Rattle.wire_messages.specs.declared.message.Tag.TheVariants.{Call as ForCall, Round as ForRound, Item as ForItem}
use Rattle.wire_messages.specs.declared.phase.Phase.{Phase}
use Rattle.wire_messages.specs.declared.phase.Phase.TheVariants.{Read, Range as Scans, Store as Saves, Block as Fetches}
use Rattle.cluster_machine.specs.declared.step.Action.{Action}
use Rattle.cluster_machine.specs.declared.step.Action.TheVariants.{Ack as RaiseAck, Sync as GoOn, SyncAck as RaiseSyncAck, Clean, Work, Repair, Collect}
use Rattle.cluster_machine.specs.Layouts.{Layouts, set_at, stored_sets, is_given, is_stored}
use Rattle.cluster_machine.specs.Node.{Question, Scan, Present, resting, asking, scanning, storing, fetching, Call, Item, Node, Packet, says, shows, Walk, Round, Mending, Did, quiet}
use Rattle.cluster_machine.specs.Rows.{accepts_all, block_at, sees}
use Rattle.cluster_machine.specs.Phases.{nodes_of, calls_now, call_at, asked, looked, stored, bytes_of, begins, value_after, row_came, rows_came, stored_came, block_came, at_call}
use Rattle.cluster_machine.specs.Rounds.{walk_at, walks_of, walks_after, found_same, walk_after, asked_after, other_nodes, parts_of, goes_on, may_sync, begin_round, round_walks, mending_walks, at_walk, mending_came, with_mending, with_lasting, late_came, answer_came, new_walks, walked_anew}
use Rattle.cluster_machine.specs.Receives.{answers, where_stored, gives_block, takes, compares, walks_on, round_came, confirms, hears, receives}
use Rattle.cluster_machine.specs.Acts.{Acted, item_posts, syncs, acts}
use Rattle.cluster_machine.specs.Keeping.{ArePosts, IsUpTo}
use Rattle.machine_origins.proofs.Collecting.{beside_keeps, tomb_beside, tombed_beside, forget_beside, collects_beside}
use Rattle.machine_origins.proofs.FollowingSteps.{calls_all, calls_seen, round_begun}
use Rattle.machine_origins.proofs.KeepingNodes.{AtMostOneChanges, Stays, Keeps, stays_self, stays_called, keeps_quiet, keeps_cond, newest_cleaned, view_seen, posts_to_each, stores_posts, starts_posts, after_posts, view_all, stays_round}
use Rattle.crdt_core.proofs.Each.{all_append}

module _ {R L : Type 0} (k : Layouts L) (x : Node R L) where
  pub keeps_self : Keeps k x (quiet x)
  keeps_self = keeps_quiet k x x (stays_self k x)

  -- a call changes, and nothing is sent
  pub keeps_called : (c : Call R) (p : Present R) (d : Did R L) → d.node ≡ calls_now x (record c { present = p }) → d.posts ≡ [] → Keeps k x d
  keeps_called c p d node posts = record { stays = rw node (stays_called k x c c.phases p); posts = rw posts tt }

  pub keeps_answer : (y : Node R L) (to : ℕ) (m : Message R) → Stays k x y → Keeps k x (answers y to m)
  keeps_answer y to m h = record { stays = h; posts = (tt, tt) }

  pub keeps_at_call : (phase : ℕ) (f : Call R → Did R L) (o : Option (Call R)) → ((c : Call R) → Keeps k x (f c)) → Keeps k x (at_call x phase f o)
  keeps_at_call phase f None h = keeps_self
  keeps_at_call phase f (Some c) h = keeps_cond k x (c.phases == phase) (f c) (quiet x) (h c) keeps_self

  module _ (c : Call R) where
    keeps_asked : (q : Question R) (as' : List (ℕ × Option R)) (a : ℕ × Option R) (value : Option (Option R)) → Keeps k x (asked x c q as' a value)
    keeps_asked q as' a None = keeps_called c _ _ refl refl
    keeps_asked q as' a (Some value) = keeps_called c _ _ refl refl

    keeps_looked : (q : Scan R) (as' : List (ℕ × RangeAnswer R)) (a : ℕ × RangeAnswer R) (w : Option (Window R)) → Keeps k x (looked x c q as' a w)
    keeps_looked q as' a None = keeps_called c _ _ refl refl
    keeps_looked q as' a (Some w) = keeps_called c _ _ refl refl

    keeps_stored : (rows : List R) (slots : List StoreSlot) (b : Bool) → Keeps k x (stored x c rows slots b)
    keeps_stored rows slots false = keeps_called c _ _ refl refl
    keeps_stored rows slots true = keeps_called c _ _ refl refl

    pub keeps_block : (bytes : List ℕ) (p : Present R) → Keeps k x (block_came x c bytes p)
    keeps_block bytes resting = keeps_self
    keeps_block bytes (asking q as') = keeps_self
    keeps_block bytes (scanning q as') = keeps_self
    keeps_block bytes (storing rows slots) = keeps_self
    keeps_block bytes (fetching hash) = keeps_called c _ _ refl refl

    module _ (join : R → R → R) (s : Words R) where
      pub keeps_row : (from : ℕ) (row : Option R) (p : Present R) → Keeps k x (row_came join x c from row p)
      keeps_row from row resting = keeps_self
      keeps_row from row (asking q as') = keeps_asked q as' (from, row) (value_after join q as' (from, row))
      keeps_row from row (scanning q as') = keeps_self
      keeps_row from row (storing rows slots) = keeps_self
      keeps_row from row (fetching hash) = keeps_self

      pub keeps_rows : (from : ℕ) (rows : List R) (more : Bool) (p : Present R) → Keeps k x (rows_came join s x c from rows more p)
      keeps_rows from rows more resting = keeps_self
      keeps_rows from rows more (asking q as') = keeps_self
      keeps_rows from rows more (scanning q as') = keeps_looked q as' _ _
      keeps_rows from rows more (storing others slots) = keeps_self
      keeps_rows from rows more (fetching hash) = keeps_self

    pub keeps_confirmed : (slot from : ℕ) (p : Present R) → Keeps k x (stored_came k x c slot from p)
    keeps_confirmed slot from resting = keeps_self
    keeps_confirmed slot from (asking q as') = keeps_self
    keeps_confirmed slot from (scanning q as') = keeps_self
    keeps_confirmed slot from (storing rows slots) = keeps_stored rows (with_confirmation slots slot from) _
    keeps_confirmed slot from (fetching hash) = keeps_self

module _ {R L : Type 0} (join : R → R → R) (s : Words R) (k : Layouts L) (x : Node R L) where
  keeps_where : (from request phase at : ℕ) (d : Did R L) → Keeps k x d → Keeps k x (where_stored join s k x from request phase at d)
  keeps_where from request phase at d h = keeps_cond k x (is_stored k x.view at) d _ h (keeps_answer k x x from _ (stays_self k x))

  keeps_gives_block : (from request phase : ℕ) (b : Option (List ℕ)) → Keeps k x (gives_block join s k x from request phase b)
  keeps_gives_block from request phase None = keeps_answer k x x from _ (stays_self k x)
  keeps_gives_block from request phase (Some bytes) = keeps_answer k x x from _ (stays_self k x)

  keeps_takes : (id now from : ℕ) (tag : Tag) (named p : ℕ) (rows : List (List ℕ × Option (List ℕ))) → Keeps k x (takes join s k id now x from tag named p rows)
  keeps_takes id now from tag named p rows =
      keeps_cond k x (nat_lt (newest k.reading x.view) named) _ _ (keeps_answer k x x from _ (stays_self k x))
      (keeps_cond k x (not (is_given k x.view id p)) _ _ (keeps_answer k x x from _ (stays_self k x))
      (keeps_answer k x (accepts_all join s now x rows) from _ (record {
        newest_stays = ap (newest k.reading) (view_all join s now x rows);
        calls = inl (calls_all join s k now x rows);
      })))

  keeps_round : (id from number p : ℕ) (o : Option Round) → Keeps k x (round_came join s k id x from number p o)
  keeps_round id from number p None = keeps_self k x
  keeps_round id from number p (Some round) =
      let now : Round = record round { confirmed = round.confirmed ++ record { partition = p; node = from } ∷ [] } in
      keeps_cond k x (round.number == number) (quiet (goes_on join s k id x now)) (quiet x) (keeps_quiet k x (goes_on join s k id x now) (stays_round join s k id x x now (stays_self k x))) (keeps_self k x)

  keeps_compares : (id from : ℕ) (tag : Tag) (named p table : ℕ) (prefix : List ℕ) (hash : Hash32) → Keeps k x (compares join s k id x from tag named p table prefix hash)
  keeps_compares id from tag named p table prefix hash =
      keeps_cond k x (nat_lt (newest k.reading x.view) named) _ _ (keeps_answer k x x from _ (stays_self k x))
      (keeps_cond k x (not (is_given k x.view id p)) _ _ (keeps_answer k x x from _ (stays_self k x))
      (record { stays = stays_self k x; posts = (tt, tt) }))

  keeps_at_walk : (table : ℕ) (prefix : List ℕ) (f : Walk → Did R L) (o : Option Walk) → ((w : Walk) → Keeps k x (f w)) → Keeps k x (at_walk join s k x table prefix f o)
  keeps_at_walk table prefix f None h = keeps_self k x
  keeps_at_walk table prefix f (Some w) h = keeps_cond k x (is_open table prefix w.state.prefixes) (f w) (quiet x) (h w) (keeps_self k x)

  keeps_mending : (now : Mending → Node R L) (other : Did R L) → ((m : Mending) → Stays k x (now m)) → Keeps k x other → (from number p table : ℕ) (prefix : List ℕ) (answer : Option (List (ℕ × Hash32))) (o : Option Mending) → Keeps k x (mending_came join s k x now other from number p table prefix answer o)
  keeps_mending now other stays h from number p table prefix answer None = h
  keeps_mending now other stays h from number p table prefix answer (Some mending) =
      keeps_cond k x (mending.number == number) _ _
      (keeps_at_walk table prefix (mending_walks join s k x now table prefix answer mending) (walk_at p from mending.walks)
      (λ w. record { stays = stays _; posts = after_posts join s k x mending.number (walk_after join s x w table prefix answer) table (asked_after join s x w.state.partition table prefix answer) }))
      h

  keeps_late : (from number p table : ℕ) (prefix : List ℕ) (answer : Option (List (ℕ × Hash32))) → Keeps k x (late_came join s k x from number p table prefix answer)
  keeps_late from number p table prefix answer =
      keeps_mending (with_lasting join s k x) _ (λ m. record { newest_stays = refl; calls = inl refl })
      (keeps_mending (with_mending join s k x) _ (λ m. record { newest_stays = refl; calls = inl refl }) (keeps_self k x) from number p table prefix answer x.mending)
      from number p table prefix answer x.lasting

  keeps_walked : (id table : ℕ) (prefix : List ℕ) (answer : Option (List (ℕ × Hash32))) (round : Round) (w : Walk) → Keeps k x (round_walks join s k id x table prefix answer round w)
  keeps_walked id table prefix answer round w =
      let later = walk_after join s x w table prefix answer in
      let now : Round = record round { walks = walks_after later round.walks } in
      let there : Round = record now { confirmed = now.confirmed ++ record { partition = w.state.partition; node = w.node } ∷ [] } in
      record {
        stays = elim (found_same later) as (λ b. Stays k x (cond b (goes_on join s k id x there) (record x { round = Some now }))) [
          | true ↦ stays_round join s k id x x there (stays_self k x)
          | false ↦ record { newest_stays = refl; calls = inl refl }
        ];
        posts = after_posts join s k x round.number later table (asked_after join s x w.state.partition table prefix answer);
      }

  keeps_answered : (id from number p table : ℕ) (prefix : List ℕ) (answer : Option (List (ℕ × Hash32))) (o : Option Round) → Keeps k x (answer_came join s k id x from number p table prefix answer o)
  keeps_answered id from number p table prefix answer None = keeps_late from number p table prefix answer
  keeps_answered id from number p table prefix answer (Some round) =
      keeps_cond k x (round.number == number) _ _ (keeps_at_walk table prefix (round_walks join s k id x table prefix answer round) (walk_at p from round.walks) (keeps_walked id table prefix answer round)) (keeps_late from number p table prefix answer)

  keeps_walks : (id from : ℕ) (tag : Tag) (table : ℕ) (prefix : List ℕ) (answer : Option (List (ℕ × Hash32))) → Keeps k x (walks_on join s k id x from tag table prefix answer)
  keeps_walks id from (ForCall request phase slot) table prefix answer = keeps_self k x
  keeps_walks id from (ForRound number p) table prefix answer = keeps_answered id from number p table prefix answer x.round
  keeps_walks id from (ForItem number) table prefix answer = keeps_self k x

  keeps_confirms : (id from : ℕ) (tag : Tag) → Keeps k x (confirms join s k id x from tag)
  keeps_confirms id from (ForCall request phase slot) = keeps_at_call k x phase _ (call_at x.calls request) (λ c. keeps_confirmed k x c slot from c.present)
  keeps_confirms id from (ForRound number p) = keeps_round id from number p x.round
  keeps_confirms id from (ForItem number) = keeps_quiet k x _ (record { newest_stays = refl; calls = inl refl })

  pub keeps_hears : (id now from : ℕ) (m : Message R) → Keeps k x (hears join s k id now x from m)
  keeps_hears id now from (Get request phase at table key) = keeps_where from request phase at _ (record { stays = stays_self k x; posts = (tt, tt) })
  keeps_hears id now from (Row request phase row) = keeps_at_call k x phase _ (call_at x.calls request) (λ c. keeps_row k x c join s from row c.present)
  keeps_hears id now from (Range request phase at bucket prefix after) = keeps_where from request phase at _ (record { stays = stays_self k x; posts = (tt, tt) })
  keeps_hears id now from (Rows request phase found more) = keeps_at_call k x phase _ (call_at x.calls request) (λ c. keeps_rows k x c join s from found more c.present)
  keeps_hears id now from (Store tag named p rows) = keeps_takes id now from tag named p rows
  keeps_hears id now from (Stored tag) = keeps_confirms id from tag
  keeps_hears id now from (Behind tag v) = keeps_self k x
  keeps_hears id now from (NotHere tag) = keeps_self k x
  keeps_hears id now from (BlockGet request phase at hash) = keeps_where from request phase at _ (keeps_gives_block from request phase (block_at x.blocks hash.0))
  keeps_hears id now from (Block request phase bytes) = keeps_at_call k x phase _ (call_at x.calls request) (λ c. keeps_block k x c bytes c.present)
  keeps_hears id now from (NoBlock request phase) = keeps_self k x
  keeps_hears id now from (AsksValue tag named p table prefix hash) = keeps_compares id from tag named p table prefix hash
  keeps_hears id now from (HasSame tag table prefix) = keeps_walks id from tag table prefix None
  keeps_hears id now from (Differ tag table prefix pairs) = keeps_walks id from tag table prefix (Some pairs)
  keeps_hears id now from (Tomb number round row) = beside_keeps k x _ (tomb_beside join s x k id now from number round row)
  keeps_hears id now from (Tombed number round named) = beside_keeps k x _ (tombed_beside join s x k id now from number round named)
  keeps_hears id now from (Forget table key hash) = beside_keeps k x _ (forget_beside join s x table key hash.0)

  pub newest_received : (id now from : ℕ) (packet : Packet R L) (n : ℕ) → IsTrue (is_gapless k.reading x.view.layouts) → newest k.reading x.view ≤ n → IsUpTo k n packet → newest k.reading (receives join s k id now x from packet).node.view ≤ n
  newest_received id now from (says m) n gapless low h = subst (λ a. a ≤ n) (sym (keeps_hears id now from m).stays.newest_stays) low
  newest_received id now from (shows v) n gapless low h =
      let both = newest_merged k.reading x.view v gapless h.0 in
      let most : max (newest k.reading x.view) (newest k.reading v) ≤ n = (let other = h.1 in omega arith) in
      subst (λ a. a ≤ n) (sym (ap (newest k.reading) (view_seen join s k id now x (merged k.reading x.view v)) ∙ both)) most

  pub posts_received : (id now from : ℕ) (packet : Packet R L) → ArePosts (receives join s k id now x from packet).posts
  posts_received id now from (says m) = (keeps_hears id now from m).posts
  posts_received id now from (shows v) = tt

  pub calls_received : (id now from : ℕ) (packet : Packet R L) → AtMostOneChanges x.calls (receives join s k id now x from packet).node.calls
  calls_received id now from (says m) = (keeps_hears id now from m).stays.calls
  calls_received id now from (shows v) = inl (calls_seen join s k id now x (merged k.reading x.view v))

  keeps_acted : (b : Bool) (d e : Acted R L) → Keeps k x d.did → Keeps k x e.did → Keeps k x (cond b d e).did
  keeps_acted true d e h k = h
  keeps_acted false d e h k = k

  keeps_begun : (id : ℕ) → Keeps k x (begin_round join s k id x)
  keeps_begun id =
      let round = round_begun join s k id x in record {
        stays = stays_round join s k id x (record x { rounds = suc x.rounds; lasting = None }) round (record { newest_stays = refl; calls = inl refl });
        posts = starts_posts join s k x round.number round.walks;
      }

  keeps_syncs : (id : ℕ) (o : Option Round) → Keeps k x (syncs join s k id x o).did
  keeps_syncs id (Some round) = record {
    stays = stays_round join s k id x x (walked_anew join s k x round) (record { newest_stays = refl; calls = inl refl });
    posts = starts_posts join s k x round.number (new_walks join s k x round);
  }
  keeps_syncs id None = keeps_acted (may_sync join s k id x.view) _ _ (keeps_begun id) (keeps_self k x)

  posts_items : (items : List (Item R)) → ArePosts (flat_map (item_posts join s k x.view) items)
  posts_items [] = tt
  posts_items (item ∷ items) =
      let p = partition_of s item.row in
      let m : Message R = Store (ForItem item.number) (newest k.reading x.view) p ((bytes_of s item.row, None) ∷ []) in
      all_append _ (item_posts join s k x.view item) _ (posts_to_each L (nodes_of (stored_sets k x.view p)) m) (posts_items items)

  pub keeps_acts : (id now : ℕ) (action : Action) → Keeps k x (acts join s k id now x action).did
  keeps_acts id now RaiseAck = keeps_quiet k x _ (record { newest_stays = refl; calls = inl refl })
  keeps_acts id now GoOn = keeps_syncs id x.round
  keeps_acts id now RaiseSyncAck = keeps_quiet k x _ (record { newest_stays = refl; calls = inl refl })
  keeps_acts id now Clean =
      let v = cleaned k.reading x.view in
      keeps_quiet k x (sees join s k id now x v) (record {
        newest_stays = ap (newest k.reading) (view_seen join s k id now x v) ∙ newest_cleaned k x.view;
        calls = inl (calls_seen join s k id now x v);
      })
  keeps_acts id now Work = record {
    stays = record { newest_stays = refl; calls = inl refl };
    posts = posts_items x.items;
  }
  keeps_acts id now Repair = record {
    stays = record { newest_stays = refl; calls = inl refl };
    posts = starts_posts join s k x (suc x.rounds) (walks_of join s x (other_nodes join s k id) (parts_of join s k id x (layout_at k.reading x.view (newest k.reading x.view)) (layout_at k.reading x.view (newest k.reading x.view))));
  }
  keeps_acts id now Collect = beside_keeps k x _ (collects_beside join s x k id now)

module _ {R L : Type 0} (s : Words R) (k : Layouts L) (kept : List R) (x : Node R L) (c : Call R) where
  -- a call's phase begins
  pub stays_begins : (phase : Phase R) → Stays k x (begins s k kept x c phase).node
  stays_begins (Read table position key) = stays_called k x c _ _
  stays_begins (Scans position prefix after) = stays_called k x c _ _
  stays_begins (Saves rows) = stays_called k x c _ _
  stays_begins (Fetches hash) = stays_called k x c _ _

  pub begins_posts : (phase : Phase R) → ArePosts (begins s k kept x c phase).posts
  begins_posts (Read table position key) = posts_to_each L (set_at k x.view (read_version k.reading x.view) (partition_at position.0)) _
  begins_posts (Scans position prefix after) = posts_to_each L (set_at k x.view (read_version k.reading x.view) (partition_at position.0)) _
  begins_posts (Saves rows) = stores_posts s k x.view c.request (suc c.phases) 0 rows
  begins_posts (Fetches hash) = posts_to_each L (set_at k x.view (read_version k.reading x.view) (partition_at hash.0)) _
