-- In a run without `collect` no message is about collections, and nothing is collected.
use Rattle.std.specs.Prelude.{◌≡◌, ℕ, suc, Bool, true, false, not, cond, ◌&&◌, ◌==◌, leb, nat_lt, List, [], ◌∷◌, ◌++◌, Option, Some, None, map, refl, ⊤}
use Rattle.std.specs.List.{AllByRecursion, flat_map, filter}
use Rattle.std.proofs.Common.{ap, ◌∙◌}
use Rattle.blake2_hash.specs.declared.digest.Hash32.{Hash32}
use Rattle.view_model.specs.View.{View, newest, read_version, layout_at}
use Rattle.layout_roles.specs.declared.role.Role.{Role}
use Rattle.table_schema.specs.Words.{Words, partition_of}
use Rattle.quorum_model.specs.declared.range.RangeAnswer.{RangeAnswer}
use Rattle.quorum_model.specs.Quorum.{StoreSlot, with_confirmation}
use Rattle.quorum_model.specs.Window.{Window}
use Rattle.wire_messages.specs.declared.message.Message.{Message}
use Rattle.wire_messages.specs.declared.message.Message.TheVariants.{Get, Row, Range, Rows, Store, Stored, Behind, NotHere, BlockGet, Block, NoBlock, Walk as AsksValue, Same as HasSame, Differ, Tomb, Tombed, Forget}
use Rattle.wire_messages.specs.declared.message.Tag.{Tag}
use Rattle.wire_messages.specs.declared.message.Tag.TheVariants.{Call as ForCall, Round as ForRound, Item as ForItem}
use Rattle.wire_messages.specs.declared.phase.Phase.{Phase}
use Rattle.wire_messages.specs.declared.phase.Phase.TheVariants.{Read, Range as Scans, Store as Keeps, Block as Fetches}
use Rattle.cluster_machine.specs.declared.step.Step.{Step}
use Rattle.cluster_machine.specs.declared.step.Step.TheVariants.{Trio, Role as Stage, Redundancy as Spread, Apply, Tick, Skew, Deliver, Lose, Expire, Restart, Gossip, Ack, Sync as Syncs, SyncAck, Clean, Work, Repair, Collect, Open, Phase as Begin, Close}
use Rattle.cluster_machine.specs.declared.step.Action.{Action}
use Rattle.cluster_machine.specs.declared.step.Action.TheVariants.{Ack as RaiseAck, Sync as GoOn, SyncAck as RaiseSyncAck, Clean as CleanUp, Work as WorkOff, Repair as Mend}
use Rattle.cluster_machine.specs.declared.step.LocalEnd.{LocalEnd}
use Rattle.cluster_machine.specs.declared.step.Refusal.{Refusal}
use Rattle.cluster_machine.specs.declared.step.Refusal.TheVariants.{VersionTaken, VersionLimit, NotMember, NoSuchMessage, Lost, NoSuchRequest, AlreadyEnded}
use Rattle.cluster_machine.specs.Layouts.{Layouts, stored_sets, is_given, is_stored, is_member, has_none}
use Rattle.cluster_machine.specs.Node.{Question, Scan, Present, resting, asking, scanning, storing, fetching, Call, Item, Walk, Round, Mending, Node, Packet, says, shows, Post, Did, quiet}
use Rattle.cluster_machine.specs.Rows.{same_bytes, block_at}
use Rattle.cluster_machine.specs.Phases.{nodes_of, to_each, call_at, asked, looked, stored, bytes_of, stores, begins, value_after, row_came, rows_came, stored_came, block_came, at_call}
use Rattle.cluster_machine.specs.Rounds.{walk_at, has_ended, rows_at, value_here, children_here, asked_after, walk_after, asks_at, first_asks, starts, pushes_rows, sends_after, other_nodes, parts_of, walks_of, may_sync, begin_round, new_walks, at_walk, mending_came, with_mending, with_lasting, late_came, answer_came}
use Rattle.walk_model.specs.Walking.{is_open}
use Rattle.walk_model.specs.Noting.{is_noted}
use Rattle.cluster_machine.specs.Receives.{answers, where_stored, gives_block, takes, compares, walks_on, round_came, confirms, hears, receives}
use Rattle.cluster_machine.specs.Acts.{Acted, item_posts, syncs, acts}
use Rattle.cluster_machine.specs.World.{Sent, Mark, Request, World, numbered, clock, empty}
use Rattle.cluster_machine.specs.Step.{most_versions, Choice, given, none_given, Effects, nothing, refusal, did, sent_by, received, at_message, expires, closing, chosen, applies_at, acting, begun, beginning, effects}
use Rattle.cluster_machine.specs.Run.{Move, next, run}
use Rattle.machine_laws.proofs.Runs.{all_numbered}
use Rattle.machine_laws.proofs.Same.{asked_set}
use Rattle.machine_collects.specs.Without.{IsOther, AreOther, IsBare}
use Rattle.crdt_core.proofs.Each.{all_append}

module _ {R L : Type 0} where
  abbrev pub AreBare : List (Post R L) → Type 0
  AreBare posts = AllByRecursion (λ (p : Post R L). IsBare p.packet) posts

  -- nothing that is sent is about collections, and nothing is collected
  pub record Bare (d : Did R L) : Type 0 where
    pub posts : AreBare d.posts
    pub collects : d.collects ≡ []

  bare_quiet : (x : Node R L) → Bare (quiet x)
  bare_quiet x = record { posts = tt; collects = refl }

  bare_cond : (b : Bool) (d e : Did R L) → Bare d → Bare e → Bare (cond b d e)
  bare_cond true d e h i = h
  bare_cond false d e h i = i

  bare_answers : (x : Node R L) (to : ℕ) (m : Message R) → IsBare {L = L} (says m) → Bare (answers x to m)
  bare_answers x to m h = record { posts = (h, tt); collects = refl }

  abbrev pub AreBareSent : List (Sent R L) → Type 0
  AreBareSent sent = AllByRecursion (λ (x : Sent R L). IsBare x.packet) sent

  bare_at_call : (x : Node R L) (phase : ℕ) (f : Call R → Did R L) (o : Option (Call R)) → ((c : Call R) → Bare (f c)) → Bare (at_call x phase f o)
  bare_at_call x phase f None h = bare_quiet x
  bare_at_call x phase f (Some c) h = bare_cond (c.phases == phase) (f c) (quiet x) (h c) (bare_quiet x)

  bare_asked : (x : Node R L) (c : Call R) (q : Question R) (as' : List (ℕ × Option R)) (a : ℕ × Option R) (value : Option (Option R)) → Bare (asked x c q as' a value)
  bare_asked x c q as' a None = record { posts = tt; collects = refl }
  bare_asked x c q as' a (Some value) = record { posts = tt; collects = refl }

  bare_looked : (x : Node R L) (c : Call R) (q : Scan R) (as' : List (ℕ × RangeAnswer R)) (a : ℕ × RangeAnswer R) (w : Option (Window R)) → Bare (looked x c q as' a w)
  bare_looked x c q as' a None = record { posts = tt; collects = refl }
  bare_looked x c q as' a (Some w) = record { posts = tt; collects = refl }

  bare_stored : (x : Node R L) (c : Call R) (rs : List R) (slots : List StoreSlot) (b : Bool) → Bare (stored x c rs slots b)
  bare_stored x c rs slots false = record { posts = tt; collects = refl }
  bare_stored x c rs slots true = record { posts = tt; collects = refl }

  bare_block : (x : Node R L) (c : Call R) (bytes : List ℕ) (p : Present R) → Bare (block_came x c bytes p)
  bare_block x c bytes resting = bare_quiet x
  bare_block x c bytes (asking q as') = bare_quiet x
  bare_block x c bytes (scanning q as') = bare_quiet x
  bare_block x c bytes (storing rs slots) = bare_quiet x
  bare_block x c bytes (fetching hash) = record { posts = tt; collects = refl }

bare_each : {R : Type 0} (L : Type 0) (nodes : List ℕ) (m : Message R) → IsBare {R = R} {L = L} (says m) → AreBare {R = R} {L = L} (to_each nodes m)
bare_each L [] m h = tt
bare_each L (n ∷ nodes) m h = (h, bare_each L nodes m h)

module _ {R L : Type 0} (join : R → R → R) (s : Words R) (k : Layouts L) where
  bare_row : (x : Node R L) (c : Call R) (from : ℕ) (row : Option R) (p : Present R) → Bare (row_came join x c from row p)
  bare_row x c from row resting = bare_quiet x
  bare_row x c from row (asking q as') = bare_asked x c q as' (from, row) (value_after join q as' (from, row))
  bare_row x c from row (scanning q as') = bare_quiet x
  bare_row x c from row (storing rs slots) = bare_quiet x
  bare_row x c from row (fetching hash) = bare_quiet x

  bare_rows : (x : Node R L) (c : Call R) (from : ℕ) (rs : List R) (more : Bool) (p : Present R) → Bare (rows_came join s x c from rs more p)
  bare_rows x c from rs more resting = bare_quiet x
  bare_rows x c from rs more (asking q as') = bare_quiet x
  bare_rows x c from rs more (scanning q as') = bare_looked x c q as' _ _
  bare_rows x c from rs more (storing rs' slots) = bare_quiet x
  bare_rows x c from rs more (fetching hash) = bare_quiet x

  bare_confirmed : (x : Node R L) (c : Call R) (slot from : ℕ) (p : Present R) → Bare (stored_came k x c slot from p)
  bare_confirmed x c slot from resting = bare_quiet x
  bare_confirmed x c slot from (asking q as') = bare_quiet x
  bare_confirmed x c slot from (scanning q as') = bare_quiet x
  bare_confirmed x c slot from (storing rs slots) = bare_stored x c rs (with_confirmation slots slot from) _
  bare_confirmed x c slot from (fetching hash) = bare_quiet x

  bare_takes : (id now : ℕ) (x : Node R L) (from : ℕ) (tag : Tag) (named p : ℕ) (rs : List (List ℕ × Option (List ℕ))) → Bare (takes join s k id now x from tag named p rs)
  bare_takes id now x from tag named p rs =
      bare_cond (nat_lt (newest k.reading x.view) named) _ _ (bare_answers x from _ tt)
      (bare_cond (not (is_given k x.view id p)) _ _ (bare_answers x from _ tt) (bare_answers _ from _ tt))

  bare_where : (x : Node R L) (from request phase at : ℕ) (d : Did R L) → Bare d → Bare (where_stored join s k x from request phase at d)
  bare_where x from request phase at d h = bare_cond (is_stored k x.view at) d _ h (bare_answers x from _ tt)

  bare_gives : (x : Node R L) (from request phase : ℕ) (b : Option (List ℕ)) → Bare (gives_block join s k x from request phase b)
  bare_gives x from request phase None = bare_answers x from _ tt
  bare_gives x from request phase (Some bytes) = bare_answers x from _ tt

  bare_round : (id : ℕ) (x : Node R L) (from number p : ℕ) (o : Option Round) → Bare (round_came join s k id x from number p o)
  bare_round id x from number p None = bare_quiet x
  bare_round id x from number p (Some round) = bare_cond (round.number == number) _ _ (bare_quiet _) (bare_quiet x)

  bare_confirms : (id : ℕ) (x : Node R L) (from : ℕ) (tag : Tag) → Bare (confirms join s k id x from tag)
  bare_confirms id x from (ForCall request phase slot) = bare_at_call x phase _ (call_at x.calls request) (λ c. bare_confirmed x c slot from c.present)
  bare_confirms id x from (ForRound number p) = bare_round id x from number p x.round
  bare_confirms id x from (ForItem number) = bare_quiet _

  bare_pushes_rows : (x : Node R L) (number p : ℕ) (nodes : List ℕ) (rs : List R) → AreBare (pushes_rows join s k x number p nodes rs)
  bare_pushes_rows x number p nodes [] = tt
  bare_pushes_rows x number p nodes (r ∷ rs) = bare_each L nodes _ tt

  bare_map : {X : Type 0} (f : X → Post R L) → ((x : X) → IsBare (f x).packet) → (xs : List X) → AreBare (map f xs)
  bare_map f h [] = tt
  bare_map f h (x ∷ xs) = (h x, bare_map f h xs)

  bare_starts : (x : Node R L) (number : ℕ) (walks : List Walk) → AreBare (starts join s k x number walks)
  bare_starts x number [] = tt
  bare_starts x number (u ∷ walks) =
      all_append _ (first_asks join s k x number u) (starts join s k x number walks) (bare_map (λ o. asks_at join s k x number u.state.partition u.node o.0 o.1) (λ o. tt) u.state.prefixes) (bare_starts x number walks)

  -- what a node does for a walk after an answer
  bare_sends : (x : Node R L) (number : ℕ) (u : Walk) (table : ℕ) (asked : List (List ℕ)) → AreBare (sends_after join s k x number u table asked)
  bare_sends x number u table asked =
      let p = u.state.partition in
      elim (has_ended u) as (λ b. AreBare (cond b (pushes_rows join s k x number p (u.node ∷ []) (filter (is_noted s u.state.noted) (rows_at join s x p))) (map (asks_at join s k x number p u.node table) asked))) [
        | true ↦ bare_pushes_rows x number p (u.node ∷ []) (filter (is_noted s u.state.noted) (rows_at join s x p))
        | false ↦ bare_map (asks_at join s k x number p u.node table) (λ o. tt) asked
      ]

  bare_walk : (x : Node R L) (table : ℕ) (prefix : List ℕ) (f : Walk → Did R L) → ((u : Walk) → Bare (f u)) → (o : Option Walk) → Bare (at_walk join s k x table prefix f o)
  bare_walk x table prefix f h None = bare_quiet x
  bare_walk x table prefix f h (Some u) = bare_cond (is_open table prefix u.state.prefixes) (f u) (quiet x) (h u) (bare_quiet x)

  bare_mending : (x : Node R L) (then : Mending → Node R L) (other : Did R L) → Bare other → (from number p table : ℕ) (prefix : List ℕ) (answer : Option (List (ℕ × Hash32))) (o : Option Mending) → Bare (mending_came join s k x then other from number p table prefix answer o)
  bare_mending x then other h from number p table prefix answer None = h
  bare_mending x then other h from number p table prefix answer (Some mending) =
      bare_cond (mending.number == number) _ other (bare_walk x table prefix _ (λ u. record { posts = bare_sends x mending.number (walk_after join s x u table prefix answer) table (asked_after join s x u.state.partition table prefix answer); collects = refl }) (walk_at p from mending.walks)) h

  bare_late : (x : Node R L) (from number p table : ℕ) (prefix : List ℕ) (answer : Option (List (ℕ × Hash32))) → Bare (late_came join s k x from number p table prefix answer)
  bare_late x from number p table prefix answer =
      bare_mending x (with_lasting join s k x) _ (bare_mending x (with_mending join s k x) (quiet x) (bare_quiet x) from number p table prefix answer x.mending) from number p table prefix answer x.lasting

  bare_answer : (id : ℕ) (x : Node R L) (from number p table : ℕ) (prefix : List ℕ) (answer : Option (List (ℕ × Hash32))) (o : Option Round) → Bare (answer_came join s k id x from number p table prefix answer o)
  bare_answer id x from number p table prefix answer None = bare_late x from number p table prefix answer
  bare_answer id x from number p table prefix answer (Some round) =
      bare_cond (round.number == number) _ _ (bare_walk x table prefix _ (λ u. record { posts = bare_sends x round.number (walk_after join s x u table prefix answer) table (asked_after join s x u.state.partition table prefix answer); collects = refl }) (walk_at p from round.walks)) (bare_late x from number p table prefix answer)

  bare_walks : (id : ℕ) (x : Node R L) (from : ℕ) (tag : Tag) (table : ℕ) (prefix : List ℕ) (answer : Option (List (ℕ × Hash32))) → Bare (walks_on join s k id x from tag table prefix answer)
  bare_walks id x from (ForCall request phase slot) table prefix answer = bare_quiet x
  bare_walks id x from (ForRound number p) table prefix answer = bare_answer id x from number p table prefix answer x.round
  bare_walks id x from (ForItem number) table prefix answer = bare_quiet x

  bare_compares : (id : ℕ) (x : Node R L) (from : ℕ) (tag : Tag) (named p table : ℕ) (prefix : List ℕ) (hash : Hash32) → Bare (compares join s k id x from tag named p table prefix hash)
  bare_compares id x from tag named p table prefix hash =
      bare_cond (nat_lt (newest k.reading x.view) named) _ _ (bare_answers x from _ tt)
      (bare_cond (not (is_given k x.view id p)) _ _ (bare_answers x from _ tt) (record {
        posts = (elim (same_bytes hash.0 (value_here join s x table p prefix).0) as (λ b. IsBare {R = R} {L = L} (says (cond b (HasSame tag table prefix) (Differ tag table prefix (children_here join s x table p prefix))))) [ true ↦ tt | false ↦ tt ], tt);
        collects = refl;
      }))

  bare_hears : (id now : ℕ) (x : Node R L) (from : ℕ) (m : Message R) → IsBare {L = L} (says m) → Bare (hears join s k id now x from m)
  bare_hears id now x from (Get request phase at table key) q = bare_where x from request phase at _ (record { posts = (tt, tt); collects = refl })
  bare_hears id now x from (Row request phase row) q = bare_at_call x phase _ (call_at x.calls request) (λ c. bare_row x c from row c.present)
  bare_hears id now x from (Range request phase at bucket prefix after) q = bare_where x from request phase at _ (record { posts = (tt, tt); collects = refl })
  bare_hears id now x from (Rows request phase found more) q = bare_at_call x phase _ (call_at x.calls request) (λ c. bare_rows x c from found more c.present)
  bare_hears id now x from (Store tag named p rs) q = bare_takes id now x from tag named p rs
  bare_hears id now x from (Stored tag) q = bare_confirms id x from tag
  bare_hears id now x from (Behind tag v) q = bare_quiet x
  bare_hears id now x from (NotHere tag) q = bare_quiet x
  bare_hears id now x from (BlockGet request phase at hash) q = bare_where x from request phase at _ (bare_gives x from request phase (block_at x.blocks hash.0))
  bare_hears id now x from (Block request phase bytes) q = bare_at_call x phase _ (call_at x.calls request) (λ c. bare_block x c bytes c.present)
  bare_hears id now x from (NoBlock request phase) q = bare_quiet x
  bare_hears id now x from (AsksValue tag named p table prefix hash) q = bare_compares id x from tag named p table prefix hash
  bare_hears id now x from (HasSame tag table prefix) q = bare_walks id x from tag table prefix None
  bare_hears id now x from (Differ tag table prefix pairs) q = bare_walks id x from tag table prefix (Some pairs)
  bare_hears id now x from (Tomb number round row) q = absurd q
  bare_hears id now x from (Tombed number round named) q = absurd q
  bare_hears id now x from (Forget table key hash) q = absurd q

  bare_receives : (id now : ℕ) (x : Node R L) (from : ℕ) (p : Packet R L) → IsBare p → Bare (receives join s k id now x from p)
  bare_receives id now x from (says m) q = bare_hears id now x from m q
  bare_receives id now x from (shows v) q = bare_quiet _

  bare_stores : (v : View L) (request phase slot : ℕ) (rs : List (R × Option (List ℕ))) → AreBare (stores s k v request phase slot rs)
  bare_stores v request phase slot [] = tt
  bare_stores v request phase slot (r ∷ rs) =
      all_append _ (to_each _ _) (stores s k v request phase (suc slot) rs)
      (bare_each L (nodes_of (stored_sets k v (partition_of s r.0))) (Store (ForCall request phase slot) (newest k.reading v) (partition_of s r.0) ((bytes_of s r.0, r.1) ∷ [])) tt)
      (bare_stores v request phase (suc slot) rs)

  bare_begins : (kept : List R) (x : Node R L) (c : Call R) (p : Phase R) → Bare (begins s k kept x c p)
  bare_begins kept x c (Read table position key) = record { posts = bare_each L (asked_set join s k x position.0) (Get c.request (suc c.phases) (read_version k.reading x.view) table key) tt; collects = refl }
  bare_begins kept x c (Scans position prefix after) = record { posts = bare_each L (asked_set join s k x position.0) (Range c.request (suc c.phases) (read_version k.reading x.view) position prefix after) tt; collects = refl }
  bare_begins kept x c (Keeps rs) = record { posts = bare_stores x.view c.request (suc c.phases) 0 rs; collects = refl }
  bare_begins kept x c (Fetches hash) = record { posts = bare_each L (asked_set join s k x hash.0) (BlockGet c.request (suc c.phases) (read_version k.reading x.view) hash) tt; collects = refl }

  bare_items : (v : View L) (items : List (Item R)) → AreBare (flat_map (item_posts join s k v) items)
  bare_items v [] = tt
  bare_items v (item ∷ items) =
      all_append _ (item_posts join s k v item) (flat_map (item_posts join s k v) items)
      (bare_each L (nodes_of (stored_sets k v (partition_of s item.row))) (Store (ForItem item.number) (newest k.reading v) (partition_of s item.row) ((bytes_of s item.row, None) ∷ [])) tt)
      (bare_items v items)

  bare_syncs : (id : ℕ) (x : Node R L) (o : Option Round) → Bare (syncs join s k id x o).did
  bare_syncs id x (Some round) = record { posts = bare_starts x round.number (new_walks join s k x round); collects = refl }
  bare_syncs id x None = by_test (may_sync join s k id x.view) _ _
    where
      by_test : (b : Bool) (how other : LocalEnd) → Bare (cond {A = Acted R L} b (record { did = begin_round join s k id x; how = how }) (record { did = quiet x; how = other })).did
      by_test true how other =
          let at = read_version k.reading x.view in
          let parts = parts_of join s k id x (layout_at k.reading x.view at) (layout_at k.reading x.view (suc at)) in
          record { posts = bare_starts x (suc x.rounds) (walks_of join s x (other_nodes join s k id) parts); collects = refl }
      by_test false how other = bare_quiet x

  -- an action that isn't to collect
  abbrev IsAlso : Action → Type 0
  IsAlso Rattle.cluster_machine.specs.declared.step.Action.TheVariants.Collect = ⊥
  IsAlso _ = ⊤

  bare_acts : (id now : ℕ) (x : Node R L) (a : Action) → IsAlso a → Bare (acts join s k id now x a).did
  bare_acts id now x RaiseAck q = record { posts = tt; collects = refl }
  bare_acts id now x GoOn q = bare_syncs id x x.round
  bare_acts id now x RaiseSyncAck q = record { posts = tt; collects = refl }
  bare_acts id now x CleanUp q = record { posts = tt; collects = refl }
  bare_acts id now x WorkOff q = record { posts = bare_items x.view x.items; collects = refl }
  bare_acts id now x Mend q =
      let l = layout_at k.reading x.view (newest k.reading x.view) in
      record { posts = bare_starts x (suc x.rounds) (walks_of join s x (other_nodes join s k id) (parts_of join s k id x l l)); collects = refl }
  bare_acts id now x Rattle.cluster_machine.specs.declared.step.Action.TheVariants.Collect q = absurd q

module _ {R L : Type 0} where
  bare_sent : (w : World R L) (n : ℕ) (posts : List (Post R L)) → AreBare posts → AreBareSent (sent_by w n posts)
  bare_sent w n [] a = tt
  bare_sent w n (p ∷ posts) a = (a.0, bare_sent w n posts a.1)

  -- no message is about collections, and nothing was collected
  pub record IsUncollected (w : World R L) : Type 0 where
    pub messages : AreBareSent w.messages
    pub collected : w.collected ≡ []

module _ {R L A C : Type 0} (join : R → R → R) (s : Words R) (k : Layouts L) (trio : L) (trio_roles : List Role → List Role) where
  -- nothing is sent about collections, and nothing is collected
  pub record BareStep (e : Effects R L A C) : Type 0 where
    pub sends : AreBareSent e.sends
    pub collects : e.collects ≡ []

  bare_did : (w : World R L) (n : ℕ) (d : Did R L) → Bare d → BareStep (did w n d)
  bare_did w n d h = record { sends = bare_sent w n d.posts h.posts; collects = h.collects }

  bare_refusal : (w : World R L) (r : Refusal C) → BareStep (refusal w r)
  bare_refusal w r = record { sends = tt; collects = refl }

  bare_nothing : (w : World R L) → BareStep (nothing w)
  bare_nothing w = record { sends = tt; collects = refl }

  bare_either : (b : Bool) (d e : Effects R L A C) → BareStep d → BareStep e → BareStep (cond b d e)
  bare_either true d e h i = h
  bare_either false d e h i = i

  bare_received : (m : ℕ) (e : Effects R L A C) → BareStep e → BareStep (received m e)
  bare_received m e h = record { sends = h.sends; collects = h.collects }

  bare_message : (w : World R L) (f : Sent R L → Effects R L A C) (o : Option (Sent R L)) (mark : Option Mark) → ((x : Sent R L) → o ≡ Some x → BareStep (f x)) → BareStep (at_message w f o mark)
  bare_message w f None mark h = bare_refusal w NoSuchMessage
  bare_message w f (Some x) None h = bare_refusal w NoSuchMessage
  bare_message w f (Some x) (Some mark) h = bare_either mark.is_lost _ _ (bare_refusal w Lost) (h x refl)

  bare_expires : (w : World R L) (q : ℕ) (o : Option Request) → BareStep (expires w q o)
  bare_expires w q None = bare_refusal w NoSuchRequest
  bare_expires w q (Some r) = bare_either r.is_open _ _ (record { sends = tt; collects = refl }) (bare_refusal w AlreadyEnded)

  bare_closing : (w : World R L) (q : ℕ) (o : Option Request) → BareStep (closing w q o)
  bare_closing w q None = bare_nothing w
  bare_closing w q (Some r) = bare_either r.is_open _ _ (record { sends = tt; collects = refl }) (bare_nothing w)

  bare_chosen : (w : World R L) (n v : ℕ) (choice : Choice L A C) → BareStep (chosen join s k trio trio_roles w n v choice)
  bare_chosen w n v (none_given r) = bare_refusal w r
  bare_chosen w n v (given l shown) = record { sends = tt; collects = refl }

  bare_applies : (w : World R L) (n : ℕ) (choice : Choice L A C) → BareStep (applies_at join s k trio trio_roles w n choice)
  bare_applies w n choice =
      let after = suc (newest k.reading (w.nodes n).view) in
      bare_either (leb 1 w.applied && not (is_member k (w.nodes n).view n)) _ _ (bare_refusal w NotMember)
      (bare_either (leb after w.applied) _ _ (bare_refusal w (VersionTaken after))
      (bare_either (leb most_versions w.applied) _ _ (bare_refusal w VersionLimit) (bare_chosen w n after choice)))

  pub bare_acting : (w : World R L) (n : ℕ) (b : Bool) (a : Acted R L) → Bare a.did → BareStep (acting join s k trio trio_roles w n b a)
  bare_acting w n b a h = bare_either b _ _ (bare_refusal w NotMember) (record { sends = bare_sent w n a.did.posts h.posts; collects = h.collects })

  bare_begun : (w : World R L) (n : ℕ) (p : Phase R) (o : Option (Call R)) → BareStep (begun join s k trio trio_roles w n p o)
  bare_begun w n p None = bare_nothing w
  bare_begun w n p (Some c) = bare_did w n _ (bare_begins join s k w.kept (w.nodes n) c p)

  bare_beginning : (w : World R L) (q : ℕ) (p : Phase R) (o : Option Request) → BareStep (beginning join s k trio trio_roles w q p o)
  bare_beginning w q p None = bare_nothing w
  bare_beginning w q p (Some r) = bare_either r.is_open _ _ (bare_begun w r.coordinator p (call_at (w.nodes r.coordinator).calls q)) (bare_nothing w)

  pub bare_effects : (w : World R L) (step : Step R) (choice : Choice L A C) → AreBareSent w.messages → IsOther step → BareStep (effects join s k trio trio_roles w step choice)
  bare_effects w Trio choice a i = bare_either (leb 1 w.applied) _ _ (bare_refusal w (VersionTaken 1)) (record { sends = tt; collects = refl })
  bare_effects w (Stage n role) choice a i = record { sends = tt; collects = refl }
  bare_effects w (Spread r) choice a i = record { sends = tt; collects = refl }
  bare_effects w (Apply n) choice a i = bare_applies w n choice
  bare_effects w (Tick ms) choice a i = record { sends = tt; collects = refl }
  bare_effects w (Skew n ms) choice a i = record { sends = tt; collects = refl }
  bare_effects w (Deliver m) choice a i =
      bare_message w _ (numbered w.messages m) (numbered w.marks m)
      (λ x e. bare_received m _ (bare_did w x.to _ (bare_receives join s k x.to (clock w x.to) (w.nodes x.to) x.from x.packet (all_numbered (λ (x : Sent R L). IsBare x.packet) w.messages m x a e))))
  bare_effects w (Lose m) choice a i = bare_message w _ (numbered w.messages m) (numbered w.marks m) (λ x e. record { sends = tt; collects = refl })
  bare_effects w (Expire q) choice a i = bare_expires w q (numbered w.requests q)
  bare_effects w (Restart n) choice a i = record { sends = tt; collects = refl }
  bare_effects w (Gossip from to) choice a i = record { sends = (tt, tt); collects = refl }
  bare_effects w (Ack n) choice a i = bare_acting w n (has_none k (w.nodes n).view) (acts join s k n (clock w n) (w.nodes n) RaiseAck) (bare_acts join s k n (clock w n) (w.nodes n) RaiseAck tt)
  bare_effects w (Syncs n) choice a i = bare_acting w n (has_none k (w.nodes n).view) (acts join s k n (clock w n) (w.nodes n) GoOn) (bare_acts join s k n (clock w n) (w.nodes n) GoOn tt)
  bare_effects w (SyncAck n) choice a i = bare_acting w n (has_none k (w.nodes n).view) (acts join s k n (clock w n) (w.nodes n) RaiseSyncAck) (bare_acts join s k n (clock w n) (w.nodes n) RaiseSyncAck tt)
  bare_effects w (Clean n) choice a i = bare_acting w n (has_none k (w.nodes n).view) (acts join s k n (clock w n) (w.nodes n) CleanUp) (bare_acts join s k n (clock w n) (w.nodes n) CleanUp tt)
  bare_effects w (Work n) choice a i = bare_acting w n (has_none k (w.nodes n).view) (acts join s k n (clock w n) (w.nodes n) WorkOff) (bare_acts join s k n (clock w n) (w.nodes n) WorkOff tt)
  bare_effects w (Repair n) choice a i = bare_acting w n (not (is_member k (w.nodes n).view n)) (acts join s k n (clock w n) (w.nodes n) Mend) (bare_acts join s k n (clock w n) (w.nodes n) Mend tt)
  bare_effects w (Collect n) choice a i = absurd i
  bare_effects w (Open n) choice a i = bare_either (is_member k (w.nodes n).view n) _ _ (record { sends = tt; collects = refl }) (bare_refusal w NotMember)
  bare_effects w (Begin q p) choice a i = bare_beginning w q p (numbered w.requests q)
  bare_effects w (Close q) choice a i = bare_closing w q (numbered w.requests q)

  pub uncollected_run : (w : World R L) (moves : List (Move R L A C)) → AreOther moves → IsUncollected w → IsUncollected (run join s k trio trio_roles w moves)
  uncollected_run w [] o i = i
  uncollected_run w (m ∷ moves) o i =
      let e = effects join s k trio trio_roles w m.step m.choice in
      let b = bare_effects w m.step m.choice i.messages o.0 in
      uncollected_run (next join s k trio trio_roles w m) moves o.1 (record {
        messages = all_append _ w.messages e.sends i.messages b.sends;
        collected = ap (λ rs. rs ++ w.collected) b.collects ∙ i.collected;
      })

  pub uncollected : (moves : List (Move R L A C)) → AreOther moves → IsUncollected (run join s k trio trio_roles empty moves)
  uncollected moves o = uncollected_run empty moves o (record { messages = tt; collected = refl })
