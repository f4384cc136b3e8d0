-- What a node does when a message comes, and by itself.
use Rattle.std.specs.Prelude.{◌≡◌, ℕ, suc, Bool, true, false, not, cond, ◌==◌, nat_lt, Option, Some, None, List, [], ◌∷◌, ◌++◌, map, refl}
use Rattle.std.specs.List.{AllByRecursion}
use Rattle.std.proofs.Common.{sym, subst}
use Rattle.std.proofs.lemmas.Bool.{eqb-true}
use Rattle.std.proofs.lemmas.Slice.Eq.{bytes_eq-Decides}
use Rattle.crdt_core.specs.Members.{Has}
use Rattle.view_model.specs.View.{View, newest, layout_at, read_version, merged, cleaned}
use Rattle.blake2_hash.specs.declared.digest.Hash32.{Hash32}
use Rattle.table_schema.specs.Words.{Words}
use Rattle.table_model.specs.Rows.{row_at}
use Rattle.wire_messages.specs.declared.message.Message.{Message}
use Rattle.wire_messages.specs.declared.message.Message.TheVariants.{Get, Row, Range, Rows, Store, Stored, Behind, NotHere, BlockGet, Block, NoBlock, Walk as AsksValue, Same as HasSame, Differ, Tomb, Tombed, Forget}
use Rattle.wire_messages.specs.declared.message.Tag.{Tag}
use Rattle.wire_messages.specs.declared.message.Tag.TheVariants.{Call as ForCall, Round as ForRound, Item as ForItem}
use Rattle.cluster_machine.specs.declared.step.Action.{Action}
use Rattle.cluster_machine.specs.declared.step.Action.TheVariants.{Ack as RaiseAck, Sync as GoOn, SyncAck as RaiseSyncAck, Clean, Work, Repair, Collect}
use Rattle.cluster_machine.specs.declared.step.LocalEnd.{LocalEnd}
use Rattle.cluster_machine.specs.Layouts.{Layouts, is_given, is_stored}
use Rattle.cluster_machine.specs.Node.{Call, Item, Part, Walk, Round, Mending, Node, Packet, says, shows, Did, quiet}
use Rattle.cluster_machine.specs.Node as machine
use Rattle.walk_model.specs.Walking.{is_open}
use Rattle.cluster_machine.specs.Phases.{call_at, row_came, rows_came, stored_came, block_came, at_call}
use Rattle.cluster_machine.specs.Rows.{same_bytes, block_at, accepts_all}
use Rattle.cluster_machine.specs.Receives.{answers, where_stored, gives_block, takes, compared, compares, walks_on, round_came, is_done, kept_item, item_came, confirms, hears, receives}
use Rattle.cluster_machine.specs.Rounds.{is_complete, walk_at, walks_of, walks_after, found_same, walk_after, asked_after, other_nodes, parts_of, synced, goes_on, may_sync, begin_round, round_walks, mending_walks, at_walk, mending_came, with_mending, with_lasting, late_came, answer_came, new_walks, walked_anew}
use Rattle.cluster_machine.specs.Acts.{Acted, syncs, acts}
use Rattle.machine_origins.proofs.Lists.{all_found}
use Rattle.machine_origins.proofs.Good.{IsFound, Rules, row_found}
use Rattle.machine_origins.proofs.Sound.{for_row, for_block, Asks, AnswersTo, GivesTo, IsMessage, IsPacket, IsCall, IsNode, IsDone, AreBlocks}
use Rattle.machine_origins.proofs.Accepting.{accepts_all_node, sees_node}
use Rattle.machine_origins.proofs.Gathering.{forget_done, tombed_done, tomb_done, collects_done}
use Rattle.machine_origins.proofs.Sending.{items_posts, starts_posts, after_posts}
use Rattle.machine_origins.proofs.FollowingCalls.{found_there}
use Rattle.machine_origins.proofs.Calls.{still, stored_done, block_done, row_done, rows_done}

-- a block that is found has the property of its hash
found_has : (Q : List ℕ → List ℕ → Type 0) (bs : List machine.Block) (hash bytes : List ℕ) → AllByRecursion (λ (b : machine.Block). Q b.hash b.bytes) bs → block_at bs hash ≡ Some bytes → Q hash bytes
found_has Q [] hash bytes a e = cc
found_has Q (b ∷ bs) hash bytes a e =
    elim (same_bytes b.hash hash) as (λ t. same_bytes b.hash hash ≡ t → cond t (Some b.bytes) (block_at bs hash) ≡ Some bytes → Q hash bytes) [
      | true ↦ (λ same f. let is : b.bytes ≡ bytes = cc in subst (λ h. Q h bytes) ((bytes_eq-Decides b.hash hash).0 same) (subst (Q b.hash) is a.0))
      | false ↦ (λ other f. found_has Q bs hash bytes a.1 f)
    ] refl e

module _ {R : Type 0} {join : R → R → R} {s : Words R} {P : R → Type 0} (rules : Rules join s P) (Q : List ℕ → List ℕ → Type 0) {L : Type 0} (k : Layouts L) (g : Asks) (count n : ℕ) where
  abbrev Sound : Node R L → Type 0
  Sound x = IsNode join s P Q g count n x

  goes_done : (x : Node R L) (round : Round) → Sound x → Sound (goes_on join s k n x round)
  goes_done x round i = elim (is_complete round) as (λ b. Sound (cond b (synced join s k n x round) (record x { round = Some round }))) [
    | true ↦ record { accepted = i.accepted; items = i.items; calls = i.calls; collections = i.collections }
    | false ↦ record { accepted = i.accepted; items = i.items; calls = i.calls; collections = i.collections }
  ]

  module _ (x : Node R L) (i : Sound x) where
    abbrev Done : Did R L → Type 0
    Done d = IsDone join s P Q x.calls g count n d

    rests : Done (quiet x)
    rests = still join s P Q count n x.calls g x i

    either : (b : Bool) (d e : Did R L) → Done d → Done e → Done (cond b d e)
    either true d e h f = h
    either false d e h f = f

    answers_done : (y : Node R L) (to : ℕ) (m : Message R) → Sound y → IsMessage join s P Q g n to m → Done (answers y to m)
    answers_done y to m i h = record { node = i; posts = λ e. (h, tt); reads = tt; ends = tt; collects = tt }

    -- ---- a message comes

    gives_found : (to request phase table : ℕ) (key : List ℕ) (row : Option R) → g to request phase ≡ Some (for_row table key) → IsFound s P table key row → IsMessage join s P Q g n to (Row request phase row)
    gives_found to request phase table key None e f = tt
    gives_found to request phase table key (Some r) e f =
        (subst (λ t. g to request phase ≡ Some (for_row t (s.key r))) (sym f.table_is) (subst (λ q. g to request phase ≡ Some (for_row table q)) (sym f.key_is) e), f.good)

    in_call : (request phase : ℕ) (f : Call R → Did R L) (o : Option (Call R)) → call_at x.calls request ≡ o → ((c : Call R) → Has x.calls c → IsCall join s P Q g count n c → c.request ≡ request → c.phases ≡ phase → Done (f c)) → Done (at_call x phase f o)
    in_call request phase f None e h = rests
    in_call request phase f (Some c) e h =
        let found = all_found (IsCall join s P Q g count n) (λ (c : Call R). c.request == request) x.calls c i.calls e in
        elim (c.phases == phase) as (λ b. (c.phases == phase) ≡ b → Done (cond b (f c) (quiet x))) [
          | true ↦ (λ same. h c (found_there x.calls request c e) found.0 (eqb-true c.request request found.1) (eqb-true c.phases phase same))
          | false ↦ (λ other. rests)
        ] refl

    -- what was asked of this phase was asked of that request's
    at_phase : (M : ℕ → ℕ → Type 0) (c : Call R) (request phase : ℕ) → c.request ≡ request → c.phases ≡ phase → M request phase → M c.request c.phases
    at_phase M c request phase r p m = subst (λ q. M q c.phases) (sym r) (subst (λ q. M request q) (sym p) m)

    block_gives : (from request phase : ℕ) (hash : List ℕ) (o : Option (List ℕ)) → AreBlocks join s P Q x.blocks → g from request phase ≡ Some (for_block hash) → block_at x.blocks hash ≡ o → Done (gives_block join s k x from request phase o)
    block_gives from request phase hash None blocks asked e = answers_done x from (NoBlock request phase) i tt
    block_gives from request phase hash (Some bytes) blocks asked e = answers_done x from (Block request phase bytes) i (record { hash = hash; is = asked; has = found_has Q x.blocks hash bytes blocks e })

    here : (from request phase at : ℕ) (d : Did R L) → Done d → Done (where_stored join s k x from request phase at d)
    here from request phase at d h = either (is_stored k x.view at) d _ h (answers_done x from (NotHere (ForCall request phase 0)) i tt)

    takes_done : (now from : ℕ) (tag : Tag) (named p : ℕ) (bs : List (List ℕ × Option (List ℕ))) → IsMessage join s P Q g from n (Store tag named p bs) → Done (takes join s k n now x from tag named p bs)
    takes_done now from tag named p bs m =
        either (nat_lt (newest k.reading x.view) named) _ _ (answers_done x from (Behind tag (newest k.reading x.view)) i tt)
        (either (not (is_given k x.view n p)) _ _ (answers_done x from (NotHere tag) i tt)
        (answers_done (accepts_all join s now x bs) from (Stored tag) (accepts_all_node rules Q g count n now bs x m i) tt))

    round_done : (from number p : ℕ) (o : Option Round) → Done (round_came join s k n x from number p o)
    round_done from number p None = rests
    round_done from number p (Some round) =
        let new : Round = record round { confirmed = round.confirmed ++ record { partition = p; node = from } ∷ [] } in
        either (round.number == number) (quiet (goes_on join s k n x new)) (quiet x) (still join s P Q count n x.calls g (goes_on join s k n x new) (goes_done x new i)) rests

    -- what is asked for a walk, and what is answered
    compared_is : (from : ℕ) (tag : Tag) (p table : ℕ) (prefix : List ℕ) (hash : Hash32) → IsMessage join s P Q g n from (compared join s k x tag p table prefix hash)
    compared_is from tag p table prefix hash =
        elim (same_bytes hash.0 (Rattle.cluster_machine.specs.Rounds.value_here join s x table p prefix).0) as (λ b. IsMessage join s P Q g n from (cond b (HasSame tag table prefix) (Differ tag table prefix (Rattle.cluster_machine.specs.Rounds.children_here join s x table p prefix)))) [ true ↦ tt | false ↦ tt ]

    compares_done : (from : ℕ) (tag : Tag) (named p table : ℕ) (prefix : List ℕ) (hash : Hash32) → Done (compares join s k n x from tag named p table prefix hash)
    compares_done from tag named p table prefix hash =
        either (nat_lt (newest k.reading x.view) named) _ _ (answers_done x from (Behind tag (newest k.reading x.view)) i tt)
        (either (not (is_given k x.view n p)) _ _ (answers_done x from (NotHere tag) i tt)
        (record { node = i; posts = λ e. (compared_is from tag p table prefix hash, tt); reads = tt; ends = tt; collects = tt }))

    at_walk_done : (table : ℕ) (prefix : List ℕ) (f : Walk → Did R L) (o : Option Walk) → ((w : Walk) → Done (f w)) → Done (at_walk join s k x table prefix f o)
    at_walk_done table prefix f None h = rests
    at_walk_done table prefix f (Some w) h = either (is_open table prefix w.state.prefixes) (f w) (quiet x) (h w) rests

    mending_done : (now : Mending → Node R L) (other : Did R L) → ((m : Mending) → Sound (now m)) → Done other → (from number p table : ℕ) (prefix : List ℕ) (answer : Option (List (ℕ × Hash32))) (o : Option Mending) → Done (mending_came join s k x now other from number p table prefix answer o)
    mending_done now other h d from number p table prefix answer None = d
    mending_done now other h d from number p table prefix answer (Some mending) =
        either (mending.number == number) _ _
        (at_walk_done table prefix (mending_walks join s k x now table prefix answer mending) (walk_at p from mending.walks)
        (λ w. record {
          node = h _;
          posts = λ e. after_posts rules Q k g n x mending.number (walk_after join s x w table prefix answer) table (asked_after join s x w.state.partition table prefix answer) i.accepted e;
          reads = tt;
          ends = tt;
          collects = tt;
        }))
        d

    late_done : (from number p table : ℕ) (prefix : List ℕ) (answer : Option (List (ℕ × Hash32))) → Done (late_came join s k x from number p table prefix answer)
    late_done from number p table prefix answer =
        mending_done (with_lasting join s k x) _ (λ m. record { accepted = i.accepted; items = i.items; calls = i.calls; collections = i.collections })
        (mending_done (with_mending join s k x) _ (λ m. record { accepted = i.accepted; items = i.items; calls = i.calls; collections = i.collections }) rests from number p table prefix answer x.mending)
        from number p table prefix answer x.lasting

    walked_done : (table : ℕ) (prefix : List ℕ) (answer : Option (List (ℕ × Hash32))) (round : Round) (w : Walk) → Done (round_walks join s k n x table prefix answer round w)
    walked_done table prefix answer round w =
        let later = walk_after join s x w table prefix answer in
        let now : Round = record round { walks = walks_after later round.walks } in
        record {
          node = elim (found_same later) as (λ b. Sound (cond b (goes_on join s k n x (record now { confirmed = now.confirmed ++ record { partition = w.state.partition; node = w.node } ∷ [] })) (record x { round = Some now }))) [
            | true ↦ goes_done x (record now { confirmed = now.confirmed ++ record { partition = w.state.partition; node = w.node } ∷ [] }) i
            | false ↦ record { accepted = i.accepted; items = i.items; calls = i.calls; collections = i.collections }
          ];
          posts = λ e. after_posts rules Q k g n x round.number later table (asked_after join s x w.state.partition table prefix answer) i.accepted e;
          reads = tt;
          ends = tt;
          collects = tt;
        }

    answered_done : (from number p table : ℕ) (prefix : List ℕ) (answer : Option (List (ℕ × Hash32))) (o : Option Round) → Done (answer_came join s k n x from number p table prefix answer o)
    answered_done from number p table prefix answer None = late_done from number p table prefix answer
    answered_done from number p table prefix answer (Some round) =
        either (round.number == number) _ _
        (at_walk_done table prefix (round_walks join s k n x table prefix answer round) (walk_at p from round.walks) (walked_done table prefix answer round))
        (late_done from number p table prefix answer)

    walks_done : (from : ℕ) (tag : Tag) (table : ℕ) (prefix : List ℕ) (answer : Option (List (ℕ × Hash32))) → Done (walks_on join s k n x from tag table prefix answer)
    walks_done from (ForCall request phase slot) table prefix answer = rests
    walks_done from (ForRound number p) table prefix answer = answered_done from number p table prefix answer x.round
    walks_done from (ForItem number) table prefix answer = rests

    items_came : (v : View L) (from number : ℕ) (items : List (Item R)) → AllByRecursion (λ (item : Item R). P item.row) items → AllByRecursion (λ (item : Item R). P item.row) (item_came join s k v from number items)
    items_came v from number [] a = tt
    items_came v from number (item ∷ items) a =
        let new : Item R = record item { confirmed = item.confirmed ++ from ∷ [] } in
        elim (item.number == number) as (λ b. AllByRecursion (λ (item : Item R). P item.row) (cond b (kept_item join s k v new items) (item ∷ item_came join s k v from number items))) [
          | true ↦ (elim (is_done join s k v new) as (λ b. AllByRecursion (λ (item : Item R). P item.row) (cond b items (new ∷ items))) [ true ↦ a.1 | false ↦ (a.0, a.1) ])
          | false ↦ (a.0, items_came v from number items a.1)
        ]

    confirms_done : (from : ℕ) (tag : Tag) → Done (confirms join s k n x from tag)
    confirms_done from (ForCall request phase slot) = in_call request phase (λ c. stored_came k x c slot from c.present) (call_at x.calls request) refl (λ c there is r p. stored_done join s P Q count n g x c i is k slot from c.present)
    confirms_done from (ForRound number p) = round_done from number p x.round
    confirms_done from (ForItem number) = record { node = record { accepted = i.accepted; items = items_came x.view from number x.items i.items; calls = i.calls; collections = i.collections }; posts = λ e. tt; reads = tt; ends = tt; collects = tt }

    hears_done : (now from : ℕ) (m : Message R) → AreBlocks join s P Q x.blocks → IsMessage join s P Q g from n m → Done (hears join s k n now x from m)
    hears_done now from (Get request phase at table key) bs m =
        let row = row_at join s x.accepted table key in
        here from request phase at _ (record { node = i; posts = λ e. (gives_found from request phase table key row m (row_found rules x.accepted table key i.accepted), tt); reads = tt; ends = tt; collects = tt })
    hears_done now from (Row request phase row) bs m =
        in_call request phase (λ c. row_came join x c from row c.present) (call_at x.calls request) refl
        (λ c there is r p. row_done rules Q count n g x c i is from row c.present is.present (at_phase (λ q f. IsMessage join s P Q g from n (Row q f row)) c request phase r p m))
    hears_done now from (Range request phase at position prefix after) bs m =
        let answer : AnswersTo join s P Q (g from request phase) _ = record { position = position.0; prefix = prefix; after = after; is = m; answer = record { contents = x.accepted; good = i.accepted; found_is = refl } } in
        here from request phase at _ (record { node = i; posts = λ e. (answer, tt); reads = tt; ends = tt; collects = tt })
    hears_done now from (Rows request phase rs more) bs m =
        in_call request phase (λ c. rows_came join s x c from rs more c.present) (call_at x.calls request) refl
        (λ c there is r p. rows_done rules Q count n g x c i is from rs more c.present is.present (at_phase (λ q f. AnswersTo join s P Q (g n q f) (record { rows = rs; more = more })) c request phase r p m))
    hears_done now from (Store tag named p rows) bs m = takes_done now from tag named p rows m
    hears_done now from (Stored tag) bs m = confirms_done from tag
    hears_done now from (Behind tag v) bs m = rests
    hears_done now from (NotHere tag) bs m = rests
    hears_done now from (BlockGet request phase at hash) bs m = here from request phase at _ (block_gives from request phase hash.0 (block_at x.blocks hash.0) bs m refl)
    hears_done now from (Block request phase bytes) bs m =
        in_call request phase (λ c. block_came x c bytes c.present) (call_at x.calls request) refl
        (λ c there is r p. block_done join s P Q count n g x c i is there bytes c.present refl (at_phase (λ q f. GivesTo join s P Q (g n q f) bytes) c request phase r p m))
    hears_done now from (NoBlock request phase) bs m = rests
    hears_done now from (AsksValue tag named p table prefix hash) bs m = compares_done from tag named p table prefix hash
    hears_done now from (HasSame tag table prefix) bs m = walks_done from tag table prefix None
    hears_done now from (Differ tag table prefix pairs) bs m = walks_done from tag table prefix (Some pairs)
    hears_done now from (Tomb number round row) bs m = tomb_done rules Q k g count n x i now from number round row m
    hears_done now from (Tombed number round named) bs m = tombed_done rules Q k g count n x i now from number round named
    hears_done now from (Forget table key hash) bs m = forget_done rules Q k g count n x i table key hash.0 m

    pub receives_done : (now from : ℕ) (p : Packet R L) → AreBlocks join s P Q x.blocks → IsPacket join s P Q g from n p → Done (receives join s k n now x from p)
    receives_done now from (says m) bs h = hears_done now from m bs h
    receives_done now from (shows v) bs h = still join s P Q count n x.calls g _ (sees_node rules Q g count n k now x (merged k.reading x.view v) i)

    -- ---- a node acts

    begin_done : Done (begin_round join s k n x)
    begin_done =
        let at = read_version k.reading x.view in
        let parts = parts_of join s k n x (layout_at k.reading x.view at) (layout_at k.reading x.view (suc at)) in
        let round : Round = record { number = suc x.rounds; target = suc at; parts = parts; confirmed = map (λ (part : Part). record { partition = part.partition; node = n }) parts; walks = walks_of join s x (other_nodes join s k n) parts } in
        record {
          node = goes_done (record x { rounds = suc x.rounds; lasting = None }) round (record { accepted = i.accepted; items = i.items; calls = i.calls; collections = i.collections });
          posts = λ e. starts_posts rules Q k g n x (suc x.rounds) round.walks;
          reads = tt;
          ends = tt;
          collects = tt;
        }

    syncs_done : (o : Option Round) → Done (syncs join s k n x o).did
    syncs_done (Some round) = record {
      node = goes_done x (walked_anew join s k x round) (record { accepted = i.accepted; items = i.items; calls = i.calls; collections = i.collections });
      posts = λ e. starts_posts rules Q k g n x round.number (new_walks join s k x round);
      reads = tt;
      ends = tt;
      collects = tt;
    }
    syncs_done None = by_test (may_sync join s k n x.view) _ _
      where
        by_test : (b : Bool) (how other : LocalEnd) → Done (cond {A = Acted R L} b (record { did = begin_round join s k n x; how = how }) (record { did = quiet x; how = other })).did
        by_test true how other = begin_done
        by_test false how other = rests

    pub acts_done : (now : ℕ) (action : Action) → Done (acts join s k n now x action).did
    acts_done now RaiseAck = record { node = record { accepted = i.accepted; items = i.items; calls = i.calls; collections = i.collections }; posts = λ e. tt; reads = tt; ends = tt; collects = tt }
    acts_done now GoOn = syncs_done x.round
    acts_done now RaiseSyncAck = record { node = record { accepted = i.accepted; items = i.items; calls = i.calls; collections = i.collections }; posts = λ e. tt; reads = tt; ends = tt; collects = tt }
    acts_done now Clean = still join s P Q count n x.calls g _ (sees_node rules Q g count n k now x (cleaned k.reading x.view) i)
    acts_done now Work = record { node = record { accepted = i.accepted; items = i.items; calls = i.calls; collections = i.collections }; posts = λ e. items_posts rules Q k g n x.view x.items i.items e; reads = tt; ends = tt; collects = tt }
    acts_done now Repair =
        let l = layout_at k.reading x.view (newest k.reading x.view) in
        record {
          node = record { accepted = i.accepted; items = i.items; calls = i.calls; collections = i.collections };
          posts = λ e. starts_posts rules Q k g n x (suc x.rounds) (walks_of join s x (other_nodes join s k n) (parts_of join s k n x l l));
          reads = tt;
          ends = tt;
          collects = tt;
        }
    acts_done now Collect = collects_done rules Q k g count n x i now
