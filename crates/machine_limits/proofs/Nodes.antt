-- What a node's counts are after each of its steps, and that all that it sends has a spelling and counts few bytes.
use Rattle.std.specs.Prelude.{◌≡◌, ◌≤◌, ◌+◌, ◌*◌, ℕ, suc, Bool, true, false, ◌==◌, ◌&&◌, leb, nat_lt, not, cond, if◌then◌else◌, List, [], ◌∷◌, ◌++◌, Option, Some, None, option_map, length, map, sum_by, take, refl, ⊤}
use Rattle.std.specs.List.{AllByRecursion, filter, flat_map, list_all}
use Rattle.std.proofs.Common.{ap, sym, subst, ◌∙◌, inl, inr, length-append, arith}
use Rattle.std.proofs.lemmas.Bool.{cases_lt}
use Rattle.std.proofs.lemmas.List.Recursion.{is_sum_by}
use Rattle.crdt_core.specs.EntryLaws.{and_both}
use Rattle.crdt_core.specs.Order.{option_join}
use Rattle.crdt_core.proofs.Each.{all_append, all_weaker}
use Rattle.blake2_hash.specs.Blake2b.{blake2b}
use Rattle.blake2_hash.specs.declared.digest.Hash32.{Hash32}
use Rattle.layout_roles.specs.declared.layout.Layout.{Layout}
use Rattle.view_model.specs.View.{View, newest, oldest, layout_at, read_version, cleaned, merged}
use Rattle.table_model.specs.Rows.{row_at, rows as rows_of, range, is_past}
use Rattle.gc_model.specs.declared.collection.Collection.{Collection}
use Rattle.gc_model.specs.declared.collection.GcEnd.{GcEnd}
use Rattle.gc_model.specs.declared.collection.GcEnd.TheVariants.{Wait, Closed, Complete}
use Rattle.gc_model.specs.Rounds.{is_closed}
use Rattle.gc_model.specs.Collecting.{Open, numbered, closed, changed, told, answer_end, answered}
use Rattle.quorum_model.specs.declared.range.RangeAnswer.{RangeAnswer}
use Rattle.quorum_model.specs.Answers.{first_two_at}
use Rattle.quorum_model.specs.Quorum.{is_among, StoreSlot, is_kept, with_confirmation}
use Rattle.quorum_model.specs.Window.{Window}
use Rattle.wire_messages.specs.Size.{plus, block_length, stored_length, size}
use Rattle.walk_model.specs.Walking.{is_open}
use Rattle.wire_messages.specs.declared.message.Message.{Message}
use Rattle.wire_messages.specs.declared.message.Message.TheVariants.{Get, Row, Range, Rows, Store, Stored, Behind, NotHere, BlockGet, Block, NoBlock, Walk as AsksValue, Same as HasSame, Differ, Tomb, Tombed, Forget}
use Rattle.wire_messages.specs.declared.message.Tag.{Tag}
use Rattle.wire_messages.specs.declared.message.Tag.TheVariants.{Call as ForCall, Round as ForRound, Item as ForItem}
use Rattle.wire_messages.specs.declared.phase.Phase.{Phase}
use Rattle.wire_messages.specs.declared.phase.Phase.TheVariants.{Read, Range as Scans, Store as Keeps, Block as Fetches}
use Rattle.cluster_machine.specs.declared.step.Action.{Action}
use Rattle.cluster_machine.specs.declared.step.Action.TheVariants.{Ack as RaiseAck, Sync as GoOn, SyncAck as RaiseSyncAck, Clean as CleanUp, Work as WorkOff, Repair as Mend, Collect as Gather}
use Rattle.cluster_machine.specs.declared.step.LocalEnd.{LocalEnd}
use Rattle.cluster_machine.specs.Layouts.{layouts, stored_sets, set_at, is_given, is_stored}
use Rattle.cluster_machine.specs.Node.{Question, Scan, Present, resting, asking, scanning, storing, fetching, Call, Item, Part, Round, Node, Packet, says, shows, Did, quiet, Walk, Mending}
use Rattle.cluster_machine.specs.Node as machine
use Rattle.cluster_machine.specs.Rows.{same_bytes, block_at, has_block, still, block_of, called_for, blocks_after, queue_from, accepts, accepts_read, accepts_all, drops, sees}
use Rattle.cluster_machine.specs.Phases.{nodes_of, to_each, call_at, with_call, calls_now, asked, looked, stored, bytes_of, is_spelled, stores, slots_of, begins, value_after, row_came, window_at, rows_came, stored_came, block_came, at_call}
use Rattle.cluster_machine.specs.Rounds.{confirmed_for, are_spelled, is_complete, open_nodes, open_parts, rows_at, found, with_its_block, pushes_rows, parts_of, synced, goes_on, may_sync, begin_round, value_here, children_here, has_ended, found_same, walk_at, walks_of, walks_after, walk_after, asked_after, asks_at, first_asks, starts, sends_after, other_nodes, round_walks, mending_walks, at_walk, mending_came, with_mending, with_lasting, late_came, answer_came, filled_parts, walked_anew}
use Rattle.walk_model.specs.Noting.{is_noted}
use Rattle.cluster_machine.specs.Receives.{most_rows, answers, where_stored, gives_row, gives_rows, gives_block, takes, round_came, is_done, kept_item, item_came, confirms, hears, receives, compared, compares, walks_on}
use Rattle.cluster_machine.proofs.Asked.{few_asked, asked_longer, children_few}
use Rattle.cluster_machine.specs.Acts.{Acted, item_posts, syncs, acts}
use Rattle.cluster_machine.specs.Collects.{others, Progress, object_rows, has_bytes, has_digest, without_row, forgets_row, drops_row, merges, takes_tomb, finishes, answered_to, tomb_came, with_rows, progress, looked_at, collects}
use Rattle.cluster_machine.specs.World.{packet_size}
use Rattle.machine_origins.proofs.Lists.{all_filter, all_take, all_found}
use Rattle.machine_origins.proofs.Good.{IsGood, IsAt, IsFound, same_at, row_found, rows_good}
use Rattle.machine_origins.proofs.Sound.{Asks, ReadsTo, IsMessage, IsPacket, IsNode}
use Rattle.machine_origins.proofs.Accepting.{accepts_all_node}
use Rattle.table_schema.specs.Words.{Words, partition_of, partition_at}
use Rattle.machine_limits.specs.Bounds.{AreBounded}
use Rattle.machine_limits.specs.Steps.{IsShort, IsShortBlock, StoredFits, PhaseFits}
use Rattle.machine_limits.proofs.Totals.{total, total_filter, total_take}
use Rattle.machine_limits.proofs.Contents.{rules_of, load, row_after as rows_after, accepted_counts, dropped_counts, without_counts, found_counts}
use Rattle.machine_limits.proofs.Collecting.{others_few, goes_all}
use Rattle.machine_limits.proofs.Posts.{filter_fewer, Mail, Costs, costs_nothing, costs_more, costs_one, costs_both, costs_few, ViewFits, layout_fits, set_few, nodes_few, ArePartsOf, parts_filter, parts_are, spelled_so, bytes_are, all_spelled, rows_count, parts_spelled, parts_cost, after_cost, part_spelled, items_cost, items_spelled}

abbrev pub Machine : Type 0 → Type 0
Machine R = Node R Layout

-- how many bytes a step sends at most
abbrev pub mail_limit : ℕ
mail_limit = 4000000000000000000

abbrev pub RoundFits : Option Round → Type 0
RoundFits None = ⊤
RoundFits (Some round) = ArePartsOf 0 round.parts

module _ {R : Type 0} (join : R → R → R) (s : Words R) (weight : R → ℕ) where
  -- what a node's counts are after so many steps, in which so many bytes were delivered and so many messages sent
  pub record NodeFits (t k sent : ℕ) (x : Machine R) : Type 0 where
    pub counted : load join s weight x.accepted + x.queued ≤ k
    pub listed : length x.items ≤ x.queued
    pub small : AllByRecursion (λ (item : Item R). weight item.row ≤ 64) x.items
    pub rounds : x.rounds ≤ t
    pub phases : AllByRecursion (λ (c : Call R). c.phases ≤ t) x.calls
    pub blocks : AllByRecursion (λ (b : machine.Block). IsShort b.bytes) x.blocks
    pub collections : x.gc.begun ≤ sent
    pub round : RoundFits x.round

-- a message has short blocks beside the rows that it asks to store
abbrev pub MessageBeside : {R : Type 0} → Message R → Type 0
MessageBeside (Store tag named p rows) = AllByRecursion (λ (b : List ℕ × Option (List ℕ)). IsShortBlock b.1) rows
MessageBeside _ = ⊤

abbrev pub PacketBeside : {R : Type 0} → Packet R Layout → Type 0
PacketBeside (says m) = MessageBeside m
PacketBeside (shows v) = ⊤

module _ {R : Type 0} (join : R → R → R) (s : Words R) (weight : R → ℕ) where
  -- what a node did fits, where so many messages were sent before
  pub record DidFits (t k sent : ℕ) (d : Did R Layout) : Type 0 where
    pub after : ℕ
    pub low : after ≤ length d.posts + sent
    pub node : NodeFits join s weight t k after d.node
    pub spelled : d.is_spelled ≡ true
    pub cost : Costs s d.posts mail_limit
    pub beside : AllByRecursion (λ (p : Mail R). PacketBeside p.packet) d.posts

module _ {R : Type 0} {join : R → R → R} {s : Words R} {weight : R → ℕ} where
  pub node_later : {sent : ℕ} → (t k u m : ℕ) (x : Machine R) → t ≤ u → k ≤ m → NodeFits join s weight t k sent x → NodeFits join s weight u m sent x
  node_later t k u m x h g f =
      let a = f.counted in
      let b = f.rounds in
      record {
        counted = omega arith;
        listed = f.listed;
        small = f.small;
        rounds = omega arith;
        phases = all_weaker (λ (c : Call R). c.phases ≤ t) (λ (c : Call R). c.phases ≤ u) (λ c low. omega arith) x.calls f.phases;
        blocks = f.blocks;
        collections = f.collections;
        round = f.round;
      }

  -- where more messages were sent
  pub node_more : (t k a b : ℕ) (x : Machine R) → a ≤ b → NodeFits join s weight t k a x → NodeFits join s weight t k b x
  node_more t k a b x h f =
      let low = f.collections in
      record { counted = f.counted; listed = f.listed; small = f.small; rounds = f.rounds; phases = f.phases; blocks = f.blocks; collections = omega (arith, h, low); round = f.round }

itself : (n : ℕ) → n ≤ n
itself n = omega arith

-- the property that blocks have where they are asked for
abbrev pub Short : List ℕ → List ℕ → Type 0
Short hash bytes = IsShort bytes

module _ {R : Type 0} {join : R → R → R} {s : Words R} {P : R → Type 0} {weight : R → ℕ} (bounded : AreBounded join s P weight) where
  length_queue : (n : ℕ) (rs : List R) → length (queue_from join s n rs) ≡ length rs
  length_queue n [] = refl
  length_queue n (r ∷ rs) = ap suc (length_queue (suc n) rs)

  queue_small : (n : ℕ) (rs : List R) → AllByRecursion (λ (r : R). weight r ≤ 64) rs → AllByRecursion (λ (item : Item R). weight item.row ≤ 64) (queue_from join s n rs)
  queue_small n [] a = tt
  queue_small n (r ∷ rs) a = (a.0, queue_small (suc n) rs a.1)

  blocks_short : (blocks : List machine.Block) (needed : Option (List ℕ)) (given : Option (List ℕ)) → AllByRecursion (λ (b : machine.Block). IsShort b.bytes) blocks → IsShortBlock given → AllByRecursion (λ (b : machine.Block). IsShort b.bytes) (blocks_after join s blocks needed given)
  blocks_short blocks None given a h = a
  blocks_short blocks (Some hash) None a h = a
  blocks_short blocks (Some hash) (Some bytes) a h =
      elim (has_block blocks hash) as (λ c. AllByRecursion (λ (b : machine.Block). IsShort b.bytes) (cond c blocks (record { hash = hash; bytes = bytes } ∷ blocks))) [ true ↦ a | false ↦ (h, a) ]

  phases_with : (t : ℕ) (c : Call R) (calls : List (Call R)) → c.phases ≤ t → AllByRecursion (λ (d : Call R). d.phases ≤ t) calls → AllByRecursion (λ (d : Call R). d.phases ≤ t) (with_call c calls)
  phases_with t c [] h a = tt
  phases_with t c (d ∷ calls) h a = (
    elim (d.request == c.request) as (λ b. (let e : Call R = cond b (record d { phases = c.phases; present = c.present }) d in e.phases ≤ t)) [ true ↦ h | false ↦ a.0 ],
    phases_with t c calls h a.1,
  )

  block_short : (bs : List machine.Block) (hash : List ℕ) → AllByRecursion (λ (b : machine.Block). IsShort b.bytes) bs → IsShortBlock (block_at bs hash)
  block_short [] hash a = tt
  block_short (b ∷ bs) hash a = elim (same_bytes b.hash hash) as (λ c. IsShortBlock (cond c (Some b.bytes) (block_at bs hash))) [ true ↦ a.0 | false ↦ block_short bs hash a.1 ]

  found_short : (x : Machine R) (needed : Option (List ℕ)) → AllByRecursion (λ (b : machine.Block). IsShort b.bytes) x.blocks → IsShortBlock (found join s x needed)
  found_short x None a = tt
  found_short x (Some hash) a = block_short x.blocks hash a

  each_beside : (nodes : List ℕ) (m : Message R) → MessageBeside m → AllByRecursion (λ (p : Mail R). PacketBeside p.packet) (to_each nodes m)
  each_beside [] m h = tt
  each_beside (n ∷ nodes) m h = (h, each_beside nodes m h)

  module _ (x : Machine R) (blocks : AllByRecursion (λ (b : machine.Block). IsShort b.bytes) x.blocks) where
    map_beside : (rs : List R) → AllByRecursion (λ (b : List ℕ × Option (List ℕ)). IsShortBlock b.1) (map (with_its_block join s x) rs)
    map_beside [] = tt
    map_beside (r ∷ rs) = (found_short x (s.live_block r) blocks, map_beside rs)

    rows_beside : (number p : ℕ) (nodes : List ℕ) (rs : List R) → AllByRecursion (λ (p : Mail R). PacketBeside p.packet) (pushes_rows join s layouts x number p nodes rs)
    rows_beside number p nodes [] = tt
    rows_beside number p nodes (r ∷ rs) = each_beside nodes (Store (ForRound number p) (newest layouts.reading x.view) p (map (with_its_block join s x) (r ∷ rs))) (map_beside (r ∷ rs))

    asks_beside : (number p to : ℕ) (prefixes : List (ℕ × List ℕ)) → AllByRecursion (λ (p : Mail R). PacketBeside p.packet) (map (λ (o : ℕ × List ℕ). asks_at join s layouts x number p to o.0 o.1) prefixes)
    asks_beside number p to [] = tt
    asks_beside number p to (o ∷ prefixes) = (tt, asks_beside number p to prefixes)

    starts_beside : (number : ℕ) (walks : List Walk) → AllByRecursion (λ (p : Mail R). PacketBeside p.packet) (starts join s layouts x number walks)
    starts_beside number [] = tt
    starts_beside number (w ∷ walks) = all_append (λ (p : Mail R). PacketBeside p.packet) (first_asks join s layouts x number w) (starts join s layouts x number walks) (asks_beside number w.state.partition w.node w.state.prefixes) (starts_beside number walks)

    further_beside : (number p to table : ℕ) (prefixes : List (List ℕ)) → AllByRecursion (λ (p : Mail R). PacketBeside p.packet) (map (asks_at join s layouts x number p to table) prefixes)
    further_beside number p to table [] = tt
    further_beside number p to table (prefix ∷ prefixes) = (tt, further_beside number p to table prefixes)

    after_beside : (number : ℕ) (w : Walk) (table : ℕ) (asked : List (List ℕ)) → AllByRecursion (λ (p : Mail R). PacketBeside p.packet) (sends_after join s layouts x number w table asked)
    after_beside number w table asked =
        elim (has_ended w) as (λ b. AllByRecursion (λ (p : Mail R). PacketBeside p.packet) (cond b (pushes_rows join s layouts x number w.state.partition (w.node ∷ []) (filter (is_noted s w.state.noted) (rows_at join s x w.state.partition))) (map (asks_at join s layouts x number w.state.partition w.node table) asked))) [
          | true ↦ rows_beside number w.state.partition (w.node ∷ []) _
          | false ↦ further_beside number w.state.partition w.node table asked
        ]

  items_beside : (view : View Layout) (items : List (Item R)) → AllByRecursion (λ (p : Mail R). PacketBeside p.packet) (flat_map (item_posts join s layouts view) items)
  items_beside view [] = tt
  items_beside view (item ∷ items) =
      let p = partition_of s item.row in
      all_append (λ (p : Mail R). PacketBeside p.packet) (item_posts join s layouts view item) (flat_map (item_posts join s layouts view) items)
      (each_beside (nodes_of (stored_sets layouts view p)) (Store (ForItem item.number) (newest layouts.reading view) p ((bytes_of s item.row, None) ∷ [])) (tt, tt)) (items_beside view items)

  module _ (t sent : ℕ) (g : Asks) (count n : ℕ) where
    abbrev pub Sound : Machine R → Type 0
    Sound x = IsNode join s P Short g count n x

    -- ---- rows that are accepted

    called_small : (table : ℕ) (key : List ℕ) (old : Option R) (r : R) → IsFound s P table key old → IsAt s P table key r →
        AllByRecursion (λ (r : R). weight r ≤ 64) (called_for join s old (option_join join old (Some r)))
    called_small table key None r p q = tt
    called_small table key (Some old) r p q = bounded.called_few old r (same_at (rules_of bounded) table key old r p q) p.good.has q.good.has

    row_after : (r : R) (older : List R) → option_join join (row_at join s older (s.table r) (s.key r)) (Some r) ≡ row_at join s (r ∷ older) (s.table r) (s.key r)
    row_after = rows_after bounded

    accepts_fits : (now k : ℕ) (x : Machine R) (r : R) (given : Option (List ℕ)) → IsGood s P r → IsShortBlock given → Sound x → NodeFits join s weight t k sent x → NodeFits join s weight t (k + weight r) sent (accepts join s now x r given)
    accepts_fits now k x r given good short i f =
        let table = s.table r in
        let key = s.key r in
        let before = row_at join s x.accepted table key in
        let after = row_at join s (r ∷ x.accepted) table key in
        let called = called_for join s before after in
        let counts : load join s weight (r ∷ x.accepted) + length called ≤ load join s weight x.accepted + weight r = accepted_counts bounded r x.accepted good i.accepted in
        let was : load join s weight x.accepted + x.queued ≤ k = f.counted in
        let more : length (x.items ++ queue_from join s x.queued called) ≡ length x.items + length (queue_from join s x.queued called) = length-append x.items (queue_from join s x.queued called) in
        let new : length (queue_from join s x.queued called) ≡ length called = length_queue x.queued called in
        let listed : length x.items ≤ x.queued = f.listed in
        let at : IsAt s P table key r = record { good = good; table_is = refl; key_is = refl } in
        let small : AllByRecursion (λ (r : R). weight r ≤ 64) called =
        subst (λ (o : Option R). AllByRecursion (λ (r : R). weight r ≤ 64) (called_for join s before o)) (row_after r x.accepted) (called_small table key before r (row_found (rules_of bounded) x.accepted table key i.accepted) at) in
        record {
          counted = omega arith;
          listed = omega arith;
          small = all_append (λ (item : Item R). weight item.row ≤ 64) x.items (queue_from join s x.queued called) f.small (queue_small x.queued called small);
          rounds = f.rounds;
          phases = f.phases;
          blocks = blocks_short x.blocks (block_of join s after) given f.blocks short;
          collections = f.collections;
          round = f.round;
        }

    read_weight : (bytes : List ℕ) (r : R) → s.read bytes ≡ Some r → P r → weight r ≡ length bytes
    read_weight bytes r e fits =
        let two : option_map length (Some bytes) ≡ Some (weight r) = ap (option_map length) (sym ((bounded.laws.reads_back r bytes).0 e)) ∙ bounded.counts r fits in
        let same : length bytes ≡ weight r = cc in
        sym same

    accepts_read_fits : (now k : ℕ) (x : Machine R) (bytes : List ℕ) (o : Option R) (given : Option (List ℕ)) → s.read bytes ≡ o → ReadsTo join s P Short bytes → IsShortBlock given → Sound x → NodeFits join s weight t k sent x →
        NodeFits join s weight t (k + stored_length (bytes, given)) sent (accepts_read join s now x o given)
    accepts_read_fits now k x bytes None given e to short i f = node_later t k t (k + stored_length (bytes, given)) x (omega arith) (omega arith) f
    accepts_read_fits now k x bytes (Some r) given e to short i f =
        let fits = to r e in
        let w = read_weight bytes r e fits in
        node_later t (k + weight r) t (k + stored_length (bytes, given)) _ (omega arith) (omega arith)
        (accepts_fits now k x r given (record { proper = bounded.laws.spelled_is_proper r bytes ((bounded.laws.reads_back r bytes).0 e); has = fits }) short i f)

    all_accepted : (now k : ℕ) (bs : List (List ℕ × Option (List ℕ))) (x : Machine R) → AllByRecursion (λ (b : List ℕ × Option (List ℕ)). ReadsTo join s P Short b.0) bs → AllByRecursion (λ (b : List ℕ × Option (List ℕ)). IsShortBlock b.1) bs → Sound x → NodeFits join s weight t k sent x →
        NodeFits join s weight t (k + total stored_length bs) sent (accepts_all join s now x bs)
    all_accepted now k [] x a b i f = node_later t k t (k + 0) x (omega arith) (omega arith) f
    all_accepted now k (c ∷ bs) x a b i f =
        let one = accepts_read join s now x (s.read c.0) c.1 in
        let here : NodeFits join s weight t (k + stored_length c) sent one = accepts_read_fits now k x c.0 (s.read c.0) c.1 refl a.0 b.0 i f in
        let still_sound : Sound one = accepts_all_node (rules_of bounded) Short g count n now (c ∷ []) x (a.0, tt) i in
        let m = k + stored_length c in
        node_later t (m + total stored_length bs) t (k + total stored_length (c ∷ bs)) _ (omega arith) (omega arith) (all_accepted now m bs one a.1 b.1 still_sound here)

    -- ---- a node whose view changes

    pub sees_fits : (now k : ℕ) (x : Machine R) (view : View Layout) → Sound x → NodeFits join s weight t k sent x → NodeFits join s weight t k sent (sees join s layouts n now x view)
    sees_fits now k x view i f =
        let closes : (old : ℕ) (o : Option Round) → RoundFits o → RoundFits (still old o) = (λ old o. elim o as (λ p. RoundFits p → RoundFits (still old p)) [
          | None ↦ (λ h. h)
          | Some round ↦ (λ h. elim (leb round.target old) as (λ b. RoundFits (cond b None (Some round))) [ true ↦ tt | false ↦ h ])
        ]) in
        let new : Machine R = record x { view = view; round = still (oldest layouts.reading view) x.round } in
        let low = dropped_counts bounded (λ p. is_given layouts view n p) x.accepted i.accepted in
        let was : load join s weight x.accepted + x.queued ≤ k = f.counted in
        elim (leb (oldest layouts.reading view) (oldest layouts.reading x.view)) as (λ b. NodeFits join s weight t k sent (cond b new (drops join s layouts n now new))) [
          | true ↦ record { counted = f.counted; listed = f.listed; small = f.small; rounds = f.rounds; phases = f.phases; blocks = f.blocks; collections = f.collections; round = closes (oldest layouts.reading view) x.round f.round }
          | false ↦ record { counted = omega arith; listed = f.listed; small = f.small; rounds = f.rounds; phases = f.phases; blocks = f.blocks; collections = f.collections; round = closes (oldest layouts.reading view) x.round f.round }
        ]

    goes_fits : (k : ℕ) (u : ℕ) (x : Machine R) (round : Round) → ArePartsOf 0 round.parts → NodeFits join s weight u k sent x → NodeFits join s weight u k sent (goes_on join s layouts n x round)
    goes_fits k u x round parts f = elim (is_complete round) as (λ b. NodeFits join s weight u k sent (cond b (synced join s layouts n x round) (record x { round = Some round }))) [
      | true ↦ record { counted = f.counted; listed = f.listed; small = f.small; rounds = f.rounds; phases = f.phases; blocks = f.blocks; collections = f.collections; round = tt }
      | false ↦ record { counted = f.counted; listed = f.listed; small = f.small; rounds = f.rounds; phases = f.phases; blocks = f.blocks; collections = f.collections; round = parts }
    ]

    -- ---- what a node does

    module _ (k m : ℕ) (grows : k ≤ m) (top : m ≤ 27000000000000) (x : Machine R) (i : Sound x) (f : NodeFits join s weight t k sent x) (views : ViewFits x.view) where
      abbrev pub Fits : Did R Layout → Type 0
      Fits d = DidFits join s weight (suc t) m sent d

      abbrev now_fits : NodeFits join s weight (suc t) m sent x
      now_fits = node_later t k (suc t) m x (omega arith) grows f

      quiets : (y : Machine R) → NodeFits join s weight (suc t) m sent y → Fits (quiet y)
      quiets y h = record { after = sent; low = omega arith; node = h; spelled = refl; cost = costs_nothing mail_limit; beside = tt }

      rests : Fits (quiet x)
      rests = quiets x now_fits

      either : (b : Bool) (d e : Did R Layout) → Fits d → Fits e → Fits (cond b d e)
      either true d e h j = h
      either false d e h j = j

      answers_fit : (y : Machine R) (to : ℕ) (msg : Message R) (b : ℕ) → NodeFits join s weight (suc t) m sent y → size s msg ≡ Some b → b ≤ mail_limit → MessageBeside msg → Fits (answers y to msg)
      answers_fit y to msg b h e low beside = record { after = sent; low = omega arith; node = h; spelled = refl; cost = costs_more _ b mail_limit (costs_one (record { to = to; packet = says msg }) b e) low; beside = (beside, tt) }

      in_call : (request phase : ℕ) (act : Call R → Did R Layout) (o : Option (Call R)) → call_at x.calls request ≡ o → ((c : Call R) → c.phases ≤ t → Fits (act c)) → Fits (at_call x phase act o)
      in_call request phase act None e h = rests
      in_call request phase act (Some c) e h =
          let low = (all_found (λ (c : Call R). c.phases ≤ t) (λ (c : Call R). c.request == request) x.calls c f.phases e).0 in
          either (c.phases == phase) (act c) (quiet x) (h c low) rests

      here : (from request phase at : ℕ) (d : Did R Layout) → Fits d → Fits (where_stored join s layouts x from request phase at d)
      here from request phase at d h = either (is_stored layouts x.view at) d _ h (answers_fit x from (NotHere (ForCall request phase 0)) (64 + 0) now_fits refl (omega arith) tt)

      call_now : (c : Call R) (p : Present R) → c.phases ≤ t → NodeFits join s weight (suc t) m sent (calls_now x (record c { present = p }))
      call_now c p low = record {
        counted = now_fits.counted;
        listed = now_fits.listed;
        small = f.small;
        rounds = now_fits.rounds;
        phases = phases_with (suc t) (record c { present = p }) x.calls (omega arith) now_fits.phases;
        blocks = f.blocks;
        collections = f.collections;
        round = f.round;
      }

      asked_fits : (c : Call R) → c.phases ≤ t → (q : Question R) (as' : List (ℕ × Option R)) (a : ℕ × Option R) (o : Option (Option R)) → Fits (asked x c q as' a o)
      asked_fits c low q as' a None = quiets (calls_now x (record c { present = asking q (as' ++ a ∷ []) })) (call_now c (asking q (as' ++ a ∷ [])) low)
      asked_fits c low q as' a (Some value) = record { after = sent; low = omega arith; node = call_now c resting low; spelled = refl; cost = costs_nothing mail_limit; beside = tt }

      looked_fits : (c : Call R) → c.phases ≤ t → (q : Scan R) (as' : List (ℕ × RangeAnswer R)) (a : ℕ × RangeAnswer R) (o : Option (Window R)) → Fits (looked x c q as' a o)
      looked_fits c low q as' a None = quiets (calls_now x (record c { present = scanning q (as' ++ a ∷ []) })) (call_now c (scanning q (as' ++ a ∷ [])) low)
      looked_fits c low q as' a (Some w) = record { after = sent; low = omega arith; node = call_now c resting low; spelled = refl; cost = costs_nothing mail_limit; beside = tt }

      stored_fits : (c : Call R) → c.phases ≤ t → (rs : List R) (slots : List StoreSlot) (b : Bool) → Fits (stored x c rs slots b)
      stored_fits c low rs slots false = quiets (calls_now x (record c { present = storing rs slots })) (call_now c (storing rs slots) low)
      stored_fits c low rs slots true = record { after = sent; low = omega arith; node = call_now c resting low; spelled = refl; cost = costs_nothing mail_limit; beside = tt }

      row_fits : (c : Call R) → c.phases ≤ t → (from : ℕ) (row : Option R) (p : Present R) → Fits (row_came join x c from row p)
      row_fits c low from row (asking q as') = asked_fits c low q as' (from, row) (value_after join q as' (from, row))
      row_fits c low from row resting = rests
      row_fits c low from row (scanning q as') = rests
      row_fits c low from row (storing rs slots) = rests
      row_fits c low from row (fetching hash) = rests

      rows_fit : (c : Call R) → c.phases ≤ t → (from : ℕ) (rs : List R) (more : Bool) (p : Present R) → Fits (rows_came join s x c from rs more p)
      rows_fit c low from rs more (scanning q as') = looked_fits c low q as' (from, record { rows = rs; more = more }) (window_at join s (first_two_at q.set as' (from, record { rows = rs; more = more })))
      rows_fit c low from rs more resting = rests
      rows_fit c low from rs more (asking q as') = rests
      rows_fit c low from rs more (storing rs' slots) = rests
      rows_fit c low from rs more (fetching hash) = rests

      confirmed_fits : (c : Call R) → c.phases ≤ t → (slot from : ℕ) (p : Present R) → Fits (stored_came layouts x c slot from p)
      confirmed_fits c low slot from (storing rs slots) = let now = with_confirmation slots slot from in stored_fits c low rs now (is_kept now (oldest layouts.reading x.view))
      confirmed_fits c low slot from resting = rests
      confirmed_fits c low slot from (asking q as') = rests
      confirmed_fits c low slot from (scanning q as') = rests
      confirmed_fits c low slot from (fetching hash) = rests

      block_fits : (c : Call R) → c.phases ≤ t → (bytes : List ℕ) (p : Present R) → Fits (block_came x c bytes p)
      block_fits c low bytes (fetching hash) = record { after = sent; low = omega arith; node = call_now c resting low; spelled = refl; cost = costs_nothing mail_limit; beside = tt }
      block_fits c low bytes resting = rests
      block_fits c low bytes (asking q as') = rests
      block_fits c low bytes (scanning q as') = rests
      block_fits c low bytes (storing rs slots) = rests

      gives_row_fits : (from request phase table : ℕ) (key : List ℕ) (row : Option R) → row_at join s x.accepted table key ≡ row → IsFound s P table key row → Fits (gives_row join s layouts x from request phase row)
      gives_row_fits from request phase table key None e h = answers_fit x from (Row request phase None) (64 + 0) now_fits refl (omega arith) tt
      gives_row_fits from request phase table key (Some r) e h =
          let low = found_counts bounded table key x.accepted r i.accepted e in
          let was : load join s weight x.accepted + x.queued ≤ k = f.counted in
          let a = answers_fit x from (Row request phase (Some r)) (64 + weight r) now_fits (ap (plus (Some 64)) (bounded.counts r h.good.has)) (omega arith) tt in
          record { after = a.after; low = a.low; node = a.node; spelled = spelled_so bounded r h.good.has; cost = a.cost; beside = a.beside }

      gives_rows_fit : (from request phase : ℕ) (begin after : List ℕ) → Fits (gives_rows join s layouts x from request phase (range s 1 begin after most_rows (rows_of join s x.accepted)))
      gives_rows_fit from request phase begin after =
          let all = rows_of join s x.accepted in
          let past = filter (is_past s 1 begin after) all in
          let rs = take most_rows past in
          let more = nat_lt most_rows (length past) in
          let good : AllByRecursion (IsGood s P) rs = all_take (IsGood s P) most_rows past (all_filter (IsGood s P) (is_past s 1 begin after) all (rows_good (rules_of bounded) x.accepted i.accepted)) in
          let one = total_take weight most_rows past in
          let two = total_filter weight (is_past s 1 begin after) all in
          let was : load join s weight x.accepted + x.queued ≤ k = f.counted in
          let a = answers_fit x from (Rows request phase rs more) (64 + total weight rs) now_fits (ap (plus (Some 64)) (rows_count bounded rs good)) (omega arith) tt in
          record { after = a.after; low = a.low; node = a.node; spelled = all_spelled bounded rs good; cost = a.cost; beside = a.beside }

      gives_block_fits : (from request phase : ℕ) (o : Option (List ℕ)) → IsShortBlock o → Fits (gives_block join s layouts x from request phase o)
      gives_block_fits from request phase None h = answers_fit x from (NoBlock request phase) (64 + 0) now_fits refl (omega arith) tt
      gives_block_fits from request phase (Some bytes) h = let low = h.short in answers_fit x from (Block request phase bytes) (64 + length bytes) now_fits refl (omega arith) tt

      takes_fits : (now from : ℕ) (tag : Tag) (named p : ℕ) (bs : List (List ℕ × Option (List ℕ))) → IsMessage join s P Short g from n (Store tag named p bs) → MessageBeside {R = R} (Store tag named p bs) → k + total stored_length bs ≤ m →
          Fits (takes join s layouts n now x from tag named p bs)
      takes_fits now from tag named p bs is beside room =
          either (nat_lt (newest layouts.reading x.view) named) _ _ (answers_fit x from (Behind tag (newest layouts.reading x.view)) (64 + 0) now_fits refl (omega arith) tt)
          (either (not (is_given layouts x.view n p)) _ _ (answers_fit x from (NotHere tag) (64 + 0) now_fits refl (omega arith) tt)
          (answers_fit (accepts_all join s now x bs) from (Stored tag) (64 + 0) (node_later t (k + total stored_length bs) (suc t) m _ (omega arith) room (all_accepted now k bs x is beside i f)) refl (omega arith) tt))

      round_fits : (from number p : ℕ) (o : Option Round) → RoundFits o → Fits (round_came join s layouts n x from number p o)
      round_fits from number p None h = rests
      round_fits from number p (Some round) h =
          let new : Round = record round { confirmed = round.confirmed ++ record { partition = p; node = from } ∷ [] } in
          either (round.number == number) (quiet (goes_on join s layouts n x new)) (quiet x) (quiets (goes_on join s layouts n x new) (goes_fits m (suc t) x new h now_fits)) rests

      -- walks
      compared_fits : (from : ℕ) (tag : Tag) (p table : ℕ) (prefix : List ℕ) (hash : Hash32) → length prefix ≤ m → Fits (record (answers x from (compared join s layouts x tag p table prefix hash)) { is_spelled = list_all (is_spelled s) (rows_at join s x p) })
      compared_fits from tag p table prefix hash low =
          let e : Message R = compared join s layouts x tag p table prefix hash in
          let children = children_here join s x table p prefix in
          let few = children_few join s x p table prefix in
          let same = answers_fit x from (HasSame tag table prefix) (64 + length prefix) now_fits refl (omega (arith, low, top)) tt in
          let differ = answers_fit x from (Differ tag table prefix children) (64 + (length prefix + 33 * length children)) now_fits refl (omega (arith, low, top, few)) tt in
          let answer = elim (same_bytes hash.0 (value_here join s x table p prefix).0) as (λ b. Fits (answers x from (cond b (HasSame tag table prefix) (Differ tag table prefix children)))) [ true ↦ same | false ↦ differ ] in
          record { after = answer.after; low = answer.low; node = answer.node; spelled = part_spelled bounded x i.accepted f.blocks p; cost = answer.cost; beside = answer.beside }

      compares_fits : (from : ℕ) (tag : Tag) (named p table : ℕ) (prefix : List ℕ) (hash : Hash32) → length prefix ≤ m → Fits (compares join s layouts n x from tag named p table prefix hash)
      compares_fits from tag named p table prefix hash low =
          either (nat_lt (newest layouts.reading x.view) named) _ _ (answers_fit x from (Behind tag (newest layouts.reading x.view)) (64 + 0) now_fits refl (omega arith) tt)
          (either (not (is_given layouts x.view n p)) _ _ (answers_fit x from (NotHere tag) (64 + 0) now_fits refl (omega arith) tt)
          (compared_fits from tag p table prefix hash low))

      asked_short : (p table : ℕ) (prefix : List ℕ) (answer : Option (List (ℕ × Hash32))) → AllByRecursion (λ (q : List ℕ). length q ≤ 32) (asked_after join s x p table prefix answer)
      asked_short p table prefix answer =
          elim (cases_lt (length prefix) 32) [
            | inl short ↦ all_weaker (λ (q : List ℕ). length q ≡ suc (length prefix)) (λ (q : List ℕ). length q ≤ 32) (λ q e. omega (arith, e, short)) _ (asked_longer join s x p table prefix answer)
            | inr long ↦ subst (AllByRecursion (λ (q : List ℕ). length q ≤ 32)) (sym ((few_asked join s x p table prefix answer).0 long)) tt
          ]

      walked : (y : Machine R) (number : ℕ) (w : Walk) (table : ℕ) (prefix : List ℕ) (answer : Option (List (ℕ × Hash32))) → NodeFits join s weight (suc t) m sent y →
          Fits (record (quiet y) { posts = sends_after join s layouts x number (walk_after join s x w table prefix answer) table (asked_after join s x w.state.partition table prefix answer); is_spelled = list_all (is_spelled s) (rows_at join s x w.state.partition) })
      walked y number w table prefix answer h =
          let later = walk_after join s x w table prefix answer in
          let asked = asked_after join s x w.state.partition table prefix answer in
          let was : load join s weight x.accepted + x.queued ≤ k = f.counted in
          record {
            after = sent;
            low = omega arith;
            node = h;
            spelled = part_spelled bounded x i.accepted f.blocks w.state.partition;
            cost = costs_more _ (120000 * load join s weight x.accepted + 32768) mail_limit (after_cost bounded x i.accepted f.blocks number later table asked (few_asked join s x w.state.partition table prefix answer).1 (asked_short w.state.partition table prefix answer)) (omega (arith, was, grows, top));
            beside = after_beside x f.blocks number later table asked;
          }

      at_walk_fits : (table : ℕ) (prefix : List ℕ) (act : Walk → Did R Layout) (o : Option Walk) → ((w : Walk) → Fits (act w)) → Fits (at_walk join s layouts x table prefix act o)
      at_walk_fits table prefix act None h = rests
      at_walk_fits table prefix act (Some w) h = either (is_open table prefix w.state.prefixes) (act w) (quiet x) (h w) rests

      mending_fits : (now : Mending → Machine R) (other : Did R Layout) → ((mending : Mending) → NodeFits join s weight (suc t) m sent (now mending)) → Fits other → (from number p table : ℕ) (prefix : List ℕ) (answer : Option (List (ℕ × Hash32))) (o : Option Mending) → Fits (mending_came join s layouts x now other from number p table prefix answer o)
      mending_fits now other h d from number p table prefix answer None = d
      mending_fits now other h d from number p table prefix answer (Some mending) =
          either (mending.number == number) _ other
          (at_walk_fits table prefix (mending_walks join s layouts x now table prefix answer mending) (walk_at p from mending.walks)
          (λ w. let later = record mending { walks = walks_after (walk_after join s x w table prefix answer) mending.walks } in walked (now later) mending.number w table prefix answer (h later))) d

      late_fits : (from number p table : ℕ) (prefix : List ℕ) (answer : Option (List (ℕ × Hash32))) → Fits (late_came join s layouts x from number p table prefix answer)
      late_fits from number p table prefix answer =
          mending_fits (with_lasting join s layouts x) _
          (λ mending. record { counted = now_fits.counted; listed = now_fits.listed; small = f.small; rounds = now_fits.rounds; phases = now_fits.phases; blocks = f.blocks; collections = f.collections; round = f.round })
          (mending_fits (with_mending join s layouts x) (quiet x)
          (λ mending. record { counted = now_fits.counted; listed = now_fits.listed; small = f.small; rounds = now_fits.rounds; phases = now_fits.phases; blocks = f.blocks; collections = f.collections; round = f.round })
          rests from number p table prefix answer x.mending)
          from number p table prefix answer x.lasting

      round_walked : (table : ℕ) (prefix : List ℕ) (answer : Option (List (ℕ × Hash32))) (round : Round) (w : Walk) → ArePartsOf 0 round.parts → Fits (round_walks join s layouts n x table prefix answer round w)
      round_walked table prefix answer round w h =
          let later = walk_after join s x w table prefix answer in
          let now : Round = record round { walks = walks_after later round.walks } in
          let there : Round = record now { confirmed = now.confirmed ++ record { partition = w.state.partition; node = w.node } ∷ [] } in
          walked (cond (found_same later) (goes_on join s layouts n x there) (record x { round = Some now })) round.number w table prefix answer
          (elim (found_same later) as (λ b. NodeFits join s weight (suc t) m sent (cond b (goes_on join s layouts n x there) (record x { round = Some now }))) [
            | true ↦ goes_fits m (suc t) x there h now_fits
            | false ↦ record { counted = now_fits.counted; listed = now_fits.listed; small = f.small; rounds = now_fits.rounds; phases = now_fits.phases; blocks = f.blocks; collections = f.collections; round = h }
          ])

      answer_fits : (from number p table : ℕ) (prefix : List ℕ) (answer : Option (List (ℕ × Hash32))) (o : Option Round) → RoundFits o → Fits (answer_came join s layouts n x from number p table prefix answer o)
      answer_fits from number p table prefix answer None h = late_fits from number p table prefix answer
      answer_fits from number p table prefix answer (Some round) h =
          either (round.number == number) _ _
          (at_walk_fits table prefix (round_walks join s layouts n x table prefix answer round) (walk_at p from round.walks) (λ w. round_walked table prefix answer round w h))
          (late_fits from number p table prefix answer)

      walks_fit : (from : ℕ) (tag : Tag) (table : ℕ) (prefix : List ℕ) (answer : Option (List (ℕ × Hash32))) → Fits (walks_on join s layouts n x from tag table prefix answer)
      walks_fit from (ForCall request phase slot) table prefix answer = rests
      walks_fit from (ForRound number p) table prefix answer = answer_fits from number p table prefix answer x.round f.round
      walks_fit from (ForItem number) table prefix answer = rests

      items_came : (view : View Layout) (from number : ℕ) (items : List (Item R)) → AllByRecursion (λ (item : Item R). weight item.row ≤ 64) items → AllByRecursion (λ (item : Item R). weight item.row ≤ 64) (item_came join s layouts view from number items) × (length (item_came join s layouts view from number items) ≤ length items)
      items_came view from number [] a = (tt, omega arith)
      items_came view from number (item ∷ items) a =
          let new : Item R = record item { confirmed = item.confirmed ++ from ∷ [] } in
          let rest = items_came view from number items a.1 in
          let fewer = rest.1 in
          elim (item.number == number) as (λ b. (let is = cond b (kept_item join s layouts view new items) (item ∷ item_came join s layouts view from number items) in AllByRecursion (λ (item : Item R). weight item.row ≤ 64) is × (length is ≤ suc (length items)))) [
            | true ↦ (elim (is_done join s layouts view new) as (λ b. (let is = cond b items (new ∷ items) in AllByRecursion (λ (item : Item R). weight item.row ≤ 64) is × (length is ≤ suc (length items)))) [ true ↦ (a.1, omega arith) | false ↦ ((a.0, a.1), omega arith) ])
            | false ↦ ((a.0, rest.0), omega arith)
          ]

      confirms_fit : (from : ℕ) (tag : Tag) → Fits (confirms join s layouts n x from tag)
      confirms_fit from (ForCall request phase slot) = in_call request phase (λ c. stored_came layouts x c slot from c.present) (call_at x.calls request) refl (λ c low. confirmed_fits c low slot from c.present)
      confirms_fit from (ForRound number p) = round_fits from number p x.round f.round
      confirms_fit from (ForItem number) =
          let is = items_came x.view from number x.items f.small in
          let fewer = is.1 in
          let listed : length x.items ≤ x.queued = f.listed in
          quiets (record x { items = item_came join s layouts x.view from number x.items })
          (record { counted = now_fits.counted; listed = omega arith; small = is.0; rounds = now_fits.rounds; phases = now_fits.phases; blocks = f.blocks; collections = f.collections; round = f.round })

      -- ---- collections of delete markers

      gc_rests : (o : Open) → o.begun ≡ x.gc.begun → Fits (quiet (record x { gc = o }))
      gc_rests o same =
          let was = f.collections in
          quiets (record x { gc = o }) (record { counted = now_fits.counted; listed = f.listed; small = f.small; rounds = now_fits.rounds; phases = now_fits.phases; blocks = f.blocks; collections = omega (arith, was, same); round = f.round })

      -- a row is dropped
      without_fits : (y : Machine R) (table : ℕ) (key : List ℕ) → AllByRecursion (IsGood s P) y.accepted → NodeFits join s weight (suc t) m sent y → NodeFits join s weight (suc t) m sent (without_row join s y table key)
      without_fits y table key good h =
          let was : load join s weight y.accepted + y.queued ≤ m = h.counted in
          let low = without_counts bounded table key y.accepted good in
          record { counted = omega (arith, was, low); listed = h.listed; small = h.small; rounds = h.rounds; phases = h.phases; blocks = h.blocks; collections = h.collections; round = h.round }

      forgets_row_fits : (table : ℕ) (key : List ℕ) (test : R → Bool) (o : Option R) → Fits (forgets_row join s x table key test o)
      forgets_row_fits table key test None = rests
      forgets_row_fits table key test (Some r) =
          either (test r) _ (quiet x) (record { after = sent; low = omega arith; node = without_fits x table key i.accepted now_fits; spelled = refl; cost = costs_nothing mail_limit; beside = tt }) rests

      closed_fits : (number : ℕ) → NodeFits join s weight (suc t) m sent (record x { gc = closed number x.gc })
      closed_fits number = record { counted = now_fits.counted; listed = f.listed; small = f.small; rounds = now_fits.rounds; phases = now_fits.phases; blocks = f.blocks; collections = f.collections; round = f.round }

      drops_fit : (c : Collection) (o : Option R) → IsFound s P 1 c.key o → Fits (drops_row join s n (record x { gc = closed c.number x.gc }) c o)
      drops_fit c None found = quiets _ (closed_fits c.number)
      drops_fit c (Some r) found =
          let msg : Message R = Forget 1 c.key (record { 0 = blake2b 32 (bytes_of s r) }) in
          let short = bounded.short_key r found.good.has in
          let same : length (s.key r) ≡ length c.key = ap (λ (key : List ℕ). length key) found.key_is in
          record {
            after = sent;
            low = omega arith;
            node = without_fits (record x { gc = closed c.number x.gc }) 1 c.key i.accepted (closed_fits c.number);
            spelled = refl;
            cost = costs_more _ (264 * 16) mail_limit (costs_few (others n) msg (64 + length c.key) 264 16 refl (omega (arith, short, same)) (others_few n)) (omega arith);
            beside = each_beside (others n) msg tt;
          }

      finishes_fit : (o : Option Collection) → Fits (finishes join s layouts n x o)
      finishes_fit None = rests
      finishes_fit (Some c) =
          let row = row_at join s x.accepted 1 c.key in
          either ((newest layouts.reading x.view == c.newest) && has_bytes join s c.row row) _ _ (drops_fit c row (row_found (rules_of bounded) x.accepted 1 c.key i.accepted)) (quiets _ (closed_fits c.number))

      answered_fit : (number round : ℕ) (o : Open) (e : GcEnd) → o.begun ≡ x.gc.begun → Fits (answered_to join s layouts n x number round o e)
      answered_fit number round o Wait same = gc_rests o same
      answered_fit number round o Closed same = gc_rests o same
      answered_fit number round o Complete same = either (round == 2) _ _ (finishes_fit (numbered number x.gc)) (gc_rests o same)

      tombed_fits : (now from number round named : ℕ) → Fits (tomb_came join s layouts n now x from number round named)
      tombed_fits now from number round named =
          answered_fit number round (answered number round from named now x.gc) (answer_end number round from named x.gc)
          (elim (is_closed (answer_end number round from named x.gc)) as (λ b. (let o : Open = if b then closed number x.gc else changed (told round from named now) number x.gc in o.begun ≡ x.gc.begun)) [ true ↦ refl | false ↦ refl ])

      merged_fits : (now : ℕ) (row : List ℕ) (o : Option R) → s.read row ≡ o → ReadsTo join s P Short row → k + length row ≤ m → NodeFits join s weight (suc t) m sent (merges join s layouts n now x o)
      merged_fits now row None e to room = now_fits
      merged_fits now row (Some r) e to room =
          let fits = to r e in
          let w = read_weight row r e fits in
          let good : IsGood s P r = record { proper = bounded.laws.spelled_is_proper r row ((bounded.laws.reads_back r row).0 e); has = fits } in
          elim (is_given layouts x.view n (partition_of s r)) as (λ b. NodeFits join s weight (suc t) m sent (cond b (accepts join s now x r None) x)) [
            | true ↦ node_later t (k + weight r) (suc t) m _ (omega arith) (omega (arith, w, room)) (accepts_fits now k x r None good tt i f)
            | false ↦ now_fits
          ]

      tomb_fits : (now from number round : ℕ) (row : List ℕ) → ReadsTo join s P Short row → k + length row ≤ m → Fits (takes_tomb join s layouts n now x from number round row)
      tomb_fits now from number round row to room =
          answers_fit (merges join s layouts n now x (s.read row)) from (Tombed number round (newest layouts.reading x.view)) (64 + 0) (merged_fits now row (s.read row) refl to room) refl (omega arith) tt

      collects_fit : (now : ℕ) → Fits (collects join s layouts n now x)
      collects_fit now =
          let all = rows_of join s x.accepted in
          let rs = object_rows join s x in
          let good : AllByRecursion (IsGood s P) rs = all_filter (IsGood s P) (λ (r : R). s.table r == 1) all (rows_good (rules_of bounded) x.accepted i.accepted) in
          let start : Progress R Layout = record { gc = with_rows join s layouts x x.gc; posts = []; begun = 0 } in
          let none : x.gc.begun ≤ 0 + x.gc.begun = omega arith in
          let end = goes_all bounded (λ (p : Mail R). PacketBeside p.packet) (λ to number round row. tt) n now (newest layouts.reading x.view) x.gc.begun 0 rs start good (record { begun = none; cost = costs_nothing (128 * 0); each = tt }) in
          let few = total_filter weight (λ (r : R). s.table r == 1) all in
          let was : load join s weight x.accepted + x.queued ≤ k = f.counted in
          let before = f.collections in
          let o = (progress join s layouts n now x).gc in
          let more = length (progress join s layouts n now x).posts in
          let begun : o.begun ≤ more + x.gc.begun = end.begun in
          record {
            after = more + sent;
            low = itself (more + sent);
            node = record { counted = now_fits.counted; listed = f.listed; small = f.small; rounds = now_fits.rounds; phases = now_fits.phases; blocks = f.blocks; collections = omega (arith, begun, before); round = f.round };
            spelled = all_spelled bounded (looked_at join s layouts now x) (all_filter (IsGood s P) _ rs good);
            cost = costs_more _ (128 * (total weight rs + 0)) mail_limit end.cost (omega (arith, few, was, grows, top));
            beside = end.each;
          }

      hears_fits : (now from : ℕ) (msg : Message R) → IsMessage join s P Short g from n msg → MessageBeside msg → ((b : ℕ) → size s msg ≡ Some b → k + b ≤ m) → Fits (hears join s layouts n now x from msg)
      hears_fits now from (Get request phase at table key) is beside room = here from request phase at _ (gives_row_fits from request phase table key (row_at join s x.accepted table key) refl (row_found (rules_of bounded) x.accepted table key i.accepted))
      hears_fits now from (Row request phase row) is beside room = in_call request phase (λ c. row_came join x c from row c.present) (call_at x.calls request) refl (λ c low. row_fits c low from row c.present)
      hears_fits now from (Range request phase at bucket prefix after) is beside room = here from request phase at _ (gives_rows_fit from request phase (bucket.0 ++ prefix) (bucket.0 ++ after))
      hears_fits now from (Rows request phase rs more) is beside room = in_call request phase (λ c. rows_came join s x c from rs more c.present) (call_at x.calls request) refl (λ c low. rows_fit c low from rs more c.present)
      hears_fits now from (Store tag named p bs) is beside room =
          let sum : total stored_length bs ≡ sum_by stored_length bs = is_sum_by (total stored_length) stored_length refl (λ y ys. refl) bs in
          let low : k + (64 + sum_by stored_length bs) ≤ m = room (64 + sum_by stored_length bs) refl in
          takes_fits now from tag named p bs is beside (omega arith)
      hears_fits now from (Stored tag) is beside room = confirms_fit from tag
      hears_fits now from (Behind tag new) is beside room = rests
      hears_fits now from (NotHere tag) is beside room = rests
      hears_fits now from (BlockGet request phase at hash) is beside room = here from request phase at _ (gives_block_fits from request phase (block_at x.blocks hash.0) (block_short x.blocks hash.0 f.blocks))
      hears_fits now from (Block request phase bytes) is beside room = in_call request phase (λ c. block_came x c bytes c.present) (call_at x.calls request) refl (λ c low. block_fits c low bytes c.present)
      hears_fits now from (NoBlock request phase) is beside room = rests
      hears_fits now from (AsksValue tag named p table prefix hash) is beside room = let low = room (64 + (length prefix + 32)) refl in compares_fits from tag named p table prefix hash (omega (arith, low))
      hears_fits now from (HasSame tag table prefix) is beside room = walks_fit from tag table prefix None
      hears_fits now from (Differ tag table prefix pairs) is beside room = walks_fit from tag table prefix (Some pairs)
      hears_fits now from (Tomb number round row) is beside room = let low = room (64 + length row) refl in tomb_fits now from number round row is (omega (arith, low))
      hears_fits now from (Tombed number round named) is beside room = tombed_fits now from number round named
      hears_fits now from (Forget table key hash) is beside room = forgets_row_fits table key (has_digest join s hash.0) (row_at join s x.accepted table key)

      -- a packet comes
      pub receives_fits : (now from : ℕ) (p : Packet R Layout) → IsPacket join s P Short g from n p → PacketBeside p → ((b : ℕ) → packet_size s p ≡ Some b → k + b ≤ m) → Fits (receives join s layouts n now x from p)
      receives_fits now from (says msg) is beside room = hears_fits now from msg is beside room
      receives_fits now from (shows view) is beside room = quiets _ (node_later t k (suc t) m _ (omega arith) grows (sees_fits now k x (merged layouts.reading x.view view) i f))

      -- ---- a node acts

      parts_did : (y : Machine R) (number : ℕ) (nodes : Part → List ℕ) (parts : List Part) → NodeFits join s weight (suc t) m sent y → ArePartsOf 0 parts → ((part : Part) → length part.set ≤ 3 → length (nodes part) ≤ 3) →
          Fits (record (quiet y) { posts = starts join s layouts x number (walks_of join s x nodes parts); is_spelled = are_spelled join s layouts x parts })
      parts_did y number nodes parts h are few =
          let was : load join s weight x.accepted + x.queued ≤ k = f.counted in
          record {
            after = sent;
            low = omega arith;
            node = h;
            spelled = parts_spelled bounded x i.accepted f.blocks parts;
            cost = costs_more _ (120000 * load join s weight x.accepted) mail_limit (parts_cost bounded x i.accepted f.blocks number nodes parts are few) (omega arith);
            beside = starts_beside x f.blocks number (walks_of join s x nodes parts);
          }

      open_few : (round : Round) (part : Part) → length part.set ≤ 3 → length (open_nodes round part) ≤ 3
      open_few round part h = let a = filter_fewer (λ n. not (is_among n (confirmed_for part.partition round.confirmed))) part.set in omega arith

      begin_fits : Fits (begin_round join s layouts n x)
      begin_fits =
          let at = read_version layouts.reading x.view in
          let parts = parts_of join s layouts n x (layout_at layouts.reading x.view at) (layout_at layouts.reading x.view (suc at)) in
          let round : Round = record { number = suc x.rounds; target = suc at; parts = parts; confirmed = map (λ (part : Part). record { partition = part.partition; node = n }) parts; walks = walks_of join s x (other_nodes join s layouts n) parts } in
          let are : ArePartsOf 0 parts = parts_are join s n x (layout_at layouts.reading x.view at) (layout_at layouts.reading x.view (suc at)) (layout_fits x.view at views) (layout_fits x.view (suc at) views) in
          let rounds = f.rounds in
          let more : NodeFits join s weight (suc t) m sent (record x { rounds = suc x.rounds; lasting = None }) = record { counted = now_fits.counted; listed = f.listed; small = f.small; rounds = omega arith; phases = now_fits.phases; blocks = f.blocks; collections = f.collections; round = f.round } in
          parts_did (goes_on join s layouts n (record x { rounds = suc x.rounds; lasting = None }) round) (suc x.rounds) (other_nodes join s layouts n) parts (goes_fits m (suc t) (record x { rounds = suc x.rounds; lasting = None }) round are more) are (λ part low. let a = filter_fewer (λ m. not (m == n)) part.set in omega arith)

      syncs_fit : (o : Option Round) → RoundFits o → Fits (syncs join s layouts n x o).did
      syncs_fit (Some round) h =
          parts_did (goes_on join s layouts n x (walked_anew join s layouts x round)) round.number (open_nodes round) (filled_parts join s layouts x round)
          (goes_fits m (suc t) x (walked_anew join s layouts x round) h now_fits) (parts_filter _ 0 (open_parts round) (parts_filter _ 0 round.parts h)) (open_few round)
      syncs_fit None h = by_test (may_sync join s layouts n x.view) _ _
        where
          by_test : (b : Bool) (how other : LocalEnd) → Fits (cond {A = Acted R Layout} b (record { did = begin_round join s layouts n x; how = how }) (record { did = quiet x; how = other })).did
          by_test true how other = begin_fits
          by_test false how other = rests

      viewed : (view : View Layout) → Fits (quiet (record x { view = view }))
      viewed view = quiets (record x { view = view }) (record { counted = now_fits.counted; listed = f.listed; small = f.small; rounds = now_fits.rounds; phases = now_fits.phases; blocks = f.blocks; collections = f.collections; round = f.round })

      -- a node does something by itself
      pub acts_fit : (now : ℕ) (action : Action) → Fits (acts join s layouts n now x action).did
      acts_fit now RaiseAck = viewed _
      acts_fit now GoOn = syncs_fit x.round f.round
      acts_fit now RaiseSyncAck = viewed _
      acts_fit now CleanUp = quiets _ (node_later t k (suc t) m _ (omega arith) grows (sees_fits now k x (cleaned layouts.reading x.view) i f))
      acts_fit now WorkOff =
          let listed : length x.items ≤ x.queued = f.listed in
          let was : load join s weight x.accepted + x.queued ≤ k = f.counted in
          record {
            after = sent;
            low = omega arith;
            node = record { counted = now_fits.counted; listed = f.listed; small = f.small; rounds = now_fits.rounds; phases = now_fits.phases; blocks = all_filter (λ (b : machine.Block). IsShort b.bytes) _ x.blocks f.blocks; collections = f.collections; round = f.round };
            spelled = items_spelled bounded x.items i.items;
            cost = costs_more _ (38400 * length x.items) mail_limit (items_cost bounded x.view x.items views i.items f.small) (omega arith);
            beside = items_beside x.view x.items;
          }
      acts_fit now Mend =
          let l = layout_at layouts.reading x.view (newest layouts.reading x.view) in
          let h = layout_fits x.view (newest layouts.reading x.view) views in
          let rounds = f.rounds in
          parts_did (record x { rounds = suc x.rounds; mending = Some (record { number = suc x.rounds; walks = walks_of join s x (other_nodes join s layouts n) (parts_of join s layouts n x l l) }) }) (suc x.rounds) (other_nodes join s layouts n) (parts_of join s layouts n x l l)
          (record { counted = now_fits.counted; listed = f.listed; small = f.small; rounds = omega arith; phases = now_fits.phases; blocks = f.blocks; collections = f.collections; round = f.round }) (parts_are join s n x l l h h) (λ part low. let a = filter_fewer (λ m. not (m == n)) part.set in omega arith)
      acts_fit now Gather = collects_fit now

      -- ---- phases

      stores_cost : (request phase slot : ℕ) (rs : List (R × Option (List ℕ))) → AllByRecursion (StoredFits P weight) rs → Costs s (stores s layouts x.view request phase slot rs) (300000000400000000 * length rs)
      stores_cost request phase slot [] a = costs_nothing (300000000400000000 * 0)
      stores_cost request phase slot (r ∷ rs) a =
          let p = partition_of s r.0 in
          let msg : Message R = Store (ForCall request phase slot) (newest layouts.reading x.view) p ((bytes_of s r.0, r.1) ∷ []) in
          let bytes = bytes_are bounded r.0 a.0.0 in
          let w = a.0.1 in
          let beside : block_length r.1 ≤ 1048576 = by_block r.1 a.0.2 in
          let c = 64 + (0 + stored_length (bytes_of s r.0, r.1)) in
          let here : Costs s (to_each (nodes_of (stored_sets layouts x.view p)) msg) (1000000001200000 * 300) = costs_few (nodes_of (stored_sets layouts x.view p)) msg c 1000000001200000 300 refl (omega arith) (nodes_few x.view p views) in
          costs_more _ (1000000001200000 * 300 + 300000000400000000 * length rs) (300000000400000000 * suc (length rs)) (costs_both (to_each (nodes_of (stored_sets layouts x.view p)) msg) (stores s layouts x.view request phase (suc slot) rs) _ _ here (stores_cost request phase (suc slot) rs a.1)) (omega arith)
        where
          by_block : (o : Option (List ℕ)) → IsShortBlock o → block_length o ≤ 1048576
          by_block None h = omega arith
          by_block (Some b) h = h.short

      stores_beside : (request phase slot : ℕ) (rs : List (R × Option (List ℕ))) → AllByRecursion (StoredFits P weight) rs → AllByRecursion (λ (p : Mail R). PacketBeside p.packet) (stores s layouts x.view request phase slot rs)
      stores_beside request phase slot [] a = tt
      stores_beside request phase slot (r ∷ rs) a =
          let p = partition_of s r.0 in
          let msg : Message R = Store (ForCall request phase slot) (newest layouts.reading x.view) p ((bytes_of s r.0, r.1) ∷ []) in
          all_append (λ (p : Mail R). PacketBeside p.packet) (to_each (nodes_of (stored_sets layouts x.view p)) msg) (stores s layouts x.view request phase (suc slot) rs)
          (each_beside (nodes_of (stored_sets layouts x.view p)) msg (a.0.2, tt)) (stores_beside request phase (suc slot) rs a.1)

      stored_spelled : (rs : List (R × Option (List ℕ))) → AllByRecursion (StoredFits P weight) rs → list_all (λ (r : R × Option (List ℕ)). is_spelled s r.0) rs ≡ true
      stored_spelled [] a = refl
      stored_spelled (r ∷ rs) a = and_both (is_spelled s r.0) (list_all (λ (r : R × Option (List ℕ)). is_spelled s r.0) rs) (spelled_so bounded r.0 a.0.0) (stored_spelled rs a.1)

      phase_node : (c : Call R) (p : Present R) → c.phases ≤ t → NodeFits join s weight (suc t) m sent (calls_now x (record c { phases = suc c.phases; present = p }))
      phase_node c p low = record {
        counted = now_fits.counted;
        listed = now_fits.listed;
        small = f.small;
        rounds = now_fits.rounds;
        phases = phases_with (suc t) (record c { phases = suc c.phases; present = p }) x.calls (omega arith) now_fits.phases;
        blocks = f.blocks;
        collections = f.collections;
        round = f.round;
      }

      asks_fit : (c : Call R) (p : Present R) (set : List ℕ) (msg : Message R) (b : ℕ) → c.phases ≤ t → length set ≤ 3 → size s msg ≡ Some b → b ≤ 264 → MessageBeside msg → Fits (record (quiet (calls_now x (record c { phases = suc c.phases; present = p }))) { posts = to_each set msg })
      asks_fit c p set msg b low few e h beside = record {
        after = sent;
        low = omega arith;
        node = phase_node c p low;
        spelled = refl;
        cost = costs_more _ (264 * 3) mail_limit (costs_few set msg b 264 3 e h few) (omega arith);
        beside = each_beside set msg beside;
      }

      -- a phase of a request begins
      pub begins_fit : (kept : List R) (c : Call R) (phase : Phase R) → c.phases ≤ t → PhaseFits P weight phase → Fits (begins s layouts kept x c phase)
      begins_fit kept c (Read table position key) low h =
          let at = read_version layouts.reading x.view in
          let set = set_at layouts x.view at (partition_at position.0) in
          asks_fit c _ set (Get c.request (suc c.phases) at table key) (64 + length key) low (set_few (layout_at layouts.reading x.view at) (partition_at position.0) (layout_fits x.view at views)) refl (omega arith) tt
      begins_fit kept c (Scans position prefix after) low h =
          let at = read_version layouts.reading x.view in
          let set = set_at layouts x.view at (partition_at position.0) in
          let one = h.1 in
          let two = h.2 in
          asks_fit c _ set (Range c.request (suc c.phases) at position prefix after) (64 + (length prefix + length after)) low (set_few (layout_at layouts.reading x.view at) (partition_at position.0) (layout_fits x.view at views)) refl (omega arith) tt
      begins_fit kept c (Keeps rs) low h =
          let few = h.0 in
          record {
            after = sent;
            low = omega arith;
            node = phase_node c (storing (map (λ (r : R × Option (List ℕ)). r.0) rs) (slots_of s layouts x.view rs)) low;
            spelled = stored_spelled rs h.1;
            cost = costs_more _ (300000000400000000 * length rs) mail_limit (stores_cost c.request (suc c.phases) 0 rs h.1) (omega arith);
            beside = stores_beside c.request (suc c.phases) 0 rs h.1;
          }
      begins_fit kept c (Fetches hash) low h =
          let at = read_version layouts.reading x.view in
          let set = set_at layouts x.view at (partition_at hash.0) in
          asks_fit c _ set (BlockGet c.request (suc c.phases) at hash) (64 + 0) low (set_few (layout_at layouts.reading x.view at) (partition_at hash.0) (layout_fits x.view at views)) refl (omega arith) tt
