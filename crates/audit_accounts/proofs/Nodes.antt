-- The nodes and layout versions that a node's messages, walks and entries name are numbers of the code.
use Rattle.std.proofs.Common.{◌≡◌, ◌≤◌, ◌<◌, ◌+◌, ◌^◌, ℕ, zero, suc, min, Bool, true, false, not, ◌==◌, ◌&&◌, leb, nat_lt, cond, if◌then◌else◌, Option, Some, None, List, [], ◌∷◌, ◌++◌, length, map, refl, sym, ap, subst, ◌∙◌, length-append, arith}
use Rattle.std.specs.Prelude.{⊤, is_some, slice_get, sum_by}
use Rattle.std.specs.List.{AllByRecursion, filter, find, flat_map, fold}
use Rattle.std.specs.Option.{unwrap_or}
use Rattle.std.proofs.lemmas.Bool.{and_parts, eqb-true, eqb-false, leb-true}
use Rattle.crdt_core.proofs.Each.{all_append}
use Rattle.blake2_hash.specs.declared.digest.Hash32.{Hash32}
use Rattle.layout_roles.specs.declared.layout.Layout.{Layout}
use Rattle.layout_trackers.specs.declared.trackers.Trackers.{Trackers}
use Rattle.layout_trackers.specs.declared.which.Which.{Which}
use Rattle.layout_trackers.specs.declared.which.Which.TheVariants.{Ack, Sync, SyncAck}
use Rattle.layout_trackers.specs.Trackers.{no_trackers, entry, raised, trackers_join}
use Rattle.layout_trackers.specs.Entries.{later}
use Rattle.layout_trackers.specs.Least.{lesser}
use Rattle.layout_trackers.proofs.EntriesGrow.{entry-joined, entry-raised, entry-raised_alone}
use Rattle.view_model.specs.Layouts.{reading}
use Rattle.view_model.specs.View.{View, greatest, oldest, newest, first_version, layout_at, version_of, members_stored, ack_least, read_version, is_readable, merged, cleaned}
use Rattle.crdt_rows.specs.declared.any_row.AnyRow.{AnyRow}
use Rattle.crdt_rows.specs.AnyRow.{any_join}
use Rattle.crdt_rows.specs.declared.any_row.AnyRow.TheVariants as rows
use Rattle.row_codec.specs.Spelling.{spelled}
use Rattle.row_codec.specs.RowLaws.{read_takes}
use Rattle.object_schema.specs.Schema.{words}
use Rattle.quorum_model.specs.Quorum.{is_among, StoreSlot, with_confirmation, is_kept}
use Rattle.quorum_model.specs.Window.{Window}
use Rattle.quorum_model.specs.Answers.{first_two_at}
use Rattle.quorum_model.specs.declared.range.RangeAnswer.{RangeAnswer}
use Rattle.table_model.specs.Rows.{row_at}
use Rattle.table_schema.specs.Words.{partition_of, partition_at}
use Rattle.gc_model.specs.declared.collection.Collection.{Collection}
use Rattle.gc_model.specs.declared.collection.GcEnd.{GcEnd}
use Rattle.gc_model.specs.declared.collection.GcEnd.TheVariants.{Wait, Closed, Complete}
use Rattle.gc_model.specs.Rounds.{is_closed}
use Rattle.gc_model.specs.Collecting.{Open, numbered as numbered_open, keyed, has_confirmed, missing_of, opened as opened_one, begun_with, in_second, changed, closed, told as told_one, answer_end, answered}
use Rattle.walk_model.specs.Walking.{is_open}
use Rattle.walk_model.specs.Noting.{is_noted}
use Rattle.wire_messages.specs.Size.{stored_length}
use Rattle.wire_messages.specs.declared.message.Message.{Message}
use Rattle.wire_messages.specs.declared.message.Message.TheVariants.{Get, Row, Range, Rows, Store, Stored, Behind, NotHere, BlockGet, Block, NoBlock, Walk as AsksValue, Same as HasSame, Differ, Tomb, Tombed, Forget}
use Rattle.wire_messages.specs.declared.message.Tag.{Tag}
use Rattle.wire_messages.specs.declared.message.Tag.TheVariants.{Call as ForCall, Round as ForRound, Item as ForItem}
use Rattle.wire_messages.specs.declared.phase.Phase.{Phase}
use Rattle.wire_messages.specs.declared.phase.Phase.TheVariants.{Read, Range as Scans, Store as Keeps, Block as Fetches}
use Rattle.cluster_machine.specs.declared.step.Action.{Action}
use Rattle.cluster_machine.specs.declared.step.Action.TheVariants.{Ack as RaiseAck, Sync as GoOn, SyncAck as RaiseSyncAck, Clean as CleanUp, Work as WorkOff, Repair as Mend, Collect as Gather}
use Rattle.cluster_machine.specs.declared.step.LocalEnd.TheVariants.{At, Idle as IsIdle}
use Rattle.cluster_machine.specs.Layouts.{layouts, set_of, set_in, set_at, stored_sets, is_given, is_stored}
use Rattle.cluster_machine.specs.Node.{Question, Scan, Present, resting, asking, scanning, storing, fetching, Call, Item, Part, Walk, Round, Mending, Node, Packet, says, shows, Post, Did, quiet}
use Rattle.cluster_machine.specs.Rows.{block_at, has_block, block_of, blocks_after, still, accepts, accepts_read, accepts_all, drops, sees}
use Rattle.cluster_machine.specs.Phases.{bytes_of, is_spelled, with_node, in_order, nodes_of, call_at, to_each, calls_now, asked, looked, stored, stores, begins, value_after, row_came, window_at, rows_came, stored_came, block_came, at_call}
use Rattle.cluster_machine.specs.Rounds.{confirmed_for, is_complete, open_nodes, walk_at, is_walk, without_walk, with_walk, has_ended, walks_after, found_same, rows_at, walk_after, asked_after, walk_with, walks_of, asks_at, first_asks, starts, pushes_rows, sends_after, parts_of, synced, goes_on, may_sync, begin_round, other_nodes, filled_parts, open_parts, new_walks, walked_anew, again, repairs, round_walks, mending_walks, at_walk, mending_came, with_mending, with_lasting, late_came, answer_came}
use Rattle.cluster_machine.specs.Collects.{collection_pause, all_nodes, others, is_aged, Progress, object_rows, has_bytes, has_digest, forgets_row, drops_row, merges, finishes, answered_to, goes_on_with, about, about_all, with_rows, progress}
use Rattle.cluster_machine.specs.Receives.{answers, where_stored, gives_row, gives_block, takes, compares, walks_on, round_came, confirms, hears, receives}
use Rattle.cluster_machine.specs.Node as machine
use Rattle.cluster_machine.specs.World.{packet_size}
use Rattle.cluster_machine.specs.Acts.{Acted, is_due, stays, least_start, item_posts, raises, syncs, acts}
use Rattle.cluster_machine.specs.Step.{told}
use Rattle.machine_origins.proofs.Lists.{all_filter, all_found}
use Rattle.machine_limits.proofs.Posts.{filter_fewer}
use Rattle.machine_limits.proofs.Totals.{total}
use Rattle.std.proofs.lemmas.List.{length-map}
use Rattle.std.proofs.lemmas.List.Recursion.{is_sum_by}
use Rattle.audit_model.specs.Lines.{IsNumber, AreNumbers, AreBelow, answer_numbers}

abbrev Machine : Type 0
Machine = Node AnyRow Layout

-- ---- entries

abbrev pub IsLow : Option ℕ → Type 0
IsLow None = ⊤
IsLow (Some v) = v ≤ 100

-- no entry of these trackers is above 100
abbrev pub EntriesLow : Trackers → Type 0
EntriesLow t = (which : Which) (node : ℕ) → IsLow (entry which node t)

later_low : (a b : Option ℕ) → IsLow a → IsLow b → IsLow (later a b)
later_low None b h k = k
later_low (Some a) None h k = h
later_low (Some a) (Some b) h k = omega arith

pub none_low : EntriesLow no_trackers
none_low Ack node = tt
none_low Sync node = tt
none_low SyncAck node = tt

joined_low : (a b : Trackers) → EntriesLow a → EntriesLow b → EntriesLow (trackers_join a b)
joined_low a b h k which node = subst IsLow (sym (entry-joined which node a b)) (later_low (entry which node a) (entry which node b) (h which node) (k which node))

own_low : (which : Which) (id i : ℕ) (t : Trackers) → i ≤ 100 → EntriesLow t → (node : ℕ) → IsLow (entry which node (raised which id i t))
own_low which id i t low h node =
    elim (node == id) as (λ b. (node == id) ≡ b → IsLow (entry which node (raised which id i t))) [
      | true ↦ λ e. subst (λ m. IsLow (entry which m (raised which id i t))) (sym (eqb-true node id e)) (subst IsLow (sym (entry-raised which id i t)) (later_low (entry which id t) (Some i) (h which id) low))
      | false ↦ λ e. subst IsLow (sym (entry-raised_alone which which id node i t (eqb-false node id e))) (h which node)
    ] refl

raised_low : (which : Which) (id i : ℕ) (t : Trackers) → i ≤ 100 → EntriesLow t → EntriesLow (raised which id i t)
raised_low Ack id i t low h Ack node = own_low Ack id i t low h node
raised_low Ack id i t low h Sync node = h Sync node
raised_low Ack id i t low h SyncAck node = h SyncAck node
raised_low Sync id i t low h Ack node = h Ack node
raised_low Sync id i t low h Sync node = own_low Sync id i t low h node
raised_low Sync id i t low h SyncAck node = h SyncAck node
raised_low SyncAck id i t low h Ack node = h Ack node
raised_low SyncAck id i t low h Sync node = h Sync node
raised_low SyncAck id i t low h SyncAck node = own_low SyncAck id i t low h node

or_low : (o : Option ℕ) (missing : ℕ) → IsLow o → missing ≤ 100 → unwrap_or o missing ≤ 100
or_low None missing h low = low
or_low (Some v) missing h low = h

-- ---- layouts

-- each layout has a version of 100 at most, and sets of nodes that are numbers of the code
pub record LayoutNamed (l : Layout) : Type 0 where
  pub version : l.version ≤ 100
  pub sets : AllByRecursion AreNumbers l.sets.sets

pub record ViewNamed (v : View Layout) : Type 0 where
  pub entries : EntriesLow v.trackers
  pub newest : newest reading v ≤ 100
  pub layouts : AllByRecursion LayoutNamed v.layouts

abbrev OptionNamed : Option Layout → Type 0
OptionNamed None = ⊤
OptionNamed (Some l) = LayoutNamed l

set_named : (sets : List (List ℕ)) (p : ℕ) → AllByRecursion AreNumbers sets → AreNumbers (unwrap_or (slice_get sets p) [])
set_named [] p h = tt
set_named (s ∷ sets) zero h = h.0
set_named (s ∷ sets) (suc p) h = set_named sets p h.1

set_in_named : (o : Option Layout) (p : ℕ) → OptionNamed o → AreNumbers (set_in layouts o p)
set_in_named None p h = tt
set_in_named (Some l) p h = set_named l.sets.sets p h.sets

found_named : (i : ℕ) (ls : List Layout) → AllByRecursion LayoutNamed ls → OptionNamed (find (λ l. l.version == i) ls)
found_named i [] h = tt
found_named i (l ∷ ls) h = elim (l.version == i) as (λ b. OptionNamed (cond b (Some l) (find (λ l. l.version == i) ls))) [ true ↦ h.0 | false ↦ found_named i ls h.1 ]

layout_named : (v : View Layout) (i : ℕ) → ViewNamed v → OptionNamed (layout_at reading v i)
layout_named v i h = found_named i v.layouts h.layouts

with_named : (n : ℕ) (ns : List ℕ) → IsNumber n → AreNumbers ns → AreNumbers (with_node n ns)
with_named n [] h k = (h, tt)
with_named n (m ∷ ms) h k =
    elim (n == m) as (λ b. AreNumbers (cond b (m ∷ ms) (cond (nat_lt n m) (n ∷ m ∷ ms) (m ∷ with_node n ms)))) [
      | true ↦ k
      | false ↦ (elim (nat_lt n m) as (λ b. AreNumbers (cond b (n ∷ m ∷ ms) (m ∷ with_node n ms))) [ true ↦ (h, k) | false ↦ (k.0, with_named n ms h k.1) ])
    ]

order_named : (ns : List ℕ) → AreNumbers ns → AreNumbers (in_order ns)
order_named [] h = tt
order_named (n ∷ ns) h = with_named n (in_order ns) h.0 (order_named ns h.1)

sets_named : (p : ℕ) (ls : List Layout) → AllByRecursion LayoutNamed ls → AreNumbers (flat_map (λ (set : List ℕ). set) (map (λ l. set_of layouts l p) ls))
sets_named p [] h = tt
sets_named p (l ∷ ls) h = all_append IsNumber (set_of layouts l p) (flat_map (λ (set : List ℕ). set) (map (λ l. set_of layouts l p) ls)) (set_in_named (Some l) p h.0) (sets_named p ls h.1)

nodes_named : (v : View Layout) (p : ℕ) → ViewNamed v → AreNumbers (nodes_of (stored_sets layouts v p))
nodes_named v p h = order_named (flat_map (λ (set : List ℕ). set) (stored_sets layouts v p)) (sets_named p v.layouts h.layouts)

-- ---- versions

first_low : (ls : List Layout) → AllByRecursion LayoutNamed ls → first_version reading ls ≤ 100
first_low [] h = omega arith
first_low (l ∷ ls) h = h.0.version

greatest_within : (f : ℕ → Bool) (n : ℕ) → greatest f n ≤ n
greatest_within f zero = omega arith
greatest_within f (suc n) = let rest = greatest_within f n in elim (f (suc n)) as (λ b. cond b (suc n) (greatest f n) ≤ suc n) [ true ↦ omega arith | false ↦ omega arith ]

read_low : (v : View Layout) → ViewNamed v → read_version reading v ≤ 100
read_low v h = let a = greatest_within (is_readable reading v) (newest reading v) in let b = h.newest in omega arith

starts_low : (i : ℕ) (cs : List (Call AnyRow)) → i ≤ 100 → least_start i cs ≤ 100
starts_low i [] h = h
starts_low i (c ∷ cs) h = let rest = starts_low i cs h in omega arith

version_low : (which : Which) (v : View Layout) (node : ℕ) → ViewNamed v → version_of reading which v node ≤ 100
version_low which v node h = or_low (entry which node v.trackers) (oldest reading v) (h.entries which node) (first_low v.layouts h.layouts)

folded_low : (o : Option ℕ) (xs : List ℕ) → IsLow o → AllByRecursion (λ x. x ≤ 100) xs → IsLow (fold lesser o xs)
folded_low o [] h all = h
folded_low None (x ∷ xs) h all = folded_low (Some x) xs all.0 all.1
folded_low (Some a) (x ∷ xs) h all = folded_low (Some (min a x)) xs (omega arith) all.1

versions_low : (which : Which) (v : View Layout) (ns : List ℕ) → ViewNamed v → AllByRecursion (λ x. x ≤ 100) (map (version_of reading which v) ns)
versions_low which v [] h = tt
versions_low which v (n ∷ ns) h = (version_low which v n h, versions_low which v ns h)

ack_low : (v : View Layout) → ViewNamed v → ack_least reading v ≤ 100
ack_low v h =
    let all : List ℕ = map (version_of reading Ack v) (members_stored reading v) in
    or_low (fold lesser None all) 0 (folded_low None all tt (versions_low Ack v (members_stored reading v) h)) (omega arith)

-- ---- nodes

abbrev WalkNamed : Walk → Type 0
WalkNamed w = IsNumber w.node

abbrev PartNamed : Part → Type 0
PartNamed part = AreNumbers part.set

abbrev WalksNamed : Option Mending → Type 0
WalksNamed None = ⊤
WalksNamed (Some mending) = AllByRecursion WalkNamed mending.walks

-- an open round leads to a version of 100 at most, and its sets and walks name nodes
pub record IsRound (round : Round) : Type 0 where
  pub target : round.target ≤ 100
  pub parts : AllByRecursion PartNamed round.parts
  pub walks : AllByRecursion WalkNamed round.walks

abbrev RoundNamed : Option Round → Type 0
RoundNamed None = ⊤
RoundNamed (Some round) = IsRound round

-- as many collections are open at most as ever began
abbrev pub FewOpen : Open → Type 0
FewOpen o = length o.collections ≤ o.begun

-- what a node names by itself, which has so many blocks at most
pub record NodeNamed (k : ℕ) (x : Machine) : Type 0 where
  pub blocks : length x.blocks ≤ k
  pub entries : EntriesLow x.view.trackers
  pub round : RoundNamed x.round
  pub mending : WalksNamed x.mending
  pub lasting : WalksNamed x.lasting
  pub few_open : FewOpen x.gc

-- a delete marker has numbers of the code
abbrev pub MarkNamed : Option (ℕ × ℕ) → Type 0
MarkNamed None = ⊤
MarkNamed (Some version) = IsNumber version.0 × IsNumber version.1

-- so have those that rows of a node have alone
abbrev pub MarksNamed : Machine → Type 0
MarksNamed x = (table : ℕ) (key : List ℕ) (r : AnyRow) → row_at any_join words x.accepted table key ≡ Some r → MarkNamed (words.marker r)

abbrev pub PacketNamed : Packet AnyRow Layout → Type 0
PacketNamed (says m) = ⊤
PacketNamed (shows v) = EntriesLow v.trackers

abbrev pub PostNamed : Post AnyRow Layout → Type 0
PostNamed p = IsNumber p.to × PacketNamed p.packet

-- what a node has done
pub record DidNamed (k : ℕ) (d : Did AnyRow Layout) : Type 0 where
  pub node : NodeNamed k d.node
  pub posts : AllByRecursion PostNamed d.posts
  pub dropped : MarkNamed d.dropped

-- ---- messages

each_named : (nodes : List ℕ) (m : Message AnyRow) → AreNumbers nodes → AllByRecursion PostNamed (to_each nodes m)
each_named [] m h = tt
each_named (n ∷ nodes) m h = ((h.0, tt), each_named nodes m h.1)

module _ (x : Machine) where
  rows_named : (number p : ℕ) (nodes : List ℕ) (rs : List AnyRow) → AreNumbers nodes → AllByRecursion PostNamed (pushes_rows any_join words layouts x number p nodes rs)
  rows_named number p nodes [] h = tt
  rows_named number p nodes (r ∷ rs) h = each_named nodes _ h

  asks_named : (number p to table : ℕ) (prefixes : List (List ℕ)) → IsNumber to → AllByRecursion PostNamed (map (asks_at any_join words layouts x number p to table) prefixes)
  asks_named number p to table [] h = tt
  asks_named number p to table (prefix ∷ prefixes) h = ((h, tt), asks_named number p to table prefixes h)

  first_named : (number p to : ℕ) (prefixes : List (ℕ × List ℕ)) → IsNumber to → AllByRecursion PostNamed (map (λ (o : ℕ × List ℕ). asks_at any_join words layouts x number p to o.0 o.1) prefixes)
  first_named number p to [] h = tt
  first_named number p to (o ∷ prefixes) h = ((h, tt), first_named number p to prefixes h)

  starts_named : (number : ℕ) (walks : List Walk) → AllByRecursion WalkNamed walks → AllByRecursion PostNamed (starts any_join words layouts x number walks)
  starts_named number [] h = tt
  starts_named number (w ∷ walks) h =
      all_append PostNamed (first_asks any_join words layouts x number w) (starts any_join words layouts x number walks) (first_named number w.state.partition w.node w.state.prefixes h.0) (starts_named number walks h.1)

  after_named : (number : ℕ) (w : Walk) (table : ℕ) (asked : List (List ℕ)) → IsNumber w.node → AllByRecursion PostNamed (sends_after any_join words layouts x number w table asked)
  after_named number w table asked h =
      elim (has_ended w) as (λ b. AllByRecursion PostNamed (cond b (pushes_rows any_join words layouts x number w.state.partition (w.node ∷ []) (filter (is_noted words w.state.noted) (rows_at any_join words x w.state.partition))) (map (asks_at any_join words layouts x number w.state.partition w.node table) asked))) [
        | true ↦ rows_named number w.state.partition (w.node ∷ []) _ (h, tt)
        | false ↦ asks_named number w.state.partition w.node table asked h
      ]

  stores_named : (v : View Layout) → ViewNamed v → (request phase slot : ℕ) (rs : List (AnyRow × Option (List ℕ))) → AllByRecursion PostNamed (stores words layouts v request phase slot rs)
  stores_named v h request phase slot [] = tt
  stores_named v h request phase slot (r ∷ rs) =
      all_append PostNamed (to_each (nodes_of (stored_sets layouts v (partition_of words r.0))) _) (stores words layouts v request phase (suc slot) rs) (each_named (nodes_of (stored_sets layouts v (partition_of words r.0))) _ (nodes_named v (partition_of words r.0) h)) (stores_named v h request phase (suc slot) rs)

  items_named : (v : View Layout) → ViewNamed v → (items : List (Item AnyRow)) → AllByRecursion PostNamed (flat_map (item_posts any_join words layouts v) items)
  items_named v h [] = tt
  items_named v h (item ∷ items) =
      all_append PostNamed (item_posts any_join words layouts v item) (flat_map (item_posts any_join words layouts v) items) (each_named (nodes_of (stored_sets layouts v (partition_of words item.row))) _ (nodes_named v (partition_of words item.row) h)) (items_named v h items)

-- ---- walks and parts

without_named : (p n : ℕ) (walks : List Walk) → AllByRecursion WalkNamed walks → AllByRecursion WalkNamed (without_walk p n walks)
without_named p n walks h = all_filter WalkNamed (λ w. not (is_walk p n w)) walks h

walks_after_named : (w : Walk) (walks : List Walk) → WalkNamed w → AllByRecursion WalkNamed walks → AllByRecursion WalkNamed (walks_after w walks)
walks_after_named w walks h k =
    let without = without_named w.state.partition w.node walks k in
    elim (has_ended w) as (λ b. AllByRecursion WalkNamed (cond b (without_walk w.state.partition w.node walks) (with_walk w walks))) [ true ↦ without | false ↦ (h, without) ]

module _ (x : Machine) where
  new_named : (p : ℕ) (ns : List ℕ) → AreNumbers ns → AllByRecursion WalkNamed (map (walk_with any_join words x p) ns)
  new_named p [] h = tt
  new_named p (n ∷ ns) h = (h.0, new_named p ns h.1)

  walks_of_named : (nodes : Part → List ℕ) (parts : List Part) → ((part : Part) → PartNamed part → AreNumbers (nodes part)) → AllByRecursion PartNamed parts → AllByRecursion WalkNamed (walks_of any_join words x nodes parts)
  walks_of_named nodes [] each h = tt
  walks_of_named nodes (part ∷ parts) each h =
      all_append WalkNamed (map (walk_with any_join words x part.partition) (nodes part)) (walks_of any_join words x nodes parts) (new_named part.partition (nodes part) (each part h.0)) (walks_of_named nodes parts each h.1)

mapped_named : (there : Option Layout) (parts : List Part) → OptionNamed there → AllByRecursion PartNamed (map (λ (part : Part). record { partition = part.partition; set = set_in layouts there part.partition }) parts)
mapped_named there [] h = tt
mapped_named there (part ∷ parts) h = (set_in_named there part.partition h, mapped_named there parts h)

parts_named : (id : ℕ) (x : Machine) (here there : Option Layout) → OptionNamed there → AllByRecursion PartNamed (parts_of any_join words layouts id x here there)
parts_named id x here there h = mapped_named there _ h

others_named : (id : ℕ) (part : Part) → PartNamed part → AreNumbers (other_nodes any_join words layouts id part)
others_named id part h = all_filter IsNumber (λ n. not (n == id)) part.set h

open_named : (round : Round) (part : Part) → PartNamed part → AreNumbers (open_nodes round part)
open_named round part h = all_filter IsNumber (λ n. not (is_among n (confirmed_for part.partition round.confirmed))) part.set h

-- ---- what a node does

-- a node that names as another does
same_node : (k : ℕ) (x y : Machine) → NodeNamed k x → y.view ≡ x.view → y.round ≡ x.round → y.mending ≡ x.mending → y.lasting ≡ x.lasting → y.blocks ≡ x.blocks → FewOpen y.gc → NodeNamed k y
same_node k x y h view round mending lasting blocks few_open = record {
  blocks = subst (λ (bs : List machine.Block). length bs ≤ k) (sym blocks) h.blocks;
  entries = subst (λ (v : View Layout). EntriesLow v.trackers) (sym view) h.entries;
  round = subst RoundNamed (sym round) h.round;
  mending = subst WalksNamed (sym mending) h.mending;
  lasting = subst WalksNamed (sym lasting) h.lasting;
  few_open = few_open;
}

-- with more blocks
pub node_wider : (k m : ℕ) (x : Machine) → k ≤ m → NodeNamed k x → NodeNamed m x
node_wider k m x low h = let few = h.blocks in record { blocks = omega arith; entries = h.entries; round = h.round; mending = h.mending; lasting = h.lasting; few_open = h.few_open }

some_byte : (r : AnyRow) → 1 ≤ length (spelled r)
some_byte (rows.Object r) = omega arith
some_byte (rows.Version r) = omega arith
some_byte (rows.Ref r) = omega arith

-- a row is spelled by a byte at least
nothing_read : (bytes : List ℕ) (r : AnyRow) → words.read bytes ≡ Some r → 1 ≤ length bytes
nothing_read bytes r e = subst (λ (bs : List ℕ). 1 ≤ length bs) (sym (read_takes bytes r e).0) (some_byte r)

blocks_more : (blocks : List machine.Block) (needed given : Option (List ℕ)) → length (blocks_after any_join words blocks needed given) ≤ suc (length blocks)
blocks_more blocks None given = omega arith
blocks_more blocks (Some hash) None = omega arith
blocks_more blocks (Some hash) (Some bytes) = elim (has_block blocks hash) as (λ b. length (cond b blocks (record { hash = hash; bytes = bytes } ∷ blocks)) ≤ suc (length blocks)) [ true ↦ omega arith | false ↦ omega arith ]

read_named : (k now : ℕ) (x : Machine) (bytes : List ℕ) (given : Option (List ℕ)) (o : Option AnyRow) → words.read bytes ≡ o → NodeNamed k x → NodeNamed (k + stored_length (bytes, given)) (accepts_read any_join words now x o given)
read_named k now x bytes given None e h = node_wider k (k + stored_length (bytes, given)) x (omega arith) h
read_named k now x bytes given (Some r) e h =
    let some = nothing_read bytes r e in
    let few = h.blocks in
    let before : Option AnyRow = row_at any_join words x.accepted (words.table r) (words.key r) in
    let after : Option AnyRow = row_at any_join words (r ∷ x.accepted) (words.table r) (words.key r) in
    let more = blocks_more x.blocks (block_of any_join words after) given in
    record { blocks = omega arith; entries = h.entries; round = h.round; mending = h.mending; lasting = h.lasting; few_open = h.few_open }

accepted_named : (k now : ℕ) (bs : List (List ℕ × Option (List ℕ))) (x : Machine) → NodeNamed k x → NodeNamed (k + total stored_length bs) (accepts_all any_join words now x bs)
accepted_named k now [] x h = node_wider k (k + 0) x (omega arith) h
accepted_named k now (b ∷ bs) x h =
    let one = accepts_read any_join words now x (words.read b.0) b.1 in
    let m : ℕ = k + stored_length b in
    node_wider (m + total stored_length bs) (k + total stored_length (b ∷ bs)) _ (omega arith) (accepted_named m now bs one (read_named k now x b.0 b.1 (words.read b.0) refl h))

-- a tombstone that comes brings no block
merged_named : (k id now : ℕ) (x : Machine) (row : List ℕ) (o : Option AnyRow) → words.read row ≡ o → length x.blocks + length row ≤ k → NodeNamed k x → NodeNamed k (merges any_join words layouts id now x o)
merged_named k id now x row None e room h = h
merged_named k id now x row (Some r) e room h =
    let own : NodeNamed (length x.blocks) x = record { blocks = omega arith; entries = h.entries; round = h.round; mending = h.mending; lasting = h.lasting; few_open = h.few_open } in
    let after : NodeNamed k (accepts any_join words now x r None) = node_wider (length x.blocks + stored_length (row, None)) k (accepts any_join words now x r None) (omega arith) (read_named (length x.blocks) now x row None (Some r) e own) in
    elim (is_given layouts x.view id (partition_of words r)) as (λ b. NodeNamed k (cond b (accepts any_join words now x r None) x)) [ true ↦ after | false ↦ h ]

-- nodes 1 to 16
all_named : AreNumbers all_nodes
all_named = (
  omega arith,
  (omega arith, (omega arith, (omega arith, (omega arith, (omega arith, (omega arith, (omega arith, (omega arith, (omega arith, (omega arith, (omega arith, (omega arith, (omega arith, (omega arith, (omega arith, tt))))))))))))))),
)

sees_named : (k id now : ℕ) (x : Machine) (v : View Layout) → NodeNamed k x → EntriesLow v.trackers → NodeNamed k (sees any_join words layouts id now x v)
sees_named k id now x v h low =
    let new : Machine = record x { view = v; round = still (oldest reading v) x.round } in
    let named : NodeNamed k new = record { blocks = h.blocks; entries = low; round = closes (oldest reading v) x.round h.round; mending = h.mending; lasting = h.lasting; few_open = h.few_open } in
    elim (leb (oldest reading v) (oldest reading x.view)) as (λ b. NodeNamed k (cond b new (drops any_join words layouts id now new))) [
      | true ↦ named
      | false ↦ same_node k new (drops any_join words layouts id now new) named refl refl refl refl refl h.few_open
    ]
  where
    closes : (old : ℕ) (o : Option Round) → RoundNamed o → RoundNamed (still old o)
    closes old None h = tt
    closes old (Some round) h = elim (leb round.target old) as (λ b. RoundNamed (cond b None (Some round))) [ true ↦ tt | false ↦ h ]

goes_named : (k id : ℕ) (x : Machine) (round : Round) → IsRound round → NodeNamed k x → NodeNamed k (goes_on any_join words layouts id x round)
goes_named k id x round r h = elim (is_complete round) as (λ b. NodeNamed k (cond b (synced any_join words layouts id x round) (record x { round = Some round }))) [
  | true ↦ record { blocks = h.blocks; entries = raised_low Sync id round.target x.view.trackers r.target h.entries; round = tt; mending = h.mending; lasting = r.walks; few_open = h.few_open }
  | false ↦ record { blocks = h.blocks; entries = h.entries; round = r; mending = h.mending; lasting = h.lasting; few_open = h.few_open }
]

-- ---- how many collections are open, and what a node begins that is told to collect

others_named_all : (id : ℕ) → AreNumbers (others id)
others_named_all id = all_filter IsNumber (λ n. not (n == id)) all_nodes all_named

missing_named : (c : Collection) → AreNumbers (missing_of c)
missing_named c = all_filter IsNumber (λ n. not (has_confirmed n c)) all_nodes all_named

closed_few : (number : ℕ) (o : Open) → FewOpen o → FewOpen (closed number o)
closed_few number o h = let less = filter_fewer (λ (c : Collection). not (c.number == number)) o.collections in omega (arith, less, h)

changed_few : (f : Collection → Collection) (number : ℕ) (o : Open) → FewOpen o → FewOpen (changed f number o)
changed_few f number o h = let same = length-map o.collections (λ (c : Collection). if c.number == number then f c else c) in omega (arith, same, h)

answered_few : (number round node newest now : ℕ) (o : Open) → FewOpen o → FewOpen (answered number round node newest now o)
answered_few number round node newest now o h =
    elim (is_closed (answer_end number round node newest o)) as (λ b. FewOpen (if b then closed number o else changed (told_one round node newest now) number o)) [
      | true ↦ closed_few number o h
      | false ↦ changed_few (told_one round node newest now) number o h
    ]

each_length : (nodes : List ℕ) (m : Message AnyRow) → length (to_each {L = Layout} nodes m) ≡ length nodes
each_length [] m = refl
each_length (n ∷ nodes) m = ap suc (each_length nodes m)

-- of the first two nodes one at least is another than this
one_other : (id a b : ℕ) (ns : List ℕ) → (a ≡ b → ⊥) → 1 ≤ length (filter (λ n. not (n == id)) (a ∷ b ∷ ns))
one_other id a b ns apart = by_tests (a == id) (b == id) refl refl
  where
    by_tests : (p q : Bool) → (a == id) ≡ p → (b == id) ≡ q → (let rest = filter (λ n. not (n == id)) ns in 1 ≤ length (cond (not p) (a ∷ cond (not q) (b ∷ rest) rest) (cond (not q) (b ∷ rest) rest)))
    by_tests false q e f = omega arith
    by_tests true false e f = omega arith
    by_tests true true e f = absurd (apart (eqb-true a id e ∙ sym (eqb-true b id f)))

others_some : (id : ℕ) → 1 ≤ length (others id)
others_some id = one_other id 1 2 (3 ∷ 4 ∷ 5 ∷ 6 ∷ 7 ∷ 8 ∷ 9 ∷ 10 ∷ 11 ∷ 12 ∷ 13 ∷ 14 ∷ 15 ∷ 16 ∷ []) (λ e. omega (arith, e))

module _ (id now version before : ℕ) where
  -- what it has done so far, where so many collections had begun before: it has begun no more than it has sent messages
  record Gathered (t : Progress AnyRow Layout) : Type 0 where
    begun : t.begun + before ≡ t.gc.begun
    sent : t.begun ≤ length t.posts
    few_open : FewOpen t.gc
    posts : AllByRecursion PostNamed t.posts

  asks_tomb : (t : Progress AnyRow Layout) (o : Open) (begun : ℕ) (nodes : List ℕ) (number round : ℕ) (row : List ℕ) → AreNumbers nodes → begun + before ≡ o.begun → begun ≤ length nodes + t.begun → FewOpen o → Gathered t →
      Gathered (record { gc = o; posts = t.posts ++ to_each nodes (Tomb number round row); begun = begun })
  asks_tomb t o begun nodes number round row named same low few g =
      let m : Message AnyRow = Tomb number round row in
      let was = g.sent in
      let sum : length (t.posts ++ to_each {L = Layout} nodes m) ≡ length t.posts + length (to_each {L = Layout} nodes m) = length-append t.posts (to_each nodes m) in
      let new = each_length nodes m in
      record { begun = same; sent = omega (arith, was, sum, new, low); few_open = few; posts = all_append PostNamed t.posts (to_each nodes m) g.posts (each_named nodes m named) }

  begins_gathered : (r : AnyRow) (t : Progress AnyRow Layout) → Gathered t → (b : Bool) → Gathered (cond b (record {
    gc = begun_with t.gc (words.key r) (bytes_of words r) id version;
    posts = t.posts ++ to_each (others id) (Tomb (t.gc.begun + 1) 1 (bytes_of words r));
    begun = t.begun + 1;
  }) t)
  begins_gathered r t g true =
      let some = others_some id in
      let was = g.begun in
      let few = g.few_open in
      let one : Collection = opened_one (t.gc.begun + 1) (words.key r) (bytes_of words r) id version in
      let sum : length (t.gc.collections ++ one ∷ []) ≡ length t.gc.collections + 1 = length-append t.gc.collections (one ∷ []) in
      asks_tomb t (begun_with t.gc (words.key r) (bytes_of words r) id version) (t.begun + 1) (others id) (t.gc.begun + 1) 1 (bytes_of words r) (others_named_all id) (omega (arith, was)) (omega (arith, some)) (omega (arith, sum, few)) g
  begins_gathered r t g false = g

  -- the collection, and the open ones, in the second round
  abbrev second_of : Collection → Collection
  second_of c = cond (c.round == 1) (in_second c) c

  abbrev second_in : Collection → Open → Open
  second_in c o = cond (c.round == 1) (changed in_second c.number o) o

  second_begun : (c : Collection) (o : Open) → o.begun ≡ (second_in c o).begun
  second_begun c o = elim (c.round == 1) as (λ b. (let p : Open = cond b (changed in_second c.number o) o in o.begun ≡ p.begun)) [ true ↦ refl | false ↦ refl ]

  second_few : (c : Collection) (o : Open) → FewOpen o → FewOpen (second_in c o)
  second_few c o h = elim (c.round == 1) as (λ b. FewOpen (cond b (changed in_second c.number o) o)) [ true ↦ changed_few in_second c.number o h | false ↦ h ]

  goes_gathered : (c : Collection) (ready : Option ℕ) (t : Progress AnyRow Layout) → Gathered t → Gathered (goes_on_with any_join words layouts now c ready t)
  goes_gathered c None t g = asks_tomb t t.gc t.begun (missing_of c) c.number 1 c.row (missing_named c) g.begun (omega arith) g.few_open g
  goes_gathered c (Some ready) t g =
      elim (nat_lt now (ready + collection_pause)) as (λ b. Gathered (cond b t (record t { gc = second_in c t.gc; posts = t.posts ++ to_each (missing_of (second_of c)) (Tomb c.number 2 c.row) }))) [
        | true ↦ g
        | false ↦ asks_tomb t (second_in c t.gc) t.begun (missing_of (second_of c)) c.number 2 c.row (missing_named (second_of c)) (g.begun ∙ second_begun c t.gc) (omega arith) (second_few c t.gc g.few_open) g
      ]

  about_gathered : (r : AnyRow) (o : Option Collection) (t : Progress AnyRow Layout) → Gathered t → Gathered (about any_join words layouts id now version r o t)
  about_gathered r None t g = begins_gathered r t g (is_spelled words r && is_aged now (words.marker r))
  about_gathered r (Some c) t g =
      elim (has_bytes any_join words c.row (Some r) && (version == c.newest)) as (λ b. Gathered (cond b (goes_on_with any_join words layouts now c c.ready t) (record t { gc = closed c.number t.gc }))) [
        | true ↦ goes_gathered c c.ready t g
        | false ↦ record { begun = g.begun; sent = g.sent; few_open = closed_few c.number t.gc g.few_open; posts = g.posts }
      ]

  all_gathered : (rs : List AnyRow) (t : Progress AnyRow Layout) → Gathered t → Gathered (about_all any_join words layouts id now version rs t)
  all_gathered [] t g = g
  all_gathered (r ∷ rs) t g = all_gathered rs (about any_join words layouts id now version r (keyed (words.key r) t.gc) t) (about_gathered r (keyed (words.key r) t.gc) t g)

-- so of all its object rows
gathered : (id now : ℕ) (x : Machine) → FewOpen x.gc → Gathered id now (newest reading x.view) x.gc.begun (progress any_join words layouts id now x)
gathered id now x h =
    let less = filter_fewer (λ (c : Collection). is_some (row_at any_join words x.accepted 1 c.key)) x.gc.collections in
    all_gathered id now (newest reading x.view) x.gc.begun (object_rows any_join words x) (record { gc = with_rows any_join words layouts x x.gc; posts = []; begun = 0 })
    (record { begun = omega arith; sent = omega arith; few_open = omega (arith, less, h); posts = tt })

module _ (k id : ℕ) (x : Machine) (h : NodeNamed k x) (views : ViewNamed x.view) (marks : MarksNamed x) where
  -- there is room for the blocks beside what a packet has
  abbrev pub HasPlaceFor : Packet AnyRow Layout → Type 0
  HasPlaceFor p = (b : ℕ) → packet_size words p ≡ Some b → length x.blocks + b ≤ k

  abbrev Named : Did AnyRow Layout → Type 0
  Named d = DidNamed k d

  quiets : (y : Machine) → NodeNamed k y → Named (quiet y)
  quiets y i = record { node = i; posts = tt; dropped = tt }

  rests : Named (quiet x)
  rests = quiets x h

  either : (b : Bool) (d e : Did AnyRow Layout) → Named d → Named e → Named (cond b d e)
  either true d e i j = i
  either false d e i j = j

  answers_named : (y : Machine) (to : ℕ) (m : Message AnyRow) → NodeNamed k y → IsNumber to → Named (answers y to m)
  answers_named y to m i n = record { node = i; posts = ((n, tt), tt); dropped = tt }

  -- a node of which calls alone change
  called : (c : Call AnyRow) → NodeNamed k (calls_now x c)
  called c = same_node k x (calls_now x c) h refl refl refl refl refl h.few_open

  in_call : (phase : ℕ) (act : Call AnyRow → Did AnyRow Layout) (o : Option (Call AnyRow)) → ((c : Call AnyRow) → Named (act c)) → Named (at_call x phase act o)
  in_call phase act None i = rests
  in_call phase act (Some c) i = either (c.phases == phase) (act c) (quiet x) (i c) rests

  here : (from request phase at : ℕ) (d : Did AnyRow Layout) → IsNumber from → Named d → Named (where_stored any_join words layouts x from request phase at d)
  here from request phase at d n i = either (is_stored layouts x.view at) d _ i (answers_named x from (NotHere (ForCall request phase 0)) h n)

  asked_named : (c : Call AnyRow) (q : Question AnyRow) (as' : List (ℕ × Option AnyRow)) (a : ℕ × Option AnyRow) (o : Option (Option AnyRow)) → Named (asked x c q as' a o)
  asked_named c q as' a None = quiets _ (called (record c { present = asking q (as' ++ a ∷ []) }))
  asked_named c q as' a (Some value) = record { node = called (record c { present = resting }); posts = tt; dropped = tt }

  looked_named : (c : Call AnyRow) (q : Scan AnyRow) (as' : List (ℕ × RangeAnswer AnyRow)) (a : ℕ × RangeAnswer AnyRow) (o : Option (Window AnyRow)) → Named (looked x c q as' a o)
  looked_named c q as' a None = quiets _ (called (record c { present = scanning q (as' ++ a ∷ []) }))
  looked_named c q as' a (Some w) = record { node = called (record c { present = resting }); posts = tt; dropped = tt }

  stored_named : (c : Call AnyRow) (rs : List AnyRow) (slots : List StoreSlot) (b : Bool) → Named (stored x c rs slots b)
  stored_named c rs slots false = quiets _ (called (record c { present = storing rs slots }))
  stored_named c rs slots true = record { node = called (record c { present = resting }); posts = tt; dropped = tt }

  row_named : (c : Call AnyRow) (from : ℕ) (row : Option AnyRow) (p : Present AnyRow) → Named (row_came any_join x c from row p)
  row_named c from row (asking q as') = asked_named c q as' (from, row) (value_after any_join q as' (from, row))
  row_named c from row resting = rests
  row_named c from row (scanning q as') = rests
  row_named c from row (storing rs slots) = rests
  row_named c from row (fetching hash) = rests

  window_named : (c : Call AnyRow) (from : ℕ) (rs : List AnyRow) (more : Bool) (p : Present AnyRow) → Named (rows_came any_join words x c from rs more p)
  window_named c from rs more (scanning q as') = looked_named c q as' (from, record { rows = rs; more = more }) (window_at any_join words (first_two_at q.set as' (from, record { rows = rs; more = more })))
  window_named c from rs more resting = rests
  window_named c from rs more (asking q as') = rests
  window_named c from rs more (storing rs' slots) = rests
  window_named c from rs more (fetching hash) = rests

  confirmed_named : (c : Call AnyRow) (slot from : ℕ) (p : Present AnyRow) → Named (stored_came layouts x c slot from p)
  confirmed_named c slot from (storing rs slots) = let now = with_confirmation slots slot from in stored_named c rs now (is_kept now (oldest reading x.view))
  confirmed_named c slot from resting = rests
  confirmed_named c slot from (asking q as') = rests
  confirmed_named c slot from (scanning q as') = rests
  confirmed_named c slot from (fetching hash) = rests

  block_named : (c : Call AnyRow) (bytes : List ℕ) (p : Present AnyRow) → Named (block_came x c bytes p)
  block_named c bytes (fetching hash) = record { node = called (record c { present = resting }); posts = tt; dropped = tt }
  block_named c bytes resting = rests
  block_named c bytes (asking q as') = rests
  block_named c bytes (scanning q as') = rests
  block_named c bytes (storing rs slots) = rests

  given_named : (from request phase : ℕ) (o : Option (List ℕ)) → IsNumber from → Named (gives_block any_join words layouts x from request phase o)
  given_named from request phase None n = answers_named x from (NoBlock request phase) h n
  given_named from request phase (Some bytes) n = answers_named x from (Block request phase bytes) h n

  takes_named : (now from : ℕ) (tag : Tag) (named p : ℕ) (bs : List (List ℕ × Option (List ℕ))) → IsNumber from → HasPlaceFor (says (Store tag named p bs)) → Named (takes any_join words layouts id now x from tag named p bs)
  takes_named now from tag named p bs n room =
      let sum : total stored_length bs ≡ sum_by stored_length bs = is_sum_by (total stored_length) stored_length refl (λ y ys. refl) bs in
      let high : length x.blocks + (64 + sum_by stored_length bs) ≤ k = room (64 + sum_by stored_length bs) refl in
      let own : NodeNamed (length x.blocks) x = record { blocks = omega arith; entries = h.entries; round = h.round; mending = h.mending; lasting = h.lasting; few_open = h.few_open } in
      let after = node_wider (length x.blocks + total stored_length bs) k (accepts_all any_join words now x bs) (omega (arith, sum, high)) (accepted_named (length x.blocks) now bs x own) in
      either (nat_lt (newest reading x.view) named) _ _ (answers_named x from (Behind tag (newest reading x.view)) h n)
      (either (not (is_given layouts x.view id p)) _ _ (answers_named x from (NotHere tag) h n)
      (answers_named (accepts_all any_join words now x bs) from (Stored tag) after n))

  compares_named : (from : ℕ) (tag : Tag) (named p table : ℕ) (prefix : List ℕ) (hash : Hash32) → IsNumber from → Named (compares any_join words layouts id x from tag named p table prefix hash)
  compares_named from tag named p table prefix hash n =
      either (nat_lt (newest reading x.view) named) _ _ (answers_named x from (Behind tag (newest reading x.view)) h n)
      (either (not (is_given layouts x.view id p)) _ _ (answers_named x from (NotHere tag) h n) (record { node = h; posts = ((n, tt), tt); dropped = tt }))

  round_came_named : (from number p : ℕ) (o : Option Round) → RoundNamed o → Named (round_came any_join words layouts id x from number p o)
  round_came_named from number p None r = rests
  round_came_named from number p (Some round) r =
      let new : Round = record round { confirmed = round.confirmed ++ record { partition = p; node = from } ∷ [] } in
      either (round.number == number) (quiet (goes_on any_join words layouts id x new)) (quiet x) (quiets _ (goes_named k id x new (record { target = r.target; parts = r.parts; walks = r.walks }) h)) rests

  -- walks
  at_walk_named : (table : ℕ) (prefix : List ℕ) (act : Walk → Did AnyRow Layout) (o : Option Walk) → ((w : Walk) → o ≡ Some w → Named (act w)) → Named (at_walk any_join words layouts x table prefix act o)
  at_walk_named table prefix act None i = rests
  at_walk_named table prefix act (Some w) i = either (is_open table prefix w.state.prefixes) (act w) (quiet x) (i w refl) rests

  mending_named : (now : Mending → Machine) (other : Did AnyRow Layout) → ((mending : Mending) → AllByRecursion WalkNamed mending.walks → NodeNamed k (now mending)) → Named other → (from number p table : ℕ) (prefix : List ℕ) (answer : Option (List (ℕ × Hash32))) (o : Option Mending) →
      WalksNamed o → Named (mending_came any_join words layouts x now other from number p table prefix answer o)
  mending_named now other i d from number p table prefix answer None m = d
  mending_named now other i d from number p table prefix answer (Some mending) m =
      either (mending.number == number) _ other
      (at_walk_named table prefix (mending_walks any_join words layouts x now table prefix answer mending) (walk_at p from mending.walks)
      (λ w e.
      let there : WalkNamed w = (all_found WalkNamed (is_walk p from) mending.walks w m e).0 in
      let later : Walk = walk_after any_join words x w table prefix answer in
      record {
        node = i (record mending { walks = walks_after later mending.walks }) (walks_after_named later mending.walks there m);
        posts = after_named x mending.number later table (asked_after any_join words x w.state.partition table prefix answer) there;
        dropped = tt;
      })) d

  late_named : (from number p table : ℕ) (prefix : List ℕ) (answer : Option (List (ℕ × Hash32))) → Named (late_came any_join words layouts x from number p table prefix answer)
  late_named from number p table prefix answer =
      mending_named (with_lasting any_join words layouts x) _ (λ mending m. record { blocks = h.blocks; entries = h.entries; round = h.round; mending = h.mending; lasting = m; few_open = h.few_open })
      (mending_named (with_mending any_join words layouts x) (quiet x) (λ mending m. record { blocks = h.blocks; entries = h.entries; round = h.round; mending = m; lasting = h.lasting; few_open = h.few_open }) rests from number p table prefix answer x.mending h.mending)
      from number p table prefix answer x.lasting h.lasting

  round_walked : (table : ℕ) (prefix : List ℕ) (answer : Option (List (ℕ × Hash32))) (round : Round) (w : Walk) → IsRound round → WalkNamed w → Named (round_walks any_join words layouts id x table prefix answer round w)
  round_walked table prefix answer round w r there =
      let later : Walk = walk_after any_join words x w table prefix answer in
      let now : Round = record round { walks = walks_after later round.walks } in
      let more : Round = record now { confirmed = now.confirmed ++ record { partition = w.state.partition; node = w.node } ∷ [] } in
      let walks = walks_after_named later round.walks there r.walks in
      record {
        node = elim (found_same later) as (λ b. NodeNamed k (cond b (goes_on any_join words layouts id x more) (record x { round = Some now }))) [
          | true ↦ goes_named k id x more (record { target = r.target; parts = r.parts; walks = walks }) h
          | false ↦ record { blocks = h.blocks; entries = h.entries; round = record { target = r.target; parts = r.parts; walks = walks }; mending = h.mending; lasting = h.lasting; few_open = h.few_open }
        ];
        posts = after_named x round.number later table (asked_after any_join words x w.state.partition table prefix answer) there;
        dropped = tt;
      }

  answer_named : (from number p table : ℕ) (prefix : List ℕ) (answer : Option (List (ℕ × Hash32))) (o : Option Round) → RoundNamed o → Named (answer_came any_join words layouts id x from number p table prefix answer o)
  answer_named from number p table prefix answer None r = late_named from number p table prefix answer
  answer_named from number p table prefix answer (Some round) r =
      either (round.number == number) _ _
      (at_walk_named table prefix (round_walks any_join words layouts id x table prefix answer round) (walk_at p from round.walks)
      (λ w e. round_walked table prefix answer round w r (all_found WalkNamed (is_walk p from) round.walks w r.walks e).0))
      (late_named from number p table prefix answer)

  walks_on_named : (from : ℕ) (tag : Tag) (table : ℕ) (prefix : List ℕ) (answer : Option (List (ℕ × Hash32))) → Named (walks_on any_join words layouts id x from tag table prefix answer)
  walks_on_named from (ForCall request phase slot) table prefix answer = rests
  walks_on_named from (ForRound number p) table prefix answer = answer_named from number p table prefix answer x.round h.round
  walks_on_named from (ForItem number) table prefix answer = rests

  confirms_named : (from : ℕ) (tag : Tag) → Named (confirms any_join words layouts id x from tag)
  confirms_named from (ForCall request phase slot) = in_call phase (λ c. stored_came layouts x c slot from c.present) (call_at x.calls request) (λ c. confirmed_named c slot from c.present)
  confirms_named from (ForRound number p) = round_came_named from number p x.round h.round
  confirms_named from (ForItem number) = quiets _ (same_node k x _ h refl refl refl refl refl h.few_open)

  -- ---- collections

  other_gc : (o : Open) → FewOpen o → NodeNamed k (record x { gc = o })
  other_gc o few_open = same_node k x (record x { gc = o }) h refl refl refl refl refl few_open

  forgotten_named : (table : ℕ) (key : List ℕ) (test : AnyRow → Bool) (o : Option AnyRow) → ((r : AnyRow) → o ≡ Some r → MarkNamed (words.marker r)) → Named (forgets_row any_join words x table key test o)
  forgotten_named table key test None m = rests
  forgotten_named table key test (Some r) m = either (test r) _ (quiet x) (record { node = same_node k x _ h refl refl refl refl refl h.few_open; posts = tt; dropped = m r refl }) rests

  drops_named : (o : Open) (c : Collection) (row : Option AnyRow) → FewOpen o → ((r : AnyRow) → row ≡ Some r → MarkNamed (words.marker r)) → Named (drops_row any_join words id (record x { gc = o }) c row)
  drops_named o c None few_open m = quiets _ (other_gc o few_open)
  drops_named o c (Some r) few_open m = record { node = same_node k x _ h refl refl refl refl refl few_open; posts = each_named (others id) _ (others_named_all id); dropped = m r refl }

  finished_named : (o : Option Collection) → Named (finishes any_join words layouts id x o)
  finished_named None = rests
  finished_named (Some c) =
      let row = row_at any_join words x.accepted 1 c.key in
      let few_open = closed_few c.number x.gc h.few_open in
      either ((newest reading x.view == c.newest) && has_bytes any_join words c.row row) _ _ (drops_named (closed c.number x.gc) c row few_open (marks 1 c.key)) (quiets _ (other_gc (closed c.number x.gc) few_open))

  tombed_named : (number round : ℕ) (o : Open) (e : GcEnd) → FewOpen o → Named (answered_to any_join words layouts id x number round o e)
  tombed_named number round o Wait few_open = quiets _ (other_gc o few_open)
  tombed_named number round o Closed few_open = quiets _ (other_gc o few_open)
  tombed_named number round o Complete few_open = either (round == 2) _ _ (finished_named (numbered_open number x.gc)) (quiets _ (other_gc o few_open))

  hears_named : (now from : ℕ) (m : Message AnyRow) → IsNumber from → HasPlaceFor (says m) → Named (hears any_join words layouts id now x from m)
  hears_named now from (Get request phase at table key) n room = here from request phase at (gives_row any_join words layouts x from request phase (row_at any_join words x.accepted table key)) n (record { node = h; posts = ((n, tt), tt); dropped = tt })
  hears_named now from (Row request phase row) n room = in_call phase (λ c. row_came any_join x c from row c.present) (call_at x.calls request) (λ c. row_named c from row c.present)
  hears_named now from (Range request phase at bucket prefix after) n room = here from request phase at _ n (record { node = h; posts = ((n, tt), tt); dropped = tt })
  hears_named now from (Rows request phase rs more) n room = in_call phase (λ c. rows_came any_join words x c from rs more c.present) (call_at x.calls request) (λ c. window_named c from rs more c.present)
  hears_named now from (Store tag named p bs) n room = takes_named now from tag named p bs n room
  hears_named now from (Stored tag) n room = confirms_named from tag
  hears_named now from (Behind tag version) n room = rests
  hears_named now from (NotHere tag) n room = rests
  hears_named now from (BlockGet request phase at hash) n room = here from request phase at _ n (given_named from request phase (block_at x.blocks hash.0) n)
  hears_named now from (Block request phase bytes) n room = in_call phase (λ c. block_came x c bytes c.present) (call_at x.calls request) (λ c. block_named c bytes c.present)
  hears_named now from (NoBlock request phase) n room = rests
  hears_named now from (AsksValue tag named p table prefix hash) n room = compares_named from tag named p table prefix hash n
  hears_named now from (HasSame tag table prefix) n room = walks_on_named from tag table prefix None
  hears_named now from (Differ tag table prefix pairs) n room = walks_on_named from tag table prefix (Some pairs)
  hears_named now from (Tomb number round row) n room =
      let high : length x.blocks + (64 + length row) ≤ k = room (64 + length row) refl in
      record { node = merged_named k id now x row (words.read row) refl (omega (arith, high)) h; posts = ((n, tt), tt); dropped = tt }
  hears_named now from (Tombed number round named) n room = tombed_named number round (answered number round from named now x.gc) (answer_end number round from named x.gc) (answered_few number round from named now x.gc h.few_open)
  hears_named now from (Forget table key hash) n room = forgotten_named table key (has_digest any_join words hash.0) (row_at any_join words x.accepted table key) (marks table key)

  pub receives_named : (now from : ℕ) (p : Packet AnyRow Layout) → IsNumber from → PacketNamed p → HasPlaceFor p → Named (receives any_join words layouts id now x from p)
  receives_named now from (says m) n i room = hears_named now from m n room
  receives_named now from (shows v) n i room = quiets _ (sees_named k id now x (merged reading x.view v) h (joined_low x.view.trackers v.trackers h.entries i))

  -- ---- acts

  begun_round_named : suc (read_version reading x.view) ≤ 100 → Named (begin_round any_join words layouts id x)
  begun_round_named low =
      let at : ℕ = read_version reading x.view in
      let parts = parts_named id x (layout_at reading x.view at) (layout_at reading x.view (suc at)) (layout_named x.view (suc at) views) in
      let walks = walks_of_named x (other_nodes any_join words layouts id) (parts_of any_join words layouts id x (layout_at reading x.view at) (layout_at reading x.view (suc at))) (others_named id) parts in
      record {
        node = goes_named k id (record x { rounds = suc x.rounds; lasting = None }) _ (record { target = low; parts = parts; walks = walks }) (record { blocks = h.blocks; entries = h.entries; round = h.round; mending = h.mending; lasting = tt; few_open = h.few_open });
        posts = starts_named x (suc x.rounds) _ walks;
        dropped = tt;
      }

  again_named : (round : Round) → IsRound round → Named (again any_join words layouts id x round)
  again_named round r =
      let filled : AllByRecursion PartNamed (filled_parts any_join words layouts x round) = all_filter PartNamed _ (open_parts round) (all_filter PartNamed _ round.parts r.parts) in
      let new = walks_of_named x (open_nodes round) (filled_parts any_join words layouts x round) (open_named round) filled in
      record {
        node = goes_named k id x (walked_anew any_join words layouts x round) (record { target = r.target; parts = r.parts; walks = all_append WalkNamed (new_walks any_join words layouts x round) _ new (all_filter WalkNamed _ round.walks r.walks) }) h;
        posts = starts_named x round.number _ new;
        dropped = tt;
      }

  repairs_named : Named (repairs any_join words layouts id x)
  repairs_named =
      let l : Option Layout = layout_at reading x.view (newest reading x.view) in
      let walks = walks_of_named x (other_nodes any_join words layouts id) (parts_of any_join words layouts id x l l) (others_named id) (parts_named id x l l (layout_named x.view (newest reading x.view) views)) in
      record { node = record { blocks = h.blocks; entries = h.entries; round = h.round; mending = walks; lasting = h.lasting; few_open = h.few_open }; posts = starts_named x (suc x.rounds) _ walks; dropped = tt }

  -- what a node did, and what it answers, if collections can have numbers that began before, and one for each message that it sent
  abbrev ActedNamed : Acted AnyRow Layout → Type 0
  ActedNamed a = Named a.did × (x.gc.begun + length a.did.posts < 2 ^ 64 → AreBelow (answer_numbers (told a.how)))

  may_low : (b : Bool) → may_sync any_join words layouts id x.view ≡ b → b ≡ true → suc (read_version reading x.view) ≤ 100
  may_low b e t =
      let first : leb (suc (read_version reading x.view)) (newest reading x.view) ≡ true = (and_parts _ _ (e ∙ t)).0 in
      let low : suc (read_version reading x.view) ≤ newest reading x.view = leb-true (suc (read_version reading x.view)) (newest reading x.view) first in
      let top = views.newest in
      omega arith

  syncs_named : (o : Option Round) → RoundNamed o → ActedNamed (syncs any_join words layouts id x o)
  syncs_named (Some round) r = (again_named round r, λ few. (let low = r.target in omega arith, tt))
  syncs_named None r = by_test (may_sync any_join words layouts id x.view) refl where
    by_test : (b : Bool) → may_sync any_join words layouts id x.view ≡ b → ActedNamed (cond b (record { did = begin_round any_join words layouts id x; how = At (suc (read_version reading x.view)) }) (record { did = quiet x; how = IsIdle (read_version reading x.view) (ack_least reading x.view) }))
    by_test true e = let low = may_low true e refl in (begun_round_named low, λ few. (omega arith, tt))
    by_test false e = let a = read_low x.view views in let b = ack_low x.view views in (rests, λ few. (omega arith, (omega arith, tt)))

  raises_named : (which : Which) (i : ℕ) → i ≤ 100 → ActedNamed (raises any_join words layouts id x which i)
  raises_named which i low =
      let now = raised_low which id i x.view.trackers low h.entries in
      let version = or_low (entry which id (raised which id i x.view.trackers)) (oldest reading x.view) (now which id) (first_low x.view.layouts views.layouts) in
      (quiets _ (record { blocks = h.blocks; entries = now; round = h.round; mending = h.mending; lasting = h.lasting; few_open = h.few_open }), λ few. (omega arith, tt))

  pub acts_named : (now most : ℕ) → most < 2 ^ 64 → k < 2 ^ 64 → length x.items ≤ most → (action : Action) → ActedNamed (acts any_join words layouts id now x action)
  acts_named now most top high items RaiseAck = raises_named Ack (least_start (newest reading x.view) x.calls) (starts_low (newest reading x.view) x.calls views.newest)
  acts_named now most top high items GoOn = syncs_named x.round h.round
  acts_named now most top high items RaiseSyncAck = raises_named SyncAck (read_version reading x.view) (read_low x.view views)
  acts_named now most top high items CleanUp =
      let low = first_low (cleaned reading x.view).layouts (all_filter LayoutNamed _ x.view.layouts views.layouts) in
      (quiets _ (sees_named k id now x (cleaned reading x.view) h h.entries), λ few. (omega arith, tt))
  acts_named now most top high items WorkOff =
      let few = filter_fewer (λ (b : machine.Block). is_due any_join words now x b.hash) x.blocks in
      let less = filter_fewer (stays any_join words now x) x.blocks in
      let blocks = h.blocks in (
        record { node = record { blocks = omega (arith, blocks, less); entries = h.entries; round = h.round; mending = h.mending; lasting = h.lasting; few_open = h.few_open }; posts = items_named x x.view views x.items; dropped = tt },
        λ room. (omega (arith, top, items), (omega (arith, high, blocks, few), tt)),
      )
  acts_named now most top high items Mend = (repairs_named, λ few. tt)
  acts_named now most top high items Gather =
      let t : Progress AnyRow Layout = progress any_join words layouts id now x in
      let g = gathered id now x h.few_open in
      let begun = g.begun in
      let sent = g.sent in
      let few_open = g.few_open in
      (record { node = other_gc t.gc g.few_open; posts = g.posts; dropped = tt }, λ few. (omega (arith, sent, few), (omega (arith, few_open, begun, sent, few), tt)))

  -- ---- phases

  pub begins_named : (kept : List AnyRow) (c : Call AnyRow) (phase : Phase AnyRow) → Named (begins words layouts kept x c phase)
  begins_named kept c (Read table position key) = record {
    node = same_node k x _ h refl refl refl refl refl h.few_open;
    posts = each_named (set_at layouts x.view (read_version reading x.view) (partition_at position.0)) _ (set_in_named _ (partition_at position.0) (layout_named x.view (read_version reading x.view) views));
    dropped = tt;
  }
  begins_named kept c (Scans position prefix after) = record {
    node = same_node k x _ h refl refl refl refl refl h.few_open;
    posts = each_named (set_at layouts x.view (read_version reading x.view) (partition_at position.0)) _ (set_in_named _ (partition_at position.0) (layout_named x.view (read_version reading x.view) views));
    dropped = tt;
  }
  begins_named kept c (Keeps rows) = record { node = same_node k x _ h refl refl refl refl refl h.few_open; posts = stores_named x x.view views c.request (suc c.phases) 0 rows; dropped = tt }
  begins_named kept c (Fetches hash) = record {
    node = same_node k x _ h refl refl refl refl refl h.few_open;
    posts = each_named (set_at layouts x.view (read_version reading x.view) (partition_at hash.0)) _ (set_in_named _ (partition_at hash.0) (layout_named x.view (read_version reading x.view) views));
    dropped = tt;
  }
