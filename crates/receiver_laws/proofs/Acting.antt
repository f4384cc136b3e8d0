-- What a node does by itself, and when a phase begins: it sends to places, and walks with them.
use Rattle.std.proofs.Common.{ℕ, suc, Bool, true, false, cond, Option, Some, None, List, refl, sym, subst}
use Rattle.std.specs.List.{AllByRecursion}
use Rattle.crdt_core.proofs.Each.{all_append}
use Rattle.view_model.specs.View.{View, newest, layout_at, read_version, ack_least, cleaned}
use Rattle.table_schema.specs.Words.{Words, partition_at}
use Rattle.wire_messages.specs.declared.phase.Phase.{Phase}
use Rattle.wire_messages.specs.declared.phase.Phase.TheVariants.{Read, Range as Scans, Store as Keeps, Block as Fetches}
use Rattle.cluster_machine.specs.declared.step.Action.{Action}
use Rattle.cluster_machine.specs.declared.step.Action.TheVariants.{Ack as RaiseAck, Sync as GoOn, SyncAck as RaiseSyncAck, Clean as CleanUp, Work as WorkOff, Repair as Mend, Collect as Gather}
use Rattle.cluster_machine.specs.declared.step.LocalEnd.TheVariants.{At, Idle}
use Rattle.cluster_machine.specs.Layouts.{Layouts, set_at}
use Rattle.cluster_machine.specs.Node.{Call, Round, Node, Did, quiet}
use Rattle.cluster_machine.specs.Phases.{begins}
use Rattle.cluster_machine.specs.Rounds.{open_nodes, open_parts, parts_of, may_sync, begin_round, other_nodes, filled_parts, new_walks, walked_anew, again, repairs}
use Rattle.cluster_machine.specs.Collects.{all_nodes}
use Rattle.cluster_machine.specs.Acts.{Acted, syncs, acts}
use Rattle.machine_origins.proofs.Lists.{all_filter}
use Rattle.world_laws.proofs.Unbroken.{layouts_acted, view_begun}
use Rattle.receiver_laws.specs.Places.{LayoutNames, PostNames, PartNames, WalkNames, RoundNames, OpenNames, NodeNames}
use Rattle.receiver_laws.proofs.Sets.{set_in_places, layout_places}
use Rattle.receiver_laws.proofs.Walks.{open_places, each_places, stores_places, items_places, starts_places, walks_of_places, parts_places, others_places}
use Rattle.receiver_laws.proofs.Gathering.{DidNames, did_same, collects_places}
use Rattle.receiver_laws.proofs.Hearing.{goes_places, sees_places}

module _ {R L : Type 0} (join : R → R → R) (s : Words R) (k : Layouts L) (IsPlace : ℕ → Type 0) (all : AllByRecursion IsPlace all_nodes) (id : ℕ) (x : Node R L) (h : NodeNames IsPlace k x) where
  abbrev Places : Did R L → Type 0
  Places d = DidNames k IsPlace d

  rests : Places (quiet x)
  rests = did_same k IsPlace x (quiet x) h (refl, (refl, refl)) tt

  begun_places : Places (begin_round join s k id x)
  begun_places =
      let at : ℕ = read_version k.reading x.view in
      let parts = parts_places join s k IsPlace x id (layout_at k.reading x.view at) (layout_at k.reading x.view (suc at)) (layout_places IsPlace k x.view (suc at) h.layouts) in
      let walks = walks_of_places join s k IsPlace x (other_nodes join s k id) (parts_of join s k id x (layout_at k.reading x.view at) (layout_at k.reading x.view (suc at))) (others_places join s k IsPlace x id) parts in
      let now : Node R L = record x { rounds = suc x.rounds; lasting = None } in
      goes_places join s k IsPlace id now now _ (record { layouts = h.layouts; round = h.round; mending = h.mending; lasting = tt }) (refl, (refl, refl)) (record { parts = parts; walks = walks }) _ (starts_places join s k IsPlace x (suc x.rounds) _ walks) _

  again_places : (round : Round) → RoundNames IsPlace round → Places (again join s k id x round)
  again_places round r =
      let filled : AllByRecursion (PartNames IsPlace) (filled_parts join s k x round) = all_filter (PartNames IsPlace) _ (open_parts round) (all_filter (PartNames IsPlace) _ round.parts r.parts) in
      let new = walks_of_places join s k IsPlace x (open_nodes round) (filled_parts join s k x round) (open_places IsPlace round) filled in
      let now : Round = walked_anew join s k x round in
      goes_places join s k IsPlace id x x now h (refl, (refl, refl)) (record { parts = r.parts; walks = all_append (WalkNames IsPlace) (new_walks join s k x round) _ new (all_filter (WalkNames IsPlace) _ round.walks r.walks) }) _ (starts_places join s k IsPlace x round.number _ new) _

  repairs_places : Places (repairs join s k id x)
  repairs_places =
      let l : Option L = layout_at k.reading x.view (newest k.reading x.view) in
      let walks = walks_of_places join s k IsPlace x (other_nodes join s k id) (parts_of join s k id x l l) (others_places join s k IsPlace x id) (parts_places join s k IsPlace x id l l (layout_places IsPlace k x.view (newest k.reading x.view) h.layouts)) in
      record { round = h.round; mending = walks; lasting = h.lasting; posts = starts_places join s k IsPlace x (suc x.rounds) _ walks }

  acted_cond : (b : Bool) (d e : Acted R L) → Places d.did → Places e.did → Places (cond b d e).did
  acted_cond true d e i j = i
  acted_cond false d e i j = j

  syncs_places : (o : Option Round) → OpenNames IsPlace o → Places (syncs join s k id x o).did
  syncs_places (Some round) r = again_places round r
  syncs_places None r =
      let at : ℕ = read_version k.reading x.view in
      acted_cond (may_sync join s k id x.view) (record { did = begin_round join s k id x; how = At (suc at) }) (record { did = quiet x; how = Idle at (ack_least k.reading x.view) }) begun_places rests

  does_places : (now : ℕ) (action : Action) → Places (acts join s k id now x action).did
  does_places now RaiseAck = did_same k IsPlace x _ h (refl, (refl, refl)) tt
  does_places now GoOn = syncs_places x.round h.round
  does_places now RaiseSyncAck = did_same k IsPlace x _ h (refl, (refl, refl)) tt
  does_places now CleanUp = sees_places join s k IsPlace all id x h now (cleaned k.reading x.view)
  does_places now WorkOff = did_same k IsPlace x _ h (refl, (refl, refl)) (items_places k IsPlace join s x.view h.layouts x.items)
  does_places now Mend = repairs_places
  does_places now Gather = collects_places join s k IsPlace all x h id now

  -- what a node is after an action, and what it sends
  pub acted_places : (now : ℕ) (action : Action) → NodeNames IsPlace k (acts join s k id now x action).did.node × AllByRecursion (PostNames IsPlace k) (acts join s k id now x action).did.posts
  acted_places now action =
      let d = does_places now action in
      (record { layouts = layouts_acted join s k x (LayoutNames IsPlace k) id now action h.layouts; round = d.round; mending = d.mending; lasting = d.lasting }, d.posts)

module _ {R L : Type 0} (s : Words R) (k : Layouts L) (IsPlace : ℕ → Type 0) (kept : List R) (x : Node R L) (h : NodeNames IsPlace k x) (c : Call R) where
  read_places : (p : ℕ) → AllByRecursion IsPlace (set_at k x.view (read_version k.reading x.view) p)
  read_places p = set_in_places IsPlace k (layout_at k.reading x.view (read_version k.reading x.view)) p (layout_places IsPlace k x.view (read_version k.reading x.view) h.layouts)

  asks_places : (phase : Phase R) → DidNames k IsPlace (begins s k kept x c phase)
  asks_places (Read table position key) = did_same k IsPlace x _ h (refl, (refl, refl)) (each_places k IsPlace (set_at k x.view (read_version k.reading x.view) (partition_at position.0)) _ (read_places (partition_at position.0)))
  asks_places (Scans position prefix after) = did_same k IsPlace x _ h (refl, (refl, refl)) (each_places k IsPlace (set_at k x.view (read_version k.reading x.view) (partition_at position.0)) _ (read_places (partition_at position.0)))
  asks_places (Keeps rows) = did_same k IsPlace x _ h (refl, (refl, refl)) (stores_places k IsPlace s x.view h.layouts c.request (suc c.phases) 0 rows)
  asks_places (Fetches hash) = did_same k IsPlace x _ h (refl, (refl, refl)) (each_places k IsPlace (set_at k x.view (read_version k.reading x.view) (partition_at hash.0)) _ (read_places (partition_at hash.0)))

  -- what a node is once a phase began, and what it sends
  pub begins_places : (phase : Phase R) → NodeNames IsPlace k (begins s k kept x c phase).node × AllByRecursion (PostNames IsPlace k) (begins s k kept x c phase).posts
  begins_places phase =
      let d = asks_places phase in
      (record { layouts = subst (λ (v : View L). AllByRecursion (LayoutNames IsPlace k) v.layouts) (sym (view_begun s k kept x c phase)) h.layouts; round = d.round; mending = d.mending; lasting = d.lasting }, d.posts)
