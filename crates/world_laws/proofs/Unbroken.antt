-- What a node does opens no gap in its view, and brings no layout that nobody showed it.
use Rattle.std.specs.Prelude.{◌≡◌, ℕ, suc, Bool, true, false, not, cond, ◌==◌, nat_lt, IsTrue, List, ◌∷◌, ◌++◌, [], Option, Some, None, refl}
use Rattle.std.specs.List.{AllByRecursion}
use Rattle.std.proofs.Common.{ap, sym, subst, ◌∙◌}
use Rattle.crdt_core.proofs.Each.{all_append}
use Rattle.machine_origins.proofs.Lists.{all_filter}
use Rattle.view_model.specs.View.{View, is_gapless, newest, read_version, ack_least, merged, cleaned}
use Rattle.view_model.proofs.Joins.{gapless_merged}
use Rattle.view_model.proofs.Cleans.{gapless_cleaned}
use Rattle.blake2_hash.specs.declared.digest.Hash32.{Hash32}
use Rattle.walk_model.specs.Walking.{is_open}
use Rattle.table_schema.specs.Words.{Words}
use Rattle.quorum_model.specs.declared.range.RangeAnswer.{RangeAnswer}
use Rattle.quorum_model.specs.Quorum.{StoreSlot, with_confirmation}
use Rattle.quorum_model.specs.Window.{Window}
use Rattle.wire_messages.specs.declared.message.Message.{Message}
use Rattle.wire_messages.specs.declared.message.Message.TheVariants.{Get, Row, Range, Rows, Store, Stored, BlockGet, Block, Walk as AsksValue, Same as HasSame, Differ, Tomb, Tombed, Forget}
use Rattle.wire_messages.specs.declared.message.Tag.{Tag}
use Rattle.wire_messages.specs.declared.message.Tag.TheVariants.{Call as ForCall, Round as ForRound, Item as ForItem}
use Rattle.wire_messages.specs.declared.phase.Phase.{Phase}
use Rattle.wire_messages.specs.declared.phase.Phase.TheVariants.{Read, Range as Scans, Store as Saves, Block as Fetches}
use Rattle.cluster_machine.specs.declared.step.Action.{Action}
use Rattle.cluster_machine.specs.declared.step.Action.TheVariants.{Sync as GoOn, Clean}
use Rattle.cluster_machine.specs.declared.step.LocalEnd.TheVariants.{At, Idle}
use Rattle.cluster_machine.specs.Layouts.{Layouts, is_given, is_stored}
use Rattle.cluster_machine.specs.Node.{Question, Scan, Present, asking, scanning, storing, fetching, Call, Node, Packet, says, shows, Walk, Round, Mending, Did, quiet}
use Rattle.cluster_machine.specs.Rows.{block_at}
use Rattle.cluster_machine.specs.Phases.{call_at, asked, looked, stored, begins, value_after, row_came, rows_came, stored_came, block_came, at_call}
use Rattle.cluster_machine.specs.Rounds.{is_complete, walk_at, walks_after, found_same, walk_after, synced, goes_on, may_sync, begin_round, round_walks, mending_walks, at_walk, mending_came, with_mending, with_lasting, late_came, answer_came, walked_anew}
use Rattle.cluster_machine.specs.Receives.{where_stored, gives_block, takes, compares, walks_on, round_came, confirms, hears, receives}
use Rattle.cluster_machine.specs.Acts.{Acted, syncs, acts}
use Rattle.cluster_machine.specs.Keeping.{IsUpTo}
use Rattle.machine_origins.proofs.Collecting.{tomb_beside, tombed_beside, forget_beside}
use Rattle.machine_origins.proofs.FollowingSteps.{round_begun}
use Rattle.machine_origins.proofs.KeepingNodes.{view_seen, view_all}

module _ {R L : Type 0} where
  -- the layouts that a packet shows
  abbrev pub layouts_in : Packet R L → List L
  layouts_in (says m) = []
  layouts_in (shows v) = v.layouts

  -- the layouts that the node stores stay
  abbrev pub LayoutsStay : Node R L → Node R L → Type 0
  LayoutsStay x y = y.view.layouts ≡ x.view.layouts

module _ {R L : Type 0} (x : Node R L) where
  stay_cond : (b : Bool) (d e : Did R L) → LayoutsStay x d.node → LayoutsStay x e.node → LayoutsStay x (cond b d e).node
  stay_cond true d e h k = h
  stay_cond false d e h k = k

  stay_at_call : (phase : ℕ) (f : Call R → Did R L) (o : Option (Call R)) → ((c : Call R) → LayoutsStay x (f c).node) → LayoutsStay x (at_call x phase f o).node
  stay_at_call phase f None h = refl
  stay_at_call phase f (Some c) h = stay_cond (c.phases == phase) (f c) (quiet x) (h c) refl

  module _ (c : Call R) where
    stay_asked : (q : Question R) (before : List (ℕ × Option R)) (a : ℕ × Option R) (value : Option (Option R)) → LayoutsStay x (asked x c q before a value).node
    stay_asked q before a None = refl
    stay_asked q before a (Some value) = refl

    stay_looked : (q : Scan R) (before : List (ℕ × RangeAnswer R)) (a : ℕ × RangeAnswer R) (w : Option (Window R)) → LayoutsStay x (looked x c q before a w).node
    stay_looked q before a None = refl
    stay_looked q before a (Some w) = refl

    stay_stored : (rows : List R) (slots : List StoreSlot) (b : Bool) → LayoutsStay x (stored x c rows slots b).node
    stay_stored rows slots true = refl
    stay_stored rows slots false = refl

    stay_block : (bytes : List ℕ) (p : Present R) → LayoutsStay x (block_came x c bytes p).node
    stay_block bytes (fetching hash) = refl
    stay_block bytes _ = refl

    stay_row : (join : R → R → R) (from : ℕ) (row : Option R) (p : Present R) → LayoutsStay x (row_came join x c from row p).node
    stay_row join from row (asking q before) = stay_asked q before (from, row) (value_after join q before (from, row))
    stay_row join from row _ = refl

    stay_rows : (join : R → R → R) (s : Words R) (from : ℕ) (rows : List R) (more : Bool) (p : Present R) → LayoutsStay x (rows_came join s x c from rows more p).node
    stay_rows join s from rows more (scanning q before) = stay_looked q before _ _
    stay_rows join s from rows more _ = refl

    stay_confirmed : (k : Layouts L) (slot from : ℕ) (p : Present R) → LayoutsStay x (stored_came k x c slot from p).node
    stay_confirmed k slot from (storing rows slots) = stay_stored rows (with_confirmation slots slot from) _
    stay_confirmed k slot from _ = refl

module _ {R L : Type 0} (join : R → R → R) (s : Words R) (k : Layouts L) (x : Node R L) where
  stay_round : (id : ℕ) (y : Node R L) (round : Round) → LayoutsStay x y → LayoutsStay x (goes_on join s k id y round)
  stay_round id y round h = elim (is_complete round) as (λ b. LayoutsStay x (cond b (synced join s k id y round) (record y { round = Some round }))) [ true ↦ h | false ↦ h ]

  stay_where : (from request phase at : ℕ) (d : Did R L) → LayoutsStay x d.node → LayoutsStay x (where_stored join s k x from request phase at d).node
  stay_where from request phase at d h = stay_cond x (is_stored k x.view at) d _ h refl

  stay_gives_block : (from request phase : ℕ) (b : Option (List ℕ)) → LayoutsStay x (gives_block join s k x from request phase b).node
  stay_gives_block from request phase None = refl
  stay_gives_block from request phase (Some bytes) = refl

  stay_takes : (id now from : ℕ) (tag : Tag) (named p : ℕ) (rows : List (List ℕ × Option (List ℕ))) → LayoutsStay x (takes join s k id now x from tag named p rows).node
  stay_takes id now from tag named p rows =
      stay_cond x (nat_lt (newest k.reading x.view) named) _ _ refl (stay_cond x (not (is_given k x.view id p)) _ _ refl (ap (λ v. v.layouts) (view_all join s now x rows)))

  stay_round_came : (id from number p : ℕ) (o : Option Round) → LayoutsStay x (round_came join s k id x from number p o).node
  stay_round_came id from number p None = refl
  stay_round_came id from number p (Some round) =
      let now : Round = record round { confirmed = round.confirmed ++ record { partition = p; node = from } ∷ [] } in
      stay_cond x (round.number == number) (quiet (goes_on join s k id x now)) (quiet x) (stay_round id x now refl) refl

  stay_compares : (id from : ℕ) (tag : Tag) (named p table : ℕ) (prefix : List ℕ) (hash : Hash32) → LayoutsStay x (compares join s k id x from tag named p table prefix hash).node
  stay_compares id from tag named p table prefix hash = stay_cond x (nat_lt (newest k.reading x.view) named) _ _ refl (stay_cond x (not (is_given k x.view id p)) _ _ refl refl)

  stay_at_walk : (table : ℕ) (prefix : List ℕ) (f : Walk → Did R L) (o : Option Walk) → ((w : Walk) → LayoutsStay x (f w).node) → LayoutsStay x (at_walk join s k x table prefix f o).node
  stay_at_walk table prefix f None h = refl
  stay_at_walk table prefix f (Some w) h = stay_cond x (is_open table prefix w.state.prefixes) (f w) (quiet x) (h w) refl

  stay_mending : (now : Mending → Node R L) (other : Did R L) → ((m : Mending) → LayoutsStay x (now m)) → LayoutsStay x other.node → (from number p table : ℕ) (prefix : List ℕ) (answer : Option (List (ℕ × Hash32))) (o : Option Mending) → LayoutsStay x (mending_came join s k x now other from number p table prefix answer o).node
  stay_mending now other same h from number p table prefix answer None = h
  stay_mending now other same h from number p table prefix answer (Some mending) =
      stay_cond x (mending.number == number) (at_walk join s k x table prefix (mending_walks join s k x now table prefix answer mending) (walk_at p from mending.walks)) other
      (stay_at_walk table prefix (mending_walks join s k x now table prefix answer mending) (walk_at p from mending.walks) (λ w. same _)) h

  stay_late : (from number p table : ℕ) (prefix : List ℕ) (answer : Option (List (ℕ × Hash32))) → LayoutsStay x (late_came join s k x from number p table prefix answer).node
  stay_late from number p table prefix answer =
      stay_mending (with_lasting join s k x) (mending_came join s k x (with_mending join s k x) (quiet x) from number p table prefix answer x.mending) (λ m. refl) (stay_mending (with_mending join s k x) (quiet x) (λ m. refl) refl from number p table prefix answer x.mending) from number p table prefix answer x.lasting

  stay_walked : (id table : ℕ) (prefix : List ℕ) (answer : Option (List (ℕ × Hash32))) (round : Round) (w : Walk) → LayoutsStay x (round_walks join s k id x table prefix answer round w).node
  stay_walked id table prefix answer round w =
      let later = walk_after join s x w table prefix answer in
      let now : Round = record round { walks = walks_after later round.walks } in
      let there : Round = record now { confirmed = now.confirmed ++ record { partition = w.state.partition; node = w.node } ∷ [] } in
      elim (found_same later) as (λ b. LayoutsStay x (cond b (goes_on join s k id x there) (record x { round = Some now }))) [ true ↦ stay_round id x there refl | false ↦ refl ]

  stay_answer : (id from number p table : ℕ) (prefix : List ℕ) (answer : Option (List (ℕ × Hash32))) (o : Option Round) → LayoutsStay x (answer_came join s k id x from number p table prefix answer o).node
  stay_answer id from number p table prefix answer None = stay_late from number p table prefix answer
  stay_answer id from number p table prefix answer (Some round) =
      stay_cond x (round.number == number) (at_walk join s k x table prefix (round_walks join s k id x table prefix answer round) (walk_at p from round.walks)) (late_came join s k x from number p table prefix answer)
      (stay_at_walk table prefix (round_walks join s k id x table prefix answer round) (walk_at p from round.walks) (stay_walked id table prefix answer round)) (stay_late from number p table prefix answer)

  stay_walks : (id from : ℕ) (tag : Tag) (table : ℕ) (prefix : List ℕ) (answer : Option (List (ℕ × Hash32))) → LayoutsStay x (walks_on join s k id x from tag table prefix answer).node
  stay_walks id from (ForRound number p) table prefix answer = stay_answer id from number p table prefix answer x.round
  stay_walks id from _ table prefix answer = refl

  stay_confirms : (id from : ℕ) (tag : Tag) → LayoutsStay x (confirms join s k id x from tag).node
  stay_confirms id from (ForCall request phase slot) = stay_at_call x phase _ (call_at x.calls request) (λ c. stay_confirmed x c k slot from c.present)
  stay_confirms id from (ForRound number p) = stay_round_came id from number p x.round
  stay_confirms id from (ForItem number) = refl

  stay_hears : (id now from : ℕ) (m : Message R) → LayoutsStay x (hears join s k id now x from m).node
  stay_hears id now from (Get request phase at table key) = stay_where from request phase at _ refl
  stay_hears id now from (Row request phase row) = stay_at_call x phase _ (call_at x.calls request) (λ c. stay_row x c join from row c.present)
  stay_hears id now from (Range request phase at bucket prefix after) = stay_where from request phase at _ refl
  stay_hears id now from (Rows request phase found more) = stay_at_call x phase _ (call_at x.calls request) (λ c. stay_rows x c join s from found more c.present)
  stay_hears id now from (Store tag named p rows) = stay_takes id now from tag named p rows
  stay_hears id now from (Stored tag) = stay_confirms id from tag
  stay_hears id now from (BlockGet request phase at hash) = stay_where from request phase at _ (stay_gives_block from request phase (block_at x.blocks hash.0))
  stay_hears id now from (Block request phase bytes) = stay_at_call x phase _ (call_at x.calls request) (λ c. stay_block x c bytes c.present)
  stay_hears id now from (AsksValue tag named p table prefix hash) = stay_compares id from tag named p table prefix hash
  stay_hears id now from (HasSame tag table prefix) = stay_walks id from tag table prefix None
  stay_hears id now from (Differ tag table prefix pairs) = stay_walks id from tag table prefix (Some pairs)
  stay_hears id now from (Tomb number round row) = ap (λ v. v.layouts) (tomb_beside join s x k id now from number round row).view
  stay_hears id now from (Tombed number round named) = ap (λ v. v.layouts) (tombed_beside join s x k id now from number round named).view
  stay_hears id now from (Forget table key hash) = ap (λ v. v.layouts) (forget_beside join s x table key hash.0).view
  stay_hears id now from _ = refl

  -- a message opens no gap
  pub gapless_received : (id now from : ℕ) (packet : Packet R L) (n : ℕ) → IsTrue (is_gapless k.reading x.view.layouts) → IsUpTo k n packet → IsTrue (is_gapless k.reading (receives join s k id now x from packet).node.view.layouts)
  gapless_received id now from (says m) n g h = ap (is_gapless k.reading) (stay_hears id now from m) ∙ g
  gapless_received id now from (shows v) n g h = ap (λ u. is_gapless k.reading u.layouts) (view_seen join s k id now x (merged k.reading x.view v)) ∙ gapless_merged k.reading x.view v g h.0

  -- after a message each layout is one that the node or the message had
  pub layouts_received : (P : L → Type 0) (id now from : ℕ) (packet : Packet R L) → AllByRecursion P x.view.layouts → AllByRecursion P (layouts_in packet) → AllByRecursion P (receives join s k id now x from packet).node.view.layouts
  layouts_received P id now from (says m) g h = subst (AllByRecursion P) (sym (stay_hears id now from m)) g
  layouts_received P id now from (shows v) g h =
      subst (λ (u : View L). AllByRecursion P u.layouts) (sym (view_seen join s k id now x (merged k.reading x.view v)))
      (all_filter P _ (x.view.layouts ++ _) (all_append P x.view.layouts _ g (all_filter P _ v.layouts h)))

  stay_acted : (b : Bool) (d e : Acted R L) → LayoutsStay x d.did.node → LayoutsStay x e.did.node → LayoutsStay x (cond b d e).did.node
  stay_acted true d e h k = h
  stay_acted false d e h k = k

  stay_syncs : (id : ℕ) (o : Option Round) → LayoutsStay x (syncs join s k id x o).did.node
  stay_syncs id (Some round) = stay_round id x (walked_anew join s k x round) refl
  stay_syncs id None =
      let at = read_version k.reading x.view in
      stay_acted (may_sync join s k id x.view) (record { did = begin_round join s k id x; how = At (suc at) }) (record { did = quiet x; how = Idle at (ack_least k.reading x.view) })
      (stay_round id (record x { rounds = suc x.rounds; lasting = None }) (round_begun join s k id x) refl) refl

  -- an action opens no gap
  pub gapless_acted : (id now : ℕ) (action : Action) → IsTrue (is_gapless k.reading x.view.layouts) → IsTrue (is_gapless k.reading (acts join s k id now x action).did.node.view.layouts)
  gapless_acted id now GoOn g = ap (is_gapless k.reading) (stay_syncs id x.round) ∙ g
  gapless_acted id now Clean g = ap (λ u. is_gapless k.reading u.layouts) (view_seen join s k id now x (cleaned k.reading x.view)) ∙ gapless_cleaned k.reading x.view g
  gapless_acted id now _ g = g

  -- after an action each layout is one that the node had
  pub layouts_acted : (P : L → Type 0) (id now : ℕ) (action : Action) → AllByRecursion P x.view.layouts → AllByRecursion P (acts join s k id now x action).did.node.view.layouts
  layouts_acted P id now GoOn g = subst (AllByRecursion P) (sym (stay_syncs id x.round)) g
  layouts_acted P id now Clean g = subst (λ (u : View L). AllByRecursion P u.layouts) (sym (view_seen join s k id now x (cleaned k.reading x.view))) (all_filter P _ x.view.layouts g)
  layouts_acted P id now _ g = g

module _ {R L : Type 0} (s : Words R) (k : Layouts L) (kept : List R) (x : Node R L) (c : Call R) where
  -- a phase begins without a change of the view
  pub view_begun : (phase : Phase R) → (begins s k kept x c phase).node.view ≡ x.view
  view_begun (Read table position key) = refl
  view_begun (Scans position prefix after) = refl
  view_begun (Saves rows) = refl
  view_begun (Fetches hash) = refl
