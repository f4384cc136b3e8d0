-- Every step of the machine is some steps of the control plane.
use Rattle.std.specs.Prelude.{◌≡◌, ◌≤◌, ◌<◌, ℕ, zero, suc, Bool, true, false, not, cond, ◌&&◌, ◌==◌, leb, List, [], ◌∷◌, Option, Some, None, slice_get, refl}
use Rattle.std.specs.Option.{unwrap_or}
use Rattle.std.specs.List.{AllByRecursion, flat_map}
use Rattle.std.proofs.Common.{ap, sym, subst, ◌∙◌, arith}
use Rattle.std.proofs.lemmas.Bool.{eqb-true, leb-false, not-false}
use Rattle.view_model.specs.View.{View, newest, read_version, ack_least}
use Rattle.control_model.specs.World as control
use Rattle.control_model.specs.Steps.{Step as Turn, step as turn, run as turn_all}
use Rattle.control_model.specs.Facts.{read_of}
use Rattle.control_model.specs.Reached.{IsReached}
use Rattle.control_model.proofs.Reaching.{place_of, reached_step, reached_empty}
use Rattle.version_laws.proofs.Laws.{safe_at}
use Rattle.layout_roles.specs.declared.role.Role.{Role}
use Rattle.table_schema.specs.Words.{Words, partition_of}
use Rattle.wire_messages.specs.declared.message.Message.{Message}
use Rattle.wire_messages.specs.declared.message.Message.TheVariants.{Get, Row, Range, Rows, Store, Stored, Behind, NotHere, BlockGet, Block, NoBlock, Walk as AsksValue, Same as HasSame, Differ, Tomb, Tombed, Forget}
use Rattle.wire_messages.specs.declared.message.Tag.TheVariants.{Call as ForCall, Round as ForRound, Item as ForItem}
use Rattle.wire_messages.specs.declared.phase.Phase.{Phase}
use Rattle.quorum_model.specs.Quorum.{is_among}
use Rattle.cluster_machine.specs.declared.step.Step.{Step}
use Rattle.cluster_machine.specs.declared.step.Step.TheVariants.{Trio, Role as Stage, Redundancy as Spread, Apply, Tick, Skew, Deliver, Lose, Expire, Restart, Gossip, Ack, Sync as Syncs, SyncAck, Clean, Work, Repair, Collect, Open, Phase as Begin, Close}
use Rattle.cluster_machine.specs.declared.step.Action.{Action}
use Rattle.cluster_machine.specs.declared.step.Action.TheVariants.{Ack as RaiseAck, Sync as GoOn, SyncAck as RaiseSyncAck, Clean as CleanUp, Work as WorkOff, Repair as Mend, Collect as Gather}
use Rattle.cluster_machine.specs.declared.step.LocalEnd.TheVariants.{At, Idle}
use Rattle.cluster_machine.specs.declared.step.Refusal.{Refusal}
use Rattle.cluster_machine.specs.declared.step.Refusal.TheVariants.{VersionTaken, VersionLimit, NotMember, NoSuchMessage, Lost, NoSuchRequest, AlreadyEnded}
use Rattle.cluster_machine.specs.Layouts.{Layouts, is_member, has_none, stored_sets}
use Rattle.cluster_machine.specs.Node.{Call, Item, Round, Node, Packet, says, shows, quiet}
use Rattle.cluster_machine.specs.Phases.{nodes_of, bytes_of, call_at}
use Rattle.cluster_machine.specs.Rounds.{may_sync, begin_round}
use Rattle.cluster_machine.specs.Receives.{hears, receives}
use Rattle.cluster_machine.specs.Acts.{Acted, item_posts, works, syncs, acts, appends}
use Rattle.cluster_machine.specs.World.{Sent, Mark, Request, World, numbered, clock, empty}
use Rattle.cluster_machine.specs.Step.{most_versions, Choice, given, none_given, Effects, nothing, refusal, only, did, received, at_message, expires, closing, chosen, applies_at, trio_applies, acting, local, begun, beginning, opening, effects}
use Rattle.cluster_machine.specs.Run.{Move, IsLayout, IsChoice, next, run, IsRun}
use Rattle.machine_laws.specs.Follows.{Follows, IsShown, IsKnown, Controlled}
use Rattle.machine_laws.proofs.Controls.{turned}
use Rattle.machine_laws.proofs.Same.{SaysOnly, Unseen, same_self, unseen_quiet, said_to_each, unseen_hears, unseen_begins}
use Rattle.machine_laws.proofs.Collecting.{unseen_tomb, unseen_tomb_came, unseen_forgets, unseen_collects}
use Rattle.machine_laws.proofs.Turning.{stays, ack_turns, sync_ack_turns, clean_turns, view_turns}
use Rattle.machine_laws.proofs.Requests.{close_turns, restart_turns, open_turns, gossip_turns}
use Rattle.machine_laws.proofs.Rounding.{Goes, goes_unseen, confirmed_goes, again_goes, walks_goes, unseen_repairs, may_both, begun_goes}
use Rattle.machine_laws.proofs.Applying.{install_turns, apply_turns}
use Rattle.crdt_core.proofs.Each.{all_append}

pub all_at : {X : Type 0} (P : X → Type 0) (xs : List X) (i : ℕ) (x : X) → AllByRecursion P xs → slice_get xs i ≡ Some x → P x
all_at P [] i x a e = cc
all_at P (y ∷ ys) zero x a e = subst P (ap (λ o. unwrap_or o x) e) a.0
all_at P (y ∷ ys) (suc i) x a e = all_at P ys i x a.1 e

pub all_numbered : {X : Type 0} (P : X → Type 0) (xs : List X) (m : ℕ) (x : X) → AllByRecursion P xs → numbered xs m ≡ Some x → P x
all_numbered P xs zero x a e = cc
all_numbered P xs (suc m) x a e = all_at P xs m x a e

-- this node, at its own place
pub here : {R L : Type 0} (k : Layouts L) (nodes : ℕ → Node R L) (l : L) (n m : ℕ) → only n (appends k (nodes n) l) m ≡ cond (m == n) (Some (appends k (nodes m) l)) None
here k nodes l n m =
    elim (m == n) as (λ b. (m == n) ≡ b → cond b (Some (appends k (nodes n) l)) None ≡ cond b (Some (appends k (nodes m) l)) None) [
      | true ↦ (λ e. ap (λ i. Some (appends k (nodes i) l)) (sym (eqb-true m n e)))
      | false ↦ (λ e. refl)
    ] refl

module _ {R L : Type 0} (join : R → R → R) (s : Words R) (k : Layouts L) where
  pub said_items : (v : View L) (items : List (Item R)) → SaysOnly (flat_map (item_posts join s k v) items)
  said_items v [] = tt
  said_items v (item ∷ items) =
      all_append _ (item_posts join s k v item) (flat_map (item_posts join s k v) items)
      (said_to_each L (nodes_of (stored_sets k v (partition_of s item.row))) (Store (ForItem item.number) (newest k.reading v) (partition_of s item.row) ((bytes_of s item.row, None) ∷ [])))
      (said_items v items)

  pub unseen_works : (now : ℕ) (x : Node R L) → Unseen x (works join s k now x).did
  unseen_works now x = record { same = record { view = refl; calls = refl; round = refl }; posts = said_items x.view x.items }

module _ {R L A C : Type 0} (join : R → R → R) (s : Words R) (k : Layouts L) (partitions : ℕ) where
  pub goes_cond : (w : World R L) (c : control.World L) (b : Bool) (d e : Effects R L A C) → (b ≡ true → Goes k partitions w c d) → (b ≡ false → Goes k partitions w c e) → Goes k partitions w c (cond b d e)
  goes_cond w c true d e f g = f refl
  goes_cond w c false d e f g = g refl

  pub nothing_goes : (w : World R L) (c : control.World L) → Controlled k partitions w c → Goes {A = A} {C = C} k partitions w c (nothing w)
  nothing_goes w c t = record { steps = []; turns = stays k partitions w c (nothing w) t (λ n. refl) refl refl refl }

  pub refusal_goes : (w : World R L) (c : control.World L) (r : Refusal C) → Controlled k partitions w c → Goes {A = A} k partitions w c (refusal w r)
  refusal_goes w c r t = record { steps = []; turns = stays k partitions w c (refusal w r) t (λ n. refl) refl refl refl }

  pub received_goes : (w : World R L) (c : control.World L) (m : ℕ) (e : Effects R L A C) → Goes k partitions w c e → Goes k partitions w c (received m e)
  received_goes w c m e g = record {
    steps = g.steps;
    turns = record { nodes = g.turns.nodes; top = g.turns.top; asked = g.turns.asked; grows = g.turns.grows; sends = g.turns.sends; layouts = g.turns.layouts };
  }

  pub hears_goes : (w : World R L) (c : control.World L) (n from : ℕ) (m : Message R) → Controlled k partitions w c → Goes {A = A} {C = C} k partitions w c (did w n (hears join s k n (clock w n) (w.nodes n) from m))
  hears_goes w c n from (Get request phase at table key) t = goes_unseen k partitions w c n _ t (unseen_hears join s k n (clock w n) (w.nodes n) from (Get request phase at table key) tt)
  hears_goes w c n from (Row request phase row) t = goes_unseen k partitions w c n _ t (unseen_hears join s k n (clock w n) (w.nodes n) from (Row request phase row) tt)
  hears_goes w c n from (Range request phase at bucket prefix after) t = goes_unseen k partitions w c n _ t (unseen_hears join s k n (clock w n) (w.nodes n) from (Range request phase at bucket prefix after) tt)
  hears_goes w c n from (Rows request phase rows more) t = goes_unseen k partitions w c n _ t (unseen_hears join s k n (clock w n) (w.nodes n) from (Rows request phase rows more) tt)
  hears_goes w c n from (Store tag named p rows) t = goes_unseen k partitions w c n _ t (unseen_hears join s k n (clock w n) (w.nodes n) from (Store tag named p rows) tt)
  hears_goes w c n from (Stored (ForCall request phase slot)) t = goes_unseen k partitions w c n _ t (unseen_hears join s k n (clock w n) (w.nodes n) from (Stored (ForCall request phase slot)) (λ h. h))
  hears_goes w c n from (Stored (ForRound number p)) t = confirmed_goes join s k partitions w c n from number p t
  hears_goes w c n from (Stored (ForItem number)) t = goes_unseen k partitions w c n _ t (unseen_hears join s k n (clock w n) (w.nodes n) from (Stored (ForItem number)) (λ h. h))
  hears_goes w c n from (Behind tag v) t = goes_unseen k partitions w c n _ t (unseen_hears join s k n (clock w n) (w.nodes n) from (Behind tag v) tt)
  hears_goes w c n from (NotHere tag) t = goes_unseen k partitions w c n _ t (unseen_hears join s k n (clock w n) (w.nodes n) from (NotHere tag) tt)
  hears_goes w c n from (BlockGet request phase at hash) t = goes_unseen k partitions w c n _ t (unseen_hears join s k n (clock w n) (w.nodes n) from (BlockGet request phase at hash) tt)
  hears_goes w c n from (Block request phase bytes) t = goes_unseen k partitions w c n _ t (unseen_hears join s k n (clock w n) (w.nodes n) from (Block request phase bytes) tt)
  hears_goes w c n from (NoBlock request phase) t = goes_unseen k partitions w c n _ t (unseen_hears join s k n (clock w n) (w.nodes n) from (NoBlock request phase) tt)
  hears_goes w c n from (AsksValue tag named p table prefix hash) t = goes_unseen k partitions w c n _ t (unseen_hears join s k n (clock w n) (w.nodes n) from (AsksValue tag named p table prefix hash) tt)
  hears_goes w c n from (HasSame (ForCall request phase slot) table prefix) t = goes_unseen k partitions w c n _ t (unseen_hears join s k n (clock w n) (w.nodes n) from (HasSame (ForCall request phase slot) table prefix) (λ h. h))
  hears_goes w c n from (HasSame (ForRound number p) table prefix) t = walks_goes join s k partitions w c n from number p table prefix None t
  hears_goes w c n from (HasSame (ForItem number) table prefix) t = goes_unseen k partitions w c n _ t (unseen_hears join s k n (clock w n) (w.nodes n) from (HasSame (ForItem number) table prefix) (λ h. h))
  hears_goes w c n from (Differ (ForCall request phase slot) table prefix pairs) t = goes_unseen k partitions w c n _ t (unseen_hears join s k n (clock w n) (w.nodes n) from (Differ (ForCall request phase slot) table prefix pairs) (λ h. h))
  hears_goes w c n from (Differ (ForRound number p) table prefix pairs) t = walks_goes join s k partitions w c n from number p table prefix (Some pairs) t
  hears_goes w c n from (Differ (ForItem number) table prefix pairs) t = goes_unseen k partitions w c n _ t (unseen_hears join s k n (clock w n) (w.nodes n) from (Differ (ForItem number) table prefix pairs) (λ h. h))
  hears_goes w c n from (Tomb number round row) t = goes_unseen k partitions w c n _ t (unseen_tomb join s k n (clock w n) (w.nodes n) from number round row)
  hears_goes w c n from (Tombed number round named) t = goes_unseen k partitions w c n _ t (unseen_tomb_came join s k n (clock w n) (w.nodes n) from number round named)
  hears_goes w c n from (Forget table key hash) t = goes_unseen k partitions w c n _ t (unseen_forgets join s (w.nodes n) table key hash.0)

  pub receives_goes : (w : World R L) (c : control.World L) (n from : ℕ) (p : Packet R L) → Controlled k partitions w c → IsShown c p → Goes {A = A} {C = C} k partitions w c (did w n (receives join s k n (clock w n) (w.nodes n) from p))
  receives_goes w c n from (says m) t h = hears_goes w c n from m t
  receives_goes w c n from (shows v) t h = record { steps = Turn.Deliver n (place_of c.sent v h).0 ∷ []; turns = view_turns k partitions join s w c n (clock w n) v h t }

  -- a message comes, unless there is none with this number or it was lost
  pub message_goes : (w : World R L) (c : control.World L) (m : ℕ) (f : Sent R L → Effects R L A C) (o : Option (Sent R L)) (mark : Option Mark) → Controlled k partitions w c →
      ((x : Sent R L) → o ≡ Some x → Goes k partitions w c (f x)) → Goes k partitions w c (at_message w f o mark)
  message_goes w c m f None mark t g = refusal_goes w c NoSuchMessage t
  message_goes w c m f (Some x) None t g = refusal_goes w c NoSuchMessage t
  message_goes w c m f (Some x) (Some mark) t g = goes_cond w c mark.is_lost (refusal w Lost) (f x) (λ e. refusal_goes w c Lost t) (λ e. g x refl)

  pub expires_goes : (w : World R L) (c : control.World L) (q : ℕ) (o : Option Request) → Controlled k partitions w c → Goes {A = A} {C = C} k partitions w c (expires w q o)
  expires_goes w c q None t = refusal_goes w c NoSuchRequest t
  expires_goes w c q (Some r) t =
      goes_cond w c r.is_open _ (refusal w AlreadyEnded)
      (λ e. record { steps = Turn.End r.coordinator q ∷ []; turns = close_turns k partitions w c r.coordinator q _ t (λ m. refl) refl refl refl })
      (λ e. refusal_goes w c AlreadyEnded t)

  pub closing_goes : (w : World R L) (c : control.World L) (q : ℕ) (o : Option Request) → Controlled k partitions w c → Goes {A = A} {C = C} k partitions w c (closing w q o)
  closing_goes w c q None t = nothing_goes w c t
  closing_goes w c q (Some r) t =
      goes_cond w c r.is_open _ (nothing w)
      (λ e. record { steps = Turn.End r.coordinator q ∷ []; turns = close_turns k partitions w c r.coordinator q _ t (λ m. refl) refl refl refl })
      (λ e. nothing_goes w c t)

  pub syncs_goes : (w : World R L) (c : control.World L) (n : ℕ) (o : Option Round) → IsReached k.reading partitions c → Controlled k partitions w c → (w.nodes n).round ≡ o →
      Goes {A = A} {C = C} k partitions w c (did w n (syncs join s k n (w.nodes n) o).did)
  syncs_goes w c n (Some round) reached t e = again_goes join s k partitions w c n round t e
  syncs_goes w c n None reached t e =
      let x = w.nodes n in
      let safe = safe_at k.reading partitions c reached in
      elim (may_sync join s k n x.view) as (λ b. may_sync join s k n x.view ≡ b → Goes {A = A} {C = C} k partitions w c (did w n (cond {A = Acted R L} b (record { did = begin_round join s k n x; how = At (suc (read_version k.reading x.view)) }) (record { did = quiet x; how = Idle (read_version k.reading x.view) (ack_least k.reading x.view) })).did)) [
        | true ↦ (λ may. begun_goes join s k partitions w c n t e
            (may_both join s k partitions (c.nodes n) x n (t.nodes n) e (λ l is. t.layouts (read_of k.reading c n) l (sym (safe.layouts n (read_of k.reading c n) (safe.stored n) (safe.known n)) ∙ is)) may))
        | false ↦ (λ may. goes_unseen k partitions w c n (quiet x) t (unseen_quiet x x (same_self x)))
      ] refl

  pub acts_goes : (w : World R L) (c : control.World L) (n : ℕ) (a : Action) → IsReached k.reading partitions c → Controlled k partitions w c → Goes {A = A} {C = C} k partitions w c (did w n (acts join s k n (clock w n) (w.nodes n) a).did)
  acts_goes w c n RaiseAck reached t = record { steps = Turn.RaiseAck n ∷ []; turns = ack_turns k partitions w c n t }
  acts_goes w c n GoOn reached t = syncs_goes w c n (w.nodes n).round reached t refl
  acts_goes w c n RaiseSyncAck reached t = record { steps = Turn.RaiseSyncAck n ∷ []; turns = sync_ack_turns k partitions w c n t }
  acts_goes w c n CleanUp reached t = record { steps = Turn.Clean n ∷ []; turns = clean_turns k partitions join s w c n (clock w n) t }
  acts_goes w c n WorkOff reached t = goes_unseen k partitions w c n _ t (unseen_works join s k (clock w n) (w.nodes n))
  acts_goes w c n Mend reached t = goes_unseen k partitions w c n _ t (unseen_repairs join s k n (w.nodes n))
  acts_goes w c n Gather reached t = goes_unseen k partitions w c n _ t (unseen_collects join s k n (clock w n) (w.nodes n))

module _ {L : Type 0} (k : Layouts L) (partitions : ℕ) where
  pub reached_all : (c : control.World L) (steps : List (Turn L)) → IsReached k.reading partitions c → IsReached k.reading partitions (turn_all k.reading partitions c steps)
  reached_all c [] h = h
  reached_all c (x ∷ steps) h = reached_all (turn k.reading partitions c x) steps (reached_step k.reading partitions c x h)

module _ {R L : Type 0} (k : Layouts L) (partitions : ℕ) where
  pub follows_empty : 1 ≤ partitions → Follows k partitions (empty {R = R} {L = L})
  follows_empty some = record {
    control_world = control.empty;
    reached = reached_empty k.reading partitions some;
    same = record {
      nodes = λ n. record { view = refl; requests = refl; round = refl };
      top = refl;
      asked = refl;
      sent = tt;
      layouts = λ i l e. cc;
    };
  }

module _ {R L A C : Type 0} (join : R → R → R) (s : Words R) (k : Layouts L) (trio : L) (trio_roles : List Role → List Role) (partitions : ℕ) (is_trio : IsLayout k partitions trio) (is_first : k.reading.version trio ≡ 1) where
  abbrev pub Going : World R L → control.World L → Effects R L A C → Type 0
  Going w c e = Goes k partitions w c e

  pub choose : (w : World R L) (c : control.World L) (b : Bool) (d e : Effects R L A C) → (b ≡ true → Going w c d) → (b ≡ false → Going w c e) → Going w c (cond b d e)
  choose w c b d e f g = goes_cond join s k partitions w c b d e f g

  pub refuse : (w : World R L) (c : control.World L) (r : Refusal C) → Controlled k partitions w c → Going w c (refusal w r)
  refuse w c r t = refusal_goes join s k partitions w c r t

  pub acting_goes : (w : World R L) (c : control.World L) (n : ℕ) (b : Bool) (a : Acted R L) → Controlled k partitions w c → Going w c (did w n a.did) → Going w c (acting join s k trio trio_roles w n b a)
  acting_goes w c n b a t g = choose w c b (refusal w NotMember) _ (λ e. refuse w c NotMember t) (λ e. record {
    steps = g.steps;
    turns = record { nodes = g.turns.nodes; top = g.turns.top; asked = g.turns.asked; grows = g.turns.grows; sends = g.turns.sends; layouts = g.turns.layouts };
  })

  pub local_goes : (w : World R L) (c : control.World L) (n : ℕ) (a : Action) → IsReached k.reading partitions c → Controlled k partitions w c → Going w c (local join s k trio trio_roles w n a)
  local_goes w c n a reached t = acting_goes w c n (has_none k (w.nodes n).view) (acts join s k n (clock w n) (w.nodes n) a) t (acts_goes join s k partitions w c n a reached t)

  pub trio_goes : (w : World R L) (c : control.World L) → Controlled k partitions w c → leb 1 w.applied ≡ false → Going w c (trio_applies join s k trio trio_roles w)
  trio_goes w c t e =
      let low : w.applied < 1 = leb-false 1 w.applied e in
      let none : w.applied ≡ 0 = omega arith in record {
        steps = Turn.Install (λ n. is_among n (k.reading.members trio)) trio ∷ [];
        turns = install_turns k partitions w c (λ n. is_among n (k.reading.members trio)) trio _ t is_trio is_first none (λ m. refl) refl refl refl;
      }

  pub given_goes : (w : World R L) (c : control.World L) (n : ℕ) (l : L) (shown : A) → IsReached k.reading partitions c → Controlled k partitions w c → IsLayout k partitions l → k.reading.version l ≡ suc w.applied →
      (leb 1 w.applied && not (is_member k (w.nodes n).view n)) ≡ false → leb (suc (newest k.reading (w.nodes n).view)) w.applied ≡ false →
      Going w c (chosen join s k trio trio_roles w n (suc (newest k.reading (w.nodes n).view)) (given l shown))
  given_goes w c n l shown reached t is version member free =
      elim (leb 1 w.applied) as (λ b. leb 1 w.applied ≡ b → (b && not (is_member k (w.nodes n).view n)) ≡ false → Going w c (chosen join s k trio trio_roles w n (suc (newest k.reading (w.nodes n).view)) (given l shown))) [
        | true ↦ (λ some m.
            let safe = safe_at k.reading partitions c reached in
            let under : newest k.reading (control.view_of c n) ≤ c.top = safe.applied n in
            let low : w.applied < suc (newest k.reading (w.nodes n).view) = leb-false (suc (newest k.reading (w.nodes n).view)) w.applied free in
            let same : newest k.reading (control.view_of c n) ≡ newest k.reading (w.nodes n).view = ap (newest k.reading) (t.nodes n).view in
            let top : c.top ≡ w.applied = t.top in
            let known : newest k.reading (w.nodes n).view ≡ w.applied = omega arith in record {
              steps = Turn.Apply n l ∷ [];
              turns = apply_turns k partitions w c n l _ t is version (not-false (is_member k (w.nodes n).view n) m) known (λ i. refl) refl refl refl;
            })
        | false ↦ (λ none m.
            let low : w.applied < 1 = leb-false 1 w.applied none in
            let zero_applied : w.applied ≡ 0 = omega arith in record {
              steps = Turn.Install (λ m. m == n) l ∷ [];
              turns = install_turns k partitions w c (λ m. m == n) l _ t is (version ∙ ap suc zero_applied) zero_applied (λ i. here k w.nodes l n i) refl refl refl;
            })
      ] refl member

  pub chosen_goes : (w : World R L) (c : control.World L) (n : ℕ) (choice : Choice L A C) → IsReached k.reading partitions c → Controlled k partitions w c → IsChoice k partitions w choice →
      (leb 1 w.applied && not (is_member k (w.nodes n).view n)) ≡ false → leb (suc (newest k.reading (w.nodes n).view)) w.applied ≡ false →
      Going w c (chosen join s k trio trio_roles w n (suc (newest k.reading (w.nodes n).view)) choice)
  chosen_goes w c n (none_given r) reached t is member free = refuse w c r t
  chosen_goes w c n (given l shown) reached t is member free = given_goes w c n l shown reached t is.0 is.1 member free

  pub apply_goes : (w : World R L) (c : control.World L) (n : ℕ) (choice : Choice L A C) → IsReached k.reading partitions c → Controlled k partitions w c → IsChoice k partitions w choice → Going w c (applies_at join s k trio trio_roles w n choice)
  apply_goes w c n choice reached t is =
      let after = suc (newest k.reading (w.nodes n).view) in
      choose w c (leb 1 w.applied && not (is_member k (w.nodes n).view n)) (refusal w NotMember) _ (λ e. refuse w c NotMember t) (λ member.
      choose w c (leb after w.applied) (refusal w (VersionTaken after)) _ (λ e. refuse w c (VersionTaken after) t) (λ free.
      choose w c (leb most_versions w.applied) (refusal w VersionLimit) _ (λ e. refuse w c VersionLimit t) (λ few.
      chosen_goes w c n choice reached t is member free)))

  pub begun_phase_goes : (w : World R L) (c : control.World L) (n : ℕ) (p : Phase R) (o : Option (Call R)) → Controlled k partitions w c → Going w c (begun join s k trio trio_roles w n p o)
  begun_phase_goes w c n p None t = nothing_goes join s k partitions w c t
  begun_phase_goes w c n p (Some d) t = goes_unseen k partitions w c n _ t (unseen_begins join s k w.kept (w.nodes n) d p)

  pub phase_goes : (w : World R L) (c : control.World L) (q : ℕ) (p : Phase R) (o : Option Request) → Controlled k partitions w c → Going w c (beginning join s k trio trio_roles w q p o)
  phase_goes w c q p None t = nothing_goes join s k partitions w c t
  phase_goes w c q p (Some r) t = choose w c r.is_open _ (nothing w) (λ e. begun_phase_goes w c r.coordinator p (call_at (w.nodes r.coordinator).calls q) t) (λ e. nothing_goes join s k partitions w c t)

  pub open_goes : (w : World R L) (c : control.World L) (n : ℕ) → Controlled k partitions w c → Going w c (opening join s k trio trio_roles w n)
  open_goes w c n t =
      choose w c (is_member k (w.nodes n).view n) _ (refusal w NotMember)
      (λ member. record { steps = Turn.Begin n ∷ []; turns = open_turns k partitions w c n _ t member (λ m. refl) refl refl refl })
      (λ e. refuse w c NotMember t)

  -- each step of the machine
  pub goes : (w : World R L) (c : control.World L) (step : Step R) (choice : Choice L A C) → IsReached k.reading partitions c → Controlled k partitions w c → IsChoice k partitions w choice → Going w c (effects join s k trio trio_roles w step choice)
  goes w c Trio choice reached t is = choose w c (leb 1 w.applied) (refusal w (VersionTaken 1)) _ (λ e. refuse w c (VersionTaken 1) t) (λ e. trio_goes w c t e)
  goes w c (Stage n role) choice reached t is = record { steps = []; turns = stays k partitions w c _ t (λ m. refl) refl refl refl }
  goes w c (Spread r) choice reached t is = record { steps = []; turns = stays k partitions w c _ t (λ m. refl) refl refl refl }
  goes w c (Apply n) choice reached t is = apply_goes w c n choice reached t is
  goes w c (Tick ms) choice reached t is = record { steps = []; turns = stays k partitions w c _ t (λ m. refl) refl refl refl }
  goes w c (Skew n ms) choice reached t is = record { steps = []; turns = stays k partitions w c _ t (λ m. refl) refl refl refl }
  goes w c (Deliver m) choice reached t is =
      message_goes join s k partitions w c m _ (numbered w.messages m) (numbered w.marks m) t
      (λ x e. received_goes join s k partitions w c m _ (receives_goes join s k partitions w c x.to x.from x.packet t (all_numbered (IsKnown c) w.messages m x t.sent e)))
  goes w c (Lose m) choice reached t is =
      message_goes join s k partitions w c m _ (numbered w.messages m) (numbered w.marks m) t (λ x e. record { steps = []; turns = stays k partitions w c _ t (λ i. refl) refl refl refl })
  goes w c (Expire q) choice reached t is = expires_goes join s k partitions w c q (numbered w.requests q) t
  goes w c (Restart n) choice reached t is = record { steps = Turn.Restart n ∷ []; turns = restart_turns k partitions w c n _ t (λ m. refl) refl refl refl }
  goes w c (Gossip from to) choice reached t is = record { steps = Turn.Gossip from ∷ []; turns = gossip_turns k partitions w c from to t }
  goes w c (Ack n) choice reached t is = local_goes w c n RaiseAck reached t
  goes w c (Syncs n) choice reached t is = local_goes w c n GoOn reached t
  goes w c (SyncAck n) choice reached t is = local_goes w c n RaiseSyncAck reached t
  goes w c (Clean n) choice reached t is = local_goes w c n CleanUp reached t
  goes w c (Work n) choice reached t is = local_goes w c n WorkOff reached t
  goes w c (Repair n) choice reached t is = acting_goes w c n (not (is_member k (w.nodes n).view n)) (acts join s k n (clock w n) (w.nodes n) Mend) t (acts_goes join s k partitions w c n Mend reached t)
  goes w c (Collect n) choice reached t is = local_goes w c n Gather reached t
  goes w c (Open n) choice reached t is = open_goes w c n t
  goes w c (Begin q p) choice reached t is = phase_goes w c q p (numbered w.requests q) t
  goes w c (Close q) choice reached t is = closing_goes join s k partitions w c q (numbered w.requests q) t

  pub follows : (w : World R L) (ms : List (Move R L A C)) → Follows k partitions w → IsRun join s k trio trio_roles partitions w ms → Follows k partitions (run join s k trio trio_roles w ms)
  follows w [] f h = f
  follows w (m ∷ ms) f h =
      let g = goes w f.control_world m.step m.choice f.reached f.same h.1 in
      follows (next join s k trio trio_roles w m) ms (record {
        control_world = turn_all k.reading partitions f.control_world g.steps;
        reached = reached_all k partitions f.control_world g.steps f.reached;
        same = turned k partitions w f.control_world (turn_all k.reading partitions f.control_world g.steps) (effects join s k trio trio_roles w m.step m.choice) f.same g.turns;
      }) h.3
