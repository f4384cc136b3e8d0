-- Each step of a world within the limits leaves it so: its numbers, its nodes and its messages.
use Rattle.std.specs.Prelude.{◌≡◌, ◌≤◌, ◌<◌, ◌+◌, ◌*◌, ◌^◌, ℕ, suc, Bool, true, false, not, ◌&&◌, ◌||◌, ◌==◌, leb, cond, List, [], ◌∷◌, ◌++◌, Option, Some, None, IsTrue, length, map, refl, ⊤}
use Rattle.std.specs.Option.{unwrap_or}
use Rattle.std.specs.List.{AllByRecursion}
use Rattle.std.proofs.Common.{ap, sym, subst, ◌∙◌, arith, length-append}
use Rattle.std.proofs.lemmas.Bool.{leb-true, leb-false, eqb-true}
use Rattle.std.proofs.lemmas.List.Elements.{All-from_recursion, recursion_from_All}
use Rattle.crdt_core.specs.EntryLaws.{and_parts}
use Rattle.crdt_core.proofs.Each.{all_append, all_weaker}
use Rattle.layout_roles.specs.declared.cut.Cut.{Cut}
use Rattle.layout_roles.specs.declared.layout.Layout.{Layout}
use Rattle.layout_roles.specs.Fits.{IsThree}
use Rattle.view_model.specs.Layouts.{reading}
use Rattle.view_model.specs.View.{follow, is_gapless, last_version, newest}
use Rattle.quorum_model.specs.Quorum.{is_among}
use Rattle.wire_messages.specs.Size.{plus, carried}
use Rattle.wire_messages.specs.declared.phase.Phase.{Phase}
use Rattle.cluster_machine.specs.declared.applied.Applied.{Applied}
use Rattle.cluster_machine.specs.declared.step.Step.{Step}
use Rattle.cluster_machine.specs.declared.step.Step.TheVariants.{Trio, Role as Stage, Redundancy as Spread, Apply, Tick, Skew, Deliver, Lose, Expire, Restart, Gossip, Ack, Sync as Syncs, SyncAck, Clean, Work, Repair, Collect, Open, Phase as Begin, Close}
use Rattle.cluster_machine.specs.declared.step.Action.{Action}
use Rattle.cluster_machine.specs.declared.step.Action.TheVariants.{Ack as RaiseAck, Sync as GoOn, SyncAck as RaiseSyncAck, Clean as CleanUp, Work as WorkOff, Repair as Mend, Collect as Gather}
use Rattle.cluster_machine.specs.declared.step.Refusal.{Refusal}
use Rattle.cluster_machine.specs.declared.step.Refusal.TheVariants.{VersionTaken, VersionLimit, NotMember, NoSuchMessage, Lost, NoSuchRequest, AlreadyEnded}
use Rattle.cluster_machine.specs.declared.step.Words.{Words as Told}
use Rattle.cluster_machine.specs.Layouts.{layouts, is_member, has_none}
use Rattle.cluster_machine.specs.Node.{Call, Item, Packet, says, shows, Did, quiet}
use Rattle.cluster_machine.specs.Phases.{opened, closed, begins, call_at, is_spelled}
use Rattle.cluster_machine.specs.Acts.{unconfirmed, acts, appends, restarts}
use Rattle.cluster_machine.specs.World.{Sent, Mark, Request, numbered, clock, packet_size, sent_bytes}
use Rattle.cluster_machine.specs.Step.{most_versions, Choice, given, none_given, nothing, refusal, only, sent_by, did, received, at_message, expires, closing, chosen, applies_at, trio_applies, acting, begun, beginning, opening, effects, skewed, shut}
use Rattle.cluster_machine.specs.Trio.{trio, stage_trio}
use Rattle.cluster_machine.specs.Choices.{HasGreatest}
use Rattle.cluster_machine.specs.Fits.{Fits, FitNodes, IsWord}
use Rattle.cluster_machine.specs.Worlds.{Model, Doing, Done, IsSound, does, next}
use Rattle.cluster_machine.proofs.Closing.{length_shut}
use Rattle.machine_origins.specs.Origins.{stored_by}
use Rattle.machine_origins.proofs.Lists.{all_filter, all_numbered, all_found}
use Rattle.machine_origins.proofs.Sound.{Asks, IsSent, led}
use Rattle.machine_origins.proofs.Sound as origin
use Rattle.machine_origins.proofs.Beginning.{BeginsPlaced}
use Rattle.machine_origins.proofs.Steps.{leads}
use Rattle.table_schema.specs.Words.{Words}
use Rattle.machine_limits.specs.Bounds.{AreBounded}
use Rattle.machine_limits.specs.Steps.{PhaseFits, StepFits, HasPlace}
use Rattle.machine_limits.proofs.Contents.{rules_of}
use Rattle.machine_limits.proofs.Posts.{Mail, mail_sent, costs_more, costs_one, ViewFits, SetsFit, spelled_so}
use Rattle.machine_limits.proofs.Nodes.{Machine, mail_limit, NodeFits, DidFits, PacketBeside, Short, node_later, node_more, receives_fits, acts_fit, begins_fit}

module _ {R : Type 0} (join : R → R → R) (s : Words R) (P : R → Type 0) (weight : R → ℕ) where
  -- a world after so many steps, in which so many bytes were delivered and at most so many were sent; no node began more collections than messages were sent
  pub record WorldFits (t k b : ℕ) (w : Model R) : Type 0 where
    pub early : t ≤ 16777216
    pub sound : IsSound w
    pub asks : Asks
    pub rows : origin.IsSound join s P Short asks w
    pub nodes : (n : ℕ) → NodeFits join s weight t k (length w.messages) (w.nodes n)
    pub beside : AllByRecursion (λ (m : Sent R Layout). PacketBeside m.packet) w.messages
    pub time : w.time ≤ t * 86400000
    pub skews : (n : ℕ) → w.skew_of n ≤ 3600000
    pub requests : length w.requests ≤ t
    pub applied : w.applied ≤ 100
    pub bytes : ℕ
    pub bytes_are : sent_bytes s w.messages ≡ Some bytes
    pub few : bytes ≤ b

-- ---- views

counted_from : (before : ℕ) (ls : List Layout) → follow reading before ls ≡ true → before + length ls ≤ last_version reading before ls
counted_from before [] h = omega arith
counted_from before (l ∷ ls) h =
    let parts = and_parts (l.version == suc before) (follow reading l.version ls) h in
    let is : l.version ≡ suc before = eqb-true l.version (suc before) parts.0 in
    let rest = counted_from l.version ls parts.1 in
    omega arith

counted_layouts : (ls : List Layout) → is_gapless reading ls ≡ true → length ls ≤ last_version reading 0 ls
counted_layouts [] h = omega arith
counted_layouts (l ∷ ls) h =
    let parts = and_parts (leb 1 l.version) (follow reading l.version ls) h in
    let low : 1 ≤ l.version = leb-true 1 l.version parts.0 in
    let rest = counted_from l.version ls parts.1 in
    omega arith

greatest_sets : (l : Layout) → HasGreatest l → SetsFit l
greatest_sets l h = all_weaker (IsThree l.roles.list) (λ (set : List ℕ). length set ≤ 3) (λ set i. let e = i.three in omega arith) l.sets.sets (recursion_from_All (IsThree l.roles.list) l.sets.sets h.fits.threes)

pub views_fit : {R : Type 0} (w : Model R) → IsSound w → w.applied ≤ 100 → (n : ℕ) → ViewFits (w.nodes n).view
views_fit w sound low n =
    let x = w.nodes n in
    let a = sound.versions n in
    let b = counted_layouts x.view.layouts (sound.gapless n) in
    record { few = omega arith; sets = all_weaker HasGreatest SetsFit greatest_sets x.view.layouts (sound.greatest n) }

-- ---- bytes

module _ {R : Type 0} (s : Words R) where
  packet_least : (p : Packet R Layout) (b : ℕ) → packet_size s p ≡ Some b → 64 ≤ b
  packet_least (says m) b e = by_carried (carried s m) e
    where
      by_carried : (o : Option ℕ) → plus (Some 64) o ≡ Some b → 64 ≤ b
      by_carried None e = cc
      by_carried (Some c) e = let same : 64 + c ≡ b = cc in omega arith
  packet_least (shows view) b e = let same : 64 + 1600 * length view.layouts ≡ b = cc in omega arith

  -- each message counts 64 bytes at least
  pub messages_few : (ms : List (Sent R Layout)) (b : ℕ) → sent_bytes s ms ≡ Some b → 64 * length ms ≤ b
  messages_few [] b e = omega arith
  messages_few (m ∷ ms) b e = by_both (packet_size s m.packet) (sent_bytes s ms) refl refl e (messages_few ms)
    where
      by_both : (o p : Option ℕ) → packet_size s m.packet ≡ o → sent_bytes s ms ≡ p → plus o p ≡ Some b → ((d : ℕ) → sent_bytes s ms ≡ Some d → 64 * length ms ≤ d) → 64 * suc (length ms) ≤ b
      by_both None p f g e rest = cc
      by_both (Some c) None f g e rest = cc
      by_both (Some c) (Some d) f g e rest =
          let one = packet_least m.packet c f in
          let more = rest d g in
          let same : c + d ≡ b = cc in
          omega arith

  bytes_both : (xs ys : List (Sent R Layout)) (a b : ℕ) → sent_bytes s xs ≡ Some a → sent_bytes s ys ≡ Some b → sent_bytes s (xs ++ ys) ≡ Some (a + b)
  bytes_both [] ys a b e f = let none : 0 ≡ a = cc in f ∙ ap (λ n. Some n) (omega arith)
  bytes_both (m ∷ xs) ys a b e f = by_both (packet_size s m.packet) (sent_bytes s xs) refl refl e (λ d h. bytes_both xs ys d b h f)
    where
      by_both : (o p : Option ℕ) → packet_size s m.packet ≡ o → sent_bytes s xs ≡ p → plus o p ≡ Some a → ((d : ℕ) → sent_bytes s xs ≡ Some d → sent_bytes s (xs ++ ys) ≡ Some (d + b)) → sent_bytes s (m ∷ (xs ++ ys)) ≡ Some (a + b)
      by_both None p g h e rest = cc
      by_both (Some c) None g h e rest = cc
      by_both (Some c) (Some d) g h e rest =
          let more : sent_bytes s (xs ++ ys) ≡ Some (d + b) = rest d h in
          let same : c + d ≡ a = cc in
          let sum : c + (d + b) ≡ a + b = omega arith in
          rw (g, more) (ap (λ n. Some n) sum)

-- ---- what a step adds

-- a message that is marked waits no more
abbrev pub MarksFit : Option (ℕ × Mark) → Type 0
MarksFit None = ⊤
MarksFit (Some mark) = (mark.1.is_delivered || mark.1.is_lost) ≡ true

module _ {R : Type 0} (join : R → R → R) (s : Words R) (weight : R → ℕ) where
  -- what a step does leaves a world within the limits
  pub record StepKeeps (t k : ℕ) (w : Model R) (e : Done R) : Type 0 where
    pub nodes : (n : ℕ) → NodeFits join s weight t k (length e.sends + length w.messages) (unwrap_or (e.nodes n) (w.nodes n))
    pub spelled : e.is_spelled ≡ true
    pub bytes : ℕ
    pub cost : sent_bytes s e.sends ≡ Some bytes
    pub few : bytes ≤ mail_limit
    pub beside : AllByRecursion (λ (m : Sent R Layout). PacketBeside m.packet) e.sends
    pub passes : e.passes ≤ 86400000
    pub skews : (n : ℕ) → skewed e.skews w.skew_of n ≤ 3600000
    pub opens : length e.opens ≤ 1
    pub applies : w.applied + e.applies ≤ 100
    pub marks : MarksFit e.marks

sent_length : {R : Type 0} (w : Model R) (n : ℕ) (posts : List (Mail R)) → length (sent_by w n posts) ≡ length posts
sent_length w n [] = refl
sent_length w n (p ∷ posts) = ap suc (sent_length w n posts)

sent_beside : {R : Type 0} (w : Model R) (n : ℕ) (posts : List (Mail R)) → AllByRecursion (λ (p : Mail R). PacketBeside p.packet) posts → AllByRecursion (λ (m : Sent R Layout). PacketBeside m.packet) (sent_by w n posts)
sent_beside w n [] a = tt
sent_beside w n (p ∷ posts) a = (a.0, sent_beside w n posts a.1)

module _ {R : Type 0} {join : R → R → R} {s : Words R} {P : R → Type 0} {weight : R → ℕ} (bounded : AreBounded join s P weight) where
  module _ (t k m b : ℕ) (grows : k ≤ m) (top : m ≤ 27000000000000) (w : Model R) (fits : WorldFits join s P weight t k b w) where
    abbrev StepGood : Done R → Type 0
    StepGood e = StepKeeps join s weight (suc t) m w e

    still_fits : (n : ℕ) → NodeFits join s weight (suc t) m (length w.messages) (w.nodes n)
    still_fits n = node_later t k (suc t) m (w.nodes n) (omega arith) grows (fits.nodes n)

    still_more : (n : ℕ) → NodeFits join s weight (suc t) m (0 + length w.messages) (w.nodes n)
    still_more n = node_more (suc t) m (length w.messages) (0 + length w.messages) (w.nodes n) (omega arith) (still_fits n)

    one_fits : (sent n : ℕ) (x : Machine R) → length w.messages ≤ sent → NodeFits join s weight (suc t) m sent x → (j : ℕ) → NodeFits join s weight (suc t) m sent (unwrap_or (only n x j) (w.nodes j))
    one_fits sent n x more h j =
        elim (j == n) as (λ c. NodeFits join s weight (suc t) m sent (unwrap_or (cond c (Some x) None) (w.nodes j))) [ true ↦ h | false ↦ node_more (suc t) m (length w.messages) sent (w.nodes j) more (still_fits j) ]

    -- nodes change, and nothing is sent
    nodes_good : (e : Done R) → ((n : ℕ) → NodeFits join s weight (suc t) m (length w.messages) (unwrap_or (e.nodes n) (w.nodes n))) → e.is_spelled ≡ true → e.sends ≡ [] → e.passes ≡ 0 → e.skews ≡ None → length e.opens ≤ 1 → w.applied + e.applies ≤ 100 → MarksFit e.marks → StepGood e
    nodes_good e nodes spelled sends passes skews opens applies marks = record {
      nodes = λ n. node_more (suc t) m (length w.messages) (length e.sends + length w.messages) (unwrap_or (e.nodes n) (w.nodes n)) (omega arith) (nodes n);
      spelled = spelled;
      bytes = 0;
      cost = ap (λ xs. sent_bytes s xs) sends;
      few = omega arith;
      beside = subst (AllByRecursion (λ (m : Sent R Layout). PacketBeside m.packet)) (sym sends) tt;
      passes = omega arith;
      skews = λ n. subst (λ o. skewed o w.skew_of n ≤ 3600000) (sym skews) (fits.skews n);
      opens = opens;
      applies = applies;
      marks = marks;
    }

    applied_low : w.applied + 0 ≤ 100
    applied_low = let low = fits.applied in omega arith

    refused : (r : Refusal Cut) → StepGood (refusal w r)
    refused r = nodes_good (refusal w r) still_fits refl refl refl refl (omega arith) applied_low tt

    nothing_good : StepGood (nothing w)
    nothing_good = nodes_good (nothing w) still_fits refl refl refl refl (omega arith) applied_low tt

    one_good : (e : Done R) (n : ℕ) (x : Machine R) → NodeFits join s weight (suc t) m (length w.messages) x → e.nodes ≡ only n x → e.is_spelled ≡ true → e.sends ≡ [] → e.passes ≡ 0 → e.skews ≡ None → length e.opens ≤ 1 → w.applied + e.applies ≤ 100 → MarksFit e.marks → StepGood e
    one_good e n x h nodes = nodes_good e (λ j. subst (λ (f : ℕ → Option (Machine R)). NodeFits join s weight (suc t) m (length w.messages) (unwrap_or (f j) (w.nodes j))) (sym nodes) (one_fits (length w.messages) n x (omega arith) h j))

    did_good : (n : ℕ) (d : Did R Layout) → DidFits join s weight (suc t) m (length w.messages) d → StepGood (did w n d)
    did_good n d h =
        let same = sent_length w n d.posts in
        let low = h.low in
        let after : h.after ≤ length (sent_by w n d.posts) + length w.messages = omega (arith, same, low) in
        let more : length w.messages ≤ length (sent_by w n d.posts) + length w.messages = omega arith in
        record {
          nodes = one_fits (length (sent_by w n d.posts) + length w.messages) n d.node more (node_more (suc t) m h.after (length (sent_by w n d.posts) + length w.messages) d.node after h.node);
          spelled = h.spelled;
          bytes = h.cost.bytes;
          cost = mail_sent s w n d.posts ∙ h.cost.is;
          few = h.cost.within;
          beside = sent_beside w n d.posts h.beside;
          passes = omega arith;
          skews = fits.skews;
          opens = omega arith;
          applies = applied_low;
          marks = tt;
        }

    received_good : (i : ℕ) (e : Done R) → StepGood e → StepGood (received i e)
    received_good i e h = record { nodes = h.nodes; spelled = h.spelled; bytes = h.bytes; cost = h.cost; few = h.few; beside = h.beside; passes = h.passes; skews = h.skews; opens = h.opens; applies = h.applies; marks = refl }

    worded_good : (e : Done R) (told : Told) → StepGood e → StepGood (record e { words = told })
    worded_good e told h = record { nodes = h.nodes; spelled = h.spelled; bytes = h.bytes; cost = h.cost; few = h.few; beside = h.beside; passes = h.passes; skews = h.skews; opens = h.opens; applies = h.applies; marks = h.marks }

    by_test : (c : Bool) (d e : Done R) → (c ≡ true → StepGood d) → (c ≡ false → StepGood e) → StepGood (cond c d e)
    by_test true d e f h = f refl
    by_test false d e f h = h refl

    abbrev view_of : (n : ℕ) → ViewFits (w.nodes n).view
    view_of n = views_fit w fits.sound fits.applied n

    acting_good : (n : ℕ) (c : Bool) (action : Action) → StepGood (acting join s layouts trio stage_trio w n c (acts join s layouts n (clock w n) (w.nodes n) action))
    acting_good n c action =
        let a = acts join s layouts n (clock w n) (w.nodes n) action in
        by_test c (refusal w NotMember) _ (λ e. refused NotMember)
        (λ e. worded_good (did w n a.did) _ (did_good n a.did (acts_fit bounded t (length w.messages) fits.asks (length w.requests) n k m grows top (w.nodes n) (fits.rows.nodes n) (fits.nodes n) (view_of n) (clock w n) action)))

    message_good : (f : Sent R Layout → Done R) (o : Option (Sent R Layout)) (mark : Option Mark) → ((x : Sent R Layout) → o ≡ Some x → StepGood (f x)) → StepGood (at_message w f o mark)
    message_good f None mark h = refused NoSuchMessage
    message_good f (Some x) None h = refused NoSuchMessage
    message_good f (Some x) (Some mark) h = by_test mark.is_lost (refusal w Lost) (f x) (λ e. refused Lost) (λ e. h x refl)

    closed_node : (n q : ℕ) → NodeFits join s weight (suc t) m (length w.messages) (closed q (w.nodes n))
    closed_node n q =
        let h = still_fits n in
        record { counted = h.counted; listed = h.listed; small = h.small; rounds = h.rounds; phases = all_filter (λ (c : Call R). c.phases ≤ suc t) (λ (c : Call R). cond (c.request == q) false true) (w.nodes n).calls h.phases; blocks = h.blocks; collections = h.collections; round = h.round }

    appended_node : (n : ℕ) (l : Layout) → NodeFits join s weight (suc t) m (length w.messages) (appends layouts (w.nodes n) l)
    appended_node n l = let h = still_fits n in record { counted = h.counted; listed = h.listed; small = h.small; rounds = h.rounds; phases = h.phases; blocks = h.blocks; collections = h.collections; round = h.round }

    restarted_node : (n : ℕ) → NodeFits join s weight (suc t) m (length w.messages) (restarts (w.nodes n))
    restarted_node n =
        let h = still_fits n in
        let listed : length (w.nodes n).items ≤ (w.nodes n).queued = h.listed in
        let same = unconfirmed_length (w.nodes n).items in
        record { counted = h.counted; listed = omega arith; small = unconfirmed_all (w.nodes n).items h.small; rounds = h.rounds; phases = tt; blocks = h.blocks; collections = h.collections; round = tt }
      where
        unconfirmed_all : (items : List (Item R)) → AllByRecursion (λ (item : Item R). weight item.row ≤ 64) items → AllByRecursion (λ (item : Item R). weight item.row ≤ 64) (map unconfirmed items)
        unconfirmed_all [] a = tt
        unconfirmed_all (item ∷ items) a = (a.0, unconfirmed_all items a.1)

        unconfirmed_length : (items : List (Item R)) → length (map unconfirmed items) ≡ length items
        unconfirmed_length [] = refl
        unconfirmed_length (item ∷ items) = ap suc (unconfirmed_length items)

    opened_node : (n q start : ℕ) → NodeFits join s weight (suc t) m (length w.messages) (opened q start (w.nodes n))
    opened_node n q start = let h = still_fits n in record { counted = h.counted; listed = h.listed; small = h.small; rounds = h.rounds; phases = (omega arith, h.phases); blocks = h.blocks; collections = h.collections; round = h.round }

    trio_good : w.applied < 1 → StepGood (trio_applies join s layouts trio stage_trio w)
    trio_good low =
        nodes_good (trio_applies join s layouts trio stage_trio w)
        (λ n. elim (is_among n (layouts.reading.members trio)) as (λ c. NodeFits join s weight (suc t) m (length w.messages) (unwrap_or (cond c (Some (appends layouts (w.nodes n) trio)) None) (w.nodes n))) [ true ↦ appended_node n trio | false ↦ still_fits n ])
        refl refl refl refl (omega arith) (omega arith) tt

    chosen_good : (n new : ℕ) (choice : Choice Layout Applied Cut) → w.applied < 100 → StepGood (chosen join s layouts trio stage_trio w n new choice)
    chosen_good n new (none_given r) low = refused r
    chosen_good n new (given l shown) low = one_good _ n (appends layouts (w.nodes n) l) (appended_node n l) refl refl refl refl refl (omega arith) (omega arith) tt

    applies_good : (n : ℕ) (choice : Choice Layout Applied Cut) → StepGood (applies_at join s layouts trio stage_trio w n choice)
    applies_good n choice =
        let after = suc (newest layouts.reading (w.nodes n).view) in
        by_test (leb 1 w.applied && not (is_member layouts (w.nodes n).view n)) (refusal w NotMember) _ (λ e. refused NotMember)
        (λ e. by_test (leb after w.applied) (refusal w (VersionTaken after)) _ (λ e. refused (VersionTaken after))
        (λ e. by_test (leb most_versions w.applied) (refusal w VersionLimit) _ (λ e. refused VersionLimit)
        (λ e. chosen_good n after choice (leb-false most_versions w.applied e))))

    expires_good : (q : ℕ) (o : Option Request) → StepGood (expires {A = Applied} {C = Cut} w q o)
    expires_good q None = refused NoSuchRequest
    expires_good q (Some r) = by_test r.is_open _ (refusal w AlreadyEnded) (λ e. one_good _ r.coordinator (closed q (w.nodes r.coordinator)) (closed_node r.coordinator q) refl refl refl refl refl (omega arith) applied_low tt) (λ e. refused AlreadyEnded)

    closing_good : (q : ℕ) (o : Option Request) → StepGood (closing {A = Applied} {C = Cut} w q o)
    closing_good q None = nothing_good
    closing_good q (Some r) = by_test r.is_open _ (nothing w) (λ e. one_good _ r.coordinator (closed q (w.nodes r.coordinator)) (closed_node r.coordinator q) refl refl refl refl refl (omega arith) applied_low tt) (λ e. nothing_good)

    opening_good : (n : ℕ) → StepGood (opening {A = Applied} {C = Cut} join s layouts trio stage_trio w n)
    opening_good n =
        let q = suc (length w.requests) in
        let start = newest layouts.reading (w.nodes n).view in
        by_test (is_member layouts (w.nodes n).view n) _ (refusal w NotMember)
        (λ e. one_good _ n (opened q start (w.nodes n)) (opened_node n q start) refl refl refl refl refl (omega arith) applied_low tt) (λ e. refused NotMember)

    begun_good : (n q : ℕ) (phase : Phase R) (o : Option (Call R)) → call_at (w.nodes n).calls q ≡ o → PhaseFits P weight phase → StepGood (begun {A = Applied} {C = Cut} join s layouts trio stage_trio w n phase o)
    begun_good n q phase None e h = nothing_good
    begun_good n q phase (Some c) e h =
        let low = (all_found (λ (c : Call R). c.phases ≤ t) (λ (c : Call R). c.request == q) (w.nodes n).calls c (fits.nodes n).phases e).0 in
        did_good n (begins s layouts w.kept (w.nodes n) c phase) (begins_fit bounded t (length w.messages) fits.asks (length w.requests) n k m grows top (w.nodes n) (fits.rows.nodes n) (fits.nodes n) (view_of n) w.kept c phase low h)

    beginning_good : (q : ℕ) (phase : Phase R) (o : Option Request) → PhaseFits P weight phase → StepGood (beginning {A = Applied} {C = Cut} join s layouts trio stage_trio w q phase o)
    beginning_good q phase None h = nothing_good
    beginning_good q phase (Some r) h = by_test r.is_open _ (nothing w) (λ e. begun_good r.coordinator q phase (call_at (w.nodes r.coordinator).calls q) refl h) (λ e. nothing_good)

    step_good : (st : Step R) (choice : Choice Layout Applied Cut) → StepFits P weight st → HasPlace s k m w st → StepGood (effects join s layouts trio stage_trio w st choice)
    step_good Trio choice h room = by_test (leb 1 w.applied) (refusal w (VersionTaken 1)) _ (λ e. refused (VersionTaken 1)) (λ e. trio_good (leb-false 1 w.applied e))
    step_good (Stage n role) choice h room = nodes_good _ still_fits refl refl refl refl (omega arith) applied_low tt
    step_good (Spread r) choice h room = nodes_good _ still_fits refl refl refl refl (omega arith) applied_low tt
    step_good (Apply n) choice h room = applies_good n choice
    step_good (Tick ms) choice h room = record { nodes = still_more; spelled = refl; bytes = 0; cost = refl; few = omega arith; beside = tt; passes = h; skews = fits.skews; opens = omega arith; applies = applied_low; marks = tt }
    step_good (Skew n ms) choice h room = record {
      nodes = still_more;
      spelled = refl;
      bytes = 0;
      cost = refl;
      few = omega arith;
      beside = tt;
      passes = omega arith;
      skews = λ j. elim (j == n) as (λ c. cond c ms (w.skew_of j) ≤ 3600000) [ true ↦ h | false ↦ fits.skews j ];
      opens = omega arith;
      applies = applied_low;
      marks = tt;
    }
    step_good (Deliver i) choice h room =
        message_good _ (numbered w.messages i) (numbered w.marks i)
        (λ x e. received_good i _ (did_good x.to _
        (receives_fits bounded t (length w.messages) fits.asks (length w.requests) x.to k m grows top (w.nodes x.to) (fits.rows.nodes x.to) (fits.nodes x.to) (view_of x.to) (clock w x.to) x.from x.packet
        (all_numbered (IsSent join s P Short fits.asks) w.messages i x fits.rows.messages e) (all_numbered (λ (m : Sent R Layout). PacketBeside m.packet) w.messages i x fits.beside e) (room x e))))
    step_good (Lose i) choice h room = message_good _ (numbered w.messages i) (numbered w.marks i) (λ x e. nodes_good _ still_fits refl refl refl refl (omega arith) applied_low refl)
    step_good (Expire q) choice h room = expires_good q (numbered w.requests q)
    step_good (Restart n) choice h room = one_good _ n (restarts (w.nodes n)) (restarted_node n) refl refl refl refl refl (omega arith) applied_low tt
    step_good (Gossip from to) choice h room =
        let few = (view_of from).few in
        did_good from (record (quiet (w.nodes from)) { posts = record { to = to; packet = shows (w.nodes from).view } ∷ [] })
        (record { after = length w.messages; low = omega arith; node = still_fits from; spelled = refl; cost = costs_more _ (64 + 1600 * length (w.nodes from).view.layouts) mail_limit (costs_one (record { to = to; packet = shows (w.nodes from).view }) (64 + 1600 * length (w.nodes from).view.layouts) refl) (omega arith); beside = (tt, tt) })
    step_good (Ack n) choice h room = acting_good n (has_none layouts (w.nodes n).view) RaiseAck
    step_good (Syncs n) choice h room = acting_good n (has_none layouts (w.nodes n).view) GoOn
    step_good (SyncAck n) choice h room = acting_good n (has_none layouts (w.nodes n).view) RaiseSyncAck
    step_good (Clean n) choice h room = acting_good n (has_none layouts (w.nodes n).view) CleanUp
    step_good (Work n) choice h room = acting_good n (has_none layouts (w.nodes n).view) WorkOff
    step_good (Repair n) choice h room = acting_good n (not (is_member layouts (w.nodes n).view n)) Mend
    step_good (Collect n) choice h room = acting_good n (has_none layouts (w.nodes n).view) Gather
    step_good (Open n) choice h room = opening_good n
    step_good (Begin q phase) choice h room = beginning_good q phase (numbered w.requests q) h
    step_good (Close q) choice h room = closing_good q (numbered w.requests q)

    -- the world after a step
    pub world_next : (mv : Doing R) → t < 16777216 → StepFits P weight mv.step → HasPlace s k m w mv.step → AllByRecursion P (stored_by mv.step) → BeginsPlaced mv.step → IsSound (next join s w mv) →
        ((does join s w mv).is_spelled ≡ true) × WorldFits join s P weight (suc t) m (b + mail_limit) (next join s w mv) × MarksFit (does join s w mv).marks
    world_next mv low meant room stored placed sound =
        let e = does join s w mv in
        let step = step_good mv.step mv.choice meant room in
        let l = leads (rules_of bounded) Short layouts trio stage_trio Applied Cut fits.asks w fits.rows (λ n. (fits.nodes n).blocks) mv.step mv.choice stored placed in
        let sum : length (shut w.requests e.closes ++ e.opens) ≡ length (shut w.requests e.closes) + length e.opens = length-append (shut w.requests e.closes) e.opens in
        let same : length (shut w.requests e.closes) ≡ length w.requests = length_shut w.requests e.closes in
        let both : length (w.messages ++ e.sends) ≡ length w.messages + length e.sends = length-append w.messages e.sends in
        let count : length e.sends + length w.messages ≡ length (w.messages ++ e.sends) = omega (arith, both) in
        let opens = step.opens in
        let passes = step.passes in
        let time = fits.time in
        let requests = fits.requests in
        let few = fits.few in
        let more = step.few in (
          step.spelled,
          record {
            early = low;
            sound = sound;
            asks = l.asks;
            rows = led join s P Short fits.asks w e fits.rows step.spelled l;
            nodes = λ n. subst (λ sent. NodeFits join s weight (suc t) m sent (unwrap_or (e.nodes n) (w.nodes n))) count (step.nodes n);
            beside = all_append (λ (m : Sent R Layout). PacketBeside m.packet) w.messages e.sends fits.beside step.beside;
            time = omega arith;
            skews = step.skews;
            requests = omega arith;
            applied = step.applies;
            bytes = fits.bytes + step.bytes;
            bytes_are = bytes_both s w.messages e.sends fits.bytes step.bytes fits.bytes_are step.cost;
            few = omega arith;
          },
          step.marks,
        )

  -- a world that fits has room for its numbers and rows
  pub room_of : (t k b : ℕ) (w : Model R) → k ≤ 27000000000000 → b ≤ 16000000000000000000 → WorldFits join s P weight t k b w → Fits s w × FitNodes s w
  room_of t k b w top low fits =
      let few = fits.early in
      let time = fits.time in
      let requests = fits.requests in
      let bytes = fits.few in
      let messages = messages_few s w.messages fits.bytes fits.bytes_are in (
        record {
          time = omega arith;
          clocks = λ n. let skew = fits.skews n in omega arith;
          messages = omega arith;
          requests = omega arith;
          bytes = subst IsWord (sym fits.bytes_are) (omega arith);
        },
        λ n.
            let x = fits.nodes n in
            let counted = x.counted in
            let rounds = x.rounds in
            let begun = x.collections in
            record {
              spelled = All-from_recursion (λ (item : Item R). IsTrue (is_spelled s item.row)) (w.nodes n).items (all_weaker (λ (item : Item R). P item.row) (λ (item : Item R). IsTrue (is_spelled s item.row)) (λ item h. spelled_so bounded item.row h) (w.nodes n).items (fits.rows.nodes n).items);
              queued = omega arith;
              rounds = omega arith;
              collections = omega arith;
              phases = all_weaker (λ (c : Call R). c.phases ≤ t) (λ (c : Call R). c.phases < 2 ^ 32) (λ c h. omega arith) (w.nodes n).calls x.phases;
            },
      )
