-- What orders do leaves each node's layouts, sends no view, and applies no version.
use Rattle.std.specs.Prelude.{◌≡◌, ℕ, ◌+◌, ◌-◌, Bool, true, false, cond, ◌==◌, Option, Some, None, ⊤, List, [], ◌∷◌, ◌++◌, length, slice_set, refl}
use Rattle.std.specs.Option.{unwrap_or}
use Rattle.std.specs.List.{AllByRecursion}
use Rattle.std.proofs.Common.{ap, sym, subst, ◌∙◌, arith}
use Rattle.blake2_hash.specs.declared.digest.Hash32.{Hash32}
use Rattle.walk_model.specs.Walking.{is_open}
use Rattle.crdt_core.proofs.Each.{all_append}
use Rattle.crdt_rows.specs.AnyRow.{any_join}
use Rattle.crdt_rows.specs.declared.any_row.AnyRow.{AnyRow}
use Rattle.object_schema.specs.Schema.{words}
use Rattle.layout_roles.specs.declared.layout.Layout.{Layout}
use Rattle.layout_roles.specs.declared.cut.Cut.{Cut}
use Rattle.wire_messages.specs.declared.message.Message.{Message}
use Rattle.wire_messages.specs.declared.message.Message.TheVariants.{Get, Row, Range, Rows, Store, Stored, Behind, NotHere, BlockGet, Block, NoBlock, Walk as AsksValue, Same as HasSame, Differ, Tomb, Tombed, Forget}
use Rattle.wire_messages.specs.declared.message.Tag.TheVariants.{Call as ForCall, Round as ForRound, Item as ForItem}
use Rattle.wire_messages.specs.declared.phase.Phase.{Phase}
use Rattle.cluster_machine.specs.declared.applied.Applied.{Applied}
use Rattle.cluster_machine.specs.declared.step.Step.{Step}
use Rattle.cluster_machine.specs.declared.step.Step.TheVariants.{Tick, Deliver, Expire, Work, Open, Phase as Begin, Close}
use Rattle.cluster_machine.specs.declared.step.Refusal.{Refusal}
use Rattle.cluster_machine.specs.declared.step.Refusal.TheVariants.{VersionLimit, NotMember, AlreadyEnded, NoSuchRequest}
use Rattle.cluster_machine.specs.Layouts.{layouts, is_member, has_none}
use Rattle.cluster_machine.specs.Acts.{works}
use Rattle.cluster_machine.specs.Node.{Call, Node, Round, Walk, Packet, says, shows, Post, Did, quiet}
use Rattle.cluster_machine.specs.Phases.{begins, call_at, closed}
use Rattle.cluster_machine.specs.Receives.{hears, receives, round_came}
use Rattle.cluster_machine.specs.Rounds.{walk_at, walks_after, found_same, asked_after, walk_after, synced, goes_on, is_complete, round_walks, at_walk, late_came, answer_came}
use Rattle.cluster_machine.specs.Run.{IsChoice, next as machine_next}
use Rattle.cluster_machine.specs.Step.{Choice, none_given, Effects, refusal, nothing, only, did, received, sent_by, at_message, begun, beginning, expires, closing, effects, applied, marked}
use Rattle.cluster_machine.specs.Trio.{trio, stage_trio}
use Rattle.cluster_machine.specs.World.{Sent, Request, numbered, clock}
use Rattle.machine_laws.specs.Follows.{Follows}
use Rattle.machine_laws.proofs.Same.{IsSaid, SaysOnly, Unseen, unseen_hears, unseen_begins}
use Rattle.machine_laws.proofs.Collecting.{unseen_tomb, unseen_tomb_came, unseen_forgets}
use Rattle.machine_laws.proofs.Rounding.{said_after, unseen_late}
use Rattle.machine_laws.proofs.Runs.{unseen_works, goes, reached_all}
use Rattle.machine_laws.proofs.Controls.{turned}
use Rattle.control_model.specs.Steps.{run as turn_all}
use Rattle.machine_origins.proofs.Lists.{all_parts}
use Rattle.world_laws.proofs.Sets.{first_is_layout}
use Rattle.world_laws.proofs.TrioGreatest.{trio_is_first}
use Rattle.store_model.specs.Run.{World, Moving, plainly}
use Rattle.drained_laws.specs.Waiting.{fresh, waiting_among, waiting}
use Rattle.drained_laws.proofs.Waits.{done, all_fresh, taken, sent_wait}
use Rattle.drained_laws.proofs.Weights.{marked_next}
use Rattle.drained_laws.proofs.Deliveries.{one_changes}
use Rattle.drained_laws.proofs.Steps.{at_number}
use Rattle.std.proofs.lemmas.List.{length-set}

abbrev Made : Type 0
Made = Effects AnyRow Layout Applied Cut

-- no view is shown
abbrev pub AllSaid : List (Sent AnyRow Layout) → Type 0
AllSaid xs = AllByRecursion (λ (x : Sent AnyRow Layout). IsSaid x.packet) xs

-- ---- one node

-- the layouts stay, and no view is sent
pub record Leaves (y : Node AnyRow Layout) (d : Did AnyRow Layout) : Type 0 where
  pub layouts : d.node.view.layouts ≡ y.view.layouts
  pub posts : SaysOnly d.posts

leaves_unseen : (y : Node AnyRow Layout) (d : Did AnyRow Layout) → Unseen y d → Leaves y d
leaves_unseen y d u = record { layouts = ap (λ v. v.layouts) u.same.view; posts = u.posts }

leaves_by : (y : Node AnyRow Layout) (b : Bool) (d e : Did AnyRow Layout) → Leaves y d → Leaves y e → Leaves y (cond b d e)
leaves_by y true d e h g = h
leaves_by y false d e h g = g

leaves_round : (id : ℕ) (y : Node AnyRow Layout) (from number p : ℕ) (o : Option Round) → Leaves y (round_came any_join words layouts id y from number p o)
leaves_round id y from number p None = record { layouts = refl; posts = tt }
leaves_round id y from number p (Some round) =
    let now : Round = record round { confirmed = round.confirmed ++ record { partition = p; node = from } ∷ [] } in
    leaves_by y (round.number == number) (quiet (goes_on any_join words layouts id y now)) (quiet y)
    (elim (is_complete now) as (λ b. Leaves y (quiet (cond b (synced any_join words layouts id y now) (record y { round = Some now })))) [ true ↦ record { layouts = refl; posts = tt } | false ↦ record { layouts = refl; posts = tt } ])
    (record { layouts = refl; posts = tt })

goes_layouts : (id : ℕ) (y : Node AnyRow Layout) (round : Round) → (goes_on any_join words layouts id y round).view.layouts ≡ y.view.layouts
goes_layouts id y round = elim (is_complete round) as (λ b. (cond b (synced any_join words layouts id y round) (record y { round = Some round })).view.layouts ≡ y.view.layouts) [ true ↦ refl | false ↦ refl ]

-- an answer comes to a walk of the open round
leaves_walk : (id : ℕ) (y : Node AnyRow Layout) (table : ℕ) (prefix : List ℕ) (answer : Option (List (ℕ × Hash32))) (round : Round) (w : Walk) → Leaves y (round_walks any_join words layouts id y table prefix answer round w)
leaves_walk id y table prefix answer round w =
    let later = walk_after any_join words y w table prefix answer in
    let now : Round = record round { walks = walks_after later round.walks } in
    let more : Round = record now { confirmed = now.confirmed ++ record { partition = w.state.partition; node = w.node } ∷ [] } in
    record {
      layouts = elim (found_same later) as (λ b. (cond b (goes_on any_join words layouts id y more) (record y { round = Some now })).view.layouts ≡ y.view.layouts) [ true ↦ goes_layouts id y more | false ↦ refl ];
      posts = said_after any_join words layouts y round.number later table (asked_after any_join words y w.state.partition table prefix answer);
    }

leaves_at_walk : (y : Node AnyRow Layout) (table : ℕ) (prefix : List ℕ) (f : Walk → Did AnyRow Layout) (o : Option Walk) → ((w : Walk) → Leaves y (f w)) → Leaves y (at_walk any_join words layouts y table prefix f o)
leaves_at_walk y table prefix f None h = record { layouts = refl; posts = tt }
leaves_at_walk y table prefix f (Some w) h = leaves_by y (is_open table prefix w.state.prefixes) (f w) (quiet y) (h w) (record { layouts = refl; posts = tt })

leaves_answer : (id : ℕ) (y : Node AnyRow Layout) (from number p table : ℕ) (prefix : List ℕ) (answer : Option (List (ℕ × Hash32))) (o : Option Round) → Leaves y (answer_came any_join words layouts id y from number p table prefix answer o)
leaves_answer id y from number p table prefix answer None = leaves_unseen y _ (unseen_late any_join words layouts y from number p table prefix answer)
leaves_answer id y from number p table prefix answer (Some round) =
    let f = round_walks any_join words layouts id y table prefix answer round in
    leaves_by y (round.number == number) (at_walk any_join words layouts y table prefix f (walk_at p from round.walks)) (late_came any_join words layouts y from number p table prefix answer)
    (leaves_at_walk y table prefix f (walk_at p from round.walks) (λ w. leaves_walk id y table prefix answer round w)) (leaves_unseen y _ (unseen_late any_join words layouts y from number p table prefix answer))

leaves_hears : (id now : ℕ) (y : Node AnyRow Layout) (from : ℕ) (m : Message AnyRow) → Leaves y (hears any_join words layouts id now y from m)
leaves_hears id now y from (Stored (ForRound number p)) = leaves_round id y from number p y.round
leaves_hears id now y from (Stored (ForCall request phase slot)) = leaves_unseen y _ (unseen_hears any_join words layouts id now y from (Stored (ForCall request phase slot)) (λ h. h))
leaves_hears id now y from (Stored (ForItem number)) = leaves_unseen y _ (unseen_hears any_join words layouts id now y from (Stored (ForItem number)) (λ h. h))
leaves_hears id now y from (Get request phase at table key) = leaves_unseen y _ (unseen_hears any_join words layouts id now y from (Get request phase at table key) tt)
leaves_hears id now y from (Row request phase row) = leaves_unseen y _ (unseen_hears any_join words layouts id now y from (Row request phase row) tt)
leaves_hears id now y from (Range request phase at bucket prefix after) = leaves_unseen y _ (unseen_hears any_join words layouts id now y from (Range request phase at bucket prefix after) tt)
leaves_hears id now y from (Rows request phase found more) = leaves_unseen y _ (unseen_hears any_join words layouts id now y from (Rows request phase found more) tt)
leaves_hears id now y from (Store tag named p rs) = leaves_unseen y _ (unseen_hears any_join words layouts id now y from (Store tag named p rs) tt)
leaves_hears id now y from (Behind tag v) = leaves_unseen y _ (unseen_hears any_join words layouts id now y from (Behind tag v) tt)
leaves_hears id now y from (NotHere tag) = leaves_unseen y _ (unseen_hears any_join words layouts id now y from (NotHere tag) tt)
leaves_hears id now y from (BlockGet request phase at hash) = leaves_unseen y _ (unseen_hears any_join words layouts id now y from (BlockGet request phase at hash) tt)
leaves_hears id now y from (Block request phase bytes) = leaves_unseen y _ (unseen_hears any_join words layouts id now y from (Block request phase bytes) tt)
leaves_hears id now y from (NoBlock request phase) = leaves_unseen y _ (unseen_hears any_join words layouts id now y from (NoBlock request phase) tt)
leaves_hears id now y from (Tomb number round row) = leaves_unseen y _ (unseen_tomb any_join words layouts id now y from number round row)
leaves_hears id now y from (Tombed number round named) = leaves_unseen y _ (unseen_tomb_came any_join words layouts id now y from number round named)
leaves_hears id now y from (Forget table key hash) = leaves_unseen y _ (unseen_forgets any_join words y table key hash.0)
leaves_hears id now y from (AsksValue tag named p table prefix hash) = leaves_unseen y _ (unseen_hears any_join words layouts id now y from (AsksValue tag named p table prefix hash) tt)
leaves_hears id now y from (HasSame (ForRound number p) table prefix) = leaves_answer id y from number p table prefix None y.round
leaves_hears id now y from (HasSame (ForCall request phase slot) table prefix) = leaves_unseen y _ (unseen_hears any_join words layouts id now y from (HasSame (ForCall request phase slot) table prefix) (λ h. h))
leaves_hears id now y from (HasSame (ForItem number) table prefix) = leaves_unseen y _ (unseen_hears any_join words layouts id now y from (HasSame (ForItem number) table prefix) (λ h. h))
leaves_hears id now y from (Differ (ForRound number p) table prefix pairs) = leaves_answer id y from number p table prefix (Some pairs) y.round
leaves_hears id now y from (Differ (ForCall request phase slot) table prefix pairs) = leaves_unseen y _ (unseen_hears any_join words layouts id now y from (Differ (ForCall request phase slot) table prefix pairs) (λ h. h))
leaves_hears id now y from (Differ (ForItem number) table prefix pairs) = leaves_unseen y _ (unseen_hears any_join words layouts id now y from (Differ (ForItem number) table prefix pairs) (λ h. h))

-- ---- one step

-- the layouts of all nodes stay, no view is sent, and no version applied
pub record Modest (w : World) (e : Made) : Type 0 where
  pub layouts : (n : ℕ) → (unwrap_or (e.nodes n) (w.nodes n)).view.layouts ≡ (w.nodes n).view.layouts
  pub says : AllSaid e.sends
  pub applies : e.applies ≡ 0

-- and no message is marked
pub record Modestly (w : World) (e : Made) : Type 0 where
  pub modest : Modest w e
  pub marks : e.marks ≡ None

-- a step of a request, but for deliveries
abbrev pub IsAsking : Step AnyRow → Type 0
IsAsking (Tick ms) = ⊤
IsAsking (Expire q) = ⊤
IsAsking (Work n) = ⊤
IsAsking (Open n) = ⊤
IsAsking (Begin q phase) = ⊤
IsAsking (Close q) = ⊤
IsAsking _ = ⊥

said_sent : (w : World) (n : ℕ) (posts : List (Post AnyRow Layout)) → SaysOnly posts → AllSaid (sent_by w n posts)
said_sent w n [] h = tt
said_sent w n (p ∷ ps) h = (h.0, said_sent w n ps h.1)

module _ (w : World) where
  none_modest : (e : Made) → e.nodes ≡ (λ n. None) → e.sends ≡ [] → e.marks ≡ None → e.applies ≡ 0 → Modestly w e
  none_modest e nodes sends marks applies = record {
    modest = record {
      layouts = λ n. subst (λ (ns : ℕ → Option (Node AnyRow Layout)). (unwrap_or (ns n) (w.nodes n)).view.layouts ≡ (w.nodes n).view.layouts) (sym nodes) refl;
      says = subst AllSaid (sym sends) tt;
      applies = applies;
    };
    marks = marks;
  }

  one_modest : (e : Made) (n : ℕ) (y : Node AnyRow Layout) → e.nodes ≡ only n y → y.view.layouts ≡ (w.nodes n).view.layouts → AllSaid e.sends → e.applies ≡ 0 → Modest w e
  one_modest e n y nodes same said applies = record {
    layouts = λ m. subst (λ (ns : ℕ → Option (Node AnyRow Layout)). (unwrap_or (ns m) (w.nodes m)).view.layouts ≡ (w.nodes m).view.layouts) (sym nodes) (one_changes (λ j (z : Node AnyRow Layout). z.view.layouts ≡ (w.nodes j).view.layouts) n y w.nodes same (λ j apart. refl) m);
    says = said;
    applies = applies;
  }

  by_modest : (b : Bool) (d e : Made) → Modestly w d → Modestly w e → Modestly w (cond b d e)
  by_modest true d e h g = h
  by_modest false d e h g = g

  modest_refusal : (r : Refusal Cut) → Modestly w (refusal w r)
  modest_refusal r = none_modest (refusal w r) refl refl refl refl

  modest_nothing : Modestly w (nothing w)
  modest_nothing = none_modest (nothing w) refl refl refl refl

  modest_expires : (q : ℕ) (o : Option Request) → Modestly w (expires w q o)
  modest_expires q None = modest_refusal NoSuchRequest
  modest_expires q (Some r) = by_modest r.is_open _ (refusal w AlreadyEnded) (record { modest = one_modest _ r.coordinator (closed q (w.nodes r.coordinator)) refl refl tt refl; marks = refl }) (modest_refusal AlreadyEnded)

  modest_closing : (q : ℕ) (o : Option Request) → Modestly w (closing w q o)
  modest_closing q None = modest_nothing
  modest_closing q (Some r) = by_modest r.is_open _ (nothing w) (record { modest = one_modest _ r.coordinator (closed q (w.nodes r.coordinator)) refl refl tt refl; marks = refl }) modest_nothing

  modest_begun : (n : ℕ) (phase : Phase AnyRow) (o : Option (Call AnyRow)) → Modestly w (begun any_join words layouts trio stage_trio w n phase o)
  modest_begun n phase None = modest_nothing
  modest_begun n phase (Some c) =
      let d = begins words layouts w.kept (w.nodes n) c phase in
      let l = leaves_unseen (w.nodes n) d (unseen_begins any_join words layouts w.kept (w.nodes n) c phase) in
      record { modest = one_modest (begun any_join words layouts trio stage_trio w n phase (Some c)) n d.node refl l.layouts (said_sent w n d.posts l.posts) refl; marks = refl }

  modest_beginning : (q : ℕ) (phase : Phase AnyRow) (o : Option Request) → Modestly w (beginning any_join words layouts trio stage_trio w q phase o)
  modest_beginning q phase None = modest_nothing
  modest_beginning q phase (Some r) = by_modest r.is_open _ (nothing w) (modest_begun r.coordinator phase (call_at (w.nodes r.coordinator).calls q)) modest_nothing

  pub modest_step : (step : Step AnyRow) (choice : Choice Layout Applied Cut) → IsAsking step → Modestly w (effects any_join words layouts trio stage_trio w step choice)
  modest_step (Tick ms) choice h = none_modest (effects any_join words layouts trio stage_trio w (Tick ms) choice) refl refl refl refl
  modest_step (Expire q) choice h = modest_expires q (numbered w.requests q)
  modest_step (Work n) choice h =
      let d = (works any_join words layouts (clock w n) (w.nodes n)).did in
      let l = leaves_unseen (w.nodes n) d (unseen_works any_join words layouts (clock w n) (w.nodes n)) in
      by_modest (has_none layouts (w.nodes n).view) (refusal w NotMember) _ (modest_refusal NotMember) (record { modest = one_modest _ n d.node refl l.layouts (said_sent w n d.posts l.posts) refl; marks = refl })
  modest_step (Open n) choice h = by_modest (is_member layouts (w.nodes n).view n) _ (refusal w NotMember) (record { modest = one_modest _ n _ refl refl tt refl; marks = refl }) (modest_refusal NotMember)
  modest_step (Begin q phase) choice h = modest_beginning q phase (numbered w.requests q)
  modest_step (Close q) choice h = modest_closing q (numbered w.requests q)
  modest_step _ choice h = elim h [ ]

-- ---- worlds

-- each message has its mark, and no view waits
pub record IsTame (w : World) : Type 0 where
  pub matched : length w.messages ≡ length w.marks
  pub said : AllSaid (waiting w)

-- from one world to the next
pub record GoesOn (w v : World) : Type 0 where
  pub layouts_stay : (n : ℕ) → (v.nodes n).view.layouts ≡ (w.nodes n).view.layouts
  pub versions_stay : v.applied ≡ w.applied
  pub tame : IsTame v
  pub follows : Follows layouts 256 w → Follows layouts 256 v

pub goes_nowhere : (w : World) → IsTame w → GoesOn w w
goes_nowhere w h = record { layouts_stay = λ n. refl; versions_stay = refl; tame = h; follows = λ f. f }

pub goes_both : (u v w : World) → GoesOn u v → GoesOn v w → GoesOn u w
goes_both u v w a b = record { layouts_stay = λ n. b.layouts_stay n ∙ a.layouts_stay n; versions_stay = b.versions_stay ∙ a.versions_stay; tame = b.tame; follows = λ f. b.follows (a.follows f) }

-- a step without a layout goes on as the control plane does
pub follows_next : (w : World) (m : Moving) → IsChoice layouts 256 w m.choice → Follows layouts 256 w → Follows layouts 256 (machine_next any_join words layouts trio stage_trio w m)
follows_next w m h f =
    let g = goes any_join words layouts trio stage_trio 256 (first_is_layout trio trio_is_first) refl w f.control_world m.step m.choice f.reached f.same h in
    record {
      control_world = turn_all layouts.reading 256 f.control_world g.steps;
      reached = reached_all layouts 256 f.control_world g.steps f.reached;
      same = turned layouts 256 w f.control_world (turn_all layouts.reading 256 f.control_world g.steps) (effects any_join words layouts trio stage_trio w m.step m.choice) f.same g.turns;
    }

-- a step that is modest and marks nothing
pub next_by : (w : World) (step : Step AnyRow) → IsTame w → Modestly w (effects any_join words layouts trio stage_trio w step (none_given VersionLimit)) → GoesOn w (machine_next any_join words layouts trio stage_trio w (plainly step))
next_by w step h m =
    let e : Made = effects any_join words layouts trio stage_trio w step (none_given VersionLimit) in
    record {
      layouts_stay = m.modest.layouts;
      versions_stay = ap (λ a. w.applied + a) m.modest.applies ∙ omega arith;
      tame = record {
        matched = marked_next w e h.matched;
        said = subst AllSaid (sym (ap (λ o. waiting_among (w.messages ++ e.sends) (marked w.marks o ++ all_fresh e.sends)) m.marks ∙ sent_wait w.messages e.sends w.marks h.matched)) (all_append (λ (x : Sent AnyRow Layout). IsSaid x.packet) (waiting w) e.sends h.said m.modest.says);
      };
      follows = λ f. follows_next w (plainly step) tt f;
    }

pub asking_next : (w : World) (step : Step AnyRow) → IsTame w → IsAsking step → GoesOn w (machine_next any_join words layouts trio stage_trio w (plainly step))
asking_next w step h a = next_by w step h (modest_step w step (none_given VersionLimit) a)

-- the delivery of a message that waits
pub deliver_next : (w : World) (m : ℕ) → IsTame w → numbered w.marks m ≡ Some fresh → GoesOn w (machine_next any_join words layouts trio stage_trio w (plainly (Deliver m)))
deliver_next w m h mark =
    let x = at_number w.messages w.marks m fresh h.matched mark in
    let f : Sent AnyRow Layout → Made = λ sent. received m (did w sent.to (receives any_join words layouts sent.to (clock w sent.to) (w.nodes sent.to) sent.from sent.packet)) in
    let e_is : effects any_join words layouts trio stage_trio w (Deliver m) (none_given VersionLimit) ≡ f x.0 = ap (λ o. at_message w f o (numbered w.marks m)) x.1 ∙ ap (at_message w f (Some x.0)) mark in
    let t = taken w.messages w.marks m x.0 x.1 mark in
    let parts = all_parts (λ (y : Sent AnyRow Layout). IsSaid y.packet) t.before (x.0 ∷ t.after) (subst AllSaid t.was h.said) in
    let d = receives any_join words layouts x.0.to (clock w x.0.to) (w.nodes x.0.to) x.0.from x.0.packet in
    let l = by_packet x.0.to (clock w x.0.to) (w.nodes x.0.to) x.0.from x.0.packet parts.1.0 in
    let modest : Modest w (f x.0) = one_modest w (f x.0) x.0.to d.node refl l.layouts (said_sent w x.0.to d.posts l.posts) refl in
    let marks = slice_set w.marks (m - 1) done in
    let counted : length w.messages ≡ length marks = h.matched ∙ sym (length-set w.marks (m - 1) done) in
    let sends = sent_by w x.0.to d.posts in
    record {
      layouts_stay = λ n. subst (λ (e : Made). (unwrap_or (e.nodes n) (w.nodes n)).view.layouts ≡ (w.nodes n).view.layouts) (sym e_is) (modest.layouts n);
      versions_stay = ap (λ (e : Made). w.applied + e.applies) e_is ∙ omega arith;
      tame = record {
        matched = marked_next w (effects any_join words layouts trio stage_trio w (Deliver m) (none_given VersionLimit)) h.matched;
        said = subst (λ (e : Made). AllSaid (waiting (applied w e))) (sym e_is)
            (subst AllSaid (sym (sent_wait w.messages sends marks counted ∙ ap (λ ws. ws ++ sends) t.is)) (all_append (λ (y : Sent AnyRow Layout). IsSaid y.packet) (t.before ++ t.after) sends (all_append (λ (y : Sent AnyRow Layout). IsSaid y.packet) t.before t.after parts.0 parts.1.1) modest.says));
      };
      follows = λ g. follows_next w (plainly (Deliver m)) tt g;
    }
  where
    by_packet : (id now : ℕ) (y : Node AnyRow Layout) (from : ℕ) (p : Packet AnyRow Layout) → IsSaid p → Leaves y (receives any_join words layouts id now y from p)
    by_packet id now y from (says g) h = leaves_hears id now y from g
    by_packet id now y from (shows v) h = elim h [ ]
