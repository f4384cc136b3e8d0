-- One step of the world: what becomes of its nodes and of the messages that wait; and what deliveries keep.
use Rattle.std.specs.Prelude.{◌≡◌, ℕ, ◌+◌, ◌-◌, false, Option, Some, None, List, [], ◌∷◌, ◌++◌, length, map, slice_set, refl, ⊤}
use Rattle.std.specs.Option.{unwrap_or}
use Rattle.std.proofs.Common.{ap, sym, subst, ◌∙◌, arith}
use Rattle.std.proofs.lemmas.List.{length-append, length-map, length-set}
use Rattle.layout_roles.specs.declared.role.Role.{Role}
use Rattle.table_schema.specs.Words.{Words}
use Rattle.cluster_machine.specs.declared.step.Step.{Step}
use Rattle.cluster_machine.specs.declared.step.Step.TheVariants.{Deliver}
use Rattle.cluster_machine.specs.Layouts.{Layouts}
use Rattle.cluster_machine.specs.Node.{Node, Post, Did}
use Rattle.cluster_machine.specs.Receives.{receives}
use Rattle.cluster_machine.specs.World.{Sent, Mark, World, numbered, clock}
use Rattle.cluster_machine.specs.Step.{Choice, Effects, only, sent_by, did, received, at_message, effects, applied, marked}
use Rattle.cluster_machine.specs.Run.{Move, next, run}
use Rattle.drained_laws.specs.Waiting.{fresh, waiting_among, waiting}
use Rattle.drained_laws.proofs.Waits.{done, all_fresh, taken, sent_wait}
use Rattle.drained_laws.proofs.Steps.{at_number}
use Rattle.change_laws.specs.Script.{IsFresh, AreFresh}

-- what holds of the nodes and of the messages that wait, where each message has its mark and so many versions were applied
pub record Kept {R L : Type 0} (P : (ℕ → Node R L) → List (Sent R L) → Type 0) (versions : ℕ) (w : World R L) : Type 0 where
  pub marked : length w.messages ≡ length w.marks
  pub applied : w.applied ≡ versions
  pub holds : P w.nodes (waiting w)

module _ {R L : Type 0} where
  -- one node is as it is now
  abbrev pub with_one : ℕ → Node R L → (ℕ → Node R L) → ℕ → Node R L
  with_one n x nodes m = unwrap_or (only n x m) (nodes m)

  -- what node n sends at a moment
  abbrev pub sends_at : ℕ → ℕ → List (Post R L) → List (Sent R L)
  sends_at moment n posts = map (λ p. record { from = n; to = p.to; packet = p.packet; moment = moment }) posts

  length_more : (w : World R L) (ms : List Mark) (sends : List (Sent R L)) → length w.messages ≡ length ms → length (w.messages ++ sends) ≡ length (ms ++ all_fresh sends)
  length_more w ms sends e =
      let f : length (all_fresh sends) ≡ length sends = length-map sends (λ s. record { is_delivered = false; is_lost = false }) in
      let g : length (w.messages ++ sends) ≡ length w.messages + length sends = length-append w.messages sends in
      let h : length (ms ++ all_fresh sends) ≡ length ms + length (all_fresh sends) = length-append ms (all_fresh sends) in
      omega arith

  module _ (A C : Type 0) (P : (ℕ → Node R L) → List (Sent R L) → Type 0) (versions : ℕ) (w : World R L) (is : Kept P versions w) where
    -- effects that deliver nothing
    pub effects_keep : (Q : (ℕ → Node R L) → List (Sent R L) → Type 0) (e : Effects R L A C) → e.marks ≡ None → Q (λ n. unwrap_or (e.nodes n) (w.nodes n)) (waiting w ++ e.sends) → Kept Q (versions + e.applies) (applied w e)
    effects_keep Q e marks holds =
        let none : marked w.marks e.marks ≡ w.marks = ap (marked w.marks) marks in
        record {
          marked = length_more w w.marks e.sends is.marked ∙ ap (λ ms. length (ms ++ all_fresh e.sends)) (sym none);
          applied = ap (λ n. n + e.applies) is.applied;
          holds = subst (Q (λ n. unwrap_or (e.nodes n) (w.nodes n))) (sym (ap (λ ms. waiting_among (w.messages ++ e.sends) (ms ++ all_fresh e.sends)) none ∙ sent_wait w.messages e.sends w.marks is.marked)) holds;
        }

  pub as_many : {P : (ℕ → Node R L) → List (Sent R L) → Type 0} {versions more : ℕ} {w : World R L} → versions ≡ more → Kept P versions w → Kept P more w
  as_many e h = record { marked = h.marked; applied = h.applied ∙ e; holds = h.holds }

module _ {R L : Type 0} (A C : Type 0) (join : R → R → R) (s : Words R) (k : Layouts L) (trio : L) (trio_roles : List Role → List Role) (Known : (ℕ → Node R L) → Sent R L → Type 0) where
  -- what is known of the message that the step delivers, by the nodes and it
  abbrev pub IsKnown : World R L → Step R → Type 0
  IsKnown w step = (m : ℕ) (x : Sent R L) → step ≡ Deliver m → numbered w.messages m ≡ Some x → numbered w.marks m ≡ Some fresh → Known w.nodes x

  -- of each delivery, one after the other
  abbrev pub AreKnown : World R L → List (Move R L A C) → Type 0
  AreKnown w [] = ⊤
  AreKnown w (m ∷ ms) = IsKnown w m.step × AreKnown (next {A = A} {C = C} join s k trio trio_roles w m) ms

module _ {R L : Type 0} (A C : Type 0) (join : R → R → R) (s : Words R) (k : Layouts L) (trio : L) (trio_roles : List Role → List Role) (versions : ℕ) where
  -- what a node does by itself
  pub did_keeps : (P Q : (ℕ → Node R L) → List (Sent R L) → Type 0) (w : World R L) (n : ℕ) (d : Did R L) → Kept P versions w → (e : Effects R L A C) → e.marks ≡ None → e.nodes ≡ only n d.node → e.sends ≡ sent_by w n d.posts → e.applies ≡ 0 →
      Q (with_one n d.node w.nodes) (waiting w ++ sends_at w.time n d.posts) → Kept Q versions (applied w e)
  did_keeps P Q w n d is e marks nodes sends applies holds =
      as_many (ap (λ a. versions + a) applies ∙ omega arith)
      (effects_keep A C P versions w is Q e marks
      (subst (λ (ns : ℕ → Option (Node R L)). Q (λ m. unwrap_or (ns m) (w.nodes m)) (waiting w ++ e.sends)) (sym nodes)
      (subst (λ ss. Q (with_one n d.node w.nodes) (waiting w ++ ss)) (sym sends) holds)))

  -- where something is known of each message that comes
  module _ (Known : (ℕ → Node R L) → Sent R L → Type 0) (P : (ℕ → Node R L) → List (Sent R L) → Type 0)
      (hears : (nodes : ℕ → Node R L) (before : List (Sent R L)) (x : Sent R L) (after : List (Sent R L)) (now moment : ℕ) → P nodes (before ++ x ∷ after) → Known nodes x →
      (let d = receives join s k x.to now (nodes x.to) x.from x.packet in P (with_one x.to d.node nodes) ((before ++ after) ++ sends_at moment x.to d.posts))) where
    delivers : (w : World R L) (m : ℕ) (x : Sent R L) → numbered w.messages m ≡ Some x → numbered w.marks m ≡ Some fresh → Known w.nodes x → Kept P versions w →
        Kept P versions (applied w (received {A = A} {C = C} m (did w x.to (receives join s k x.to (clock w x.to) (w.nodes x.to) x.from x.packet))))
    delivers w m x e f known is =
        let t = taken w.messages w.marks m x e f in
        let d = receives join s k x.to (clock w x.to) (w.nodes x.to) x.from x.packet in
        let sends = sent_by w x.to d.posts in
        let marks = slice_set w.marks (m - 1) done in
        let counted : length w.messages ≡ length marks = is.marked ∙ sym (length-set w.marks (m - 1) done) in
        record {
          marked = length_more w marks sends counted;
          applied = let same = is.applied in omega arith;
          holds = subst (P (with_one x.to d.node w.nodes)) (sym (sent_wait w.messages sends marks counted ∙ ap (λ ws. ws ++ sends) t.is))
              (hears w.nodes t.before x t.after (clock w x.to) w.time (subst (P w.nodes) t.was is.holds) known);
        }

    -- a delivery of a message that waits
    pub deliver_keeps : (w : World R L) (step : Step R) (choice : Choice L A C) → IsFresh w step → IsKnown A C join s k trio trio_roles Known w step → Kept P versions w → Kept P versions (applied w (effects join s k trio trio_roles w step choice))
    deliver_keeps w (Deliver m) choice c known is =
        let x = at_number w.messages w.marks m fresh is.marked c in
        let f : Sent R L → Effects R L A C = λ sent. received m (did w sent.to (receives join s k sent.to (clock w sent.to) (w.nodes sent.to) sent.from sent.packet)) in
        subst (λ (e : Effects R L A C). Kept P versions (applied w e)) (sym (ap (λ o. at_message w f o (numbered w.marks m)) x.1 ∙ ap (at_message w f (Some x.0)) c)) (delivers w m x.0 x.1 c (known m x.0 refl x.1 c) is)
    deliver_keeps w _ choice c known is = elim c [ ]

    pub deliveries_known : (w : World R L) (moves : List (Move R L A C)) → AreFresh A C join s k trio trio_roles w moves → AreKnown A C join s k trio trio_roles Known w moves → Kept P versions w → Kept P versions (run join s k trio trio_roles w moves)
    deliveries_known w [] calm known is = is
    deliveries_known w (m ∷ ms) calm known is = deliveries_known (next join s k trio trio_roles w m) ms calm.1 known.1 (deliver_keeps w m.step m.choice calm.0 known.0 is)

  module _ (P : (ℕ → Node R L) → List (Sent R L) → Type 0)
      (hears : (nodes : ℕ → Node R L) (before : List (Sent R L)) (x : Sent R L) (after : List (Sent R L)) (now moment : ℕ) → P nodes (before ++ x ∷ after) →
      (let d = receives join s k x.to now (nodes x.to) x.from x.packet in P (with_one x.to d.node nodes) ((before ++ after) ++ sends_at moment x.to d.posts))) where
    abbrev Any : (ℕ → Node R L) → Sent R L → Type 0
    Any nodes x = ⊤

    any_hears : (nodes : ℕ → Node R L) (before : List (Sent R L)) (x : Sent R L) (after : List (Sent R L)) (now moment : ℕ) → P nodes (before ++ x ∷ after) → ⊤ →
        (let d = receives join s k x.to now (nodes x.to) x.from x.packet in P (with_one x.to d.node nodes) ((before ++ after) ++ sends_at moment x.to d.posts))
    any_hears nodes before x after now moment is t = hears nodes before x after now moment is

    any_known : (w : World R L) (moves : List (Move R L A C)) → AreKnown A C join s k trio trio_roles Any w moves
    any_known w [] = tt
    any_known w (m ∷ ms) = ((λ i x e f g. tt), any_known (next join s k trio trio_roles w m) ms)

    -- deliveries, one after the other
    pub deliveries_keep : (w : World R L) (moves : List (Move R L A C)) → AreFresh A C join s k trio trio_roles w moves → Kept P versions w → Kept P versions (run join s k trio trio_roles w moves)
    deliveries_keep w moves calm is = deliveries_known Any P any_hears w moves calm (any_known w moves) is
