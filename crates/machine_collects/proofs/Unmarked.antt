-- Where no row has a delete marker alone no collection ever begins, so nothing is collected, whichever nodes are told to.
use Rattle.std.specs.Prelude.{◌≡◌, ℕ, suc, ◌+◌, Bool, true, false, not, cond, ◌&&◌, ◌==◌, leb, List, [], ◌∷◌, ◌++◌, Option, Some, None, is_some, nat_eq, refl, ⊤}
use Rattle.std.specs.List.{AllByRecursion, find, filter}
use Rattle.std.specs.Option.{unwrap_or}
use Rattle.std.specs.Cmp.Lexicographic.{pointwise}
use Rattle.std.proofs.Common.{ap, sym, subst, ◌∙◌}
use Rattle.view_model.specs.View.{newest}
use Rattle.layout_roles.specs.declared.role.Role.{Role}
use Rattle.table_schema.specs.Words.{Words}
use Rattle.table_model.specs.Rows.{row_at}
use Rattle.quorum_model.specs.Quorum.{is_among}
use Rattle.gc_model.specs.declared.collection.Collection.{Collection}
use Rattle.gc_model.specs.Collecting.{Open as Collections, keyed, begun_with}
use Rattle.wire_messages.specs.declared.message.Message.TheVariants.{Tomb}
use Rattle.wire_messages.specs.declared.phase.Phase.{Phase}
use Rattle.cluster_machine.specs.declared.step.Step.{Step}
use Rattle.cluster_machine.specs.declared.step.Step.TheVariants.{Trio, Role as Stage, Redundancy as Spread, Apply, Tick, Skew, Deliver, Lose, Expire, Restart, Gossip, Ack, Sync as Syncs, SyncAck, Clean, Work, Repair, Collect, Open, Phase as Begin, Close}
use Rattle.cluster_machine.specs.declared.step.Action.{Action}
use Rattle.cluster_machine.specs.declared.step.Action.TheVariants.{Ack as RaiseAck, Sync as GoOn, SyncAck as RaiseSyncAck, Clean as CleanUp, Work as WorkOff, Repair as Mend, Collect as Gather}
use Rattle.cluster_machine.specs.declared.step.Refusal.TheVariants.{VersionTaken, NotMember, Lost, AlreadyEnded}
use Rattle.cluster_machine.specs.Layouts.{Layouts, is_member, has_none}
use Rattle.cluster_machine.specs.Node.{Call, Node}
use Rattle.cluster_machine.specs.Phases.{closed, to_each, bytes_of, is_spelled, call_at, begins}
use Rattle.cluster_machine.specs.Receives.{receives}
use Rattle.cluster_machine.specs.Collects.{others, is_aged, Progress, object_rows, begins_one, about, about_all, with_rows, progress, collects}
use Rattle.cluster_machine.specs.Acts.{acts, appends, restarts}
use Rattle.cluster_machine.specs.World.{Sent, Mark, Request, World, numbered, clock, empty}
use Rattle.cluster_machine.specs.Step.{most_versions, Choice, given, none_given, Effects, nothing, refusal, only, did, received, at_message, expires, closing, chosen, applies_at, trio_applies, acting, begun, beginning, effects}
use Rattle.cluster_machine.specs.Run.{Move, next, run}
use Rattle.machine_laws.proofs.Runs.{all_numbered}
use Rattle.machine_collects.specs.Without.{IsBare}
use Rattle.machine_collects.proofs.Without.{AreBareSent, Bare, BareStep, bare_acting, bare_effects}
use Rattle.machine_collects.proofs.Opened.{receives_same, acts_same, begins_same}
use Rattle.crdt_core.proofs.Each.{all_append}

-- a node has no open collection
abbrev pub HasNone : {R L : Type 0} → Node R L → Type 0
HasNone x = x.gc.collections ≡ []

module _ {R : Type 0} (join : R → R → R) (s : Words R) (unmarked : (r : R) → s.marker r ≡ None) {L : Type 0} (k : Layouts L) where
  -- ---- a node is told to collect

  by_spelled : (b : Bool) (more t : Progress R L) → cond (b && false) more t ≡ t
  by_spelled true more t = refl
  by_spelled false more t = refl

  begins_none : (id now version : ℕ) (r : R) (t : Progress R L) → begins_one join s k id now version r t ≡ t
  begins_none id now version r t =
      let more : Progress R L = record { gc = begun_with t.gc (s.key r) (bytes_of s r) id version; posts = t.posts ++ to_each (others id) (Tomb (t.gc.begun + 1) 1 (bytes_of s r)); begun = t.begun + 1 } in
      ap (λ (m : Option (ℕ × ℕ)). cond (is_spelled s r && is_aged now m) more t) (unmarked r) ∙ by_spelled (is_spelled s r) more t

  about_none : (id now version : ℕ) (r : R) (t : Progress R L) → t.gc.collections ≡ [] → about join s k id now version r (keyed (s.key r) t.gc) t ≡ t
  about_none id now version r t closed_all =
      let none : keyed (s.key r) t.gc ≡ None = ap (λ (cs : List Collection). find (λ c. pointwise nat_eq c.key (s.key r)) cs) closed_all in
      ap (λ (o : Option Collection). about join s k id now version r o t) none ∙ begins_none id now version r t

  about_all_none : (id now version : ℕ) (rs : List R) (t : Progress R L) → t.gc.collections ≡ [] → about_all join s k id now version rs t ≡ t
  about_all_none id now version [] t closed_all = refl
  about_all_none id now version (r ∷ rs) t closed_all = ap (about_all join s k id now version rs) (about_none id now version r t closed_all) ∙ about_all_none id now version rs t closed_all

  module _ (id now : ℕ) (x : Node R L) (none : HasNone x) where
    abbrev start : Progress R L
    start = record { gc = with_rows join s k x x.gc; posts = []; begun = 0 }

    start_none : start.gc.collections ≡ []
    start_none = ap (λ (cs : List Collection). filter (λ c. is_some (row_at join s x.accepted 1 c.key)) cs) none

    nothing_done : progress join s k id now x ≡ start
    nothing_done = about_all_none id now (newest k.reading x.view) (object_rows join s x) start start_none

    collects_bare : Bare (collects join s k id now x)
    collects_bare = record { posts = subst (λ (t : Progress R L). AllByRecursion (λ p. IsBare p.packet) t.posts) (sym nothing_done) tt; collects = refl }

    collects_none : (progress join s k id now x).gc.collections ≡ []
    collects_none = ap (λ (t : Progress R L). t.gc.collections) nothing_done ∙ start_none

  acts_none : (id now : ℕ) (x : Node R L) (action : Action) → HasNone x → HasNone (acts join s k id now x action).did.node
  acts_none id now x Gather none = collects_none id now x none
  acts_none id now x RaiseAck none = ap (λ (o : Collections). o.collections) (acts_same join s k id x now RaiseAck tt) ∙ none
  acts_none id now x GoOn none = ap (λ (o : Collections). o.collections) (acts_same join s k id x now GoOn tt) ∙ none
  acts_none id now x RaiseSyncAck none = ap (λ (o : Collections). o.collections) (acts_same join s k id x now RaiseSyncAck tt) ∙ none
  acts_none id now x CleanUp none = ap (λ (o : Collections). o.collections) (acts_same join s k id x now CleanUp tt) ∙ none
  acts_none id now x WorkOff none = ap (λ (o : Collections). o.collections) (acts_same join s k id x now WorkOff tt) ∙ none
  acts_none id now x Mend none = ap (λ (o : Collections). o.collections) (acts_same join s k id x now Mend tt) ∙ none

-- no message is about collections, nothing was collected, and no node has an open collection
record IsUnopened {R L : Type 0} (w : World R L) : Type 0 where
  messages : AreBareSent w.messages
  collected : w.collected ≡ []
  nodes : (n : ℕ) → HasNone (w.nodes n)

module _ {R L : Type 0} (A C : Type 0) (join : R → R → R) (s : Words R) (unmarked : (r : R) → s.marker r ≡ None) (k : Layouts L) (trio : L) (trio_roles : List Role → List Role) where
  module _ (w : World R L) (i : IsUnopened w) where
    -- no node has one after the step
    abbrev None_open : Effects R L A C → Type 0
    None_open e = (n : ℕ) → HasNone (unwrap_or (e.nodes n) (w.nodes n))

    by_test : (b : Bool) (d e : Effects R L A C) → None_open d → None_open e → None_open (cond b d e)
    by_test true d e h g = h
    by_test false d e h g = g

    -- one node changes
    one : (n : ℕ) (x : Node R L) → HasNone x → (m : ℕ) → HasNone (unwrap_or (only n x m) (w.nodes m))
    one n x h m = elim (m == n) as (λ b. HasNone (unwrap_or (cond b (Some x) None) (w.nodes m))) [ true ↦ h | false ↦ i.nodes m ]

    at_message_none : (f : Sent R L → Effects R L A C) (o : Option (Sent R L)) (mark : Option Mark) → ((x : Sent R L) → o ≡ Some x → None_open (f x)) → None_open (at_message w f o mark)
    at_message_none f None mark h = i.nodes
    at_message_none f (Some x) None h = i.nodes
    at_message_none f (Some x) (Some mark) h = by_test mark.is_lost (refusal w Lost) (f x) i.nodes (h x refl)

    expires_none : (q : ℕ) (o : Option Request) → None_open (expires w q o)
    expires_none q None = i.nodes
    expires_none q (Some r) = by_test r.is_open _ (refusal w AlreadyEnded) (one r.coordinator (closed q (w.nodes r.coordinator)) (i.nodes r.coordinator)) i.nodes

    closing_none : (q : ℕ) (o : Option Request) → None_open (closing w q o)
    closing_none q None = i.nodes
    closing_none q (Some r) = by_test r.is_open _ (nothing w) (one r.coordinator (closed q (w.nodes r.coordinator)) (i.nodes r.coordinator)) i.nodes

    chosen_none : (n v : ℕ) (choice : Choice L A C) → None_open (chosen join s k trio trio_roles w n v choice)
    chosen_none n v (none_given r) = i.nodes
    chosen_none n v (given l shown) = one n (appends k (w.nodes n) l) (i.nodes n)

    applies_none : (n : ℕ) (choice : Choice L A C) → None_open (applies_at join s k trio trio_roles w n choice)
    applies_none n choice =
        let after = suc (newest k.reading (w.nodes n).view) in
        by_test (leb 1 w.applied && not (is_member k (w.nodes n).view n)) _ _ i.nodes
        (by_test (leb after w.applied) _ _ i.nodes (by_test (leb most_versions w.applied) _ _ i.nodes (chosen_none n after choice)))

    trio_none : None_open (trio_applies join s k trio trio_roles w)
    trio_none n = elim (is_among n (k.reading.members trio)) as (λ b. HasNone (unwrap_or (cond b (Some (appends k (w.nodes n) trio)) None) (w.nodes n))) [ true ↦ i.nodes n | false ↦ i.nodes n ]

    acting_none : (n : ℕ) (b : Bool) (action : Action) → None_open (acting join s k trio trio_roles w n b (acts join s k n (clock w n) (w.nodes n) action))
    acting_none n b action =
        let a = acts join s k n (clock w n) (w.nodes n) action in
        by_test b (refusal w NotMember) _ i.nodes (one n a.did.node (acts_none join s unmarked k n (clock w n) (w.nodes n) action (i.nodes n)))

    begun_none : (n : ℕ) (p : Phase R) (o : Option (Call R)) → None_open (begun join s k trio trio_roles w n p o)
    begun_none n p None = i.nodes
    begun_none n p (Some c) = one n (begins s k w.kept (w.nodes n) c p).node (ap (λ (o : Collections). o.collections) (begins_same join s k w.kept (w.nodes n) c p) ∙ i.nodes n)

    beginning_none : (q : ℕ) (p : Phase R) (o : Option Request) → None_open (beginning join s k trio trio_roles w q p o)
    beginning_none q p None = i.nodes
    beginning_none q p (Some r) = by_test r.is_open _ (nothing w) (begun_none r.coordinator p (call_at (w.nodes r.coordinator).calls q)) i.nodes

    delivered_none : (m : ℕ) (x : Sent R L) → numbered w.messages m ≡ Some x → None_open (received m (did w x.to (receives join s k x.to (clock w x.to) (w.nodes x.to) x.from x.packet)))
    delivered_none m x e =
        let bare : IsBare x.packet = all_numbered (λ (x : Sent R L). IsBare x.packet) w.messages m x i.messages e in
        one x.to (receives join s k x.to (clock w x.to) (w.nodes x.to) x.from x.packet).node (ap (λ (o : Collections). o.collections) (receives_same join s k x.to (w.nodes x.to) (clock w x.to) x.from x.packet bare) ∙ i.nodes x.to)

    effects_none : (st : Step R) (choice : Choice L A C) → None_open (effects join s k trio trio_roles w st choice)
    effects_none Trio choice = by_test (leb 1 w.applied) (refusal w (VersionTaken 1)) _ i.nodes trio_none
    effects_none (Stage n role) choice = i.nodes
    effects_none (Spread r) choice = i.nodes
    effects_none (Apply n) choice = applies_none n choice
    effects_none (Tick ms) choice = i.nodes
    effects_none (Skew n ms) choice = i.nodes
    effects_none (Deliver m) choice = at_message_none _ (numbered w.messages m) (numbered w.marks m) (delivered_none m)
    effects_none (Lose m) choice = at_message_none _ (numbered w.messages m) (numbered w.marks m) (λ x e. i.nodes)
    effects_none (Expire q) choice = expires_none q (numbered w.requests q)
    effects_none (Restart n) choice = one n (restarts (w.nodes n)) refl
    effects_none (Gossip from to) choice = one from (w.nodes from) (i.nodes from)
    effects_none (Ack n) choice = acting_none n (has_none k (w.nodes n).view) RaiseAck
    effects_none (Syncs n) choice = acting_none n (has_none k (w.nodes n).view) GoOn
    effects_none (SyncAck n) choice = acting_none n (has_none k (w.nodes n).view) RaiseSyncAck
    effects_none (Clean n) choice = acting_none n (has_none k (w.nodes n).view) CleanUp
    effects_none (Work n) choice = acting_none n (has_none k (w.nodes n).view) WorkOff
    effects_none (Repair n) choice = acting_none n (not (is_member k (w.nodes n).view n)) Mend
    effects_none (Collect n) choice = acting_none n (has_none k (w.nodes n).view) Gather
    effects_none (Open n) choice = by_test (is_member k (w.nodes n).view n) _ (refusal w NotMember) (one n _ (i.nodes n)) i.nodes
    effects_none (Begin q p) choice = beginning_none q p (numbered w.requests q)
    effects_none (Close q) choice = closing_none q (numbered w.requests q)

    -- nothing is sent about collections, and nothing is collected
    bare_step : (st : Step R) (choice : Choice L A C) → BareStep join s k trio trio_roles (effects join s k trio trio_roles w st choice)
    bare_step (Collect n) choice = bare_acting join s k trio trio_roles w n (has_none k (w.nodes n).view) (acts join s k n (clock w n) (w.nodes n) Gather) (collects_bare join s unmarked k n (clock w n) (w.nodes n) (i.nodes n))
    bare_step Trio choice = bare_effects join s k trio trio_roles w Trio choice i.messages tt
    bare_step (Stage n role) choice = bare_effects join s k trio trio_roles w (Stage n role) choice i.messages tt
    bare_step (Spread r) choice = bare_effects join s k trio trio_roles w (Spread r) choice i.messages tt
    bare_step (Apply n) choice = bare_effects join s k trio trio_roles w (Apply n) choice i.messages tt
    bare_step (Tick ms) choice = bare_effects join s k trio trio_roles w (Tick ms) choice i.messages tt
    bare_step (Skew n ms) choice = bare_effects join s k trio trio_roles w (Skew n ms) choice i.messages tt
    bare_step (Deliver m) choice = bare_effects join s k trio trio_roles w (Deliver m) choice i.messages tt
    bare_step (Lose m) choice = bare_effects join s k trio trio_roles w (Lose m) choice i.messages tt
    bare_step (Expire q) choice = bare_effects join s k trio trio_roles w (Expire q) choice i.messages tt
    bare_step (Restart n) choice = bare_effects join s k trio trio_roles w (Restart n) choice i.messages tt
    bare_step (Gossip from to) choice = bare_effects join s k trio trio_roles w (Gossip from to) choice i.messages tt
    bare_step (Ack n) choice = bare_effects join s k trio trio_roles w (Ack n) choice i.messages tt
    bare_step (Syncs n) choice = bare_effects join s k trio trio_roles w (Syncs n) choice i.messages tt
    bare_step (SyncAck n) choice = bare_effects join s k trio trio_roles w (SyncAck n) choice i.messages tt
    bare_step (Clean n) choice = bare_effects join s k trio trio_roles w (Clean n) choice i.messages tt
    bare_step (Work n) choice = bare_effects join s k trio trio_roles w (Work n) choice i.messages tt
    bare_step (Repair n) choice = bare_effects join s k trio trio_roles w (Repair n) choice i.messages tt
    bare_step (Open n) choice = bare_effects join s k trio trio_roles w (Open n) choice i.messages tt
    bare_step (Begin q p) choice = bare_effects join s k trio trio_roles w (Begin q p) choice i.messages tt
    bare_step (Close q) choice = bare_effects join s k trio trio_roles w (Close q) choice i.messages tt

  unopened_run : (w : World R L) (moves : List (Move R L A C)) → IsUnopened w → IsUnopened (run join s k trio trio_roles w moves)
  unopened_run w [] i = i
  unopened_run w (m ∷ moves) i =
      let e = effects join s k trio trio_roles w m.step m.choice in
      let b = bare_step w i m.step m.choice in
      unopened_run (next join s k trio trio_roles w m) moves (record {
        messages = all_append _ w.messages e.sends i.messages b.sends;
        collected = ap (λ rs. rs ++ w.collected) b.collects ∙ i.collected;
        nodes = effects_none w i m.step m.choice;
      })

  -- nothing is collected
  pub none_collected : (moves : List (Move R L A C)) → (run join s k trio trio_roles empty moves).collected ≡ []
  none_collected moves = (unopened_run empty moves (record { messages = tt; collected = refl; nodes = λ n. refl })).collected
