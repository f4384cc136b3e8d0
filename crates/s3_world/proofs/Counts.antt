-- No step but one opens a request, so after any other there are as many as before.
use Rattle.std.proofs.Common.{◌≡◌, ℕ, ◌++◌, Bool, true, false, cond, leb, not, ◌&&◌, suc, Option, Some, None, [], length, refl, ap, ◌∙◌, append-nil}
use Rattle.std.specs.Prelude.{⊤}
use Rattle.crdt_rows.specs.declared.any_row.AnyRow.{AnyRow}
use Rattle.crdt_rows.specs.AnyRow.{any_join}
use Rattle.object_schema.specs.Schema.{words}
use Rattle.layout_roles.specs.declared.layout.Layout.{Layout}
use Rattle.layout_roles.specs.declared.cut.Cut.{Cut}
use Rattle.wire_messages.specs.declared.phase.Phase.{Phase}
use Rattle.view_model.specs.View.{newest}
use Rattle.cluster_machine.specs.declared.step.Step.{Step}
use Rattle.cluster_machine.specs.declared.step.Step.TheVariants.{Trio, Role, Redundancy, Apply, Tick, Skew, Deliver, Lose, Expire, Restart, Gossip, Ack, Sync, SyncAck, Clean, Work, Repair, Collect, Open, Phase as Begin, Close}
use Rattle.cluster_machine.specs.declared.applied.Applied.{Applied}
use Rattle.cluster_machine.specs.Node.{Call}
use Rattle.cluster_machine.specs.World.{Sent, Mark, Request, numbered, is_member_at}
use Rattle.cluster_machine.specs.Phases.{call_at}
use Rattle.cluster_machine.specs.Choices.{Decision}
use Rattle.cluster_machine.specs.Layouts.{layouts}
use Rattle.cluster_machine.specs.Trio.{trio, stage_trio}
use Rattle.cluster_machine.specs.Step.{none_given, given, most_versions, chosen, applies_at, at_message, expires, closing, begun, beginning, effects, shut}
use Rattle.cluster_machine.specs.Worlds.{Done, next}
use Rattle.cluster_machine.proofs.Closing.{length_shut}
use Rattle.store_model.specs.Run.{World, Moving}

-- the step opens no request
abbrev pub OpensNone : Step AnyRow → Type 0
OpensNone (Open n) = ⊥
OpensNone st = ⊤

either : (b : Bool) (x y : Done AnyRow) → x.opens ≡ [] → y.opens ≡ [] → (cond b x y).opens ≡ []
either true x y first second = first
either false x y first second = second

-- where a message is there
at_opens : (w : World) (f : Sent AnyRow Layout → Done AnyRow) → ((x : Sent AnyRow Layout) → (f x).opens ≡ []) → (sent : Option (Sent AnyRow Layout)) (mark : Option Mark) → (at_message w f sent mark).opens ≡ []
at_opens w f none None mark = refl
at_opens w f none (Some x) None = refl
at_opens w f none (Some x) (Some mark) = either mark.is_lost _ (f x) refl (none x)

expires_opens : (w : World) (q : ℕ) (r : Option Request) → (expires {A = Applied} {C = Cut} w q r).opens ≡ []
expires_opens w q None = refl
expires_opens w q (Some r) = either r.is_open _ _ refl refl

closing_opens : (w : World) (q : ℕ) (r : Option Request) → (closing {A = Applied} {C = Cut} w q r).opens ≡ []
closing_opens w q None = refl
closing_opens w q (Some r) = either r.is_open _ _ refl refl

begun_opens : (w : World) (n : ℕ) (phase : Phase AnyRow) (c : Option (Call AnyRow)) → (begun {A = Applied} {C = Cut} any_join words layouts trio stage_trio w n phase c).opens ≡ []
begun_opens w n phase None = refl
begun_opens w n phase (Some c) = refl

beginning_opens : (w : World) (q : ℕ) (phase : Phase AnyRow) (r : Option Request) → (beginning {A = Applied} {C = Cut} any_join words layouts trio stage_trio w q phase r).opens ≡ []
beginning_opens w q phase None = refl
beginning_opens w q phase (Some r) = either r.is_open (begun any_join words layouts trio stage_trio w r.coordinator phase (call_at (w.nodes r.coordinator).calls q)) _ (begun_opens w r.coordinator phase (call_at (w.nodes r.coordinator).calls q)) refl

chosen_opens : (w : World) (n v : ℕ) (choice : Decision) → (chosen any_join words layouts trio stage_trio w n v choice).opens ≡ []
chosen_opens w n v (none_given r) = refl
chosen_opens w n v (given l shown) = refl

applies_opens : (w : World) (n : ℕ) (choice : Decision) → (applies_at any_join words layouts trio stage_trio w n choice).opens ≡ []
applies_opens w n choice =
    let v = suc (newest layouts.reading (w.nodes n).view) in
    either (leb 1 w.applied && not (is_member_at layouts w n)) _ _ refl
    (either (leb v w.applied) _ _ refl (either (leb most_versions w.applied) _ _ refl (chosen_opens w n v choice)))

opens_none : (w : World) (st : Step AnyRow) (choice : Decision) → OpensNone st → (effects any_join words layouts trio stage_trio w st choice).opens ≡ []
opens_none w Trio choice o = either (leb 1 w.applied) _ _ refl refl
opens_none w (Role n role) choice o = refl
opens_none w (Redundancy r) choice o = refl
opens_none w (Apply n) choice o = applies_opens w n choice
opens_none w (Tick ms) choice o = refl
opens_none w (Skew n ms) choice o = refl
opens_none w (Deliver m) choice o = at_opens w _ (λ x. refl) (numbered w.messages m) (numbered w.marks m)
opens_none w (Lose m) choice o = at_opens w _ (λ x. refl) (numbered w.messages m) (numbered w.marks m)
opens_none w (Expire q) choice o = expires_opens w q (numbered w.requests q)
opens_none w (Restart n) choice o = refl
opens_none w (Gossip from to) choice o = refl
opens_none w (Ack n) choice o = either _ _ _ refl refl
opens_none w (Sync n) choice o = either _ _ _ refl refl
opens_none w (SyncAck n) choice o = either _ _ _ refl refl
opens_none w (Clean n) choice o = either _ _ _ refl refl
opens_none w (Work n) choice o = either _ _ _ refl refl
opens_none w (Repair n) choice o = either _ _ _ refl refl
opens_none w (Collect n) choice o = either _ _ _ refl refl
opens_none w (Open n) choice o = absurd o
opens_none w (Begin q phase) choice o = beginning_opens w q phase (numbered w.requests q)
opens_none w (Close q) choice o = closing_opens w q (numbered w.requests q)

-- as many after it
pub same_count : (w : World) (m : Moving) → OpensNone m.step → length (next any_join words w m).requests ≡ length w.requests
same_count w m o =
    let e : Done AnyRow = effects any_join words layouts trio stage_trio w m.step m.choice in
    ap (λ os. length (shut w.requests e.closes ++ os)) (opens_none w m.step m.choice o) ∙ ap length (append-nil (shut w.requests e.closes)) ∙ length_shut w.requests e.closes
