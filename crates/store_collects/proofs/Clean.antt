-- What phases give in prompt runs where markers were collected.
use Rattle.std.specs.Prelude.{◌≡◌, ◌⊎◌, ◌≤◌, ◌+◌, ℕ, suc, Bool, true, false, cond, ◌&&◌, not, leb, Option, Some, None, List, [], ◌∷◌, ◌++◌, refl}
use Rattle.std.specs.List.{AllByRecursion}
use Rattle.std.proofs.Common.{sym, subst, inl, inr, arith}
use Rattle.std.proofs.lemmas.List.{append-nil}
use Rattle.crdt_core.specs.Members.{Has}
use Rattle.crdt_rows.specs.declared.any_row.AnyRow.{AnyRow}
use Rattle.crdt_rows.specs.AnyRow.{any_join}
use Rattle.layout_roles.specs.declared.cut.Cut.{Cut}
use Rattle.layout_roles.specs.declared.role.Role.{Role}
use Rattle.view_model.specs.View.{newest}
use Rattle.table_schema.specs.Words.{Words}
use Rattle.object_schema.specs.Schema.{words}
use Rattle.object_schema.specs.Laws.{schema_laws}
use Rattle.wire_messages.specs.declared.phase.Phase.{Phase}
use Rattle.cluster_machine.specs.declared.applied.Applied.{Applied}
use Rattle.cluster_machine.specs.declared.step.Step.{Step}
use Rattle.cluster_machine.specs.declared.step.Step.TheVariants.{Trio, Role as Stage, Redundancy as Spread, Apply, Tick, Skew, Deliver, Lose, Expire, Restart, Gossip, Ack, Sync as Syncs, SyncAck, Clean, Work, Repair, Collect, Open, Phase as Begin, Close}
use Rattle.cluster_machine.specs.declared.step.Action.{Action}
use Rattle.cluster_machine.specs.declared.step.Action.TheVariants.{Ack as RaiseAck, Sync as GoOn, SyncAck as RaiseSyncAck, Clean as CleanUp, Work as WorkOff, Repair as Mend, Collect as Gather}
use Rattle.cluster_machine.specs.declared.step.Refusal.TheVariants.{VersionTaken, VersionLimit, NotMember, Lost, AlreadyEnded}
use Rattle.cluster_machine.specs.Kept.{GaveKept}
use Rattle.cluster_machine.specs.Layouts.{Layouts, layouts, has_none}
use Rattle.cluster_machine.specs.Node.{Call, Reading}
use Rattle.cluster_machine.specs.Phases.{call_at}
use Rattle.cluster_machine.specs.Run.{IsRun, run as machine_run, does as machine_does}
use Rattle.cluster_machine.specs.Acts.{acts}
use Rattle.cluster_machine.specs.World.{Sent, Mark, Request, World as Model, numbered, clock, is_member_at, empty}
use Rattle.cluster_machine.specs.Step.{most_versions, Choice, given, none_given, Effects, nothing, refusal, at_message, expires, closing, chosen, applies_at, trio_applies, acting, begun, beginning, effects}
use Rattle.cluster_machine.specs.Worlds.{Done, does, next}
use Rattle.machine_collects.specs.Prompt.{EndInTime, IsPrompt}
use Rattle.machine_collects.proofs.Laws.{Ends, ends_at, tombstones, message_clean, node_clean}
use Rattle.collect_reads.specs.Clean.{GaveNotBelow}
use Rattle.collect_reads.proofs.Stepping.{IsAt, from_empty, step_good}
use Rattle.collect_reads.proofs.Given.{all_clean}
use Rattle.object_collects.specs.Seen.{object_versions}
use Rattle.object_collects.proofs.Keeps.{keeps}
use Rattle.store_model.specs.Run.{World, Moving}
use Rattle.store_collects.specs.Past.{IsPast}
use Rattle.store_collects.proofs.Machine.{IsMachine}

-- ---- time passes in no step in which a phase ends

module _ {R L : Type 0} (A C : Type 0) where
  abbrev IsAtOnce : Effects R L A C → Type 0
  IsAtOnce e = (e.passes ≡ 0) ⊎ (e.reads ≡ [])

  by_test : (b : Bool) (d e : Effects R L A C) → IsAtOnce d → IsAtOnce e → IsAtOnce (cond b d e)
  by_test true d e h k = h
  by_test false d e h k = k

  message_at_once : (w : Model R L) (f : Sent R L → Effects R L A C) (o : Option (Sent R L)) (mark : Option Mark) → ((x : Sent R L) → IsAtOnce (f x)) → IsAtOnce (at_message w f o mark)
  message_at_once w f None mark h = inl refl
  message_at_once w f (Some x) None h = inl refl
  message_at_once w f (Some x) (Some mark) h = by_test mark.is_lost (refusal w Lost) (f x) (inl refl) (h x)

  expires_at_once : (w : Model R L) (q : ℕ) (o : Option Request) → IsAtOnce (expires w q o)
  expires_at_once w q None = inl refl
  expires_at_once w q (Some r) = by_test r.is_open _ (refusal w AlreadyEnded) (inl refl) (inl refl)

  closing_at_once : (w : Model R L) (q : ℕ) (o : Option Request) → IsAtOnce (closing w q o)
  closing_at_once w q None = inl refl
  closing_at_once w q (Some r) = by_test r.is_open _ (nothing w) (inl refl) (inl refl)

  module _ (join : R → R → R) (s : Words R) (k : Layouts L) (trio : L) (trio_roles : List Role → List Role) (w : Model R L) where
    acting_at_once : (n : ℕ) (b : Bool) (action : Action) → IsAtOnce (acting join s k trio trio_roles w n b (acts join s k n (clock w n) (w.nodes n) action))
    acting_at_once n b action = by_test b (refusal w NotMember) _ (inl refl) (inl refl)

    begun_at_once : (n : ℕ) (phase : Phase R) (o : Option (Call R)) → IsAtOnce (begun join s k trio trio_roles w n phase o)
    begun_at_once n phase None = inl refl
    begun_at_once n phase (Some c) = inl refl

    beginning_at_once : (q : ℕ) (phase : Phase R) (o : Option Request) → IsAtOnce (beginning join s k trio trio_roles w q phase o)
    beginning_at_once q phase None = inl refl
    beginning_at_once q phase (Some r) = by_test r.is_open _ (nothing w) (begun_at_once r.coordinator phase (call_at (w.nodes r.coordinator).calls q)) (inl refl)

    chosen_at_once : (n version : ℕ) (choice : Choice L A C) → IsAtOnce (chosen join s k trio trio_roles w n version choice)
    chosen_at_once n version (none_given r) = inl refl
    chosen_at_once n version (given l shown) = inl refl

    applies_at_once : (n : ℕ) (choice : Choice L A C) → IsAtOnce (applies_at join s k trio trio_roles w n choice)
    applies_at_once n choice =
        let after = suc (newest k.reading (w.nodes n).view) in
        by_test (leb 1 w.applied && not (is_member_at k w n)) (refusal w NotMember) _ (inl refl)
        (by_test (leb after w.applied) (refusal w (VersionTaken after)) _ (inl refl) (by_test (leb most_versions w.applied) (refusal w VersionLimit) _ (inl refl) (chosen_at_once n after choice)))

    step_at_once : (step : Step R) (choice : Choice L A C) → IsAtOnce (effects join s k trio trio_roles w step choice)
    step_at_once Trio choice = by_test (leb 1 w.applied) (refusal w (VersionTaken 1)) (trio_applies join s k trio trio_roles w) (inl refl) (inl refl)
    step_at_once (Stage n role) choice = inl refl
    step_at_once (Spread r) choice = inl refl
    step_at_once (Apply n) choice = applies_at_once n choice
    step_at_once (Tick ms) choice = inr refl
    step_at_once (Skew n ms) choice = inl refl
    step_at_once (Deliver m) choice = message_at_once w _ (numbered w.messages m) (numbered w.marks m) (λ x. inl refl)
    step_at_once (Lose m) choice = message_at_once w _ (numbered w.messages m) (numbered w.marks m) (λ x. inl refl)
    step_at_once (Expire q) choice = expires_at_once w q (numbered w.requests q)
    step_at_once (Restart n) choice = inl refl
    step_at_once (Gossip from to) choice = inl refl
    step_at_once (Ack n) choice = acting_at_once n (has_none k (w.nodes n).view) RaiseAck
    step_at_once (Syncs n) choice = acting_at_once n (has_none k (w.nodes n).view) GoOn
    step_at_once (SyncAck n) choice = acting_at_once n (has_none k (w.nodes n).view) RaiseSyncAck
    step_at_once (Clean n) choice = acting_at_once n (has_none k (w.nodes n).view) CleanUp
    step_at_once (Work n) choice = acting_at_once n (has_none k (w.nodes n).view) WorkOff
    step_at_once (Repair n) choice = acting_at_once n (not (is_member_at k w n)) Mend
    step_at_once (Collect n) choice = acting_at_once n (has_none k (w.nodes n).view) Gather
    step_at_once (Open n) choice = by_test (is_member_at k w n) _ (refusal w NotMember) (inl refl) (inl refl)
    step_at_once (Begin q phase) choice = beginning_at_once q phase (numbered w.requests q)
    step_at_once (Close q) choice = closing_at_once w q (numbered w.requests q)

-- ---- rows that were collected

one_partition : 1 ≤ 256
one_partition = omega arith

module _ {moments : List ℕ} (w : World) (is : IsMachine moments w) where
  abbrev Over : AnyRow → ℕ × ℕ → World → Type 0
  Over r u v = Ends any_join words schema_laws object_versions keeps layouts 256 one_partition (words.key r) u v

  -- a marker that was collected is over
  over : (r : AnyRow) (u : ℕ × ℕ) → Has w.collected r → words.marker r ≡ Some u → Over r u w
  over r u there marked =
      let all : List Moving = is.moves ++ [] in
      let all_is : all ≡ is.moves = append-nil is.moves in
      let end : Over r u (machine_run any_join words layouts is.first is.roles empty all) = ends_at any_join words schema_laws object_versions keeps layouts is.first is.roles 256 one_partition is.is_layout is.version is.moves []
      (subst (λ (ms : List Moving). IsRun any_join words layouts is.first is.roles 256 empty ms) (sym all_is) is.is_run)
      (subst (λ (ms : List Moving). IsPrompt any_join words object_versions layouts is.first is.roles ms) (sym all_is) is.prompt) r u
      (subst (λ (v : World). Has v.collected r) (sym is.leads) there) marked in
      subst (Over r u) is.leads (subst (λ (ms : List Moving). Over r u (machine_run any_join words layouts is.first is.roles empty ms)) all_is end)

  -- only tombstones are collected
  pub marked_then : (r : AnyRow) → Has w.collected r → (u : ℕ × ℕ) × (words.marker r ≡ Some u)
  marked_then r there = tombstones any_join words schema_laws object_versions keeps layouts is.first is.roles 256 one_partition is.is_layout is.version is.moves is.is_run is.prompt r (subst (λ (v : World). Has v.collected r) (sym is.leads) there)

  -- and no node has a version below one
  pub is_past : (r : AnyRow) → Has w.collected r → IsPast w r
  is_past r there =
      let marked = marked_then r there in
      let end = over r marked.0 there marked.1 in
      record {
        version = marked.0;
        marker = marked.1;
        nodes = λ n x e. node_clean any_join words schema_laws object_versions keeps layouts 256 one_partition (words.key r) w end.follows marked.0 end.past n x e;
      }

-- ---- phases

-- what a phase gave is, with rows that were collected, at least what was kept before it began, and not below any of these rows
pub record GaveClean (gone : List AnyRow) (reading : Reading AnyRow) : Type 0 where
  pub collected : List AnyRow
  pub among : (r : AnyRow) → Has collected r → Has gone r
  pub marked : (r : AnyRow) → Has collected r → (u : ℕ × ℕ) × (words.marker r ≡ Some u)
  pub kept : GaveKept any_join words collected reading
  pub clean : (r : AnyRow) (u : ℕ × ℕ) → Has collected r → words.marker r ≡ Some u → GaveNotBelow words object_versions (words.key r) u reading

has_left : {X : Type 0} (xs ys : List X) (x : X) → Has xs x → Has (xs ++ ys) x
has_left [] ys x h = absurd h
has_left (y ∷ xs) ys x (inl e) = inl e
has_left (y ∷ xs) ys x (inr h) = inr (has_left xs ys x h)

module _ {moments later : List ℕ} (w : World) (m : Moving) (at : IsMachine moments w) (then : IsMachine later (next any_join words w m)) (in_time : EndInTime moments w.time (does any_join words w m).ends) where
  abbrev AreClean : AnyRow → ℕ × ℕ → Done AnyRow → Type 0
  AreClean r u e = AllByRecursion (GaveNotBelow words object_versions (words.key r) u) e.reads

  known : IsAt schema_laws layouts at.first at.roles moments w
  known =
      subst (λ (v : World). IsAt schema_laws layouts at.first at.roles moments v) at.leads
      (subst (λ (ts : List ℕ). IsAt schema_laws layouts at.first at.roles ts (machine_run any_join words layouts at.first at.roles empty at.moves)) at.moments_are
      (from_empty schema_laws layouts at.first at.roles 256 at.moves at.is_run))

  -- what phases gave in this step is not below a marker that was collected by its end
  pub step_clean : (r : AnyRow) (u : ℕ × ℕ) → Has (next any_join words w m).collected r → words.marker r ≡ Some u → AreClean r u (does any_join words w m)
  step_clean r u there marked = subst (AreClean r u) (sym (at.same m)) (by_time (step_at_once Applied Cut any_join words layouts at.first at.roles w m.step m.choice))
    where
      e : Done AnyRow
      e = machine_does any_join words layouts at.first at.roles w m

      by_time : IsAtOnce Applied Cut e → AreClean r u e
      by_time (inr none) = subst (AllByRecursion (GaveNotBelow words object_versions (words.key r) u)) (sym none) tt
      by_time (inl still) =
          let v : World = next any_join words w m in
          let found = known in
          let good = step_good any_join words layouts at.first at.roles found.stands.asks w found.stands.sound found.held m.step m.choice in
          let end = over v then r u there marked in
          let same_time : v.time ≡ w.time + e.passes = subst (λ (d : Done AnyRow). w.time + d.passes ≡ w.time + e.passes) (sym (at.same m)) refl in
          all_clean schema_laws keeps (words.key r) u w.messages moments w.time found.sent
          (λ x q sent live carries proper table its. message_clean any_join words schema_laws object_versions keeps layouts 256 one_partition (words.key r) v end.follows u end.past x q
          (has_left w.messages (does any_join words w m).sends x sent) (omega (arith, same_time, still, live)) carries (record { proper = proper; table = table; key_is = its }))
          e.ends (subst (λ (d : Done AnyRow). EndInTime moments w.time d.ends) (at.same m) in_time) e.reads good.reads
