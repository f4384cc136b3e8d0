-- The phases of requests: what a request is in whose phase has begun.
use Rattle.std.specs.Prelude.{◌≡◌, ℕ, List, ◌∷◌, ◌++◌, map, Option, Some, None, refl}
use Rattle.std.proofs.Common.{ap, sym, subst, ◌∙◌, inl, inr}
use Rattle.std.proofs.lemmas.List.Elements.{All-nil, Contains-append_left}
use Rattle.crdt_rows.specs.declared.version.Version.{Version}
use Rattle.crdt_rows.specs.declared.any_row.AnyRow.{AnyRow}
use Rattle.crdt_rows.specs.AnyRow.{any_join}
use Rattle.layout_roles.specs.declared.layout.Layout.{Layout}
use Rattle.object_schema.specs.Schema.{words}
use Rattle.wire_messages.specs.declared.phase.Phase.{Phase}
use Rattle.wire_messages.specs.declared.phase.Phase.TheVariants.{Read, Store, Block}
use Rattle.blake2_hash.specs.declared.digest.Hash32.{Hash32}
use Rattle.blake2_hash.specs.Hash.{digest_of}
use Rattle.flow_model.specs.Rows.{row_key}
use Rattle.cluster_machine.specs.Node.{Question, Scan, Present, resting, asking, scanning, storing, fetching, Call, Node, Did}
use Rattle.cluster_machine.specs.Phases.{call_at, begins}
use Rattle.cluster_machine.specs.World.{Request, numbered}
use Rattle.cluster_machine.specs.Step.{begun, beginning}
use Rattle.cluster_machine.specs.Keeping.{AreDifferent}
use Rattle.machine_origins.specs.Following.{Began, Begins}
use Rattle.machine_origins.proofs.Begun.{found_request}
use Rattle.machine_origins.proofs.FollowingCalls.{found_there}
use Rattle.machine_origins.proofs.FollowingSteps.{begins_follow}
use Rattle.cluster_machine.specs.Layouts.{layouts}
use Rattle.cluster_machine.specs.Trio.{trio, stage_trio}
use Rattle.history_model.specs.declared.record.Record.{Record}
use Rattle.flow_model.specs.declared.flow.Name.{Name}
use Rattle.flow_model.specs.declared.flow.Flow.{Flow}
use Rattle.flow_model.specs.Flow.{asks_for, asks_past}
use Rattle.store_model.specs.Run.{State, Asked, phases, effect}
use Rattle.store_laws.proofs.Sound.{began, WasAcknowledged, IsProper, AreProper, AsksRow, AsksFor, StoresFor, ScansFor, HasBefore, HasPhase, AskedAt, IsPresent, IsSound, sights}
use Rattle.store_laws.proofs.Ends.{asked_of}
use Rattle.store_laws.proofs.Grown.{IsStill}
use Rattle.store_laws.proofs.Stepping.{IsFine, fine_still, fine_one, fine_cond}
use Rattle.store_laws.proofs.Deeds.{Deed}

-- what was acknowledged in a part of the history
acknowledged_part : (before rest : List Record) (name : Name) (version : Version) → WasAcknowledged before name version → WasAcknowledged (before ++ rest) name version
acknowledged_part before rest name version a = record {
  request = a.request;
  node = a.node;
  kind = a.kind;
  writes = a.writes;
  has_begun = Contains-append_left before rest _ a.has_begun;
  has_finished = Contains-append_left before rest _ a.has_finished;
}

module _ {H : Deed → Type 0} where
  module _ (s : State) (sound : IsSound H s) (differ : (n : ℕ) → AreDifferent (s.world.nodes n).calls) (q : ℕ) (a : Asked) (flow : Flow) (at : numbered s.asked q ≡ Some a) (flow_is : a.flow ≡ Some flow) (has_phase : HasPhase flow.stage) where
    still_at : (n : ℕ) → AskedAt s.asked n q → IsStill s.asked n q flow
    still_at n h =
        let some_is : Some h.one ≡ Some a = sym h.is_there ∙ at in
        let one_is : h.one ≡ a = cc in
        record { waits = record { one = h.one; is_there = h.is_there; node_is = h.node_is; flow = flow; flow_is = ap (λ (b : Asked). b.flow) one_is ∙ flow_is; has_phase = has_phase }; flow_is = refl }

    module _ (phase : Phase AnyRow) (is : (n : ℕ) → IsStill s.asked n q flow → (p : Present AnyRow) → Began s.world.kept phase p → IsPresent H s.asked s.draws s.history (sights s) n q p) where
      call_fine : (n : ℕ) (o : Option (Call AnyRow)) → call_at (s.world.nodes n).calls q ≡ o → IsFine H s (begun any_join words layouts trio stage_trio s.world n phase o)
      call_fine n None e = fine_still s _ sound (λ m. refl) refl (All-nil IsProper)
      call_fine n (Some c) e =
          let x : Node AnyRow Layout = s.world.nodes n in
          let d : Did AnyRow Layout = begins words layouts s.world.kept x c phase in
          let has = found_there x.calls q c e in
          let b : Begins s.world.kept x c phase d = begins_follow words layouts s.world.kept x c (differ n) has phase in
          let request : c.request ≡ q = found_request x.calls q c e in
          let here : AskedAt s.asked n q = subst (AskedAt s.asked n) request (asked_of H s.asked s.draws s.history (sights s) n c.request c.present (sound.presents n c has)) in
          fine_one s _ n d.node sound (λ m. refl) refl (subst (λ ks. AreProper ks) (sym b.ends.1) (All-nil IsProper)) (λ f h. elim (b.calls f h) [
            | inl old ↦ sound.presents n f old
            | inr new ↦ subst (λ r. IsPresent H s.asked s.draws s.history (sights s) n r f.present) (sym (new.0 ∙ request)) (is n (still_at n here) f.present new.2)
          ])

      request_fine : (o : Option Request) → IsFine H s (beginning any_join words layouts trio stage_trio s.world q phase o)
      request_fine None = fine_still s _ sound (λ m. refl) refl (All-nil IsProper)
      request_fine (Some r) = fine_cond s r.is_open _ _ (call_fine r.coordinator _ refl) (fine_still s _ sound (λ m. refl) refl (All-nil IsProper))

      pub phase_fine : IsFine H s (effect s (phases q phase))
      phase_fine = request_fine (numbered s.world.requests q)

    -- what was acknowledged before a request began is kept
    kept_before : HasBefore s.history q s.world.kept
    kept_before before rest n kind name cut k version a =
        sound.acknowledged k version (subst (λ (h : List Record). WasAcknowledged h k version) (sym cut) (acknowledged_part before (began q n kind name ∷ rest) k version a))

    -- a read phase, whatever it asks for
    module _ (table : ℕ) (position : Hash32) (key : List ℕ) (asks : (question : Question AnyRow) → question.table ≡ table → question.key ≡ key → AsksFor flow.stage question) where
      reads_present : (n : ℕ) → IsStill s.asked n q flow → (p : Present AnyRow) → Began s.world.kept (Read table position key) p → IsPresent H s.asked s.draws s.history (sights s) n q p
      reads_present n still resting b = absurd b
      reads_present n still (asking question answers) b = record {
        waits = still.waits;
        asks = subst (λ (f : Flow). AsksFor f.stage question) (sym still.flow_is) (asks question b.1 b.3);
        proper = subst AreProper (sym b.4) sound.proper;
        has = subst (HasBefore s.history q) (sym b.4) kept_before;
      }
      reads_present n still (scanning scan answers) b = absurd b
      reads_present n still (storing rows slots) b = absurd b
      reads_present n still (fetching hash) b = absurd b

      pub reads_fine : IsFine H s (effect s (phases q (Read table position key)))
      reads_fine = phase_fine (Read table position key) reads_present

    pub asks_fine : (name : Name) → ((question : Question AnyRow) → AsksRow name question → AsksFor flow.stage question) → IsFine H s (effect s (phases q (asks_for name)))
    asks_fine name asks = reads_fine 1 (digest_of name.bucket) (row_key name) (λ question table key. asks question (table, key))

    -- a store phase
    module _ (rows : List (AnyRow × Option (List ℕ))) (proper : AreProper (map (λ r. r.0) rows)) (is_stored : StoresFor s.draws q flow.stage (map (λ r. r.0) rows)) where
      stores_present : (n : ℕ) → IsStill s.asked n q flow → (p : Present AnyRow) → Began s.world.kept (Store rows) p → IsPresent H s.asked s.draws s.history (sights s) n q p
      stores_present n still resting b = absurd b
      stores_present n still (asking question answers) b = absurd b
      stores_present n still (scanning scan answers) b = absurd b
      stores_present n still (storing stored slots) b = record {
        waits = still.waits;
        stores = subst (λ (f : Flow). StoresFor s.draws q f.stage stored) (sym still.flow_is) (subst (StoresFor s.draws q flow.stage) (sym b) is_stored);
        proper = subst AreProper (sym b) proper;
      }
      stores_present n still (fetching hash) b = absurd b

      pub stores_fine : IsFine H s (effect s (phases q (Store rows)))
      stores_fine = phase_fine (Store rows) stores_present

    -- a block phase
    module _ (hash : Hash32) where
      fetch_present : (n : ℕ) → IsStill s.asked n q flow → (p : Present AnyRow) → Began s.world.kept (Block hash) p → IsPresent H s.asked s.draws s.history (sights s) n q p
      fetch_present n still resting b = absurd b
      fetch_present n still (asking question answers) b = absurd b
      fetch_present n still (scanning scan answers) b = absurd b
      fetch_present n still (storing stored slots) b = absurd b
      fetch_present n still (fetching asked) b = still.waits

      pub fetch_fine : IsFine H s (effect s (phases q (Block hash)))
      fetch_fine = phase_fine (Block hash) fetch_present

    -- a range phase
    module _ (bucket prefix after : List ℕ) (scans : (scan : Scan AnyRow) → scan.position ≡ (digest_of bucket).0 → scan.prefix ≡ prefix → scan.after ≡ after → ScansFor H s.draws s.history (sights s) q flow.stage scan) where
      scan_present : (n : ℕ) → IsStill s.asked n q flow → (p : Present AnyRow) → Began s.world.kept (asks_past bucket prefix after) p → IsPresent H s.asked s.draws s.history (sights s) n q p
      scan_present n still resting b = absurd b
      scan_present n still (asking question answers) b = absurd b
      scan_present n still (scanning scan answers) b = record {
        waits = still.waits;
        scans = subst (λ (f : Flow). ScansFor H s.draws s.history (sights s) q f.stage scan) (sym still.flow_is) (scans scan b.1 b.2 b.3);
        proper = subst AreProper (sym b.4) sound.proper;
        has = subst (HasBefore s.history q) (sym b.4) kept_before;
      }
      scan_present n still (storing stored slots) b = absurd b
      scan_present n still (fetching asked) b = absurd b

      pub scans_fine : IsFine H s (effect s (phases q (asks_past bucket prefix after)))
      scans_fine = phase_fine (asks_past bucket prefix after) scan_present
