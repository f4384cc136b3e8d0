-- A request that opens keeps a state sound.
use Rattle.std.proofs.Common.{◌≡◌, inl, inr, ℕ, suc, ◌+◌, ◌≤◌, true, false, ◌==◌, cond, Some, None, List, [], ◌∷◌, ◌++◌, length, refl, sym, ap, ◌∙◌, subst, arith}
use Rattle.std.specs.Prelude.{IsTrue}
use Rattle.std.specs.Option.{unwrap_or}
use Rattle.std.proofs.lemmas.Bool.{eqb-true}
use Rattle.std.proofs.lemmas.List.{length_push}
use Rattle.std.specs.List.{Contains}
use Rattle.std.proofs.lemmas.List.Elements.{All-nil, Contains-append_left, Contains-push, Contains-push_cases}
use Rattle.crdt_core.specs.Members.{Has}
use Rattle.crdt_rows.specs.declared.any_row.AnyRow.{AnyRow}
use Rattle.crdt_rows.specs.declared.version.Version.{Version}
use Rattle.crdt_rows.specs.AnyRow.{any_join}
use Rattle.layout_roles.specs.declared.layout.Layout.{Layout}
use Rattle.object_schema.specs.Schema.{words}
use Rattle.cluster_machine.specs.Layouts.{layouts}
use Rattle.cluster_machine.specs.declared.step.Step.TheVariants.{Open}
use Rattle.cluster_machine.specs.Node.{Call, Node}
use Rattle.cluster_machine.specs.Phases.{opened}
use Rattle.cluster_machine.specs.World.{Request, numbered, is_member_at}
use Rattle.cluster_machine.specs.Step.{only, changed}
use Rattle.cluster_machine.specs.Worlds.{IsLawfulRun, newest_at, next}
use Rattle.history_model.specs.declared.record.Answer.TheVariants as answer
use Rattle.history_model.specs.declared.record.Record.{Record}
use Rattle.history_model.specs.declared.record.Record.TheVariants.{Finished}
use Rattle.history_model.specs.declared.record.Kind.{Kind}
use Rattle.history_model.specs.Record.{is_write}
use Rattle.flow_model.specs.declared.flow.Flow.{Flow}
use Rattle.flow_model.specs.declared.flow.Name.{Name}
use Rattle.store_model.specs.Run.{World, State, Asked, plainly}
use Rattle.machine_origins.proofs.Places.{numbered_append, numbered_push_cases, numbered_last, numbered_within}
use Rattle.store_laws.proofs.Good.{IsGood}
use Rattle.store_laws.proofs.Sound.{StoresGood, began, IsTold, WasAcknowledged, HasAcknowledged, Drew, HasAnswered, AreProper, IsPresent, ArePresent, IsStage, IsSound, sights}
use Rattle.store_laws.proofs.Freshness.{fresh_later, fresh_told}
use Rattle.store_laws.proofs.Grown.{IsNew, pushed_still, pushed_at, present_asked, present_told, stage_told, drawn_told, asked_told}
use Rattle.store_laws.proofs.Reached.{reached_step}
use Rattle.store_laws.proofs.Hashing.{DoesIn}
use Rattle.store_laws.proofs.Deeds.{Deed}

-- the record that this request begins
abbrev pub beginning : State → Asked → Record
beginning s a = began (suc (length s.world.requests)) a.node a.kind a.name

-- a request opens: the world adds it, and the requests and the history with it
abbrev pub opening : State → Asked → State
opening s a = record s {
  world = next any_join words s.world (plainly (Open a.node));
  asked = s.asked ++ a ∷ [];
  history = s.history ++ beginning s a ∷ [];
}

module _ {H : Deed → Type 0} where
  -- the numbers of requests that were asked for are below the next
  next_new : (s : State) (a : Asked) → IsSound H s → IsNew s.asked (beginning s a)
  next_new s a sound q m k name o e h =
      let q_is : suc (length s.world.requests) ≡ q = cc in
      let within : q ≤ length s.asked = numbered_within s.asked q o h in
      let lengths : length s.asked ≡ length s.world.requests = sound.lengths in
      omega arith

  pub new_there : (s : State) (a : Asked) → IsSound H s → numbered (s.asked ++ a ∷ []) (suc (length s.world.requests)) ≡ Some a
  new_there s a sound = ap (λ (l : ℕ). numbered (s.asked ++ a ∷ []) (suc l)) (sym sound.lengths) ∙ numbered_last s.asked a

  opened_told : (s : State) (a : Asked) → Contains s.buckets a.name.bucket → (IsTrue (is_write a.kind) → 1 ≤ length a.name.key) → IsSound H s → IsTold s.buckets (s.asked ++ a ∷ []) (s.history ++ beginning s a ∷ [])
  opened_told s a bucket keyed sound =
      let q : ℕ = suc (length s.world.requests) in
      let x : Record = beginning s a in
      let here = new_there s a sound in
      record {
        began_asked = λ p m kind name c. elim (Contains-push_cases s.history x (began p m kind name) c) [
          | inl old ↦ asked_told s.asked a p kind name (sound.told.began_asked p m kind name old)
          | inr e ↦
              let p_is : q ≡ p = cc in
              let bucket_is : a.name.bucket ≡ name.bucket = cc in
              let key_is : a.name.key ≡ name.key = cc in
              record { one = a; is_there = ap (λ (l : ℕ). numbered (s.asked ++ a ∷ []) l) (sym p_is) ∙ here; kind_is = cc; name_is = λ i. record { bucket = bucket_is i; key = key_is i } }
        ];
        finished_asked = λ p answer c. elim (Contains-push_cases s.history x (Finished p answer) c) [
          | inl old ↦ let was = sound.told.finished_asked p answer old in (was.0, numbered_append s.asked (a ∷ []) p was.0 was.1)
          | inr e ↦ cc
        ];
        asked_began = λ p o h. elim (numbered_push_cases s.asked a p o h) [
          | inl old ↦ let b = sound.told.asked_began p o old in (b.0, Contains-append_left s.history (x ∷ []) _ b.1)
          | inr e ↦
              let q_is : q ≡ p = cc in
              (a.node, subst (λ (y : Record). Contains (s.history ++ x ∷ []) y) (λ i. began (q_is i) a.node (e.1 i).kind (e.1 i).name) (Contains-push s.history x))
        ];
        bucket_there = λ p o h. elim (numbered_push_cases s.asked a p o h) [
          | inl old ↦ sound.told.bucket_there p o old
          | inr e ↦ subst (λ (o : Asked). Contains s.buckets o.name.bucket) e.1 bucket
        ];
        key_there = λ p m kind name c. elim (Contains-push_cases s.history x (began p m kind name) c) [
          | inl old ↦ sound.told.key_there p m kind name old
          | inr e ↦
              let kind_is : a.kind ≡ kind = cc in
              let key_is : a.name.key ≡ name.key = cc in
              λ writes. subst (λ (k : List ℕ). 1 ≤ length k) key_is (keyed (subst (λ (k : Kind). IsTrue (is_write k)) (sym kind_is) writes))
        ];
      }

  -- what was acknowledged before a request began
  acknowledged_old : (s : State) (a : Asked) → IsSound H s → (name : Name) (version : Version) (ack : WasAcknowledged (s.history ++ beginning s a ∷ []) name version) → (old : WasAcknowledged s.history name version) × (old.request ≡ ack.request)
  acknowledged_old s a sound name version ack =
      let x : Record = beginning s a in
      let finish : Contains s.history (Finished ack.request (answer.Version version)) = (elim (Contains-push_cases s.history x (Finished ack.request (answer.Version version)) ack.has_finished) [
        | inl old ↦ old
        | inr e ↦ cc
      ]) in
      elim (Contains-push_cases s.history x (began ack.request ack.node ack.kind name) ack.has_begun) [
        | inl old ↦ (record { request = ack.request; node = ack.node; kind = ack.kind; writes = ack.writes; has_begun = old; has_finished = finish }, refl)
        | inr e ↦
            let was = sound.told.finished_asked ack.request (answer.Version version) finish in
            absurd (next_new s a sound ack.request ack.node ack.kind name was.0 e was.1)
      ]

  acknowledged_before : (s : State) (a : Asked) → IsSound H s → HasAcknowledged s.world.kept (s.history ++ beginning s a ∷ [])
  acknowledged_before s a sound name version ack = sound.acknowledged name version (acknowledged_old s a sound name version ack).0

  answered_before : (s : State) (a : Asked) → IsSound H s → HasAnswered s.draws (s.history ++ beginning s a ∷ [])
  answered_before s a sound name version ack =
      let old = acknowledged_old s a sound name version ack in
      subst (λ (q : ℕ). Drew s.draws q version) old.1 (sound.answered name version old.0)

  pub opened_sound : (s : State) (a : Asked) (flow : Flow) → a.flow ≡ Some flow → flow.id ≡ suc (length s.world.requests) → IsStage H s.draws (s.history ++ beginning s a ∷ []) (suc (length s.world.requests)) a flow.stage → is_member_at layouts s.world a.node ≡ true →
      Contains s.buckets a.name.bucket → (IsTrue (is_write a.kind) → 1 ≤ length a.name.key) → IsLawfulRun any_join words s.world (plainly (Open a.node) ∷ []) → DoesIn H s.world (plainly (Open a.node)) → IsSound H s → IsSound H (opening s a)
  opened_sound s a flow flow_is id_is stage member bucket keyed lawful hashes sound =
      let q : ℕ = suc (length s.world.requests) in
      let n : ℕ = a.node in
      let x : Record = beginning s a in
      let asked : List Asked = s.asked ++ a ∷ [] in
      let history : List Record = s.history ++ x ∷ [] in
      let new : Request = record { coordinator = n; is_open = true } in
      let y : Node AnyRow Layout = opened q (newest_at s.world n) (s.world.nodes n) in
      let w : World = next any_join words s.world (plainly (Open n)) in
      let requests : w.requests ≡ s.world.requests ++ new ∷ [] = rw member refl in
      let kept_is : w.kept ≡ s.world.kept = rw member refl in
      let collected_is : w.collected ≡ s.world.collected = rw member refl in
      let nodes_are : w.nodes ≡ changed (only n y) s.world.nodes = rw member refl in
      let old : (m : ℕ) → ArePresent H asked s.draws history (sights s) m (s.world.nodes m).calls = (λ m c h.
      present_asked H s.asked asked s.draws history (sights s) m c.request (pushed_at s.asked a m c.request) (pushed_still s.asked a m c.request) c.present
      (present_told H s.asked s.draws s.history (sights s) x (next_new s a sound) m c.request c.present (sound.presents m c h))) in
      let here : ArePresent H asked s.draws history (sights s) n y.calls = (λ c h. elim h [
        | inl is ↦ subst (λ (d : Call AnyRow). IsPresent H asked s.draws history (sights s) n d.request d.present) is (record { one = a; is_there = new_there s a sound; node_is = refl })
        | inr more ↦ old n c more
      ]) in
      record {
        reached = reached_step (StoresGood s.draws) s.world (plainly (Open n)) sound.reached lawful hashes (All-nil (IsGood s.draws)) (All-nil (IsGood s.draws));
        lengths = length_push s.asked a ∙ ap (λ (l : ℕ). l + 1) sound.lengths ∙ sym (length_push s.world.requests new) ∙ sym (ap (λ (rs : List Request). length rs) requests);
        told = opened_told s a bucket keyed sound;
        presents = subst (λ (gone : List AnyRow). (m : ℕ) → ArePresent H asked s.draws history (record { saw = s.saw; collected = gone }) m (w.nodes m).calls) (sym collected_is)
            (subst (λ (f : ℕ → Node AnyRow Layout). (m : ℕ) → ArePresent H asked s.draws history (sights s) m (f m).calls) (sym nodes_are)
            (λ m. elim (m == n) as (λ b. (m == n) ≡ b → ArePresent H asked s.draws history (sights s) m (unwrap_or (cond b (Some y) None) (s.world.nodes m)).calls) [
              | true ↦ (λ t. subst (λ k. ArePresent H asked s.draws history (sights s) k y.calls) (sym (eqb-true m n t)) here)
              | false ↦ (λ f. old m)
            ] refl));
        stages = λ p o f at is. elim (numbered_push_cases s.asked a p o at) [
          | inl before ↦ let was = sound.stages p o f before is in (was.0, stage_told H s.asked s.draws s.history x (next_new s a sound) p o before f.stage was.1)
          | inr e ↦
              let p_is : q ≡ p = cc in
              let flows : Some flow ≡ Some f = sym flow_is ∙ (ap (λ (o : Asked). o.flow) e.1 ∙ is) in
              let same : flow ≡ f = cc in
              (ap (λ (f : Flow). f.id) (sym same) ∙ (id_is ∙ p_is), subst (λ (f : Flow). IsStage H s.draws history p o f.stage) same (subst (λ (o : Asked). IsStage H s.draws history p o flow.stage) e.1 (subst (λ (r : ℕ). IsStage H s.draws history r a flow.stage) p_is stage)))
        ];
        drawn = λ d c. drawn_told s.buckets s.history x d (sound.drawn d c);
        acknowledged = subst (λ ks. HasAcknowledged ks history) (sym kept_is) (acknowledged_before s a sound);
        answered = answered_before s a sound;
        seen = sound.seen;
        proper = subst AreProper (sym kept_is) sound.proper;
        fresh = λ clear. fresh_later (record s { history = history }) (opening s a) refl (λ n c. c) (λ d c. c) (λ v c. c) (λ r h. subst (λ (gone : List AnyRow). Has gone r) (sym collected_is) h) (fresh_told s x sound clear (λ q answer e. cc));
      }
