-- A request that waits for something else, and a write that draws its version, keep a state sound.
use Rattle.std.proofs.Common.{◌≡◌, inl, inr, ℕ, ◌-◌, Option, Some, List, [], ◌∷◌, ◌++◌, slice_set, refl, sym, ap, ◌∙◌, subst}
use Rattle.std.proofs.lemmas.List.{length-set}
use Rattle.std.specs.List.{Contains}
use Rattle.std.proofs.lemmas.List.Elements.{Contains-append_cases, Contains-append_right}
use Rattle.crdt_rows.specs.declared.object_row.ObjectRow.{ObjectRow}
use Rattle.crdt_rows.specs.declared.any_row.AnyRow.TheVariants as rows
use Rattle.cluster_machine.specs.World.{numbered}
use Rattle.history_model.specs.declared.record.Record.{Record}
use Rattle.flow_model.specs.declared.flow.Flow.{Flow}
use Rattle.store_model.specs.Run.{State, Asked, Draw, Saw, set_flow}
use Rattle.store_model.specs.Fresh.{Gave}
use Rattle.store_laws.proofs.Elements.{cons_cases}
use Rattle.machine_origins.proofs.Places.{numbered_set_cases}
use Rattle.store_laws.proofs.Sound.{began, HasDrawn, IsStage, IsSound, sights}
use Rattle.store_laws.proofs.Freshness.{Sees, fresh_later}
use Rattle.store_laws.proofs.Rows.{IsOf}
use Rattle.store_laws.proofs.Grown.{Rests, presents_set, present_drawn, present_seen, stage_drawn, asked_set, answered_drawn, saw_drawn}
use Rattle.store_laws.proofs.Reached.{reached_draws}
use Rattle.store_laws.proofs.Deeds.{Deed}

-- the request waits for this, and drew these versions
abbrev pub waiting : State → ℕ → Asked → Option Flow → List Draw → State
waiting s q a flow newer = record s { asked = set_flow s q a flow; draws = newer ++ s.draws }

-- what a request may wait for
abbrev pub MayWait : (Deed → Type 0) → List Draw → List Record → ℕ → Asked → Option Flow → Type 0
MayWait H draws history q a flow = (f : Flow) → flow ≡ Some f → (f.id ≡ q) × IsStage H draws history q a f.stage

-- a phase that ended is seen
abbrev pub seeing : State → Saw → State
seeing s x = record s { saw = x ∷ s.saw }

pub sees_more : (s : State) (x : Saw) → Sees (sights s) (sights (seeing s x))
sees_more s x = record { saw = λ y c. Contains-append_right (x ∷ []) s.saw y c; collected = λ r h. h }

module _ {H : Deed → Type 0} where
  pub waiting_sound : (s : State) (q : ℕ) (a : Asked) (flow : Option Flow) (newer : List Draw) → numbered s.asked q ≡ Some a → Rests s q → MayWait H (newer ++ s.draws) s.history q a flow →
      ((d : Draw) → Contains newer d → HasDrawn s.buckets s.history d) → IsSound H s → IsSound H (waiting s q a flow newer)
  waiting_sound s q a flow newer at rests may drawn sound =
      let new : Asked = record a { flow = flow } in
      let asked : List Asked = slice_set s.asked (q - 1) new in
      record {
        reached = reached_draws s.draws newer s.world sound.reached;
        lengths = length-set s.asked (q - 1) new ∙ sound.lengths;
        told = record {
          began_asked = λ p m kind name c. asked_set s.asked q a flow at p kind name (sound.told.began_asked p m kind name c);
          finished_asked = λ p answer c.
              let was = sound.told.finished_asked p answer c in
              let there = asked_set s.asked q a flow at p was.0.kind was.0.name (record { one = was.0; is_there = was.1; kind_is = refl; name_is = refl }) in
              (there.one, there.is_there);
          asked_began = λ p o h. elim (numbered_set_cases s.asked q p a new o at h) [
            | inl e ↦
                let begin = sound.told.asked_began q a at in
                (begin.0, subst (λ (y : Record). Contains s.history y) (λ i. began (sym e.0 i) begin.0 (e.1 i).kind (e.1 i).name) begin.1)
            | inr old ↦ sound.told.asked_began p o old
          ];
          bucket_there = λ p o h. elim (numbered_set_cases s.asked q p a new o at h) [
            | inl e ↦ subst (λ (o : Asked). Contains s.buckets o.name.bucket) e.1 (sound.told.bucket_there q a at)
            | inr old ↦ sound.told.bucket_there p o old
          ];
          key_there = sound.told.key_there;
        };
        presents = λ n c h. present_drawn H asked s.draws newer s.history (sights s) n c.request c.present (presents_set H s q a new at refl rests sound.presents n c h);
        stages = λ p o f there is. elim (numbered_set_cases s.asked q p a new o at there) [
          | inl e ↦
              let flow_is : flow ≡ Some f = ap (λ (o : Asked). o.flow) e.1 ∙ is in
              let m = may f flow_is in
              (m.0 ∙ sym e.0, subst (λ (o : Asked). IsStage H (newer ++ s.draws) s.history p o f.stage) e.1 (subst (λ (r : ℕ). IsStage H (newer ++ s.draws) s.history r a f.stage) (sym e.0) m.1))
          | inr old ↦ let was = sound.stages p o f old is in (was.0, stage_drawn H s.draws newer s.history p o f.stage was.1)
        ];
        drawn = λ d c. elim (Contains-append_cases newer s.draws d c) [
          | inl one ↦ drawn d one
          | inr old ↦ sound.drawn d old
        ];
        acknowledged = sound.acknowledged;
        answered = answered_drawn s.draws newer s.history sound.answered;
        seen = saw_drawn s.draws newer s.saw sound.seen;
        proper = sound.proper;
        fresh = λ clear. fresh_later s (waiting s q a flow newer) refl (λ n c. c) (λ d c. Contains-append_right newer s.draws d c) (λ x c. c) (λ r h. h) (sound.fresh clear);
      }

  -- a phase that ended was seen
  pub saw_sound : (s : State) (x : Saw) → ((r : ObjectRow) → Gave x.end (rows.Object r) → IsOf s.draws (rows.Object r)) → IsSound H s → IsSound H (seeing s x)
  saw_sound s x good sound = record {
    reached = sound.reached;
    lengths = sound.lengths;
    told = sound.told;
    presents = λ n c h. present_seen H s.asked s.draws s.history (sights s) (sights (seeing s x)) (sees_more s x) n c.request c.present (sound.presents n c h);
    stages = sound.stages;
    drawn = sound.drawn;
    acknowledged = sound.acknowledged;
    answered = sound.answered;
    seen = λ y r c gave. elim (cons_cases x s.saw y c) [
      | inl e ↦ good r (subst (λ (z : Saw). Gave z.end (rows.Object r)) (sym e) gave)
      | inr old ↦ sound.seen y r old gave
    ];
    proper = sound.proper;
    fresh = λ clear. fresh_later s (seeing s x) refl (λ n c. c) (λ d c. c) (sees_more s x).saw (λ r h. h) (sound.fresh clear);
  }
