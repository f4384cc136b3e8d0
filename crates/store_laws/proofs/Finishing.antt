-- A request that finishes, and requests that end, keep a state sound.
use Rattle.std.proofs.Common.{◌≡◌, inl, inr, ℕ, Some, List, [], ◌∷◌, ◌++◌, map, refl, sym, subst}
use Rattle.std.specs.Prelude.{IsTrue}
use Rattle.std.specs.List.{Contains}
use Rattle.std.proofs.lemmas.List.{append-nil, append_assoc}
use Rattle.std.proofs.lemmas.List.Elements.{Contains-append_left, Contains-push_cases}
use Rattle.crdt_rows.specs.declared.version.Version.{Version}
use Rattle.cluster_machine.specs.World.{numbered}
use Rattle.history_model.specs.declared.record.Kind.{Kind}
use Rattle.history_model.specs.declared.record.Answer.{Answer}
use Rattle.history_model.specs.declared.record.Answer.TheVariants as answer
use Rattle.history_model.specs.declared.record.Cause.{Cause}
use Rattle.history_model.specs.declared.record.Record.{Record}
use Rattle.history_model.specs.declared.record.Record.TheVariants.{Finished, Ended}
use Rattle.history_model.specs.Record.{is_write}
use Rattle.flow_model.specs.declared.flow.Name.{Name}
use Rattle.store_model.specs.Run.{State, Asked}
use Rattle.store_laws.proofs.Sound.{began, IsAsked, WasAcknowledged, HasKept, Drew, IsFreshEnd, sights, IsSound}
use Rattle.store_laws.proofs.Freshness.{fresh_told}
use Rattle.store_laws.proofs.Grown.{present_told, stage_told, drawn_told}
use Rattle.store_laws.proofs.Deeds.{Deed}

-- what a request owes that finishes now with this answer
pub record IsEndOf (H : Deed → Type 0) (s : State) (q : ℕ) (a : Answer) : Type 0 where
  pub one : Asked
  pub is_there : numbered s.asked q ≡ Some one
  pub fresh : IsFreshEnd H s q a
  pub kept : (version : Version) (kind : Kind) (name : Name) → a ≡ answer.Version version → IsTrue (is_write kind) → IsAsked s.asked q kind name → HasKept s.world.kept name version × Drew s.draws q version

-- ---- a record that begins nothing

module _ {H : Deed → Type 0} where
  module _ (s : State) (x : Record) (never : (q n : ℕ) (kind : Kind) (name : Name) → x ≡ began q n kind name → ⊥) (ends : (q : ℕ) (a : Answer) → x ≡ Finished q a → IsEndOf H s q a) (sound : IsSound H s) where
    begun_before : (q n : ℕ) (kind : Kind) (name : Name) → Contains (s.history ++ x ∷ []) (began q n kind name) → Contains s.history (began q n kind name)
    begun_before q n kind name c = elim (Contains-push_cases s.history x (began q n kind name) c) [
      | inl old ↦ old
      | inr e ↦ absurd (never q n kind name e)
    ]

    -- a version that a write was acknowledged with by now is kept, and the write drew it
    acknowledged_now : (name : Name) (version : Version) (a : WasAcknowledged (s.history ++ x ∷ []) name version) → HasKept s.world.kept name version × Drew s.draws a.request version
    acknowledged_now name version a =
        let begin = begun_before a.request a.node a.kind name a.has_begun in
        elim (Contains-push_cases s.history x (Finished a.request (answer.Version version)) a.has_finished) [
          | inl old ↦
              let was : WasAcknowledged s.history name version = record { request = a.request; node = a.node; kind = a.kind; writes = a.writes; has_begun = begin; has_finished = old } in
              (sound.acknowledged name version was, sound.answered name version was)
          | inr e ↦ (ends a.request (answer.Version version) e).kept version a.kind name refl a.writes (sound.told.began_asked a.request a.node a.kind name begin)
        ]

  pub told_sound : (s : State) (x : Record) → ((q n : ℕ) (kind : Kind) (name : Name) → x ≡ began q n kind name → ⊥) → ((q : ℕ) (a : Answer) → x ≡ Finished q a → IsEndOf H s q a) → IsSound H s → IsSound H (record s { history = s.history ++ x ∷ [] })
  told_sound s x never ends sound = record {
    reached = sound.reached;
    lengths = sound.lengths;
    told = record {
      began_asked = λ p m kind name c. sound.told.began_asked p m kind name (begun_before s x never ends sound p m kind name c);
      finished_asked = λ p a c. elim (Contains-push_cases s.history x (Finished p a) c) [
        | inl old ↦ sound.told.finished_asked p a old
        | inr e ↦ let end = ends p a e in (end.one, end.is_there)
      ];
      asked_began = λ p o h. let b = sound.told.asked_began p o h in (b.0, Contains-append_left s.history (x ∷ []) _ b.1);
      bucket_there = sound.told.bucket_there;
      key_there = λ p m kind name c. sound.told.key_there p m kind name (begun_before s x never ends sound p m kind name c);
    };
    presents = λ n c h. present_told H s.asked s.draws s.history (sights s) x (λ p m kind name o e at. never p m kind name e) n c.request c.present (sound.presents n c h);
    stages = λ q a flow at is. (let was = sound.stages q a flow at is in (was.0, stage_told H s.asked s.draws s.history x (λ p m kind name o e at. never p m kind name e) q a at flow.stage was.1));
    drawn = λ d c. drawn_told s.buckets s.history x d (sound.drawn d c);
    acknowledged = λ name version a. (acknowledged_now s x never ends sound name version a).0;
    answered = λ name version a. (acknowledged_now s x never ends sound name version a).1;
    seen = sound.seen;
    proper = sound.proper;
    fresh = λ clear. fresh_told s x sound clear (λ q a e. (ends q a e).fresh);
  }

  -- requests end without an answer
  module _ (s : State) (cause : Cause) where
    one_ended : (h : List Record) (q : ℕ) → IsSound H (record s { history = h }) → IsSound H (record s { history = (h ++ Ended q cause ∷ []) })
    one_ended h q sound = told_sound (record s { history = h }) (Ended q cause) (λ p n kind name e. cc) (λ p a e. cc) sound

    pub all_ended : (qs : List ℕ) (h : List Record) → IsSound H (record s { history = h }) → IsSound H (record s { history = (h ++ map (λ q. Ended q cause) qs) })
    all_ended [] h sound = subst (λ (h : List Record). IsSound H (record s { history = h })) (sym (append-nil h)) sound
    all_ended (q ∷ qs) h sound =
        subst (λ (h : List Record). IsSound H (record s { history = h })) (append_assoc h (Ended q cause ∷ []) (map (λ q. Ended q cause) qs)) (all_ended qs (h ++ Ended q cause ∷ []) (one_ended h q sound))

  pub ended_sound : (cause : Cause) (qs : List ℕ) (s : State) → IsSound H s → IsSound H (record s { history = s.history ++ map (λ q. Ended q cause) qs })
  ended_sound cause qs s sound = all_ended s cause qs s.history sound
