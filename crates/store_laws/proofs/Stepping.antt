-- A step of the world keeps a state sound where what it adds fits the requests.
use Rattle.std.specs.Prelude.{◌≡◌, ℕ, Bool, true, false, ◌==◌, cond, List, [], ◌∷◌, ◌++◌, length, Some, None, refl}
use Rattle.std.specs.Option.{unwrap_or}
use Rattle.std.proofs.Common.{inl, inr, ap, sym, subst, ◌∙◌}
use Rattle.std.proofs.lemmas.Bool.{eqb-true, eqb-false}
use Rattle.std.proofs.lemmas.List.{append-nil}
use Rattle.std.specs.List.{All, AllByRecursion}
use Rattle.std.proofs.lemmas.List.Elements.{All-nil, All-append}
use Rattle.crdt_core.specs.Members.{Has}
use Rattle.crdt_core.proofs.Each.{all_weaker}
use Rattle.crdt_rows.specs.declared.any_row.AnyRow.{AnyRow}
use Rattle.crdt_rows.specs.AnyRow.{any_join}
use Rattle.layout_roles.specs.declared.layout.Layout.{Layout}
use Rattle.object_schema.specs.Schema.{words}
use Rattle.cluster_machine.specs.Node.{resting, Call, Node, Ended}
use Rattle.cluster_machine.specs.World.{Request}
use Rattle.quorum_model.specs.Quorum.{is_among}
use Rattle.view_model.specs.Layouts.{reading}
use Rattle.cluster_machine.specs.Layouts.{layouts}
use Rattle.cluster_machine.specs.Acts.{appends}
use Rattle.cluster_machine.specs.Choices.{IsFirst}
use Rattle.cluster_machine.specs.Step.{only, changed, shut, applied}
use Rattle.machine_origins.specs.Origins.{stored_by}
use Rattle.cluster_machine.specs.Worlds.{Done as Effect, IsLawfulRun, installs, installed}
use Rattle.cluster_machine.proofs.Closing.{length_shut}
use Rattle.store_model.specs.Run.{State, Moving, Asked, doing, effect}
use Rattle.machine_origins.proofs.Calm.{IsCalm}
use Rattle.store_laws.proofs.Elements.{has_right}
use Rattle.store_laws.proofs.Good.{IsGood}
use Rattle.store_laws.proofs.Sound.{StoresGood, IsReached, IsProper, AreProper, WaitsAt, ArePresent, Sights, sights, IsSound}
use Rattle.store_laws.proofs.Freshness.{Sees, fresh_later}
use Rattle.store_laws.proofs.Grown.{kept_later, present_seen}
use Rattle.store_laws.proofs.Reached.{reached_step, reached_installing}
use Rattle.store_laws.proofs.Ends.{IsEnd, end_seen, rests_or_waits, present_continues, ends_are}
use Rattle.store_laws.proofs.Hashing.{DoesIn}
use Rattle.store_laws.proofs.Deeds.{Deed}

-- what is added fits the requests, and none opens
pub record IsFine (H : Deed → Type 0) (s : State) (e : Effect AnyRow) : Type 0 where
  pub opens : e.opens ≡ []
  pub presents : (n : ℕ) → ArePresent H s.asked s.draws s.history (sights s) n (changed e.nodes s.world.nodes n).calls
  pub keeps : AreProper e.keeps

-- what is seen and collected after these effects
abbrev pub sights_after : State → Effect AnyRow → Sights
sights_after s e = record { saw = s.saw; collected = e.collects ++ s.world.collected }

sees_after : (s : State) (e : Effect AnyRow) → Sees (sights s) (sights_after s e)
sees_after s e = record { saw = λ x c. c; collected = λ r h. has_right e.collects s.world.collected r h }

module _ {H : Deed → Type 0} where
  -- effects on the world, whatever they are of
  pub effects_sound : (s : State) (e : Effect AnyRow) → IsSound H s → IsReached H s.draws (applied s.world e) → IsFine H s e → IsSound H (record s { world = applied s.world e })
  effects_sound s e sound reached fine =
      let shut_now : List Request = shut s.world.requests e.closes in
      let requests : shut_now ++ e.opens ≡ shut_now = ap (λ (o : List Request). shut_now ++ o) fine.opens ∙ append-nil shut_now in
      record {
        reached = reached;
        lengths = sound.lengths ∙ sym (ap (λ (rs : List Request). length rs) requests ∙ length_shut s.world.requests e.closes);
        told = sound.told;
        presents = λ n c h. present_seen H s.asked s.draws s.history (sights s) (sights_after s e) (sees_after s e) n c.request c.present (fine.presents n c h);
        stages = sound.stages;
        drawn = sound.drawn;
        acknowledged = kept_later s.world.kept e.keeps s.history sound.acknowledged;
        answered = sound.answered;
        seen = sound.seen;
        proper = All-append IsProper e.keeps s.world.kept fine.keeps sound.proper;
        fresh = λ clear. fresh_later s (record s { world = applied s.world e }) refl (λ n c. c) (λ d c. c) (λ x c. c) (sees_after s e).collected (sound.fresh clear);
      }

  pub step_sound : (s : State) (m : Moving) → IsSound H s → IsLawfulRun any_join words s.world (m ∷ []) → DoesIn H s.world m → All (IsGood s.draws) (stored_by m.step) → IsFine H s (effect s m) → IsSound H (doing s m)
  step_sound s m sound lawful hashes stores fine = effects_sound s (effect s m) sound (reached_step (StoresGood s.draws) s.world m sound.reached lawful hashes stores (All-nil (IsGood s.draws))) fine

  -- a first layout is installed where none was applied: calls stay
  pub installing_sound : (s : State) (first : Layout) → IsFirst first → s.world.applied ≡ 0 → IsSound H s → IsSound H (record s { world = installed any_join words s.world first })
  installing_sound s first is_first none sound =
      effects_sound s (installs any_join words s.world first) sound (reached_installing s.world first is_first none sound.reached) (record {
        opens = refl;
        presents = λ n. elim (is_among n (reading.members first)) as (λ b. ArePresent H s.asked s.draws s.history (sights s) n (unwrap_or (cond b (Some (appends layouts (s.world.nodes n) first)) None) (s.world.nodes n)).calls) [ true ↦ sound.presents n | false ↦ sound.presents n ];
        keeps = All-nil IsProper;
      })

  pub fine_still : (s : State) (e : Effect AnyRow) → IsSound H s → ((n : ℕ) → e.nodes n ≡ None) → e.opens ≡ [] → AreProper e.keeps → IsFine H s e
  fine_still s e sound still opens keeps = record {
    opens = opens;
    presents = λ n. subst (λ o. ArePresent H s.asked s.draws s.history (sights s) n (unwrap_or o (s.world.nodes n)).calls) (sym (still n)) (sound.presents n);
    keeps = keeps;
  }

  pub fine_one : (s : State) (e : Effect AnyRow) (n : ℕ) (y : Node AnyRow Layout) → IsSound H s → ((m : ℕ) → e.nodes m ≡ only n y m) → e.opens ≡ [] → AreProper e.keeps → ArePresent H s.asked s.draws s.history (sights s) n y.calls → IsFine H s e
  fine_one s e n y sound one opens keeps are = record {
    opens = opens;
    presents = λ m. subst (λ o. ArePresent H s.asked s.draws s.history (sights s) m (unwrap_or o (s.world.nodes m)).calls) (sym (one m))
        (elim (m == n) as (λ b. (m == n) ≡ b → ArePresent H s.asked s.draws s.history (sights s) m (unwrap_or (cond b (Some y) None) (s.world.nodes m)).calls) [
          | true ↦ (λ t. subst (λ k. ArePresent H s.asked s.draws s.history (sights s) k y.calls) (sym (eqb-true m n t)) are)
          | false ↦ (λ f. sound.presents m)
        ] refl);
    keeps = keeps;
  }

pub fine_cond : {H : Deed → Type 0} (s : State) (b : Bool) (d e : Effect AnyRow) → IsFine H s d → IsFine H s e → IsFine H s (cond b d e)
fine_cond s true d e h k = h
fine_cond s false d e h k = k

module _ {H : Deed → Type 0} where
  module _ (s : State) (e : Effect AnyRow) (sound : IsSound H s) (calm : IsCalm s.world e) where
    calm_both : AllByRecursion (λ (x : Ended AnyRow). IsEnd H s.asked s.draws s.history (sights s) (e.keeps ++ s.world.kept) (e.reads ++ s.world.reads) x.request x.how ×
        WaitsAt s.asked calm.node x.request × ((c : Call AnyRow) → Has (changed e.nodes s.world.nodes calm.node).calls c → c.request ≡ x.request → c.present ≡ resting)) e.ends × AreProper e.keeps
    calm_both = ends_are H s.asked s.draws s.history (sights s) calm.node s.world.kept s.world.reads e.keeps e.reads (s.world.nodes calm.node).calls (changed e.nodes s.world.nodes calm.node).calls e.ends (sound.presents calm.node) calm.ends

    -- a calm step, and the phase that ended in it
    pub calm_fine : IsFine H s e
    calm_fine = record {
      opens = calm.opens;
      presents = λ n c h. present_continues H s.asked s.draws s.history (sights s) n (s.world.nodes n).calls (sound.presents n) c (calm.calls n c h);
      keeps = calm_both.1;
    }

    one_node : (n m q : ℕ) → WaitsAt s.asked n q → WaitsAt s.asked m q → n ≡ m
    one_node n m q w v =
        let some_is : Some w.one ≡ Some v.one = sym w.is_there ∙ v.is_there in
        let one_is : w.one ≡ v.one = cc in
        sym w.node_is ∙ (ap (λ (a : Asked). a.node) one_is ∙ v.node_is)

    abbrev pub IsDoneAt : ℕ → Type 0
    IsDoneAt q = WaitsAt s.asked calm.node q × ((c : Call AnyRow) → Has (changed e.nodes s.world.nodes calm.node).calls c → c.request ≡ q → c.present ≡ resting)

    -- the request whose phase ended rests wherever it is open
    rests_now : (q : ℕ) → IsDoneAt q → (n : ℕ) (c : Call AnyRow) → Has (changed e.nodes s.world.nodes n).calls c → c.request ≡ q → c.present ≡ resting
    rests_now q done n c has is =
        elim (n == calm.node) as (λ b. (n == calm.node) ≡ b → c.present ≡ resting) [
          | true ↦ (λ t. done.1 c (subst (λ m. Has (changed e.nodes s.world.nodes m).calls c) (eqb-true n calm.node t) has) is)
          | false ↦ (λ f. elim (rests_or_waits H s.asked s.draws s.history (sights s) n c.request c.present (calm_fine.presents n c has)) [
            | inl rests ↦ rests
            | inr waits ↦ absurd (eqb-false n calm.node f (one_node n calm.node q (subst (WaitsAt s.asked n) is waits) done.0))
          ])
        ] refl

    abbrev pub IsEnded : Ended AnyRow → Type 0
    IsEnded x = IsEnd H s.asked s.draws s.history (sights_after s e) (e.keeps ++ s.world.kept) (e.reads ++ s.world.reads) x.request x.how ×
        ((n : ℕ) (c : Call AnyRow) → Has (changed e.nodes s.world.nodes n).calls c → c.request ≡ x.request → c.present ≡ resting)

    -- the phases that ended in a calm step, and their requests rest
    pub calm_ends : AllByRecursion IsEnded e.ends
    calm_ends =
        all_weaker _ IsEnded
        (λ x h. (end_seen H s.asked s.draws s.history (sights s) (sights_after s e) (sees_after s e) (e.keeps ++ s.world.kept) (e.reads ++ s.world.reads) x.request x.how h.0, rests_now x.request (h.1, h.2))) e.ends calm_both.0
