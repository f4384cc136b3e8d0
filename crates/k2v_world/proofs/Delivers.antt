-- A delivery: a step of the world, and then what the request does whose phase ended.
use Rattle.std.proofs.Common.{◌≡◌, ℕ, Some, List, [], ◌∷◌, ◌++◌, sym, ap, ◌∙◌, subst}
use Rattle.std.specs.Prelude.{map, option_map, slice_get}
use Rattle.cluster_machine.specs.declared.step.Step.TheVariants.{Deliver}
use Rattle.wire_messages.specs.declared.phase.PhaseEnd.{PhaseEnd}
use Rattle.cluster_machine.specs.Node.{Ended}
use Rattle.cluster_machine.specs.World.{numbered}
use Rattle.cluster_machine.specs.Worlds.{HaveRoom}
use Rattle.k2v_rows.specs.declared.k2v_row.K2vRow.{K2vRow}
use Rattle.k2v_rows.specs.Row.{row_join}
use Rattle.k2v_schema.specs.Schema.{words}
use Rattle.k2v_model.specs.declared.line.ItemRefusal.TheVariants.{Cluster}
use Rattle.k2v_model.specs.Run.{State, Outcome, plainly, effect, doing, cluster_lines, follow, goes_on, delivers}
use Rattle.k2v_text.specs.declared.event.ItemTold.{ItemTold}
use Rattle.world_core.specs.declared.report.Report.{Report}
use Rattle.world_core.specs.Stands.{Steps, Overflows as WorldOverflows, ended}
use Rattle.k2v_world.specs.declared.world.ItemWorld.{ItemWorld}
use Rattle.k2v_world.specs.Stands.{IsItems, HasItems, Does, Plays, Overflows}

module _ (old mid : ItemWorld) (m : ℕ) (report : Report K2vRow) (steps : Steps row_join words old.world mid.world report (Deliver m))
    (buckets : mid.buckets ≡ old.buckets) (requests : mid.requests ≡ old.requests) where
  is_next : (s : State) → IsItems old s → IsItems mid (doing s (plainly (Deliver m)))
  is_next s d = record { world = (steps s.world d.world).does.stands; buckets = buckets ∙ d.buckets; requests = requests ∙ d.requests }

  pub has_next : HasItems old → HasItems mid
  has_next h = (doing h.0 (plainly (Deliver m)), is_next h.0 h.1)

  pub delivered_plays : (new : ItemWorld) (more told : ItemTold) → Plays mid new more (λ s. goes_on s (map ended report.ends)) →
      told ≡ record { refused = option_map Cluster report.refused; words = report.words; lines = cluster_lines report.lines ++ more.lines } → Plays old new told (λ s. delivers s m)
  delivered_plays new more told plays says s d =
      let here : State = doing s (plainly (Deliver m)) in
      let did = (steps s.world d.world).does in
      let after : Does new more here (goes_on here (effect s (plainly (Deliver m))).ends) = subst (λ (es : List (Ended K2vRow)). Does new more here (goes_on here es)) did.tells.ends (plays here (is_next s d)) in
      record {
        stands = record { world = after.stands.world; buckets = after.stands.buckets; requests = after.stands.requests };
        tells = record {
          refused = ap (λ (t : ItemTold). t.refused) says ∙ ap (option_map Cluster) did.tells.refused;
          words = ap (λ (t : ItemTold). t.words) says ∙ did.tells.words;
          lines = ap (λ (t : ItemTold). t.lines) says ∙ ap (λ ls. cluster_lines ls ++ more.lines) did.tells.lines ∙ ap (λ ls. cluster_lines (effect s (plainly (Deliver m))).tells ++ ls) after.tells.lines;
        };
        fits = ((did.stands.fits, did.spelled), after.fits);
      }

  -- what comes after the step has no room
  pub next_overflows : Overflows mid (λ s. goes_on s (map ended report.ends)) → Overflows old (λ s. delivers s m)
  next_overflows full s d fits =
      let here : State = doing s (plainly (Deliver m)) in
      let did = (steps s.world d.world).does in
      full here (is_next s d) (subst (λ (es : List (Ended K2vRow)). HaveRoom row_join words here.world (goes_on here es).moves) (sym did.tells.ends) fits.1)

-- the step itself has none
pub step_overflows : (old : ItemWorld) (m : ℕ) → WorldOverflows row_join words old.world (Deliver m) → Overflows old (λ s. delivers s m)
step_overflows old m full s d fits = (full s.world d.world).lacks fits.0

-- the request goes on whose phase ended first
goes_first : (ends : List (ℕ × PhaseEnd K2vRow)) (e : ℕ × PhaseEnd K2vRow) → slice_get ends 0 ≡ Some e → (s : State) → goes_on s (map ended ends) ≡ follow s e.0 (numbered s.requests e.0) e.1
goes_first [] e h s = absurd (cc)
goes_first (x ∷ xs) e h s = let same : x ≡ e = cc in ap (λ (y : ℕ × PhaseEnd K2vRow). follow s y.0 (numbered s.requests y.0) y.1) same

module _ (old : ItemWorld) (ends : List (ℕ × PhaseEnd K2vRow)) (e : ℕ × PhaseEnd K2vRow) (first : slice_get ends 0 ≡ Some e) where
  pub goes_overflows : Overflows old (λ s. follow s e.0 (numbered s.requests e.0) e.1) → Overflows old (λ s. goes_on s (map ended ends))
  goes_overflows lacks s d fits = lacks s d (subst (λ (o : Outcome). HaveRoom row_join words s.world o.moves) (goes_first ends e first s) fits)
