-- The acts that lead to a moment of a run are lawful, and fit, and hash no more.
use Rattle.std.proofs.Common.{◌≤◌, ℕ, zero, suc, Some, None, List, [], ◌∷◌, ◌++◌, inl, inr, sym, subst, arith}
use Rattle.crdt_rows.specs.AnyRow.{any_join}
use Rattle.object_schema.specs.Schema.{words}
use Rattle.cluster_machine.specs.World.{undelivered}
use Rattle.table_schema.specs.Words.{Words}
use Rattle.cluster_machine.specs.Worlds.{Model, Doing, FitAll, next as world_next, run as world_run}
use Rattle.store_model.specs.Run.{World, State, Outcome, silent, delivers, then_drains, drains}
use Rattle.store_model.specs.Acts.{Act, drain, acted, after_acts, AreLawfulActs, ActsFit}
use Rattle.store_model.specs.Moments.{IsMoment, between, within}
use Rattle.store_model.proofs.Leads.{delivers_lead}
use Rattle.store_model.proofs.Acts.{lawful_in_parts, fit_in_parts}
use Rattle.store_laws.proofs.Acts.{fit_parts}
use Rattle.store_laws.specs.Hashed.{StepsHash, ActsHash}
use Rattle.store_laws.proofs.Hashing.{hashed_part, hashed_rest, hashed_parts, steps_part, steps_rest, steps_parts}

lawful_last : (s : State) (before after : List Act) (a : Act) → AreLawfulActs s (before ++ after) → AreLawfulActs (after_acts s before) (a ∷ []) → AreLawfulActs s (before ++ a ∷ [])
lawful_last s [] after a h last = last
lawful_last s (b ∷ before) after a h last = (h.0, lawful_last (acted s b).state before after a h.1 last)

fit_last : (s : State) (before : List Act) (a : Act) (after : List Act) (last : Act) → ActsFit s (before ++ a ∷ after) → (FitAll any_join words (after_acts s before).world (acted (after_acts s before) a).moves → ActsFit (after_acts s before) (last ∷ [])) → ActsFit s (before ++ last ∷ [])
fit_last s [] a after last h f = f h.0
fit_last s (b ∷ before) a after last h f = (h.0, fit_last (acted s b).state before a after last h.1 f)

fit_both : {R : Type 0} (join : R → R → R) (ws : Words R) (w : Model R) (first rest : List (Doing R)) → FitAll join ws w first → FitAll join ws (world_run join ws w first) rest → FitAll join ws w (first ++ rest)
fit_both join ws w [] rest a b = b
fit_both join ws w (m ∷ first) rest a b = (a.0, fit_both join ws (world_next join ws w m) first rest a.1 b)

-- some of a drain's deliveries fit where all do
fewer_fit : (k n : ℕ) (s : State) → k ≤ n → FitAll any_join words s.world (drains n s).moves → FitAll any_join words s.world (drains k s).moves
fewer_fit zero n s low fits = tt
fewer_fit (suc k) zero s low fits = absurd (omega (arith, low))
fewer_fit (suc k) (suc n) s low fits =
    elim (undelivered s.world) as (λ o.
    FitAll any_join words s.world (elim o as (λ o. Outcome) [ None ↦ silent s | Some m ↦ let o = delivers s m in then_drains o (drains n o.state) ]).moves →
    FitAll any_join words s.world (elim o as (λ o. Outcome) [ None ↦ silent s | Some m ↦ let o = delivers s m in then_drains o (drains k o.state) ]).moves) [
      | None ↦ λ fits. fits
      | Some m ↦ λ fits.
          let first : Outcome = delivers s m in
          let parts = fit_parts any_join words s.world first.moves (drains n first.state).moves fits in
          let leads = delivers_lead s m in
          fit_both any_join words s.world first.moves (drains k first.state).moves parts.0
          (subst (λ (w : World). FitAll any_join words w (drains k first.state).moves) (sym leads) (fewer_fit k n first.state (omega (arith, low)) (subst (λ (w : World). FitAll any_join words w (drains n first.state).moves) leads parts.1)))
    ] fits

pub moment_runs : (s : State) (acts moment : List Act) → AreLawfulActs s acts → ActsFit s acts → IsMoment acts moment → AreLawfulActs s moment × ActsFit s moment
moment_runs s acts moment lawful fit (between before after is) = ((lawful_in_parts s before after (subst (AreLawfulActs s) is lawful)).0, (fit_in_parts s before after (subst (ActsFit s) is fit)).0)
moment_runs s acts moment lawful fit (within before after n k is low) =
    let then : State = after_acts s before in (
      lawful_last s before (drain n ∷ after) (drain k) (subst (AreLawfulActs s) is lawful) (tt, tt),
      fit_last s before (drain n) after (drain k) (subst (ActsFit s) is fit) (λ fits. (fewer_fit k n then low fits, tt)),
    )

-- some of a drain's deliveries hash no more than all
fewer_hashed : (k n : ℕ) (s : State) → k ≤ n → (x : List ℕ) → StepsHash s.world (drains k s).moves x → StepsHash s.world (drains n s).moves x
fewer_hashed zero n s low x h = absurd h
fewer_hashed (suc k) zero s low x h = absurd (omega (arith, low))
fewer_hashed (suc k) (suc n) s low x h =
    elim (undelivered s.world) as (λ o.
    StepsHash s.world (elim o as (λ o. Outcome) [ None ↦ silent s | Some m ↦ let o = delivers s m in then_drains o (drains k o.state) ]).moves x →
    StepsHash s.world (elim o as (λ o. Outcome) [ None ↦ silent s | Some m ↦ let o = delivers s m in then_drains o (drains n o.state) ]).moves x) [
      | None ↦ λ h. h
      | Some m ↦ λ h.
          let first : Outcome = delivers s m in
          let leads = delivers_lead s m in
          elim (steps_parts s.world first.moves (drains k first.state).moves x h) [
            | inl early ↦ steps_part s.world first.moves (drains n first.state).moves x early
            | inr late ↦ steps_rest s.world first.moves (drains n first.state).moves x
                (subst (λ (w : World). StepsHash w (drains n first.state).moves x) (sym leads)
                (fewer_hashed k n first.state (omega (arith, low)) x (subst (λ (w : World). StepsHash w (drains k first.state).moves x) leads late)))
          ]
    ] h

pub moment_hashes : (s : State) (acts moment : List Act) → IsMoment acts moment → (x : List ℕ) → ActsHash s moment x → ActsHash s acts x
moment_hashes s acts moment (between before after is) x h = subst (λ as'. ActsHash s as' x) (sym is) (hashed_part s before after x h)
moment_hashes s acts moment (within before after n k is low) x h =
    let then : State = after_acts s before in
    subst (λ as'. ActsHash s as' x) (sym is) (elim (hashed_parts s before (drain k ∷ []) x h) [
      | inl early ↦ hashed_part s before (drain n ∷ after) x early
      | inr late ↦ hashed_rest s before (drain n ∷ after) x (inl (fewer_hashed k n then low x (elim late [ inl some ↦ some | inr none ↦ absurd none ])))
    ])
