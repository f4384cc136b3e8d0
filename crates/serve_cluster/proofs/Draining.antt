-- A drain in parts.
use Rattle.std.proofs.Common.{◌≡◌, ◌<◌, ◌^◌, ◌+◌, ℕ, zero, suc, Option, Some, None, refl, sym, ap, ◌∙◌, subst, append_assoc, arith}
use Rattle.crdt_rows.specs.declared.version.Version.{Version}
use Rattle.crdt_rows.specs.AnyRow.{any_join}
use Rattle.object_schema.specs.Schema.{words}
use Rattle.cluster_machine.specs.World.{undelivered}
use Rattle.cluster_machine.specs.Worlds.{FitAll, HaveRoom}
use Rattle.store_model.specs.Run.{State, Outcome, silent, delivers, then_drains, drains}
use Rattle.store_model.specs.Acts.{drain, acted, all_messages}
use Rattle.store_model.specs.Turns.{FitsOutcome}
use Rattle.store_model.proofs.Drains.{drains_quietly, drains_empty, drains_one, drains_none}
use Rattle.store_model.proofs.Leads.{Leads, drains_lead}
use Rattle.s3_world.proofs.Parts.{fit_more, room_first, room_rest, all_first, all_rest}

-- so many deliveries, and then so many more
abbrev InParts : ℕ → ℕ → State → Type 0
InParts m n s = drains (m + n) s ≡ then_drains (drains m s) (drains n (drains m s).state)

three_parts : (a b c : Outcome) → then_drains a (then_drains b c) ≡ then_drains (then_drains a b) c
three_parts a b c = λ i. record (then_drains (then_drains a b) c) {
  moves = sym (append_assoc a.moves b.moves c.moves) i;
  new_versions = sym (append_assoc a.new_versions b.new_versions c.new_versions) i;
  lines = sym (append_assoc a.lines b.lines c.lines) i;
}

parts_at : (m n : ℕ) (s : State) (o : Option ℕ) → undelivered s.world ≡ o → ((t : State) → InParts m n t) → InParts (suc m) n s
parts_at m n s None e parts =
    drains_none (suc m + n) s e ∙ sym (ap (λ (x : Outcome). then_drains x (drains n x.state)) (drains_none (suc m) s e) ∙ ap (then_drains (silent s)) (drains_none n s e))
parts_at m n s (Some i) e parts =
    let o : Outcome = delivers s i in
    let more : suc m + n ≡ suc (m + n) = omega arith in
    ap (λ k. drains k s) more
    ∙ (drains_one (m + n) i s e ∙ (ap (then_drains o) (parts o.state) ∙ (three_parts o (drains m o.state) (drains n (drains m o.state).state) ∙ sym (ap (λ (x : Outcome). then_drains x (drains n x.state)) (drains_one m i s e)))))

pub drains_parts : (m n : ℕ) (s : State) → InParts m n s
drains_parts zero n s = ap (λ k. drains k s) (omega arith) ∙ λ i. record (drains n s) { refused = drains_quietly n s i; words = drains_empty n s i }
drains_parts (suc m) n s = parts_at m n s (undelivered s.world) refl (drains_parts m n)

-- ---- what fits

pub fits_parts : (m n : ℕ) (s : State) → FitAll any_join words s.world (drains m s).moves → FitAll any_join words (drains m s).state.world (drains n (drains m s).state).moves → FitAll any_join words s.world (drains (m + n) s).moves
fits_parts m n s a b =
    let t : State = (drains m s).state in
    let rest = subst (λ w. FitAll any_join words w (drains n t).moves) (sym (drains_lead m s)) b in
    subst (λ (o : Outcome). FitAll any_join words s.world o.moves) (sym (drains_parts m n s)) (fit_more s.world (drains m s).moves (drains n t).moves a rest)

fits_first : (s : State) (a b : Outcome) → FitsOutcome s (then_drains a b) → FitsOutcome s a
fits_first s a b h = (room_first s.world a.moves b.moves h.0, all_first (λ (v : Version). v.ts < 2 ^ 64) a.new_versions b.new_versions h.1)

fits_second : (s : State) (a b : Outcome) → Leads s a → FitsOutcome s (then_drains a b) → FitsOutcome a.state b
fits_second s a b leads h =
    (subst (λ w. HaveRoom any_join words w b.moves) leads (room_rest s.world a.moves b.moves h.0), all_rest (λ (v : Version). v.ts < 2 ^ 64) a.new_versions b.new_versions h.1)

-- a delivery among those of a drain has room
pub fits_among : (m n rest : ℕ) (s : State) → m + (n + rest) ≡ all_messages → FitsOutcome s (acted s (drain all_messages)) → FitsOutcome (drains m s).state (drains n (drains m s).state)
fits_among m n rest s all h =
    let t : State = (drains m s).state in
    let whole : FitsOutcome s (then_drains (drains m s) (drains (n + rest) t)) = subst (λ (o : Outcome). FitsOutcome s o) (ap (λ k. drains k s) (sym all) ∙ drains_parts m (n + rest) s) h in
    let late : FitsOutcome t (drains (n + rest) t) = fits_second s (drains m s) (drains (n + rest) t) (drains_lead m s) whole in
    fits_first t (drains n t) (drains rest (drains n t).state) (subst (λ (o : Outcome). FitsOutcome t o) (drains_parts n rest t) late)
