-- The acts of a change, one part after the other: they make the change of the world.
use Rattle.std.specs.Prelude.{◌≡◌, ℕ, List, [], ◌∷◌, ◌++◌, length, refl}
use Rattle.std.specs.List.{AllByRecursion}
use Rattle.std.proofs.Common.{ap, sym, subst, ◌∙◌, inl, inr}
use Rattle.crdt_rows.specs.AnyRow.{any_join}
use Rattle.crdt_rows.specs.declared.any_row.AnyRow.{AnyRow}
use Rattle.object_schema.specs.Schema.{words}
use Rattle.layout_roles.specs.declared.layout.Layout.{Layout}
use Rattle.layout_roles.specs.declared.cut.Cut.{Cut}
use Rattle.cluster_machine.specs.declared.applied.Applied.{Applied}
use Rattle.cluster_machine.specs.declared.step.Step.{Step}
use Rattle.cluster_machine.specs.declared.step.Step.TheVariants.{Apply, Deliver, Ack, Sync, SyncAck, Clean}
use Rattle.cluster_machine.specs.declared.step.Refusal.TheVariants.{VersionLimit}
use Rattle.cluster_machine.specs.Layouts.{layouts}
use Rattle.cluster_machine.specs.Run.{next as machine_next}
use Rattle.cluster_machine.specs.Step.{Choice, effects, given, none_given}
use Rattle.cluster_machine.specs.Trio.{trio, stage_trio}
use Rattle.cluster_machine.specs.World.{forget_delivered}
use Rattle.cluster_machine.specs.Worlds.{FitAll}
use Rattle.store_model.specs.Run.{World, Moving, State, drains}
use Rattle.store_model.specs.Acts.{Act, moves, drain, forgets, acted, after_acts, all_messages, ActsFit}
use Rattle.store_model.proofs.Acts.{acts_after, fit_in_parts}
use Rattle.drained_laws.proofs.Weights.{marked_next}
use Rattle.change_model.specs.Steps.{to_one, from_one, gossips, each}
use Rattle.change_laws.specs.Script.{IsOfChange, IsFresh, AreFresh, AreSpelled, Drains, Shows, Spreads, RoundHashes, spread_moves}
use Rattle.change_laws.proofs.Clear.{hashes_parts}
use Rattle.change_laws.proofs.Running.{spread_run}
use Rattle.store_laws.specs.Hashed.{StepsHash, ActsHash}
use Rattle.store_laws.proofs.Hashing.{hashed_part, hashed_rest}
use Rattle.serve_changes.specs.Acts.{steps, shows_acts, spreads_acts, change_acts}
use Rattle.plain_changes.specs.Changed.{Changed, IsSpelled}
use Rattle.plain_changes.proofs.Acted.{IsIdle, idle_run, machine, in_world, all_steps, drain_drains, drain_spelled, drain_hashes, drain_state}

abbrev Spelled : World → List Moving → Type 0
Spelled w ms = AreSpelled Applied Cut any_join words layouts trio stage_trio w ms

abbrev OfChange : List Moving → Type 0
OfChange ms = AllByRecursion (λ (m : Moving). IsOfChange m.step) ms

abbrev pub given_none : Choice Layout Applied Cut
given_none = none_given VersionLimit

-- ---- runs

machine_append : (a b : List Moving) (w : World) → machine w (a ++ b) ≡ machine (machine w a) b
machine_append [] b w = refl
machine_append (m ∷ ms) b w = machine_append ms b (machine_next any_join words layouts trio stage_trio w m)

spelled_append : (a b : List Moving) (w : World) → Spelled w a → Spelled (machine w a) b → Spelled w (a ++ b)
spelled_append [] b w h g = g
spelled_append (m ∷ ms) b w h g = (h.0, spelled_append ms b (machine_next any_join words layouts trio stage_trio w m) h.1 g)

matched_run : (ms : List Moving) (w : World) → length w.messages ≡ length w.marks → length (machine w ms).messages ≡ length (machine w ms).marks
matched_run [] w h = h
matched_run (m ∷ ms) w h = matched_run ms (machine_next any_join words layouts trio stage_trio w m) (marked_next {A = Applied} {C = Cut} w (effects any_join words layouts trio stage_trio w m.step m.choice) h)

fresh_step : (step : Step AnyRow) (w : World) → IsFresh w step → IsOfChange step
fresh_step (Deliver m) w h = tt
fresh_step _ w h = elim h [ ]

fresh_all : (ms : List Moving) (w : World) → AreFresh Applied Cut any_join words layouts trio stage_trio w ms → OfChange ms
fresh_all [] w h = tt
fresh_all (m ∷ ms) w h = (fresh_step m.step w h.0, fresh_all ms (machine_next any_join words layouts trio stage_trio w m) h.1)

gossips_all : (pairs : List (ℕ × ℕ)) → OfChange (gossips given_none pairs)
gossips_all [] = tt
gossips_all (p ∷ ps) = (tt, gossips_all ps)

each_all : (does : ℕ → Step AnyRow) → ((n : ℕ) → IsOfChange (does n)) → (ns : List ℕ) → OfChange (each given_none does ns)
each_all does h [] = tt
each_all does h (n ∷ ns) = (h n, each_all does h ns)

fit_spelled : (ms : List Moving) (w : World) → FitAll any_join words w ms → Spelled w ms
fit_spelled [] w h = tt
fit_spelled (m ∷ ms) w h = (h.0.1, fit_spelled ms (machine_next any_join words layouts trio stage_trio w m) h.1)

-- ---- parts of the acts

-- a state in which the parts may go on
pub record IsCalmState (s : State) : Type 0 where
  pub idle : IsIdle s.world
  pub matched : length s.world.messages ≡ length s.world.marks

calm_after : (s : State) (ms : List Moving) → IsCalmState s → OfChange ms → IsCalmState (in_world s (machine s.world ms))
calm_after s ms h all = record { idle = idle_run ms s.world all h.idle; matched = matched_run ms s.world h.matched }

-- steps of a change, each of which fits
steps_spelled : (ms : List Moving) (s : State) → OfChange ms → ActsFit s (steps ms) → Spelled s.world ms
steps_spelled [] s all fits = tt
steps_spelled (m ∷ ms) s all fits =
    let one : after_acts s (moves m ∷ []) ≡ in_world s (machine s.world (m ∷ [])) = all_steps (m ∷ []) s (all.0, tt) in
    (fits.0.0.1, steps_spelled ms (in_world s (machine s.world (m ∷ []))) all.1 (subst (λ t. ActsFit t (steps ms)) one fits.1))

-- what steps hash the acts hash that take them
steps_hash : (ms : List Moving) (s : State) → OfChange ms → (y : List ℕ) → StepsHash s.world ms y → ActsHash s (steps ms) y
steps_hash [] s all y h = absurd h
steps_hash (m ∷ ms) s all y h =
    let one : after_acts s (moves m ∷ []) ≡ in_world s (machine s.world (m ∷ [])) = all_steps (m ∷ []) s (all.0, tt) in
    elim h [
      | inl this ↦ inl (inl this)
      | inr later ↦ inr (subst (λ t. ActsHash t (steps ms) y) (sym one) (steps_hash ms (in_world s (machine s.world (m ∷ []))) all.1 y later))
    ]

-- a drain in such a state
pub record IsDrain (s t : State) : Type 0 where
  pub state : t ≡ in_world s t.world
  pub calm : IsCalmState t
  pub drains : Drains Applied Cut any_join words layouts trio stage_trio s.world t.world
  pub spelled : Spelled s.world drains.deliveries
  pub hashed : (y : List ℕ) → StepsHash s.world drains.deliveries y → StepsHash s.world (acted s (drain all_messages)).moves y

drain_so : (s : State) → IsCalmState s → FitAll any_join words s.world (acted s (drain all_messages)).moves → IsDrain s (acted s (drain all_messages)).state
drain_so s h fits =
    let d = drain_drains s h.idle h.matched fits in
    let all = fresh_all d.deliveries s.world d.fresh_ones in
    record {
      state = drain_state s h.idle h.matched fits;
      calm = record {
        idle = subst IsIdle (sym d.leads) (idle_run d.deliveries s.world all h.idle);
        matched = subst (λ (w : World). length w.messages ≡ length w.marks) (sym d.leads) (matched_run d.deliveries s.world h.matched);
      };
      drains = d;
      spelled = drain_spelled s h.idle h.matched fits (fit_spelled (drains all_messages s).moves s.world fits);
      hashed = drain_hashes s h.idle h.matched fits;
    }

-- views are shown
pub record IsShown (pairs : List (ℕ × ℕ)) (s t : State) : Type 0 where
  pub state : t ≡ in_world s t.world
  pub calm : IsCalmState t
  pub drains : Shows Applied Cut any_join words layouts trio stage_trio given_none pairs s.world t.world
  pub spelled : Spelled s.world (gossips given_none pairs ++ drains.deliveries)

shown_so : (pairs : List (ℕ × ℕ)) (s : State) → IsCalmState s → ActsFit s (shows_acts pairs) → IsShown pairs s (after_acts s (shows_acts pairs))
shown_so pairs s h fits =
    let g = gossips given_none pairs in
    let all = gossips_all pairs in
    let u = in_world s (machine s.world g) in
    let parts = fit_in_parts s (steps g) (drain all_messages ∷ []) fits in
    let same : after_acts s (steps g) ≡ u = all_steps g s all in
    let d = drain_so u (calm_after s g h all) (subst (λ x. FitAll any_join words x.world (acted x (drain all_messages)).moves) same parts.1.0) in
    subst (IsShown pairs s) (sym (acts_after s (steps g) (drain all_messages ∷ []) ∙ ap (λ x. (acted x (drain all_messages)).state) same))
    (record { state = d.state; calm = d.calm; drains = d.drains; spelled = spelled_append g d.drains.deliveries s.world (steps_spelled g s all parts.0) d.spelled })

assoc : (a b c : List Moving) → (a ++ b) ++ c ≡ a ++ (b ++ c)
assoc [] b c = refl
assoc (x ∷ a) b c = ap (λ ys. x ∷ ys) (assoc a b c)

by_parts : (a b c : List Moving) (w v : World) → machine w (a ++ b) ≡ v → Spelled w (a ++ b) → Spelled v c → Spelled w (a ++ (b ++ c))
by_parts a b c w v e h g = subst (Spelled w) (assoc a b c) (spelled_append (a ++ b) c w h (subst (λ u. Spelled u c) (sym e) g))

then_spelled : (a b : List Moving) (w v : World) → machine w a ≡ v → Spelled w a → Spelled v b → Spelled w (a ++ b)
then_spelled a b w v e h g = spelled_append a b w h (subst (λ u. Spelled u b) (sym e) g)

-- the state is the same but for its world
same_through : (s x y : State) → x ≡ in_world s x.world → y ≡ in_world x y.world → y ≡ in_world s y.world
same_through s x y e f = f ∙ ap (λ (z : State). in_world z y.world) e

-- it spreads
pub record IsSpread (m : ℕ) (part : List ℕ) (s t : State) : Type 0 where
  pub state : t ≡ in_world s t.world
  pub calm : IsCalmState t
  pub spreads : Spreads Applied Cut any_join words layouts trio stage_trio given_none m part s.world t.world
  pub spelled : Spelled s.world (spread_moves Applied Cut any_join words layouts trio stage_trio given_none m part s.world t.world spreads)

spread_so : (m : ℕ) (part : List ℕ) (s : State) → IsCalmState s → ActsFit s (spreads_acts m part) → IsSpread m part s (after_acts s (spreads_acts m part))
spread_so m part s h fits =
    let a = shows_acts (to_one m part) in
    let b = shows_acts (from_one m part) in
    let parts = fit_in_parts s a b fits in
    let one = shown_so (to_one m part) s h parts.0 in
    let t1 = after_acts s a in
    let two = shown_so (from_one m part) t1 one.calm parts.1 in
    let t2 = after_acts t1 b in
    let g = gossips given_none (to_one m part) in
    let k = gossips given_none (from_one m part) in
    let whole : machine s.world (g ++ one.drains.deliveries) ≡ t1.world = machine_append g one.drains.deliveries s.world ∙ sym one.drains.leads in
    subst (IsSpread m part s) (sym (acts_after s a b))
    (record {
      state = two.state ∙ ap (λ (x : State). in_world x t2.world) one.state;
      calm = two.calm;
      spreads = record { between = t1.world; first = one.drains; second = two.drains };
      spelled = by_parts g one.drains.deliveries (k ++ two.drains.deliveries) s.world t1.world whole one.spelled two.spelled;
    })

-- ---- the change

-- what the acts of a change come to
pub record IsMade (new : Layout) (shown : Applied) (m : ℕ) (part : List ℕ) (s t : State) : Type 0 where
  pub state : t ≡ in_world s t.world
  pub changed : Changed given_none new shown m part s.world t.world
  pub spelled : IsSpelled given_none new shown m part s.world t.world changed
  pub hashed : (y : List ℕ) → RoundHashes Applied Cut any_join words layouts trio stage_trio given_none new shown m part s.world t.world changed y → ActsHash s (change_acts (given new shown) m part) y

module _ (new : Layout) (shown : Applied) (m : ℕ) (part : List ℕ) (s : State) (h : IsCalmState s) (fits : ActsFit s (change_acts (given new shown) m part)) where
  abbrev applies : Moving
  applies = record { step = Apply m; choice = given new shown }

  abbrev acks : List Moving
  acks = each given_none Ack part

  abbrev syncs : List Moving
  syncs = each given_none Sync part

  abbrev sync_acks : List Moving
  sync_acks = each given_none SyncAck part

  abbrev cleans : List Moving
  cleans = each given_none Clean part

  abbrev tell : List Act
  tell = shows_acts (from_one m part)

  abbrev spread : List Act
  spread = spreads_acts m part

  abbrev rest8 : List Act
  rest8 = steps cleans ++ forgets ∷ []

  abbrev rest7 : List Act
  rest7 = spread ++ rest8

  abbrev rest6 : List Act
  rest6 = steps sync_acks ++ rest7

  abbrev rest5 : List Act
  rest5 = spread ++ rest6

  abbrev rest3 : List Act
  rest3 = steps syncs ++ (drain all_messages ∷ rest5)

  abbrev rest2 : List Act
  rest2 = spread ++ rest3

  abbrev rest1 : List Act
  rest1 = steps acks ++ rest2

  e0 : after_acts s (moves applies ∷ []) ≡ in_world s (machine s.world (applies ∷ []))
  e0 = all_steps (applies ∷ []) s (tt, tt)

  abbrev t1 : State
  t1 = in_world s (machine s.world (applies ∷ []))

  calm1 : IsCalmState t1
  calm1 = calm_after s (applies ∷ []) h (tt, tt)

  f1 : ActsFit t1 (tell ++ rest1)
  f1 = subst (λ x. ActsFit x (tell ++ rest1)) e0 fits.1

  p1 : ActsFit t1 tell × ActsFit (after_acts t1 tell) rest1
  p1 = fit_in_parts t1 tell rest1 f1

  abbrev t2 : State
  t2 = after_acts t1 tell

  told : IsShown (from_one m part) t1 t2
  told = shown_so (from_one m part) t1 calm1 p1.0

  p2 : ActsFit t2 (steps acks) × ActsFit (after_acts t2 (steps acks)) rest2
  p2 = fit_in_parts t2 (steps acks) rest2 p1.1

  abbrev t3 : State
  t3 = in_world t2 (machine t2.world acks)

  all_acks : OfChange acks
  all_acks = each_all Ack (λ n. tt) part

  e2 : after_acts t2 (steps acks) ≡ t3
  e2 = all_steps acks t2 all_acks

  p3 : ActsFit t3 spread × ActsFit (after_acts t3 spread) rest3
  p3 = fit_in_parts t3 spread rest3 (subst (λ x. ActsFit x rest2) e2 p2.1)

  abbrev t4 : State
  t4 = after_acts t3 spread

  acked : IsSpread m part t3 t4
  acked = spread_so m part t3 (calm_after t2 acks told.calm all_acks) p3.0

  p4 : ActsFit t4 (steps syncs) × ActsFit (after_acts t4 (steps syncs)) (drain all_messages ∷ rest5)
  p4 = fit_in_parts t4 (steps syncs) (drain all_messages ∷ rest5) p3.1

  abbrev t5 : State
  t5 = in_world t4 (machine t4.world syncs)

  all_syncs : OfChange syncs
  all_syncs = each_all Sync (λ n. tt) part

  e4 : after_acts t4 (steps syncs) ≡ t5
  e4 = all_steps syncs t4 all_syncs

  f5 : ActsFit t5 (drain all_messages ∷ rest5)
  f5 = subst (λ x. ActsFit x (drain all_messages ∷ rest5)) e4 p4.1

  abbrev t6 : State
  t6 = (acted t5 (drain all_messages)).state

  moved : IsDrain t5 t6
  moved = drain_so t5 (calm_after t4 syncs acked.calm all_syncs) f5.0

  p6 : ActsFit t6 spread × ActsFit (after_acts t6 spread) rest6
  p6 = fit_in_parts t6 spread rest6 f5.1

  abbrev t7 : State
  t7 = after_acts t6 spread

  synced : IsSpread m part t6 t7
  synced = spread_so m part t6 moved.calm p6.0

  p7 : ActsFit t7 (steps sync_acks) × ActsFit (after_acts t7 (steps sync_acks)) rest7
  p7 = fit_in_parts t7 (steps sync_acks) rest7 p6.1

  abbrev t8 : State
  t8 = in_world t7 (machine t7.world sync_acks)

  all_sync_acks : OfChange sync_acks
  all_sync_acks = each_all SyncAck (λ n. tt) part

  e7 : after_acts t7 (steps sync_acks) ≡ t8
  e7 = all_steps sync_acks t7 all_sync_acks

  p8 : ActsFit t8 spread × ActsFit (after_acts t8 spread) rest8
  p8 = fit_in_parts t8 spread rest8 (subst (λ x. ActsFit x rest7) e7 p7.1)

  abbrev t9 : State
  t9 = after_acts t8 spread

  known : IsSpread m part t8 t9
  known = spread_so m part t8 (calm_after t7 sync_acks synced.calm all_sync_acks) p8.0

  p9 : ActsFit t9 (steps cleans) × ActsFit (after_acts t9 (steps cleans)) (forgets ∷ [])
  p9 = fit_in_parts t9 (steps cleans) (forgets ∷ []) p8.1

  all_cleans : OfChange cleans
  all_cleans = each_all Clean (λ n. tt) part

  abbrev t10 : State
  t10 = in_world t9 (machine t9.world cleans)

  e9 : after_acts t9 (steps cleans) ≡ t10
  e9 = all_steps cleans t9 all_cleans

  abbrev end : State
  end = in_world t10 (forget_delivered t10.world)

  -- the acts lead there
  ends_so : after_acts s (change_acts (given new shown) m part) ≡ end
  ends_so =
      ap (λ x. after_acts x (tell ++ rest1)) e0
      ∙ (acts_after t1 tell rest1
      ∙ (acts_after t2 (steps acks) rest2
      ∙ (ap (λ x. after_acts x rest2) e2
      ∙ (acts_after t3 spread rest3
      ∙ (acts_after t4 (steps syncs) (drain all_messages ∷ rest5)
      ∙ (ap (λ x. after_acts x (drain all_messages ∷ rest5)) e4
      ∙ (acts_after t6 spread rest6
      ∙ (acts_after t7 (steps sync_acks) rest7
      ∙ (ap (λ x. after_acts x rest7) e7
      ∙ (acts_after t8 spread rest8
      ∙ (acts_after t9 (steps cleans) (forgets ∷ [])
      ∙ ap (λ x. after_acts x (forgets ∷ [])) e9)))))))))))

  -- what the rounds hash the acts hash
  rounds_hash : (y : List ℕ) → StepsHash t4.world (syncs ++ moved.drains.deliveries) y → ActsHash s (change_acts (given new shown) m part) y
  rounds_hash y h =
      let of_rounds : ActsHash t4 rest3 y = elim (hashes_parts Applied Cut any_join words layouts trio stage_trio t4.world syncs moved.drains.deliveries y h) [
        | inl first ↦ hashed_part t4 (steps syncs) (drain all_messages ∷ rest5) y (steps_hash syncs t4 all_syncs y first)
        | inr later ↦ hashed_rest t4 (steps syncs) (drain all_messages ∷ rest5) y (subst (λ x. ActsHash x (drain all_messages ∷ rest5) y) (sym e4) (inl (moved.hashed y later)))
      ] in
      let one = hashed_rest t2 (steps acks) rest2 y (subst (λ x. ActsHash x rest2 y) (sym e2) (hashed_rest t3 spread rest3 y of_rounds)) in
      inr (subst (λ x. ActsHash x (tell ++ rest1) y) (sym e0) (hashed_rest t1 tell rest1 y one))

  made_end : IsMade new shown m part s end
  made_end =
      let is : Changed given_none new shown m part s.world end.world = record {
        told = t2.world;
        tells = told.drains;
        acked = t4.world;
        acks = acked.spreads;
        moved = t6.world;
        moves = moved.drains;
        synced = t7.world;
        syncs = synced.spreads;
        known = t9.world;
        knows = known.spreads;
        leads = refl;
      } in
      let to4 : t4 ≡ in_world s t4.world = same_through s t2 t4 told.state acked.state in
      let to7 : t7 ≡ in_world s t7.world = same_through s t6 t7 (same_through s t4 t6 to4 moved.state) synced.state in
      let to9 : t9 ≡ in_world s t9.world = same_through s t7 t9 to7 known.state in
      let run_of : (w v : World) (sp : Spreads Applied Cut any_join words layouts trio stage_trio given_none m part w v) → machine w (spread_moves Applied Cut any_join words layouts trio stage_trio given_none m part w v sp) ≡ v =
      λ w v sp. spread_run Applied Cut any_join words layouts trio stage_trio given_none m part w v sp in
      let last = steps_spelled cleans t9 all_cleans p9.0 in
      let five = then_spelled _ cleans t8.world t9.world (run_of t8.world t9.world known.spreads) known.spelled last in
      let four = then_spelled sync_acks _ t7.world t8.world refl (steps_spelled sync_acks t7 all_sync_acks p7.0) five in
      let three = then_spelled _ _ t6.world t7.world (run_of t6.world t7.world synced.spreads) synced.spelled four in
      let two = then_spelled moved.drains.deliveries _ t5.world t6.world (sym moved.drains.leads) moved.spelled three in
      let one = then_spelled syncs _ t4.world t5.world refl (steps_spelled syncs t4 all_syncs p4.0) two in
      let spread_first = then_spelled _ _ t3.world t4.world (run_of t3.world t4.world acked.spreads) acked.spelled one in
      let ack_first = then_spelled acks _ t2.world t3.world refl (steps_spelled acks t2 all_acks p2.0) spread_first in
      let g = gossips given_none (from_one m part) in
      let tell_first = by_parts g told.drains.deliveries _ t1.world t2.world (machine_append g told.drains.deliveries t1.world ∙ sym told.drains.leads) told.spelled ack_first in
      record { state = ap (λ (x : State). in_world x end.world) to9; changed = is; spelled = (fits.0.0.1, tell_first); hashed = rounds_hash }

  pub made_so : IsMade new shown m part s (after_acts s (change_acts (given new shown) m part))
  made_so = subst (IsMade new shown m part s) (sym ends_so) made_end
