-- What holds of a world that lawful steps lead to.
use Rattle.std.specs.Prelude.{◌≡◌, ◌≤◌, ◌+◌, ℕ, List, [], ◌∷◌, ◌++◌, length, map, take, refl}
use Rattle.std.proofs.lemmas.List.{append-nil}
use Rattle.std.proofs.Common.{inl, inr, ap, sym, subst, ◌∙◌, arith}
use Rattle.std.specs.List.{All, Contains}
use Rattle.std.proofs.lemmas.List.Elements.{All-nil, All-push, All-append, All-weaker}
use Rattle.crdt_core.proofs.Each.{all_weaker}
use Rattle.layout_roles.specs.declared.layout.Layout.{Layout}
use Rattle.crdt_rows.specs.declared.any_row.AnyRow.{AnyRow}
use Rattle.crdt_rows.specs.AnyRow.{any_join}
use Rattle.object_schema.specs.Schema.{words}
use Rattle.cluster_machine.specs.declared.step.Step.{Step}
use Rattle.cluster_machine.specs.declared.step.Step.TheVariants.{Deliver}
use Rattle.cluster_machine.specs.Node.{Reading, Ended}
use Rattle.cluster_machine.specs.World.{Sent, Request, empty, forgot, forget_delivered}
use Rattle.cluster_machine.specs.Choices.{IsFirst}
use Rattle.cluster_machine.specs.Kept.{KeptReads}
use Rattle.cluster_machine.specs.Keeping.{AreDifferent}
use Rattle.machine_origins.specs.Origins.{ComesFrom, Gave, stored_by, stored_in}
use Rattle.machine_origins.proofs.ByOrigin.{stored_have, gave_by_origin}
use Rattle.table_model.specs.Rows.{AllProper}
use Rattle.cluster_machine.specs.Worlds.{IsLawfulRun, IsLawfulStart, does, next, run, start, installs, installed, IsUsual, ShowsGreatest}
use Rattle.machine_collects.specs.Prompt.{EndInTime, moments_after}
use Rattle.store_collects.specs.Prompt.{IsPromptMove, ArePromptMoves}
use Rattle.store_collects.proofs.Machine.{moments_then}
use Rattle.world_reads.proofs.Installed.{applied_more}
use Rattle.store_model.specs.Run.{World, Moving, Draw}
use Rattle.store_laws.specs.Promised.{UsesGreatest}
use Rattle.store_laws.proofs.Every.{FromWorld, EveryWorld, run_more, lawful_more}
use Rattle.store_laws.proofs.Alike.{IsAlike, StepsAlike, keep_forgot, effects_alike, step_alike}
use Rattle.store_laws.proofs.Good.{IsGood, more_good, good_inherited}
use Rattle.store_laws.proofs.Prompt.{moments_more, prompt_more}
use Rattle.store_laws.proofs.Sound.{ArePromptSteps, IsReached, IsReachedBy}
use Rattle.cluster_machine.specs.Hashes.{NoClash}
use Rattle.std.specs.Prelude.{◌⊎◌}
use Rattle.store_laws.proofs.Hashing.{DoesIn, done_more}
use Rattle.machine_origins.specs.Windows.{GaveWindow}
use Rattle.store_laws.proofs.Deeds.{Deed, hashes, collects, comes, IsOfAny, IsPromptIn, moments_in, IsCollect, OneDoes, StepsDo, refused_other}

-- each of these steps is so
abbrev AreSo : (Step AnyRow → Type 0) → List Moving → Type 0
AreSo IsSo moves = All (λ (m : Moving). IsSo m.step) moves

-- a step beside it does no more
does_no_more : (w v : World) (m : Moving) (s : StepsAlike w v m) (d : Deed) → IsOfAny d → OneDoes v s.move d → OneDoes w m d
does_no_more w v m s (hashes x) any h = s.hashes x h
does_no_more w v m s (comes u n) any h = absurd any
does_no_more w v m s collects any h = elim s.step_is [ inl same ↦ subst IsCollect same h | inr refused ↦ absurd (refused_other s.move.step refused h) ]

-- the step is as prompt beside a world of the same time
prompt_beside : (moments : List ℕ) (w v : World) (m : Moving) (s : StepsAlike w v m) → w.time ≡ v.time → IsPromptMove moments w m → IsPromptMove moments v s.move
prompt_beside moments w v m s time p = record {
  step = s.prompt moments p.step;
  ends = subst (λ (t : ℕ). EndInTime moments t (does any_join words v s.move).ends) time (subst (λ (es : List (Ended AnyRow)). EndInTime moments w.time es) s.ends p.ends);
}

-- and so are all steps with it
prompt_on : (all : List ℕ) (before : List Moving) (begin : World) (moves : List Moving) (w : World) (m : Moving) → w.time ≡ (run any_join words begin moves).time → (s : StepsAlike w (run any_join words begin moves) m) →
    ArePromptSteps all before begin moves (length w.requests) → IsPromptIn all w m → ArePromptSteps all before begin (moves ++ s.move ∷ []) (length (next any_join words w m).requests)
prompt_on all before begin moves w m time s p are_prompt =
    let v : World = run any_join words begin moves in
    let first : List ℕ = moments_then [] empty before in
    let moments : List ℕ = moments_in all w in
    let same : moments_after moments v (does any_join words v s.move) ≡ moments_after moments w (does any_join words w m) =
    ap (λ (t : ℕ). moments ++ map (λ (r : Request). t) (does any_join words v s.move).opens) (sym time) ∙ ap (λ (opens : List Request). moments ++ map (λ (r : Request). w.time) opens) (sym s.opens) in
    record {
      first = p.first;
      rest = prompt_more first begin moves s.move p.rest (subst (λ (ts : List ℕ). IsPromptMove ts v s.move) (sym p.now) (prompt_beside moments w v m s time are_prompt.prompt));
      now = moments_more first begin moves s.move ∙ (ap (λ (ts : List ℕ). moments_after ts v (does any_join words v s.move)) p.now ∙ (same ∙ sym are_prompt.after));
    }

goes_on : (IsSo : Step AnyRow → Type 0) (begin : World) (moves : List Moving) (w : World) (m : Moving) → w.time ≡ (run any_join words begin moves).time → StepsAlike w (run any_join words begin moves) m → IsLawfulRun any_join words begin moves → IsSo m.step → IsSo (Deliver 0) → AreSo IsSo moves →
    (then : List Moving) × IsLawfulRun any_join words begin then × IsAlike (next any_join words w m) (run any_join words begin then) × AreSo IsSo then ×
    ((d : Deed) → IsOfAny d → StepsDo begin then d → StepsDo begin moves d ⊎ OneDoes w m d) ×
    ((all : List ℕ) (before : List Moving) → ArePromptSteps all before begin moves (length w.requests) → IsPromptIn all w m → ArePromptSteps all before begin then (length (next any_join words w m).requests))
goes_on IsSo begin moves w m time s lawful is none are = (
  moves ++ s.move ∷ [],
  lawful_more begin moves s.move lawful s.lawful,
  subst (IsAlike (next any_join words w m)) (sym (run_more begin moves s.move)) s.alike,
  All-push (λ (m : Moving). IsSo m.step) moves s.move are (elim s.step_is [ inl same ↦ subst IsSo (sym same) is | inr refused ↦ subst IsSo (sym refused) none ]),
  λ d any h. elim (done_more begin moves s.move d h) [ inl old ↦ inl old | inr new ↦ inr (does_no_more w (run any_join words begin moves) m s d any new) ],
  λ all before p are_prompt. prompt_on all before begin moves w m time s p are_prompt,
)

-- what led to a world in which a layout is installed is prompt still
prompt_installed : (all : List ℕ) (w : World) (first : Layout) (before : List Moving) (begin : World) (moves : List Moving) → before ≡ [] → begin ≡ empty → ArePromptSteps all before begin moves (length w.requests) →
    ArePromptSteps all moves (installed any_join words (run any_join words begin moves) first) [] (length (installed any_join words w first).requests)
prompt_installed all w first before begin moves none at_empty p =
    let P : List Moving → World → Type 0 = λ b u. ArePromptMoves (moments_then [] empty b) u moves in
    let Q : List Moving → World → Type 0 = λ b u. moments_then (moments_then [] empty b) u moves ≡ take (length w.requests) all in
    let as_many : length w.requests ≡ length (installed any_join words w first).requests = ap (λ (rs : List Request). length rs) (sym (append-nil w.requests)) in
    record {
      first = subst (P []) at_empty (subst (λ (b : List Moving). P b begin) none p.rest);
      rest = tt;
      now = subst (Q []) at_empty (subst (λ (b : List Moving). Q b begin) none p.now) ∙ ap (λ (n : ℕ). take n all) as_many;
    }

module _ {H : Deed → Type 0} where
  -- a step more, beside one of the world in which nothing was forgotten
  pub reached_alike : {IsSo : Step AnyRow → Type 0} (w : World) (m : Moving) (r : IsReachedBy H IsSo w) → IsLawfulRun any_join words w (m ∷ []) → StepsAlike w (run any_join words r.begin r.moves) m
  reached_alike w m r lawful =
      let v : World = run any_join words r.begin r.moves in
      subst (λ (u : World). StepsAlike u v m) (sym r.alike.is) (step_alike v w.marks r.alike.marks m.step m.choice (subst (λ (u : World). IsLawfulRun any_join words u (m ∷ [])) r.alike.is lawful))

  -- it leads on where it is so, and a step that is refused is too
  pub reached_step : (IsSo : Step AnyRow → Type 0) (w : World) (m : Moving) → IsReachedBy H IsSo w → IsLawfulRun any_join words w (m ∷ []) → DoesIn H w m → IsSo m.step → IsSo (Deliver 0) → IsReachedBy H IsSo (next any_join words w m)
  reached_step IsSo w m r lawful does is none =
      let time : w.time ≡ (run any_join words r.begin r.moves).time = ap (λ (u : World). u.time) r.alike.is in
      let on = goes_on IsSo r.begin r.moves w m time (reached_alike w m r lawful) r.lawful is none r.are in
      record {
        before = r.before;
        begin = r.begin;
        begun = r.begun;
        moves = on.0;
        lawful = on.1;
        alike = on.2;
        before_are = r.before_are;
        are = on.3;
        done_before = r.done_before;
        done = λ d any h. elim (on.4 d any h) [ inl old ↦ r.done d any old | inr new ↦ does d new ];
        prompt = λ all are_prompt. on.5 all r.before (r.prompt all are_prompt) (are_prompt w m (does (comes w m) (refl, refl)));
      }

  -- steps that are so are so in a weaker sense
  pub reached_weaker : {IsSo IsOther : Step AnyRow → Type 0} (w : World) → ((st : Step AnyRow) → IsSo st → IsOther st) → IsReachedBy H IsSo w → IsReachedBy H IsOther w
  reached_weaker {IsSo = IsSo} {IsOther = IsOther} w weaker r =
      let each : (moves : List Moving) → AreSo IsSo moves → AreSo IsOther moves = All-weaker (λ (m : Moving). IsSo m.step) (λ (m : Moving). IsOther m.step) (λ m is. weaker m.step is) in
      record { before = r.before; begin = r.begin; begun = r.begun; moves = r.moves; lawful = r.lawful; alike = r.alike; before_are = each r.before r.before_are; are = each r.moves r.are; done_before = r.done_before; done = r.done; prompt = r.prompt }

  pub reached_draws : (draws newer : List Draw) (w : World) → IsReached H draws w → IsReached H (newer ++ draws) w
  reached_draws draws newer w r = reached_weaker w (λ st h. All-weaker (IsGood draws) (IsGood (newer ++ draws)) (more_good draws newer) (stored_by st) h) r

  -- delivered messages are forgotten
  pub reached_forgetting : {IsSo : Step AnyRow → Type 0} (w : World) → IsReachedBy H IsSo w → IsReachedBy H IsSo (forget_delivered w)
  reached_forgetting w r =
      let v : World = run any_join words r.begin r.moves in
      record {
        before = r.before;
        begin = r.begin;
        begun = r.begun;
        moves = r.moves;
        lawful = r.lawful;
        alike = record { is = ap (λ (u : World). record u { marks = map forgot w.marks }) r.alike.is; marks = keep_forgot w.marks v.marks r.alike.marks };
        before_are = r.before_are;
        are = r.are;
        done_before = r.done_before;
        done = r.done;
        prompt = r.prompt;
      }

  -- a first layout is installed where none was applied
  pub reached_installing : {IsSo : Step AnyRow → Type 0} (w : World) (first : Layout) → IsFirst first → w.applied ≡ 0 → IsReachedBy H IsSo w → IsReachedBy H IsSo (installed any_join words w first)
  reached_installing {IsSo = IsSo} w first is_first none r =
      let v : World = run any_join words r.begin r.moves in
      let unused : v.applied ≡ 0 = sym (ap (λ (u : World). u.applied) r.alike.is) ∙ none in
      elim r.begun [
        | inl at_empty ↦
            let here : v ≡ run any_join words empty r.moves = ap (λ (u : World). run any_join words u r.moves) at_empty.1 in
            let like : IsAlike (installed any_join words w first) (installed any_join words v first) = subst (λ (u : World). IsAlike (installed any_join words u first) (installed any_join words v first)) (sym r.alike.is) (effects_alike v w.marks r.alike.marks (installs any_join words v first)) in
            record {
              before = r.moves;
              begin = installed any_join words v first;
              begun = inr (record {
                first = first;
                lawful = record { steps = subst (λ (u : World). IsLawfulRun any_join words u r.moves) at_empty.1 r.lawful; unused = ap (λ (u : World). u.applied) (sym here) ∙ unused; first_layout = is_first };
                is = ap (λ (u : World). installed any_join words u first) here;
              });
              moves = [];
              lawful = tt;
              alike = like;
              before_are = r.are;
              are = All-nil (λ (m : Moving). IsSo m.step);
              done_before = λ d any h. r.done d any (subst (λ (u : World). StepsDo u r.moves d) (sym at_empty.1) h);
              done = λ d any h. absurd h;
              prompt = λ all are_prompt. prompt_installed all w first r.before r.begin r.moves at_empty.0 at_empty.1 (r.prompt all are_prompt);
            }
        | inr was ↦
            let more : r.begin.applied ≤ v.applied = applied_more any_join words was.first r.begin r.moves in
            let one : r.begin.applied ≡ (run any_join words empty r.before).applied + 1 = ap (λ (u : World). u.applied) was.is in
            let never : ⊥ = omega (arith, more, one, unused) in absurd never
      ]

  module _ (every : EveryWorld H) {IsSo : Step AnyRow → Type 0} (w : World) (r : IsReachedBy H IsSo w) where
    abbrev v : World
    v = run any_join words r.begin r.moves

    from : FromWorld H r.begin r.before
    from = elim r.begun [
      | inl at_empty ↦ subst (λ (u : World). FromWorld H u r.before) (sym at_empty.1) (subst (FromWorld H empty) (sym at_empty.0) every.from_empty)
      | inr was ↦ subst (λ (u : World). FromWorld H u r.before) (sym was.is) (every.from_installed r.before was.first was.lawful)
    ]

    there : (reading : Reading AnyRow) → Contains w.reads reading → Contains v.reads reading
    there reading c = subst (λ (u : World). Contains u.reads reading) r.alike.is c

    -- all steps that led to it are so
    pub reached_are : AreSo IsSo (r.before ++ r.moves)
    reached_are = All-append (λ (m : Moving). IsSo m.step) r.before r.moves r.before_are r.are

    -- reads gave what was kept, or it was collected
    pub reached_joined : NoClash (λ x. H (hashes x)) → KeptReads any_join words w
    reached_joined apart = subst (KeptReads any_join words) (sym r.alike.is) (from.kept_reads apart r.moves r.lawful r.done_before r.done)

    -- nothing is, where none of the deeds collects
    pub reached_none : ¬ H collects → w.collected ≡ []
    reached_none never = ap (λ (u : World). u.collected) r.alike.is ∙ from.nothing_collected never r.moves r.lawful r.done_before r.done

    -- what was collected comes from what they stored
    pub reached_gone_from : (row : AnyRow) → Contains w.collected row → ComesFrom any_join words (stored_in (r.before ++ r.moves)) row
    reached_gone_from row c = (from.collected_objects r.moves r.lawful row (subst (λ (u : World). Contains u.collected row) r.alike.is c)).1

    -- what was collected are object rows
    pub reached_objects : (row : AnyRow) → Contains w.collected row → words.table row ≡ 1
    reached_objects row c = (from.collected_objects r.moves r.lawful row (subst (λ (u : World). Contains u.collected row) r.alike.is c)).0

    -- what a read gave comes from what they stored
    pub reached_stored : (reading : Reading AnyRow) → Contains w.reads reading → Gave words (ComesFrom any_join words (stored_in (r.before ++ r.moves))) reading
    reached_stored reading c = from.stored_rows r.moves r.lawful reading (there reading c)

    -- so each layout in use has the greatest partition size
    pub reached_greatest : UsesGreatest w
    reached_greatest =
        let sound = from.is_sound r.moves r.lawful in
        subst UsesGreatest (sym r.alike.is) (record { known = sound.greatest; shown = all_weaker (λ (m : Sent AnyRow Layout). IsUsual v.applied m.packet) (λ (m : Sent AnyRow Layout). ShowsGreatest m.packet) (λ m usual. usual.1) v.messages sound.messages })

    pub reached_different : (n : ℕ) → AreDifferent (w.nodes n).calls
    reached_different n = subst (λ (u : World). AreDifferent (u.nodes n).calls) (sym r.alike.is) ((from.is_sound r.moves r.lawful).different n)

    -- what a range phase gave is a window
    pub reached_window : (reading : Reading AnyRow) → Contains w.reads reading → GaveWindow words reading
    reached_window reading c = from.windows r.moves r.lawful reading (there reading c)

  pub reached_good : (every : EveryWorld H) (draws : List Draw) (w : World) → IsReached H draws w → (reading : Reading AnyRow) → Contains w.reads reading → Gave words (IsGood draws) reading
  reached_good every draws w r reading c =
      gave_by_origin (IsGood draws) (good_inherited draws) (stored_in (r.before ++ r.moves)) (stored_have (IsGood draws) (r.before ++ r.moves) (reached_are every w r)) reading (reached_stored every w r reading c)

  -- rows that nodes accepted are proper
  pub reached_proper :
      ((moves : List Moving) → IsLawfulRun any_join words empty moves → (n : ℕ) → AllProper words ((run any_join words empty moves).nodes n).accepted) →
      ((before : List Moving) (first : Layout) (after : List Moving) → IsLawfulStart any_join words before first → IsLawfulRun any_join words (start any_join words before first) after →
      (n : ℕ) → AllProper words ((run any_join words (start any_join words before first) after).nodes n).accepted) →
      (draws : List Draw) (w : World) → IsReached H draws w → (n : ℕ) → AllProper words (w.nodes n).accepted
  reached_proper from_empty from_installed draws w r n =
      subst (λ (u : World). AllProper words (u.nodes n).accepted) (sym r.alike.is) (elim r.begun [
        | inl at_empty ↦
            subst (λ (u : World). AllProper words ((run any_join words u r.moves).nodes n).accepted) (sym at_empty.1)
            (from_empty r.moves (subst (λ (u : World). IsLawfulRun any_join words u r.moves) at_empty.1 r.lawful) n)
        | inr was ↦
            subst (λ (u : World). AllProper words ((run any_join words u r.moves).nodes n).accepted) (sym was.is)
            (from_installed r.before was.first r.moves was.lawful (subst (λ (u : World). IsLawfulRun any_join words u r.moves) was.is r.lawful) n)
      ])
