-- What phases gave in a world that steps lead to which collect safely: with what was collected at least what was kept, and nothing below a collected marker.
use Rattle.std.specs.Prelude.{◌≡◌, ℕ, List, [], ◌∷◌, ◌++◌, length, refl}
use Rattle.std.specs.List.{Contains}
use Rattle.std.proofs.Common.{sym, subst, ◌∙◌, inl, inr}
use Rattle.std.proofs.lemmas.List.{append-nil, append_assoc}
use Rattle.std.proofs.lemmas.List.Elements.{Contains-append_cases}
use Rattle.crdt_core.specs.Members.{Has}
use Rattle.crdt_rows.specs.declared.any_row.AnyRow.{AnyRow}
use Rattle.crdt_rows.specs.AnyRow.{any_join}
use Rattle.layout_roles.specs.declared.layout.Layout.{Layout}
use Rattle.object_schema.specs.Schema.{words}
use Rattle.object_collects.specs.Seen.{object_versions}
use Rattle.collect_reads.specs.Clean.{GaveNotBelow}
use Rattle.machine_origins.proofs.ByOrigin.{stored_have, has_by_origin}
use Rattle.machine_origins.specs.Origins.{stored_in}
use Rattle.cluster_machine.specs.declared.step.Step.{Step}
use Rattle.cluster_machine.specs.Hashes.{NoClash}
use Rattle.cluster_machine.specs.Kept.{GaveKept, KeptReads}
use Rattle.cluster_machine.specs.Node.{Reading}
use Rattle.cluster_machine.specs.World.{Mark, empty}
use Rattle.cluster_machine.specs.Worlds.{IsLawfulRun, IsLawfulStart, does, next, run, start}
use Rattle.store_model.specs.Run.{World, Moving, Draw}
use Rattle.store_collects.specs.Past.{IsPast}
use Rattle.store_collects.specs.Prompt.{IsPromptMove, ArePromptMoves}
use Rattle.store_collects.proofs.Machine.{IsMachine, moments_then, machine_empty, machine_installed}
use Rattle.store_collects.proofs.Clean.{GaveClean, marked_then, is_past, step_clean}
use Rattle.store_laws.proofs.Deeds.{Deed, hashes, IsOfAny, ArePromptIn, IsClear, StepsDo}
use Rattle.store_laws.proofs.Elements.{none_in, has_right, picked, contained}
use Rattle.store_laws.proofs.Every.{EveryWorld, run_more}
use Rattle.store_laws.proofs.Good.{IsGood, good_inherited}
use Rattle.store_laws.proofs.Prompt.{moments_more, prompt_parts}
use Rattle.store_laws.proofs.Reached.{reached_none, reached_joined, reached_are, reached_gone_from}
use Rattle.store_laws.proofs.Sound.{ArePromptSteps, IsReachedBy, IsReached}

-- each phase that ended gave what is clean
abbrev pub AreClean : World → Type 0
AreClean w = (reading : Reading AnyRow) → Contains w.reads reading → GaveClean w.collected reading

-- it is clean still as more is collected
clean_later : (old new : List AnyRow) → ((r : AnyRow) → Has old r → Has new r) → (reading : Reading AnyRow) → GaveClean old reading → GaveClean new reading
clean_later old new more reading g = record { collected = g.collected; among = λ r h. more r (g.among r h); marked = g.marked; kept = g.kept; clean = g.clean }

-- ---- steps

module _ (moments : List ℕ) (begin : World) where
  -- what is known of the world after these steps
  record IsKnown (front : List Moving) : Type 0 where
    machine : IsMachine (moments_then moments begin front) (run any_join words begin front)
    kept : KeptReads any_join words (run any_join words begin front)

  more_clean : (front : List Moving) (m : Moving) → IsKnown front → IsKnown (front ++ m ∷ []) → IsPromptMove (moments_then moments begin front) (run any_join words begin front) m → AreClean (run any_join words begin front) →
      AreClean (run any_join words begin (front ++ m ∷ []))
  more_clean front m was is prompt clean = subst AreClean (sym leads) now
    where
      w : World
      w = run any_join words begin front

      then : World
      then = next any_join words w m

      leads : run any_join words begin (front ++ m ∷ []) ≡ then
      leads = run_more begin front m

      machine : IsMachine (moments_then moments begin (front ++ m ∷ [])) then
      machine = subst (IsMachine (moments_then moments begin (front ++ m ∷ []))) leads is.machine

      kept : KeptReads any_join words then
      kept = subst (KeptReads any_join words) leads is.kept

      now : AreClean then
      now reading c = elim (Contains-append_cases (does any_join words w m).reads w.reads reading c) [
        | inl new ↦ record {
          collected = then.collected;
          among = λ r h. h;
          marked = marked_then then machine;
          kept = kept reading c;
          clean = λ r u there marked. picked (GaveNotBelow words object_versions (words.key r) u) (does any_join words w m).reads reading (step_clean w m was.machine machine prompt.ends r u there marked) new;
        }
        | inr old ↦ clean_later w.collected then.collected (λ r h. has_right (does any_join words w m).collects w.collected r h) reading (clean reading old)
      ]

  module _ (moves : List Moving) (known : (front rest : List Moving) → front ++ rest ≡ moves → IsKnown front) where
    fronts_clean : (front rest : List Moving) → front ++ rest ≡ moves → ArePromptMoves (moments_then moments begin front) (run any_join words begin front) rest → AreClean (run any_join words begin front) → AreClean (run any_join words begin moves)
    fronts_clean front [] e prompt clean = subst (λ (ms : List Moving). AreClean (run any_join words begin ms)) (sym (append-nil front) ∙ e) clean
    fronts_clean front (m ∷ rest) e prompt clean =
        let longer : List Moving = front ++ m ∷ [] in
        let same : longer ++ rest ≡ moves = append_assoc front (m ∷ []) rest ∙ e in
        let w : World = run any_join words begin front in
        let then : World = next any_join words w m in
        let late : ArePromptMoves (moments_then moments begin longer) (run any_join words begin longer) rest =
        subst (λ (u : World). ArePromptMoves (moments_then moments begin longer) u rest) (sym (run_more begin front m))
        (subst (λ (ts : List ℕ). ArePromptMoves ts then rest) (sym (moments_more moments begin front m)) prompt.1) in
        fronts_clean longer rest same late (more_clean front m (known front (m ∷ rest) e) (known longer rest same) prompt.0 clean)

-- ---- the first steps of a run

lawful_front : (w : World) (first rest : List Moving) → IsLawfulRun any_join words w (first ++ rest) → IsLawfulRun any_join words w first
lawful_front w [] rest h = tt
lawful_front w (m ∷ first) rest h = (h.0, h.1, h.2, h.3, lawful_front (next any_join words w m) first rest h.4)

done_front : (w : World) (first rest : List Moving) (d : Deed) → StepsDo w first d → StepsDo w (first ++ rest) d
done_front w [] rest d h = absurd h
done_front w (m ∷ first) rest d (inl h) = inl h
done_front w (m ∷ first) rest d (inr h) = inr (done_front (next any_join words w m) first rest d h)

-- ---- worlds

-- what is so of a collected row is so where messages were forgotten
past_forgotten : (v : World) (marks : List Mark) (r : AnyRow) → IsPast v r → IsPast (record v { marks = marks }) r
past_forgotten v marks r p = record { version = p.version; marker = p.marker; nodes = p.nodes }

module _ {H : Deed → Type 0} where
  -- where the steps are prompt, from the empty world
  module _ (every : EveryWorld H) where
    machine_at : (moves : List Moving) → IsLawfulRun any_join words empty moves → ArePromptMoves [] empty moves → IsMachine (moments_then [] empty moves) (run any_join words empty moves)
    machine_at moves lawful prompt = machine_empty moves (every.from_empty.is_sound [] tt) lawful prompt

    machine_then : (before : List Moving) (first : Layout) (is : IsLawfulStart any_join words before first) (moves : List Moving) → IsLawfulRun any_join words (start any_join words before first) moves → ArePromptMoves [] empty before →
        ArePromptMoves (moments_then [] empty before) (start any_join words before first) moves →
        IsMachine (moments_then (moments_then [] empty before) (start any_join words before first) moves) (run any_join words (start any_join words before first) moves)
    machine_then before first is moves lawful early late = machine_installed first before moves (every.from_empty.is_sound [] tt) is lawful early late

    module _ (apart : NoClash (λ x. H (hashes x))) where
      empty_clean : (moves : List Moving) → IsLawfulRun any_join words empty moves → ArePromptMoves [] empty moves → ((d : Deed) → IsOfAny d → StepsDo empty moves d → H d) → AreClean (run any_join words empty moves)
      empty_clean moves lawful prompt done =
          fronts_clean [] empty moves (λ front rest e.
          let first_lawful = lawful_front empty front rest (subst (IsLawfulRun any_join words empty) (sym e) lawful) in
          let first_prompt = (prompt_parts [] empty front rest (subst (ArePromptMoves [] empty) (sym e) prompt)).0 in
          record {
            machine = machine_at front first_lawful first_prompt;
            kept = every.from_empty.kept_reads apart front first_lawful (λ d any h. absurd h) (λ d any h. done d any (subst (λ (ms : List Moving). StepsDo empty ms d) e (done_front empty front rest d h)));
          }) [] moves refl prompt (λ reading c. absurd (none_in reading c))

      installed_clean : (before : List Moving) (first : Layout) → IsLawfulStart any_join words before first → (moves : List Moving) → IsLawfulRun any_join words (start any_join words before first) moves → ArePromptMoves [] empty before →
          ArePromptMoves (moments_then [] empty before) (start any_join words before first) moves → ((d : Deed) → IsOfAny d → StepsDo empty before d → H d) → ((d : Deed) → IsOfAny d → StepsDo (start any_join words before first) moves d → H d) →
          AreClean (run any_join words (start any_join words before first) moves)
      installed_clean before first is moves lawful early late done_before done =
          let begin : World = start any_join words before first in
          let moments : List ℕ = moments_then [] empty before in
          fronts_clean moments begin moves (λ front rest e.
          let first_lawful = lawful_front begin front rest (subst (IsLawfulRun any_join words begin) (sym e) lawful) in
          let first_prompt = (prompt_parts moments begin front rest (subst (ArePromptMoves moments begin) (sym e) late)).0 in
          record {
            machine = machine_then before first is front first_lawful early first_prompt;
            kept = (every.from_installed before first is).kept_reads apart front first_lawful done_before (λ d any h. done d any (subst (λ (ms : List Moving). StepsDo begin ms d) e (done_front begin front rest d h)));
          }) [] moves refl late (empty_clean before is.steps early done_before)

  module _ (every : EveryWorld H) {IsSo : Step AnyRow → Type 0} (w : World) (r : IsReachedBy H IsSo w) where
    abbrev v : World
    v = run any_join words r.begin r.moves

    module _ (all : List ℕ) (are_prompt : ArePromptIn H all) where
      steps : ArePromptSteps all r.before r.begin r.moves (length w.requests)
      steps = r.prompt all are_prompt

      lawful_at : (u : World) → r.begin ≡ u → IsLawfulRun any_join words u r.moves
      lawful_at u e = subst (λ (u : World). IsLawfulRun any_join words u r.moves) e r.lawful

      prompt_at : (u : World) → r.begin ≡ u → ArePromptMoves (moments_then [] empty r.before) u r.moves
      prompt_at u e = subst (λ (u : World). ArePromptMoves (moments_then [] empty r.before) u r.moves) e steps.rest

      prompt_empty : r.before ≡ [] → r.begin ≡ empty → ArePromptMoves [] empty r.moves
      prompt_empty none e = subst (λ (b : List Moving). ArePromptMoves (moments_then [] empty b) empty r.moves) none (prompt_at empty e)

      done_at : (u : World) → r.begin ≡ u → (d : Deed) → IsOfAny d → StepsDo u r.moves d → H d
      done_at u e d any h = r.done d any (subst (λ (u : World). StepsDo u r.moves d) (sym e) h)

      run_at : (P : World → Type 0) (u : World) → r.begin ≡ u → P (run any_join words u r.moves) → P v
      run_at P u e h = subst (λ (u : World). P (run any_join words u r.moves)) (sym e) h

      -- what phases gave is clean
      prompt_clean : NoClash (λ x. H (hashes x)) → AreClean w
      prompt_clean apart = subst AreClean (sym r.alike.is) (elim r.begun [
        | inl at_empty ↦ run_at AreClean empty at_empty.1 (empty_clean every apart r.moves (lawful_at empty at_empty.1) (prompt_empty at_empty.0 at_empty.1) (done_at empty at_empty.1))
        | inr was ↦
            let u : World = start any_join words r.before was.first in
            run_at AreClean u was.is (installed_clean every apart r.before was.first was.lawful r.moves (lawful_at u was.is) steps.first (prompt_at u was.is) r.done_before (done_at u was.is))
      ])

      -- and no node has a version below a collected marker
      pub reached_past : (row : AnyRow) → Has w.collected row → IsPast w row
      reached_past row there =
          let past : Has v.collected row → IsPast v row = (elim r.begun [
            | inl at_empty ↦ run_at (λ (x : World). Has x.collected row → IsPast x row) empty at_empty.1 (λ h. is_past (run any_join words empty r.moves) (machine_at every r.moves (lawful_at empty at_empty.1) (prompt_empty at_empty.0 at_empty.1)) row h)
            | inr was ↦
                let u : World = start any_join words r.before was.first in
                run_at (λ (x : World). Has x.collected row → IsPast x row) u was.is (λ h. is_past (run any_join words u r.moves) (machine_then every r.before was.first was.lawful r.moves (lawful_at u was.is) steps.first (prompt_at u was.is)) row h)
          ]) in
          subst (λ (u : World). IsPast u row) (sym r.alike.is) (past_forgotten v w.marks row (past (subst (λ (u : World). Has u.collected row) r.alike.is there)))

    -- where nothing is collected, phases gave what was kept
    never_clean : NoClash (λ x. H (hashes x)) → w.collected ≡ [] → AreClean w
    never_clean apart none reading c = record {
      collected = [];
      among = λ row h. absurd h;
      marked = λ row h. absurd h;
      kept = subst (λ (gone : List AnyRow). GaveKept any_join words gone reading) none (reached_joined every w r apart reading c);
      clean = λ row u h. absurd h;
    }

    -- what phases gave is clean
    pub reached_clean : IsClear H → AreClean w
    reached_clean clear = elim clear.safe [
      | inl never ↦ never_clean clear.apart (reached_none every w r never)
      | inr prompt ↦ prompt_clean prompt.0 prompt.1 clear.apart
    ]

  -- collected rows are good
  pub reached_gone : (every : EveryWorld H) (draws : List Draw) (w : World) → IsReached H draws w → (row : AnyRow) → Has w.collected row → IsGood draws row
  reached_gone every draws w r row there =
      has_by_origin (IsGood draws) (good_inherited draws) (stored_in (r.before ++ r.moves)) (stored_have (IsGood draws) (r.before ++ r.moves) (reached_are every w r)) row (reached_gone_from every w r row (contained w.collected row there))
