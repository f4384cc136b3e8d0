-- A world that lawful prompt steps lead to is the end of a prompt run of the machine, whose first layout is the one that was installed, if one was.
use Rattle.std.specs.Prelude.{◌≡◌, ◌⊎◌, ◌≤◌, ℕ, Bool, true, false, leb, cond, List, [], ◌∷◌, ◌++◌, map, refl}
use Rattle.std.proofs.Common.{ap, sym, subst, ◌∙◌, inl, inr, arith}
use Rattle.std.proofs.lemmas.Bool.{lt-leb}
use Rattle.std.proofs.lemmas.List.{append-nil}
use Rattle.layout_roles.specs.declared.cut.Cut.{Cut}
use Rattle.layout_roles.specs.declared.layout.Layout.{Layout}
use Rattle.layout_roles.specs.declared.role.Role.{Role}
use Rattle.crdt_rows.specs.declared.any_row.AnyRow.{AnyRow}
use Rattle.crdt_rows.specs.AnyRow.{any_join}
use Rattle.object_schema.specs.Schema.{words}
use Rattle.cluster_machine.specs.declared.applied.Applied.{Applied}
use Rattle.cluster_machine.specs.declared.step.Refusal.TheVariants.{VersionTaken}
use Rattle.cluster_machine.specs.Layouts.{layouts}
use Rattle.cluster_machine.specs.Run.{IsLayout, IsRun, run as machine_run, does as machine_does}
use Rattle.cluster_machine.specs.Step.{refusal, trio_applies, applied}
use Rattle.cluster_machine.specs.Trio.{trio, stage_trio}
use Rattle.cluster_machine.specs.World.{Request, empty}
use Rattle.cluster_machine.specs.Worlds.{Done, IsSound, IsLawfulRun, IsLawfulStart, does, next, run, start}
use Rattle.machine_collects.specs.Prompt.{ArePrompt, IsPrompt, moments_after, moments_over}
use Rattle.object_collects.specs.Seen.{object_versions}
use Rattle.world_laws.proofs.Sets.{first_is_layout}
use Rattle.world_laws.proofs.TrioGreatest.{trio_is_first}
use Rattle.world_reads.proofs.Installed.{first_step, whole, whole_same, whole_is_run, step_same, applied_more, alike}
use Rattle.world_reads.proofs.Lawful.{lawful_is_run, same_run}
use Rattle.store_model.specs.Run.{World, Moving}
use Rattle.store_collects.specs.Prompt.{ArePromptMoves}

-- the run of the machine, whose requests began at these moments; each step does in this world what it does after it
pub record IsMachine (moments : List ℕ) (w : World) : Type 0 where
  pub first : Layout
  pub roles : List Role → List Role
  pub is_layout : IsLayout layouts 256 first
  pub version : layouts.reading.version first ≡ 1
  pub moves : List Moving
  pub is_run : IsRun any_join words layouts first roles 256 empty moves
  pub prompt : IsPrompt any_join words object_versions layouts first roles moves
  pub moments_are : moments_over any_join words layouts first roles [] empty moves ≡ moments
  pub leads : machine_run any_join words layouts first roles empty moves ≡ w
  pub same : (m : Moving) → does any_join words w m ≡ machine_does any_join words layouts first roles w m

-- the moments of requests after these steps
abbrev pub moments_then : List ℕ → World → List Moving → List ℕ
moments_then moments w ms = moments_over any_join words layouts trio stage_trio moments w ms

steps_prompt : (moments : List ℕ) (w : World) (ms : List Moving) → ArePromptMoves moments w ms → ArePrompt any_join words object_versions layouts trio stage_trio moments w ms
steps_prompt moments w [] h = tt
steps_prompt moments w (m ∷ ms) h = (h.0.step, steps_prompt (moments_after moments w (does any_join words w m)) (next any_join words w m) ms h.1)

-- where nothing was installed
pub machine_empty : (ms : List Moving) → IsSound (empty {R = AnyRow} {L = Layout}) → IsLawfulRun any_join words empty ms → ArePromptMoves [] empty ms → IsMachine (moments_then [] empty ms) (run any_join words empty ms)
machine_empty ms sound lawful prompt = record {
  first = trio;
  roles = stage_trio;
  is_layout = first_is_layout trio trio_is_first;
  version = refl;
  moves = ms;
  is_run = lawful_is_run any_join words empty ms sound lawful;
  prompt = steps_prompt [] empty ms prompt;
  moments_are = refl;
  leads = same_run any_join words empty ms;
  same = λ m. refl;
}

module _ (first : Layout) where
  abbrev same_roles : List Role → List Role
  same_roles roles = roles

  abbrev does_first : World → Moving → Done AnyRow
  does_first w m = machine_does any_join words layouts first same_roles w m

  abbrev run_first : World → List Moving → World
  run_first w ms = machine_run any_join words layouts first same_roles w ms

  abbrev moments_first : List ℕ → World → List Moving → List ℕ
  moments_first moments w ms = moments_over any_join words layouts first same_roles moments w ms

  abbrev ArePromptFirst : List ℕ → World → List Moving → Type 0
  ArePromptFirst moments w ms = ArePrompt any_join words object_versions layouts first same_roles moments w ms

  -- the first layout plays no part in what is prompt, where a version was applied before, or none is in these steps
  record AlikePrompt (moments : List ℕ) (w : World) (ms : List Moving) : Type 0 where
    prompt : ArePromptFirst moments w ms
    same : moments_first moments w ms ≡ moments_then moments w ms

  prompt_alike : (moments : List ℕ) (w : World) (ms : List Moving) → (1 ≤ w.applied) ⊎ ((run any_join words w ms).applied ≡ 0) → ArePromptMoves moments w ms → AlikePrompt moments w ms
  prompt_alike moments w [] h p = record { prompt = tt; same = refl }
  prompt_alike moments w (m ∷ ms) h p =
      let e : Done AnyRow = does any_join words w m in
      let then : World = next any_join words w m in
      let high = applied_more any_join words first w (m ∷ []) in
      let low = applied_more any_join words first then ms in
      let at : (1 ≤ w.applied) ⊎ (then.applied ≡ 0) = elim h [ inl is ↦ inl is | inr none ↦ inr (omega (arith, low, none)) ] in
      let later : (1 ≤ then.applied) ⊎ ((run any_join words then ms).applied ≡ 0) = elim h [ inl is ↦ inl (omega (arith, is, high)) | inr none ↦ inr none ] in
      let one = step_same any_join words first w m.step m.choice at in
      let rest = prompt_alike (moments_after moments w e) then ms later p.1 in
      record {
        prompt = (p.0.step, subst (λ (d : Done AnyRow). ArePromptFirst (moments_after moments w d) (applied w d) ms) one rest.prompt);
        same = subst (λ (d : Done AnyRow). moments_first (moments_after moments w d) (applied w d) ms ≡ moments_then (moments_after moments w e) then ms) one rest.same;
      }

  prompt_append : (moments : List ℕ) (w : World) (xs ys : List Moving) → ArePromptFirst moments w xs → ArePromptFirst (moments_first moments w xs) (run_first w xs) ys → ArePromptFirst moments w (xs ++ ys)
  prompt_append moments w [] ys h k = k
  prompt_append moments w (x ∷ xs) ys h k = (h.0, prompt_append (moments_after moments w (does_first w x)) (applied w (does_first w x)) xs ys h.1 k)

  moments_append : (moments : List ℕ) (w : World) (xs ys : List Moving) → moments_first moments w (xs ++ ys) ≡ moments_first (moments_first moments w xs) (run_first w xs) ys
  moments_append moments w [] ys = refl
  moments_append moments w (x ∷ xs) ys = moments_append (moments_after moments w (does_first w x)) (applied w (does_first w x)) xs ys

  -- no request opens in an installation
  none_opened : (w : World) (b : Bool) → (cond b (refusal {A = Applied} {C = Cut} w (VersionTaken 1)) (trio_applies any_join words layouts first same_roles w)).opens ≡ []
  none_opened w true = refl
  none_opened w false = refl

  -- the installation is the machine's first step
  installs_so : (w : World) → w.applied ≡ 0 → does_first w first_step ≡ trio_applies any_join words layouts first same_roles w
  installs_so w none = ap (λ b. cond b (refusal {A = Applied} {C = Cut} w (VersionTaken 1)) (trio_applies any_join words layouts first same_roles w)) (lt-leb 1 w.applied (omega (arith, none)))

  module _ (before after : List Moving) (sound : IsSound (empty {R = AnyRow} {L = Layout})) (is : IsLawfulStart any_join words before first) where
    abbrev begin : World
    begin = start any_join words before first

    abbrev mid : World
    mid = run_first empty before

    mid_same : mid ≡ run any_join words empty before
    mid_same = (alike any_join words first empty before (inr is.unused)).same

    installed_next : applied mid (does_first mid first_step) ≡ begin
    installed_next = subst (λ (w : World). applied w (does_first w first_step) ≡ begin) (sym mid_same) (ap (applied (run any_join words empty before)) (installs_so (run any_join words empty before) is.unused))

    moments_same : (moments : List ℕ) → moments_after moments mid (does_first mid first_step) ≡ moments
    moments_same moments = ap (λ (opens : List Request). moments ++ map (λ (r : Request). mid.time) opens) (none_opened mid (leb 1 mid.applied)) ∙ append-nil moments

    -- where a layout was installed, which is a step of the machine
    pub machine_installed : IsLawfulRun any_join words begin after → ArePromptMoves [] empty before → ArePromptMoves (moments_then [] empty before) begin after →
        IsMachine (moments_then (moments_then [] empty before) begin after) (run any_join words begin after)
    machine_installed lawful early late =
        let begun = prompt_alike [] empty before (inr is.unused) early in
        let gone = prompt_alike (moments_then [] empty before) begin after (inl (omega arith)) late in
        let M : List ℕ = moments_first [] empty before in
        let at : moments_after M mid (does_first mid first_step) ≡ moments_then [] empty before = moments_same M ∙ begun.same in
        let v : World = run any_join words begin after in
        let more : begin.applied ≤ v.applied = applied_more any_join words first begin after in
        let one : 1 ≤ begin.applied = omega arith in
        record {
          first = first;
          roles = same_roles;
          is_layout = first_is_layout first is.first_layout;
          version = is.first_layout.version;
          moves = whole any_join words first before after sound is;
          is_run = whole_is_run any_join words first before after sound is lawful;
          prompt = prompt_append [] empty before (first_step ∷ after) begun.prompt (
            tt,
            subst (λ (w : World). ArePromptFirst (moments_after M mid (does_first mid first_step)) w after) (sym installed_next)
                (subst (λ (moments : List ℕ). ArePromptFirst moments begin after) (sym at) gone.prompt),
          );
          moments_are =
              moments_append [] empty before (first_step ∷ after)
              ∙ (ap (λ (w : World). moments_first (moments_after M mid (does_first mid first_step)) w after) installed_next
              ∙ (ap (λ (moments : List ℕ). moments_first moments begin after) at ∙ gone.same));
          leads = whole_same any_join words first before after sound is;
          same = λ m. step_same any_join words first v m.step m.choice (inl (omega (arith, more, one)));
        }
