-- A run into which a first layout is installed is a run of the machine whose first layout it is.
use Rattle.std.specs.Prelude.{◌≡◌, ◌⊎◌, ◌≤◌, ℕ, Bool, true, false, leb, cond, IsTrue, List, [], ◌∷◌, ◌++◌, refl}
use Rattle.std.proofs.Common.{ap, sym, subst, ◌∙◌, inl, inr, arith}
use Rattle.std.proofs.lemmas.Bool.{le-leb, lt-leb}
use Rattle.std.proofs.lemmas.Grind.{flat_map-append}
use Rattle.layout_roles.specs.declared.role.Role.{Role}
use Rattle.layout_roles.specs.declared.cut.Cut.{Cut}
use Rattle.layout_roles.specs.declared.layout.Layout.{Layout}
use Rattle.table_schema.specs.Words.{Words}
use Rattle.cluster_machine.specs.declared.applied.Applied.{Applied}
use Rattle.cluster_machine.specs.declared.step.Step.{Step}
use Rattle.cluster_machine.specs.declared.step.Step.TheVariants.{Trio}
use Rattle.cluster_machine.specs.declared.step.Refusal.TheVariants.{VersionTaken, VersionLimit}
use Rattle.cluster_machine.specs.Step.{none_given, refusal, trio_applies, applied}
use Rattle.cluster_machine.specs.Run.{IsRun, run as machine_run, does as machine_does}
use Rattle.cluster_machine.specs.Layouts.{layouts}
use Rattle.cluster_machine.specs.World.{empty}
use Rattle.cluster_machine.specs.Trio.{trio, stage_trio}
use Rattle.cluster_machine.specs.Choices.{Decision}
use Rattle.cluster_machine.specs.Hashes.{Hears, Asks, RunHashes, NoClash}
use Rattle.world_reads.specs.Hashed.{StartHashes}
use Rattle.cluster_machine.specs.Worlds.{Model, Doing, Done, IsSound, IsLawfulRun, IsLawfulStart, does, next, run, start}
use Rattle.machine_origins.specs.Origins.{stored_by, stored_in}
use Rattle.world_laws.proofs.Steps.{installed_sound}
use Rattle.world_reads.proofs.Lawful.{lawful_is_run, sound_after}

module _ {R : Type 0} where
  -- the step by which the machine's first layout is applied
  abbrev pub first_step : Doing R
  first_step = record { step = Trio; choice = none_given VersionLimit }

  -- what that step stores: nothing
  pub stored_without : (before after : List (Doing R)) → stored_in (before ++ first_step ∷ after) ≡ stored_in (before ++ after)
  stored_without before after =
      let f : Doing R → List R = λ m. stored_by m.step in
      flat_map-append f before (first_step ∷ after) ∙ sym (flat_map-append f before after)

-- two tests of which one is refused
same_refused : {A : Type 0} (b : Bool) (r x y : A) → b ≡ true → cond b r x ≡ cond b r y
same_refused true r x y e = refl
same_refused false r x y e = cc

not_applied : {R : Type 0} (w : Model R) (b : Bool) (d e : Done R) → e.applies ≡ 1 → (applied w (cond b d e)).applied ≡ 0 → b ≡ true
not_applied w true d e one none = refl
not_applied w false d e one none = let never : ⊥ = omega arith in absurd never

-- strings among others that do not clash do not clash
pub clear_within : (G H : List ℕ → Type 0) → ((x : List ℕ) → G x → H x) → NoClash H → NoClash G
clear_within G H f clear = record { apart = λ x y a b. clear.apart x y (f x a) (f y b); some = λ x a. clear.some x (f x a) }

module _ {R : Type 0} (join : R → R → R) (s : Words R) (first : Layout) where
  -- nothing is staged
  abbrev same_roles : List Role → List Role
  same_roles roles = roles

  abbrev does_first : Model R → Doing R → Done R
  does_first w m = machine_does join s layouts first same_roles w m

  abbrev run_first : Model R → List (Doing R) → Model R
  run_first w ms = machine_run join s layouts first same_roles w ms

  abbrev IsRunFirst : Model R → List (Doing R) → Type 0
  IsRunFirst w ms = IsRun join s layouts first same_roles 256 w ms

  -- where a version was applied, or none is in this step, the first layout plays no part
  pub step_same : (w : Model R) (step : Step R) (choice : Decision) → (1 ≤ w.applied) ⊎ ((next join s w (record { step = step; choice = choice })).applied ≡ 0) →
      does join s w (record { step = step; choice = choice }) ≡ does_first w (record { step = step; choice = choice })
  step_same w Trio choice h =
      let is_taken : leb 1 w.applied ≡ true = elim h [
        | inl high ↦ le-leb 1 w.applied high
        | inr none ↦ not_applied w (leb 1 w.applied) (refusal w (VersionTaken 1)) (trio_applies join s layouts trio stage_trio w) refl none
      ] in
      same_refused (leb 1 w.applied) (refusal w (VersionTaken 1)) (trio_applies join s layouts trio stage_trio w) (trio_applies join s layouts first same_roles w) is_taken
  step_same w _ choice h = refl

  pub applied_more : (w : Model R) (ms : List (Doing R)) → w.applied ≤ (run join s w ms).applied
  applied_more w [] = omega arith
  applied_more w (m ∷ ms) =
      let rest = applied_more (next join s w m) ms in
      let one : w.applied ≤ (next join s w m).applied = omega arith in
      omega (arith, rest, one)

  -- the run with either first layout, where a version was applied before it, or none is in it
  pub record Alike (w : Model R) (ms : List (Doing R)) : Type 0 where
    pub same : run_first w ms ≡ run join s w ms
    pub is_run : IsRun join s layouts trio stage_trio 256 w ms → IsRunFirst w ms

  pub alike : (w : Model R) (ms : List (Doing R)) → (1 ≤ w.applied) ⊎ ((run join s w ms).applied ≡ 0) → Alike w ms
  alike w [] h = record { same = refl; is_run = λ r. r }
  alike w (m ∷ ms) h =
      let then = next join s w m in
      let high = applied_more w (m ∷ []) in
      let low = applied_more then ms in
      let at : (1 ≤ w.applied) ⊎ (then.applied ≡ 0) = elim h [ inl is ↦ inl is | inr none ↦ inr (omega (arith, low, none)) ] in
      let later : (1 ≤ then.applied) ⊎ ((run join s then ms).applied ≡ 0) = elim h [ inl is ↦ inl (omega (arith, is, high)) | inr none ↦ inr none ] in
      let same = step_same w m.step m.choice at in
      let rest = alike then ms later in
      record {
        same = subst (λ e. run_first (applied w e) ms ≡ run join s then ms) same rest.same;
        is_run = λ r. (r.0, r.1, subst (λ (e : Done R). IsTrue e.is_spelled) same r.2, subst (λ e. IsRunFirst (applied w e) ms) same (rest.is_run r.3));
      }

  abbrev HashesFirst : Model R → List (Doing R) → List ℕ → Type 0
  HashesFirst w ms x = RunHashes s join layouts first same_roles w ms x

  abbrev HashesTrio : Model R → List (Doing R) → List ℕ → Type 0
  HashesTrio w ms x = RunHashes s join layouts trio stage_trio w ms x

  -- and the same is hashed in it
  hashes_alike : (w : Model R) (ms : List (Doing R)) (x : List ℕ) → (1 ≤ w.applied) ⊎ ((run join s w ms).applied ≡ 0) → HashesFirst w ms x → HashesTrio w ms x
  hashes_alike w [] x h i = absurd i
  hashes_alike w (m ∷ ms) x h i =
      let then = next join s w m in
      let high = applied_more w (m ∷ []) in
      let low = applied_more then ms in
      let at : (1 ≤ w.applied) ⊎ (then.applied ≡ 0) = elim h [ inl is ↦ inl is | inr none ↦ inr (omega (arith, low, none)) ] in
      let later : (1 ≤ then.applied) ⊎ ((run join s then ms).applied ≡ 0) = elim h [ inl is ↦ inl (omega (arith, is, high)) | inr none ↦ inr none ] in
      let same = step_same w m.step m.choice at in
      elim i [
        | inl here ↦ inl (here.0, (here.1.0, (subst (λ (e : Done R). Hears w m.step here.0 here.1.0 ⊎ Asks e.sends here.0 here.1.0) (sym same) here.1.1.0, here.1.1.1)))
        | inr more ↦ inr (hashes_alike then ms x later (subst (λ (e : Done R). HashesFirst (applied w e) ms x) (sym same) more))
      ]

  hashes_append : (w : Model R) (xs ys : List (Doing R)) (x : List ℕ) → HashesFirst w (xs ++ ys) x → HashesFirst w xs x ⊎ HashesFirst (run_first w xs) ys x
  hashes_append w [] ys x h = inr h
  hashes_append w (m ∷ xs) ys x h = elim h [
    | inl here ↦ inl (inl here)
    | inr more ↦ elim (hashes_append (applied w (does_first w m)) xs ys x more) [ inl one ↦ inl (inr one) | inr other ↦ inr other ]
  ]

  -- an installation hashes nothing
  none_installed : (w : Model R) (b : Bool) (n p : ℕ) → Asks (cond b (refusal {A = Applied} {C = Cut} w (VersionTaken 1)) (trio_applies join s layouts first same_roles w)).sends n p → ⊥
  none_installed w true n p h = h
  none_installed w false n p h = h

  run_append : (w : Model R) (xs ys : List (Doing R)) → run_first w (xs ++ ys) ≡ run_first (run_first w xs) ys
  run_append w [] ys = refl
  run_append w (x ∷ xs) ys = run_append (applied w (does_first w x)) xs ys

  runs_append : (w : Model R) (xs ys : List (Doing R)) → IsRunFirst w xs → IsRunFirst (run_first w xs) ys → IsRunFirst w (xs ++ ys)
  runs_append w [] ys a b = b
  runs_append w (x ∷ xs) ys a b = (a.0, a.1, a.2, runs_append (applied w (does_first w x)) xs ys a.3 b)

  -- the installation is the machine's first step
  installs_so : (w : Model R) → w.applied ≡ 0 → does_first w first_step ≡ trio_applies join s layouts first same_roles w
  installs_so w none = ap (λ b. cond b (refusal {A = Applied} {C = Cut} w (VersionTaken 1)) (trio_applies join s layouts first same_roles w)) (lt-leb 1 w.applied (omega arith))

  module _ (before after : List (Doing R)) (sound : IsSound (empty {R = R} {L = Layout})) (is : IsLawfulStart join s before first) where
    abbrev mid : Model R
    mid = run join s empty before

    -- the whole run, as one of the machine
    abbrev pub whole : List (Doing R)
    whole = before ++ first_step ∷ after

    mid_sound : IsSound mid
    mid_sound = sound_after join s empty before sound is.steps

    pub start_sound : IsSound (start join s before first)
    start_sound = installed_sound mid mid_sound join s first is.unused is.first_layout

    pub end_sound : IsLawfulRun join s (start join s before first) after → IsSound (run join s (start join s before first) after)
    end_sound h = sound_after join s (start join s before first) after start_sound h

    begun : Alike empty before
    begun = alike empty before (inr is.unused)

    gone_on : Alike (start join s before first) after
    gone_on = alike (start join s before first) after (inl (omega arith))

    installed_next : applied (run_first empty before) (does_first (run_first empty before) first_step) ≡ start join s before first
    installed_next = subst (λ w. applied w (does_first w first_step) ≡ start join s before first) (sym begun.same) (ap (applied mid) (installs_so mid is.unused))

    pub whole_same : run_first empty whole ≡ run join s (start join s before first) after
    whole_same = run_append empty before (first_step ∷ after) ∙ (ap (λ w. run_first w after) installed_next ∙ gone_on.same)

    pub whole_hashes : (x : List ℕ) → HashesFirst empty whole x → StartHashes s join before first after x
    whole_hashes x h = elim (hashes_append empty before (first_step ∷ after) x h) [
      | inl early ↦ inl (hashes_alike empty before x (inr is.unused) early)
      | inr rest ↦ elim rest [
        | inl there ↦ absurd (elim there.1.1.0 [ inl never ↦ never | inr asks ↦ none_installed (run_first empty before) (leb 1 (run_first empty before).applied) there.0 there.1.0 asks ])
        | inr late ↦ inr (hashes_alike (start join s before first) after x (inl (omega arith)) (subst (λ w. HashesFirst w after x) installed_next late))
      ]
    ]

    spelled_first : (w : Model R) (b : Bool) → IsTrue (cond b (refusal {A = Applied} {C = Cut} w (VersionTaken 1)) (trio_applies join s layouts first same_roles w)).is_spelled
    spelled_first w true = refl
    spelled_first w false = refl

    pub whole_is_run : IsLawfulRun join s (start join s before first) after → IsRunFirst empty whole
    whole_is_run h =
        let there = run_first empty before in
        runs_append empty before (first_step ∷ after) (begun.is_run (lawful_is_run join s empty before sound is.steps))
        (tt, tt, spelled_first there (leb 1 there.applied), subst (λ w. IsRunFirst w after) (sym installed_next) (gone_on.is_run (lawful_is_run join s (start join s before first) after start_sound h)))
