-- The first layout of nodes 1, 2 and 3, and a layout that is applied.
use Rattle.std.proofs.Common.{◌≡◌, ◌<◌, ◌≤◌, ◌+◌, ◌&&◌, not, leb, ℕ, suc, Bool, true, false, cond, IsTrue, [], ◌∷◌, length, Result, Ok, Err, IfOk, refl, sym, subst, ap, ◌∙◌, arith}
use Rattle.std.proofs.lemmas.Bool.{le-leb, lt-leb, leb-false}
use Rattle.crdt_core.specs.declared.memory.Memory.{Memory}
use Rattle.blake2_hash.specs.Blake2b.{blake2b}
use Rattle.layout_roles.specs.declared.roles.Roles.{Roles}
use Rattle.layout_roles.specs.declared.layout.Layout.{Layout}
use Rattle.layout_roles.specs.declared.cut.Cut.{Cut}
use Rattle.table_schema.specs.Laws.{Laws}
use Rattle.table_schema.specs.Words.{Words}
use Rattle.cluster_machine.specs.declared.step.Step.TheVariants.{Trio, Apply}
use Rattle.cluster_machine.specs.declared.step.Refusal.{Refusal}
use Rattle.cluster_machine.specs.declared.step.Refusal.TheVariants.{VersionTaken, VersionLimit, NotMember}
use Rattle.cluster_machine.specs.declared.line.Line.TheVariants.{Layout as Laid}
use Rattle.cluster_machine.specs.World.{is_member_at}
use Rattle.cluster_machine.specs.declared.step.Words.TheVariants.{Empty, One}
use Rattle.cluster_machine.specs.Node.{Node as Seen}
use Rattle.cluster_machine.specs.Acts.{appends}
use Rattle.cluster_machine.specs.Blocks.{AllStocked}
use Rattle.cluster_machine.specs.Step.{given, none_given, refusal, applied, trio_applies, most_versions, chosen}
use Rattle.cluster_machine.specs.Layouts.{layouts}
use Rattle.cluster_machine.specs.declared.applied.Applied.{Applied}
use Rattle.cluster_machine.specs.Choices.{Decision, HasGreatest, IsRefused, IsComputed, IsNone}
use Rattle.cluster_machine.specs.Trio.{trio, stage_trio}
use Rattle.cluster_machine.specs.Worlds.{Model, Done, IsLawfulStep, newest_at, does}
use Rattle.world_core.specs.declared.nodes.Nodes.{Nodes}
use Rattle.world_core.specs.declared.report.Report.{Report}
use Rattle.world_core.specs.declared.world.World.{World}
use Rattle.world_core.specs.Nodes.{newest_in, AreNodes, BecomesAt, given_to, with_node}
use Rattle.world_core.specs.Stands.{StandsFor, DoesSo, Stepped, Steps, Plays, nothing_given}
use Rattle.change_model.specs.Given.{layout_of, IsFor, given_at, applying}
use Rattle.world_core.specs.Given.{next_version, Applies}
use Rattle.block_laws.proofs.Steps.{next_world}
use Rattle.world_laws.proofs.Additions.{node_of, fine_stays_sound, fine_one}
use Rattle.world_laws.proofs.Doings.{sound_appended}
use Rattle.world_laws.proofs.TrioGreatest.{trio_is_first}
use Rattle.world_core.proofs.WorldsStand.{stands_of, IsWhole, whole_of, same_post, same_clocks, same_requests, same_few, refused_report, told_report, is_told, plays_refusal}
use Rattle.world_core.proofs.WorldsInstall.{newest_is, first_stands}

at_tests : (P : Bool → Bool → Bool → Type 0) (a b c d e f : Bool) → a ≡ d → b ≡ e → c ≡ f → P d e f → P a b c
at_tests P a b c d e f p q r h = subst (λ x. P x b c) (sym p) (subst (λ x. P d x c) (sym q) (subst (λ x. P d e x) (sym r) h))

module _ {R : Type 0} (w : Model R) (n : ℕ) where
  -- the next version, and the three tests of an apply
  abbrev next : ℕ
  next = suc (newest_at w n)

  abbrev outside : Bool
  outside = leb 1 w.applied && not (is_member_at layouts w n)

  abbrev taken : Bool
  taken = leb next w.applied

  abbrev full : Bool
  full = leb most_versions w.applied

  -- by these tests: the version or the refusal, whether it comes to a layout, what may be given, and what is done
  abbrev version : Bool → Bool → Bool → Result ℕ (Refusal Cut)
  version a b c = cond a (Err NotMember) (cond b (Err (VersionTaken next)) (cond c (Err VersionLimit) (Ok next)))

  abbrev comes : Bool → Bool → Bool → Bool
  comes a b c = not a && (not b && not c)

  abbrev may : Decision → Bool → Bool → Bool → Type 0
  may choice a b c = cond (comes a b c) (IsComputed w.roles w.redundancy next choice) (IsNone choice)

  abbrev way : (R → R → R) → Words R → Decision → Bool → Bool → Bool → Done R
  way join s choice a b c = cond a (refusal w NotMember) (cond b (refusal w (VersionTaken next)) (cond c (refusal w VersionLimit) (chosen join s layouts trio stage_trio w n next choice)))

  -- what is given where this layout was computed before
  abbrev choice_by : Applied → Bool → Bool → Bool → Decision
  choice_by shown a b c = cond (comes a b c) (given (layout_of next shown) shown) (none_given VersionLimit)

  -- where a refusal stands in the place of a version, this is what is done, and nothing may be given
  way_refused : (join : R → R → R) (s : Words R) (choice : Decision) (reason : Refusal Cut) (a b c : Bool) → version a b c ≡ Err reason → way join s choice a b c ≡ refusal w reason
  way_refused join s choice reason true b c e = let same : NotMember ≡ reason = cc in ap (refusal w) same
  way_refused join s choice reason false true c e = let same : VersionTaken next ≡ reason = cc in ap (refusal w) same
  way_refused join s choice reason false false true e = let same : VersionLimit ≡ reason = cc in ap (refusal w) same
  way_refused join s choice reason false false false e = cc

  may_refused : (reason : Refusal Cut) (a b c : Bool) → version a b c ≡ Err reason → may nothing_given a b c
  may_refused reason true b c e = tt
  may_refused reason false true c e = tt
  may_refused reason false false true e = tt
  may_refused reason false false false e = cc

  -- where there is a version, no test stands against it
  none_against : (v : ℕ) (a b c : Bool) → version a b c ≡ Ok v → (a ≡ false) × (b ≡ false) × (c ≡ false) × (v ≡ next)
  none_against v true b c e = cc
  none_against v false true c e = cc
  none_against v false false true e = cc
  none_against v false false false e = (refl, refl, refl, cc)

  -- what the tests say of the version
  is_outside : outside ≡ true → next_version w n ≡ Err NotMember
  is_outside e = λ i. version (e i) taken full

  is_taken : outside ≡ false → taken ≡ true → next_version w n ≡ Err (VersionTaken next)
  is_taken e f = λ i. version (e i) (f i) full

  is_full : outside ≡ false → taken ≡ false → full ≡ true → next_version w n ≡ Err VersionLimit
  is_full e f g = λ i. version (e i) (f i) (g i)

  is_free : outside ≡ false → taken ≡ false → full ≡ false → next_version w n ≡ Ok next
  is_free e f g = λ i. version (e i) (f i) (g i)

  -- a layout that was computed of what is staged may be given
  may_given : (shown : Applied) → IsFor w.roles w.redundancy shown → (a b c : Bool) → may (choice_by shown a b c) a b c
  may_given shown is true b c = tt
  may_given shown is false true c = tt
  may_given shown is false false true = tt
  may_given shown is false false false = record {
    version_is = refl;
    roles_are = is.same;
    shown_roles = is.same;
    redundancy = refl;
    size = refl;
    sets = refl;
    enough = is.enough;
    certified = is.certified;
  }

  -- what is given is lawful, where the layout was computed of what is staged
  pub given_lawful : (shown : Applied) → IsFor w.roles w.redundancy shown → IsLawfulStep w (Apply n) (given_at w n shown)
  given_lawful shown is = may_given shown is outside taken full

  -- the node has one version more, of a greatest layout, and the world is whole still
  whole_laid : (join : R → R → R) (s : Words R) (laws : Laws join s) (l : Layout) (shown : Applied) → IsWhole join s w → HasGreatest l → l.version ≡ next → outside ≡ false → taken ≡ false → full ≡ false →
      IsWhole join s (applied {C = Cut} w (chosen join s layouts trio stage_trio w n next (given l shown)))
  whole_laid join s laws l shown h best is e f g =
      let above : w.applied < next = leb-false next w.applied f in
      let below = h.sound.versions n in
      let laid : Done R = chosen join s layouts trio stage_trio w n next (given l shown) in record {
        sound = fine_stays_sound w laid h.sound (fine_one w laid n (appends layouts (w.nodes n) l) h.sound (λ m. refl) tt
            (sound_appended w.applied (length w.requests) (w.nodes n) l (node_of w h.sound n) best is (w.applied + 1) (length w.requests + 0) (omega arith) (omega arith)));
        stocked = at_tests (λ a b c. AllStocked (blake2b 32) s join (applied w (way join s (given l shown) a b c))) false false false outside taken full (sym e) (sym f) (sym g)
            (next_world (blake2b 32) laws layouts trio stage_trio w (record { step = Apply n; choice = given l shown }) h.stocked tt
            (at_tests (λ a b c. IsTrue (way join s (given l shown) a b c).is_spelled) outside taken full false false false e f g refl));
      }

module _ {S R : Type 0} (join : R → R → R) (s : Words R) where
  trio_does : (c : World S R) (now : Nodes S R) (roles : Roles) (report : Report R) (w : Model R) → StandsFor join s c w → report ≡ told_report Empty [] → c.applied < 1 → roles.list ≡ stage_trio c.roles.list →
      AreNodes join s now (given_to (1 ∷ 2 ∷ 3 ∷ []) trio w.nodes) → leb 1 w.applied ≡ false → DoesSo join s (record c { nodes = now; roles = roles; applied = 1 }) report w (trio_applies join s layouts trio stage_trio w)
  trio_does c now roles report w h is low new are free =
      let same = h.applied in
      record {
        stands = first_stands join s c now roles w trio stage_trio h (omega arith) trio_is_first (subst (λ rs. roles.list ≡ stage_trio rs) h.roles new) are;
        tells = is_told report Empty [] _ is refl refl refl refl refl;
        spelled = refl;
      }

  pub trio_plays : (c : World S R) (now : Nodes S R) (roles : Roles) (report : Report R) → report ≡ told_report Empty [] → c.applied < 1 → roles.list ≡ stage_trio c.roles.list →
      ((xs : ℕ → Seen R Layout) → AreNodes join s c.nodes xs → AreNodes join s now (given_to (1 ∷ 2 ∷ 3 ∷ []) trio xs)) → Plays join s c (record c { nodes = now; roles = roles; applied = 1 }) report Trio
  trio_plays c now roles report is low new are w h =
      let same = h.applied in
      let free : leb 1 w.applied ≡ false = lt-leb 1 w.applied (omega arith) in
      subst (λ (b : Bool). DoesSo join s (record c { nodes = now; roles = roles; applied = 1 }) report w (cond b (refusal {A = Applied} {C = Cut} w (VersionTaken 1)) (trio_applies join s layouts trio stage_trio w))) (sym free)
      (trio_does c now roles report w h is low new (are w.nodes h.nodes) free)

  pub trio_refused : (c : World S R) (report : Report R) → report ≡ refused_report (VersionTaken 1) → 1 ≤ c.applied → Plays join s c c report Trio
  trio_refused c report is taken w h =
      let same = h.applied in
      let test : leb 1 w.applied ≡ true = le-leb 1 w.applied (omega arith) in
      subst (λ (b : Bool). DoesSo join s c report w (cond b (refusal {A = Applied} {C = Cut} w (VersionTaken 1)) (trio_applies join s layouts trio stage_trio w))) (sym test) (plays_refusal join s c w h report (VersionTaken 1) is)

  module _ (c : World S R) (w : Model R) (h : StandsFor join s c w) (n : ℕ) where
    pub outside_version : outside w n ≡ true → Err NotMember ≡ next_version w n
    outside_version out = sym (is_outside w n out)

    module _ (newest : ℕ) (known : newest ≡ newest_at w n) (inside : outside w n ≡ false) where
      pub taken_version : newest < c.applied → Err (VersionTaken (newest + 1)) ≡ next_version w n
      taken_version low =
          let same = h.applied in
          let after : newest + 1 ≡ suc (newest_at w n) = omega arith in
          ap (λ v. Err (VersionTaken v)) after ∙ sym (is_taken w n inside (le-leb (suc (newest_at w n)) w.applied (omega arith)))

      free : c.applied ≤ newest → taken w n ≡ false
      free high = let same = h.applied in lt-leb (suc (newest_at w n)) w.applied (omega arith)

      pub full_version : c.applied ≤ newest → 100 ≤ c.applied → Err VersionLimit ≡ next_version w n
      full_version high many = let same = h.applied in sym (is_full w n inside (free high) (le-leb most_versions w.applied (omega arith)))

      pub free_version : c.applied ≤ newest → c.applied < 100 → Ok (newest + 1) ≡ next_version w n
      free_version high few =
          let same = h.applied in
          let after : newest + 1 ≡ suc (newest_at w n) = omega arith in
          ap Ok after ∙ sym (is_free w n inside (free high) (lt-leb most_versions w.applied (omega arith)))

    -- it is the one after the newest that the code's node knows
    pub after_newest : (v : ℕ) → Ok v ≡ next_version w n → v ≡ newest_in c.nodes n + 1
    after_newest v e =
        let known = newest_is join s c.nodes w.nodes n h.nodes in
        let is = none_against w n v (outside w n) (taken w n) (full w n) (sym e) in
        let same = is.3 in omega arith

  module _ (c : World S R) (w : Model R) (h : StandsFor join s c w) (n : ℕ) (report : Report R) where
    -- the apply is refused before any layout is looked at, whatever would be given
    pub apply_refused : (choice : Decision) (reason : Refusal Cut) → report ≡ refused_report reason → Err reason ≡ next_version w n → DoesSo join s c report w (does join s w (record { step = Apply n; choice = choice }))
    apply_refused choice reason is e =
        subst (DoesSo join s c report w) (sym (way_refused w n join s choice reason (outside w n) (taken w n) (full w n) (sym e))) (plays_refusal join s c w h report reason is)

    pub refused_step : (reason : Refusal Cut) → report ≡ refused_report reason → Err reason ≡ next_version w n → Stepped join s c report w (Apply n)
    refused_step reason is e = record { choice = nothing_given; lawful = may_refused w n reason (outside w n) (taken w n) (full w n) (sym e); does = apply_refused nothing_given reason is e }

    -- there is no layout of what is staged
    pub undecided_step : (v : ℕ) (reason : Refusal Cut) → report ≡ refused_report reason → Ok v ≡ next_version w n → IsRefused c.roles.list c.redundancy reason → Stepped join s c report w (Apply n)
    undecided_step v reason is e none =
        let free = none_against w n v (outside w n) (taken w n) (full w n) (sym e) in
        let here : IsRefused w.roles w.redundancy reason = subst (λ r. IsRefused w.roles r reason) h.redundancy (subst (λ rs. IsRefused rs c.redundancy reason) h.roles none) in
        record {
          choice = none_given reason;
          lawful = at_tests (may w n (none_given reason)) (outside w n) (taken w n) (full w n) false false false free.0 free.1 free.2 here;
          does = at_tests (λ x y z. DoesSo join s c report w (way w n join s (none_given reason) x y z)) (outside w n) (taken w n) (full w n) false false false free.0 free.1 free.2 (plays_refusal join s c w h report reason is);
        }

    -- the layout is the node's next version
    pub laid : (laws : Laws join s) (now : Nodes S R) (v : ℕ) (l : Layout) (shown : Applied) → Ok v ≡ next_version w n → l ≡ layout_of v shown → HasGreatest (layout_of v shown) → report ≡ told_report (One v) (Laid shown ∷ []) →
        BecomesAt join s c.nodes now n (λ x. appends layouts x l) → DoesSo join s (record c { nodes = now; applied = c.applied + 1 }) report w (does join s w (applying w n shown))
    laid laws now v l shown e is best told becomes =
        let free = none_against w n v (outside w n) (taken w n) (full w n) (sym e) in
        let new : World S R = record c { nodes = now; applied = c.applied + 1 } in
        let same : l ≡ layout_of (next w n) shown = is ∙ ap (λ k. layout_of k shown) free.3 in
        at_tests (λ x y z. DoesSo join s new report w (way w n join s (choice_by w n shown x y z) x y z)) (outside w n) (taken w n) (full w n) false false false free.0 free.1 free.2
        (record {
          stands = stands_of join s new _ (record {
            nodes = subst (λ k. AreNodes join s now (with_node n (appends layouts (w.nodes n) k) w.nodes)) same (becomes w.nodes h.nodes);
            post = same_post join s c w h;
            clocks = same_clocks join s c w h;
            roles = h.roles;
            redundancy = h.redundancy;
            wanted = h.wanted;
            applied = ap (λ a. a + 1) h.applied;
            requests = same_requests join s c w h;
            few = same_few join s c w h;
            whole = whole_laid w n join s laws (layout_of (next w n) shown) shown (whole_of h) best refl free.0 free.1 free.2;
          });
          tells = is_told report (One v) (Laid shown ∷ []) _ told refl (ap One free.3) refl refl refl;
          spelled = refl;
        })

  -- an apply of what was decided is an apply of what is given
  pub decided_step : (c new : World S R) (w : Model R) (n : ℕ) (report : Report R) (shown : Applied) → StandsFor join s c w → IsFor c.roles.list c.redundancy shown → DoesSo join s new report w (does join s w (applying w n shown)) → Stepped join s new report w (Apply n)
  decided_step c new w n report shown h is done =
      let here : IsFor w.roles w.redundancy shown = subst (λ r. IsFor w.roles r shown) h.redundancy (subst (λ rs. IsFor rs c.redundancy shown) h.roles is) in
      record { choice = given_at w n shown; lawful = given_lawful w n shown here; does = done }

  pub decided_steps : (c new : World S R) (n : ℕ) (shown : Applied) → IsFor c.roles.list c.redundancy shown → (r : Result (Report R) Memory) → IfOk r (λ report. Applies join s c new report n shown) → IfOk r (λ report. Steps join s c new report (Apply n))
  decided_steps c new n shown is (Ok report) h = λ w stands. decided_step c new w n report shown stands is (h w stands)
  decided_steps c new n shown is (Err e) h = tt
