-- Rows of a node that begins its round have a spelling, since the step looks at all of them.
use Rattle.std.specs.Prelude.{◌≡◌, ◌≤◌, ℕ, suc, Bool, true, false, cond, ◌==◌, IsTrue, Some, None, List, [], ◌∷◌, refl}
use Rattle.std.specs.Option.{unwrap_or}
use Rattle.std.specs.List.{AllByRecursion, list_all}
use Rattle.std.proofs.Common.{ap, sym, subst, ◌∙◌, inl, inr}
use Rattle.std.proofs.lemmas.Bool.{cond-false, eqb-true, false≢true}
use Rattle.layout_roles.specs.declared.role.Role.{Role}
use Rattle.table_schema.specs.Words.{Words, partition_of}
use Rattle.table_schema.specs.Laws.{Laws}
use Rattle.quorum_model.specs.Quorum.{is_among}
use Rattle.cluster_machine.specs.declared.step.Step.TheVariants.{Sync as Syncs}
use Rattle.cluster_machine.specs.declared.step.Action.TheVariants.{Sync as GoOn}
use Rattle.cluster_machine.specs.declared.step.Refusal.TheVariants.{NotMember}
use Rattle.cluster_machine.specs.Acts.{acts}
use Rattle.cluster_machine.specs.Layouts.{Layouts, set_of, has_none}
use Rattle.cluster_machine.specs.Node.{Node, Part, Did, quiet}
use Rattle.cluster_machine.specs.Phases.{is_spelled}
use Rattle.cluster_machine.specs.Rounds.{rows_at, are_spelled}
use Rattle.cluster_machine.specs.Run.{IsLayout, does, next}
use Rattle.cluster_machine.specs.Step.{Choice, Effects, told, refusal, did}
use Rattle.cluster_machine.specs.World.{World, clock}
use Rattle.drained_laws.specs.Calm.{IsMember}
use Rattle.drained_laws.specs.Waiting.{Has as HasOne}
use Rattle.drained_laws.proofs.Views.{among_here, among_there}
use Rattle.drained_laws.proofs.Waits.{all_has}
use Rattle.change_model.specs.Steps.{each}
use Rattle.change_laws.specs.Script.{AreApart, AreSpelled}
use Rattle.change_laws.specs.Handing.{HasGood, Has}
use Rattle.change_laws.proofs.Begun.{among_rows, IsIt, part_there}
use Rattle.change_laws.proofs.Lists.{some_one, all_of_list}
use Rattle.change_laws.proofs.Raising.{some_known}
use Rattle.change_laws.proofs.Spread.{among_parts}
use Rattle.change_laws.proofs.Starting.{IsReady, sync_so, parts, begun_with}

module _ {R : Type 0} {join : R → R → R} {s : Words R} (laws : Laws join s) (good : R → Type 0) (good_proper : (r : R) → good r → IsTrue (s.is_proper r))
    {L : Type 0} (k : Layouts L) (l new : L) (later : k.reading.version new ≡ suc (k.reading.version l)) (real : 1 ≤ k.reading.version l) (layout : IsLayout k 256 l) (layout_new : IsLayout k 256 new)
    (part : List ℕ) (members : (n : ℕ) → IsMember k l n → IsTrue (is_among n part)) (members_new : (n : ℕ) → IsMember k new n → IsTrue (is_among n part))
    (A C : Type 0) (trio : L) (trio_roles : List Role → List Role) (choice : Choice L A C) where
  abbrev Ready : Node R L → Type 0
  Ready x = IsReady laws k l new later real layout layout_new part members members_new x

  module _ (w : World R L) (n : ℕ) (is_ready : Ready (w.nodes n)) where
    does_so : does {A = A} {C = C} join s k trio trio_roles w (record { step = Syncs n; choice = choice }) ≡ record (did w n (acts join s k n (clock w n) (w.nodes n) GoOn).did) { words = told (acts join s k n (clock w n) (w.nodes n) GoOn).how }
    does_so = cond-false (has_none k (w.nodes n).view) (refusal w NotMember) (record (did w n (acts join s k n (clock w n) (w.nodes n) GoOn).did) { words = told (acts join s k n (clock w n) (w.nodes n) GoOn).how }) (some_known k l new later (w.nodes n).view is_ready.layouts)

    -- another node stays as it was
    other_stays : (j : ℕ) → (j == n) ≡ false → (next {A = A} {C = C} join s k trio trio_roles w (record { step = Syncs n; choice = choice })).nodes j ≡ w.nodes j
    other_stays j e =
        ap (λ (f : Effects R L A C). unwrap_or (f.nodes j) (w.nodes j)) does_so
        ∙ ap (λ b. unwrap_or (cond b (Some (acts join s k n (clock w n) (w.nodes n) GoOn).did.node) None) (w.nodes j)) e

    -- its rows have a spelling
    step_spelled : IsTrue (is_among n (k.storage l)) → IsTrue ((does {A = A} {C = C} join s k trio trio_roles w (record { step = Syncs n; choice = choice })).is_spelled) →
        are_spelled join s k (w.nodes n) (parts laws k l new later real layout layout_new part members members_new n (w.nodes n) is_ready) ≡ true
    step_spelled storage spelled =
        let begun = begun_with laws k l new later real layout layout_new part members members_new n (w.nodes n) is_ready (k.reading.version l) (Some l) (Some new) in
        ap (λ b. (cond b begun (quiet (w.nodes n))).is_spelled) (sym storage)
        ∙ (ap (λ (f : Did R L). f.is_spelled) (sym (sync_so laws k l new later real layout layout_new part members members_new n (w.nodes n) is_ready (clock w n)))
        ∙ (ap (λ (f : Effects R L A C). f.is_spelled) (sym does_so) ∙ spelled))

  module _ (was : ℕ → Node R L) (ready : (n : ℕ) → IsTrue (is_among n part) → Ready (was n)) where
    each_spelled : (ns : List ℕ) → AreApart ns → AllByRecursion (λ n. IsTrue (is_among n part)) ns → (w : World R L) → ((j : ℕ) → IsTrue (is_among j ns) → w.nodes j ≡ was j) → AreSpelled A C join s k trio trio_roles w (each choice Syncs ns) →
        (n : ℕ) → IsTrue (is_among n ns) → IsTrue (is_among n (k.storage l)) → (is_ready : Ready (was n)) → are_spelled join s k (was n) (parts laws k l new later real layout layout_new part members members_new n (was n) is_ready) ≡ true
    each_spelled [] apart all w same spelled n e storage is_ready = cc
    each_spelled (m ∷ ms) apart all w same spelled n e storage is_ready = elim (among_parts n m ms e) [
      | inl here ↦ at_first here
      | inr there ↦ each_spelled ms apart.1 all.1 _ rest_same spelled.1 n there storage is_ready
    ]
      where
        ready_here : Ready (w.nodes m)
        ready_here = subst Ready (sym (same m (among_here m ms))) (ready m all.0)

        at_first : m ≡ n → are_spelled join s k (was n) (parts laws k l new later real layout layout_new part members members_new n (was n) is_ready) ≡ true
        at_first here =
            let first : (r : Ready (w.nodes m)) → are_spelled join s k (w.nodes m) (parts laws k l new later real layout layout_new part members members_new m (w.nodes m) r) ≡ true = λ r. step_spelled w m r (subst (λ j. IsTrue (is_among j (k.storage l))) (sym here) storage) spelled.0 in
            let second : (r : Ready (was m)) → are_spelled join s k (was m) (parts laws k l new later real layout layout_new part members members_new m (was m) r) ≡ true =
            subst (λ (x : Node R L). (r : Ready x) → are_spelled join s k x (parts laws k l new later real layout layout_new part members members_new m x r) ≡ true) (same m (among_here m ms)) first in
            subst (λ j. (r : Ready (was j)) → are_spelled join s k (was j) (parts laws k l new later real layout layout_new part members members_new j (was j) r) ≡ true) here second is_ready

        not_first : (j : ℕ) → IsTrue (is_among j ms) → (b : Bool) → (j == m) ≡ b → b ≡ false
        not_first j e true f = absurd (false≢true (sym apart.0 ∙ subst (λ z. IsTrue (is_among z ms)) (eqb-true j m f) e))
        not_first j e false f = refl

        rest_same : (j : ℕ) → IsTrue (is_among j ms) → (next {A = A} {C = C} join s k trio trio_roles w (record { step = Syncs m; choice = choice })).nodes j ≡ was j
        rest_same j e = other_stays w m ready_here j (let b = not_first j e (j == m) refl in b) ∙ same j (among_there j m ms e)

    -- each good row of such a node has a spelling
    pub row_spelled : AreApart part → AllByRecursion (λ n. IsTrue (is_among n part)) part → (w : World R L) → w.nodes ≡ was → AreSpelled A C join s k trio trio_roles w (each choice Syncs part) → (n : ℕ) (here : IsTrue (is_among n part)) → IsTrue (is_among n (k.storage l)) → HasGood join s good (was n).accepted →
        (r : R) → good r → Has join s good r (was n) → IsTrue (is_among n (set_of k l (partition_of s r))) → is_spelled s r ≡ true
    row_spelled apart all w same spelled n here storage has r is_good there of_old =
        let is_ready = ready n here in
        let ps = parts laws k l new later real layout layout_new part members members_new n (was n) is_ready in
        let parts_spelled = all_of_list (λ (q : Part). list_all (is_spelled s) (rows_at join s (was n) q.partition)) ps (each_spelled part apart all w (λ j e. ap (λ f. f j) same) spelled n here storage is_ready) in
        let q = some_one (IsIt laws good good_proper k l new later real layout layout_new part members members_new n (was n) is_ready has r is_good there of_old) ps (part_there laws good good_proper k l new later real layout layout_new part members members_new n (was n) is_ready has r is_good there of_old) in
        let rows_spelled = all_of_list (is_spelled s) (rows_at join s (was n) q.0.partition) (all_has (λ (q : Part). list_all (is_spelled s) (rows_at join s (was n) q.partition) ≡ true) ps q.0 parts_spelled q.1.0) in
        all_has (λ r. is_spelled s r ≡ true) (rows_at join s (was n) q.0.partition) r rows_spelled
        (subst (λ j. HasOne (rows_at join s (was n) j) r) (sym q.1.1.0) (among_rows laws good good_proper k l new later real layout layout_new part members members_new n (was n) is_ready has r is_good there of_old))
