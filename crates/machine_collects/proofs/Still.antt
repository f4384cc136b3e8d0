-- Steps in which no node takes or drops a row: the node that sends shows its row of now.
use Rattle.std.specs.Prelude.{◌≡◌, ◌≢◌, ◌⊎◌, ◌≤◌, ◌+◌, ℕ, List, [], ◌∷◌, ◌++◌, Option, Some, None, refl, ⊤}
use Rattle.std.specs.List.{AllByRecursion}
use Rattle.std.proofs.Common.{ap, sym, subst, ◌∙◌, inl, inr, arith}
use Rattle.crdt_core.specs.Members.{Has}
use Rattle.control_model.specs.World as control
use Rattle.control_model.specs.Steps.{Step}
use Rattle.view_model.specs.View.{oldest}
use Rattle.table_schema.specs.Words.{Words}
use Rattle.table_model.specs.Rows.{row_at}
use Rattle.gc_model.specs.Collecting.{Open}
use Rattle.plane_model.specs.Control.{led_to}
use Rattle.plane_meets.specs.Joint.{seen}
use Rattle.collection_model.specs.Action as act
use Rattle.collection_model.specs.Action.{step, run, Happens}
use Rattle.collection_laws.proofs.Sound.{IsSound}
use Rattle.collection_laws.proofs.Laws.{happens_append, run_append}
use Rattle.cluster_machine.specs.Layouts.{Layouts}
use Rattle.cluster_machine.specs.Node.{Node}
use Rattle.cluster_machine.specs.World.{World}
use Rattle.cluster_machine.specs.Step.{Effects, changed, skewed, applied}
use Rattle.machine_laws.proofs.Rounding.{Goes}
use Rattle.machine_collects.specs.Versions.{Version, Versions, hour}
use Rattle.machine_collects.specs.Tie.{State, Issued, IsNoObject, IsCollected, Means, IsNode, IsTied}
use Rattle.machine_collects.proofs.OfKey.{some_is}
use Rattle.machine_collects.proofs.Growth.{Act, Grew, grew_run, later_self, same_self, node_stays}
use Rattle.machine_collects.proofs.Leads.{Place, IsCalm, calm_run, Leads, by_nodes, moved, stays}

module _ {R L : Type 0} (join : R → R → R) (s : Words R) (v : Versions R) (k : Layouts L) (partitions : ℕ) (some : 1 ≤ partitions) (key : List ℕ) (partition : ℕ) where
  -- a node keeps its rows, has no object row in its outbox, and keeps its collections or loses them all
  pub record Calm (x y : Node R L) : Type 0 where
    pub accepted : y.accepted ≡ x.accepted
    pub items : AllByRecursion (IsNoObject s) x.items → AllByRecursion (IsNoObject s) y.items
    pub gc : (y.gc ≡ x.gc) ⊎ (y.gc ≡ record x.gc { collections = [] })

  pub calm_self : (x : Node R L) → Calm x x
  calm_self x = record { accepted = refl; items = λ i. i; gc = inl refl }

  -- a node shows its row of now, if it has one
  abbrev pub own : ℕ → Option R → List (Act join s v k partitions key partition)
  own n None = []
  own n (Some x) = act.shows n x ∷ []

  pub own_calm : (n : ℕ) (o : Option R) → AllByRecursion (IsCalm join s v k partitions some key partition) (own n o)
  own_calm n None = tt
  own_calm n (Some x) = (tt, tt)

  pub own_happens : (w : State R L) (n : ℕ) (o : Option R) → w.row n ≡ o → Happens (Place join s v k partitions some key partition) w (own n o)
  own_happens w n None e = tt
  own_happens w n (Some x) e = (e, tt)

  pub own_rows : (w : State R L) (n : ℕ) (o : Option R) (i : ℕ) → (run (Place join s v k partitions some key partition) w (own n o)).row i ≡ w.row i
  own_rows w n None i = refl
  own_rows w n (Some x) i = refl

  pub own_shown : (w : State R L) (n : ℕ) (o : Option R) (r : R) → o ≡ Some r → Has (run (Place join s v k partitions some key partition) w (own n o)).shown (record { row = r; moment = w.time })
  own_shown w n None r e = cc
  own_shown w n (Some x) r e = (let P : R → Type 0 = λ r. Has (run (Place join s v k partitions some key partition) w (own n (Some x))).shown (record { row = r; moment = w.time }) in subst P (some_is (Some x) x r refl e) (inl refl))

  module _ {A C : Type 0} (m : World R L) (w : State R L) (g : Issued R) (sound : IsSound (Place join s v k partitions some key partition) w) (t : IsTied join s v k partitions key partition m w g) (e : Effects R L A C) where
    abbrev S : Rattle.collection_model.specs.Site.Site (control.World L) (Step L) R Version
    S = Place join s v k partitions some key partition

    -- the control plane steps, node n shows its row, and then more is sent
    abbrev pub acts_of : Goes k partitions m w.control e → ℕ → List (Act join s v k partitions key partition) → List (Act join s v k partitions key partition)
    acts_of goes n more = act.moves goes.steps w.row ∷ (own n (w.row n) ++ more)

    abbrev pub mid_of : Goes k partitions m w.control e → ℕ → State R L
    mid_of goes n = run S (step S w (act.moves goes.steps w.row)) (own n (w.row n))

    pub run_of : (goes : Goes k partitions m w.control e) (n : ℕ) (more : List (Act join s v k partitions key partition)) → run S w (acts_of goes n more) ≡ run S (mid_of goes n) more
    run_of goes n more = run_append S (own n (w.row n)) more (step S w (act.moves goes.steps w.row))

    pub happens_of : (goes : Goes k partitions m w.control e) (n : ℕ) (more : List (Act join s v k partitions key partition)) → ((i : ℕ) → (w.row i ≡ None) ⊎ (oldest k.reading (changed e.nodes m.nodes i).view ≤ oldest k.reading (m.nodes i).view)) → Happens S (mid_of goes n) more → Happens S w (acts_of goes n more)
    happens_of goes n more low happens = (
      (λ i. stays join s v k partitions some key partition m w g sound t e goes i (low i)),
      happens_append S (own n (w.row n)) more (step S w (act.moves goes.steps w.row)) (own_happens (step S w (act.moves goes.steps w.row)) n (w.row n) refl) happens,
    )

    -- rows of now that node n sends have been shown
    pub shown_of : (goes : Goes k partitions m w.control e) (n : ℕ) (more : List (Act join s v k partitions key partition)) (r : R) → row_at join s (m.nodes n).accepted 1 key ≡ Some r → Has (run S w (acts_of goes n more)).shown (record { row = r; moment = m.time })
    shown_of goes n more r is =
        let here : w.row n ≡ Some r = (t.nodes n).row ∙ is in
        let first : Has (mid_of goes n).shown (record { row = r; moment = w.time }) = own_shown (step S w (act.moves goes.steps w.row)) n (w.row n) r here in
        let then : Has (run S (mid_of goes n) more).shown (record { row = r; moment = w.time }) = (grew_run join s v k partitions key partition more (mid_of goes n)).shown _ first in
        let P : State R L → Type 0 = λ w'. Has w'.shown (record { row = r; moment = m.time }) in
        let Q : ℕ → Type 0 = λ moment. Has (run S (mid_of goes n) more).shown (record { row = r; moment = moment }) in
        subst P (sym (run_of goes n more)) (subst Q t.time then)

    -- a node that is calm is as it was
    pub calm_node : (new : State R L) → Grew w new → (i : ℕ) (y : Node R L) → Calm (m.nodes i) y → new.row i ≡ w.row i → IsNode join s v k partitions key partition new g i y
    calm_node new grew i y calm row =
        let x = m.nodes i in
        let old = node_stays join s v k partitions key partition w new grew g g i x (same_self g i) row (t.nodes i) in
        elim calm.gc [
          | inl same ↦ record {
            row = old.row ∙ ap (λ rs. row_at join s rs 1 key) (sym calm.accepted);
            proper = subst (AllByRecursion (λ r. Rattle.std.specs.Prelude.IsTrue (s.is_proper r))) (sym calm.accepted) old.proper;
            items = calm.items old.items;
            last = old.last ∙ ap (λ (o : Open). o.begun) (sym same);
            unissued = (let P : Open → Type 0 = λ o. (j : ℕ) → Rattle.std.specs.Prelude.suc o.begun ≤ j → (g.begun i j ≡ None) × (g.second i j ≡ None) in subst P (sym same) old.unissued);
            collections = (let P : Open → Type 0 = λ o. AllByRecursion (Rattle.machine_collects.specs.Tie.IsOpen join s v k partitions key partition new g i) o.collections in subst P (sym same) old.collections);
            different = (let P : Open → Type 0 = λ o. Rattle.machine_collects.specs.Tie.AreDifferent (Rattle.std.specs.Prelude.map Rattle.machine_collects.specs.Tie.number_of o.collections) in subst P (sym same) old.different);
          }
          | inr lost ↦ record {
            row = old.row ∙ ap (λ rs. row_at join s rs 1 key) (sym calm.accepted);
            proper = subst (AllByRecursion (λ r. Rattle.std.specs.Prelude.IsTrue (s.is_proper r))) (sym calm.accepted) old.proper;
            items = calm.items old.items;
            last = old.last ∙ ap (λ (o : Open). o.begun) (sym lost);
            unissued = (let P : Open → Type 0 = λ o. (j : ℕ) → Rattle.std.specs.Prelude.suc o.begun ≤ j → (g.begun i j ≡ None) × (g.second i j ≡ None) in subst P (sym lost) old.unissued);
            collections = (let P : Open → Type 0 = λ o. AllByRecursion (Rattle.machine_collects.specs.Tie.IsOpen join s v k partitions key partition new g i) o.collections in subst P (sym lost) tt);
            different = (let P : Open → Type 0 = λ o. Rattle.machine_collects.specs.Tie.AreDifferent (Rattle.std.specs.Prelude.map Rattle.machine_collects.specs.Tie.number_of o.collections) in subst P (sym lost) tt);
          }
        ]

    -- no row is taken or dropped: what is sent are rows of now of node n, and rows that more actions send
    pub still_leads : (goes : Goes k partitions m w.control e) (n : ℕ) (more : List (Act join s v k partitions key partition)) →
        ((i : ℕ) → (w.row i ≡ None) ⊎ (oldest k.reading (changed e.nodes m.nodes i).view ≤ oldest k.reading (m.nodes i).view)) → e.passes ≡ 0 → ((i : ℕ) → skewed e.skews m.skew_of i ≤ hour) → e.collects ≡ [] →
        ((i : ℕ) → Calm (m.nodes i) (changed e.nodes m.nodes i)) →
        AllByRecursion (IsCalm join s v k partitions some key partition) more → Happens S (mid_of goes n) more → ((i : ℕ) → (run S (mid_of goes n) more).row i ≡ (mid_of goes n).row i) →
        AllByRecursion (Means join s v k partitions key partition (run S w (acts_of goes n more)) g m.collected) e.sends → Leads join s v k partitions some key partition m w g e
    still_leads goes n more low passes skews collects calm is_calm happens rows sends =
        let acts = acts_of goes n more in
        let new = run S w acts in
        let mid = mid_of goes n in
        let first = step S w (act.moves goes.steps w.row) in
        let same : new ≡ run S mid more = run_of goes n more in
        let one = calm_run join s v k partitions some key partition (own n (w.row n)) first (own_calm n (w.row n)) in
        let two = calm_run join s v k partitions some key partition more mid is_calm in
        let control : new.control ≡ led_to (seen k.reading partitions) w.control goes.steps = ap (λ (w' : State R L). w'.control) same ∙ (two.0 ∙ one.0) in
        let time : new.time ≡ w.time = ap (λ (w' : State R L). w'.time) same ∙ (two.1 ∙ one.1) in
        let row : (i : ℕ) → new.row i ≡ w.row i = λ i. ap (λ (w' : State R L). w'.row i) same ∙ (rows i ∙ own_rows first n (w.row n) i) in
        let grew = grew_run join s v k partitions key partition acts w in
        let none : 0 ≡ e.passes = sym passes in
        let now : w.time ≡ m.time = t.time in
        by_nodes join s v k partitions some key partition m w g sound t e acts g (happens_of goes n more low happens) (later_self g)
        (subst (Rattle.machine_laws.specs.Follows.Controlled k partitions (applied m e)) (sym control) (moved join s v k partitions some key partition m w g sound t e goes))
        (let a : new.time ≡ w.time = time in omega arith)
        skews
        (λ i. calm_node new grew i (changed e.nodes m.nodes i) (calm i) (row i))
        (subst (λ (c : List R). AllByRecursion (Means join s v k partitions key partition new g (c ++ m.collected)) e.sends) (sym collects) sends)
        (subst (AllByRecursion (IsCollected join s v k partitions key partition new)) (sym collects) tt)

    -- no more is sent than rows of now
    pub quiet_leads : (goes : Goes k partitions m w.control e) (n : ℕ) →
        ((i : ℕ) → (w.row i ≡ None) ⊎ (oldest k.reading (changed e.nodes m.nodes i).view ≤ oldest k.reading (m.nodes i).view)) → e.passes ≡ 0 → ((i : ℕ) → skewed e.skews m.skew_of i ≤ hour) → e.collects ≡ [] →
        ((i : ℕ) → Calm (m.nodes i) (changed e.nodes m.nodes i)) →
        AllByRecursion (Means join s v k partitions key partition (run S w (acts_of goes n [])) g m.collected) e.sends → Leads join s v k partitions some key partition m w g e
    quiet_leads goes n low passes skews collects calm sends = still_leads goes n [] low passes skews collects calm tt tt (λ i. refl) sends
