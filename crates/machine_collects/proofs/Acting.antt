-- Steps in which one node's rows change: rows come, a view takes them away, and a store phase begins.
use Rattle.std.specs.Prelude.{◌≡◌, ◌≢◌, ◌≤◌, ◌+◌, ℕ, suc, Bool, true, false, not, cond, ◌==◌, leb, nat_lt, List, [], ◌∷◌, ◌++◌, Option, None, IsTrue, map, refl}
use Rattle.std.specs.List.{AllByRecursion, list_all}
use Rattle.std.proofs.Common.{ap, sym, subst, ◌∙◌, inl, inr, arith}
use Rattle.std.proofs.lemmas.Bool.{eq-eqb, ne_eqb, cases_eq, leb-true}
use Rattle.crdt_core.specs.Members.{Has}
use Rattle.crdt_core.proofs.Each.{all_append, all_weaker}
use Rattle.control_model.specs.World as control
use Rattle.control_model.specs.Steps.{Step}
use Rattle.view_model.specs.View.{View, oldest, newest}
use Rattle.table_schema.specs.Words.{Words, partition_of}
use Rattle.table_schema.specs.Laws.{Laws}
use Rattle.table_model.specs.Rows.{row_at}
use Rattle.wire_messages.specs.declared.message.Tag.{Tag}
use Rattle.wire_messages.specs.declared.message.Tag.TheVariants.{Call as ForCall}
use Rattle.wire_messages.specs.declared.message.Message.TheVariants.{Store, Stored, Behind, NotHere}
use Rattle.plane_model.specs.Control.{led_to}
use Rattle.plane_meets.specs.Joint.{seen}
use Rattle.collection_model.specs.Action as act
use Rattle.collection_model.specs.Action.{run, step, Happens, Stays}
use Rattle.collection_laws.proofs.Sound.{IsSound}
use Rattle.cluster_machine.specs.Layouts.{Layouts, is_given, stored_sets}
use Rattle.cluster_machine.specs.Node.{Node, Did, quiet}
use Rattle.cluster_machine.specs.Rows.{accepts_all, drops, sees, still}
use Rattle.cluster_machine.specs.Phases.{nodes_of, to_each, bytes_of, is_spelled, stores}
use Rattle.cluster_machine.specs.Receives.{answers, takes}
use Rattle.cluster_machine.specs.World.{World, clock}
use Rattle.cluster_machine.specs.Step.{Effects, changed, applied}
use Rattle.machine_laws.specs.Follows.{Controlled}
use Rattle.machine_laws.proofs.Rounding.{Goes}
use Rattle.machine_collects.specs.Versions.{Version, Versions, VersionLaws, hour, is_of}
use Rattle.machine_collects.specs.Tie.{State, Issued, IsOf, IsStored, IsCollected, Means, IsNode, IsTied, with_read, rows_read}
use Rattle.machine_collects.proofs.OfKey.{of_test, test_of, row_kept, row_gone}
use Rattle.machine_collects.proofs.Growth.{Act, Grew, grew_run, Later, SameAt, later_self, same_self, same_for_at, open_stays}
use Rattle.machine_collects.proofs.Leads.{Place, IsCalm, calm_run, Leads, by_node, moved, stays}
use Rattle.machine_collects.proofs.Sends.{MeansPost, means_each, sent_mean, read_spelled, all_filter}
use Rattle.machine_collects.proofs.Hearing.{calm_answers}
use Rattle.machine_collects.proofs.Doing.{changed_is, IsDid, skews_of, each_node, own_node, given_after, not_given_after, did_leads}
use Rattle.machine_collects.proofs.Taking.{HasRows, MayBring, Takes, takes_all, take_all, accepts_gc, accepts_view}

module _ {R L : Type 0} (join : R → R → R) (s : Words R) (laws : Laws join s) (v : Versions R) (versions : VersionLaws join s v) (k : Layouts L) (partitions : ℕ) (some : 1 ≤ partitions) (key : List ℕ) (partition : ℕ) where
  abbrev S : Rattle.collection_model.specs.Site.Site (control.World L) (Step L) R Version
  S = Place join s v k partitions some key partition

  -- a node with other rows and the same collections
  pub with_rows : (w new : State R L) (g : Issued R) (n : ℕ) (x y : Node R L) → Grew w new → IsNode join s v k partitions key partition w g n x → y.gc ≡ x.gc → HasRows join s laws v versions k partitions some key partition new n y → IsNode join s v k partitions key partition new g n y
  with_rows w new g n x y grew h gc rows = record {
    row = rows.row;
    proper = rows.proper;
    items = rows.items;
    last = h.last ∙ ap (λ (o : Rattle.gc_model.specs.Collecting.Open). o.begun) (sym gc);
    unissued = (let P : Rattle.gc_model.specs.Collecting.Open → Type 0 = λ o. (j : ℕ) → suc o.begun ≤ j → (g.begun n j ≡ None) × (g.second n j ≡ None) in subst P (sym gc) h.unissued);
    collections = (let P : Rattle.gc_model.specs.Collecting.Open → Type 0 = λ o. AllByRecursion (Rattle.machine_collects.specs.Tie.IsOpen join s v k partitions key partition new g n) o.collections in subst P (sym gc) (all_weaker _ _ (λ c. open_stays join s v k partitions key partition w new grew g g n c (same_for_at g g n c.number (same_self g n))) x.gc.collections h.collections));
    different = (let P : Rattle.gc_model.specs.Collecting.Open → Type 0 = λ o. Rattle.machine_collects.specs.Tie.AreDifferent (map Rattle.machine_collects.specs.Tie.number_of o.collections) in subst P (sym gc) h.different);
  }

  module _ {A C : Type 0} (m : World R L) (w : State R L) (g : Issued R) (sound : IsSound S w) (t : IsTied join s v k partitions key partition m w g) (e : Effects R L A C) where
    -- rows after the control plane's steps, and then more
    abbrev pub acts_with : Goes k partitions m w.control e → (ℕ → Option R) → List (Act join s v k partitions key partition) → List (Act join s v k partitions key partition)
    acts_with goes rows more = act.moves goes.steps rows ∷ more

    abbrev pub after_moves : Goes k partitions m w.control e → (ℕ → Option R) → State R L
    after_moves goes rows = step S w (act.moves goes.steps rows)

    -- one node's rows change
    pub acts_lead : (goes : Goes k partitions m w.control e) (n : ℕ) (d : Did R L) → IsDid m e n d → (rows : ℕ → Option R) → ((i : ℕ) → i ≢ n → rows i ≡ w.row i) → ((i : ℕ) → Stays S (led_to (seen k.reading partitions) w.control goes.steps) (w.row i) (rows i) i) →
        (more : List (Act join s v k partitions key partition)) (h : Issued R) → Later g h → ((i : ℕ) → i ≢ n → SameAt g h i) → Happens S (after_moves goes rows) more → AllByRecursion (IsCalm join s v k partitions some key partition) more → ((i : ℕ) → i ≢ n → (run S (after_moves goes rows) more).row i ≡ rows i) →
        IsNode join s v k partitions key partition (run S w (acts_with goes rows more)) h n d.node →
        AllByRecursion (MeansPost join s laws v k partitions key partition (run S w (acts_with goes rows more)) h (d.collects ++ m.collected) n m.time) d.posts →
        AllByRecursion (IsCollected join s v k partitions key partition (run S w (acts_with goes rows more))) d.collects → Leads join s v k partitions some key partition m w g e
    acts_lead goes n d is rows others may more h later same happens calm kept node posts collects =
        let acts = acts_with goes rows more in
        let new = run S w acts in
        let calms = calm_run join s v k partitions some key partition more (after_moves goes rows) calm in
        let now : w.time ≡ m.time = t.time in
        let none : e.passes ≡ 0 = is.passes in
        let time : new.time ≡ w.time = calms.1 in
        by_node join s v k partitions some key partition m w g sound t e n d.node acts h (changed_is e.nodes m.nodes n d.node is.nodes) (may, happens) later same
        (subst (Controlled k partitions (applied m e)) (sym calms.0) (moved join s v k partitions some key partition m w g sound t e goes))
        (omega arith) (skews_of join s laws v k partitions some key partition m w g sound t e n d is)
        (λ i apart. kept i apart ∙ others i apart) node
        (subst (λ c. AllByRecursion (Means join s v k partitions key partition new h (c ++ m.collected)) e.sends) (sym is.collects) (subst (AllByRecursion (Means join s v k partitions key partition new h (d.collects ++ m.collected))) (sym is.sends) (sent_mean join s laws v k partitions key partition new h (d.collects ++ m.collected) m n d.posts posts)))
        (subst (AllByRecursion (IsCollected join s v k partitions key partition new)) (sym is.collects) collects)

    -- a node whose oldest version doesn't rise keeps its row, as all others do
    pub stay_all : (goes : Goes k partitions m w.control e) (n : ℕ) (d : Did R L) → IsDid m e n d → oldest k.reading d.node.view ≤ oldest k.reading (m.nodes n).view → (i : ℕ) → Stays S (led_to (seen k.reading partitions) w.control goes.steps) (w.row i) (w.row i) i
    stay_all goes n d is low i = stays join s v k partitions some key partition m w g sound t e goes i (inr (each_node join s laws v k partitions some key partition m w g sound t e n d is (λ i y. oldest k.reading y.view ≤ oldest k.reading (m.nodes i).view) low (λ i. omega arith) i))

    pub rows_of : (n : ℕ) → HasRows join s laws v versions k partitions some key partition w n (m.nodes n)
    rows_of n = record { row = (t.nodes n).row; proper = (t.nodes n).proper; items = (t.nodes n).items }

    -- a node takes the rows of a message
    brings : (goes : Goes k partitions m w.control e) (n from moment : ℕ) (tag : Tag) (p : ℕ) (bs : List (List ℕ × Option (List ℕ))) → m.time ≤ moment + hour → Has Rattle.cluster_machine.specs.Collects.all_nodes n → ((r : R) → IsOf join s v k partitions key partition r → partition_of s r ≡ partition) →
        AllByRecursion (IsStored join s v k partitions key partition w moment p) (rows_read s bs) → is_given k (m.nodes n).view n p ≡ true → IsDid m e n (answers (accepts_all join s (clock m n) (m.nodes n) bs) from (Stored tag)) → Leads join s v k partitions some key partition m w g e
    brings goes n from moment tag p bs live asked one means given is =
        let x = m.nodes n in
        let now = clock m n in
        let y = accepts_all join s now x bs in
        let d : Did R L = answers y from (Stored tag) in
        let mid = after_moves goes w.row in
        let view : y.view ≡ x.view = accepts_view join s laws v versions k partitions some key partition now bs x in
        let low : oldest k.reading y.view ≤ oldest k.reading x.view = (let P : View L → Type 0 = λ z. oldest k.reading z ≤ oldest k.reading x.view in subst P (sym view) (omega arith)) in
        let bring : (r : R) → IsStored join s v k partitions key partition w moment p r → IsOf join s v k partitions key partition r → MayBring join s laws v versions k partitions some key partition mid n moment = λ r h of. record {
          live = (let now' : w.time ≡ m.time = t.time in omega arith);
          asked = asked;
          given = (let here : p ≡ partition = sym h.0 ∙ one r of in given_after join s laws v k partitions some key partition m w g sound t e goes n y (own_node join s laws v k partitions some key partition m w g sound t e n d is) (ap (λ (z : View L). is_given k z n partition) view ∙ (ap (λ q. is_given k x.view n q) (sym here) ∙ given)));
        } in
        let took : Takes join s laws v versions k partitions some key partition mid n y (takes_all join s laws v versions k partitions some key partition n moment (rows_read s bs)) =
        take_all join s laws v versions k partitions some key partition now mid n moment x bs (record { row = (t.nodes n).row; proper = (t.nodes n).proper; items = (t.nodes n).items })
        (all_weaker _ _ (λ r h. h.1) (rows_read s bs) means) (all_weaker _ _ bring (rows_read s bs) means) in
        let more = takes_all join s laws v versions k partitions some key partition n moment (rows_read s bs) in
        acts_lead goes n d is w.row (λ i d. refl) (stay_all goes n d is low) more g (later_self g) (λ i d. same_self g i) took.happens took.calm (λ i apart. took.took.others i apart)
        (with_rows w (run S w (acts_with goes w.row more)) g n x y (grew_run join s v k partitions key partition (acts_with goes w.row more) w) (t.nodes n) (accepts_gc join s laws v versions k partitions some key partition now bs x) took.rows)
        (tt, tt) tt

    -- a store comes
    pub store_leads : (goes : Goes k partitions m w.control e) (n from moment : ℕ) (tag : Tag) (named p : ℕ) (bs : List (List ℕ × Option (List ℕ))) → m.time ≤ moment + hour → Has Rattle.cluster_machine.specs.Collects.all_nodes n → ((r : R) → IsOf join s v k partitions key partition r → partition_of s r ≡ partition) →
        AllByRecursion (IsStored join s v k partitions key partition w moment p) (rows_read s bs) → IsDid m e n (takes join s k n (clock m n) (m.nodes n) from tag named p bs) → Leads join s v k partitions some key partition m w g e
    store_leads goes n from moment tag named p bs live asked one means is =
        by_first (nat_lt (newest k.reading (m.nodes n).view) named) is
      where
        twice : (b : Bool) → b ≡ not (not b)
        twice true = refl
        twice false = refl

        by_second : (b : Bool) → is_given k (m.nodes n).view n p ≡ not b → IsDid m e n (cond b (answers (m.nodes n) from (NotHere tag)) (answers (accepts_all join s (clock m n) (m.nodes n) bs) from (Stored tag))) → Leads join s v k partitions some key partition m w g e
        by_second true given is = did_leads join s laws v k partitions some key partition m w g sound t e goes n (answers (m.nodes n) from (NotHere tag)) is (calm_answers join s laws v k partitions some key partition (m.nodes n) from (NotHere tag)) (λ w' shown. (tt, tt))
        by_second false given is = brings goes n from moment tag p bs live asked one means given is

        by_first : (b : Bool) → IsDid m e n (cond b (answers (m.nodes n) from (Behind tag (newest k.reading (m.nodes n).view))) (cond (not (is_given k (m.nodes n).view n p)) (answers (m.nodes n) from (NotHere tag)) (answers (accepts_all join s (clock m n) (m.nodes n) bs) from (Stored tag)))) → Leads join s v k partitions some key partition m w g e
        by_first true is = did_leads join s laws v k partitions some key partition m w g sound t e goes n (answers (m.nodes n) from (Behind tag (newest k.reading (m.nodes n).view))) is (calm_answers join s laws v k partitions some key partition (m.nodes n) from (Behind tag (newest k.reading (m.nodes n).view))) (λ w' shown. (tt, tt))
        by_first false is = by_second (not (is_given k (m.nodes n).view n p)) (twice (is_given k (m.nodes n).view n p)) is

    -- a view takes rows away, exactly where the node is not given their partition any more
    view_drops : (goes : Goes k partitions m w.control e) (n now : ℕ) (z : View L) → ((r : R) → IsOf join s v k partitions key partition r → partition_of s r ≡ partition) → IsDid m e n (quiet (drops join s k n now (record (m.nodes n) { view = z; round = still (oldest k.reading z) (m.nodes n).round }))) → Leads join s v k partitions some key partition m w g e
    view_drops goes n now z one is =
        let x = m.nodes n in
        let test : ℕ → Bool = λ part. is_given k z n part in
        let y = drops join s k n now (record x { view = z; round = still (oldest k.reading z) x.round }) in
        let here = row_at join s y.accepted 1 key in
        let rows : ℕ → Option R = λ i. cond (i == n) here (w.row i) in
        let own = own_node join s laws v k partitions some key partition m w g sound t e n (quiet y) is in
        let proper = (t.nodes n).proper in
        let at : rows n ≡ here = ap (λ b. cond b here (w.row n)) (eq-eqb n n refl) in
        let may_own : Stays S (led_to (seen k.reading partitions) w.control goes.steps) (w.row n) (rows n) n = elim (test partition) as (λ b. test partition ≡ b → Stays S (led_to (seen k.reading partitions) w.control goes.steps) (w.row n) (rows n) n) [
          | true ↦ λ f. inl (at ∙ (row_kept join s v k partitions key partition test x.accepted proper one f ∙ sym (t.nodes n).row), inr (given_after join s laws v k partitions some key partition m w g sound t e goes n y own f))
          | false ↦ λ f. inr (at ∙ row_gone join s v k partitions key partition test x.accepted proper one f, not_given_after join s laws v k partitions some key partition m w g sound t e goes n y own f)
        ] refl in
        acts_lead goes n (quiet y) is rows (λ i apart. ap (λ b. cond b here (w.row i)) (ne_eqb i n apart))
        (λ i. elim (cases_eq i n) [
          | inl same ↦ (let P : ℕ → Type 0 = λ i. Stays S (led_to (seen k.reading partitions) w.control goes.steps) (w.row i) (rows i) i in subst P (sym same) may_own)
          | inr apart ↦ (let P : Option R → Type 0 = λ o. Stays S (led_to (seen k.reading partitions) w.control goes.steps) (w.row i) o i in subst P (sym (ap (λ b. cond b here (w.row i)) (ne_eqb i n apart)))
              (stays join s v k partitions some key partition m w g sound t e goes i (inr (let same_view : changed e.nodes m.nodes i ≡ m.nodes i = changed_is e.nodes m.nodes n y is.nodes i ∙ ap (λ b. cond b y (m.nodes i)) (ne_eqb i n apart) in let Q : Node R L → Type 0 = λ a. oldest k.reading a.view ≤ oldest k.reading (m.nodes i).view in subst Q (sym same_view) (omega arith)))))
        ])
        [] g (later_self g) (λ i d. same_self g i) tt tt (λ i apart. refl)
        (with_rows w (run S w (acts_with goes rows [])) g n x y (grew_run join s v k partitions key partition (acts_with goes rows []) w) (t.nodes n) refl (record { row = at; proper = all_filter (λ r. IsTrue (s.is_proper r)) (λ r. test (partition_of s r)) x.accepted proper; items = (t.nodes n).items }))
        tt tt

    -- a node sees a view
    pub view_leads : (goes : Goes k partitions m w.control e) (n now : ℕ) (z : View L) → ((r : R) → IsOf join s v k partitions key partition r → partition_of s r ≡ partition) → IsDid m e n (quiet (sees join s k n now (m.nodes n) z)) → Leads join s v k partitions some key partition m w g e
    view_leads goes n now z one is = by_oldest (leb (oldest k.reading z) (oldest k.reading (m.nodes n).view)) refl is
      where
        by_oldest : (b : Bool) → leb (oldest k.reading z) (oldest k.reading (m.nodes n).view) ≡ b → IsDid m e n (quiet (cond b (record (m.nodes n) { view = z; round = still (oldest k.reading z) (m.nodes n).round }) (drops join s k n now (record (m.nodes n) { view = z; round = still (oldest k.reading z) (m.nodes n).round })))) → Leads join s v k partitions some key partition m w g e
        by_oldest true low is = did_leads join s laws v k partitions some key partition m w g sound t e goes n _ is
            (record { calm = record { accepted = refl; items = λ i. i; gc = inl refl }; low = leb-true (oldest k.reading z) (oldest k.reading (m.nodes n).view) low; collects = refl })
            (λ w' shown. tt)
        by_oldest false low is = view_drops goes n now z one is

  -- a row of a store phase is sent, if it is of the key
  abbrev pub stores_all : List (R × Option (List ℕ)) → List (Act join s v k partitions key partition)
  stores_all [] = []
  stores_all (r ∷ rs) = cond (is_of join s v key r.0) (act.stores r.0 ∷ stores_all rs) (stores_all rs)

  pub record Stores (w : State R L) (acts : List (Act join s v k partitions key partition)) : Type 0 where
    pub happens : Happens S w acts
    pub calm : AllByRecursion (IsCalm join s v k partitions some key partition) acts
    pub rows : (i : ℕ) → (run S w acts).row i ≡ w.row i

  pub store_all : (w : State R L) (moment : ℕ) (rs : List (R × Option (List ℕ))) → w.time ≤ moment + hour → AllByRecursion (λ (r : R × Option (List ℕ)). s.table r.0 ≡ 1 → (u : Version) → v.below r.0 u ≡ true → moment ≤ u.0) rs → Stores w (stores_all rs)
  store_all w moment [] soon late = record { happens = tt; calm = tt; rows = λ i. refl }
  store_all w moment (r ∷ rs) soon late = elim (is_of join s v key r.0) as (λ b. is_of join s v key r.0 ≡ b → Stores w (cond b (act.stores r.0 ∷ stores_all rs) (stores_all rs))) [
    | true ↦ λ of.
        let rest = store_all (step S w (act.stores r.0)) moment rs soon late.1 in
        record {
          happens = (λ u below. (let a : moment ≤ u.0 = late.0 (of_test join s v k partitions key partition r.0 of).table u (Rattle.std.proofs.lemmas.Bool.and_parts (is_of join s v key r.0) (v.below r.0 u) below).1 in omega arith), rest.happens);
          calm = (tt, rest.calm);
          rows = rest.rows;
        }
    | false ↦ λ of. store_all w moment rs soon late.1
  ] refl

  -- a row of the key was stored at that moment
  abbrev pub IsKept : State R L → List (Act join s v k partitions key partition) → R × Option (List ℕ) → Type 0
  IsKept w acts r = IsOf join s v k partitions key partition r.0 → Has (run S w acts).stored (record { row = r.0; moment = w.time })

  pub was_stored : (w : State R L) (rs : List (R × Option (List ℕ))) → AllByRecursion (IsKept w (stores_all rs)) rs
  was_stored w [] = tt
  was_stored w (r ∷ rs) = elim (is_of join s v key r.0) as (λ b. is_of join s v key r.0 ≡ b → AllByRecursion (IsKept w (cond b (act.stores r.0 ∷ stores_all rs) (stores_all rs))) (r ∷ rs)) [
    | true ↦ λ of. (
      λ is. (grew_run join s v k partitions key partition (stores_all rs) (step S w (act.stores r.0))).stored _ (inl refl),
      all_weaker (IsKept (step S w (act.stores r.0)) (stores_all rs)) (IsKept w (act.stores r.0 ∷ stores_all rs)) (λ x h. h) rs (was_stored (step S w (act.stores r.0)) rs),
    )
    | false ↦ λ of. (λ is. absurd (Rattle.std.proofs.lemmas.Bool.true≢false (sym (test_of join s v k partitions key partition r.0 is) ∙ of)), was_stored w rs)
  ] refl

  -- what a store phase sends
  pub stores_mean : (w' : State R L) (g : Issued R) (collected : List R) (n moment : ℕ) (z : View L) (request phase slot : ℕ) (rs : List (R × Option (List ℕ))) → list_all (λ (r : R × Option (List ℕ)). is_spelled s r.0) rs ≡ true →
      AllByRecursion (λ (r : R × Option (List ℕ)). IsOf join s v k partitions key partition r.0 → Has w'.stored (record { row = r.0; moment = moment })) rs → AllByRecursion (MeansPost join s laws v k partitions key partition w' g collected n moment) (stores s k z request phase slot rs)
  stores_mean w' g collected n moment z request phase slot [] h a = tt
  stores_mean w' g collected n moment z request phase slot (r ∷ rs) h a =
      let both = Rattle.std.proofs.lemmas.Bool.and_parts (is_spelled s r.0) (list_all (λ (r : R × Option (List ℕ)). is_spelled s r.0) rs) h in
      let one : AllByRecursion (IsStored join s v k partitions key partition w' moment (partition_of s r.0)) (rows_read s ((bytes_of s r.0, r.1) ∷ [])) =
      subst (λ o. AllByRecursion (IsStored join s v k partitions key partition w' moment (partition_of s r.0)) (with_read s o [])) (sym (read_spelled join s laws v k partitions key partition r.0 both.0)) ((refl, λ of. inr (a.0 of)), tt) in
      all_append _ (to_each (nodes_of (stored_sets k z (partition_of s r.0))) (Store (ForCall request phase slot) (newest k.reading z) (partition_of s r.0) ((bytes_of s r.0, r.1) ∷ []))) (stores s k z request phase (suc slot) rs)
      (means_each join s laws v k partitions key partition w' g collected n moment (nodes_of (stored_sets k z (partition_of s r.0))) _ (λ to. one))
      (stores_mean w' g collected n moment z request phase (suc slot) rs both.1 a.1)
