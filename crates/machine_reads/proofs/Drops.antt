-- A node is told of tombstones, confirms them, collects, and drops a row that was collected.
use Rattle.std.specs.Prelude.{◌≡◌, ◌≤◌, ◌<◌, ℕ, ◌+◌, Bool, true, false, cond, not, ◌&&◌, ◌==◌, nat_lt, Option, Some, None, List, [], ◌∷◌, ◌++◌, length, IsTrue, refl}
use Rattle.std.specs.List.{AllByRecursion}
use Rattle.std.proofs.Common.{ap, sym, subst, ◌∙◌, inl, arith}
use Rattle.crdt_core.specs.Laws.{JoinLaws}
use Rattle.crdt_core.specs.Order.{option_join}
use Rattle.view_model.specs.View.{newest}
use Rattle.table_schema.specs.Words.{Words, partition_at, partition_of}
use Rattle.table_schema.specs.Laws.{Same, Laws}
use Rattle.table_model.specs.Rows.{is_at, row_at}
use Rattle.gc_model.specs.declared.collection.Collection.{Collection}
use Rattle.gc_model.specs.declared.collection.GcEnd.{GcEnd}
use Rattle.gc_model.specs.declared.collection.GcEnd.TheVariants.{Wait, Closed, Complete}
use Rattle.gc_model.specs.Collecting.{Open, numbered, keyed, closed, answer_end, answered, in_second, missing_of}
use Rattle.wire_messages.specs.declared.message.Message.{Message}
use Rattle.wire_messages.specs.declared.message.Message.TheVariants.{Tomb, Tombed}
use Rattle.plane_model.specs.World.{row_at as log_at, collected_at}
use Rattle.plane_model.specs.Action.{collects as collects_at, run, Happens}
use Rattle.plane_laws.proofs.Sound.{IsSound}
use Rattle.cluster_machine.specs.Layouts.{Layouts, is_given}
use Rattle.cluster_machine.specs.Node.{Node, Post, says, Did, quiet}
use Rattle.cluster_machine.specs.Phases.{to_each, bytes_of, is_spelled}
use Rattle.cluster_machine.specs.Rows.{accepts}
use Rattle.cluster_machine.specs.Collects.{collection_pause, others, is_aged, Progress, object_rows, has_bytes, has_digest, without_row, forgets_row, forgets, drops_row, merges, takes_tomb, finishes, answered_to, tomb_came, goes_on_with, about, about_all, with_rows, collects}
use Rattle.cluster_machine.specs.World.{World}
use Rattle.cluster_machine.specs.Step.{only, changed, sent_by, did}
use Rattle.machine_laws.proofs.Same.{SaysOnly, same_accepts, said_to_each}
use Rattle.machine_laws.proofs.Turning.{unseen}
use Rattle.machine_laws.proofs.Collecting.{unseen_collects}
use Rattle.machine_reads.specs.Places.{Place, keys, place_of, at_place}
use Rattle.machine_reads.specs.Tie.{Issued, both, State, Means, IsTied}
use Rattle.machine_reads.proofs.Placed.{keys_laws, place_of_key, without_own, without_other}
use Rattle.machine_reads.proofs.Growth.{same_at, calls_stay, round_in_stays, mending_stays, node_stays}
use Rattle.machine_reads.proofs.Logs.{taking, taking_happens, taking_collected, taking_log, taking_others}
use Rattle.machine_reads.proofs.Leads.{issues_self, Act, grown, Leads, only_control, by_node, less_self, at_one}
use Rattle.machine_reads.proofs.Called.{sent_each}
use Rattle.machine_reads.proofs.Storing.{sent_append}
use Rattle.machine_reads.proofs.Views.{all_filter, one_less}
use Rattle.std.proofs.lemmas.Bool.{eq-eqb, ne_eqb}

some_is : {X : Type 0} (o : Option X) (x r : X) → o ≡ Some x → o ≡ Some r → x ≡ r
some_is {X = X} o x r e f = ap (λ (o : Option X). Rattle.std.specs.Option.unwrap_or o x) (sym e ∙ f)

module _ {R : Type 0} (join : R → R → R) (s : Words R) (laws : Laws join s) where
  abbrev At : ℕ → List ℕ → R → Type 0
  At table key r = (IsTrue (s.is_proper r)) × ((s.table r ≡ table) × (s.key r ≡ key))

  at_by : (table : ℕ) (key : List ℕ) (o : Option R) (x r : R) → ((y : R) → o ≡ Some y → At table key y) → At table key x → option_join join o (Some x) ≡ Some r → At table key r
  at_by table key None x r f h e = subst (At table key) (some_is (Some x) x r refl e) h
  at_by table key (Some y) x r f h e =
      let i = f y refl in
      let same : Same s y x = record { first_proper = i.0; second_proper = h.0; table = i.1.0 ∙ sym h.1.0; key = i.1.1 ∙ sym h.1.1 } in
      subst (At table key) (some_is (Some (join y x)) (join y x) r refl e) (laws.joined_is_proper y x same, (laws.joined_table y x same ∙ i.1.0, laws.joined_key y x same ∙ i.1.1))

  at_parts : (table : ℕ) (key : List ℕ) (r : R) → is_at s table key r ≡ true → (s.table r ≡ table) × (s.key r ≡ key)
  at_parts table key r e =
      let same = Rattle.table_model.proofs.RowLaws.place_identical (table, key) (Rattle.table_model.specs.Rows.place s r) ((Rattle.std.specs.Cmp.Equal-is (Rattle.table_model.specs.Rows.place_cmp (table, key) (Rattle.table_model.specs.Rows.place s r))).0 e) in
      (ap (λ (q : ℕ × List ℕ). q.0) (sym same), ap (λ (q : ℕ × List ℕ). q.1) (sym same))

  -- what proper rows have at a table and key is proper and of these
  found_at : (table : ℕ) (key : List ℕ) (rs : List R) → AllByRecursion (λ r. IsTrue (s.is_proper r)) rs → (r : R) → row_at join s rs table key ≡ Some r → At table key r
  found_at table key [] a r e = cc
  found_at table key (x ∷ older) a r e = elim (is_at s table key x) as (λ b. is_at s table key x ≡ b → cond b (option_join join (row_at join s older table key) (Some x)) (row_at join s older table key) ≡ Some r → At table key r) [
    | true ↦ λ at f. at_by table key (row_at join s older table key) x r (found_at table key older a.1) (a.0, at_parts table key x at) f
    | false ↦ λ at f. found_at table key older a.1 r f
  ] refl e

module _ {R L : Type 0} (join : R → R → R) (s : Words R) (k : Layouts L) (partitions : ℕ) (H : List ℕ → Type 0) (some : 1 ≤ partitions) (joins_well : JoinLaws join) (laws : Laws join s) (A C : Type 0) (w : World R L) (p : State join s k partitions H) (g : Issued R L) (sound : IsSound (both join s k partitions H) p) (t : IsTied join s k partitions H w p g) where
  abbrev LeadBy : ℕ → Did R L → Type 0
  LeadBy n d = Leads join s k partitions H some joins_well {A = A} {C = C} w p g (did w n d)

  abbrev P : Rattle.plane_model.specs.Plane.Plane (Rattle.control_model.specs.World.World L) (Rattle.control_model.specs.Steps.Step L) Place R
  P = both join s k partitions H

  -- what is sent means nothing to the data plane
  abbrev Plain : ℕ → List (Post R L) → Type 0
  Plain n posts = (q : State join s k partitions H) (h : Issued R L) → AllByRecursion (Means join s k partitions H q h) (sent_by w n posts)

  -- a node beside its collections stays
  gathers : (n : ℕ) (o : Open) → LeadBy n (quiet (record (w.nodes n) { gc = o }))
  gathers n o =
      let d : Did R L = quiet (record (w.nodes n) { gc = o }) in
      only_control join s k partitions H some joins_well w p g (did w n d) [] sound t refl
      (unseen k partitions w p.control n d t.control (record { same = record { view = refl; calls = refl; round = refl }; posts = tt }))
      (one_less join s k partitions H some joins_well laws A C w p g sound t n _ (record { accepted = refl; calls = inl refl; round = inl refl; rounds = refl; mending = inl refl; lasting = inl refl })) refl refl (refl, refl) (λ q h. tt)

  still : (n : ℕ) → LeadBy n (quiet (w.nodes n))
  still n = gathers n (w.nodes n).gc

  -- the row that a node has at a table and key is dropped and enters what was collected
  drop_leads : (n table : ℕ) (key : List ℕ) (r : R) (o : Open) (posts : List (Post R L)) (dropped : Option (ℕ × ℕ)) → row_at join s (w.nodes n).accepted table key ≡ Some r → SaysOnly posts → Plain n posts →
      LeadBy n (record (quiet (record (without_row join s (w.nodes n) table key) { gc = o })) { posts = posts; collects = r ∷ []; dropped = dropped })
  drop_leads n table key r o posts dropped found shown plain =
      let x = w.nodes n in
      let y : Node R L = record (without_row join s x table key) { gc = o } in
      let d : Did R L = record (quiet y) { posts = posts; collects = r ∷ []; dropped = dropped } in
      let m = t.nodes n in
      let its = found_at join s laws table key x.accepted m.proper r found in
      let part = partition_of s r in
      let place : Place = (part, (table, key)) in
      let one : (z : R) → IsTrue (s.is_proper z) → s.table z ≡ table → s.key z ≡ key → partition_of s z ≡ part = λ z proper at is.
      ap partition_at (laws.one_position z r (record { first_proper = proper; second_proper = its.0; table = at ∙ sym its.1.0; key = is ∙ sym its.1.1 })) in
      let here : place_of s r ≡ place = λ i. (part, (its.1.0 i, its.1.1 i)) in
      let acts : List (Act join s k partitions H some joins_well) = collects_at n place ∷ [] in
      let new = run P p acts in
      let happens : Happens P p acts = (tt, tt) in
      let up = grown join s k partitions H some joins_well p g g acts sound happens (issues_self g) in
      let count : length w.requests + length (did {A = A} {C = C} w n d).opens ≡ length w.requests = (let n = length w.requests in omega arith) in
      let had : log_at P p.log n place ≡ Some r = m.rows place ∙ (place_of_key joins_well laws part table key x.accepted m.proper one ∙ found) in
      record {
        acts = acts;
        issued = g;
        happens = happens;
        issues = issues_self g;
        control = unseen k partitions w p.control n d t.control (record { same = record { view = refl; calls = refl; round = refl }; posts = shown });
        nodes = λ i. subst (λ count. Rattle.machine_reads.specs.Tie.IsNode join s k partitions H new g count i (changed (only n y) w.nodes i)) (sym count)
            (at_one w.nodes y n (Rattle.machine_reads.specs.Tie.IsNode join s k partitions H new g (length w.requests))
            (record {
              rows = λ q. elim (keys.is_same place q) as (λ b. keys.is_same place q ≡ b → cond ((n == n) && b) None (log_at P p.log n q) ≡ at_place s join y.accepted q) [
                | true ↦ (λ e. ap (λ b. cond (b && true) None (log_at P p.log n q)) (eq-eqb n n refl) ∙ sym (ap (at_place s join y.accepted) (sym (keys_laws.identical place q e)) ∙ without_own joins_well laws part table key x.accepted m.proper one))
                | false ↦ (λ e. ap (λ b. cond (b && false) None (log_at P p.log n q)) (eq-eqb n n refl) ∙ (m.rows q ∙ sym (without_other joins_well laws part table key q x.accepted m.proper one e)))
              ] refl;
              proper = all_filter (λ r. IsTrue (s.is_proper r)) (λ r. not (is_at s table key r)) x.accepted m.proper;
              calls = calls_stay join s k partitions H p new g g up (length w.requests) (length w.requests) n x.calls (omega arith) (same_at join s k partitions H g (length w.requests) n) m.calls;
              round = round_in_stays join s k partitions H p new g g up n x.round (λ number b e. e) m.round;
              mending = mending_stays join s k partitions H p new g g up n x.mending m.mending;
              lasting = mending_stays join s k partitions H p new g g up n x.lasting m.lasting;
              later_rounds = m.later_rounds;
            })
            (λ j e. node_stays join s k partitions H p new g g up (length w.requests) (length w.requests) j (w.nodes j) (omega arith) (same_at join s k partitions H g (length w.requests) j) (λ q. ap (λ b. cond (b && keys.is_same place q) None (log_at P p.log j q)) (ne_eqb n j (λ f. e (sym f)))) (t.nodes j)) i);
        kept = t.kept;
        kept_rows = tt;
        sends = plain new g;
        not_asked = λ request phase late. t.not_asked request phase (subst (λ count. count < request) count late);
        not_stored = λ request phase slot late. t.not_stored request phase slot (subst (λ count. count < request) count late);
        collected = λ q. elim (keys.is_same place q) as (λ b. keys.is_same place q ≡ b → cond b (option_join join (collected_at P p.log q) (log_at P p.log n q)) (collected_at P p.log q) ≡ cond (keys.is_same (place_of s r) q) (option_join join (at_place s join w.collected q) (Some r)) (at_place s join w.collected q)) [
          | true ↦ (λ e.
              let row : log_at P p.log n q ≡ Some r = ap (log_at P p.log n) (sym (keys_laws.identical place q e)) ∙ had in
              (λ i. option_join join (t.collected q i) (row i)) ∙ sym (ap (λ b. cond b (option_join join (at_place s join w.collected q) (Some r)) (at_place s join w.collected q)) (ap (λ z. keys.is_same z q) here ∙ e)))
          | false ↦ (λ e. t.collected q ∙ sym (ap (λ b. cond b (option_join join (at_place s join w.collected q) (Some r)) (at_place s join w.collected q)) (ap (λ z. keys.is_same z q) here ∙ e)))
        ] refl;
        proper_collected = (its.0, tt);
        reads = tt;
      }

  -- another node has collected a row
  forgets_by : (n table : ℕ) (key : List ℕ) (test : R → Bool) (o : Option R) → row_at join s (w.nodes n).accepted table key ≡ o → LeadBy n (forgets_row join s (w.nodes n) table key test o)
  forgets_by n table key test None e = still n
  forgets_by n table key test (Some r) e = elim (test r) as (λ b. LeadBy n (cond b (record (quiet (without_row join s (w.nodes n) table key)) { collects = r ∷ []; dropped = s.marker r }) (quiet (w.nodes n)))) [
    | true ↦ drop_leads n table key r (w.nodes n).gc [] (s.marker r) e tt (λ q h. tt)
    | false ↦ still n
  ]

  pub forget_comes : (n table : ℕ) (key hash : List ℕ) → LeadBy n (forgets join s (w.nodes n) table key hash)
  forget_comes n table key hash = forgets_by n table key (has_digest join s hash) (row_at join s (w.nodes n).accepted table key) refl

  -- a collection comes to its end
  finishes_by : (n : ℕ) (c : Collection) (o : Option R) → row_at join s (w.nodes n).accepted 1 c.key ≡ o → (b : Bool) → LeadBy n (cond (b && has_bytes join s c.row o) (drops_row join s n (record (w.nodes n) { gc = closed c.number (w.nodes n).gc }) c o) (quiet (record (w.nodes n) { gc = closed c.number (w.nodes n).gc })))
  finishes_by n c o e false = gathers n (closed c.number (w.nodes n).gc)
  finishes_by n c None e true = gathers n (closed c.number (w.nodes n).gc)
  finishes_by n c (Some r) e true = elim (has_bytes join s c.row (Some r)) as (λ b. LeadBy n (cond b (drops_row join s n (record (w.nodes n) { gc = closed c.number (w.nodes n).gc }) c (Some r)) (quiet (record (w.nodes n) { gc = closed c.number (w.nodes n).gc })))) [
    | true ↦ drop_leads n 1 c.key r (closed c.number (w.nodes n).gc) _ (s.marker r) e (said_to_each L (others n) _) (λ q h. sent_each join s k partitions H q h w n _ (others n) (λ to is. tt))
    | false ↦ gathers n (closed c.number (w.nodes n).gc)
  ]

  finishes_leads : (n : ℕ) (o : Option Collection) → LeadBy n (finishes join s k n (w.nodes n) o)
  finishes_leads n None = still n
  finishes_leads n (Some c) = finishes_by n c (row_at join s (w.nodes n).accepted 1 c.key) refl (newest k.reading (w.nodes n).view == c.newest)

  answered_leads : (n number round : ℕ) (o : Open) (e : GcEnd) → LeadBy n (answered_to join s k n (w.nodes n) number round o e)
  answered_leads n number round o Wait = gathers n o
  answered_leads n number round o Closed = gathers n o
  answered_leads n number round o Complete = elim (round == 2) as (λ b. LeadBy n (cond b (finishes join s k n (w.nodes n) (numbered number (w.nodes n).gc)) (quiet (record (w.nodes n) { gc = o })))) [
    | true ↦ finishes_leads n (numbered number (w.nodes n).gc)
    | false ↦ gathers n o
  ]

  pub confirmation_comes : (n now from number round named : ℕ) → LeadBy n (tomb_came join s k n now (w.nodes n) from number round named)
  confirmation_comes n now from number round named = answered_leads n number round (answered number round from named now (w.nodes n).gc) (answer_end number round from named (w.nodes n).gc)

  -- a node is told of a tombstone, which it merges, or not
  tomb_stays : (n from : ℕ) (m : Message R) → ((q : State join s k partitions H) (h : Issued R L) → Rattle.machine_reads.specs.Tie.MeansMessage join s k partitions H q h n from m) → LeadBy n (record (quiet (w.nodes n)) { posts = record { to = from; packet = says m } ∷ [] })
  tomb_stays n from m means =
      let d : Did R L = record (quiet (w.nodes n)) { posts = record { to = from; packet = says m } ∷ [] } in
      only_control join s k partitions H some joins_well w p g (did w n d) [] sound t refl
      (unseen k partitions w p.control n d t.control (record { same = record { view = refl; calls = refl; round = refl }; posts = (tt, tt) }))
      (one_less join s k partitions H some joins_well laws A C w p g sound t n _ (less_self join s k partitions H some joins_well (w.nodes n))) refl refl (refl, refl) (λ q h. (means q h, tt))

  tomb_merges : (n now from : ℕ) (r : R) (m : Message R) → IsTrue (s.is_proper r) → ((q : State join s k partitions H) (h : Issued R L) → Rattle.machine_reads.specs.Tie.MeansMessage join s k partitions H q h n from m) →
      LeadBy n (record (quiet (accepts join s now (w.nodes n) r None)) { posts = record { to = from; packet = says m } ∷ [] })
  tomb_merges n now from r message proper means =
      let x = w.nodes n in
      let y = accepts join s now x r None in
      let d : Did R L = record (quiet y) { posts = record { to = from; packet = says message } ∷ [] } in
      let acts : List (Act join s k partitions H some joins_well) = taking join s k partitions H n (r ∷ []) in
      let new = run P p acts in
      let happens = taking_happens join s k partitions H n (r ∷ []) p in
      let up = grown join s k partitions H some joins_well p g g acts sound happens (issues_self g) in
      let m = t.nodes n in
      by_node join s k partitions H some joins_well w p g g n (did w n d) y acts sound t happens (issues_self g)
      (unseen k partitions w p.control n d t.control (record { same = same_accepts join s k now x r None; posts = (tt, tt) }))
      (λ i e. same_at join s k partitions H g (length w.requests) i) (λ i q e. taking_others join s k partitions H i n (r ∷ []) p q e) (λ i. refl) refl
      (record {
        rows = λ q. taking_log join s k partitions H n (r ∷ []) p x.accepted m.rows q;
        proper = (proper, m.proper);
        calls = calls_stay join s k partitions H p new g g up (length w.requests) (length w.requests) n x.calls (omega arith) (same_at join s k partitions H g (length w.requests) n) m.calls;
        round = round_in_stays join s k partitions H p new g g up n x.round (λ number b e. e) m.round;
        mending = mending_stays join s k partitions H p new g g up n x.mending m.mending;
        lasting = mending_stays join s k partitions H p new g g up n x.lasting m.lasting;
        later_rounds = m.later_rounds;
      })
      t.kept tt (means new g, tt) t.not_asked t.not_stored (taking_collected join s k partitions H n (r ∷ []) p) (refl, tt)

  tomb_by : (n now from : ℕ) (bytes : List ℕ) (o : Option R) (m : Message R) → s.read bytes ≡ o → ((q : State join s k partitions H) (h : Issued R L) → Rattle.machine_reads.specs.Tie.MeansMessage join s k partitions H q h n from m) →
      LeadBy n (record (quiet (merges join s k n now (w.nodes n) o)) { posts = record { to = from; packet = says m } ∷ [] })
  tomb_by n now from bytes None m e means = tomb_stays n from m means
  tomb_by n now from bytes (Some r) m e means = elim (is_given k (w.nodes n).view n (partition_of s r)) as (λ b. LeadBy n (record (quiet (cond b (accepts join s now (w.nodes n) r None) (w.nodes n))) { posts = record { to = from; packet = says m } ∷ [] })) [
    | true ↦ tomb_merges n now from r m (laws.spelled_is_proper r bytes ((laws.reads_back r bytes).0 e)) means
    | false ↦ tomb_stays n from m means
  ]

  pub tomb_comes : (n now from number round : ℕ) (row : List ℕ) → LeadBy n (takes_tomb join s k n now (w.nodes n) from number round row)
  tomb_comes n now from number round row = tomb_by n now from row (s.read row) (Tombed number round (newest k.reading (w.nodes n).view)) refl (λ q h. tt)

  -- a node collects
  module _ (n : ℕ) (q : State join s k partitions H) (h : Issued R L) where
    abbrev IsPlain : List (Post R L) → Type 0
    IsPlain posts = AllByRecursion (Means join s k partitions H q h) (sent_by w n posts)

    plain_more : (xs ys : List (Post R L)) → IsPlain xs → IsPlain ys → IsPlain (xs ++ ys)
    plain_more xs ys a b = sent_append (Means join s k partitions H q h) w n xs ys a b

    plain_tombs : (nodes : List ℕ) (number round : ℕ) (row : List ℕ) → IsPlain (to_each nodes (Tomb number round row))
    plain_tombs nodes number round row = sent_each join s k partitions H q h w n (Tomb number round row) nodes (λ to is. tt)

    plain_cond : (b : Bool) (x y : Progress R L) → IsPlain x.posts → IsPlain y.posts → IsPlain ((cond b x y).posts)
    plain_cond true x y a b = a
    plain_cond false x y a b = b

    plain_goes_on : (now : ℕ) (c : Collection) (o : Option ℕ) (x : Progress R L) → IsPlain x.posts → IsPlain (goes_on_with join s k now c o x).posts
    plain_goes_on now c None x a = plain_more x.posts _ a (plain_tombs (missing_of c) c.number 1 c.row)
    plain_goes_on now c (Some ready) x a = plain_cond (nat_lt now (ready + collection_pause)) _ _ a (plain_more x.posts _ a (plain_tombs (missing_of (cond (c.round == 1) (in_second c) c)) c.number 2 c.row))

    plain_about : (now version : ℕ) (r : R) (o : Option Collection) (x : Progress R L) → IsPlain x.posts → IsPlain (about join s k n now version r o x).posts
    plain_about now version r None x a = plain_cond (is_spelled s r && is_aged now (s.marker r)) _ _ (plain_more x.posts _ a (plain_tombs (others n) (x.gc.begun + 1) 1 (bytes_of s r))) a
    plain_about now version r (Some c) x a = plain_cond (has_bytes join s c.row (Some r) && (version == c.newest)) _ _ (plain_goes_on now c c.ready x a) a

    plain_all : (now version : ℕ) (rs : List R) (x : Progress R L) → IsPlain x.posts → IsPlain (about_all join s k n now version rs x).posts
    plain_all now version [] x a = a
    plain_all now version (r ∷ rs) x a = plain_all now version rs _ (plain_about now version r (keyed (s.key r) x.gc) x a)

  pub gather_leads : (n now : ℕ) → LeadBy n (collects join s k n now (w.nodes n))
  gather_leads n now =
      let x = w.nodes n in
      let d = collects join s k n now x in
      only_control join s k partitions H some joins_well w p g (did w n d) [] sound t refl
      (unseen k partitions w p.control n d t.control (unseen_collects join s k n now x))
      (one_less join s k partitions H some joins_well laws A C w p g sound t n _ (record { accepted = refl; calls = inl refl; round = inl refl; rounds = refl; mending = inl refl; lasting = inl refl })) refl refl (refl, refl)
      (λ q h. plain_all n q h now (newest k.reading x.view) (object_rows join s x) (record { gc = with_rows join s k x x.gc; posts = []; begun = 0 }) tt)
