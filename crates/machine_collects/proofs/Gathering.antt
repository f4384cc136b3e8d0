-- A node begins to collect, and goes on with its collections.
use Rattle.std.specs.Prelude.{◌≡◌, ◌≢◌, ◌⊎◌, ◌≤◌, ◌<◌, ◌+◌, ℕ, Bool, true, false, not, cond, ◌==◌, ◌&&◌, List, [], ◌∷◌, ◌++◌, length, Option, Some, None, is_some, IsTrue, map, refl, ⊤}
use Rattle.std.specs.List.{AllByRecursion}
use Rattle.std.proofs.Common.{ap, sym, subst, ◌∙◌, inl, inr, arith}
use Rattle.std.proofs.lemmas.Bool.{eq-eqb, ne_eqb, eqb-true, eqb-false, cases_eq, and_parts, true≢false}
use Rattle.crdt_core.specs.Members.{Has}
use Rattle.crdt_core.proofs.Each.{all_append, all_weaker}
use Rattle.control_model.specs.World as control
use Rattle.control_model.specs.Steps.{Step}
use Rattle.view_model.specs.View.{newest}
use Rattle.table_schema.specs.Words.{Words}
use Rattle.table_schema.specs.Laws.{Laws}
use Rattle.table_model.specs.Rows.{row_at}
use Rattle.gc_model.specs.declared.collection.Collection.{Collection}
use Rattle.gc_model.specs.Collecting.{changed as changed_in, closed}
use Rattle.collection_model.specs.World.{Begun, Second}
use Rattle.collection_model.specs.Action as act
use Rattle.collection_model.specs.Action.{run, step, Happens, IsWitness}
use Rattle.collection_laws.proofs.Sound.{IsSound}
use Rattle.cluster_machine.specs.Layouts.{Layouts}
use Rattle.cluster_machine.specs.Node.{Node}
use Rattle.cluster_machine.specs.Phases.{to_each, bytes_of, is_spelled}
use Rattle.cluster_machine.specs.Rows.{same_bytes}
use Rattle.cluster_machine.specs.Collects.{all_nodes, others, has_bytes}
use Rattle.cluster_machine.specs.World.{World, clock}
use Rattle.cluster_machine.specs.Step.{Effects}
use Rattle.machine_laws.proofs.Rounding.{Goes}
use Rattle.machine_collects.specs.Versions.{Version, Versions, VersionLaws, hour}
use Rattle.machine_collects.specs.Tie.{State, Issued, witness, node_of, number_of, AreDifferent, IsOf, IsReady, IsFirst, IsMine, IsOpen, IsTied}
use Rattle.machine_collects.proofs.OfKey.{some_is}
use Rattle.machine_collects.proofs.Growth.{Act, Grew, grew_run, grew_self, later_self, same_self, same_for_at, open_stays}
use Rattle.machine_collects.proofs.Leads.{Place, IsCalm, Leads, all_has}
use Rattle.machine_collects.proofs.Sends.{MeansPost, means_each, all_filter, read_back}
use Rattle.machine_collects.proofs.Hearing.{row_place}
use Rattle.machine_collects.proofs.Doing.{IsDid}
use Rattle.machine_collects.proofs.Acting.{after_moves, acts_lead, stay_all}
use Rattle.machine_collects.proofs.Tombs.{same_are, are_same}
use Rattle.machine_collects.proofs.Forgetting.{spelled_some}
use Rattle.machine_collects.proofs.Listed.{map_has, different_last, find_passes, one_collection, changed_different, fewer_different, all_changed}
use Rattle.std.specs.Prelude.{leb, nat_lt}
use Rattle.std.specs.List.{All}
use Rattle.std.proofs.lemmas.Bool.{leb-true}
use Rattle.std.proofs.lemmas.List.Elements.{All-from_recursion}
use Rattle.table_model.specs.Rows.{rows}
use Rattle.table_model.proofs.RowLaws.{rows_ascend, row_found}
use Rattle.gc_model.specs.Collecting.{keyed, begun_with, opened, in_second, missing_of}
use Rattle.wire_messages.specs.declared.message.Message.TheVariants.{Tomb}
use Rattle.collection_laws.proofs.Laws.{happens_append, run_append}
use Rattle.cluster_machine.specs.Node.{Post}
use Rattle.cluster_machine.specs.Collects.{collection_age, collection_pause, is_aged, Progress, object_rows, begins_one, goes_on_with, about, about_all, with_rows as kept_rows, collects}
use Rattle.machine_collects.specs.Versions.{is_of}
use Rattle.machine_collects.specs.Tie.{MeansTomb}
use Rattle.machine_collects.proofs.OfKey.{of_test, test_of}
use Rattle.machine_collects.proofs.Marking.{marker_of}
use Rattle.machine_collects.proofs.Growth.{Later, SameAt, packet_stays}
use Rattle.machine_collects.proofs.Sends.{passing, all_two, found_itself}

not_less : (i j : ℕ) → nat_lt i j ≡ false → j ≤ i
not_less i j e = Rattle.std.proofs.lemmas.Bool.ltb-false i j e

module _ {R L : Type 0} (join : R → R → R) (s : Words R) (laws : Laws join s) (v : Versions R) (versions : VersionLaws join s v) (k : Layouts L) (partitions : ℕ) (some : 1 ≤ partitions) (key : List ℕ) (partition : ℕ) where
  abbrev S : Rattle.collection_model.specs.Site.Site (control.World L) (Step L) R Version
  S = Place join s v k partitions some key partition

  abbrev Mine : State R L → Issued R → ℕ → Collection → Type 0
  Mine w g n c = IsMine join s v k partitions key partition w g n c

  abbrev Of : R → Type 0
  Of r = IsOf join s v k partitions key partition r

  -- an object row that a node has
  record IsThere (accepted : List R) (r : R) : Type 0 where
    proper : IsTrue (s.is_proper r)
    table : s.table r ≡ 1
    own : Of r → row_at join s accepted 1 key ≡ Some r

  -- with bytes, so that it may collect it
  record IsRow (accepted : List R) (r : R) : Type 0 where
    proper : IsTrue (s.is_proper r)
    table : s.table r ≡ 1
    own : Of r → row_at join s accepted 1 key ≡ Some r
    bytes : s.spelling r ≡ Some (bytes_of s r)

  as_row : (accepted : List R) (r : R) → IsThere accepted r → is_spelled s r ≡ true → IsRow accepted r
  as_row accepted r there h = record { proper = there.proper; table = there.table; own = there.own; bytes = spelled_some (s.spelling r) h }

  are_there : (x : Node R L) → AllByRecursion (λ r. IsTrue (s.is_proper r)) x.accepted → AllByRecursion (IsThere x.accepted) (object_rows join s x)
  are_there x proper =
      let contents = x.accepted in
      let all_proper : All (λ r. IsTrue (s.is_proper r)) contents = All-from_recursion (λ r. IsTrue (s.is_proper r)) contents proper in
      let placed : AllByRecursion (λ r. row_at join s contents (s.table r) (s.key r) ≡ Some r) (rows join s contents) = all_weaker _ _ (λ r f. sym (row_found laws contents (s.table r) (s.key r) all_proper) ∙ f) (rows join s contents) (found_itself s (rows join s contents) (rows_ascend laws contents all_proper)) in
      all_two _ _ (IsThere contents) (λ r at table. make r at (eqb-true (s.table r) 1 table)) (object_rows join s x)
      (all_filter _ (λ r. s.table r == 1) (rows join s contents) placed) (passing (λ r. s.table r == 1) (rows join s contents))
    where
      make : (r : R) → row_at join s x.accepted (s.table r) (s.key r) ≡ Some r → s.table r ≡ 1 → IsThere x.accepted r
      make r at one = record {
        proper = (row_place join s laws v k partitions some key partition (s.table r) (s.key r) x.accepted proper r at).0;
        table = one;
        own = λ of. (let P : ℕ × List ℕ → Type 0 = λ q. row_at join s x.accepted q.0 q.1 ≡ Some r in let same : (s.table r, s.key r) ≡ (1, key) = λ i. (of.table i, of.key_is i) in subst P same at);
      }

  module _ (m : World R L) (w : State R L) (mid : State R L) (g : Issued R) (n now version : ℕ) (x : Node R L) (t_time : mid.time ≡ m.time) (control : S.control.newest mid.control n ≡ version) (fast : now ≤ m.time + hour) (asked : Has all_nodes n) (row_n : mid.row n ≡ row_at join s x.accepted 1 key) where
    -- what was done so far
    record Going (p : Progress R L) : Type 0 where
      acts : List (Act join s v k partitions key partition)
      issued : Issued R
      happens : Happens S mid acts
      calm : AllByRecursion (IsCalm join s v k partitions some key partition) acts
      same_control : (run S mid acts).control ≡ mid.control
      same_time : (run S mid acts).time ≡ mid.time
      rows : (i : ℕ) → (run S mid acts).row i ≡ mid.row i
      later : Later g issued
      apart : (i : ℕ) → i ≢ n → SameAt g issued i
      last : issued.last n ≡ p.gc.begun
      unissued : (i : ℕ) → p.gc.begun < i → (issued.begun n i ≡ None) × (issued.second n i ≡ None)
      open_all : AllByRecursion (IsOpen join s v k partitions key partition (run S mid acts) issued n) p.gc.collections
      different : AreDifferent (map number_of p.gc.collections)
      posts : AllByRecursion (MeansPost join s laws v k partitions key partition (run S mid acts) issued m.collected n m.time) p.posts

    -- more is done: each fact about what was so far is carried on
    record More (p q : Progress R L) (a : Going p) : Type 0 where
      acts : List (Act join s v k partitions key partition)
      issued : Issued R
      happens : Happens S (run S mid a.acts) acts
      calm : AllByRecursion (IsCalm join s v k partitions some key partition) acts
      same_control : (run S (run S mid a.acts) acts).control ≡ (run S mid a.acts).control
      same_time : (run S (run S mid a.acts) acts).time ≡ (run S mid a.acts).time
      rows : (i : ℕ) → (run S (run S mid a.acts) acts).row i ≡ (run S mid a.acts).row i
      later : Later a.issued issued
      apart : (i : ℕ) → i ≢ n → SameAt a.issued issued i
      last : issued.last n ≡ q.gc.begun
      unissued : (i : ℕ) → q.gc.begun < i → (issued.begun n i ≡ None) × (issued.second n i ≡ None)
      open_all : AllByRecursion (IsOpen join s v k partitions key partition (run S (run S mid a.acts) acts) issued n) q.gc.collections
      different : AreDifferent (map number_of q.gc.collections)
      posts : AllByRecursion (MeansPost join s laws v k partitions key partition (run S (run S mid a.acts) acts) issued m.collected n m.time) q.posts

    went : (p q : Progress R L) (a : Going p) → More p q a → Going q
    went p q a b =
        let same : run S mid (a.acts ++ b.acts) ≡ run S (run S mid a.acts) b.acts = run_append S a.acts b.acts mid in
        record {
          acts = a.acts ++ b.acts;
          issued = b.issued;
          happens = happens_append S a.acts b.acts mid a.happens b.happens;
          calm = all_append _ a.acts b.acts a.calm b.calm;
          same_control = ap (λ (z : State R L). z.control) same ∙ (b.same_control ∙ a.same_control);
          same_time = ap (λ (z : State R L). z.time) same ∙ (b.same_time ∙ a.same_time);
          rows = λ i. ap (λ (z : State R L). z.row i) same ∙ (b.rows i ∙ a.rows i);
          later = record {
            last = λ i. (let c : g.last i ≤ a.issued.last i = a.later.last i in let d : a.issued.last i ≤ b.issued.last i = b.later.last i in omega arith);
            begun = λ i j low. (let c : g.last i ≤ a.issued.last i = a.later.last i in b.later.begun i j (omega arith) ∙ a.later.begun i j low);
            second = λ i j u f. b.later.second i j u (a.later.second i j u f);
          };
          apart = λ i d. record { last = (b.apart i d).last ∙ (a.apart i d).last; begun = λ j. (b.apart i d).begun j ∙ (a.apart i d).begun j; second = λ j. (b.apart i d).second j ∙ (a.apart i d).second j };
          last = b.last;
          unissued = b.unissued;
          open_all = (let P : State R L → Type 0 = λ z. AllByRecursion (IsOpen join s v k partitions key partition z b.issued n) q.gc.collections in subst P (sym same) b.open_all);
          different = b.different;
          posts = (let P : State R L → Type 0 = λ z. AllByRecursion (MeansPost join s laws v k partitions key partition z b.issued m.collected n m.time) q.posts in subst P (sym same) b.posts);
        }

    -- posts and collections of before, in the world after
    posts_on : (p : Progress R L) (a : Going p) (acts : List (Act join s v k partitions key partition)) (h : Issued R) → Later a.issued h → AllByRecursion (MeansPost join s laws v k partitions key partition (run S (run S mid a.acts) acts) h m.collected n m.time) p.posts
    posts_on p a acts h later = all_weaker _ _ (λ (q : Post R L). packet_stays join s v k partitions key partition (run S mid a.acts) (run S (run S mid a.acts) acts) (grew_run join s v k partitions key partition acts (run S mid a.acts)) a.issued h m.collected m.collected n q.to m.time q.packet later (λ r h. h)) p.posts a.posts

    open_on : (p : Progress R L) (a : Going p) (acts : List (Act join s v k partitions key partition)) (c : Collection) → IsOpen join s v k partitions key partition (run S mid a.acts) a.issued n c → IsOpen join s v k partitions key partition (run S (run S mid a.acts) acts) a.issued n c
    open_on p a acts c h = open_stays join s v k partitions key partition (run S mid a.acts) (run S (run S mid a.acts) acts) (grew_run join s v k partitions key partition acts (run S mid a.acts)) a.issued a.issued n c (same_for_at a.issued a.issued n c.number (same_self a.issued n)) h

    -- a collection is closed
    closes : (p : Progress R L) (a : Going p) (number : ℕ) → More p (record p { gc = closed number p.gc }) a
    closes p a number = record {
      acts = [];
      issued = a.issued;
      happens = tt;
      calm = tt;
      same_control = refl;
      same_time = refl;
      rows = λ i. refl;
      later = later_self a.issued;
      apart = λ i d. same_self a.issued i;
      last = a.last;
      unissued = a.unissued;
      open_all = all_filter _ (λ c. not (c.number == number)) p.gc.collections a.open_all;
      different = fewer_different (λ c. not (c.number == number)) p.gc.collections a.different;
      posts = a.posts;
    }

    -- nothing is done
    stays_so : (p : Progress R L) (a : Going p) → More p p a
    stays_so p a = record { acts = []; issued = a.issued; happens = tt; calm = tt; same_control = refl; same_time = refl; rows = λ i. refl; later = later_self a.issued; apart = λ i d. same_self a.issued i; last = a.last; unissued = a.unissued; open_all = a.open_all; different = a.different; posts = a.posts }

    -- a row of the key is the node's row of now
    has_row : (p : Progress R L) (a : Going p) (r : R) → IsRow x.accepted r → Of r → (run S mid a.acts).row n ≡ Some r
    has_row p a r is of = a.rows n ∙ (row_n ∙ is.own of)

    -- the key of a row, told by a test
    of_row : (r : R) → IsRow x.accepted r → s.key r ≡ key → Of r
    of_row r is same = record { proper = is.proper; table = is.table; key_is = same }

    -- the row is shown, if it is of the key
    abbrev show : R → List (Act join s v k partitions key partition)
    show r = cond (is_of join s v key r) (act.shows n r ∷ []) []

    record Shown (z : State R L) (r : R) : Type 0 where
      happens : Happens S z (show r)
      calm : AllByRecursion (IsCalm join s v k partitions some key partition) (show r)
      same_control : (run S z (show r)).control ≡ z.control
      same_time : (run S z (show r)).time ≡ z.time
      rows : (i : ℕ) → (run S z (show r)).row i ≡ z.row i
      shown : Of r → Has (run S z (show r)).shown (record { row = r; moment = z.time })

    shows_it : (z : State R L) (r : R) → (Of r → z.row n ≡ Some r) → Shown z r
    shows_it z r has = by_test (is_of join s v key r) refl
      where
        by_test : (b : Bool) → is_of join s v key r ≡ b → Shown z r
        by_test true f = (let P : Bool → Type 0 = λ b. (Happens S z (cond b (act.shows n r ∷ []) [])) × (AllByRecursion (IsCalm join s v k partitions some key partition) (cond b (act.shows n r ∷ []) [])) in
            let Q : Bool → Type 0 = λ b. let u = run S z (cond b (act.shows n r ∷ []) []) in (u.control ≡ z.control) × ((u.time ≡ z.time) × (((i : ℕ) → u.row i ≡ z.row i) × (Of r → Has u.shown (record { row = r; moment = z.time })))) in
            let p = subst P (sym f) ((has (of_test join s v k partitions key partition r f), tt), (tt, tt)) in
            let q = subst Q (sym f) (refl, (refl, ((λ i. refl), (λ of. inl refl)))) in
            record { happens = p.0; calm = p.1; same_control = q.0; same_time = q.1.0; rows = q.1.1.0; shown = q.1.1.1 })
        by_test false f = (let P : Bool → Type 0 = λ b. (Happens S z (cond b (act.shows n r ∷ []) [])) × (AllByRecursion (IsCalm join s v k partitions some key partition) (cond b (act.shows n r ∷ []) [])) in
            let Q : Bool → Type 0 = λ b. let u = run S z (cond b (act.shows n r ∷ []) []) in (u.control ≡ z.control) × ((u.time ≡ z.time) × (((i : ℕ) → u.row i ≡ z.row i) × (Of r → Has u.shown (record { row = r; moment = z.time })))) in
            let p = subst P (sym f) (tt, tt) in
            let q = subst Q (sym f) (refl, (refl, ((λ i. refl), (λ of. absurd (true≢false (sym (test_of join s v k partitions key partition r of) ∙ f)))))) in
            record { happens = p.0; calm = p.1; same_control = q.0; same_time = q.1.0; rows = q.1.1.0; shown = q.1.1.1 })

    -- a collection's row has the bytes of the node's row of its key
    record Fits (c : Collection) (r : R) : Type 0 where
      row : IsRow x.accepted r
      key_is : c.key ≡ s.key r
      bytes_are : c.row ≡ bytes_of s r

    -- what a tombstone of a collection means
    tomb_means : (z : State R L) (h : Issued R) (c : Collection) (r : R) (round : ℕ) → Fits c r → z.time ≡ m.time → (Of r → Has z.shown (record { row = r; moment = z.time })) → IsOpen join s v k partitions key partition z h n c →
        ((mine : Mine z h n c) → round ≡ 2 → (u : Second R Version) × ((h.second n c.number ≡ Some u) × Has z.second u)) → MeansTomb join s v k partitions key partition z h n m.time c.number round c.row
    tomb_means z h c r round fits time shown open_c second = record {
      low = open_c.low;
      shown = λ q f of.
          let same : q ≡ r = some_is (s.read c.row) q r f (ap s.read fits.bytes_are ∙ read_back join s laws v k partitions key partition r (bytes_of s r) fits.row.bytes) in
          let P : ℕ → Type 0 = λ moment. Has z.shown (record { row = q; moment = moment }) in
          let Q : R → Type 0 = λ a. Has z.shown (record { row = a; moment = z.time }) in
          subst P time (subst Q (sym same) (shown (subst Of same of)));
      means = λ b f. elim (cases_key c) [
        | inl is_key ↦
            let mine = open_c.mine is_key in
            let same : mine.begun ≡ b = some_is (h.begun n c.number) mine.begun b mine.issued f in
            record {
              there = subst (Has z.begun) same mine.there;
              row_is = subst (λ (b : Begun R Version). s.spelling b.row ≡ Some c.row) same mine.bytes;
              second = λ two. second mine two;
            }
        | inr apart ↦ absurd (let none : None ≡ Some b = sym (open_c.other apart) ∙ f in cc)
      ];
    }
      where
        cases_key : (c : Collection) → (c.key ≡ key) ⊎ (c.key ≢ key)
        cases_key c = by_same (same_bytes c.key key) refl
          where
            by_same : (b : Bool) → same_bytes c.key key ≡ b → (c.key ≡ key) ⊎ (c.key ≢ key)
            by_same true f = inl (same_are c.key key f)
            by_same false f = inr (λ same. true≢false (sym (are_same c.key key same) ∙ f))

    -- a round is sent again
    resends : (p : Progress R L) (a : Going p) (c : Collection) (r : R) (round : ℕ) (nodes : List ℕ) → Has p.gc.collections c → Fits c r → ((mine : Mine (run S mid a.acts) a.issued n c) → round ≡ 2 → (u : Second R Version) × ((a.issued.second n c.number ≡ Some u) × Has (run S mid a.acts).second u)) → More p (record p { posts = p.posts ++ to_each nodes (Tomb c.number round c.row) }) a
    resends p a c r round nodes there fits second =
        let z = run S mid a.acts in
        let shown = shows_it z r (λ of. has_row p a r fits.row of) in
        let new = run S z (show r) in
        let grew = grew_run join s v k partitions key partition (show r) z in
        let open_c = open_on p a (show r) c (all_has (IsOpen join s v k partitions key partition z a.issued n) p.gc.collections c a.open_all there) in
        let old_c = all_has (IsOpen join s v k partitions key partition z a.issued n) p.gc.collections c a.open_all there in
        record {
          acts = show r;
          issued = a.issued;
          happens = shown.happens;
          calm = shown.calm;
          same_control = shown.same_control;
          same_time = shown.same_time;
          rows = shown.rows;
          later = later_self a.issued;
          apart = λ i d. same_self a.issued i;
          last = a.last;
          unissued = a.unissued;
          open_all = all_weaker _ _ (open_on p a (show r)) p.gc.collections a.open_all;
          different = a.different;
          posts = all_append _ p.posts (to_each nodes (Tomb c.number round c.row)) (posts_on p a (show r) a.issued (later_self a.issued))
              (means_each join s laws v k partitions key partition new a.issued m.collected n m.time nodes _ (λ to. tomb_means new a.issued c r round fits (shown.same_time ∙ (a.same_time ∙ t_time))
              (λ of. (let P : ℕ → Type 0 = λ moment. Has new.shown (record { row = r; moment = moment }) in subst P (sym shown.same_time) (shown.shown of)))
              open_c (λ mine two. (let u = second (old_c.mine mine.key_is) two in (u.0, (u.1.0, grew.second u.0 u.1.1))))));
        }

    -- a second round of a collection of the key begins
    seconds_mine : (p : Progress R L) (a : Going p) (c : Collection) (r : R) (ready : ℕ) (nodes : List ℕ) → Has p.gc.collections c → Fits c r → c.round ≡ 1 → c.ready ≡ Some ready → ready + collection_pause ≤ now → version ≡ c.newest → (mine : Mine (run S mid a.acts) a.issued n c) → (first : IsFirst join s v k partitions key partition (run S mid a.acts) a.issued n c mine.begun) → IsReady join s v k partitions key partition (run S mid a.acts) a.issued c mine.begun →
        More p (record p { gc = changed_in in_second c.number p.gc; posts = p.posts ++ to_each nodes (Tomb c.number 2 c.row) }) a
    seconds_mine p a c r ready nodes there fits one ready_is paused known mine first rd =
        let z = run S mid a.acts in
        let t2 : Second R Version = record { number = length z.second; ready = rd.ready } in
        let at_second : State R L = step S z (act.seconds rd.ready) in
        let shown = shows_it at_second r (λ of. has_row p a r fits.row of) in
        let acts = act.seconds rd.ready ∷ show r in
        let new = run S z acts in
        let grew = grew_run join s v k partitions key partition acts z in
        let h : Issued R = record a.issued { second = λ i j. cond ((i == n) && (j == c.number)) (Some t2) (a.issued.second i j) } in
        let open_c = all_has (IsOpen join s v k partitions key partition z a.issued n) p.gc.collections c a.open_all there in
        let here : h.second n c.number ≡ Some t2 = ap (λ b. cond b (Some t2) (a.issued.second n c.number)) (Rattle.crdt_core.specs.EntryLaws.and_both (n == n) (c.number == c.number) (eq-eqb n n refl) (eq-eqb c.number c.number refl)) in
        let other : (j : ℕ) → j ≢ c.number → h.second n j ≡ a.issued.second n j = λ j d. ap (λ b. cond b (Some t2) (a.issued.second n j)) (ap (λ b. (n == n) && b) (ne_eqb j c.number d) ∙ and_off (n == n)) in
        let away : (i : ℕ) → i ≢ n → (j : ℕ) → h.second i j ≡ a.issued.second i j = λ i d j. ap (λ b. cond (b && (j == c.number)) (Some t2) (a.issued.second i j)) (ne_eqb i n d) in
        let later : Later a.issued h = record {
          last = λ i. omega arith;
          begun = λ i j low. refl;
          second = λ i j u f. elim (cases_eq i n) [
            | inr d ↦ away i d j ∙ f
            | inl same ↦ (let P : ℕ → Type 0 = λ i. a.issued.second i j ≡ Some u → h.second i j ≡ Some u in subst P (sym same) (λ f. elim (cases_eq j c.number) [
              | inr d ↦ other j d ∙ f
              | inl at ↦ (let Q : ℕ → Type 0 = λ j. a.issued.second n j ≡ Some u in absurd (let none : None ≡ Some u = sym first.none ∙ subst Q at f in cc))
            ]) f)
          ];
        } in
        let clock_is : rd.ready.clock ≡ ready = some_is c.ready rd.ready.clock ready rd.clock ready_is in
        let time_is : z.time ≡ mid.time = a.same_time in
        let at_node : mine.begun.node ≡ n = mine.at_node in
        let begun_is : rd.ready.begun ≡ mine.begun = rd.of_it in
        let same_newest : S.control.newest z.control rd.ready.begun.node ≡ rd.ready.begun.newest =
        ap (λ (b : Begun R Version). S.control.newest z.control b.node) begun_is ∙ (ap (S.control.newest z.control) at_node ∙ (ap (λ q. S.control.newest q n) a.same_control ∙ (control ∙ (known ∙ (sym mine.newest ∙ ap (λ (b : Begun R Version). b.newest) (sym begun_is)))))) in
        let in_new : IsOpen join s v k partitions key partition new h n (in_second c) = record {
          low = open_c.low;
          own = open_c.own;
          mine = λ is_key. record {
            key_is = mine.key_is;
            begun = mine.begun;
            issued = mine.issued;
            there = grew.begun mine.begun mine.there;
            at_node = mine.at_node;
            bytes = mine.bytes;
            of_key = mine.of_key;
            newest = mine.newest;
            self = mine.self;
            first = all_weaker _ _ (λ (b : ℕ × ℕ) (w1 : IsWitness S z mine.begun (witness b)). elim w1 [ inl own ↦ inl own | inr rest ↦ inr (rest.0, grew.tombed _ rest.1) ]) c.first mine.first;
            different = mine.different;
            among = mine.among;
            phase = inr (record {
              round = refl;
              ready = record { ready = rd.ready; there = grew.ready rd.ready rd.there; of_it = rd.of_it; first = rd.first; clock = rd.clock; full = rd.full };
              second = t2;
              issued = here;
              there = (grew_run join s v k partitions key partition (show r) at_second).second t2 (inl refl);
              of_it = refl;
              again = (inl open_c.own, tt);
              different = ((λ e. e), tt);
              among = (subst (Has (map node_of c.first)) (sym open_c.own) mine.self, tt);
            });
          };
          other = λ apart. absurd (apart mine.key_is);
        } in
        record {
          acts = acts;
          issued = h;
          happens = (record { is_ready = rd.there; paused = (let pt : mid.time ≡ m.time = t_time in let pf : now ≤ m.time + hour = fast in omega arith); same = same_newest }, shown.happens);
          calm = (tt, shown.calm);
          same_control = shown.same_control;
          same_time = shown.same_time;
          rows = shown.rows;
          later = later;
          apart = λ i d. record { last = refl; begun = λ j. refl; second = away i d };
          last = a.last;
          unissued = λ i late. ((a.unissued i late).0, other i (λ same. (let low : c.number ≤ a.issued.last n = open_c.low in let l : a.issued.last n ≡ p.gc.begun = a.last in omega arith)) ∙ (a.unissued i late).1);
          open_all = all_changed (IsOpen join s v k partitions key partition z a.issued n) (IsOpen join s v k partitions key partition new h n) in_second c.number p.gc.collections a.open_all
              (λ d h_d is_d apart. open_stays join s v k partitions key partition z new grew a.issued h n d (record { last = omega arith; begun = refl; second = other d.number apart }) is_d)
              (λ d h_d is_d at. (let same : c ≡ d = one_collection p.gc.collections c d a.different there h_d (sym at) in subst (λ y. IsOpen join s v k partitions key partition new h n (in_second y)) same in_new));
          different = changed_different (λ d. cond (d.number == c.number) (in_second d) d) p.gc.collections (λ d. elim (d.number == c.number) as (λ b. (cond b (in_second d) d).number ≡ d.number) [ true ↦ refl | false ↦ refl ]) a.different;
          posts = all_append _ p.posts (to_each nodes (Tomb c.number 2 c.row)) (posts_on p a acts h later)
              (means_each join s laws v k partitions key partition new h m.collected n m.time nodes _ (λ to. tomb_means new h (in_second c) r 2 (record { row = fits.row; key_is = fits.key_is; bytes_are = fits.bytes_are }) (shown.same_time ∙ (a.same_time ∙ t_time))
              (λ of. (let P : ℕ → Type 0 = λ moment. Has new.shown (record { row = r; moment = moment }) in subst P (sym shown.same_time) (shown.shown of)))
              in_new (λ mine2 two. (t2, (here, (grew_run join s v k partitions key partition (show r) at_second).second t2 (inl refl))))));
        }
      where
        and_off : (b : Bool) → (b && false) ≡ false
        and_off true = refl
        and_off false = refl

    -- a second round of a collection of another key begins
    seconds_other : (p : Progress R L) (a : Going p) (c : Collection) (r : R) (nodes : List ℕ) → Has p.gc.collections c → Fits c r → c.key ≢ key →
        More p (record p { gc = changed_in in_second c.number p.gc; posts = p.posts ++ to_each nodes (Tomb c.number 2 c.row) }) a
    seconds_other p a c r nodes there fits apart =
        let z = run S mid a.acts in
        let open_c = all_has (IsOpen join s v k partitions key partition z a.issued n) p.gc.collections c a.open_all there in
        let in_new : IsOpen join s v k partitions key partition z a.issued n (in_second c) = record { low = open_c.low; own = open_c.own; mine = λ is_key. absurd (apart is_key); other = λ _. open_c.other apart } in
        record {
          acts = [];
          issued = a.issued;
          happens = tt;
          calm = tt;
          same_control = refl;
          same_time = refl;
          rows = λ i. refl;
          later = later_self a.issued;
          apart = λ i d. same_self a.issued i;
          last = a.last;
          unissued = a.unissued;
          open_all = all_changed (IsOpen join s v k partitions key partition z a.issued n) (IsOpen join s v k partitions key partition z a.issued n) in_second c.number p.gc.collections a.open_all
              (λ d h_d is_d away. is_d)
              (λ d h_d is_d at. (let same : c ≡ d = one_collection p.gc.collections c d a.different there h_d (sym at) in subst (λ y. IsOpen join s v k partitions key partition z a.issued n (in_second y)) same in_new));
          different = changed_different (λ d. cond (d.number == c.number) (in_second d) d) p.gc.collections (λ d. elim (d.number == c.number) as (λ b. (cond b (in_second d) d).number ≡ d.number) [ true ↦ refl | false ↦ refl ]) a.different;
          posts = all_append _ p.posts (to_each nodes (Tomb c.number 2 c.row)) a.posts
              (means_each join s laws v k partitions key partition z a.issued m.collected n m.time nodes _ (λ to. tomb_means z a.issued (in_second c) r 2 (record { row = fits.row; key_is = fits.key_is; bytes_are = fits.bytes_are }) (a.same_time ∙ t_time)
              (λ of. absurd (apart (fits.key_is ∙ of.key_is)))
              in_new (λ mine2 two. absurd (apart mine2.key_is))));
        }

    -- the numbers of a node that begins one more collection, of the key or not
    abbrev next_last : Issued R → ℕ → ℕ → ℕ
    next_last h number i = cond (i == n) number (h.last i)

    -- a collection of the key begins
    begins_mine : (p : Progress R L) (a : Going p) (r : R) (u : Version) (nodes : List ℕ) → IsRow x.accepted r → Of r → s.marker r ≡ Some u → u.0 + collection_age ≤ now →
        More p (record { gc = begun_with p.gc (s.key r) (bytes_of s r) n version; posts = p.posts ++ to_each nodes (Tomb (p.gc.begun + 1) 1 (bytes_of s r)); begun = p.begun + 1 }) a
    begins_mine p a r u nodes row of marked aged =
        let z = run S mid a.acts in
        let number = p.gc.begun + 1 in
        let b0 : Begun R Version = record { node = n; row = r; version = u; newest = S.control.newest z.control n } in
        let acts = act.begins n r u ∷ act.shows n r ∷ [] in
        let new = run S z acts in
        let grew = grew_run join s v k partitions key partition acts z in
        let h : Issued R = record { last = next_last a.issued number; begun = λ i j. cond ((i == n) && (j == number)) (Some b0) (a.issued.begun i j); second = a.issued.second } in
        let begun_now : a.issued.last n ≡ p.gc.begun = a.last in
        let here : h.begun n number ≡ Some b0 = ap (λ b. cond b (Some b0) (a.issued.begun n number)) (Rattle.crdt_core.specs.EntryLaws.and_both (n == n) (number == number) (eq-eqb n n refl) (eq-eqb number number refl)) in
        let last_here : h.last n ≡ number = ap (λ b. cond b number (a.issued.last n)) (eq-eqb n n refl) in
        let last_away : (i : ℕ) → i ≢ n → h.last i ≡ a.issued.last i = λ i d. ap (λ b. cond b number (a.issued.last i)) (ne_eqb i n d) in
        let other : (j : ℕ) → j ≢ number → h.begun n j ≡ a.issued.begun n j = λ j d. ap (λ b. cond b (Some b0) (a.issued.begun n j)) (ap (λ b. (n == n) && b) (ne_eqb j number d) ∙ off (n == n)) in
        let away : (i : ℕ) → i ≢ n → (j : ℕ) → h.begun i j ≡ a.issued.begun i j = λ i d j. ap (λ b. cond (b && (j == number)) (Some b0) (a.issued.begun i j)) (ne_eqb i n d) in
        let later : Later a.issued h = record {
          last = λ i. elim (cases_eq i n) [
            | inl same ↦ (let P : ℕ → Type 0 = λ i. a.issued.last i ≤ h.last i in subst P (sym same) (let l : h.last n ≡ number = last_here in omega arith))
            | inr d ↦ (let l : h.last i ≡ a.issued.last i = last_away i d in omega arith)
          ];
          begun = λ i j low. elim (cases_eq i n) [
            | inl same ↦ (let P : ℕ → Type 0 = λ i. j ≤ a.issued.last i → h.begun i j ≡ a.issued.begun i j in subst P (sym same) (λ low. other j (λ at. omega arith)) low)
            | inr d ↦ away i d j
          ];
          second = λ i j t f. f;
        } in
        let c0 = opened number (s.key r) (bytes_of s r) n version in
        let newest_is : b0.newest ≡ version = ap (λ c. S.control.newest c n) a.same_control ∙ control in
        let none = a.unissued number (omega arith) in
        let is_new : IsOpen join s v k partitions key partition new h n c0 = record {
          low = (let l : h.last n ≡ number = last_here in omega arith);
          own = refl;
          mine = λ is_key. record {
            key_is = of.key_is;
            begun = b0;
            issued = here;
            there = inl refl;
            at_node = refl;
            bytes = row.bytes;
            of_key = of;
            newest = newest_is;
            self = inl refl;
            first = (inl (refl, sym newest_is), tt);
            different = ((λ e. e), tt);
            among = (asked, tt);
            phase = inl (record { round = refl; none = none.1; ready = inl refl });
          };
          other = λ apart. absurd (apart of.key_is);
        } in
        let fits : Fits c0 r = record { row = row; key_is = refl; bytes_are = refl } in
        let time : new.time ≡ m.time = a.same_time ∙ t_time in
        record {
          acts = acts;
          issued = h;
          happens = (record { has = has_row p a r row of; marked = marker_of join s laws v versions k partitions key partition r u (test_of join s v k partitions key partition r of) marked; aged = (let ta : z.time ≡ mid.time = a.same_time in let tm : mid.time ≡ m.time = t_time in let tf : now ≤ m.time + hour = fast in omega arith) }, (has_row p a r row of, tt));
          calm = (tt, (tt, tt));
          same_control = refl;
          same_time = refl;
          rows = λ i. refl;
          later = later;
          apart = λ i d. record { last = last_away i d; begun = away i d; second = λ j. refl };
          last = last_here;
          unissued = λ i late. (other i (λ same. omega arith) ∙ (a.unissued i (omega arith)).0, (a.unissued i (omega arith)).1);
          open_all = all_append _ p.gc.collections (c0 ∷ [])
              (all_weaker _ _ (λ d is_d. open_stays join s v k partitions key partition z new grew a.issued h n d (let low : d.number ≤ a.issued.last n = is_d.low in let l : h.last n ≡ number = last_here in record { last = omega arith; begun = other d.number (λ same. omega arith); second = refl }) is_d) p.gc.collections a.open_all)
              (is_new, tt);
          different = subst AreDifferent (sym (Rattle.machine_collects.proofs.Listed.map_last number_of p.gc.collections c0)) (different_last (map number_of p.gc.collections) number a.different (λ has. not_there p a number (omega arith) has));
          posts = all_append _ p.posts (to_each nodes (Tomb number 1 (bytes_of s r))) (posts_on p a acts h later)
              (means_each join s laws v k partitions key partition new h m.collected n m.time nodes _ (λ to. tomb_means new h c0 r 1 fits time (λ _. inl refl) is_new (λ mine2 two. absurd (omega arith))));
        }
      where
        off : (b : Bool) → (b && false) ≡ false
        off true = refl
        off false = refl

        not_there : (p : Progress R L) (a : Going p) (number : ℕ) → a.issued.last n < number → Has (map number_of p.gc.collections) number → ⊥
        not_there p a number high has =
            let found = map_has number_of p.gc.collections number has in
            let low : found.0.number ≤ a.issued.last n = (all_has (IsOpen join s v k partitions key partition (run S mid a.acts) a.issued n) p.gc.collections found.0 a.open_all found.1.0).low in
            let same : found.0.number ≡ number = found.1.1 in
            omega arith

    -- a collection of another key begins
    begins_other : (p : Progress R L) (a : Going p) (r : R) (nodes : List ℕ) → IsRow x.accepted r → s.key r ≢ key →
        More p (record { gc = begun_with p.gc (s.key r) (bytes_of s r) n version; posts = p.posts ++ to_each nodes (Tomb (p.gc.begun + 1) 1 (bytes_of s r)); begun = p.begun + 1 }) a
    begins_other p a r nodes row apart_key =
        let z = run S mid a.acts in
        let number = p.gc.begun + 1 in
        let h : Issued R = record a.issued { last = next_last a.issued number } in
        let begun_now : a.issued.last n ≡ p.gc.begun = a.last in
        let last_here : h.last n ≡ number = ap (λ b. cond b number (a.issued.last n)) (eq-eqb n n refl) in
        let last_away : (i : ℕ) → i ≢ n → h.last i ≡ a.issued.last i = λ i d. ap (λ b. cond b number (a.issued.last i)) (ne_eqb i n d) in
        let later : Later a.issued h = record {
          last = λ i. elim (cases_eq i n) [
            | inl same ↦ (let P : ℕ → Type 0 = λ i. a.issued.last i ≤ h.last i in subst P (sym same) (let l : h.last n ≡ number = last_here in omega arith))
            | inr d ↦ (let l : h.last i ≡ a.issued.last i = last_away i d in omega arith)
          ];
          begun = λ i j low. refl;
          second = λ i j t f. f;
        } in
        let c0 = opened number (s.key r) (bytes_of s r) n version in
        let none = a.unissued number (omega arith) in
        let is_new : IsOpen join s v k partitions key partition z h n c0 = record {
          low = (let l : h.last n ≡ number = last_here in omega arith);
          own = refl;
          mine = λ is_key. absurd (apart_key is_key);
          other = λ _. none.0;
        } in
        let fits : Fits c0 r = record { row = row; key_is = refl; bytes_are = refl } in
        record {
          acts = [];
          issued = h;
          happens = tt;
          calm = tt;
          same_control = refl;
          same_time = refl;
          rows = λ i. refl;
          later = later;
          apart = λ i d. record { last = last_away i d; begun = λ j. refl; second = λ j. refl };
          last = last_here;
          unissued = λ i late. ((a.unissued i (omega arith)).0, (a.unissued i (omega arith)).1);
          open_all = all_append _ p.gc.collections (c0 ∷ [])
              (all_weaker _ _ (λ d is_d. open_stays join s v k partitions key partition z z (grew_self z) a.issued h n d (let l : h.last n ≡ number = last_here in record { last = omega arith; begun = refl; second = refl }) is_d) p.gc.collections a.open_all)
              (is_new, tt);
          different = subst AreDifferent (sym (Rattle.machine_collects.proofs.Listed.map_last number_of p.gc.collections c0)) (different_last (map number_of p.gc.collections) number a.different (λ has. not_there2 p a number (omega arith) has));
          posts = all_append _ p.posts (to_each nodes (Tomb number 1 (bytes_of s r))) (posts_on p a [] h later)
              (means_each join s laws v k partitions key partition z h m.collected n m.time nodes _ (λ to. tomb_means z h c0 r 1 fits (a.same_time ∙ t_time) (λ of. absurd (apart_key of.key_is)) is_new (λ mine2 two. absurd (omega arith))));
        }
      where
        not_there2 : (p : Progress R L) (a : Going p) (number : ℕ) → a.issued.last n < number → Has (map number_of p.gc.collections) number → ⊥
        not_there2 p a number high has =
            let found = map_has number_of p.gc.collections number has in
            let low : found.0.number ≤ a.issued.last n = (all_has (IsOpen join s v k partitions key partition (run S mid a.acts) a.issued n) p.gc.collections found.0 a.open_all found.1.0).low in
            let same : found.0.number ≡ number = found.1.1 in
            omega arith

    -- whether a key is this one
    is_key : (its : List ℕ) → (its ≡ key) ⊎ (its ≢ key)
    is_key its = by_same (same_bytes its key) refl
      where
        by_same : (b : Bool) → same_bytes its key ≡ b → (its ≡ key) ⊎ (its ≢ key)
        by_same true f = inl (same_are its key f)
        by_same false f = inr (λ same. true≢false (sym (are_same its key same) ∙ f))

    -- no collection of the row is open
    unopened : (p : Progress R L) (a : Going p) (r : R) → IsThere x.accepted r → More p (begins_one join s k n now version r p) a
    unopened p a r there = by_spelled (is_spelled s r) refl
      where
        by_age : IsRow x.accepted r → (u : Version) → s.marker r ≡ Some u → (b : Bool) → leb (u.0 + collection_age) now ≡ b → More p (cond b (record { gc = begun_with p.gc (s.key r) (bytes_of s r) n version; posts = p.posts ++ to_each (others n) (Tomb (p.gc.begun + 1) 1 (bytes_of s r)); begun = p.begun + 1 }) p) a
        by_age row u marked false f = stays_so p a
        by_age row u marked true f = elim (is_key (s.key r)) [
          | inl same ↦ begins_mine p a r u (others n) row (of_row r row same) marked (leb-true (u.0 + collection_age) now f)
          | inr apart ↦ begins_other p a r (others n) row apart
        ]

        by_marker : IsRow x.accepted r → (o : Option Version) → s.marker r ≡ o → More p (cond (is_aged now o) (record { gc = begun_with p.gc (s.key r) (bytes_of s r) n version; posts = p.posts ++ to_each (others n) (Tomb (p.gc.begun + 1) 1 (bytes_of s r)); begun = p.begun + 1 }) p) a
        by_marker row None f = stays_so p a
        by_marker row (Some u) f = by_age row u f (leb (u.0 + collection_age) now) refl

        by_spelled : (b : Bool) → is_spelled s r ≡ b → More p (cond (b && is_aged now (s.marker r)) (record { gc = begun_with p.gc (s.key r) (bytes_of s r) n version; posts = p.posts ++ to_each (others n) (Tomb (p.gc.begun + 1) 1 (bytes_of s r)); begun = p.begun + 1 }) p) a
        by_spelled false f = stays_so p a
        by_spelled true f = by_marker (as_row x.accepted r there f) (s.marker r) refl

    -- a collection of the row is open
    is_open : (p : Progress R L) (a : Going p) (r : R) (c : Collection) → IsThere x.accepted r → Has p.gc.collections c → c.key ≡ s.key r → More p (about join s k n now version r (Some c) p) a
    is_open p a r c is_there there same_key = by_same (has_bytes join s c.row (Some r) && (version == c.newest)) refl
      where
        by_pause : Fits c r → version ≡ c.newest → (ready : ℕ) → c.ready ≡ Some ready → (b : Bool) → nat_lt now (ready + collection_pause) ≡ b → More p (cond b p (record p {
          gc = cond (c.round == 1) (changed_in in_second c.number p.gc) p.gc;
          posts = p.posts ++ to_each (missing_of (cond (c.round == 1) (in_second c) c)) (Tomb c.number 2 c.row);
        })) a
        by_pause fits known ready ready_is true f = stays_so p a
        by_pause fits known ready ready_is false f = by_round (c.round == 1) refl
          where
            open_c : IsOpen join s v k partitions key partition (run S mid a.acts) a.issued n c
            open_c = all_has (IsOpen join s v k partitions key partition (run S mid a.acts) a.issued n) p.gc.collections c a.open_all there

            by_round : (b : Bool) → (c.round == 1) ≡ b → More p (record p {
              gc = cond b (changed_in in_second c.number p.gc) p.gc;
              posts = p.posts ++ to_each (missing_of (cond b (in_second c) c)) (Tomb c.number 2 c.row);
            }) a
            by_round true one = elim (is_key c.key) [
              | inr apart ↦ seconds_other p a c r (missing_of (in_second c)) there fits apart
              | inl same ↦ (let mine = open_c.mine same in elim mine.phase [
                | inr second ↦ absurd (let two : c.round ≡ 2 = second.round in let is_one : c.round ≡ 1 = eqb-true c.round 1 one in omega arith)
                | inl first ↦ elim first.ready [
                  | inl none ↦ absurd (let d : None ≡ Some ready = sym none ∙ ready_is in cc)
                  | inr rd ↦ seconds_mine p a c r ready (missing_of (in_second c)) there fits (eqb-true c.round 1 one) ready_is (not_less now (ready + collection_pause) f) known mine first rd
                ]
              ])
            ]
            by_round false not_one = resends p a c r 2 (missing_of c) there fits (λ mine two. elim mine.phase [
              | inl first ↦ absurd (eqb-false c.round 1 not_one first.round)
              | inr second ↦ (second.second, (second.issued, second.there))
            ])

        by_ready : Fits c r → version ≡ c.newest → (o : Option ℕ) → c.ready ≡ o → More p (goes_on_with join s k now c o p) a
        by_ready fits known None f = resends p a c r 1 (missing_of c) there fits (λ mine two. absurd (omega arith))
        by_ready fits known (Some ready) f = by_pause fits known ready f (nat_lt now (ready + collection_pause)) refl

        by_same : (b : Bool) → (has_bytes join s c.row (Some r) && (version == c.newest)) ≡ b → More p (cond b (goes_on_with join s k now c c.ready p) (record p { gc = closed c.number p.gc })) a
        by_same false f = closes p a c.number
        by_same true f =
            let both = and_parts (has_bytes join s c.row (Some r)) (version == c.newest) f in
            let bytes = and_parts (is_spelled s r) (same_bytes (bytes_of s r) c.row) both.0 in
            by_ready (record { row = as_row x.accepted r is_there bytes.0; key_is = same_key; bytes_are = sym (same_are (bytes_of s r) c.row bytes.1) }) (eqb-true version c.newest both.1) c.ready refl

    -- one row after the other
    goes_all : (rs : List R) (p : Progress R L) → AllByRecursion (IsThere x.accepted) rs → Going p → Going (about_all join s k n now version rs p)
    goes_all [] p rows a = a
    goes_all (r ∷ rs) p rows a = goes_all rs (about join s k n now version r (keyed (s.key r) p.gc) p) rows.1 (went p (about join s k n now version r (keyed (s.key r) p.gc) p) a (by_found (keyed (s.key r) p.gc) refl))
      where
        by_found : (o : Option Collection) → keyed (s.key r) p.gc ≡ o → More p (about join s k n now version r o p) a
        by_found None f = unopened p a r rows.0
        by_found (Some c) f = (let found = find_passes (λ c. Rattle.std.specs.Cmp.Lexicographic.pointwise Rattle.std.specs.Prelude.nat_eq c.key (s.key r)) p.gc.collections c f in is_open p a r c rows.0 found.0 (same_are c.key (s.key r) found.1))

  module _ {A C : Type 0} (m : World R L) (w : State R L) (g : Issued R) (sound : IsSound S w) (t : IsTied join s v k partitions key partition m w g) (e : Effects R L A C) where
    -- a node is told to collect
    pub gather_leads : (goes : Goes k partitions m w.control e) (n : ℕ) → Has all_nodes n → IsDid m e n (collects join s k n (clock m n) (m.nodes n)) → Leads join s v k partitions some key partition m w g e
    gather_leads goes n asked is =
        let x = m.nodes n in
        let now = clock m n in
        let version = newest k.reading x.view in
        let d = collects join s k n now x in
        let mid = after_moves join s laws v versions k partitions some key partition m w g sound t e goes w.row in
        let grew_mid : Grew w mid = grew_run join s v k partitions key partition (act.moves goes.steps w.row ∷ []) w in
        let own = Rattle.machine_collects.proofs.Doing.own_node join s laws v k partitions some key partition m w g sound t e n d is in
        let control_is : S.control.newest mid.control n ≡ version = ap (newest k.reading) ((Rattle.machine_collects.proofs.Leads.moved join s v k partitions some key partition m w g sound t e goes).nodes n).view ∙ ap (λ (z : Node R L). newest k.reading z.view) own in
        let fast : now ≤ m.time + hour = (let skew : m.skew_of n ≤ hour = t.skews n in omega arith) in
        let start : Progress R L = record { gc = kept_rows join s k x x.gc; posts = []; begun = 0 } in
        let first : Going m w mid g n now version x t.time control_is fast asked (t.nodes n).row start = record {
          acts = [];
          issued = g;
          happens = tt;
          calm = tt;
          same_control = refl;
          same_time = refl;
          rows = λ i. refl;
          later = later_self g;
          apart = λ i apart. same_self g i;
          last = (t.nodes n).last;
          unissued = (t.nodes n).unissued;
          open_all = all_filter _ (λ c. is_some (row_at join s x.accepted 1 c.key)) x.gc.collections (all_weaker _ _ (λ c. open_stays join s v k partitions key partition w mid grew_mid g g n c (same_for_at g g n c.number (same_self g n))) x.gc.collections (t.nodes n).collections);
          different = fewer_different (λ c. is_some (row_at join s x.accepted 1 c.key)) x.gc.collections (t.nodes n).different;
          posts = tt;
        } in
        let all = goes_all m w mid g n now version x t.time control_is fast asked (t.nodes n).row (object_rows join s x) start (are_there x (t.nodes n).proper) first in
        Rattle.machine_collects.proofs.Acting.acts_lead join s laws v versions k partitions some key partition m w g sound t e goes n d is w.row (λ i apart. refl) (stay_all join s laws v versions k partitions some key partition m w g sound t e goes n d is (omega arith)) all.acts all.issued all.later all.apart all.happens all.calm (λ i apart. all.rows i)
        (record {
          row = all.rows n ∙ (t.nodes n).row;
          proper = (t.nodes n).proper;
          items = (t.nodes n).items;
          last = all.last;
          unissued = all.unissued;
          collections = all.open_all;
          different = all.different;
        })
        all.posts tt
