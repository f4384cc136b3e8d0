-- What a node does about collections, where its rows have a property: so do the tombstones that it collects, merges and sends.
use Rattle.std.specs.Prelude.{◌≡◌, ℕ, ◌+◌, Bool, true, false, not, cond, if◌then◌else◌, ◌&&◌, ◌==◌, nat_lt, Option, Some, None, is_some, List, [], ◌∷◌, ◌++◌, length, map, nat_eq, refl}
use Rattle.std.specs.List.{AllByRecursion}
use Rattle.std.specs.Cmp.Lexicographic.{pointwise}
use Rattle.std.proofs.Common.{sym, subst, ◌∙◌}
use Rattle.crdt_core.proofs.Each.{all_append}
use Rattle.blake2_hash.specs.Blake2b.{blake2b}
use Rattle.view_model.specs.View.{newest}
use Rattle.table_schema.specs.Words.{Words, partition_of}
use Rattle.table_model.specs.Rows.{is_at, row_at, rows}
use Rattle.gc_model.specs.declared.collection.Collection.{Collection}
use Rattle.gc_model.specs.declared.collection.GcEnd.{GcEnd}
use Rattle.gc_model.specs.declared.collection.GcEnd.TheVariants.{Wait, Closed, Complete}
use Rattle.gc_model.specs.Rounds.{is_closed}
use Rattle.gc_model.specs.Collecting.{Open, has_confirmed, numbered, keyed, opened, begun_with, changed, closed, after_answer, told, answer_end, answered, in_second, missing_of}
use Rattle.wire_messages.specs.declared.message.Message.TheVariants.{Tomb, Forget}
use Rattle.cluster_machine.specs.Layouts.{Layouts, is_given}
use Rattle.cluster_machine.specs.Node.{Node, Post, Did, quiet}
use Rattle.cluster_machine.specs.Rows.{accepts}
use Rattle.cluster_machine.specs.Phases.{to_each, bytes_of, is_spelled}
use Rattle.cluster_machine.specs.Collects.{collection_pause, others, is_aged, Progress, object_rows, has_bytes, has_digest, without_row, forgets_row, forgets, drops_row, merges, takes_tomb, finishes, answered_to, tomb_came, goes_on_with, about, about_all, with_rows, collects}
use Rattle.machine_origins.proofs.Lists.{all_filter, all_found}
use Rattle.machine_origins.proofs.Good.{IsGood, IsFound, Rules, row_found, rows_good}
use Rattle.machine_origins.proofs.Sound.{Asks, ReadsTo, IsNode, IsDone}
use Rattle.machine_origins.proofs.Accepting.{accepts_node}
use Rattle.machine_origins.proofs.Sending.{ArePosts, each_post, reads_to}

-- ---- collections keep their row

answer_row : (node newest now : ℕ) (c : Collection) → (after_answer node newest now c).row ≡ c.row
answer_row node newest now c =
    elim (has_confirmed node c) as (λ b. (if b then c else if c.round == 1 then record c { first = c.first ++ (node, newest) ∷ []; ready = (if length c.first + 1 == 16 then Some now else c.ready) } else record c { again = c.again ++ node ∷ [] }).row ≡ c.row) [
      | true ↦ refl
      | false ↦ elim (c.round == 1) as (λ b. (if b then record c { first = c.first ++ (node, newest) ∷ []; ready = (if length c.first + 1 == 16 then Some now else c.ready) } else record c { again = c.again ++ node ∷ [] }).row ≡ c.row) [ true ↦ refl | false ↦ refl ]
    ]

told_row : (round node newest now : ℕ) (c : Collection) → (told round node newest now c).row ≡ c.row
told_row round node newest now c =
    elim (round == c.round) as (λ b. (if b then after_answer node newest now c else c).row ≡ c.row) [
      | true ↦ answer_row node newest now c
      | false ↦ refl
    ]

module _ (P : List ℕ → Type 0) where
  abbrev pub HaveRows : Open → Type 0
  HaveRows o = AllByRecursion (λ (c : Collection). P c.row) o.collections

  pub changed_rows : (f : Collection → Collection) → ((c : Collection) → (f c).row ≡ c.row) → (number : ℕ) (cs : List Collection) → AllByRecursion (λ (c : Collection). P c.row) cs → AllByRecursion (λ (c : Collection). P c.row) (map (λ c. if c.number == number then f c else c) cs)
  changed_rows f same number [] a = tt
  changed_rows f same number (c ∷ cs) a = (
    elim (c.number == number) as (λ b. P (if b then f c else c).row) [ true ↦ subst P (sym (same c)) a.0 | false ↦ a.0 ],
    changed_rows f same number cs a.1,
  )

  pub closed_rows : (number : ℕ) (o : Open) → HaveRows o → HaveRows (closed number o)
  closed_rows number o a = all_filter (λ (c : Collection). P c.row) (λ c. not (c.number == number)) o.collections a

  pub answered_rows : (number round node newest now : ℕ) (o : Open) → HaveRows o → HaveRows (answered number round node newest now o)
  answered_rows number round node newest now o a =
      elim (is_closed (answer_end number round node newest o)) as (λ b. HaveRows (if b then closed number o else changed (told round node newest now) number o)) [
        | true ↦ closed_rows number o a
        | false ↦ changed_rows (told round node newest now) (told_row round node newest now) number o.collections a
      ]

module _ {R : Type 0} {join : R → R → R} {s : Words R} {P : R → Type 0} (rules : Rules join s P) (Q : List ℕ → List ℕ → Type 0) {L : Type 0} (k : Layouts L) (g : Asks) (count n : ℕ) (x : Node R L) (i : IsNode join s P Q g count n x) where
  abbrev Sound : Node R L → Type 0
  Sound y = IsNode join s P Q g count n y

  abbrev Done : Did R L → Type 0
  Done d = IsDone join s P Q x.calls g count n d

  abbrev Reads : List ℕ → Type 0
  Reads bytes = ReadsTo join s P Q bytes

  gc_done : (o : Open) → HaveRows Reads o → Done (quiet (record x { gc = o }))
  gc_done o a = record { node = record { accepted = i.accepted; items = i.items; calls = i.calls; collections = a }; posts = λ e. tt; reads = tt; ends = tt; collects = tt }

  rests : Done (quiet x)
  rests = record { node = i; posts = λ e. tt; reads = tt; ends = tt; collects = tt }

  either : (b : Bool) (d e : Did R L) → Done d → Done e → Done (cond b d e)
  either true d e h f = h
  either false d e h f = f

  dropped_node : (table : ℕ) (key : List ℕ) (o : Open) → HaveRows Reads o → Sound (record (without_row join s x table key) { gc = o })
  dropped_node table key o a = record { accepted = all_filter (IsGood s P) (λ r. not (is_at s table key r)) x.accepted i.accepted; items = i.items; calls = i.calls; collections = a }

  -- another node has collected a row
  forgotten_done : (table : ℕ) (key : List ℕ) (test : R → Bool) (o : Option R) → table ≡ 1 → IsFound s P table key o → Done (forgets_row join s x table key test o)
  forgotten_done table key test None object found = rests
  forgotten_done table key test (Some r) object found =
      either (test r) _ (quiet x) (record { node = dropped_node table key x.gc i.collections; posts = λ e. tt; reads = tt; ends = tt; collects = ((found.good, found.table_is ∙ object), tt) }) rests

  pub forget_done : (table : ℕ) (key hash : List ℕ) → table ≡ 1 → Done (forgets join s x table key hash)
  forget_done table key hash object = forgotten_done table key (has_digest join s hash) (row_at join s x.accepted table key) object (row_found rules x.accepted table key i.accepted)

  -- a collection comes to its end, or its node has one more answer
  drops_done : (o : Open) (c : Collection) (row : Option R) → HaveRows Reads o → IsFound s P 1 c.key row → Done (drops_row join s n (record x { gc = o }) c row)
  drops_done o c None a found = gc_done o a
  drops_done o c (Some r) a found = record { node = dropped_node 1 c.key o a; posts = λ e. each_post rules Q k g n (others n) (Forget 1 c.key (record { 0 = blake2b 32 (bytes_of s r) })) (λ to. refl); reads = tt; ends = tt; collects = ((found.good, found.table_is), tt) }

  finishes_done : (o : Option Collection) → Done (finishes join s k n x o)
  finishes_done None = rests
  finishes_done (Some c) =
      let row = row_at join s x.accepted 1 c.key in
      let a = closed_rows Reads c.number x.gc i.collections in
      either ((newest k.reading x.view == c.newest) && has_bytes join s c.row row) _ _ (drops_done (closed c.number x.gc) c row a (row_found rules x.accepted 1 c.key i.accepted)) (gc_done (closed c.number x.gc) a)

  answered_done : (number round : ℕ) (o : Open) (e : GcEnd) → HaveRows Reads o → Done (answered_to join s k n x number round o e)
  answered_done number round o Wait a = gc_done o a
  answered_done number round o Closed a = gc_done o a
  answered_done number round o Complete a = either (round == 2) _ _ (finishes_done (numbered number x.gc)) (gc_done o a)

  pub tombed_done : (now from number round named : ℕ) → Done (tomb_came join s k n now x from number round named)
  tombed_done now from number round named =
      answered_done number round (answered number round from named now x.gc) (answer_end number round from named x.gc) (answered_rows Reads number round from named now x.gc i.collections)

  -- a tombstone comes
  merged_node : (now : ℕ) (o : Option R) → ((r : R) → o ≡ Some r → IsGood s P r) → Sound (merges join s k n now x o)
  merged_node now None good = i
  merged_node now (Some r) good = elim (is_given k x.view n (partition_of s r)) as (λ b. Sound (cond b (accepts join s now x r None) x)) [ true ↦ accepts_node rules Q g count n now x r None (good r refl) i | false ↦ i ]

  pub tomb_done : (now from number round : ℕ) (row : List ℕ) → Reads row → Done (takes_tomb join s k n now x from number round row)
  tomb_done now from number round row reads = record {
    node = merged_node now (s.read row) (λ r e. record { proper = rules.laws.spelled_is_proper r row ((rules.laws.reads_back r row).0 e); has = reads r e });
    posts = λ e. (tt, tt);
    reads = tt;
    ends = tt;
    collects = tt;
  }

  -- ---- the node is told to collect

  abbrev Posts : List (Post R L) → Type 0
  Posts posts = ArePosts rules Q k g n posts

  -- what it has done so far
  record Going (t : Progress R L) : Type 0 where
    collections : HaveRows Reads t.gc
    posts : Posts t.posts

  going_cond : (b : Bool) (t u : Progress R L) → Going t → Going u → Going (cond b t u)
  going_cond true t u h f = h
  going_cond false t u h f = f

  more : (t : Progress R L) (nodes : List ℕ) (number round : ℕ) (row : List ℕ) → Posts t.posts → Reads row → Posts (t.posts ++ to_each nodes (Tomb number round row))
  more t nodes number round row a reads = all_append _ t.posts (to_each nodes (Tomb number round row)) a (each_post rules Q k g n nodes (Tomb number round row) (λ to. reads))

  begins : (now version : ℕ) (r : R) (t : Progress R L) → P r → Going t → (b : Bool) → is_spelled s r ≡ b → Going (cond (b && is_aged now (s.marker r)) (record {
    gc = begun_with t.gc (s.key r) (bytes_of s r) n version;
    posts = t.posts ++ to_each (others n) (Tomb (t.gc.begun + 1) 1 (bytes_of s r));
    begun = t.begun + 1;
  }) t)
  begins now version r t has a false e = a
  begins now version r t has a true e =
      let reads : Reads (bytes_of s r) = reads_to rules Q r has e in
      going_cond (is_aged now (s.marker r)) _ t
      (record {
        collections = all_append (λ (c : Collection). Reads c.row) t.gc.collections (opened (t.gc.begun + 1) (s.key r) (bytes_of s r) n version ∷ []) a.collections (reads, tt);
        posts = more t (others n) (t.gc.begun + 1) 1 (bytes_of s r) a.posts reads;
      })
      a

  goes_on : (now : ℕ) (c : Collection) (ready : Option ℕ) (t : Progress R L) → Reads c.row → Going t → Going (goes_on_with join s k now c ready t)
  goes_on now c None t reads a = record { collections = a.collections; posts = more t (missing_of c) c.number 1 c.row a.posts reads }
  goes_on now c (Some ready) t reads a = going_cond (nat_lt now (ready + collection_pause)) t _ a (record {
    collections = elim (c.round == 1) as (λ b. HaveRows Reads (cond b (changed in_second c.number t.gc) t.gc)) [
      | true ↦ changed_rows Reads in_second (λ c. refl) c.number t.gc.collections a.collections
      | false ↦ a.collections
    ];
    posts = more t (missing_of (cond (c.round == 1) (in_second c) c)) c.number 2 c.row a.posts reads;
  })

  goes_about : (now version : ℕ) (r : R) (o : Option Collection) (t : Progress R L) → P r → ((c : Collection) → o ≡ Some c → Reads c.row) → Going t → Going (about join s k n now version r o t)
  goes_about now version r None t has reads a = begins now version r t has a (is_spelled s r) refl
  goes_about now version r (Some c) t has reads a =
      going_cond (has_bytes join s c.row (Some r) && (version == c.newest)) _ _ (goes_on now c c.ready t (reads c refl) a) (record { collections = closed_rows Reads c.number t.gc a.collections; posts = a.posts })

  goes_all : (now version : ℕ) (rs : List R) (t : Progress R L) → AllByRecursion (IsGood s P) rs → Going t → Going (about_all join s k n now version rs t)
  goes_all now version [] t good a = a
  goes_all now version (r ∷ rs) t good a =
      goes_all now version rs (about join s k n now version r (keyed (s.key r) t.gc) t) good.1
      (goes_about now version r (keyed (s.key r) t.gc) t good.0.has (λ c e. (all_found (λ (c : Collection). Reads c.row) (λ c. pointwise nat_eq c.key (s.key r)) t.gc.collections c a.collections e).0) a)

  pub collects_done : (now : ℕ) → Done (collects join s k n now x)
  collects_done now =
      let start : Progress R L = record { gc = with_rows join s k x x.gc; posts = []; begun = 0 } in
      let first : Going start = record { collections = all_filter (λ (c : Collection). Reads c.row) (λ c. is_some (row_at join s x.accepted 1 c.key)) x.gc.collections i.collections; posts = tt } in
      let end = goes_all now (newest k.reading x.view) (object_rows join s x) start (all_filter (IsGood s P) (λ r. s.table r == 1) (rows join s x.accepted) (rows_good rules x.accepted i.accepted)) first in
      record { node = record { accepted = i.accepted; items = i.items; calls = i.calls; collections = end.collections }; posts = λ e. end.posts; reads = tt; ends = tt; collects = tt }
