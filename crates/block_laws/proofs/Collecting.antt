-- Tombstones need no block: what a node does about collections leaves it with the blocks that its rows need.
use Rattle.std.specs.Prelude.{◌≡◌, ℕ, ◌+◌, Bool, true, false, not, cond, ◌&&◌, ◌==◌, nat_lt, Option, Some, None, is_some, List, [], ◌∷◌, ◌++◌, nat_eq, IsTrue, refl}
use Rattle.std.specs.Cmp.Lexicographic.{pointwise}
use Rattle.std.specs.Ordering.{is_eq}
use Rattle.std.proofs.Common.{ap, sym, subst}
use Rattle.crdt_core.proofs.Each.{all_append}
use Rattle.blake2_hash.specs.Blake2b.{blake2b}
use Rattle.view_model.specs.View.{newest}
use Rattle.table_schema.specs.Words.{Words, partition_of}
use Rattle.table_schema.specs.Laws.{Laws}
use Rattle.table_model.specs.Rows.{place_cmp, is_at, row_at}
use Rattle.gc_model.specs.declared.collection.Collection.{Collection}
use Rattle.gc_model.specs.declared.collection.GcEnd.{GcEnd}
use Rattle.gc_model.specs.declared.collection.GcEnd.TheVariants.{Wait, Closed, Complete}
use Rattle.gc_model.specs.Collecting.{Open, numbered, keyed, opened, begun_with, changed, closed, answer_end, answered, in_second, missing_of}
use Rattle.wire_messages.specs.declared.message.Message.TheVariants.{Tomb, Forget}
use Rattle.cluster_machine.specs.Layouts.{Layouts, is_given}
use Rattle.cluster_machine.specs.Node.{Node, Post, Did, quiet}
use Rattle.cluster_machine.specs.Rows.{accepts}
use Rattle.cluster_machine.specs.Phases.{to_each, bytes_of, is_spelled}
use Rattle.cluster_machine.specs.Collects.{collection_pause, others, is_aged, Progress, object_rows, has_bytes, has_digest, without_row, forgets_row, forgets, drops_row, merges, takes_tomb, finishes, answered_to, tomb_came, goes_on_with, about, about_all, with_rows, collects}
use Rattle.cluster_machine.specs.Blocks.{IsBeside, NeedsNone, IsStocked}
use Rattle.machine_origins.proofs.Lists.{all_filter, all_found}
use Rattle.machine_origins.proofs.Gathering.{HaveRows, changed_rows, closed_rows, answered_rows}
use Rattle.block_laws.proofs.Accepting.{accepts_node}
use Rattle.block_laws.proofs.Found.{row_passing}
use Rattle.block_laws.proofs.Sending.{ArePosts, each_post, row_with}

-- a row that is old enough has a marker
marked_by : (now : ℕ) (o : Option (ℕ × ℕ)) → is_aged now o ≡ true → (version : ℕ × ℕ) × (o ≡ Some version)
marked_by now None e = cc
marked_by now (Some version) e = (version, refl)

unneeded : (digest : List ℕ → List ℕ) (o : Option (List ℕ)) → IsBeside digest o None → o ≡ None
unneeded digest None h = refl
unneeded digest (Some hash) h = absurd h

module _ (digest : List ℕ → List ℕ) {R : Type 0} {join : R → R → R} {s : Words R} (laws : Laws join s) {L : Type 0} (k : Layouts L) (n : ℕ) (x : Node R L) (i : IsStocked digest s join x) where
  -- what the node does leaves it with the blocks that it needs, and its messages have theirs
  pub record Stocks (d : Did R L) : Type 0 where
    pub node : IsStocked digest s join d.node
    pub posts : ArePosts digest laws k d.posts

  abbrev Bare : List ℕ → Type 0
  Bare bytes = NeedsNone digest s bytes

  either : (b : Bool) (d e : Did R L) → Stocks d → Stocks e → Stocks (cond b d e)
  either true d e h f = h
  either false d e h f = f

  rests : Stocks (quiet x)
  rests = record { node = i; posts = tt }

  with_gc : (o : Open) → HaveRows Bare o → Stocks (quiet (record x { gc = o }))
  with_gc o a = record { node = record { proper = i.proper; items_need_none = i.items_need_none; collections_need_none = a; digests = i.digests; has = i.has }; posts = tt }

  -- without the row of a place the others are as they were
  dropped : (table : ℕ) (key : List ℕ) (o : Open) → HaveRows Bare o → IsStocked digest s join (record (without_row join s x table key) { gc = o })
  dropped table key o a =
      let passes : R → Bool = λ r. not (is_at s table key r) in
      record {
        proper = all_filter (λ r. IsTrue (s.is_proper r)) passes x.accepted i.proper;
        items_need_none = i.items_need_none;
        collections_need_none = a;
        digests = i.digests;
        has = λ t its row hash e l. i.has t its row hash (row_passing laws x.accepted i.proper passes (λ a b same. ap (λ (q : ℕ × List ℕ). not (is_eq (place_cmp (table, key) q))) (λ j. (same.table j, same.key j))) t its row e) l;
      }

  forgotten : (table : ℕ) (key : List ℕ) (test : R → Bool) (o : Option R) → Stocks (forgets_row join s x table key test o)
  forgotten table key test None = rests
  forgotten table key test (Some r) = either (test r) _ (quiet x) (record { node = dropped table key x.gc i.collections_need_none; posts = tt }) rests

  pub forget_stocks : (table : ℕ) (key hash : List ℕ) → Stocks (forgets join s x table key hash)
  forget_stocks table key hash = forgotten table key (has_digest join s hash) (row_at join s x.accepted table key)

  drops : (o : Open) (c : Collection) (row : Option R) → HaveRows Bare o → Stocks (drops_row join s n (record x { gc = o }) c row)
  drops o c None a = with_gc o a
  drops o c (Some r) a = record { node = dropped 1 c.key o a; posts = each_post digest laws k (others n) (Forget 1 c.key (record { 0 = blake2b 32 (bytes_of s r) })) tt }

  ends : (o : Option Collection) → Stocks (finishes join s k n x o)
  ends None = rests
  ends (Some c) =
      let row = row_at join s x.accepted 1 c.key in
      let a = closed_rows Bare c.number x.gc i.collections_need_none in
      either ((newest k.reading x.view == c.newest) && has_bytes join s c.row row) _ _ (drops (closed c.number x.gc) c row a) (with_gc (closed c.number x.gc) a)

  leads_to : (number round : ℕ) (o : Open) (e : GcEnd) → HaveRows Bare o → Stocks (answered_to join s k n x number round o e)
  leads_to number round o Wait a = with_gc o a
  leads_to number round o Closed a = with_gc o a
  leads_to number round o Complete a = either (round == 2) _ _ (ends (numbered number x.gc)) (with_gc o a)

  pub tombed_stocks : (now from number round named : ℕ) → Stocks (tomb_came join s k n now x from number round named)
  tombed_stocks now from number round named =
      leads_to number round (answered number round from named now x.gc) (answer_end number round from named x.gc) (answered_rows Bare number round from named now x.gc i.collections_need_none)

  merged : (now : ℕ) (row : List ℕ) (o : Option R) → s.read row ≡ o → Bare row → IsStocked digest s join (merges join s k n now x o)
  merged now row None e bare = i
  merged now row (Some r) e bare =
      elim (is_given k x.view n (partition_of s r)) as (λ b. IsStocked digest s join (cond b (accepts join s now x r None) x)) [
        | true ↦ accepts_node digest laws now x r None (laws.spelled_is_proper r row ((laws.reads_back r row).0 e)) (subst (λ o. IsBeside digest o None) (sym (bare r e)) refl) i
        | false ↦ i
      ]

  pub tomb_stocks : (now from number round : ℕ) (row : List ℕ) → Bare row → Stocks (takes_tomb join s k n now x from number round row)
  tomb_stocks now from number round row bare = record { node = merged now row (s.read row) refl bare; posts = (tt, tt) }

  -- ---- the node is told to collect

  abbrev Posts : List (Post R L) → Type 0
  Posts posts = ArePosts digest laws k posts

  record Going (t : Progress R L) : Type 0 where
    collections : HaveRows Bare t.gc
    posts : Posts t.posts

  going_cond : (b : Bool) (t u : Progress R L) → Going t → Going u → Going (cond b t u)
  going_cond true t u h f = h
  going_cond false t u h f = f

  more : (t : Progress R L) (nodes : List ℕ) (number round : ℕ) (row : List ℕ) → Posts t.posts → Bare row → Posts (t.posts ++ to_each nodes (Tomb number round row))
  more t nodes number round row a bare = all_append _ t.posts (to_each nodes (Tomb number round row)) a (each_post digest laws k nodes (Tomb number round row) bare)

  -- a tombstone needs no block, and nor does what its bytes are read as
  bare_bytes : (now : ℕ) (r : R) → is_spelled s r ≡ true → is_aged now (s.marker r) ≡ true → Bare (bytes_of s r)
  bare_bytes now r spelled aged q e =
      let marked = marked_by now (s.marker r) aged in
      let none : IsBeside digest (s.live_block r) None = subst (λ o. IsBeside digest o None) (sym (laws.marked_has_no_block r marked.0 marked.1)) refl in
      unneeded digest (s.live_block q) (row_with digest laws r None none spelled q e)

  begins : (now version : ℕ) (r : R) (t : Progress R L) → Going t → (spelled aged : Bool) → is_spelled s r ≡ spelled → is_aged now (s.marker r) ≡ aged → Going (cond (spelled && aged) (record {
    gc = begun_with t.gc (s.key r) (bytes_of s r) n version;
    posts = t.posts ++ to_each (others n) (Tomb (t.gc.begun + 1) 1 (bytes_of s r));
    begun = t.begun + 1;
  }) t)
  begins now version r t a false aged e f = a
  begins now version r t a true false e f = a
  begins now version r t a true true e f = record {
    collections = all_append (λ (c : Collection). Bare c.row) t.gc.collections (opened (t.gc.begun + 1) (s.key r) (bytes_of s r) n version ∷ []) a.collections (bare_bytes now r e f, tt);
    posts = more t (others n) (t.gc.begun + 1) 1 (bytes_of s r) a.posts (bare_bytes now r e f);
  }

  goes_on : (now : ℕ) (c : Collection) (ready : Option ℕ) (t : Progress R L) → Bare c.row → Going t → Going (goes_on_with join s k now c ready t)
  goes_on now c None t bare a = record { collections = a.collections; posts = more t (missing_of c) c.number 1 c.row a.posts bare }
  goes_on now c (Some ready) t bare a = going_cond (nat_lt now (ready + collection_pause)) t _ a (record {
    collections = elim (c.round == 1) as (λ b. HaveRows Bare (cond b (changed in_second c.number t.gc) t.gc)) [
      | true ↦ changed_rows Bare in_second (λ c. refl) c.number t.gc.collections a.collections
      | false ↦ a.collections
    ];
    posts = more t (missing_of (cond (c.round == 1) (in_second c) c)) c.number 2 c.row a.posts bare;
  })

  goes_about : (now version : ℕ) (r : R) (o : Option Collection) (t : Progress R L) → ((c : Collection) → o ≡ Some c → Bare c.row) → Going t → Going (about join s k n now version r o t)
  goes_about now version r None t bare a = begins now version r t a (is_spelled s r) (is_aged now (s.marker r)) refl refl
  goes_about now version r (Some c) t bare a =
      going_cond (has_bytes join s c.row (Some r) && (version == c.newest)) _ _ (goes_on now c c.ready t (bare c refl) a) (record { collections = closed_rows Bare c.number t.gc a.collections; posts = a.posts })

  goes_all : (now version : ℕ) (rs : List R) (t : Progress R L) → Going t → Going (about_all join s k n now version rs t)
  goes_all now version [] t a = a
  goes_all now version (r ∷ rs) t a =
      goes_all now version rs (about join s k n now version r (keyed (s.key r) t.gc) t)
      (goes_about now version r (keyed (s.key r) t.gc) t (λ c e. (all_found (λ (c : Collection). Bare c.row) (λ c. pointwise nat_eq c.key (s.key r)) t.gc.collections c a.collections e).0) a)

  pub collects_stocks : (now : ℕ) → Stocks (collects join s k n now x)
  collects_stocks now =
      let start : Progress R L = record { gc = with_rows join s k x x.gc; posts = []; begun = 0 } in
      let first : Going start = record { collections = all_filter (λ (c : Collection). Bare c.row) (λ c. is_some (row_at join s x.accepted 1 c.key)) x.gc.collections i.collections_need_none; posts = tt } in
      let end = goes_all now (newest k.reading x.view) (object_rows join s x) start first in
      record {
        node = record { proper = i.proper; items_need_none = i.items_need_none; collections_need_none = end.collections; digests = i.digests; has = i.has };
        posts = end.posts;
      }
