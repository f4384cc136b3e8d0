-- Rows that are dropped one partition after the other.
use Rattle.std.proofs.Common.{◌≡◌, ◌<◌, ◌+◌, ℕ, Bool, true, false, not, cond, ltb, ◌==◌, ◌&&◌, List, [], ◌∷◌, ◌++◌, filter, map, IsTrue, inl, inr, refl, sym, ap, ◌∙◌, subst, arith, eq-eqb, ne_eqb, lt-ltb, le-ltb}
use Rattle.std.specs.Prelude.{count_by}
use Rattle.std.specs.List.{AllByRecursion, AllZip}
use Rattle.std.proofs.lemmas.List.Sums.{sum_by-append}
use Rattle.std.proofs.lemmas.Bool.{cases_order}
use Rattle.std.proofs.lemmas.List.Elements.{recursion_from_All, All-from_recursion}
use Rattle.std.proofs.Math.Bool.{and-true}
use Rattle.blake2_hash.specs.declared.digest.Hash32.{Hash32}
use Rattle.blake2_hash.specs.Hash.{is_hash}
use Rattle.block_store.specs.Contents.{Contents as Kept}
use Rattle.block_resync.specs.Outbox.{Outbox}
use Rattle.layout_roles.specs.declared.layout.Layout.{Layout}
use Rattle.view_model.specs.View.{View}
use Rattle.table_schema.specs.Words.{Words, partition_at, partition_of}
use Rattle.table_schema.specs.Laws.{Laws}
use Rattle.table_model.specs.Rows.{AllProper, rows, rows_in, without, live_blocks}
use Rattle.table_model.proofs.RowLaws.{rows_filter, rows_proper}
use Rattle.cluster_machine.specs.Node.{Node}
use Rattle.cluster_machine.specs.Layouts.{is_given, layouts}
use Rattle.cluster_machine.specs.Rows.{same_bytes, count_of, notes_after, drops}
use Rattle.node_parts.specs.declared.contents.Contents.{Contents}
use Rattle.node_parts.specs.Contents.{AreBlocks, IsItem, IsContents, Became}
use Rattle.node_parts.specs.References.{ended}
use Rattle.node_parts.proofs.Counting.{one, needs, count_live, count_both}
use Rattle.node_parts.proofs.Ended.{ended_more, count_hashes, dropped_blocks}

filter_twice : {A : Type 0} (a b : A → Bool) (xs : List A) → filter a (filter b xs) ≡ filter (λ x. b x && a x) xs
filter_twice a b [] = refl
filter_twice a b (x ∷ xs) =
    elim (b x) as (λ t. filter a (cond t (x ∷ filter b xs) (filter b xs)) ≡ cond (t && a x) (x ∷ filter (λ y. b y && a y) xs) (filter (λ y. b y && a y) xs)) [
      | true ↦ ap (λ l. cond (a x) (x ∷ l) l) (filter_twice a b xs)
      | false ↦ filter_twice a b xs
    ]

filter_whole : {A : Type 0} (xs : List A) → filter (λ x. true) xs ≡ xs
filter_whole [] = refl
filter_whole (x ∷ xs) = ap (λ l. x ∷ l) (filter_whole xs)

module _ (given : ℕ → Bool) where
  -- partition p isn't below i, or it is given
  abbrev pub stays_at : ℕ → ℕ → Bool
  stays_at i p = cond (ltb p i) (given p) true

  lost : (i p : ℕ) → given i ≡ false → (stays_at i p && not (p == i)) ≡ stays_at (i + 1) p
  lost i p none = elim (cases_order p i) [
    | inl same ↦ rw (le-ltb p i (omega arith), eq-eqb p i same, lt-ltb p (i + 1) (omega arith)) (sym (ap given same ∙ none))
    | inr apart ↦ elim apart [
      | inl below ↦ rw (lt-ltb p i below, ne_eqb p i (λ e. omega arith), lt-ltb p (i + 1) (omega arith)) (and-true (given p))
      | inr above ↦ rw (le-ltb p i (omega arith), ne_eqb p i (λ e. omega arith), le-ltb p (i + 1) (omega arith)) refl
    ]
  ]

  first : (p : ℕ) → stays_at 0 p ≡ true
  first p = ap (λ b. cond b (given p) true) (le-ltb p 0 (omega arith))

  kept : (i p : ℕ) → given i ≡ true → stays_at i p ≡ stays_at (i + 1) p
  kept i p some = elim (cases_order p i) [
    | inl same ↦ rw (le-ltb p i (omega arith), lt-ltb p (i + 1) (omega arith)) (sym (ap given same ∙ some))
    | inr apart ↦ elim apart [
      | inl below ↦ rw (lt-ltb p i below, lt-ltb p (i + 1) (omega arith)) refl
      | inr above ↦ rw (le-ltb p i (omega arith), le-ltb p (i + 1) (omega arith)) refl
    ]
  ]

  module _ {R : Type 0} (s : Words R) where
    -- the rows that stay when the partitions below i were gone through
    abbrev pub left_at : ℕ → List R → List R
    left_at i xs = filter (λ r. stays_at i (partition_of s r)) xs

    pub left_first : (xs : List R) → xs ≡ left_at 0 xs
    left_first xs =
        let none : filter (λ r. stays_at 0 (partition_of s r)) xs ≡ filter (λ r. true) xs = λ j. filter (λ r. first (partition_of s r) j) xs in
        sym (none ∙ filter_whole xs)

    pub left_lost : (i : ℕ) (xs : List R) → given i ≡ false → without s i (left_at i xs) ≡ left_at (i + 1) xs
    left_lost i xs none =
        filter_twice (λ r. not (partition_of s r == i)) (λ r. stays_at i (partition_of s r)) xs ∙ (λ j. filter (λ r. lost i (partition_of s r) none j) xs)

    pub left_kept : (i : ℕ) (xs : List R) → given i ≡ true → left_at i xs ≡ left_at (i + 1) xs
    left_kept i xs some = λ j. filter (λ r. kept i (partition_of s r) some j) xs

  last : {R : Type 0} {join : R → R → R} {s : Words R} (laws : Laws join s) (xs : List R) → AllByRecursion (λ r. IsTrue (s.is_proper r)) xs → left_at s 256 xs ≡ filter (λ r. given (partition_of s r)) xs
  last laws [] h = refl
  last {R} {join} {s} laws (x ∷ xs) h =
      let byte : partition_of s x < 256 = laws.partition_is_byte x h.0 in
      let here : stays_at 256 (partition_of s x) ≡ given (partition_of s x) = ap (λ b. cond b (given (partition_of s x)) true) (lt-ltb (partition_of s x) 256 byte) in
      λ j. cond (here j) (x ∷ last laws xs h.1 j) (last laws xs h.1 j)

  -- all partitions were gone through
  pub left_last : {R : Type 0} {join : R → R → R} {s : Words R} (laws : Laws join s) (contents : List R) → AllProper s contents →
      left_at s 256 (rows join s contents) ≡ rows join s (filter (λ r. given (partition_of s r)) contents)
  left_last {R} {join} {s} laws contents all =
      let whole = rows join s contents in
      let proper = recursion_from_All (λ r. IsTrue (s.is_proper r)) whole (rows_proper laws contents all) in
      last laws whole proper ∙ sym (rows_filter laws (λ r. given (partition_of s r)) (λ a b same. ap (λ position. given (partition_at position)) (laws.one_position a b same)) contents all)

filter_all : {A : Type 0} (P : A → Type 0) (test : A → Bool) (xs : List A) → AllByRecursion P xs → AllByRecursion P (filter test xs)
filter_all P test [] h = tt
filter_all P test (x ∷ xs) h =
    elim (test x) as (λ b. AllByRecursion P (cond b (x ∷ filter test xs) (filter test xs))) [ true ↦ (h.0, filter_all P test xs h.1) | false ↦ filter_all P test xs h.1 ]

-- ---- the references of the rows that were dropped

-- these references have ended, which were those of the rows that are not left
pub record Ends {R : Type 0} (join : R → R → R) (s : Words R) (now : ℕ) (old new : Kept) (whole left : List R) : Type 0 where
  pub hashes : List Hash32
  pub are : new ≡ ended now old hashes
  pub counts : (q : Hash32) → count_by (is_hash q) hashes + count_by (needs join s q.0) left ≡ count_by (needs join s q.0) whole

module _ {R : Type 0} (join : R → R → R) (s : Words R) (now : ℕ) where
  pub ends_first : (kept : Kept) (whole : List R) → Ends join s now kept kept whole whole
  ends_first kept whole = record { hashes = []; are = refl; counts = λ q. omega arith }

  -- one partition more is dropped
  pub ends_more : (old mid new : Kept) (whole left : List R) (p : ℕ) (hs : List Hash32) → Ends join s now old mid whole left → new ≡ ended now mid hs → map (λ h. h.0) hs ≡ live_blocks s (rows_in s p left) → Ends join s now old new whole (without s p left)
  ends_more old mid new whole left p hs e is are = record {
    hashes = e.hashes ++ hs;
    are = is ∙ (ap (λ k. ended now k hs) e.are ∙ sym (ended_more now old e.hashes hs));
    counts = λ q. (
        let gone : count_by (is_hash q) hs ≡ count_by (needs join s q.0) (rows_in s p left) = count_hashes q hs ∙ (ap (count_by (same_bytes q.0)) are ∙ count_live join s q.0 (rows_in s p left)) in
        omega (arith, gone, e.counts q, sum_by-append (λ h. one (is_hash q h)) e.hashes hs, count_both (needs join s q.0) (λ r. partition_of s r == p) left)
        );
  }

module _ {S R : Type 0} {join : R → R → R} {s : Words R} (laws : Laws join s) where
  pub dropped : (c d : Contents S R) (v : View Layout) (node now : ℕ) (x : Node R Layout) → v ≡ x.view → IsContents join s c x → d.table ≡ left_at (is_given layouts v node) s 256 c.table → d.outbox ≡ c.outbox → Ends join s now c.blocks d.blocks c.table d.table → Became join s d x (drops join s layouts node now x)
  dropped c d v node now x same h table outbox ends =
      let stays : R → Bool = λ r. is_given layouts x.view node (partition_of s r) in
      let later = filter stays x.accepted in
      let lost = live_blocks s (filter (λ r. not (stays r)) (rows join s x.accepted)) in
      let proper = filter_all (λ r. IsTrue (s.is_proper r)) stays x.accepted (recursion_from_All (λ r. IsTrue (s.is_proper r)) x.accepted h.proper) in
      let table_is : d.table ≡ rows join s later = table ∙ (ap (left_at (is_given layouts v node) s 256) h.table
      ∙ (left_last (is_given layouts v node) laws x.accepted h.proper
      ∙ ap (λ w. rows join s (filter (λ r. is_given layouts w node (partition_of s r)) x.accepted)) same)) in
      let stay : rows join s later ≡ filter stays (rows join s x.accepted) = rows_filter laws stays (λ a b alike. ap (λ position. is_given layouts x.view node (partition_at position)) (laws.one_position a b alike)) x.accepted h.proper in
      let ended_are : (q : Hash32) → count_by (is_hash q) ends.hashes + count_of join s later q.0 ≡ count_of join s x.accepted q.0 = λ q.
      subst (λ l. count_by (is_hash q) ends.hashes + count_by (needs join s q.0) l ≡ count_of join s x.accepted q.0) table_is (ends.counts q ∙ ap (count_by (needs join s q.0)) h.table) in
      let lost_are : (q : List ℕ) → count_by (same_bytes q) lost + count_of join s later q ≡ count_of join s x.accepted q = λ q. (
      let stay_count : count_of join s later q ≡ count_by (needs join s q) (filter stays (rows join s x.accepted)) = ap (count_by (needs join s q)) stay in
      omega (arith, stay_count, count_live join s q (filter (λ r. not (stays r)) (rows join s x.accepted)), count_both (needs join s q) stays (rows join s x.accepted))
      ) in
      record {
        contents = record {
          proper = All-from_recursion (λ r. IsTrue (s.is_proper r)) (filter stays x.accepted) proper;
          table = table_is;
          items = subst (λ (o : Outbox). AllZip (IsItem s) o.items x.items) (sym outbox) h.items;
          queued = ap (λ (o : Outbox). o.pushed) outbox ∙ h.queued;
          blocks = subst (λ k. AreBlocks join s k later x.blocks (notes_after join s later x.notes now lost)) (sym ends.are) (dropped_blocks join s c.blocks x.accepted later x.blocks x.notes now ends.hashes lost h.blocks ended_are lost_are);
        };
        rest = record { view = refl; calls = refl; round = refl; rounds = refl; mending = refl; lasting = refl; gc = refl };
      }
