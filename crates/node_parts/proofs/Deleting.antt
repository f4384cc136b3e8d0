-- The code's blocks and the node's, after the blocks that are due were deleted.
use Rattle.std.proofs.Common.{◌≡◌, ◌≤◌, ◌<◌, ℕ, ◌+◌, ◌-◌, Bool, true, false, cond, not, leb, ◌==◌, ◌&&◌, ◌||◌, List, [], ◌∷◌, ◌++◌, Some, None, Result, Ok, Err, OnOk, IfErr, map, filter, take, length, get_or, refl, sym, ap, ◌∙◌, inl, inr, subst, arith, eqb-true}
use Rattle.std.specs.Prelude.{count_by, nat_le}
use Rattle.std.specs.List.{AllByRecursion, list_any, IsDistinct}
use Rattle.std.specs.Map.{lookup, remove_entry, keys_of}
use Rattle.std.specs.Cmp.{eq_by_cmp_equiv}
use Rattle.std.specs.Ordering.{eq_by_cmp}
use Rattle.std.proofs.lemmas.Bool.{cases_order, le-leb, lt-leb}
use Rattle.std.proofs.lemmas.List.{take_more}
use Rattle.std.proofs.lemmas.List.Sums.{length-filter, count_by-le-length}
use Rattle.std.proofs.lemmas.List.Filters.{length-filter_both}
use Rattle.std.proofs.Permutation.{every_at}
use Rattle.std.proofs.lemmas.Map.{NonePasses}
use Rattle.std.proofs.lemmas.Map.Entries.{none_past_head, lookup-filter-keys}
use Rattle.std.proofs.lemmas.Map.Keys.{IsDistinct-from_sorted, IsDistinct-tail}
use Rattle.std.proofs.lemmas.Map.Made.{IsDistinct-keys_filter}
use Rattle.std.proofs.lemmas.Slice.Eq.{bytes_eq-Decides}
use Rattle.blake2_hash.specs.declared.digest.Hash32.{Hash32}
use Rattle.blake2_hash.specs.Hash.{hash_cmp, is_hash}
use Rattle.blake2_hash.specs.HashLaws.{hash_total}
use Rattle.block_store.specs.Contents.{Contents as Kept, IsInOrder, block_at as kept_at, live_count, note_at, deleted, idle_notes}
use Rattle.block_store.specs.declared.fault.BlockFault.{BlockFault}
use Rattle.block_store.specs.declared.fault.BlockFault.TheVariants.{InUse}
use Rattle.block_store.proofs.Showing.{same_hash}
use Rattle.block_resync.specs.Outbox.{is_due as is_old_note, due_of}
use Rattle.table_schema.specs.Words.{Words}
use Rattle.layout_roles.specs.declared.layout.Layout.{Layout}
use Rattle.cluster_machine.specs.Node.{Node, Block, Note}
use Rattle.cluster_machine.specs.Rows.{same_bytes, block_at, note_of}
use Rattle.cluster_machine.specs.Acts.{is_old, is_due, stays, without_due}
use Rattle.node_parts.specs.Contents.{AreBlocks}
use Rattle.node_parts.specs.References.{deleted_all}
use Rattle.node_parts.proofs.Counting.{count_filter}
use Rattle.node_parts.proofs.KeptBlocks.{as_many}

-- one of these hashes is this one
abbrev pub among : List Hash32 → Hash32 → Bool
among hs q = list_any (λ h. is_hash h q) hs

-- ---- entries that are removed one after the other

module _ {X : Type 0} where
  abbrev removed_all : List Hash32 → List (Hash32 × X) → List (Hash32 × X)
  removed_all [] es = es
  removed_all (h ∷ hs) es = removed_all hs (remove_entry (is_hash h) es)

  none_filtered : (h : Hash32) (es : List (Hash32 × X)) → NonePasses (is_hash h) es → es ≡ filter (λ e. not (is_hash h e.0)) es
  none_filtered h [] none = refl
  none_filtered h (e ∷ es) none = ap (λ l. e ∷ l) (none_filtered h es none.1) ∙ ap (λ b. cond (not b) (e ∷ filter (λ k. not (is_hash h k.0)) es) (filter (λ k. not (is_hash h k.0)) es)) (sym none.0)

  removed_filter : (h : Hash32) (es : List (Hash32 × X)) → IsDistinct (eq_by_cmp hash_cmp) (keys_of es) → remove_entry (is_hash h) es ≡ filter (λ e. not (is_hash h e.0)) es
  removed_filter h [] d = refl
  removed_filter h (e ∷ es) d =
      elim (is_hash h e.0) as (λ b. is_hash h e.0 ≡ b → cond b es (e ∷ remove_entry (is_hash h) es) ≡ cond (not b) (e ∷ filter (λ k. not (is_hash h k.0)) es) (filter (λ k. not (is_hash h k.0)) es)) [
        | true ↦ λ t. none_filtered h es (none_past_head (eq_by_cmp_equiv hash_total) h e es d t)
        | false ↦ λ t. ap (λ l. e ∷ l) (removed_filter h es (IsDistinct-tail (eq_by_cmp hash_cmp) e.0 (keys_of es) d))
      ] refl

  filter_both : (a b : Hash32 → Bool) (es : List (Hash32 × X)) → filter (λ e. not (a e.0)) (filter (λ e. not (b e.0)) es) ≡ filter (λ e. not (b e.0 || a e.0)) es
  filter_both a b [] = refl
  filter_both a b (e ∷ es) =
      elim (b e.0) as (λ t. filter (λ k. not (a k.0)) (cond (not t) (e ∷ filter (λ k. not (b k.0)) es) (filter (λ k. not (b k.0)) es)) ≡ cond (not (t || a e.0)) (e ∷ filter (λ k. not (b k.0 || a k.0)) es) (filter (λ k. not (b k.0 || a k.0)) es)) [
        | true ↦ filter_both a b es
        | false ↦ ap (λ l. cond (not (a e.0)) (e ∷ l) l) (filter_both a b es)
      ]

  filter_all_of : (es : List (Hash32 × X)) → es ≡ filter (λ e. true) es
  filter_all_of [] = refl
  filter_all_of (e ∷ es) = ap (λ l. e ∷ l) (filter_all_of es)

  all_removed : (hs : List Hash32) (es : List (Hash32 × X)) → IsDistinct (eq_by_cmp hash_cmp) (keys_of es) → removed_all hs es ≡ filter (λ e. not (among hs e.0)) es
  all_removed [] es d = filter_all_of es
  all_removed (h ∷ hs) es d =
      let first = removed_filter h es d in
      let apart : IsDistinct (eq_by_cmp hash_cmp) (keys_of (remove_entry (is_hash h) es)) = subst (λ l. IsDistinct (eq_by_cmp hash_cmp) (keys_of l)) (sym first) (IsDistinct-keys_filter (eq_by_cmp hash_cmp) (λ e. not (is_hash h e.0)) es d) in
      all_removed hs (remove_entry (is_hash h) es) apart ∙ (ap (filter (λ e. not (among hs e.0))) first ∙ filter_both (among hs) (is_hash h) es)

  lookup_left : (hs : List Hash32) (q : Hash32) (es : List (Hash32 × X)) → lookup (is_hash q) (filter (λ e. not (among hs e.0)) es) ≡ cond (not (among hs q)) (lookup (is_hash q) es) None
  lookup_left hs q es = lookup-filter-keys (is_hash q) (λ k. not (among hs k)) (not (among hs q)) (λ k t. ap (λ h. not (among hs h)) (sym (same_hash q k t))) es

-- ---- blocks that are deleted one after the other

deleted_blocks : (hs : List Hash32) (kept : Kept) → (deleted_all kept hs).blocks ≡ removed_all hs kept.blocks
deleted_blocks [] kept = refl
deleted_blocks (h ∷ hs) kept = deleted_blocks hs (deleted kept h)

deleted_notes : (hs : List Hash32) (kept : Kept) → (deleted_all kept hs).notes ≡ removed_all hs kept.notes
deleted_notes [] kept = refl
deleted_notes (h ∷ hs) kept = deleted_notes hs (deleted kept h)

deleted_live : (hs : List Hash32) (kept : Kept) → (deleted_all kept hs).live ≡ kept.live
deleted_live [] kept = refl
deleted_live (h ∷ hs) kept = deleted_live hs (deleted kept h)

deleted_more : (kept : Kept) (hs gs : List Hash32) → deleted_all kept (hs ++ gs) ≡ deleted_all (deleted_all kept hs) gs
deleted_more kept [] gs = refl
deleted_more kept (h ∷ hs) gs = deleted_more (deleted kept h) hs gs

deleted_next : (old mid new : Kept) (hs : List Hash32) (i : ℕ) (d : Hash32) → i < length hs → mid ≡ deleted_all old (take i hs) → new ≡ deleted mid (get_or hs i d) → new ≡ deleted_all old (take (i + 1) hs)
deleted_next old mid new hs i d lt before is =
    is ∙ (ap (λ k. deleted k (get_or hs i d)) before ∙ sym (ap (deleted_all old) (take_more hs i d lt) ∙ deleted_more old (take i hs) (get_or hs i d ∷ [])))

-- a block without live references is deleted
delete_ok : (result : Result (Unit {0}) BlockFault) (old new : Kept) (h : Hash32) → OnOk result (new ≡ deleted old h) → IfErr result (λ e. (e ≡ InUse (live_count old h)) × (1 ≤ live_count old h)) → live_count old h ≡ 0 → new ≡ deleted old h
delete_ok (Ok u) old new h ok err none = ok
delete_ok (Err e) old new h ok err none = absurd (omega (arith, none, err.1))

pub deletes_next : (old mid new : Kept) (hs : List Hash32) (i : ℕ) (d : Hash32) (result : Result (Unit {0}) BlockFault) → i < length hs → AllByRecursion (λ h. live_count old h ≡ 0) hs → mid ≡ deleted_all old (take i hs) →
    OnOk result (new ≡ deleted mid (get_or hs i d)) → IfErr result (λ e. (e ≡ InUse (live_count mid (get_or hs i d))) × (1 ≤ live_count mid (get_or hs i d))) → new ≡ deleted_all old (take (i + 1) hs)
deletes_next old mid new hs i d result lt idle before ok err =
    let none : live_count mid (get_or hs i d) ≡ 0 =
    ap (λ k. live_count k (get_or hs i d)) before ∙ (ap (count_by (is_hash (get_or hs i d))) (deleted_live (take i hs) old) ∙ every_at (λ h. live_count old h ≡ 0) hs i d lt idle) in
    deleted_next old mid new hs i d lt before (delete_ok result mid new (get_or hs i d) ok err none)

blocks_left : (hs : List Hash32) (kept : Kept) → IsInOrder kept → (deleted_all kept hs).blocks ≡ filter (λ e. not (among hs e.0)) kept.blocks
blocks_left hs kept order = deleted_blocks hs kept ∙ all_removed hs kept.blocks (IsDistinct-from_sorted hash_cmp (keys_of kept.blocks) order.blocks)

pub fewer_blocks : (hs : List Hash32) (kept : Kept) → IsInOrder kept → length (deleted_all kept hs).blocks ≤ length kept.blocks
fewer_blocks hs kept order =
    subst (λ l. length l ≤ length kept.blocks) (sym (blocks_left hs kept order))
    (subst (λ n. n ≤ length kept.blocks) (sym (length-filter (λ e. not (among hs e.0)) kept.blocks)) (count_by-le-length (λ e. not (among hs e.0)) kept.blocks))

notes_left : (hs : List Hash32) (kept : Kept) → IsInOrder kept → (deleted_all kept hs).notes ≡ filter (λ e. not (among hs e.0)) kept.notes
notes_left hs kept order = deleted_notes hs kept ∙ all_removed hs kept.notes (IsDistinct-from_sorted hash_cmp (keys_of kept.notes) order.notes)

-- ---- the blocks that are due

turned : (h q : Hash32) → is_hash h q ≡ is_hash q h
turned h q = (eq_by_cmp_equiv hash_total).symm h q

-- a block's age is told in two ways
age : (moment now : ℕ) → nat_le 600000 (now - moment) ≡ leb (moment + 600000) now
age moment now = elim (cases_order now (moment + 600000)) [
  | inl same ↦ le-leb 600000 (now - moment) (omega (arith, same)) ∙ sym (le-leb (moment + 600000) now (omega (arith, same)))
  | inr apart ↦ elim apart [
    | inl below ↦ lt-leb 600000 (now - moment) (omega (arith, below)) ∙ sym (lt-leb (moment + 600000) now below)
    | inr above ↦ le-leb 600000 (now - moment) (omega (arith, above)) ∙ sym (le-leb (moment + 600000) now (omega (arith, above)))
  ]
]

module _ (kept : Kept) (now : ℕ) where
  abbrev due : List (Hash32 × ℕ) → List Hash32
  due notes = due_of now (filter (λ n. live_count kept n.0 == 0) notes)

  due_idle_by : (notes : List (Hash32 × ℕ)) → AllByRecursion (λ h. live_count kept h ≡ 0) (due notes)
  due_idle_by [] = tt
  due_idle_by (n ∷ notes) =
      elim (live_count kept n.0 == 0) as (λ b. (live_count kept n.0 == 0) ≡ b → AllByRecursion (λ h. live_count kept h ≡ 0) (due_of now (cond b (n ∷ filter (λ m. live_count kept m.0 == 0) notes) (filter (λ m. live_count kept m.0 == 0) notes)))) [
        | true ↦ λ e. elim (is_old_note now n) as (λ b. AllByRecursion (λ h. live_count kept h ≡ 0) (map (λ m. m.0) (cond b (n ∷ filter (is_old_note now) (filter (λ m. live_count kept m.0 == 0) notes)) (filter (is_old_note now) (filter (λ m. live_count kept m.0 == 0) notes))))) [
          | true ↦ (eqb-true (live_count kept n.0) 0 e, due_idle_by notes)
          | false ↦ due_idle_by notes
        ]
        | false ↦ λ e. due_idle_by notes
      ] refl

  pub due_idle : AllByRecursion (λ h. live_count kept h ≡ 0) (due_of now (idle_notes kept))
  due_idle = due_idle_by kept.notes

  module _ (q : Hash32) where
    -- the first note more
    among_first : (n : Hash32 × ℕ) (notes : List (Hash32 × ℕ)) → among (due (n ∷ notes)) q ≡ (((live_count kept n.0 == 0) && is_old_note now n && is_hash n.0 q) || among (due notes) q)
    among_first n notes =
        elim (live_count kept n.0 == 0) as (λ b. among (due_of now (cond b (n ∷ filter (λ m. live_count kept m.0 == 0) notes) (filter (λ m. live_count kept m.0 == 0) notes))) q ≡ ((b && is_old_note now n && is_hash n.0 q) || among (due notes) q)) [
          | true ↦ elim (is_old_note now n) as (λ b. among (map (λ m. m.0) (cond b (n ∷ filter (is_old_note now) (filter (λ m. live_count kept m.0 == 0) notes)) (filter (is_old_note now) (filter (λ m. live_count kept m.0 == 0) notes)))) q ≡ ((b && is_hash n.0 q) || among (due notes) q)) [ true ↦ refl | false ↦ refl ]
          | false ↦ refl
        ]

    none_among : (notes : List (Hash32 × ℕ)) → NonePasses (is_hash q) notes → among (due notes) q ≡ false
    none_among [] none = refl
    none_among (n ∷ notes) none =
        among_first n notes
        ∙ ((λ i. ((live_count kept n.0 == 0) && is_old_note now n && (turned n.0 q ∙ none.0) i) || none_among notes none.1 i)
        ∙ elim (live_count kept n.0 == 0) as (λ b. ((b && is_old_note now n && false) || false) ≡ false) [
          | true ↦ elim (is_old_note now n) as (λ b. ((b && false) || false) ≡ false) [ true ↦ refl | false ↦ refl ]
          | false ↦ refl
        ])

    among_by : (notes : List (Hash32 × ℕ)) → IsDistinct (eq_by_cmp hash_cmp) (keys_of notes) → among (due notes) q ≡ ((live_count kept q == 0) && is_old now (lookup (is_hash q) notes))
    among_by [] d = elim (live_count kept q == 0) as (λ b. false ≡ (b && false)) [ true ↦ refl | false ↦ refl ]
    among_by (n ∷ notes) d =
        among_first n notes
        ∙ elim (is_hash q n.0) as (λ b. is_hash q n.0 ≡ b → (((live_count kept n.0 == 0) && is_old_note now n && is_hash n.0 q) || among (due notes) q) ≡ ((live_count kept q == 0) && is_old now (cond b (Some n.1) (lookup (is_hash q) notes)))) [
          | true ↦ λ t.
              (λ i. ((live_count kept (sym (same_hash q n.0 t) i) == 0) && age n.1 now i && (turned n.0 q ∙ t) i) || none_among notes (none_past_head (eq_by_cmp_equiv hash_total) q n notes d t) i)
              ∙ elim (live_count kept q == 0) as (λ b. ((b && leb (n.1 + 600000) now && true) || false) ≡ (b && leb (n.1 + 600000) now)) [
                | true ↦ elim (leb (n.1 + 600000) now) as (λ b. ((b && true) || false) ≡ b) [ true ↦ refl | false ↦ refl ]
                | false ↦ refl
              ]
          | false ↦ λ t.
              (λ i. ((live_count kept n.0 == 0) && is_old_note now n && (turned n.0 q ∙ t) i) || among (due notes) q)
              ∙ (elim (live_count kept n.0 == 0) as (λ b. ((b && is_old_note now n && false) || among (due notes) q) ≡ among (due notes) q) [
                | true ↦ elim (is_old_note now n) as (λ b. ((b && false) || among (due notes) q) ≡ among (due notes) q) [ true ↦ refl | false ↦ refl ]
                | false ↦ refl
              ]
              ∙ among_by notes (IsDistinct-tail (eq_by_cmp hash_cmp) n.0 (keys_of notes) d))
        ] refl

-- ---- the node's

either_way : {X : Type 0} (b : Bool) (x : X) → x ≡ cond (not b) x x
either_way true x = refl
either_way false x = refl

module _ (out : List ℕ → Bool) (q : List ℕ) where
  node_block : (blocks : List Block) → block_at (filter (λ b. not (out b.hash)) blocks) q ≡ cond (not (out q)) (block_at blocks q) None
  node_block [] = either_way (out q) None
  node_block (b ∷ bs) =
      elim (same_bytes b.hash q) as (λ t. same_bytes b.hash q ≡ t → block_at (filter (λ k. not (out k.hash)) (b ∷ bs)) q ≡ cond (not (out q)) (cond t (Some b.bytes) (block_at bs q)) None) [
        | true ↦ λ t.
            let same : b.hash ≡ q = (bytes_eq-Decides b.hash q).0 t in
            ap (λ o. block_at (cond (not (out o)) (b ∷ filter (λ k. not (out k.hash)) bs) (filter (λ k. not (out k.hash)) bs)) q) same
            ∙ elim (out q) as (λ o. out q ≡ o → block_at (cond (not o) (b ∷ filter (λ k. not (out k.hash)) bs) (filter (λ k. not (out k.hash)) bs)) q ≡ cond (not o) (Some b.bytes) None) [
              | true ↦ λ e. node_block bs ∙ ap (λ o. cond (not o) (block_at bs q) None) e
              | false ↦ λ e. ap (λ o. cond o (Some b.bytes) (block_at (filter (λ k. not (out k.hash)) bs) q)) t
            ] refl
        | false ↦ λ t. elim (out b.hash) as (λ o. block_at (cond (not o) (b ∷ filter (λ k. not (out k.hash)) bs) (filter (λ k. not (out k.hash)) bs)) q ≡ cond (not (out q)) (block_at bs q) None) [
          | true ↦ node_block bs
          | false ↦ ap (λ o. cond o (Some b.bytes) (block_at (filter (λ k. not (out k.hash)) bs) q)) t ∙ node_block bs
        ]
      ] refl

  node_note : (notes : List Note) → note_of (filter (λ n. not (out n.hash)) notes) q ≡ cond (not (out q)) (note_of notes q) None
  node_note [] = either_way (out q) None
  node_note (b ∷ bs) =
      elim (same_bytes b.hash q) as (λ t. same_bytes b.hash q ≡ t → note_of (filter (λ k. not (out k.hash)) (b ∷ bs)) q ≡ cond (not (out q)) (cond t (Some b.moment) (note_of bs q)) None) [
        | true ↦ λ t.
            let same : b.hash ≡ q = (bytes_eq-Decides b.hash q).0 t in
            ap (λ o. note_of (cond (not (out o)) (b ∷ filter (λ k. not (out k.hash)) bs) (filter (λ k. not (out k.hash)) bs)) q) same
            ∙ elim (out q) as (λ o. out q ≡ o → note_of (cond (not o) (b ∷ filter (λ k. not (out k.hash)) bs) (filter (λ k. not (out k.hash)) bs)) q ≡ cond (not o) (Some b.moment) None) [
              | true ↦ λ e. node_note bs ∙ ap (λ o. cond (not o) (note_of bs q) None) e
              | false ↦ λ e. ap (λ o. cond o (Some b.moment) (note_of (filter (λ k. not (out k.hash)) bs) q)) t
            ] refl
        | false ↦ λ t. elim (out b.hash) as (λ o. note_of (cond (not o) (b ∷ filter (λ k. not (out k.hash)) bs) (filter (λ k. not (out k.hash)) bs)) q ≡ cond (not (out q)) (note_of bs q) None) [
          | true ↦ node_note bs
          | false ↦ ap (λ o. cond o (Some b.moment) (note_of (filter (λ k. not (out k.hash)) bs) q)) t ∙ node_note bs
        ]
      ] refl

-- ---- both

module _ {R : Type 0} (join : R → R → R) (s : Words R) (kept : Kept) (x : Node R Layout) (now : ℕ) (order : IsInOrder kept) (are : AreBlocks join s kept x.accepted x.blocks x.notes) where
  abbrev hs : List Hash32
  hs = due_of now (idle_notes kept)

  abbrev out : List ℕ → Bool
  out = is_due join s now x

  due_is : (q : Hash32) → among hs q ≡ out q.0
  due_is q =
      among_by kept now q kept.notes (IsDistinct-from_sorted hash_cmp (keys_of kept.notes) order.notes)
      ∙ (λ i. (are.counts q i == 0) && is_old now (are.notes q i))

  left_bytes : (q : Hash32) → kept_at (deleted_all kept hs) q ≡ block_at (filter (stays join s now x) x.blocks) q.0
  left_bytes q =
      ap (lookup (is_hash q)) (blocks_left hs kept order)
      ∙ (lookup_left hs q kept.blocks
      ∙ ((λ i. cond (not (due_is q i)) (are.bytes q i) None)
      ∙ sym (node_block out q.0 x.blocks)))

  left_notes : (q : Hash32) → note_at (deleted_all kept hs) q ≡ note_of (filter (λ n. not (out n.hash)) x.notes) q.0
  left_notes q =
      ap (lookup (is_hash q)) (notes_left hs kept order)
      ∙ (lookup_left hs q kept.notes
      ∙ ((λ i. cond (not (due_is q i)) (are.notes q i) None)
      ∙ sym (node_note out q.0 x.notes)))

  left_number : (test : List ℕ → Bool) → count_by (λ b. test b.0.0) (deleted_all kept hs).blocks ≡ count_by (λ b. test b.hash) (filter (stays join s now x) x.blocks)
  left_number test =
      ap (count_by (λ (b : Hash32 × List ℕ). test b.0.0)) (blocks_left hs kept order)
      ∙ (count_filter (λ b. test b.0.0) (λ b. not (among hs b.0)) kept.blocks
      ∙ ((λ i. count_by (λ (b : Hash32 × List ℕ). not (due_is b.0 i) && test b.0.0) kept.blocks)
      ∙ (are.number (λ h. not (out h) && test h)
      ∙ sym (count_filter (λ b. test b.hash) (stays join s now x) x.blocks))))

  pub blocks_without_due : AreBlocks join s (deleted_all kept hs) (without_due join s now x).accepted (without_due join s now x).blocks (without_due join s now x).notes
  blocks_without_due = record {
    bytes = left_bytes;
    counts = λ q. ap (count_by (is_hash q)) (deleted_live hs kept) ∙ are.counts q;
    notes = left_notes;
    number = left_number;
  }

  -- as many blocks less as are due
  pub counts_due : length kept.blocks - length (deleted_all kept hs).blocks ≡ length (filter (λ b. is_due join s now x b.hash) x.blocks)
  counts_due =
      let after : length (deleted_all kept hs).blocks ≡ length (filter (stays join s now x) x.blocks) = as_many join s (deleted_all kept hs) x.accepted (filter (stays join s now x) x.blocks) (filter (λ n. not (out n.hash)) x.notes) blocks_without_due in
      omega (arith, after, as_many join s kept x.accepted x.blocks x.notes are, length-filter_both (λ (b : Block). is_due join s now x b.hash) (stays join s now x) (λ b. refl) x.blocks)
