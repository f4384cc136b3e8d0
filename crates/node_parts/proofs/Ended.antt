-- The code's blocks and the node's, after references have ended one after the other.
use Rattle.std.proofs.Common.{◌≡◌, ◌≢◌, ◌≤◌, ◌<◌, ℕ, zero, suc, ◌+◌, ◌-◌, Bool, true, false, cond, ◌==◌, ◌&&◌, List, [], ◌∷◌, ◌++◌, ◌⊎◌, inl, inr, Option, Some, map, take, length, get_or, refl, sym, ap, ◌∙◌, arith, ne_eqb, eq-eqb, eqb-true}
use Rattle.std.specs.Prelude.{count_by, if◌then◌else◌}
use Rattle.std.specs.Cmp.{eq_by_cmp_equiv}
use Rattle.std.proofs.lemmas.List.{take_more}
use Rattle.std.proofs.lemmas.Slice.Eq.{bytes_eq-Decides}
use Rattle.blake2_hash.specs.declared.digest.Hash32.{Hash32}
use Rattle.blake2_hash.specs.Hash.{is_hash}
use Rattle.blake2_hash.specs.HashLaws.{hash_total}
use Rattle.block_store.specs.Contents.{Contents as Kept, block_at as kept_at, live_count, note_at, told_dead}
use Rattle.block_store.proofs.Showing.{same_hash}
use Rattle.block_store.proofs.ByHash.{dead_by_hash, note_by_hash}
use Rattle.table_schema.specs.Words.{Words}
use Rattle.cluster_machine.specs.Node.{Block, Note}
use Rattle.cluster_machine.specs.Rows.{same_bytes, note_of, count_of, notes_after}
use Rattle.node_parts.specs.Contents.{AreBlocks}
use Rattle.node_parts.specs.References.{ended}
use Rattle.node_parts.proofs.Counting.{one, count_cons}
use Rattle.node_parts.proofs.KeptBlocks.{same_is}

turned : (h q : Hash32) → is_hash h q ≡ is_hash q h
turned h q = (eq_by_cmp_equiv hash_total).symm h q

-- ---- lists of hashes

pub ended_more : (now : ℕ) (kept : Kept) (hs gs : List Hash32) → ended now kept (hs ++ gs) ≡ ended now (ended now kept hs) gs
ended_more now kept [] gs = refl
ended_more now kept (h ∷ hs) gs = ended_more now (told_dead kept h now) hs gs

pub ended_next : (now : ℕ) (old mid new : Kept) (hs : List Hash32) (i : ℕ) (d : Hash32) → i < length hs → mid ≡ ended now old (take i hs) → new ≡ told_dead mid (get_or hs i d) now → new ≡ ended now old (take (i + 1) hs)
ended_next now old mid new hs i d lt before is =
    is ∙ (ap (λ k. told_dead k (get_or hs i d) now) before ∙ sym (ap (ended now old) (take_more hs i d lt) ∙ ended_more now old (take i hs) (get_or hs i d ∷ [])))

pub count_hashes : (q : Hash32) (hs : List Hash32) → count_by (is_hash q) hs ≡ count_by (same_bytes q.0) (map (λ h. h.0) hs)
count_hashes q [] = refl
count_hashes q (h ∷ hs) =
    let here : one (is_hash q h) ≡ one (same_bytes q.0 h.0) = ap one (sym (same_is q h)) in
    omega (arith, here, count_cons (is_hash q) h hs, count_cons (same_bytes q.0) h.0 (map (λ k. k.0) hs), count_hashes q hs)

-- ---- the code's

module _ (now : ℕ) (q : Hash32) where
  -- how many of the references that end are to this block
  abbrev ends : List Hash32 → ℕ
  ends hs = count_by (is_hash q) hs

  one_less : (kept : Kept) (h : Hash32) (hs : List Hash32) → ends (h ∷ hs) ≡ one (is_hash h q) + ends hs
  one_less kept h hs = count_cons (is_hash q) h hs ∙ ap (λ b. one b + ends hs) (turned q h)

  pub ended_live : (hs : List Hash32) (kept : Kept) → live_count (ended now kept hs) q ≡ live_count kept q - ends hs
  ended_live [] kept = omega arith
  ended_live (h ∷ hs) kept = omega (arith, ended_live hs (told_dead kept h now), dead_by_hash kept h q, one_less kept h hs)

  here_live : (kept : Kept) (h : Hash32) → is_hash h q ≡ true → live_count (told_dead kept h now) q ≡ live_count kept q - 1
  here_live kept h t = dead_by_hash kept h q ∙ ap (λ b. live_count kept q - one b) t

  other_live : (kept : Kept) (h : Hash32) → is_hash h q ≡ false → live_count (told_dead kept h now) q ≡ live_count kept q
  other_live kept h t = dead_by_hash kept h q ∙ (ap (λ b. live_count kept q - one b) t ∙ omega arith)

  other_note : (kept : Kept) (h : Hash32) → is_hash h q ≡ false → note_at (told_dead kept h now) q ≡ note_at kept q
  other_note kept h t =
      note_by_hash kept h q now
      ∙ elim (live_count kept h == 1) as (λ b. (if b && is_hash h q then Some now else note_at kept q) ≡ note_at kept q) [ true ↦ ap (λ b. if b then Some now else note_at kept q) t | false ↦ refl ]

  here_note : (kept : Kept) (h : Hash32) (last : Bool) → is_hash h q ≡ true → (live_count kept q == 1) ≡ last → note_at (told_dead kept h now) q ≡ (if last then Some now else note_at kept q)
  here_note kept h last t e =
      note_by_hash kept h q now
      ∙ (ap (λ (k : Hash32). if (live_count kept k == 1) && is_hash h q then Some now else note_at kept q) (same_hash h q t)
      ∙ (λ i. if e i && t i then Some now else note_at kept q)
      ∙ elim last as (λ b. (if b && true then Some now else note_at kept q) ≡ (if b then Some now else note_at kept q)) [ true ↦ refl | false ↦ refl ])

  -- a block that keeps a reference, or had none, keeps its note
  pub ended_still : (hs : List Hash32) (kept : Kept) → (ends hs < live_count kept q) ⊎ (live_count kept q ≡ 0) → note_at (ended now kept hs) q ≡ note_at kept q
  ended_still [] kept some = refl
  ended_still (h ∷ hs) kept some =
      elim (is_hash h q) as (λ b. is_hash h q ≡ b → note_at (ended now (told_dead kept h now) hs) q ≡ note_at kept q) [
        | true ↦ λ t.
            let next : (ends hs < live_count (told_dead kept h now) q) ⊎ (live_count (told_dead kept h now) q ≡ 0) = elim some [
              | inl more ↦ inl (omega (arith, more, here_live kept h t, one_less kept h hs, ap one t))
              | inr none ↦ inr (omega (arith, none, here_live kept h t))
            ] in
            let several : (live_count kept q == 1) ≡ false = ne_eqb (live_count kept q) 1 (λ e. elim some [
              | inl more ↦ omega (arith, e, more, one_less kept h hs, ap one t)
              | inr none ↦ omega (arith, e, none)
            ]) in
            ended_still hs (told_dead kept h now) next ∙ here_note kept h false t several
        | false ↦ λ t.
            let next : (ends hs < live_count (told_dead kept h now) q) ⊎ (live_count (told_dead kept h now) q ≡ 0) = elim some [
              | inl more ↦ inl (omega (arith, more, other_live kept h t, one_less kept h hs, ap one t))
              | inr none ↦ inr (omega (arith, none, other_live kept h t))
            ] in
            ended_still hs (told_dead kept h now) next ∙ other_note kept h t
      ] refl

  -- a block that loses its last reference is noted
  pub ended_last : (hs : List Hash32) (kept : Kept) → 1 ≤ live_count kept q → live_count kept q ≤ ends hs → note_at (ended now kept hs) q ≡ Some now
  ended_last [] kept some all = absurd (omega (arith, some, all))
  ended_last (h ∷ hs) kept some all =
      elim (is_hash h q) as (λ b. is_hash h q ≡ b → note_at (ended now (told_dead kept h now) hs) q ≡ Some now) [
        | true ↦ λ t. elim (live_count kept q == 1) as (λ b. (live_count kept q == 1) ≡ b → note_at (ended now (told_dead kept h now) hs) q ≡ Some now) [
          | true ↦ λ e. ended_still hs (told_dead kept h now) (inr (omega (arith, eqb-true (live_count kept q) 1 e, here_live kept h t))) ∙ here_note kept h true t e
          | false ↦ λ e.
              let several : live_count kept q ≢ 1 = λ z. (let no : true ≡ false = sym (eq-eqb (live_count kept q) 1 z) ∙ e in cc) in
              ended_last hs (told_dead kept h now) (omega (arith, several, some, here_live kept h t)) (omega (arith, all, here_live kept h t, one_less kept h hs, ap one t))
        ] refl
        | false ↦ λ t. ended_last hs (told_dead kept h now) (omega (arith, some, other_live kept h t)) (omega (arith, all, other_live kept h t, one_less kept h hs, ap one t))
      ] refl

pub ended_blocks : (now : ℕ) (hs : List Hash32) (kept : Kept) → (ended now kept hs).blocks ≡ kept.blocks
ended_blocks now [] kept = refl
ended_blocks now (h ∷ hs) kept = ended_blocks now hs (told_dead kept h now)

-- ---- the node's

same_turned : (a b : List ℕ) → same_bytes a b ≡ same_bytes b a
same_turned a b =
    elim (same_bytes a b) as (λ t. same_bytes a b ≡ t → t ≡ same_bytes b a) [
      | true ↦ λ t. sym ((bytes_eq-Decides b a).1 (sym ((bytes_eq-Decides a b).0 t)))
      | false ↦ λ t. elim (same_bytes b a) as (λ u. same_bytes b a ≡ u → false ≡ u) [
        | true ↦ λ u. sym t ∙ (bytes_eq-Decides a b).1 (sym ((bytes_eq-Decides b a).0 u))
        | false ↦ λ u. refl
      ] refl
    ] refl

module _ {R : Type 0} (join : R → R → R) (s : Words R) (later : List R) (noted : List Note) (now : ℕ) (q : List ℕ) where
  abbrev after : List (List ℕ) → Option ℕ
  after hashes = note_of (notes_after join s later noted now hashes) q

  -- one hash more
  noted_first : (hash : List ℕ) (hashes : List (List ℕ)) → after (hash ∷ hashes) ≡ cond (same_bytes q hash && (count_of join s later q == 0)) (Some now) (after hashes)
  noted_first hash hashes =
      elim (same_bytes q hash) as (λ b. same_bytes q hash ≡ b → after (hash ∷ hashes) ≡ cond (b && (count_of join s later q == 0)) (Some now) (after hashes)) [
        | true ↦ λ t.
            let same : q ≡ hash = (bytes_eq-Decides q hash).0 t in
            elim (count_of join s later hash == 0) as (λ b. note_of (cond b (record { hash = hash; moment = now } ∷ notes_after join s later noted now hashes) (notes_after join s later noted now hashes)) q ≡ cond b (Some now) (after hashes)) [
              | true ↦ ap (λ b. cond b (Some now) (after hashes)) (same_turned hash q ∙ t)
              | false ↦ refl
            ] ∙ ap (λ k. cond (count_of join s later k == 0) (Some now) (after hashes)) (sym same)
        | false ↦ λ t.
            elim (count_of join s later hash == 0) as (λ b. note_of (cond b (record { hash = hash; moment = now } ∷ notes_after join s later noted now hashes) (notes_after join s later noted now hashes)) q ≡ after hashes) [
              | true ↦ ap (λ b. cond b (Some now) (after hashes)) (same_turned hash q ∙ t)
              | false ↦ refl
            ]
      ] refl

  noted_last : (hashes : List (List ℕ)) → (count_of join s later q == 0) ≡ true → 1 ≤ count_by (same_bytes q) hashes → after hashes ≡ Some now
  noted_last [] none some = absurd (omega (arith, some))
  noted_last (hash ∷ hashes) none some =
      noted_first hash hashes
      ∙ elim (same_bytes q hash) as (λ b. same_bytes q hash ≡ b → cond (b && (count_of join s later q == 0)) (Some now) (after hashes) ≡ Some now) [
        | true ↦ λ t. ap (λ b. cond b (Some now) (after hashes)) none
        | false ↦ λ t. noted_last hashes none (omega (arith, some, count_cons (same_bytes q) hash hashes, ap one t))
      ] refl

  noted_still : (hashes : List (List ℕ)) → (count_of join s later q == 0) ≡ false → after hashes ≡ note_of noted q
  noted_still [] some = refl
  noted_still (hash ∷ hashes) some =
      noted_first hash hashes
      ∙ elim (same_bytes q hash) as (λ b. cond (b && (count_of join s later q == 0)) (Some now) (after hashes) ≡ note_of noted q) [
        | true ↦ ap (λ b. cond b (Some now) (after hashes)) some ∙ noted_still hashes some
        | false ↦ noted_still hashes some
      ]

  noted_none : (hashes : List (List ℕ)) → count_by (same_bytes q) hashes ≡ 0 → after hashes ≡ note_of noted q
  noted_none [] none = refl
  noted_none (hash ∷ hashes) none =
      noted_first hash hashes
      ∙ elim (same_bytes q hash) as (λ b. same_bytes q hash ≡ b → cond (b && (count_of join s later q == 0)) (Some now) (after hashes) ≡ note_of noted q) [
        | true ↦ λ t. absurd (omega (arith, none, count_cons (same_bytes q) hash hashes, ap one t))
        | false ↦ λ t. noted_none hashes (omega (arith, none, count_cons (same_bytes q) hash hashes, ap one t))
      ] refl

-- ---- both

module _ {R : Type 0} (join : R → R → R) (s : Words R) (kept : Kept) (older later : List R) (there : List Block) (noted : List Note) (now : ℕ) (hs : List Hash32) (hashes : List (List ℕ))
    (are : AreBlocks join s kept older there noted)
    (ended_are : (q : Hash32) → count_by (is_hash q) hs + count_of join s later q.0 ≡ count_of join s older q.0)
    (lost_are : (q : List ℕ) → count_by (same_bytes q) hashes + count_of join s later q ≡ count_of join s older q) where
  notes_by : (q : Hash32) (left ends : ℕ) → left ≡ count_of join s later q.0 → ends ≡ count_by (is_hash q) hs → note_at (ended now kept hs) q ≡ note_of (notes_after join s later noted now hashes) q.0
  notes_by q zero zero l e =
      ended_still now q hs kept (inr (omega (arith, l, e, ended_are q, are.counts q)))
      ∙ (are.notes q ∙ sym (noted_none join s later noted now q.0 hashes (omega (arith, l, e, ended_are q, lost_are q.0))))
  notes_by q zero (suc n) l e =
      ended_last now q hs kept (omega (arith, l, e, ended_are q, are.counts q)) (omega (arith, l, e, ended_are q, are.counts q))
      ∙ sym (noted_last join s later noted now q.0 hashes (eq-eqb (count_of join s later q.0) 0 (sym l)) (omega (arith, l, e, ended_are q, lost_are q.0)))
  notes_by q (suc left) ends l e =
      ended_still now q hs kept (inl (omega (arith, l, e, ended_are q, are.counts q)))
      ∙ (are.notes q ∙ sym (noted_still join s later noted now q.0 hashes (ne_eqb (count_of join s later q.0) 0 (λ z. omega (arith, l, z)))))

  pub dropped_blocks : AreBlocks join s (ended now kept hs) later there (notes_after join s later noted now hashes)
  dropped_blocks = record {
    bytes = λ q. ap (λ bs. kept_at (record kept { blocks = bs }) q) (ended_blocks now hs kept) ∙ are.bytes q;
    counts = λ q. ended_live now q hs kept ∙ omega (arith, ended_are q, are.counts q);
    notes = λ q. notes_by q (count_of join s later q.0) (count_by (is_hash q) hs) refl refl;
    number = λ test. ap (count_by (λ (b : Hash32 × List ℕ). test b.0.0)) (ended_blocks now hs kept) ∙ are.number test;
  }
