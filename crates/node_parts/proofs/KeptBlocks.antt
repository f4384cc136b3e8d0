-- The code's blocks and the node's, as a block is put, as references begin and end.
use Rattle.std.proofs.Common.{◌≡◌, ℕ, zero, suc, ◌+◌, ◌-◌, Bool, true, false, cond, ◌==◌, ◌&&◌, ◌||◌, List, [], ◌∷◌, Option, Some, None, IsTrue, length, refl, sym, ap, ◌∙◌, subst, arith, ne_eqb}
use Rattle.std.specs.Prelude.{⊤, count_by, if◌then◌else◌, is_some, option_map}
use Rattle.std.specs.Map.{lookup}
use Rattle.std.specs.BTreeMap.{insert_entry}
use Rattle.std.specs.Ordering.{match_ordering}
use Rattle.std.specs.Cmp.{tied_itself, eq_by_cmp_equiv}
use Rattle.std.specs.declared.cmp.Ordering.TheVariants.{Less, Equal, Greater}
use Rattle.std.proofs.lemmas.Map.{NonePasses, none_passes_from_lookup}
use Rattle.std.proofs.lemmas.Slice.Eq.{bytes_eq-Decides}
use Rattle.blake2_hash.specs.declared.digest.Hash32.{Hash32}
use Rattle.blake2_hash.specs.Hash.{hash_cmp, is_hash}
use Rattle.blake2_hash.specs.HashLaws.{hash_total}
use Rattle.block_store.specs.Contents.{Contents as Kept, block_at as kept_at, live_count, note_at, put, told_live, told_dead, without}
use Rattle.block_store.proofs.Showing.{same_hash}
use Rattle.block_store.proofs.ByHash.{live_by_hash, dead_by_hash, note_by_hash, put_by_hash}
use Rattle.table_schema.specs.Words.{Words}
use Rattle.cluster_machine.specs.Node.{Block, Note}
use Rattle.cluster_machine.specs.Rows.{same_bytes, is_block, block_at, has_block, with_block, note_of, count_of, blocks_after, notes_after, lost_block}
use Rattle.node_parts.specs.Contents.{AreBlocks}
use Rattle.node_parts.specs.References.{kept_with, referred}
use Rattle.node_parts.proofs.Counting.{one, count_cons}

-- ---- hashes

pub same_itself : (a : List ℕ) → same_bytes a a ≡ true
same_itself a = (bytes_eq-Decides a a).1 refl

pub hash_itself : (h : Hash32) → is_hash h h ≡ true
hash_itself h = rw (tied_itself hash_total h) refl

pub same_is : (h q : Hash32) → same_bytes h.0 q.0 ≡ is_hash h q
same_is h q =
    elim (is_hash h q) as (λ b. is_hash h q ≡ b → same_bytes h.0 q.0 ≡ b) [
      | true ↦ λ t. ap (λ (k : Hash32). same_bytes h.0 k.0) (sym (same_hash h q t)) ∙ same_itself h.0
      | false ↦ λ t. elim (same_bytes h.0 q.0) as (λ b. same_bytes h.0 q.0 ≡ b → b ≡ false) [
        | true ↦ λ e.
            let alike : h.0 ≡ q.0 = (bytes_eq-Decides h.0 q.0).0 e in
            let equal : h ≡ q = λ i. record { 0 = alike i } in
            let no : true ≡ false = sym (hash_itself h) ∙ (ap (is_hash h) equal ∙ t) in
            no
        | false ↦ λ e. refl
      ] refl
    ] refl

pub has_is : (blocks : List Block) (hash : List ℕ) → has_block blocks hash ≡ is_some (block_at blocks hash)
has_is [] hash = refl
has_is (b ∷ bs) hash =
    elim (same_bytes b.hash hash) as (λ t. (t || has_block bs hash) ≡ is_some (cond t (Some b.bytes) (block_at bs hash))) [ true ↦ refl | false ↦ has_is bs hash ]

one_more : (n : ℕ) → (suc n == 1) ≡ (n == 0)
one_more zero = refl
one_more (suc n) = rw (ne_eqb (suc (suc n)) 1 (λ e. omega (arith, e)), ne_eqb (suc n) 0 (λ e. omega (arith, e))) refl

-- ---- how many there are

count_each : {A : Type 0} (xs : List A) → count_by (λ x. true) xs ≡ length xs
count_each [] = refl
count_each (x ∷ xs) = count_cons (λ y. true) x xs ∙ omega (arith, count_each xs)

pub as_many : {R : Type 0} (join : R → R → R) (s : Words R) (kept : Kept) (accepted : List R) (there : List Block) (noted : List Note) → AreBlocks join s kept accepted there noted → length kept.blocks ≡ length there
as_many join s kept accepted there noted are = sym (count_each kept.blocks) ∙ (are.number (λ h. true) ∙ count_each there)

-- ---- a block is put

count_by_order : (p : Hash32 × List ℕ → Bool) (h : Hash32) (v : List ℕ) (es : List (Hash32 × List ℕ)) → NonePasses (is_hash h) es → count_by p (insert_entry hash_cmp es h v) ≡ one (p (h, v)) + count_by p es
count_by_order p h v [] none = count_cons p (h, v) []
count_by_order p h v (e ∷ es) none =
    elim (hash_cmp h e.0) as (λ o. hash_cmp h e.0 ≡ o → count_by p (match_ordering o ((h, v) ∷ e ∷ es) ((e.0, v) ∷ es) (e ∷ insert_entry hash_cmp es h v)) ≡ one (p (h, v)) + count_by p (e ∷ es)) [
      | Less ↦ λ t. count_cons p (h, v) (e ∷ es)
      | Equal ↦ λ t. let no : true ≡ false = rw t at none.0 in cc
      | Greater ↦ λ t. omega (arith, count_cons p e (insert_entry hash_cmp es h v), count_cons p e es, count_by_order p h v es none.1)
    ] refl

nothing : {X : Type 0} (o : Option X) → is_some o ≡ false → o ≡ None
nothing None e = refl
nothing (Some x) e = cc

whole : {X : Type 0} (o : Option X) → (if is_some o then o else None) ≡ o
whole None = refl
whole (Some x) = refl

module _ {R : Type 0} (join : R → R → R) (s : Words R) (kept : Kept) (accepted : List R) (there : List Block) (noted : List Note) (are : AreBlocks join s kept accepted there noted) where
  module _ (h : Hash32) (bytes : List ℕ) where
    abbrev new : Block
    new = record { hash = h.0; bytes = bytes }

    has_kept : has_block there h.0 ≡ is_some (kept_at kept h)
    has_kept = has_is there h.0 ∙ ap is_some (sym (are.bytes h))

    put_itself : kept_at (put kept h bytes) h ≡ block_at (with_block there h.0 (Some bytes)) h.0
    put_itself =
        put_by_hash kept h h bytes
        ∙ (ap (λ b. if is_some (kept_at kept h) then kept_at kept h else (if b then Some bytes else None)) (hash_itself h)
        ∙ (elim (is_some (kept_at kept h)) as (λ t. (if t then kept_at kept h else Some bytes) ≡ block_at (cond t there (new ∷ there)) h.0) [
          | true ↦ are.bytes h
          | false ↦ ap (λ b. cond b (Some bytes) (block_at there h.0)) (sym (same_itself h.0))
        ] ∙ ap (λ t. block_at (cond t there (new ∷ there)) h.0) (sym has_kept)))

    put_other : (q : Hash32) → is_hash h q ≡ false → kept_at (put kept h bytes) q ≡ block_at (with_block there h.0 (Some bytes)) q.0
    put_other q apart =
        put_by_hash kept h q bytes
        ∙ (ap (λ b. if is_some (kept_at kept q) then kept_at kept q else (if b then Some bytes else None)) apart
        ∙ (whole (kept_at kept q)
        ∙ (are.bytes q
        ∙ elim (has_block there h.0) as (λ t. block_at there q.0 ≡ block_at (cond t there (new ∷ there)) q.0) [
          | true ↦ refl
          | false ↦ ap (λ b. cond b (Some bytes) (block_at there q.0)) (sym (same_is h q ∙ apart))
        ])))

    put_bytes : (q : Hash32) → kept_at (put kept h bytes) q ≡ block_at (with_block there h.0 (Some bytes)) q.0
    put_bytes q =
        elim (is_hash h q) as (λ b. is_hash h q ≡ b → kept_at (put kept h bytes) q ≡ block_at (with_block there h.0 (Some bytes)) q.0) [
          | true ↦ λ t. subst (λ (k : Hash32). kept_at (put kept h bytes) k ≡ block_at (with_block there h.0 (Some bytes)) k.0) (same_hash h q t) put_itself
          | false ↦ λ t. put_other q t
        ] refl

    put_number : (test : List ℕ → Bool) → count_by (λ b. test b.0.0) (put kept h bytes).blocks ≡ count_by (λ b. test b.hash) (with_block there h.0 (Some bytes))
    put_number test =
        elim (is_some (kept_at kept h)) as (λ t. is_some (kept_at kept h) ≡ t → count_by (λ b. test b.0.0) (if t then kept else record kept { blocks = insert_entry hash_cmp kept.blocks h bytes }).blocks ≡ count_by (λ b. test b.hash) (cond t there (new ∷ there))) [
          | true ↦ λ e. are.number test
          | false ↦ λ e.
              count_by_order (λ b. test b.0.0) h bytes kept.blocks (none_passes_from_lookup (is_hash h) kept.blocks (nothing (kept_at kept h) e))
              ∙ (ap (λ n. one (test h.0) + n) (are.number test) ∙ sym (count_cons (λ b. test b.hash) new there))
        ] refl
        ∙ ap (λ t. count_by (λ b. test b.hash) (cond t there (new ∷ there))) (sym has_kept)

    put_live : (put kept h bytes).live ≡ kept.live
    put_live = elim (is_some (kept_at kept h)) as (λ t. (if t then kept else record kept { blocks = insert_entry hash_cmp kept.blocks h bytes }).live ≡ kept.live) [ true ↦ refl | false ↦ refl ]

    put_notes : (put kept h bytes).notes ≡ kept.notes
    put_notes = elim (is_some (kept_at kept h)) as (λ t. (if t then kept else record kept { blocks = insert_entry hash_cmp kept.blocks h bytes }).notes ≡ kept.notes) [ true ↦ refl | false ↦ refl ]

  -- a block that came is put
  pub with_put : (h : Hash32) (given : Option (List ℕ)) → AreBlocks join s (kept_with kept h given) accepted (with_block there h.0 given) noted
  with_put h None = are
  with_put h (Some bytes) = record {
    bytes = put_bytes h bytes;
    counts = λ q. ap (count_by (is_hash q)) (put_live h bytes) ∙ are.counts q;
    notes = λ q. ap (lookup (is_hash q)) (put_notes h bytes) ∙ are.notes q;
    number = put_number h bytes;
  }

  module _ (later : List R) (h : Hash32) where
    turned : (q : Hash32) → is_hash h q ≡ same_bytes q.0 h.0
    turned q = (eq_by_cmp_equiv hash_total).symm h q ∙ sym (same_is q h)

    -- a reference begins
    pub with_live : ((q : List ℕ) → count_of join s later q ≡ count_of join s accepted q + one (same_bytes q h.0)) → AreBlocks join s (told_live kept h) later there noted
    with_live more = record {
      bytes = are.bytes;
      counts = λ q. live_by_hash kept h q ∙ ((λ i. are.counts q i + one (turned q i)) ∙ sym (more q.0));
      notes = are.notes;
      number = are.number;
    }

    -- a reference ends
    module _ (now : ℕ) (less : (q : List ℕ) → count_of join s later q + one (same_bytes q h.0) ≡ count_of join s accepted q) where
      was : count_of join s later h.0 + 1 ≡ count_of join s accepted h.0
      was = ap (λ b. count_of join s later h.0 + one b) (sym (same_itself h.0)) ∙ less h.0

      last_is : (live_count kept h == 1) ≡ (count_of join s later h.0 == 0)
      last_is = let more : live_count kept h ≡ suc (count_of join s later h.0) = omega (arith, are.counts h, was) in ap (λ n. n == 1) more ∙ one_more (count_of join s later h.0)

      dead_notes : (q : Hash32) → note_at (told_dead kept h now) q ≡ note_of (notes_after join s later noted now (h.0 ∷ [])) q.0
      dead_notes q =
          note_by_hash kept h q now
          ∙ ap (λ b. if b && is_hash h q then Some now else note_at kept q) last_is
          ∙ elim (count_of join s later h.0 == 0) as (λ b. (if b && is_hash h q then Some now else note_at kept q) ≡ note_of (cond b (record { hash = h.0; moment = now } ∷ noted) noted) q.0) [
            | true ↦ λ i. cond (sym (same_is h q) i) (Some now) (are.notes q i)
            | false ↦ are.notes q
          ]

      dead_counts : (q : Hash32) → live_count (told_dead kept h now) q ≡ count_of join s later q.0
      dead_counts q =
          dead_by_hash kept h q
          ∙ (ap (λ b. live_count kept q - one b) (turned q)
          ∙ omega (arith, are.counts q, less q.0))

      pub with_dead : AreBlocks join s (told_dead kept h now) later there (notes_after join s later noted now (h.0 ∷ []))
      with_dead = record { bytes = are.bytes; counts = dead_counts; notes = dead_notes; number = are.number }

  -- as many references as before
  pub with_same : (later : List R) → ((q : List ℕ) → count_of join s later q ≡ count_of join s accepted q) → AreBlocks join s kept later there noted
  with_same later same = record { bytes = are.bytes; counts = λ q. are.counts q ∙ sym (same q.0); notes = are.notes; number = are.number }

-- ---- a row's reference changes

-- a row that needed a block and needs one now needs the same
abbrev pub Alike : Option Hash32 → Option Hash32 → Type 0
Alike (Some old) (Some new) = old ≡ new
Alike _ _ = ⊤

abbrev pub hash_of : Option Hash32 → Option (List ℕ)
hash_of o = option_map (λ h. h.0) o

module _ {R : Type 0} (join : R → R → R) (s : Words R) (kept : Kept) (accepted later : List R) (there : List Block) (noted : List Note) (now : ℕ) (given : Option (List ℕ)) where
  -- what becomes of the code's blocks is what becomes of the node's
  abbrev pub Refers : Option Hash32 → Option Hash32 → Type 0
  Refers before after = AreBlocks join s (referred now given kept before after) later (blocks_after join s there (hash_of after) given) (notes_after join s later noted now (lost_block join s (hash_of before) (hash_of after)))

  pub refers : (before after : Option Hash32) → Alike before after →
      ((q : List ℕ) → count_of join s later q + one (is_block q (hash_of before)) ≡ count_of join s accepted q + one (is_block q (hash_of after))) →
      AreBlocks join s kept accepted there noted → Refers before after
  refers None None alike counts are = with_same join s kept accepted there noted are later (λ q. omega (arith, counts q))
  refers (Some old) None alike counts are = with_dead join s kept accepted there noted are later old now (λ q. omega (arith, counts q))
  refers None (Some new) alike counts are =
      with_live join s (kept_with kept new given) accepted (with_block there new.0 given) noted (with_put join s kept accepted there noted are new given) later new (λ q. omega (arith, counts q))
  refers (Some old) (Some new) alike counts are =
      let same : same_bytes old.0 new.0 ≡ true = ap (λ (h : Hash32). same_bytes old.0 h.0) (sym alike) ∙ same_itself old.0 in
      let level : (q : List ℕ) → count_of join s later q ≡ count_of join s accepted q = λ q. (let one_hash : one (same_bytes q old.0) ≡ one (same_bytes q new.0) = ap (λ (h : Hash32). one (same_bytes q h.0)) alike in omega (arith, counts q, one_hash)) in
      subst (λ b. AreBlocks join s (kept_with kept new given) later (with_block there new.0 given) (notes_after join s later noted now (cond b [] (old.0 ∷ [])))) (sym same)
      (with_same join s (kept_with kept new given) accepted (with_block there new.0 given) noted (with_put join s kept accepted there noted are new given) later level)

-- ---- a reference that was never told

without_none : (h : Hash32) (ks : List Hash32) → count_by (is_hash h) ks ≡ 0 → ks ≡ without h ks
without_none h [] none = refl
without_none h (k ∷ ks) none =
    elim (is_hash h k) as (λ b. is_hash h k ≡ b → k ∷ ks ≡ (if b then ks else k ∷ without h ks)) [
      | true ↦ λ t. let some : one (is_hash h k) ≡ 1 = ap one t in absurd (omega (arith, count_cons (is_hash h) k ks, some, none))
      | false ↦ λ t. ap (λ l. k ∷ l) (without_none h ks (omega (arith, count_cons (is_hash h) k ks, none)))
    ] refl

pub dead_none : (kept : Kept) (h : Hash32) (now : ℕ) → live_count kept h ≡ 0 → kept ≡ told_dead kept h now
dead_none kept h now none =
    rw none (λ i. record kept { live = without_none h kept.live none i })

-- the block that was put is there
pub put_there : (kept : Kept) (h : Hash32) (bytes : List ℕ) → IsTrue (is_some (kept_at (put kept h bytes) h))
put_there kept h bytes =
    let is = put_by_hash kept h h bytes in
    rw (is, hash_itself h)
    (elim (is_some (kept_at kept h)) as (λ b. is_some (kept_at kept h) ≡ b → IsTrue (is_some (if b then kept_at kept h else Some bytes))) [
      | true ↦ λ t. t
      | false ↦ λ t. refl
    ] refl)
