-- What the steps of the contents make of one hash.
use Rattle.std.proofs.Common.{◌≡◌, ℕ, ◌+◌, ◌-◌, Bool, true, false, cond, List, [], ◌∷◌, Option, Some, None, refl, sym, ap, ◌∙◌, arith}
use Rattle.std.specs.Prelude.{count_by, if◌then◌else◌, ◌==◌, ◌&&◌}
use Rattle.std.specs.List.Sorted.{IsStrictlySortedBy}
use Rattle.std.specs.Map.{lookup, remove_entry, keys_of}
use Rattle.std.specs.Option.{is_some}
use Rattle.std.specs.Ordering.{is_lt, match_ordering}
use Rattle.std.specs.Cmp.{tied_itself, eq_by_cmp_equiv}
use Rattle.std.specs.declared.cmp.Ordering.TheVariants.{Less, Equal, Greater}
use Rattle.std.specs.BTreeMap.{insert_entry}
use Rattle.std.proofs.lemmas.Map.{lookup-remove_entry}
use Rattle.std.proofs.lemmas.Map.Entries.{lookup-filter-keys}
use Rattle.std.proofs.lemmas.Map.Keys.{IsDistinct-from_sorted}
use Rattle.std.proofs.lemmas.List.Sums.{sum_by-cons}
use Rattle.blake2_hash.specs.declared.digest.Hash32.{Hash32}
use Rattle.blake2_hash.specs.Hash.{hash_cmp, is_hash}
use Rattle.blake2_hash.specs.HashLaws.{hash_total, hash_identical}
use Rattle.block_store.specs.Contents.{Contents, block_at, live_count, note_at, placed, without, put, told_dead, idle_notes}
use Rattle.block_store.proofs.Showing.{one_at, same_hash}

pub turned : (h q : Hash32) → is_hash q h ≡ is_hash h q
turned h q = (eq_by_cmp_equiv hash_total).symm q h

skip : {X : Type 0} (b : Bool) (a x y : X) → cond b a x ≡ cond b a (cond b y x)
skip true a x y = refl
skip false a x y = refl

module _ {X : Type 0} where
  lookup_inserted : (h q : Hash32) (v : X) (es : List (Hash32 × X)) → lookup (is_hash q) (insert_entry hash_cmp es h v) ≡ cond (is_hash q h) (Some v) (lookup (is_hash q) es)
  lookup_inserted h q v [] = refl
  lookup_inserted h q v (e ∷ es) =
      elim (hash_cmp h e.0) as (λ r. hash_cmp h e.0 ≡ r → lookup (is_hash q) (match_ordering r ((h, v) ∷ e ∷ es) ((e.0, v) ∷ es) (e ∷ insert_entry hash_cmp es h v)) ≡ cond (is_hash q h) (Some v) (lookup (is_hash q) (e ∷ es))) [
        | Less ↦ λ t. refl
        | Equal ↦ λ t. rw (hash_identical h e.0 t) (skip (is_hash q e.0) (Some v) (lookup (is_hash q) es) (Some e.1))
        | Greater ↦ λ t. elim (is_hash q h) as (λ b. is_hash q h ≡ b → cond (is_hash q e.0) (Some e.1) (lookup (is_hash q) (insert_entry hash_cmp es h v)) ≡ cond b (Some v) (cond (is_hash q e.0) (Some e.1) (lookup (is_hash q) es))) [
          | true ↦ λ s.
              let apart : is_hash q e.0 ≡ false = rw (same_hash q h s, t) refl in
              rw apart (lookup_inserted h q v es ∙ ap (λ b. cond b (Some v) (lookup (is_hash q) es)) s)
          | false ↦ λ s.
              ap (cond (is_hash q e.0) (Some e.1)) (lookup_inserted h q v es ∙ ap (λ b. cond b (Some v) (lookup (is_hash q) es)) s)
        ] refl
      ] refl

  pub lookup_removed : (h q : Hash32) (es : List (Hash32 × X)) → IsStrictlySortedBy hash_cmp (keys_of es) → lookup (is_hash q) (remove_entry (is_hash h) es) ≡ (if is_hash h q then None else lookup (is_hash q) es)
  lookup_removed h q es s =
      lookup-remove_entry (eq_by_cmp_equiv hash_total) (is_hash h) (λ x y e. (eq_by_cmp_equiv hash_total).congr h x y e) q es (IsDistinct-from_sorted hash_cmp (keys_of es) s)

counted_placed : (h q : Hash32) (ks : List Hash32) → count_by (is_hash q) (placed h ks) ≡ count_by (is_hash q) ks + one_at q h
counted_placed h q [] = sum_by-cons (one_at q) h [] ∙ omega arith
counted_placed h q (k ∷ ks) =
    elim (is_lt (hash_cmp k h)) as (λ b. count_by (is_hash q) (if b then k ∷ placed h ks else h ∷ k ∷ ks) ≡ count_by (is_hash q) (k ∷ ks) + one_at q h) [
      | true ↦ omega (arith, sum_by-cons (one_at q) k (placed h ks), sum_by-cons (one_at q) k ks, counted_placed h q ks)
      | false ↦ omega (arith, sum_by-cons (one_at q) h (k ∷ ks))
    ]

pub live_by_hash : (c : Contents) (h q : Hash32) → count_by (is_hash q) (placed h c.live) ≡ live_count c q + (if is_hash h q then 1 else 0)
live_by_hash c h q = counted_placed h q c.live ∙ ap (λ b. live_count c q + cond b 1 0) (turned h q)

counted_without : (h q : Hash32) (ks : List Hash32) → count_by (is_hash q) (without h ks) ≡ count_by (is_hash q) ks - one_at q h
counted_without h q [] = omega arith
counted_without h q (k ∷ ks) =
    elim (is_hash h k) as (λ b. is_hash h k ≡ b → count_by (is_hash q) (if b then ks else k ∷ without h ks) ≡ count_by (is_hash q) (k ∷ ks) - one_at q h) [
      | true ↦ λ t.
          let same : one_at q k ≡ one_at q h = ap (one_at q) (sym (same_hash h k t)) in
          omega (arith, sum_by-cons (one_at q) k ks, same)
      | false ↦ λ t. elim (is_hash q h) as (λ b. is_hash q h ≡ b → count_by (is_hash q) (k ∷ without h ks) ≡ count_by (is_hash q) (k ∷ ks) - cond b 1 0) [
        | true ↦ λ s.
            let apart : one_at q k ≡ 0 = rw (same_hash q h s, t) refl in
            let here : one_at q h ≡ 1 = rw s refl in
            omega (arith, sum_by-cons (one_at q) k (without h ks), sum_by-cons (one_at q) k ks, counted_without h q ks, apart, here)
        | false ↦ λ s.
            let none : one_at q h ≡ 0 = rw s refl in
            omega (arith, sum_by-cons (one_at q) k (without h ks), sum_by-cons (one_at q) k ks, counted_without h q ks, none)
      ] refl
    ] refl

pub dead_by_hash : (c : Contents) (h q : Hash32) → count_by (is_hash q) (without h c.live) ≡ live_count c q - (if is_hash h q then 1 else 0)
dead_by_hash c h q = counted_without h q c.live ∙ ap (λ b. live_count c q - cond b 1 0) (turned h q)

pub note_by_hash : (c : Contents) (h q : Hash32) (now : ℕ) → note_at (told_dead c h now) q ≡ (if (live_count c h == 1) && is_hash h q then Some now else note_at c q)
note_by_hash c h q now =
    elim (live_count c h == 1) as (λ one. lookup (is_hash q) (if one then insert_entry hash_cmp c.notes h now else c.notes) ≡ (if one && is_hash h q then Some now else note_at c q)) [
      | true ↦ lookup_inserted h q now c.notes ∙ ap (λ b. cond b (Some now) (note_at c q)) (turned h q)
      | false ↦ refl
    ]

some_or_none : {X : Type 0} (o : Option X) → o ≡ (if is_some o then o else None)
some_or_none None = refl
some_or_none (Some x) = refl

put_here : (c : Contents) (q : Hash32) (bytes : List ℕ) → block_at (put c q bytes) q ≡ (if is_some (block_at c q) then block_at c q else Some bytes)
put_here c q bytes =
    elim (is_some (block_at c q)) as (λ b. block_at (if b then c else record c { blocks = insert_entry hash_cmp c.blocks q bytes }) q ≡ (if b then block_at c q else Some bytes)) [
      | true ↦ refl
      | false ↦ lookup_inserted q q bytes c.blocks ∙ rw (tied_itself hash_total q) refl
    ]

put_apart : (c : Contents) (h q : Hash32) (bytes : List ℕ) → is_hash h q ≡ false → block_at (put c h bytes) q ≡ block_at c q
put_apart c h q bytes t =
    elim (is_some (block_at c h)) as (λ b. block_at (if b then c else record c { blocks = insert_entry hash_cmp c.blocks h bytes }) q ≡ block_at c q) [
      | true ↦ refl
      | false ↦ lookup_inserted h q bytes c.blocks ∙ ap (λ b. cond b (Some bytes) (block_at c q)) (turned h q ∙ t)
    ]

pub put_by_hash : (c : Contents) (h q : Hash32) (bytes : List ℕ) → block_at (put c h bytes) q ≡ (if is_some (block_at c q) then block_at c q else (if is_hash h q then Some bytes else None))
put_by_hash c h q bytes =
    elim (is_hash h q) as (λ b. is_hash h q ≡ b → block_at (put c h bytes) q ≡ (if is_some (block_at c q) then block_at c q else (if b then Some bytes else None))) [
      | true ↦ λ t. rw (same_hash h q t) (put_here c q bytes)
      | false ↦ λ t. put_apart c h q bytes t ∙ some_or_none (block_at c q)
    ] refl

pub idle_by_hash : (c : Contents) (q : Hash32) → lookup (is_hash q) (idle_notes c) ≡ (if live_count c q == 0 then note_at c q else None)
idle_by_hash c q =
    lookup-filter-keys (is_hash q) (λ k. live_count c k == 0) (live_count c q == 0) (λ k t. ap (λ h. live_count c h == 0) (sym (same_hash q k t))) c.notes
