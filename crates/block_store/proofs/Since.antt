-- The moments of idle blocks, as blocks become idle and cease to be.
use Rattle.std.proofs.Common.{◌≡◌, ℕ, zero, suc, ◌+◌, ◌-◌, ◌≤◌, Bool, true, false, cond, List, Option, Some, None, refl, sym, ap, ◌∙◌, arith}
use Rattle.std.specs.Prelude.{◌==◌, ◌&&◌, if◌then◌else◌}
use Rattle.std.specs.Map.{lookup}
use Rattle.std.specs.Ordering.{nat_cmp}
use Rattle.std.specs.Cmp.{unsigned_ties, tied_then}
use Rattle.std.specs.BTreeMap.{is_at, insert_entry}
use Rattle.std.specs.Option.{is_some}
use Rattle.std.specs.BTreeSet.{contains, Updates}
use Rattle.std.proofs.lemmas.Map.{none_passes_from_lookup}
use Rattle.blake2_hash.specs.declared.digest.Hash32.{Hash32}
use Rattle.blake2_hash.specs.Hash.{hash_cmp, is_hash}
use Rattle.block_store.specs.Contents.{Contents, IsInOrder, block_at, live_count, note_at, put, told_live, told_dead, deleted}
use Rattle.block_store.specs.Shelf.{Entries, contents_of}
use Rattle.block_store.specs.declared.shelf.Kept.{Kept}
use Rattle.block_store.specs.Moments.{Moments, moment_cmp, idle_since, is_since, AreMoments, Changes}
use Rattle.block_store.proofs.ByHash.{live_by_hash, dead_by_hash, note_by_hash, lookup_removed, idle_by_hash}
use Rattle.block_store.proofs.InOrder.{note_found, none_noted_at}
use Rattle.block_store.proofs.Showing.{Sorted, same_hash}
use Rattle.block_store.proofs.Steps.{count_found}

-- ---- one moment in, or out

-- two moments are one where number and hash are
pub at_moment : (n m : ℕ) (h q : Hash32) → is_at (moment_cmp (n, h)) (m, q) ≡ ((n == m) && is_hash h q)
at_moment n m h q = sym (tied_then (nat_cmp n m) (hash_cmp h q)) ∙ ap (λ b. b && is_hash h q) (sym (unsigned_ties n m))

-- the contents c, with s as the moment of the block h
abbrev pub Sets : Contents → Contents → Hash32 → Option ℕ → Type 0
Sets c d h s = (q : Hash32) → idle_since d q ≡ cond (is_hash h q) s (idle_since c q)

and_false : (b : Bool) → (b && false) ≡ false
and_false true = refl
and_false false = refl

module _ (c d : Contents) (h : Hash32) (n : ℕ) where
  one_in : (old new : Moments) → idle_since c h ≡ None → Sets c d h (Some n) → AreMoments (Some old) c → Updates moment_cmp old new (n, h) true → AreMoments (Some new) d
  one_in old new was sets are up q m =
      up.0 (m, q) ∙ ap (λ b. cond b true (contains moment_cmp old (m, q))) (at_moment n m h q)
      ∙ elim (is_hash h q) as (λ b. is_hash h q ≡ b → cond ((n == m) && b) true (contains moment_cmp old (m, q)) ≡ is_since m (cond b (Some n) (idle_since c q))) [
        | true ↦ λ t. elim (n == m) as (λ b. cond (b && true) true (contains moment_cmp old (m, q)) ≡ b) [
          | true ↦ refl
          | false ↦ are q m ∙ ap (is_since m) (ap (idle_since c) (sym (same_hash h q t)) ∙ was)
        ]
        | false ↦ λ t. ap (λ b. cond b true (contains moment_cmp old (m, q))) (and_false (n == m)) ∙ are q m
      ] refl
      ∙ ap (is_since m) (sym (sets q))

  one_out : (old new : Moments) → idle_since c h ≡ Some n → Sets c d h None → AreMoments (Some old) c → Updates moment_cmp old new (n, h) false → AreMoments (Some new) d
  one_out old new was sets are up q m =
      up.0 (m, q) ∙ ap (λ b. cond b false (contains moment_cmp old (m, q))) (at_moment n m h q)
      ∙ elim (is_hash h q) as (λ b. is_hash h q ≡ b → cond ((n == m) && b) false (contains moment_cmp old (m, q)) ≡ is_since m (cond b None (idle_since c q))) [
        | true ↦ λ t.
            let here : contains moment_cmp old (m, q) ≡ (n == m) = are q m ∙ ap (is_since m) (ap (idle_since c) (sym (same_hash h q t)) ∙ was) in
            ap (λ b. cond ((n == m) && true) false b) here ∙ elim (n == m) as (λ b. cond (b && true) false b ≡ false) [ true ↦ refl | false ↦ refl ]
        | false ↦ λ t. ap (λ b. cond b false (contains moment_cmp old (m, q))) (and_false (n == m)) ∙ are q m
      ] refl
      ∙ ap (is_since m) (sym (sets q))

  pub come_in : (old new : Option Moments) → idle_since c h ≡ None → Sets c d h (Some n) → AreMoments old c → Changes old new h n true → AreMoments new d
  come_in old None was sets are up = tt
  come_in None (Some new) was sets are up = absurd up
  come_in (Some old) (Some new) was sets are up = one_in old new was sets are up

  pub go_out : (old new : Option Moments) → idle_since c h ≡ Some n → Sets c d h None → AreMoments old c → Changes old new h n false → AreMoments new d
  go_out old None was sets are up = tt
  go_out None (Some new) was sets are up = absurd up
  go_out (Some old) (Some new) was sets are up = one_out old new was sets are up

stay_some : (c d : Contents) (m : Moments) → ((q : Hash32) → idle_since d q ≡ idle_since c q) → AreMoments (Some m) c → AreMoments (Some m) d
stay_some c d m same are q n = are q n ∙ ap (is_since n) (sym (same q))

pub stay : (c d : Contents) (m : Option Moments) → ((q : Hash32) → idle_since d q ≡ idle_since c q) → AreMoments m c → AreMoments m d
stay c d None same are = tt
stay c d (Some m) same are = stay_some c d m same are

-- where a block wasn't idle, nothing goes
pub not_idle : (c d : Contents) (h : Hash32) → idle_since c h ≡ None → Sets c d h None → (q : Hash32) → idle_since d q ≡ idle_since c q
not_idle c d h was sets q =
    sets q ∙ elim (is_hash h q) as (λ b. is_hash h q ≡ b → cond b None (idle_since c q) ≡ idle_since c q) [
      | true ↦ λ t. sym (ap (idle_since c) (sym (same_hash h q t)) ∙ was)
      | false ↦ λ t. refl
    ] refl

-- ---- the entries of a map

none_either : (b : Bool) → cond {A = Option ℕ} b None None ≡ None
none_either true = refl
none_either false = refl

pub since_found : (h : Hash32) (v : Kept) (es : Entries) → Sorted es → lookup (is_hash h) es ≡ Some v → idle_since (contents_of es) h ≡ (if v.count == 0 then v.note else None)
since_found h v es s l =
    idle_by_hash (contents_of es) h
    ∙ (λ i. if count_found h v es s l i == 0 then note_found h v es s l i else None)

pub since_absent : (h : Hash32) (es : Entries) → lookup (is_hash h) es ≡ None → idle_since (contents_of es) h ≡ None
since_absent h es l =
    idle_by_hash (contents_of es) h
    ∙ ap (λ o. if live_count (contents_of es) h == 0 then o else None) (none_noted_at h es (none_passes_from_lookup (is_hash h) es l))
    ∙ none_either (live_count (contents_of es) h == 0)

-- ---- the calls

more_is_some : (n : ℕ) → (n + 1 == 0) ≡ false
more_is_some n = grind arith

pub live_sets : (c : Contents) (h : Hash32) → Sets c (told_live c h) h None
live_sets c h q =
    idle_by_hash (told_live c h) q
    ∙ ap (λ k. if k == 0 then note_at c q else None) (live_by_hash c h q)
    ∙ elim (is_hash h q) as (λ b. (if live_count c q + (if b then 1 else 0) == 0 then note_at c q else None) ≡ cond b None (idle_since c q)) [
      | true ↦ ap (λ b. if b then note_at c q else None) (more_is_some (live_count c q))
      | false ↦ ap (λ k. if k == 0 then note_at c q else None) (let same : live_count c q + 0 ≡ live_count c q = omega arith in same) ∙ sym (idle_by_hash c q)
    ]

pub deleted_sets : (c : Contents) (h : Hash32) → IsInOrder c → Sets c (deleted c h) h None
deleted_sets c h order q =
    idle_by_hash (deleted c h) q
    ∙ ap (λ o. if live_count c q == 0 then o else None) (lookup_removed h q c.notes order.notes)
    ∙ elim (is_hash h q) as (λ b. (if live_count c q == 0 then (if b then None else note_at c q) else None) ≡ cond b None (idle_since c q)) [
      | true ↦ none_either (live_count c q == 0)
      | false ↦ sym (idle_by_hash c q)
    ]

pub live_is_not_idle : (c : Contents) (h : Hash32) → 1 ≤ live_count c h → idle_since c h ≡ None
live_is_not_idle c h some =
    let no : (live_count c h == 0) ≡ false = grind (arith, some) in
    idle_by_hash c h ∙ ap (λ b. if b then note_at c h else None) no

-- a count that isn't 1, and isn't 0
pub two_or_more : (k : ℕ) → 1 ≤ k → (k == 1) ≡ false → 2 ≤ k
two_or_more zero o t = absurd (omega (arith, o))
two_or_more (suc zero) o t = cc
two_or_more (suc (suc k)) o t = omega arith

pub last_sets : (c : Contents) (h : Hash32) (now : ℕ) → live_count c h ≡ 1 → Sets c (told_dead c h now) h (Some now)
last_sets c h now last q =
    idle_by_hash (told_dead c h now) q
    ∙ (λ i. if dead_by_hash c h q i == 0 then note_by_hash c h q now i else None)
    ∙ ap (λ k. if live_count c q - (if is_hash h q then 1 else 0) == 0 then (if (k == 1) && is_hash h q then Some now else note_at c q) else None) last
    ∙ elim (is_hash h q) as (λ b. is_hash h q ≡ b → (if live_count c q - (if b then 1 else 0) == 0 then (if b then Some now else note_at c q) else None) ≡ cond b (Some now) (idle_since c q)) [
      | true ↦ λ t.
          let one : live_count c q ≡ 1 = ap (live_count c) (sym (same_hash h q t)) ∙ last in
          ap (λ k. if k - 1 == 0 then Some now else None) one
      | false ↦ λ t. ap (λ k. if k == 0 then note_at c q else None) (let same : live_count c q - 0 ≡ live_count c q = omega arith in same) ∙ sym (idle_by_hash c q)
    ] refl

pub other_stays : (c : Contents) (h : Hash32) (now : ℕ) → 2 ≤ live_count c h → (q : Hash32) → idle_since (told_dead c h now) q ≡ idle_since c q
other_stays c h now more q =
    let no : (live_count c h == 1) ≡ false = grind (arith, more) in
    idle_by_hash (told_dead c h now) q
    ∙ (λ i. if dead_by_hash c h q i == 0 then note_by_hash c h q now i else None)
    ∙ ap (λ b. if live_count c q - (if is_hash h q then 1 else 0) == 0 then (if b && is_hash h q then Some now else note_at c q) else None) no
    ∙ elim (is_hash h q) as (λ b. is_hash h q ≡ b → (if live_count c q - (if b then 1 else 0) == 0 then note_at c q else None) ≡ (if live_count c q == 0 then note_at c q else None)) [
      | true ↦ λ t.
          let many : 2 ≤ live_count c q = rw (same_hash h q t) at more in
          let left : (live_count c q - 1 == 0) ≡ false = grind (arith, many) in
          let some : (live_count c q == 0) ≡ false = grind (arith, many) in
          (λ i. if left i then note_at c q else None) ∙ sym (λ i. if some i then note_at c q else None)
      | false ↦ λ t. ap (λ k. if k == 0 then note_at c q else None) (let same : live_count c q - 0 ≡ live_count c q = omega arith in same)
    ] refl
    ∙ sym (idle_by_hash c q)

pub put_stays : (c : Contents) (h : Hash32) (bytes : List ℕ) (q : Hash32) → idle_since (put c h bytes) q ≡ idle_since c q
put_stays c h bytes q =
    elim (is_some (block_at c h)) as (λ b. idle_since (if b then c else record c { blocks = insert_entry hash_cmp c.blocks h bytes }) q ≡ idle_since c q) [ true ↦ refl | false ↦ refl ]
