-- What the entries of a map show of the contents for which they stand.
use Rattle.std.proofs.Common.{◌≡◌, ℕ, zero, suc, ◌+◌, Bool, true, false, cond, List, [], ◌∷◌, ◌++◌, Option, Some, None, replicate, refl, sym, ap, ◌∙◌, arith}
use Rattle.std.specs.Prelude.{count_by, ◌==◌, option_map, unwrap_or, is_some}
use Rattle.std.specs.List.{AllByRecursion, filter}
use Rattle.std.specs.List.Sorted.{IsStrictlySortedBy}
use Rattle.std.specs.Map.{lookup, remove_entry, set_value, keys_of}
use Rattle.std.specs.Ordering.{is_eq, match_ordering}
use Rattle.std.specs.Cmp.{tied_itself, eq_by_cmp_equiv, Equal-is}
use Rattle.std.specs.declared.cmp.Ordering.TheVariants.{Less, Equal, Greater}
use Rattle.std.specs.BTreeMap.{insert_entry}
use Rattle.std.proofs.lemmas.Map.{NonePasses, lookup-none}
use Rattle.std.proofs.lemmas.Map.Entries.{none_past_head, none_below_head}
use Rattle.std.proofs.lemmas.Map.Keys.{sorted_head, sorted_tail, IsDistinct-from_sorted}
use Rattle.std.proofs.lemmas.List.Sums.{sum_by-append}
use Rattle.std.proofs.lemmas.List.Folds.{sum_by-replicate}
use Rattle.std.proofs.lemmas.Option.{same_Some}
use Rattle.blake2_hash.specs.declared.digest.Hash32.{Hash32}
use Rattle.block_store.specs.declared.shelf.Kept.{Kept}
use Rattle.blake2_hash.specs.Hash.{hash_cmp, is_hash}
use Rattle.blake2_hash.specs.HashLaws.{hash_total, hash_identical}
use Rattle.block_store.specs.Contents.{placed, without}
use Rattle.block_store.specs.Shelf.{Entries, blocks_of, live_of, notes_of, note_before}

abbrev pub Sorted : Entries → Type 0
Sorted es = IsStrictlySortedBy hash_cmp (keys_of es)

-- h is below each key
abbrev pub Above : Hash32 → Entries → Type 0
Above h es = AllByRecursion (λ k. hash_cmp h k ≡ Less) (keys_of es)

-- the count of the block with the hash h, 0 where there is none
abbrev pub count_at : Hash32 → Entries → ℕ
count_at h es = unwrap_or (option_map (λ k. k.count) (lookup (is_hash h) es)) 0

pub same_hash : (h k : Hash32) → is_hash h k ≡ true → h ≡ k
same_hash h k e = hash_identical h k ((Equal-is (hash_cmp h k)).0 e)

-- the other way round
pub less_back : (h k : Hash32) → hash_cmp h k ≡ Greater → hash_cmp k h ≡ Less
less_back h k e = rw (hash_total.antisymm k h, e) refl

greater_back : (h k : Hash32) → hash_cmp h k ≡ Less → hash_cmp k h ≡ Greater
greater_back h k e = rw (hash_total.antisymm k h, e) refl

-- ---- counts

-- 1 where the hashes are the same
abbrev pub one_at : Hash32 → Hash32 → ℕ
one_at h k = cond (is_hash h k) 1 0

count_past : (h : Hash32) (e : Hash32 × Kept) (es : Entries) → is_hash h e.0 ≡ false → count_by (is_hash h) (live_of (e ∷ es)) ≡ count_by (is_hash h) (live_of es)
count_past h e es t =
    sum_by-append (one_at h) (replicate e.1.count e.0) (live_of es)
    ∙ rw (sum_by-replicate (one_at h) e.1.count e.0, t) (omega arith)

count_here : (h : Hash32) (e : Hash32 × Kept) (es : Entries) → is_hash h e.0 ≡ true → count_by (is_hash h) (live_of (e ∷ es)) ≡ e.1.count + count_by (is_hash h) (live_of es)
count_here h e es t =
    sum_by-append (one_at h) (replicate e.1.count e.0) (live_of es)
    ∙ rw (sum_by-replicate (one_at h) e.1.count e.0, t) (omega arith)

count_none : (h : Hash32) (es : Entries) → NonePasses (is_hash h) es → count_by (is_hash h) (live_of es) ≡ 0
count_none h [] n = refl
count_none h (e ∷ es) n = count_past h e es n.0 ∙ count_none h es n.1

pub count_shown : (h : Hash32) (es : Entries) → Sorted es → count_by (is_hash h) (live_of es) ≡ count_at h es
count_shown h [] s = refl
count_shown h (e ∷ es) s =
    elim (is_hash h e.0) as (λ b. is_hash h e.0 ≡ b → count_by (is_hash h) (live_of (e ∷ es)) ≡ unwrap_or (option_map (λ k. k.count) (cond b (Some e.1) (lookup (is_hash h) es))) 0) [
      | true ↦ λ t.
          let rest = none_past_head (eq_by_cmp_equiv hash_total) h e es (IsDistinct-from_sorted hash_cmp (keys_of (e ∷ es)) s) t in
          count_here h e es t ∙ rw (count_none h es rest) (omega arith)
      | false ↦ λ t. count_past h e es t ∙ count_shown h es (sorted_tail hash_cmp e.0 (keys_of es) s)
    ] refl

-- ---- a block that is put

abbrev unused : List ℕ → Kept
unused bytes = record { bytes = bytes; count = 0; note = None }

pub blocks_inserted : (h : Hash32) (k : Kept) (es : Entries) → blocks_of (insert_entry hash_cmp es h k) ≡ insert_entry hash_cmp (blocks_of es) h k.bytes
blocks_inserted h k [] = refl
blocks_inserted h k (e ∷ es) =
    elim (hash_cmp h e.0) as (λ r. blocks_of (match_ordering r ((h, k) ∷ e ∷ es) ((e.0, k) ∷ es) (e ∷ insert_entry hash_cmp es h k)) ≡ match_ordering r ((h, k.bytes) ∷ blocks_of (e ∷ es)) ((e.0, k.bytes) ∷ blocks_of es) ((e.0, e.1.bytes) ∷ insert_entry hash_cmp (blocks_of es) h k.bytes)) [
      | Less ↦ refl
      | Equal ↦ refl
      | Greater ↦ ap (λ t. (e.0, e.1.bytes) ∷ t) (blocks_inserted h k es)
    ]

pub live_inserted : (h : Hash32) (bytes : List ℕ) (es : Entries) → NonePasses (is_hash h) es → live_of (insert_entry hash_cmp es h (unused bytes)) ≡ live_of es
live_inserted h bytes [] n = refl
live_inserted h bytes (e ∷ es) n =
    elim (hash_cmp h e.0) as (λ r. is_eq r ≡ false → live_of (match_ordering r ((h, unused bytes) ∷ e ∷ es) ((e.0, unused bytes) ∷ es) (e ∷ insert_entry hash_cmp es h (unused bytes))) ≡ live_of (e ∷ es)) [
      | Less ↦ λ t. refl
      | Equal ↦ λ t. cc
      | Greater ↦ λ t. ap (λ ks. replicate e.1.count e.0 ++ ks) (live_inserted h bytes es n.1)
    ] n.0

pub notes_inserted : (h : Hash32) (bytes : List ℕ) (es : Entries) → NonePasses (is_hash h) es → notes_of (insert_entry hash_cmp es h (unused bytes)) ≡ notes_of es
notes_inserted h bytes [] n = refl
notes_inserted h bytes (e ∷ es) n =
    elim (hash_cmp h e.0) as (λ r. is_eq r ≡ false → notes_of (match_ordering r ((h, unused bytes) ∷ e ∷ es) ((e.0, unused bytes) ∷ es) (e ∷ insert_entry hash_cmp es h (unused bytes))) ≡ notes_of (e ∷ es)) [
      | Less ↦ λ t. refl
      | Equal ↦ λ t. cc
      | Greater ↦ λ t. ap (note_before e.0 e.1.note) (notes_inserted h bytes es n.1)
    ] n.0

-- ---- a reference more, or less

pub blocks_same : (test : Hash32 → Bool) (v w : Kept) (es : Entries) → lookup test es ≡ Some v → w.bytes ≡ v.bytes → blocks_of (set_value test es w) ≡ blocks_of es
blocks_same test v w [] l e = refl
blocks_same test v w (x ∷ es) l e =
    elim (test x.0) as (λ b. cond b (Some x.1) (lookup test es) ≡ Some v → blocks_of (cond b ((x.0, w) ∷ es) (x ∷ set_value test es w)) ≡ blocks_of (x ∷ es)) [
      | true ↦ λ t. ap (λ bytes. (x.0, bytes) ∷ blocks_of es) (e ∙ ap (λ k. k.bytes) (sym (same_Some x.1 v t)))
      | false ↦ λ t. ap (λ bs. (x.0, x.1.bytes) ∷ bs) (blocks_same test v w es t e)
    ] l

pub notes_same : (test : Hash32 → Bool) (v w : Kept) (es : Entries) → lookup test es ≡ Some v → w.note ≡ v.note → notes_of (set_value test es w) ≡ notes_of es
notes_same test v w [] l e = refl
notes_same test v w (x ∷ es) l e =
    elim (test x.0) as (λ b. cond b (Some x.1) (lookup test es) ≡ Some v → notes_of (cond b ((x.0, w) ∷ es) (x ∷ set_value test es w)) ≡ notes_of (x ∷ es)) [
      | true ↦ λ t. ap (λ n. note_before x.0 n (notes_of es)) (e ∙ ap (λ k. k.note) (sym (same_Some x.1 v t)))
      | false ↦ λ t. ap (note_before x.0 x.1.note) (notes_same test v w es t e)
    ] l

placed_past : (h k : Hash32) (n : ℕ) (ks : List Hash32) → hash_cmp k h ≡ Less → placed h (replicate n k ++ ks) ≡ replicate n k ++ placed h ks
placed_past h k zero ks l = refl
placed_past h k (suc n) ks l = rw l (ap (λ t. k ∷ t) (placed_past h k n ks l))

placed_first : (h : Hash32) (es : Entries) → Above h es → placed h (live_of es) ≡ h ∷ live_of es
placed_first h [] a = refl
placed_first h (e ∷ es) a =
    elim e.1.count as (λ n. placed h (replicate n e.0 ++ live_of es) ≡ h ∷ (replicate n e.0 ++ live_of es)) [
      | zero ↦ placed_first h es a.1
      | suc n ↦ rw (greater_back h e.0 a.0) refl
    ]

-- at its own copies, before the hashes above it
placed_here : (h : Hash32) (n : ℕ) (es : Entries) → Above h es → placed h (replicate n h ++ live_of es) ≡ h ∷ (replicate n h ++ live_of es)
placed_here h zero es a = placed_first h es a
placed_here h (suc n) es a = rw (tied_itself hash_total h) refl

absent_below : {P : Type 0} (h : Hash32) (v : Kept) (e : Hash32 × Kept) (es : Entries) → Sorted (e ∷ es) → hash_cmp h e.0 ≡ Less → lookup (is_hash h) (e ∷ es) ≡ Some v → P
absent_below h v e es s t l =
    let none = lookup-none (is_hash h) (e ∷ es) (none_below_head hash_total h e es s t) in
    let no : None ≡ Some v = sym none ∙ l in
    absurd (let f : false ≡ true = ap is_some no in cc)

pub counted_up : (h : Hash32) (v w : Kept) (es : Entries) → Sorted es → lookup (is_hash h) es ≡ Some v → w.count ≡ suc v.count → live_of (set_value (is_hash h) es w) ≡ placed h (live_of es)
counted_up h v w [] s l e = absurd (let f : false ≡ true = ap is_some l in cc)
counted_up h v w (x ∷ es) s l e =
    elim (hash_cmp h x.0) as (λ r. hash_cmp h x.0 ≡ r → cond (is_eq r) (Some x.1) (lookup (is_hash h) es) ≡ Some v → live_of (cond (is_eq r) ((x.0, w) ∷ es) (x ∷ set_value (is_hash h) es w)) ≡ placed h (live_of (x ∷ es))) [
      | Less ↦ λ t m. absent_below h v x es s t l
      | Equal ↦ λ t m.
          let same : h ≡ x.0 = hash_identical h x.0 t in
          let above = sorted_head hash_cmp x.0 (keys_of es) s in
          rw (e, ← same_Some x.1 v m, same) (sym (placed_here x.0 x.1.count es above))
      | Greater ↦ λ t m.
          ap (λ ks. replicate x.1.count x.0 ++ ks) (counted_up h v w es (sorted_tail hash_cmp x.0 (keys_of es) s) m e)
          ∙ sym (placed_past h x.0 x.1.count (live_of es) (less_back h x.0 t))
    ] refl l

without_past : (h k : Hash32) (n : ℕ) (ks : List Hash32) → is_hash h k ≡ false → without h (replicate n k ++ ks) ≡ replicate n k ++ without h ks
without_past h k zero ks t = refl
without_past h k (suc n) ks t = rw t (ap (λ r. k ∷ r) (without_past h k n ks t))

pub counted_down : (h : Hash32) (v w : Kept) (es : Entries) → lookup (is_hash h) es ≡ Some v → v.count ≡ suc w.count → live_of (set_value (is_hash h) es w) ≡ without h (live_of es)
counted_down h v w [] l e = absurd (let f : false ≡ true = ap is_some l in cc)
counted_down h v w (x ∷ es) l e =
    elim (is_hash h x.0) as (λ b. is_hash h x.0 ≡ b → cond b (Some x.1) (lookup (is_hash h) es) ≡ Some v → live_of (cond b ((x.0, w) ∷ es) (x ∷ set_value (is_hash h) es w)) ≡ without h (live_of (x ∷ es))) [
      | true ↦ λ t m.
          let count : x.1.count ≡ suc w.count = ap (λ k. k.count) (same_Some x.1 v m) ∙ e in
          rw (count, t) refl
      | false ↦ λ t m.
          ap (λ ks. replicate x.1.count x.0 ++ ks) (counted_down h v w es m e)
          ∙ sym (without_past h x.0 x.1.count (live_of es) t)
    ] refl l

noted_first : (h : Hash32) (now : ℕ) (es : Entries) → Above h es → insert_entry hash_cmp (notes_of es) h now ≡ (h, now) ∷ notes_of es
noted_first h now [] a = refl
noted_first h now (e ∷ es) a =
    elim e.1.note as (λ n. insert_entry hash_cmp (note_before e.0 n (notes_of es)) h now ≡ (h, now) ∷ note_before e.0 n (notes_of es)) [
      | None ↦ noted_first h now es a.1
      | Some t ↦ rw a.0 refl
    ]

noted_here : (h : Hash32) (now : ℕ) (n : Option ℕ) (es : Entries) → Above h es → insert_entry hash_cmp (note_before h n (notes_of es)) h now ≡ (h, now) ∷ notes_of es
noted_here h now None es a = noted_first h now es a
noted_here h now (Some t) es a = rw (tied_itself hash_total h) refl

noted_past : (h k : Hash32) (now : ℕ) (n : Option ℕ) (ns : List (Hash32 × ℕ)) → hash_cmp h k ≡ Greater → insert_entry hash_cmp (note_before k n ns) h now ≡ note_before k n (insert_entry hash_cmp ns h now)
noted_past h k now None ns t = refl
noted_past h k now (Some m) ns t = rw t refl

pub noted : (h : Hash32) (now : ℕ) (v w : Kept) (es : Entries) → Sorted es → lookup (is_hash h) es ≡ Some v → w.note ≡ Some now → notes_of (set_value (is_hash h) es w) ≡ insert_entry hash_cmp (notes_of es) h now
noted h now v w [] s l e = absurd (let f : false ≡ true = ap is_some l in cc)
noted h now v w (x ∷ es) s l e =
    elim (hash_cmp h x.0) as (λ r. hash_cmp h x.0 ≡ r → cond (is_eq r) (Some x.1) (lookup (is_hash h) es) ≡ Some v → notes_of (cond (is_eq r) ((x.0, w) ∷ es) (x ∷ set_value (is_hash h) es w)) ≡ insert_entry hash_cmp (notes_of (x ∷ es)) h now) [
      | Less ↦ λ t m. absent_below h v x es s t l
      | Equal ↦ λ t m.
          let same : h ≡ x.0 = hash_identical h x.0 t in
          let above = sorted_head hash_cmp x.0 (keys_of es) s in
          rw (e, same) (sym (noted_here x.0 now x.1.note es above))
      | Greater ↦ λ t m.
          ap (note_before x.0 x.1.note) (noted h now v w es (sorted_tail hash_cmp x.0 (keys_of es) s) m e)
          ∙ sym (noted_past h x.0 now x.1.note (notes_of es) t)
    ] refl l

-- ---- a block that goes

pub blocks_removed : (test : Hash32 → Bool) (es : Entries) → blocks_of (remove_entry test es) ≡ remove_entry test (blocks_of es)
blocks_removed test [] = refl
blocks_removed test (e ∷ es) =
    elim (test e.0) as (λ b. blocks_of (cond b es (e ∷ remove_entry test es)) ≡ cond b (blocks_of es) ((e.0, e.1.bytes) ∷ remove_entry test (blocks_of es))) [
      | true ↦ refl
      | false ↦ ap (λ bs. (e.0, e.1.bytes) ∷ bs) (blocks_removed test es)
    ]

pub live_removed : (test : Hash32 → Bool) (es : Entries) → unwrap_or (option_map (λ (k : Kept). k.count) (lookup test es)) 0 ≡ 0 → live_of (remove_entry test es) ≡ live_of es
live_removed test [] z = refl
live_removed test (e ∷ es) z =
    elim (test e.0) as (λ b. unwrap_or (option_map (λ (k : Kept). k.count) (cond b (Some e.1) (lookup test es))) 0 ≡ 0 → live_of (cond b es (e ∷ remove_entry test es)) ≡ live_of (e ∷ es)) [
      | true ↦ λ n. rw n refl
      | false ↦ λ n. ap (λ ks. replicate e.1.count e.0 ++ ks) (live_removed test es n)
    ] z

none_noted : (test : Hash32 → Bool) (es : Entries) → NonePasses test es → remove_entry test (notes_of es) ≡ notes_of es
none_noted test [] n = refl
none_noted test (e ∷ es) n =
    elim e.1.note as (λ m. remove_entry test (note_before e.0 m (notes_of es)) ≡ note_before e.0 m (notes_of es)) [
      | None ↦ none_noted test es n.1
      | Some t ↦ rw n.0 (ap (λ ns. (e.0, t) ∷ ns) (none_noted test es n.1))
    ]

note_removed : (test : Hash32 → Bool) (k : Hash32) (n : Option ℕ) (es : Entries) → test k ≡ true → NonePasses test es → notes_of es ≡ remove_entry test (note_before k n (notes_of es))
note_removed test k None es t none = sym (none_noted test es none)
note_removed test k (Some m) es t none = rw t refl

note_kept : (test : Hash32 → Bool) (k : Hash32) (n : Option ℕ) (ns : List (Hash32 × ℕ)) → test k ≡ false → remove_entry test (note_before k n ns) ≡ note_before k n (remove_entry test ns)
note_kept test k None ns t = refl
note_kept test k (Some m) ns t = rw t refl

pub notes_removed : (h : Hash32) (es : Entries) → Sorted es → notes_of (remove_entry (is_hash h) es) ≡ remove_entry (is_hash h) (notes_of es)
notes_removed h [] s = refl
notes_removed h (e ∷ es) s =
    elim (is_hash h e.0) as (λ b. is_hash h e.0 ≡ b → notes_of (cond b es (e ∷ remove_entry (is_hash h) es)) ≡ remove_entry (is_hash h) (notes_of (e ∷ es))) [
      | true ↦ λ t.
          let rest = none_past_head (eq_by_cmp_equiv hash_total) h e es (IsDistinct-from_sorted hash_cmp (keys_of (e ∷ es)) s) t in
          note_removed (is_hash h) e.0 e.1.note es t rest
      | false ↦ λ t.
          ap (note_before e.0 e.1.note) (notes_removed h es (sorted_tail hash_cmp e.0 (keys_of es) s))
          ∙ sym (note_kept (is_hash h) e.0 e.1.note (notes_of es) t)
    ] refl

-- ---- the blocks that have no live reference

-- the notes of the entries whose count is 0
abbrev pub idle_of : Entries → List (Hash32 × ℕ)
idle_of [] = []
idle_of (e ∷ es) = cond (e.1.count == 0) (note_before e.0 e.1.note (idle_of es)) (idle_of es)

filter_noted : (p : Hash32 × ℕ → Bool) (b : Bool) (h : Hash32) (n : Option ℕ) (ns : List (Hash32 × ℕ)) → ((t : ℕ) → p (h, t) ≡ b) → filter p (note_before h n ns) ≡ cond b (note_before h n (filter p ns)) (filter p ns)
filter_noted p true h None ns s = refl
filter_noted p false h None ns s = refl
filter_noted p true h (Some t) ns s = rw (s t) refl
filter_noted p false h (Some t) ns s = rw (s t) refl

-- each entry's count is that of its hash in these references
abbrev Counted : List Hash32 → Entries → Type 0
Counted live es = AllByRecursion (λ (e : Hash32 × Kept). count_by (is_hash e.0) live ≡ e.1.count) es

idle_among : (live : List Hash32) (es : Entries) → Counted live es → idle_of es ≡ filter (λ n. count_by (is_hash n.0) live == 0) (notes_of es)
idle_among live [] c = refl
idle_among live (e ∷ es) c =
    ap (λ ns. cond (e.1.count == 0) (note_before e.0 e.1.note ns) ns) (idle_among live es c.1)
    ∙ sym (filter_noted (λ n. count_by (is_hash n.0) live == 0) (e.1.count == 0) e.0 e.1.note (notes_of es) (λ t. ap (λ k. k == 0) c.0))

counted_past : (e : Hash32 × Kept) (all es : Entries) → Above e.0 es → Counted (live_of all) es → Counted (live_of (e ∷ all)) es
counted_past e all [] a c = tt
counted_past e all (x ∷ es) a c =
    let apart : is_hash x.0 e.0 ≡ false = rw (greater_back e.0 x.0 a.0) refl in
    (count_past x.0 e all apart ∙ c.0, counted_past e all es a.1 c.1)

all_counted : (es : Entries) → Sorted es → Counted (live_of es) es
all_counted [] s = tt
all_counted (e ∷ es) s =
    let here : is_hash e.0 e.0 ≡ true = rw (tied_itself hash_total e.0) refl in
    let rest = none_past_head (eq_by_cmp_equiv hash_total) e.0 e es (IsDistinct-from_sorted hash_cmp (keys_of (e ∷ es)) s) here in (
      count_here e.0 e es here ∙ rw (count_none e.0 es rest) (omega arith),
      counted_past e es es (sorted_head hash_cmp e.0 (keys_of es) s) (all_counted es (sorted_tail hash_cmp e.0 (keys_of es) s)),
    )

pub idle_shown : (es : Entries) → Sorted es → idle_of es ≡ filter (λ n. count_by (is_hash n.0) (live_of es) == 0) (notes_of es)
idle_shown es s = idle_among (live_of es) es (all_counted es s)
