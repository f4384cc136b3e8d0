-- What each change of a map's entries makes of the contents.
use Rattle.std.proofs.Common.{◌≡◌, ℕ, suc, ◌+◌, ◌-◌, ◌≤◌, true, false, List, Option, Some, None, refl, sym, ap, ◌∙◌, add-one, arith}
use Rattle.std.specs.Prelude.{◌==◌, option_map, unwrap_or, is_some, IsTrue}
use Rattle.std.specs.Map.{lookup, remove_entry, set_value}
use Rattle.std.specs.BTreeMap.{insert_entry}
use Rattle.std.proofs.lemmas.Map.{none_passes_from_lookup}
use Rattle.std.proofs.lemmas.Map.Made.{lookup-map_values}
use Rattle.blake2_hash.specs.declared.digest.Hash32.{Hash32}
use Rattle.block_store.specs.declared.shelf.Kept.{Kept}
use Rattle.blake2_hash.specs.Hash.{hash_cmp, is_hash}
use Rattle.block_store.specs.Contents.{put, block_at, live_count, told_live, told_dead, deleted}
use Rattle.block_store.specs.Shelf.{Entries, contents_of, blocks_of}
use Rattle.block_store.proofs.Showing.{Sorted, count_shown, blocks_inserted, live_inserted, notes_inserted, blocks_same, notes_same, counted_up, counted_down, noted, blocks_removed, live_removed, notes_removed}

pub block_shown : (h : Hash32) (es : Entries) → block_at (contents_of es) h ≡ option_map (λ k. k.bytes) (lookup (is_hash h) es)
block_shown h es = lookup-map_values (λ (k : Kept). k.bytes) (is_hash h) es

pub put_there : (h : Hash32) (bytes : List ℕ) (es : Entries) → is_some (lookup (is_hash h) es) ≡ true → contents_of es ≡ put (contents_of es) h bytes
put_there h bytes es there =
    elim (lookup (is_hash h) es) as (λ o. is_some o ≡ true → block_at (contents_of es) h ≡ option_map (λ k. k.bytes) o → contents_of es ≡ put (contents_of es) h bytes) [
      | None ↦ λ t b. cc
      | Some v ↦ λ t b. rw b refl
    ] there (block_shown h es)

none_from : {X : Type 0} (o : Option X) → is_some o ≡ false → o ≡ None
none_from None e = refl
none_from (Some x) e = cc

pub put_new : (h : Hash32) (bytes : List ℕ) (es : Entries) → is_some (lookup (is_hash h) es) ≡ false → contents_of (insert_entry hash_cmp es h (record { bytes = bytes; count = 0; note = None })) ≡ put (contents_of es) h bytes
put_new h bytes es gone =
    let absent = none_from (lookup (is_hash h) es) gone in
    let none = none_passes_from_lookup (is_hash h) es absent in
    let no_block : block_at (contents_of es) h ≡ None = block_shown h es ∙ ap (option_map (λ k. k.bytes)) absent in
    let made : contents_of (insert_entry hash_cmp es h (record { bytes = bytes; count = 0; note = None })) ≡ record (contents_of es) { blocks = insert_entry hash_cmp (blocks_of es) h bytes } =
    λ i. record {
      blocks = blocks_inserted h (record { bytes = bytes; count = 0; note = None }) es i;
      live = live_inserted h bytes es none i;
      notes = notes_inserted h bytes es none i;
    } in
    made ∙ rw no_block refl

pub count_found : (h : Hash32) (v : Kept) (es : Entries) → Sorted es → lookup (is_hash h) es ≡ Some v → live_count (contents_of es) h ≡ v.count
count_found h v es s l = count_shown h es s ∙ ap (λ o. unwrap_or (option_map (λ k. k.count) o) 0) l

pub count_absent : (h : Hash32) (es : Entries) → Sorted es → lookup (is_hash h) es ≡ None → live_count (contents_of es) h ≡ 0
count_absent h es s l = count_shown h es s ∙ ap (λ o. unwrap_or (option_map (λ k. k.count) o) 0) l

-- a block that is there has an entry
pub no_block : (h : Hash32) (es : Entries) → lookup (is_hash h) es ≡ None → IsTrue (is_some (block_at (contents_of es) h)) → ⊥
no_block h es absent there =
    let no : IsTrue false = rw (block_shown h es, absent) at there in cc

pub live_told : (h : Hash32) (v : Kept) (es : Entries) → Sorted es → lookup (is_hash h) es ≡ Some v → contents_of (set_value (is_hash h) es (record { bytes = v.bytes; count = v.count + 1; note = v.note })) ≡ told_live (contents_of es) h
live_told h v es s l = λ i. record {
  blocks = blocks_same (is_hash h) v (record { bytes = v.bytes; count = v.count + 1; note = v.note }) es l refl i;
  live = counted_up h v (record { bytes = v.bytes; count = v.count + 1; note = v.note }) es s l (add-one v.count) i;
  notes = notes_same (is_hash h) v (record { bytes = v.bytes; count = v.count + 1; note = v.note }) es l refl i;
}

pub last_dead : (h : Hash32) (now : ℕ) (v : Kept) (es : Entries) → Sorted es → lookup (is_hash h) es ≡ Some v → 1 ≤ v.count → v.count - 1 ≡ 0 → contents_of (set_value (is_hash h) es (record { bytes = v.bytes; count = v.count - 1; note = Some now })) ≡ told_dead (contents_of es) h now
last_dead h now v es s l some last =
    let w : Kept = record { bytes = v.bytes; count = v.count - 1; note = Some now } in
    let less : v.count ≡ suc (v.count - 1) = omega arith in
    let one : live_count (contents_of es) h ≡ 1 = count_found h v es s l ∙ omega arith in
    let made : contents_of (set_value (is_hash h) es w) ≡ record (contents_of es) { live = _; notes = _ } =
    λ i. record {
      blocks = blocks_same (is_hash h) v w es l refl i;
      live = counted_down h v w es l less i;
      notes = noted h now v w es s l refl i;
    } in
    made ∙ rw one refl

pub other_dead : (h : Hash32) (now : ℕ) (v : Kept) (es : Entries) → Sorted es → lookup (is_hash h) es ≡ Some v → 1 ≤ v.count → 1 ≤ v.count - 1 → contents_of (set_value (is_hash h) es (record { bytes = v.bytes; count = v.count - 1; note = v.note })) ≡ told_dead (contents_of es) h now
other_dead h now v es s l some more =
    let w : Kept = record { bytes = v.bytes; count = v.count - 1; note = v.note } in
    let less : v.count ≡ suc (v.count - 1) = omega arith in
    let not_one : (live_count (contents_of es) h == 1) ≡ false = rw (count_found h v es s l, less) (grind arith) in
    let made : contents_of (set_value (is_hash h) es w) ≡ record (contents_of es) { live = _ } =
    λ i. record {
      blocks = blocks_same (is_hash h) v w es l refl i;
      live = counted_down h v w es l less i;
      notes = notes_same (is_hash h) v w es l refl i;
    } in
    made ∙ rw not_one refl

pub block_gone : (h : Hash32) (es : Entries) → Sorted es → live_count (contents_of es) h ≡ 0 → contents_of (remove_entry (is_hash h) es) ≡ deleted (contents_of es) h
block_gone h es s unused = λ i. record {
  blocks = blocks_removed (is_hash h) es i;
  live = live_removed (is_hash h) es (sym (count_shown h es s) ∙ unused) i;
  notes = notes_removed h es s i;
}
