-- Laws that impls cite; what is defined here serves their proofs alone.
-- What the schema keeps.
use Rattle.std.proofs.Common.{◌≡◌, ℕ, true, ◌⊎◌, inl, inr, List, ◌++◌, Some, None, refl, sym, ap, ◌∙◌, lit≤}
use Rattle.std.specs.Prelude.{◌&&◌}
use Rattle.std.specs.declared.cmp.Ordering.{Ordering}
use Rattle.std.specs.declared.cmp.Ordering.TheVariants.{Less, Equal, Greater}
use Rattle.blake2_hash.specs.Blake2b.{blake2b}
use Rattle.blake2_hash.specs.DigestLaws.{digest_length, digest_first}
use Rattle.crdt_core.specs.EntryLaws.{and_parts}
use Rattle.k2v_rows.specs.declared.k2v_row.K2vRow.{K2vRow}
use Rattle.k2v_rows.specs.Row.{item_key, item_cmp, row_join, ItemKey}
use Rattle.row_codec.specs.Reads.{are_bytes}
use Rattle.row_codec.specs.Range.{is_hash}
use Rattle.row_codec.specs.NumberLaws.{block_length, field_reads, fronts, some_is}
use Rattle.row_codec.specs.Reading.{field_at}
use Rattle.row_codec.specs.Spelling.{field}
use Rattle.table_schema.specs.Laws.{Same, Laws}
use Rattle.k2v_rows.specs.Reading.{spelling}
use Rattle.k2v_rows.specs.ReadingLaws.{reads_back, read_takes}
use Rattle.k2v_rows.specs.Range.{in_range}
use Rattle.k2v_schema.specs.Schema.{is_proper, words}

-- ---- keys

-- one row key has one partition key and one sort key
same_fields : (a b : K2vRow) → are_bytes a.pk ≡ true → are_bytes b.pk ≡ true → field a.pk ++ a.sk ≡ field b.pk ++ b.sk → ◌≡◌ {A = List ℕ × List ℕ} (a.pk, a.sk) (b.pk, b.sk)
same_fields a b p q e = some_is _ _ (sym (field_reads.again a.pk a.sk p a.short) ∙ (ap field_at e ∙ field_reads.again b.pk b.sk q b.short))

join_by : (a b : K2vRow) (r : Ordering) → item_cmp (item_key a) (item_key b) ≡ r → (item_key (row_join a b) ≡ item_key a) ⊎ (item_key (row_join a b) ≡ item_key b)
join_by a b Less e = rw e (inr refl)
join_by a b Equal e = rw e (inl refl)
join_by a b Greater e = rw e (inl refl)

module _ (a b : K2vRow) (h : Same words a b) where
  same_parts : (a.bucket.0 ≡ b.bucket.0) × (field a.pk ++ a.sk ≡ field b.pk ++ b.sk)
  same_parts = fronts a.bucket.0 b.bucket.0 (field a.pk ++ a.sk) (field b.pk ++ b.sk) 32
      (block_length 32 a.bucket.0 (and_parts (is_hash a.bucket) (are_bytes a.pk) h.first_proper).0)
      (block_length 32 b.bucket.0 (and_parts (is_hash b.bucket) (are_bytes b.pk) h.second_proper).0)
      h.key

  pub same_item : item_key a ≡ item_key b
  same_item =
      let fields = same_fields a b (and_parts (is_hash a.bucket) (are_bytes a.pk) h.first_proper).1 (and_parts (is_hash b.bucket) (are_bytes b.pk) h.second_proper).1 same_parts.1 in
      λ i. (record { 0 = same_parts.0 i }, fields i)

  joined_item : item_key (row_join a b) ≡ item_key a
  joined_item = elim (join_by a b (item_cmp (item_key a) (item_key b)) refl) [ inl e ↦ e | inr e ↦ e ∙ sym same_item ]

-- what a row's key, position and being proper are made of
abbrev bytes_of : ItemKey → List ℕ
bytes_of k = k.0.0 ++ (field k.1.0 ++ k.1.1)

abbrev place_of : ItemKey → List ℕ
place_of k = blake2b 32 (k.0.0 ++ k.1.0)

spelled_proper : (r : K2vRow) (bytes : List ℕ) → spelling r ≡ Some bytes → is_proper r ≡ true
spelled_proper r bytes e =
    let fits : in_range r ≡ true = (read_takes bytes r ((reads_back r bytes).1 e)).1 in
    let first = and_parts (is_hash r.bucket) _ fits in
    let second = and_parts (are_bytes r.pk) _ first.1 in
    rw (first.0, second.0) refl

no_block : {A : Type 0} (hash : List ℕ) → None ≡ Some hash → A
no_block hash e = absurd cc

pub schema_laws : Laws row_join words
schema_laws = record {
  reads_back = reads_back;
  spelled_is_proper = spelled_proper;
  table_is_first_to_third = λ r h. (lit≤ tt, lit≤ tt);
  position_is_32_bytes = λ r h. digest_length (r.bucket.0 ++ r.pk);
  partition_is_byte = λ r h. digest_first (r.bucket.0 ++ r.pk);
  one_position = λ a b h. ap place_of (same_item a b h);
  joined_is_proper = λ a b h. ap (λ (k : ItemKey). is_hash k.0 && are_bytes k.1.0) (joined_item a b h) ∙ h.first_proper;
  joined_table = λ a b h. refl;
  joined_key = λ a b h. ap bytes_of (joined_item a b h);
  joined_block = λ a b hash h e. no_block hash e;
  triggered_has_no_block = λ old new r c. refl;
  marked_is_object = λ r v e. refl;
  marked_has_no_block = λ r v e. refl;
}
