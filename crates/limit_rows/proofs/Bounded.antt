-- Rows that fit are bounded.
use Rattle.std.specs.Prelude.{◌≡◌, ◌≤◌, ℕ, true, List, [], ◌∷◌, Some, option_map, length, map}
use Rattle.std.specs.List.{AllByRecursion}
use Rattle.std.proofs.Common.{ap, length-append, arith}
use Rattle.blake2_hash.specs.declared.digest.Hash32.{Hash32}
use Rattle.crdt_core.specs.declared.deletable.Deletable.TheVariants.{Deleted}
use Rattle.crdt_rows.specs.declared.version.Version.{Version}
use Rattle.crdt_rows.specs.declared.any_row.AnyRow.{AnyRow}
use Rattle.crdt_rows.specs.declared.any_row.AnyRow.TheVariants as rows
use Rattle.crdt_rows.specs.AnyRow.{any_join}
use Rattle.row_codec.specs.Spelling.{eight}
use Rattle.row_codec.specs.NumberLaws.{block_length}
use Rattle.row_codec.proofs.ByteOrder.{eight_length}
use Rattle.object_schema.specs.Triggers.{given_up, deleted_version, released, deleted_reference, triggered}
use Rattle.object_schema.specs.Schema.{words}
use Rattle.object_schema.specs.Laws.{schema_laws}
use Rattle.object_origins.proofs.Shown.{Facts}
use Rattle.machine_limits.specs.Bounds.{AreBounded}
use Rattle.limit_rows.specs.Fitting.{Drawn, AreWithin, RowFits, weight}
use Rattle.limit_rows.proofs.Handed.{joined_fits, called_fit, fits_rules}
use Rattle.limit_rows.proofs.Weights.{object_weight, version_weight, ref_weight, fits_spelled, merged_counts}

-- ---- rows that are called for are short

versions_small : (vs : List Version) → AllByRecursion (λ (r : AnyRow). weight r ≤ 64) (map deleted_version vs)
versions_small [] = tt
versions_small (v ∷ vs) = (let w = (version_weight v.id Deleted).1 in omega arith, versions_small vs)

references_small : (v : Drawn) (id : ℕ) (hs : List Hash32) → AllByRecursion (RowFits v) (map (deleted_reference id) hs) → AllByRecursion (λ (r : AnyRow). weight r ≤ 64) (map (deleted_reference id) hs)
references_small v id [] a = tt
references_small v id (h ∷ hs) a = (let w = ref_weight (record { hash = h; id = id; deleted = record { 0 = true } }) a.0.0 in omega arith, references_small v id hs a.1)

triggered_small : (v : Drawn) (a b : AnyRow) → AllByRecursion (RowFits v) (triggered a b) → AllByRecursion (λ (r : AnyRow). weight r ≤ 64) (triggered a b)
triggered_small v (rows.Object a) (rows.Object b) h = versions_small (given_up a b)
triggered_small v (rows.Object a) (rows.Version b) h = tt
triggered_small v (rows.Object a) (rows.Ref b) h = tt
triggered_small v (rows.Version a) (rows.Object b) h = tt
triggered_small v (rows.Version a) (rows.Version b) h = references_small v a.id (released a b) h
triggered_small v (rows.Version a) (rows.Ref b) h = tt
triggered_small v (rows.Ref a) (rows.Object b) h = tt
triggered_small v (rows.Ref a) (rows.Version b) h = tt
triggered_small v (rows.Ref a) (rows.Ref b) h = tt

-- ---- the least that a row counts

row_least : (v : Drawn) (r : AnyRow) → RowFits v r → 10 ≤ weight r
row_least v (rows.Object r) f = let w = object_weight r f.0.0 in omega arith
row_least v (rows.Version r) f = let w = (version_weight r.id r.blocks).0 in omega arith
row_least v (rows.Ref r) f = let w = ref_weight r f.0 in omega arith

-- keys are short
row_key : (v : Drawn) (r : AnyRow) → RowFits v r → length (words.key r) ≤ 200
row_key v (rows.Object r) f = (let a = length-append r.bucket.0 r.key in let b = block_length 32 r.bucket.0 f.0.0 in let c = f.0.2 in omega arith)
row_key v (rows.Version r) f = (let a = eight_length r.id in omega arith)
row_key v (rows.Ref r) f = (let a = length-append r.hash.0 (eight r.id) in let b = block_length 32 r.hash.0 f.0 in let c = eight_length r.id in omega arith)

-- a reference alone needs a block
needy_least : (v : Drawn) (r : AnyRow) (hash : List ℕ) → RowFits v r → words.live_block r ≡ Some hash → 27 ≤ weight r
needy_least v (rows.Object r) hash f e = absurd cc
needy_least v (rows.Version r) hash f e = absurd cc
needy_least v (rows.Ref r) hash f e = let w = ref_weight r f.0 in omega arith

pub rows_bounded : Facts → (t : ℕ) (v : Drawn) → AreWithin t v → AreBounded any_join words (RowFits v) weight
rows_bounded facts t v within = record {
  laws = schema_laws;
  joined = joined_fits facts t v within;
  called_for = (fits_rules facts t v within).called_for;
  counts = λ r f. ap (λ o. option_map length o) (fits_spelled t v within r f);
  least = row_least v;
  short_key = row_key v;
  with_block = needy_least v;
  merged = λ a b same p q. merged_counts facts t v within a b same p q (joined_fits facts t v within a b same p q);
  called_few = λ a b same p q. triggered_small v a (any_join a b) (called_fit facts t v within a b same p q);
}
