-- The join of two reference rows.
use Rattle.std.specs.Prelude.{ℕ}
use Rattle.std.specs.declared.cmp.Ordering.{Ordering}
use Rattle.std.specs.Ordering.{nat_cmp, ordering_then}
use Rattle.blake2_hash.specs.declared.digest.Hash32.{Hash32}
use Rattle.crdt_core.specs.Laws.{through}
use Rattle.crdt_core.specs.Lex.{lex_join}
use Rattle.crdt_core.specs.Flag.{or_join}
use Rattle.crdt_rows.specs.declared.ref_row.RefRow.{RefRow}
use Rattle.blake2_hash.specs.Hash.{hash_cmp}

-- by the block's digest, then by the version's identifier
abbrev pub ref_key_cmp : Hash32 × ℕ → Hash32 × ℕ → Ordering
ref_key_cmp a b = ordering_then (hash_cmp a.0 b.0) (nat_cmp a.1 b.1)

-- the row's key
abbrev pub ref_key : RefRow → Hash32 × ℕ
ref_key r = (r.hash, r.id)

-- the row with the greater key; under one key deleted where either is
abbrev pub ref_row_join : RefRow → RefRow → RefRow
ref_row_join = through (λ r. (ref_key r, r.deleted)) (λ t. record { hash = t.0.0; id = t.0.1; deleted = t.1 }) (lex_join ref_key_cmp or_join)
