-- Laws that impls cite; no definition stands here.
-- The parts of rows are read as they are spelled.
use Rattle.std.proofs.Common.{◌≡◌, ℕ, zero, suc, Bool, true, List, [], ◌∷◌, ◌++◌, Option, Some, refl, ap, subst}
use Rattle.std.specs.Prelude.{◌&&◌}
use Rattle.crdt_core.specs.declared.max.Max.{Max}
use Rattle.crdt_core.specs.EntryLaws.{and_parts, and_both}
use Rattle.crdt_rows.specs.declared.body.Body.TheVariants.{Marker, Inline, Blocks}
use Rattle.crdt_rows.specs.declared.state.State.{State}
use Rattle.crdt_rows.specs.declared.state.State.TheVariants.{Uploading, Aborted, Complete}
use Rattle.row_codec.specs.Reads.{are_bytes, IsBytes, Begins, Reads}
use Rattle.row_codec.specs.Range.{is_hash, meta_in_range, state_in_range, version_in_range, part_in_range, block_in_range, is_below, is_short_meta, is_short_state}
use Rattle.row_codec.specs.Spelling.{field, meta, state, version, part, block}
use Rattle.row_codec.specs.Reading.{field_at, both_at, made_at, hash_at, version_at, part_at, block_at, max_at, meta_at, state_at}
use Rattle.row_codec.specs.NumberLaws.{bytes_reads, four_reads, eight_reads, field_reads, bind_some, some_is, byte_rest}
use Rattle.row_codec.specs.JoinedLaws.{both_reads, made_reads, counted_reads}

pub hash_reads : Reads is_hash (λ h. true) (λ h. h.0) hash_at
unfolding hash_at
hash_reads = made_reads (λ b. record { 0 = b }) (λ h. h.0) (λ h. refl) (λ b. refl) (bytes_reads 32)

pub version_reads : Reads version_in_range (λ v. true) version version_at
unfolding version_at
version_reads = made_reads (λ t. record { ts = t.0; id = t.1 }) (λ v. (v.ts, v.id)) (λ v. refl) (λ t. refl) (both_reads eight_reads eight_reads)

pub part_reads : Reads part_in_range (λ p. true) part part_at
unfolding part_at
part_reads = made_reads (λ t. record { part = t.0; offset = t.1 }) (λ p. (p.part, p.offset)) (λ p. refl) (λ t. refl) (both_reads four_reads eight_reads)

pub block_reads : Reads block_in_range (λ b. true) block block_at
unfolding block_at
block_reads = made_reads (λ t. record { hash = t.0; size = t.1 }) (λ b. (b.hash, b.size)) (λ b. refl) (λ t. refl) (both_reads hash_reads four_reads)

pub max_reads : {X : Type 0} {P : X → Bool} {short : X → Bool} {text : X → List ℕ} {x_at : List ℕ → Option (X × List ℕ)} → Reads P short text x_at → Reads (λ (m : Max X). P m.0) (λ m. short m.0) (λ m. text m.0) (max_at x_at)
unfolding max_at
max_reads a = made_reads (λ x. record { 0 = x }) (λ m. m.0) (λ m. refl) (λ x. refl) a

pub meta_reads : Reads meta_in_range is_short_meta meta meta_at
unfolding meta_at
meta_reads = made_reads (λ t. record { size = t.0; etag = t.1.0; headers = t.1.1 }) (λ m. (m.size, (m.etag, m.headers))) (λ m. refl) (λ t. refl) (both_reads eight_reads (both_reads (bytes_reads 16) (counted_reads (both_reads field_reads field_reads))))

-- ---- states

inline_reads : Reads (λ t. meta_in_range t.0 && are_bytes t.1) (λ t. is_short_meta t.0 && is_below t.1) (λ t. meta t.0 ++ field t.1) (both_at meta_at field_at)
inline_reads = both_reads meta_reads field_reads

blocks_reads : Reads (λ t. meta_in_range t.0 && is_hash t.1) (λ t. is_short_meta t.0 && true) (λ t. meta t.0 ++ t.1.0) (both_at meta_at hash_at)
blocks_reads = both_reads meta_reads hash_reads

state_takes : (bytes : List ℕ) (s : State) (rest : List ℕ) → IsBytes bytes → state_at bytes ≡ Some (s, rest) → Begins state_in_range is_short_state state bytes s rest
unfolding state_at made_at
state_takes [] s rest fits e = absurd cc
state_takes (zero ∷ bytes) s rest fits e = subst (λ (q : State × List ℕ). Begins state_in_range is_short_state state (0 ∷ bytes) q.0 q.1) (some_is (Uploading, bytes) (s, rest) e) (record { parts = refl; fits = refl; short = refl })
state_takes (suc zero ∷ bytes) s rest fits e = subst (λ (q : State × List ℕ). Begins state_in_range is_short_state state (1 ∷ bytes) q.0 q.1) (some_is (Aborted, bytes) (s, rest) e) (record { parts = refl; fits = refl; short = refl })
state_takes (suc (suc zero) ∷ bytes) s rest fits e = subst (λ (q : State × List ℕ). Begins state_in_range is_short_state state (2 ∷ bytes) q.0 q.1) (some_is (Complete Marker, bytes) (s, rest) e) (record { parts = refl; fits = refl; short = refl })
state_takes (suc (suc (suc zero)) ∷ bytes) s rest fits e =
    let b = bind_some (both_at meta_at field_at bytes) (λ x. Some (Complete (Inline x.0.0 x.0.1), x.1)) (s, rest) e in
    let t = inline_reads.takes bytes b.0.0 b.0.1 (byte_rest 3 bytes fits) b.1 in
    subst (λ (q : State × List ℕ). Begins state_in_range is_short_state state (3 ∷ bytes) q.0 q.1) (some_is _ _ b.2) (record { parts = ap (λ (y : List ℕ). 3 ∷ y) t.parts; fits = t.fits; short = t.short })
state_takes (suc (suc (suc (suc zero))) ∷ bytes) s rest fits e =
    let b = bind_some (both_at meta_at hash_at bytes) (λ x. Some (Complete (Blocks x.0.0 x.0.1), x.1)) (s, rest) e in
    let t = blocks_reads.takes bytes b.0.0 b.0.1 (byte_rest 4 bytes fits) b.1 in
    subst (λ (q : State × List ℕ). Begins state_in_range is_short_state state (4 ∷ bytes) q.0 q.1) (some_is _ _ b.2) (record { parts = ap (λ (y : List ℕ). 4 ∷ y) t.parts; fits = t.fits; short = (and_parts _ _ t.short).0 })
state_takes (suc (suc (suc (suc (suc n)))) ∷ bytes) s rest fits e = absurd cc

state_again : (s : State) (rest : List ℕ) → state_in_range s ≡ true → is_short_state s ≡ true → state_at (state s ++ rest) ≡ Some (s, rest)
unfolding state_at made_at
state_again Uploading rest proper short = refl
state_again Aborted rest proper short = refl
state_again (Complete Marker) rest proper short = refl
state_again (Complete (Inline m bytes)) rest proper short = rw (inline_reads.again (m, bytes) rest proper short) refl
state_again (Complete (Blocks m first)) rest proper short = rw (blocks_reads.again (m, first) rest proper (and_both _ _ short refl)) refl

state_bytes : (s : State) → state_in_range s ≡ true → IsBytes (state s)
state_bytes Uploading fits = refl
state_bytes Aborted fits = refl
state_bytes (Complete Marker) fits = refl
state_bytes (Complete (Inline m bytes)) fits = inline_reads.bytes (m, bytes) fits
state_bytes (Complete (Blocks m first)) fits = blocks_reads.bytes (m, first) fits

pub state_reads : Reads state_in_range is_short_state state state_at
state_reads = record { bytes = state_bytes; takes = state_takes; again = state_again }
