-- Laws that impls cite; what is defined here serves their proofs alone.
-- Rows are read as they are spelled.
use Rattle.std.proofs.Common.{◌≡◌, ℕ, zero, suc, Bool, true, false, List, [], ◌∷◌, ◌++◌, Some, refl, sym, ap, subst, ◌∙◌}
use Rattle.std.specs.Prelude.{◌↔◌}
use Rattle.crdt_core.specs.Map.{map_entries}
use Rattle.row_codec.specs.Reads.{IsBytes, Begins, Reads}
use Rattle.row_codec.specs.Spelling.{byte, field, counted}
use Rattle.row_codec.specs.Reading.{field_at, made_at}
use Rattle.row_codec.specs.NumberLaws.{byte_reads, eight_reads, field_reads, bind_some, some_is, byte_rest}
use Rattle.row_codec.specs.JoinedLaws.{both_reads, tested_reads}
use Rattle.row_codec.specs.WholeLaws.{whole_spelled, whole_takes, whole_back}
use Rattle.row_codec.specs.PartLaws.{hash_reads, max_reads}
use Rattle.row_codec.specs.RowLaws.{map_reads}
use Rattle.k2v_rows.specs.declared.value.K2vValue.{K2vValue}
use Rattle.k2v_rows.specs.declared.value.K2vValue.TheVariants.{Deleted, Value}
use Rattle.k2v_rows.specs.declared.writes.Writes.{Writes}
use Rattle.k2v_rows.specs.declared.k2v_row.K2vRow.{K2vRow}
use Rattle.k2v_rows.specs.Later.{are_later, is_short}
use Rattle.k2v_rows.specs.Values.{ValueMap}
use Rattle.k2v_rows.specs.WritesLaws.{same_writes}
use Rattle.k2v_rows.specs.RowLaws.{same_row}
use Rattle.k2v_rows.specs.Range.{value_in_range, writes_in_range, in_range, is_short_value, are_short_writes, has_bytes}
use Rattle.k2v_rows.specs.Spelling.{value, writes, spelled}
use Rattle.k2v_rows.specs.Reading.{value_at, writes_by, writes_from, writes_at, RowParts, row_by, row_from, rest_at, row_at, spelling, read}

value_takes : (bytes : List ℕ) (x : K2vValue) (rest : List ℕ) → IsBytes bytes → value_at bytes ≡ Some (x, rest) → Begins value_in_range is_short_value value bytes x rest
unfolding value_at made_at
value_takes [] x rest fits e = absurd cc
value_takes (zero ∷ bytes) x rest fits e = subst (λ (q : K2vValue × List ℕ). Begins value_in_range is_short_value value (0 ∷ bytes) q.0 q.1) (some_is (Deleted, bytes) (x, rest) e) (record { parts = refl; fits = refl; short = refl })
value_takes (suc zero ∷ bytes) x rest fits e =
    let b = bind_some (field_at bytes) (λ y. Some (Value y.0, y.1)) (x, rest) e in
    let t = field_reads.takes bytes b.0.0 b.0.1 (byte_rest 1 bytes fits) b.1 in
    subst (λ (q : K2vValue × List ℕ). Begins value_in_range is_short_value value (1 ∷ bytes) q.0 q.1) (some_is _ _ b.2) (record { parts = ap (λ (y : List ℕ). 1 ∷ y) t.parts; fits = t.fits; short = t.short })
value_takes (suc (suc n) ∷ bytes) x rest fits e = absurd cc

value_again : (x : K2vValue) (rest : List ℕ) → value_in_range x ≡ true → is_short_value x ≡ true → value_at (value x ++ rest) ≡ Some (x, rest)
unfolding value_at made_at
value_again Deleted rest fits short = refl
value_again (Value bytes) rest fits short = rw (field_reads.again bytes rest fits short) refl

value_bytes : (x : K2vValue) → value_in_range x ≡ true → IsBytes (value x)
value_bytes Deleted fits = refl
value_bytes (Value bytes) fits = field_reads.bytes bytes fits

pub value_reads : Reads value_in_range is_short_value value value_at
value_reads = record { bytes = value_bytes; takes = value_takes; again = value_again }

-- ---- the writes of a node

-- what one node's writes are made of
abbrev pub writes_parts : Writes → ℕ × ValueMap
writes_parts w = (w.discard.0, w.values)

writes_back_by : (t : ℕ × ValueMap) (b : Bool) (h : are_later t.0 (map_entries t.1) ≡ b) (w : Writes) → writes_by t b h ≡ Some w → writes_parts w ≡ t
writes_back_by t true h w e = sym (ap writes_parts (some_is _ _ e))
writes_back_by t false h w e = absurd cc

writes_there_by : (w : Writes) (b : Bool) (h : are_later w.discard.0 (map_entries w.values) ≡ b) → writes_by (writes_parts w) b h ≡ Some w
writes_there_by w true h = ap Some (same_writes _ w refl refl)
writes_there_by w false h = let no : true ≡ false = sym w.kept ∙ h in cc

pub writes_there : (w : Writes) → writes_from (writes_parts w) ≡ Some w
writes_there w = writes_there_by w (are_later w.discard.0 (map_entries w.values)) refl

writes_back : (t : ℕ × ValueMap) (w : Writes) → writes_from t ≡ Some w → writes_parts w ≡ t
writes_back t w e = writes_back_by t (are_later t.0 (map_entries t.1)) refl w e

pub writes_reads : Reads writes_in_range are_short_writes writes writes_at
unfolding writes_at
writes_reads = tested_reads writes_from writes_parts writes_there writes_back (both_reads eight_reads (map_reads eight_reads (max_reads value_reads)))

-- the parts of a row
abbrev pub row_parts : K2vRow → RowParts
row_parts r = (r.bucket, (r.pk, (r.sk, r.entries)))

row_back_by : (t : RowParts) (b : Bool) (h : is_short t.1.0 ≡ b) (r : K2vRow) → row_by t b h ≡ Some r → row_parts r ≡ t
row_back_by t true h r e = sym (ap row_parts (some_is _ _ e))
row_back_by t false h r e = absurd cc

row_there_by : (r : K2vRow) (b : Bool) (h : is_short r.pk ≡ b) → row_by (row_parts r) b h ≡ Some r
row_there_by r true h = ap Some (same_row _ r refl)
row_there_by r false h = let no : true ≡ false = sym r.short ∙ h in cc

pub row_there : (r : K2vRow) → row_from (row_parts r) ≡ Some r
row_there r = row_there_by r (is_short r.pk) refl

row_back : (t : RowParts) (r : K2vRow) → row_from t ≡ Some r → row_parts r ≡ t
row_back t r e = row_back_by t (is_short t.1.0) refl r e

-- what stands behind the first byte
abbrev rest_of : K2vRow → List ℕ
rest_of r = r.bucket.0 ++ (field r.pk ++ (field r.sk ++ counted (λ e. byte e.0 ++ writes e.1) (map_entries r.entries)))

rest_reads : Reads in_range has_bytes rest_of rest_at
unfolding rest_at
rest_reads = tested_reads row_from row_parts row_there row_back (both_reads hash_reads (both_reads field_reads (both_reads field_reads (map_reads byte_reads writes_reads))))

row_takes : (bytes : List ℕ) (x : K2vRow) (rest : List ℕ) → IsBytes bytes → row_at bytes ≡ Some (x, rest) → Begins in_range has_bytes spelled bytes x rest
unfolding row_at
row_takes [] x rest fits e = absurd cc
row_takes (zero ∷ bytes) x rest fits e = absurd cc
row_takes (suc zero ∷ bytes) x rest fits e = absurd cc
row_takes (suc (suc zero) ∷ bytes) x rest fits e = absurd cc
row_takes (suc (suc (suc zero)) ∷ bytes) x rest fits e = absurd cc
row_takes (suc (suc (suc (suc zero))) ∷ bytes) x rest fits e =
    let t = rest_reads.takes bytes x rest (byte_rest 4 bytes fits) e in
    record { parts = ap (λ (y : List ℕ). 4 ∷ y) t.parts; fits = t.fits; short = t.short }
row_takes (suc (suc (suc (suc (suc n)))) ∷ bytes) x rest fits e = absurd cc

pub row_reads : Reads in_range has_bytes spelled row_at
unfolding row_at
row_reads = record { bytes = λ r fits. rest_reads.bytes r fits; takes = row_takes; again = λ r rest fits short. rest_reads.again r rest fits short }

pub read_spelled : (r : K2vRow) → in_range r ≡ true → has_bytes r ≡ true → read (spelled r) ≡ Some r
read_spelled = whole_spelled row_reads

pub read_takes : (bytes : List ℕ) (r : K2vRow) → read bytes ≡ Some r → (bytes ≡ spelled r) × (in_range r ≡ true) × (has_bytes r ≡ true)
read_takes = whole_takes row_reads

-- bytes are read as a row exactly where they are its spelling
pub reads_back : (r : K2vRow) (bytes : List ℕ) → (read bytes ≡ Some r) ↔ (spelling r ≡ Some bytes)
reads_back = whole_back row_reads
