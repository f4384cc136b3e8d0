-- Laws that impls cite; no definition stands here.
-- Rows are read as they are spelled.
use Rattle.std.proofs.Common.{◌≡◌, ℕ, zero, suc, Bool, true, false, List, [], ◌∷◌, ◌++◌, Option, Some, refl, ap, subst}
use Rattle.std.specs.Prelude.{◌&&◌, ◌↔◌}
use Rattle.std.specs.List.{list_all}
use Rattle.std.specs.declared.cmp.Ord as ord
use Rattle.std.specs.declared.cmp.PartialEq as partial_eq
use Rattle.std.specs.declared.cmp.PartialOrd as partial_ord
use Rattle.crdt_core.specs.declared.deletable.Deletable.{Deletable}
use Rattle.crdt_core.specs.declared.deletable.Deletable.TheVariants.{Present, Deleted}
use Rattle.crdt_core.specs.declared.flag.Bool.{Bool as Flag}
use Rattle.crdt_core.specs.declared.map.Map.{Map}
use Rattle.crdt_core.specs.Map.{map_entries}
use Rattle.crdt_rows.specs.declared.version_row.VersionRow.{VersionRow}
use Rattle.crdt_rows.specs.declared.ref_row.RefRow.{RefRow}
use Rattle.crdt_rows.specs.declared.any_row.AnyRow.{AnyRow}
use Rattle.crdt_rows.specs.declared.any_row.AnyRow.TheVariants as rows
use Rattle.row_codec.specs.Reads.{IsBytes, Begins, Reads}
use Rattle.row_codec.specs.Range.{unless_deleted, is_hash, is_eight, object_in_range, version_row_in_range, ref_in_range, in_range, are_short, is_short_object, is_short_version_row, has_bytes}
use Rattle.row_codec.specs.Spelling.{counted, deletable, flag, object_row, version_row, reference_row, spelled}
use Rattle.row_codec.specs.Reading.{made_at}
use Rattle.row_codec.specs.NumberLaws.{eight_reads, field_reads, bind_some, some_is, byte_rest}
use Rattle.row_codec.specs.JoinedLaws.{both_reads, made_reads, tested_reads, counted_reads}
use Rattle.row_codec.specs.WholeLaws.{whole_spelled, whole_takes, whole_back}
use Rattle.row_codec.specs.PartLaws.{hash_reads, version_reads, part_reads, block_reads, max_reads, state_reads}
use Rattle.row_codec.specs.Built.{BlockMap, map_from, object_parts, object_from}
use Rattle.row_codec.specs.BuiltLaws.{map_there, map_back, object_there, object_back}
use Rattle.row_codec.specs.Rows.{flag_at, deletable_at, map_at, object_at, version_row_at, reference_at, row_at, spelling, read}

flag_takes : (bytes : List ℕ) (x : Flag) (rest : List ℕ) → IsBytes bytes → flag_at bytes ≡ Some (x, rest) → Begins (λ b. true) (λ b. true) flag bytes x rest
unfolding flag_at
flag_takes [] x rest fits e = absurd cc
flag_takes (zero ∷ bytes) x rest fits e = subst (λ (q : Flag × List ℕ). Begins (λ b. true) (λ b. true) flag (0 ∷ bytes) q.0 q.1) (some_is (record { 0 = false }, bytes) (x, rest) e) (record { parts = refl; fits = refl; short = refl })
flag_takes (suc zero ∷ bytes) x rest fits e = subst (λ (q : Flag × List ℕ). Begins (λ b. true) (λ b. true) flag (1 ∷ bytes) q.0 q.1) (some_is (record { 0 = true }, bytes) (x, rest) e) (record { parts = refl; fits = refl; short = refl })
flag_takes (suc (suc n) ∷ bytes) x rest fits e = absurd cc

flag_again : (b : Bool) (rest : List ℕ) → flag_at (flag (record { 0 = b }) ++ rest) ≡ Some (record { 0 = b }, rest)
unfolding flag_at
flag_again true rest = refl
flag_again false rest = refl

flag_bytes : (b : Bool) → IsBytes (flag (record { 0 = b }))
flag_bytes true = refl
flag_bytes false = refl

pub flag_reads : Reads (λ (b : Flag). true) (λ b. true) flag flag_at
flag_reads = record { bytes = λ b fits. flag_bytes b.0; takes = flag_takes; again = λ b rest fits short. flag_again b.0 rest }

module _ {X : Type 0} {P : X → Bool} {short : X → Bool} {text : X → List ℕ} {x_at : List ℕ → Option (X × List ℕ)} (a : Reads P short text x_at) where
  deletable_takes : (bytes : List ℕ) (x : Deletable X) (rest : List ℕ) → IsBytes bytes → deletable_at x_at bytes ≡ Some (x, rest) → Begins (unless_deleted P) (unless_deleted short) (deletable text) bytes x rest
  unfolding deletable_at made_at
  deletable_takes [] x rest fits e = absurd cc
  deletable_takes (zero ∷ bytes) x rest fits e =
      let b = bind_some (x_at bytes) (λ y. Some (Present y.0, y.1)) (x, rest) e in
      let t = a.takes bytes b.0.0 b.0.1 (byte_rest 0 bytes fits) b.1 in
      subst (λ (q : Deletable X × List ℕ). Begins (unless_deleted P) (unless_deleted short) (deletable text) (0 ∷ bytes) q.0 q.1) (some_is _ _ b.2) (record { parts = ap (λ (y : List ℕ). 0 ∷ y) t.parts; fits = t.fits; short = t.short })
  deletable_takes (suc zero ∷ bytes) x rest fits e = subst (λ (q : Deletable X × List ℕ). Begins (unless_deleted P) (unless_deleted short) (deletable text) (1 ∷ bytes) q.0 q.1) (some_is (Deleted, bytes) (x, rest) e) (record { parts = refl; fits = refl; short = refl })
  deletable_takes (suc (suc n) ∷ bytes) x rest fits e = absurd cc

  deletable_again : (x : Deletable X) (rest : List ℕ) → unless_deleted P x ≡ true → unless_deleted short x ≡ true → deletable_at x_at (deletable text x ++ rest) ≡ Some (x, rest)
  unfolding deletable_at made_at
  deletable_again (Present x) rest fits is_short = rw (a.again x rest fits is_short) refl
  deletable_again Deleted rest fits is_short = refl

  deletable_bytes : (x : Deletable X) → unless_deleted P x ≡ true → IsBytes (deletable text x)
  deletable_bytes (Present x) fits = a.bytes x fits
  deletable_bytes Deleted fits = refl

  pub deletable_reads : Reads (unless_deleted P) (unless_deleted short) (deletable text) (deletable_at x_at)
  deletable_reads = record { bytes = deletable_bytes; takes = deletable_takes; again = deletable_again }

module _ {K V : Type 0} {o : ord.Ghosts K} {p : partial_eq.Ghosts K} {q : partial_ord.Ghosts K} where
  module _ {P : K → Bool} {Q : V → Bool} {short_k : K → Bool} {short_v : V → Bool} {text_k : K → List ℕ} {text_v : V → List ℕ} {key_at : List ℕ → Option (K × List ℕ)} {value_at : List ℕ → Option (V × List ℕ)} where
    pub map_reads : Reads P short_k text_k key_at → Reads Q short_v text_v value_at → Reads (λ (m : Map K V o p q). list_all (λ e. P e.0 && Q e.1) (map_entries m)) (λ m. are_short (λ e. short_k e.0 && short_v e.1) (map_entries m)) (λ m. counted (λ e. text_k e.0 ++ text_v e.1) (map_entries m)) (map_at key_at value_at)
    unfolding map_at
    map_reads a b = tested_reads map_from map_entries map_there map_back (counted_reads (both_reads a b))

pub object_reads : Reads object_in_range is_short_object object_row object_at
unfolding object_at
object_reads = tested_reads object_from object_parts object_there object_back (both_reads hash_reads (both_reads field_reads (map_reads version_reads (max_reads state_reads))))

pub version_row_reads : Reads version_row_in_range is_short_version_row version_row version_row_at
unfolding version_row_at
version_row_reads = made_reads (λ (t : ℕ × Deletable BlockMap). record { id = t.0; blocks = t.1 }) (λ (r : VersionRow). (r.id, r.blocks)) (λ r. refl) (λ t. refl) (both_reads eight_reads (deletable_reads (map_reads part_reads (max_reads block_reads))))

and_true : (b : Bool) → (b && true) ≡ b
and_true true = refl
and_true false = refl

pub reference_reads : Reads ref_in_range (λ r. true) reference_row reference_at
unfolding reference_at
reference_reads = subst (λ (f : RefRow → Bool). Reads f (λ r. true) reference_row reference_at) (λ i r. is_hash r.hash && and_true (is_eight r.id) i) (made_reads (λ t. record { hash = t.0; id = t.1.0; deleted = t.1.1 }) (λ (r : RefRow). (r.hash, (r.id, r.deleted))) (λ r. refl) (λ t. refl) (both_reads hash_reads (both_reads eight_reads flag_reads)))

row_takes : (bytes : List ℕ) (x : AnyRow) (rest : List ℕ) → IsBytes bytes → row_at bytes ≡ Some (x, rest) → Begins in_range has_bytes spelled bytes x rest
unfolding row_at made_at
row_takes [] x rest fits e = absurd cc
row_takes (zero ∷ bytes) x rest fits e = absurd cc
row_takes (suc zero ∷ bytes) x rest fits e =
    let b = bind_some (object_at bytes) (λ y. Some (rows.Object y.0, y.1)) (x, rest) e in
    let t = object_reads.takes bytes b.0.0 b.0.1 (byte_rest 1 bytes fits) b.1 in
    subst (λ (q : AnyRow × List ℕ). Begins in_range has_bytes spelled (1 ∷ bytes) q.0 q.1) (some_is _ _ b.2) (record { parts = ap (λ (y : List ℕ). 1 ∷ y) t.parts; fits = t.fits; short = t.short })
row_takes (suc (suc zero) ∷ bytes) x rest fits e =
    let b = bind_some (version_row_at bytes) (λ y. Some (rows.Version y.0, y.1)) (x, rest) e in
    let t = version_row_reads.takes bytes b.0.0 b.0.1 (byte_rest 2 bytes fits) b.1 in
    subst (λ (q : AnyRow × List ℕ). Begins in_range has_bytes spelled (2 ∷ bytes) q.0 q.1) (some_is _ _ b.2) (record { parts = ap (λ (y : List ℕ). 2 ∷ y) t.parts; fits = t.fits; short = t.short })
row_takes (suc (suc (suc zero)) ∷ bytes) x rest fits e =
    let b = bind_some (reference_at bytes) (λ y. Some (rows.Ref y.0, y.1)) (x, rest) e in
    let t = reference_reads.takes bytes b.0.0 b.0.1 (byte_rest 3 bytes fits) b.1 in
    subst (λ (q : AnyRow × List ℕ). Begins in_range has_bytes spelled (3 ∷ bytes) q.0 q.1) (some_is _ _ b.2) (record { parts = ap (λ (y : List ℕ). 3 ∷ y) t.parts; fits = t.fits; short = t.short })
row_takes (suc (suc (suc (suc n))) ∷ bytes) x rest fits e = absurd cc

row_again : (r : AnyRow) (rest : List ℕ) → in_range r ≡ true → has_bytes r ≡ true → row_at (spelled r ++ rest) ≡ Some (r, rest)
unfolding row_at made_at
row_again (rows.Object r) rest fits short = rw (object_reads.again r rest fits short) refl
row_again (rows.Version r) rest fits short = rw (version_row_reads.again r rest fits short) refl
row_again (rows.Ref r) rest fits short = rw (reference_reads.again r rest fits short) refl

row_bytes : (r : AnyRow) → in_range r ≡ true → IsBytes (spelled r)
row_bytes (rows.Object r) fits = object_reads.bytes r fits
row_bytes (rows.Version r) fits = version_row_reads.bytes r fits
row_bytes (rows.Ref r) fits = reference_reads.bytes r fits

pub row_reads : Reads in_range has_bytes spelled row_at
row_reads = record { bytes = row_bytes; takes = row_takes; again = row_again }

pub read_spelled : (r : AnyRow) → in_range r ≡ true → has_bytes r ≡ true → read (spelled r) ≡ Some r
read_spelled = whole_spelled row_reads

pub read_takes : (bytes : List ℕ) (r : AnyRow) → read bytes ≡ Some r → (bytes ≡ spelled r) × (in_range r ≡ true) × (has_bytes r ≡ true)
read_takes = whole_takes row_reads

-- bytes are read as a row exactly where they are its spelling
pub reads_back : (r : AnyRow) (bytes : List ℕ) → (read bytes ≡ Some r) ↔ (spelling r ≡ Some bytes)
reads_back = whole_back row_reads
