-- What requests wait with, and what phases give to them, has numbers of the code; and so has what is told of a request that ends.
use Rattle.std.proofs.Common.{◌≡◌, ◌≤◌, ◌<◌, ◌+◌, ◌^◌, ℕ, zero, suc, Bool, true, false, nat_lt, cond, Option, Some, None, List, [], ◌∷◌, ◌++◌, length, map, refl, arith, length-append}
use Rattle.std.specs.Prelude.{slice_index}
use Rattle.std.specs.List.{AllByRecursion, filter}
use Rattle.std.specs.Int.{w32, bytes_low_first, to_le_bytes}
use Rattle.std.proofs.lemmas.Bool.{and_parts, and_from, ltb-true}
use Rattle.crdt_core.specs.Members.{Has}
use Rattle.md5.specs.Md5.{digest_bytes, md5}
use Rattle.md5.proofs.StandardFacts.{length-md5}
use Rattle.hex.specs.Hex.{IsBytes}
use Rattle.row_codec.specs.Reads.{are_bytes}
use Rattle.row_codec.specs.NumberLaws.{bytes_both, byte_small}
use Rattle.crdt_rows.specs.declared.version.Version.{Version}
use Rattle.crdt_rows.specs.declared.body.Body.TheVariants.{Marker, Inline, Blocks}
use Rattle.crdt_rows.specs.declared.state.State.{State as RowState}
use Rattle.crdt_rows.specs.declared.state.State.TheVariants.{Uploading as IsUploading, Aborted, Complete}
use Rattle.crdt_rows.specs.declared.object_row.ObjectRow.{ObjectRow}
use Rattle.crdt_rows.specs.declared.any_row.AnyRow.{AnyRow}
use Rattle.crdt_rows.specs.declared.any_row.AnyRow.TheVariants as rows
use Rattle.crdt_rows.specs.ObjectRow.{newest, state_at}
use Rattle.wire_messages.specs.declared.phase.PhaseEnd.{PhaseEnd}
use Rattle.wire_messages.specs.declared.phase.PhaseEnd.TheVariants.{Row, Window, Kept, Block}
use Rattle.history_model.specs.declared.record.Kind.{Kind}
use Rattle.history_model.specs.declared.record.Kind.TheVariants as kind
use Rattle.flow_model.specs.declared.flow.Stage.{Stage}
use Rattle.flow_model.specs.declared.flow.Stage.TheVariants.{Drawing, Uploading, Receiving, Needing, Aborting, Completing, Looking, Opening, Gathering, Listing}
use Rattle.flow_model.specs.declared.flow.FlowEnd.{FlowEnd}
use Rattle.flow_model.specs.declared.flow.FlowEnd.TheVariants.{Stored, Found, Nothing, Listed, Superseded, Aborted as WasAborted}
use Rattle.flow_model.specs.Says.{Said, none, marked, inline, in_blocks, of_state, of_version, said_of, said_by, is_shown, object_rows, shown_rows}
use Rattle.store_model.specs.Answers.{Entry, with_entry, entries, lines_of, lines_of_end}
use Rattle.limit_rows.specs.Fitting.{Drawn, AreWithin, StateFits, RowFits}
use Rattle.limit_laws.proofs.Flows.{StageFits, EndFits, row_greatest}
use Rattle.audit_model.specs.Lines.{IsNumber, AreNumbers, IsInRange}
use Rattle.audit_laws.specs.Told.{key_said}
use Rattle.audit_accounts.specs.Saying.{KeysAre, IsKeyedLine}
use Rattle.audit_accounts.proofs.Flows.{IsSaid, IsStage, IsEnd, Gives}
use Rattle.audit_accounts.proofs.Worlds.{LinesFit}
use Rattle.audit_accounts.proofs.Windows.{WindowFits}

-- a version's numbers
abbrev pub VersionFits : Version → Type 0
VersionFits v = IsNumber v.ts × IsNumber v.id

abbrev pub SaidFits : Said → Type 0
SaidFits s = IsSaid VersionFits IsNumber s

-- rows of a list, so many at most
abbrev pub ListFits : ℕ → List ObjectRow → Type 0
ListFits most rs = AllByRecursion (λ r. SaidFits (said_by r)) rs × (length rs ≤ most)

-- ---- what rows say

module _ (t : ℕ) (v : Drawn) (within : AreWithin t v) where
  drawn_fits : (x : Version) → Has v.versions x → VersionFits x
  drawn_fits x h = let f = within.versions_fit x h in let few = within.few in let a = f.0 in let b = f.1 in (omega arith, omega arith)

  state_said : (x : Version) (o : Option RowState) → ((s : RowState) → o ≡ Some s → Has v.versions x × StateFits s) → SaidFits (of_state x o)
  state_said x None h = tt
  state_said x (Some IsUploading) h = tt
  state_said x (Some Aborted) h = tt
  state_said x (Some (Complete Marker)) h = tt
  state_said x (Some (Complete (Inline m body))) h = let f = h (Complete (Inline m body)) refl in let short = f.1.2 in (drawn_fits x f.0, f.1.0.size, omega arith)
  state_said x (Some (Complete (Blocks m first))) h = let f = h (Complete (Blocks m first)) refl in (drawn_fits x f.0, f.1.0.size)

  version_said : (r : ObjectRow) (o : Option Version) → RowFits v (rows.Object r) → SaidFits (of_version r o)
  version_said r None f = tt
  version_said r (Some x) f = state_said x (state_at r x) (λ s e. f.1 x s e)

  object_said : (r : ObjectRow) → RowFits v (rows.Object r) → SaidFits (said_by r)
  object_said r f = version_said r (newest r) f

  row_said : (value : Option AnyRow) → EndFits v (Row value) → SaidFits (said_of value)
  row_said None f = tt
  row_said (Some (rows.Object r)) f = object_said r f
  row_said (Some (rows.Version r)) f = tt
  row_said (Some (rows.Ref r)) f = tt

  objects_said : (rs : List AnyRow) → AllByRecursion (RowFits v) rs → AllByRecursion (λ r. SaidFits (said_by r)) (object_rows rs) × (length (object_rows rs) ≤ length rs)
  objects_said [] f = (tt, omega arith)
  objects_said (rows.Object r ∷ rs) f = let rest = objects_said rs f.1 in let few = rest.1 in ((object_said r f.0, rest.0), omega arith)
  objects_said (rows.Version r ∷ rs) f = let rest = objects_said rs f.1 in let few = rest.1 in (rest.0, omega arith)
  objects_said (rows.Ref r ∷ rs) f = let rest = objects_said rs f.1 in let few = rest.1 in (rest.0, omega arith)

filter_all : {X : Type 0} (P : X → Type 0) (test : X → Bool) (xs : List X) → AllByRecursion P xs → AllByRecursion P (filter test xs) × (length (filter test xs) ≤ length xs)
filter_all P test [] h = (tt, omega arith)
filter_all P test (x ∷ xs) h =
    let rest = filter_all P test xs h.1 in
    let few = rest.1 in
    elim (test x) as (λ b. AllByRecursion P (cond b (x ∷ filter test xs) (filter test xs)) × (length (cond b (x ∷ filter test xs) (filter test xs)) ≤ suc (length xs))) [ true ↦ ((h.0, rest.0), omega (arith, few)) | false ↦ (rest.0, omega (arith, few)) ]

both_all : {X : Type 0} (P : X → Type 0) (xs ys : List X) → AllByRecursion P xs → AllByRecursion P ys → AllByRecursion P (xs ++ ys)
both_all P [] ys h k = k
both_all P (x ∷ xs) ys h k = (h.0, both_all P xs ys h.1 k)

-- ---- what phases give

abbrev pub StageNumbered : ℕ → Kind → Stage → Type 0
StageNumbered most k stage = IsStage VersionFits IsNumber (ListFits most) k stage

pub gives_numbers : (t : ℕ) (v : Drawn) → AreWithin t v → (most id now : ℕ) → id ≤ t → now ≤ 100000000000000000 → (k : Kind) (stage : Stage) (end : PhaseEnd AnyRow) → StageNumbered most k stage → StageFits t v stage → EndFits v end → WindowFits v end →
    Gives VersionFits IsNumber (ListFits (most + 2000)) id stage end now
gives_numbers t v within most id now low early k (Drawing name w) (Row value) is f h g = let great = row_greatest t v within value h in let few = within.few in (omega arith, omega arith)
gives_numbers t v within most id now low early k (Looking name a) (Row value) is f h g = row_said t v within value h
gives_numbers t v within most id now low early k (Gathering version meta a left body) (Block bytes) is f h g = let long = f.3 in let short = h.short in let few = within.few in let sum = length-append body bytes in omega arith
gives_numbers t v within most id now low early k (Listing bucket prefix rs) (Window others end) is f h g =
    let objects = objects_said t v within others g.0 in
    let shown = filter_all (λ r. SaidFits (said_by r)) is_shown (object_rows others) objects.0 in
    let sum = length-append rs (shown_rows others) in
    let a = shown.1 in
    let b = objects.1 in
    let c = g.1 in
    let d = is.1.1 in
    (both_all (λ r. SaidFits (said_by r)) rs (shown_rows others) is.1.0 shown.0, omega arith)
gives_numbers t v within most id now low early k (Drawing name w) (Window rs end) is f h g = tt
gives_numbers t v within most id now low early k (Drawing name w) Kept is f h g = tt
gives_numbers t v within most id now low early k (Drawing name w) (Block bytes) is f h g = tt
gives_numbers t v within most id now low early k (Uploading name version c stored) end is f h g = tt
gives_numbers t v within most id now low early k (Receiving name version coming received) end is f h g = tt
gives_numbers t v within most id now low early k (Needing name version coming received) end is f h g = tt
gives_numbers t v within most id now low early k (Aborting version) end is f h g = tt
gives_numbers t v within most id now low early k (Completing version meta) end is f h g = tt
gives_numbers t v within most id now low early k (Looking name a) (Window rs end) is f h g = tt
gives_numbers t v within most id now low early k (Looking name a) Kept is f h g = tt
gives_numbers t v within most id now low early k (Looking name a) (Block bytes) is f h g = tt
gives_numbers t v within most id now low early k (Opening version meta a) end is f h g = tt
gives_numbers t v within most id now low early k (Gathering version meta a left body) (Row value) is f h g = tt
gives_numbers t v within most id now low early k (Gathering version meta a left body) (Window rs end) is f h g = tt
gives_numbers t v within most id now low early k (Gathering version meta a left body) Kept is f h g = tt
gives_numbers t v within most id now low early k (Listing bucket prefix rs) (Row value) is f h g = tt
gives_numbers t v within most id now low early k (Listing bucket prefix rs) Kept is f h g = tt
gives_numbers t v within most id now low early k (Listing bucket prefix rs) (Block bytes) is f h g = tt

-- ---- digests

low_small : (i k n : ℕ) → are_bytes (bytes_low_first i k n) ≡ true
low_small i zero n = refl
low_small i (suc k) n = and_from _ _ (byte_small i n) (low_small (suc i) k n)

md5_small : (h : List ℕ) (n : ℕ) → are_bytes (digest_bytes h n) ≡ true
unfolding digest_bytes
md5_small h zero = refl
md5_small h (suc n) = bytes_both (digest_bytes h n) (to_le_bytes w32 (slice_index h n)) (md5_small h n) (low_small 0 4 (slice_index h n))

md5_bytes : (m : List ℕ) → are_bytes (md5 m) ≡ true
unfolding md5
md5_bytes m = md5_small _ 4

pub bytes_are : (bytes : List ℕ) → are_bytes bytes ≡ true → IsBytes bytes
bytes_are [] h i = omega arith
bytes_are (b ∷ bs) h zero = ltb-true b (2 ^ 8) (and_parts (nat_lt b (2 ^ 8)) (are_bytes bs) h).0
bytes_are (b ∷ bs) h (suc i) = bytes_are bs (and_parts (nat_lt b (2 ^ 8)) (are_bytes bs) h).1 i

-- ---- what is told of a request that ends

abbrev KeyNumbers : List ℕ × ℕ × ℕ × ℕ → Type 0
KeyNumbers k = AreNumbers (k.1 ∷ k.2 ∷ k.3 ∷ [])

entry_numbers : (key : List ℕ) (said : Said) (es : List Entry) → SaidFits said → AllByRecursion KeyNumbers (lines_of es) → AllByRecursion KeyNumbers (lines_of (with_entry key said es))
entry_numbers key none es h rest = rest
entry_numbers key (marked version) es h rest = rest
entry_numbers key (inline version meta body) es h rest = ((h.0.0, (h.0.1, (h.1, tt))), rest)
entry_numbers key (in_blocks version meta first) es h rest = ((h.0.0, (h.0.1, (h.1, tt))), rest)

rows_numbers : (rs : List ObjectRow) → AllByRecursion (λ r. SaidFits (said_by r)) rs → AllByRecursion KeyNumbers (lines_of (entries rs))
rows_numbers [] h = tt
rows_numbers (r ∷ rs) h = entry_numbers r.key (said_by r) (entries rs) h.0 (rows_numbers rs h.1)

entry_few : (key : List ℕ) (said : Said) (es : List Entry) → length (lines_of (with_entry key said es)) ≤ suc (length (lines_of es))
entry_few key none es = omega arith
entry_few key (marked version) es = omega arith
entry_few key (inline version meta body) es = omega arith
entry_few key (in_blocks version meta first) es = omega arith

rows_few : (rs : List ObjectRow) → length (lines_of (entries rs)) ≤ length rs
rows_few [] = omega arith
rows_few (r ∷ rs) = let one = entry_few r.key (said_by r) (entries rs) in let rest = rows_few rs in omega arith

keys_fit : (keys : List (List ℕ × ℕ × ℕ × ℕ)) → AllByRecursion KeyNumbers keys → KeysAre keys → AllByRecursion IsInRange (map key_said keys)
keys_fit [] h k = tt
keys_fit (x ∷ xs) h k = ((h.0, k.0), keys_fit xs h.1 k.1)

-- the lines of a request that ends so
pub end_numbers : (most q : ℕ) (k : Kind) (end : FlowEnd) → most < 2 ^ 64 → IsNumber q → IsEnd VersionFits IsNumber (ListFits most) k end → AllByRecursion IsKeyedLine (lines_of_end q k end) → LinesFit (lines_of_end q k end)
end_numbers most q kind.Put (Stored version meta) top number h keyed = ((((number, (h.1.0, (h.1.1, tt))), tt), tt), tt)
end_numbers most q kind.Delete (Stored version meta) top number h keyed = ((((number, (h.1.0, (h.1.1, tt))), tt), tt), tt)
end_numbers most q kind.Copy (Stored version meta) top number h keyed = ((((number, (h.1.0, (h.1.1, tt))), tt), tt), tt)
end_numbers most q kind.Get (Stored version meta) top number h keyed = absurd (let no : false ≡ true = h.0 in cc)
end_numbers most q kind.Head (Stored version meta) top number h keyed = absurd (let no : false ≡ true = h.0 in cc)
end_numbers most q kind.List (Stored version meta) top number h keyed = absurd (let no : false ≡ true = h.0 in cc)
end_numbers most q kind.Get (Found version meta body) top number h keyed = ((((number, (h.0.0, (h.0.1, tt))), (h.1, length-md5 body, bytes_are (md5 body) (md5_bytes body))), tt), tt)
end_numbers most q kind.Head (Found version meta body) top number h keyed = ((((number, (h.0.0, (h.0.1, tt))), h.1), tt), tt)
end_numbers most q kind.Put (Found version meta body) top number h keyed = absurd h
end_numbers most q kind.Delete (Found version meta body) top number h keyed = absurd h
end_numbers most q kind.Copy (Found version meta body) top number h keyed = absurd h
end_numbers most q kind.List (Found version meta body) top number h keyed = absurd h
end_numbers most q kind.Get Nothing top number h keyed = ((((number, tt), tt), tt), tt)
end_numbers most q kind.Head Nothing top number h keyed = ((((number, tt), tt), tt), tt)
end_numbers most q kind.Copy Nothing top number h keyed = ((((number, tt), tt), tt), tt)
end_numbers most q kind.Put Nothing top number h keyed = absurd h
end_numbers most q kind.Delete Nothing top number h keyed = absurd h
end_numbers most q kind.List Nothing top number h keyed = absurd h
end_numbers most q k (Listed rs) top number h keyed = let few = rows_few rs in let low = h.1.1 in (((number, (omega (arith, few, low, top), tt)), keys_fit (lines_of (entries rs)) (rows_numbers rs h.1.0) keyed.0), tt)
end_numbers most q k (Superseded id) top number h keyed = ((number, tt), tt)
end_numbers most q k WasAborted top number h keyed = tt
