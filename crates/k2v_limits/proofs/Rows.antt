-- Rows that fit: of the first requests, with short keys and values. Merges and writes hand this on, and tokens are of such times.
use Rattle.std.specs.Prelude.{◌≡◌, ◌≤◌, ℕ, Bool, true, false, List, [], ◌∷◌, length, refl, ⊤}
use Rattle.std.specs.List.{AllByRecursion}
use Rattle.std.specs.declared.cmp.Ordering.{Ordering}
use Rattle.std.specs.declared.cmp.Ordering.TheVariants.{Less, Equal, Greater}
use Rattle.std.specs.Ordering.{nat_cmp}
use Rattle.std.proofs.Common.{arith}
use Rattle.crdt_core.specs.declared.max.Max.{Max}
use Rattle.crdt_core.specs.Entries.{is_ascending}
use Rattle.crdt_core.specs.Lex.{by_order}
use Rattle.crdt_core.specs.Map.{map_entries, map_join, map_single}
use Rattle.crdt_core.specs.Max.{max_join}
use Rattle.row_codec.specs.Reads.{are_bytes}
use Rattle.row_codec.specs.Range.{is_hash}
use Rattle.k2v_rows.specs.declared.value.K2vValue.{K2vValue}
use Rattle.k2v_rows.specs.declared.value.K2vValue.TheVariants.{Deleted, Value}
use Rattle.k2v_rows.specs.declared.writes.Writes.{Writes}
use Rattle.k2v_rows.specs.declared.k2v_row.K2vRow.{K2vRow}
use Rattle.k2v_rows.specs.Later.{are_later, greatest_from}
use Rattle.k2v_rows.specs.Value.{value_cmp}
use Rattle.k2v_rows.specs.Values.{ValueMap}
use Rattle.k2v_rows.specs.Writes.{joined_discard, joined_values, writes_of, writes_join}
use Rattle.k2v_rows.specs.Token.{WritesMap, TimeMap, entries_join, token_entries, discarded, raised}
use Rattle.k2v_rows.specs.Row.{ItemKey, item_key, item_cmp, row_join, written, after_put}
use Rattle.k2v_model.specs.Orders.{times_by, token_in}
use Rattle.k2v_limits.proofs.Merged.{join_each, from_each}

-- ---- what fits

-- a time is the number of a request, of which there are few
abbrev pub IsTime : ℕ → Type 0
IsTime n = n ≤ 16777216

-- a value is short
abbrev pub ValueFits : K2vValue → Type 0
ValueFits Deleted = ⊤
ValueFits (Value bytes) = (are_bytes bytes ≡ true) × (length bytes ≤ 65536)

abbrev pub IsTimed : ℕ × Max K2vValue → Type 0
IsTimed e = IsTime e.0 × ValueFits e.1.0

abbrev pub WritesFit : Writes → Type 0
WritesFit w = IsTime w.discard.0 × AllByRecursion IsTimed (map_entries w.values)

-- a node has a number of one byte
abbrev pub EntryFits : ℕ × Writes → Type 0
EntryFits e = (e.0 ≤ 255) × WritesFit e.1

-- a bucket's hash, and two keys of 64 bytes at most
abbrev pub KeyFits : ItemKey → Type 0
KeyFits k = (is_hash k.0 ≡ true) × (are_bytes k.1.0 ≡ true) × (length k.1.0 ≤ 64) × (are_bytes k.1.1 ≡ true) × (length k.1.1 ≤ 64)

-- the row fits
abbrev pub RowFits : K2vRow → Type 0
RowFits r = KeyFits (item_key r) × AllByRecursion EntryFits (map_entries r.entries)

-- a token has times of nodes
abbrev pub TokenFits : TimeMap → Type 0
TokenFits token = AllByRecursion (λ (e : ℕ × Max ℕ). (e.0 ≤ 255) × IsTime e.1.0) (map_entries token)

-- ---- merges

larger_has : {X : Type 0} (C : X → Type 0) (R : X → X → Ordering) (a b : X) (o : Ordering) → C a → C b → C (by_order o b a a)
larger_has C R a b Less p q = q
larger_has C R a b Equal p q = p
larger_has C R a b Greater p q = p

value_joined : (a b : Max K2vValue) → ValueFits a.0 → ValueFits b.0 → ValueFits (max_join value_cmp a b).0
value_joined a b p q = larger_has ValueFits value_cmp a.0 b.0 (value_cmp a.0 b.0) p q

discard_joined : (a b : Writes) → IsTime a.discard.0 → IsTime b.discard.0 → IsTime (joined_discard a b).0
discard_joined a b p q = larger_has IsTime nat_cmp a.discard.0 b.discard.0 (nat_cmp a.discard.0 b.discard.0) p q

pub writes_have : (C : Writes → Type 0) (d : Max ℕ) (m : ValueMap) (b : Bool) (h : are_later d.0 (map_entries m) ≡ b) (other : Writes) → ((kept : are_later d.0 (map_entries m) ≡ true) → C (record { discard = d; values = m; kept = kept })) → C other → C (writes_of d m b h other)
writes_have C d m true h other a c = a h
writes_have C d m false h other a c = c

values_joined : (a b : Writes) → WritesFit a → WritesFit b → AllByRecursion IsTimed (map_entries (joined_values a b))
values_joined a b p q =
    from_each IsTimed _ (map_join (max_join value_cmp) a.values b.values) (join_each (max_join value_cmp) IsTime (λ (v : Max K2vValue). ValueFits v.0) value_joined a.values b.values p.1 q.1)

pub writes_joined : (a b : Writes) → WritesFit a → WritesFit b → WritesFit (writes_join a b)
writes_joined a b p q =
    writes_have WritesFit (joined_discard a b) (joined_values a b) (are_later (joined_discard a b).0 (map_entries (joined_values a b))) refl a
    (λ kept. (discard_joined a b p.0 q.0, values_joined a b p q)) p

abbrev EntriesFit : WritesMap → Type 0
EntriesFit m = AllByRecursion EntryFits (map_entries m)

entries_joined : (a b : WritesMap) → EntriesFit a → EntriesFit b → EntriesFit (entries_join a b)
entries_joined a b p q = join_each writes_join (λ n. n ≤ 255) WritesFit writes_joined a b p q

joined_by : (a b : K2vRow) (o : Ordering) → RowFits a → RowFits b → RowFits (by_order o b (record a { entries = entries_join a.entries b.entries }) a)
joined_by a b Less p q = q
joined_by a b Equal p q = (p.0, entries_joined a.entries b.entries p.1 q.1)
joined_by a b Greater p q = p

pub joined_fits : (a b : K2vRow) → RowFits a → RowFits b → RowFits (row_join a b)
joined_fits a b p q = joined_by a b (item_cmp (item_key a) (item_key b)) p q

-- ---- writes

raised_fits : (m : WritesMap) (ts : List (ℕ × Max ℕ)) → EntriesFit m → AllByRecursion (λ (e : ℕ × Max ℕ). (e.0 ≤ 255) × IsTime e.1.0) ts → EntriesFit (raised m ts)
raised_fits m [] p a = p
raised_fits m (t ∷ ts) p a = raised_fits (entries_join m (map_single t.0 (discarded t.1))) ts (entries_joined m (map_single t.0 (discarded t.1)) p ((a.0.0, (a.0.1, tt)), tt)) a.1

written_fits : (time : ℕ) (value : K2vValue) → IsTime time → ValueFits value → WritesFit (written time value)
written_fits time value p q =
    writes_have WritesFit (record { 0 = 0 }) (map_single time (record { 0 = value })) (are_later {V = Max K2vValue} 0 ((time, record { 0 = value }) ∷ [])) refl (discarded (record { 0 = 0 })) (λ kept. (omega arith, ((p, q), tt))) (omega arith, tt)

pub put_fits : (r : K2vRow) (node time : ℕ) (value : K2vValue) (token : TimeMap) → RowFits r → node ≤ 255 → IsTime time → ValueFits value → TokenFits token → RowFits (after_put r node time value token)
put_fits r node time value token p low early short times =
    (p.0, entries_joined (raised r.entries (map_entries token)) (map_single node (written time value)) (raised_fits r.entries (map_entries token) p.1 times) ((low, written_fits time value early short), tt))

-- ---- tokens

greatest_early : (d : ℕ) (es : List (ℕ × Max K2vValue)) → IsTime d → AllByRecursion IsTimed es → IsTime (greatest_from d es)
greatest_early d [] p a = p
greatest_early d (e ∷ es) p a = let rest = greatest_early d es p a.1 in let here = a.0.0 in omega (arith, rest, here)

times_early : (es : List (ℕ × Writes)) → AllByRecursion EntryFits es → AllByRecursion (λ (e : ℕ × Max ℕ). (e.0 ≤ 255) × IsTime e.1.0) (token_entries es)
times_early [] a = tt
times_early (e ∷ es) a = ((a.0.0, greatest_early e.1.discard.0 (map_entries e.1.values) a.0.1.0 a.0.1.1), times_early es a.1)

pub token_fits : (r : K2vRow) → RowFits r → TokenFits (token_in r)
token_fits r p = by_test (token_entries (map_entries r.entries)) (is_ascending nat_cmp (token_entries (map_entries r.entries))) refl (times_early (map_entries r.entries) p.1)
  where
    by_test : (ts : List (ℕ × Max ℕ)) (b : Bool) (h : is_ascending nat_cmp ts ≡ b) → AllByRecursion (λ (e : ℕ × Max ℕ). (e.0 ≤ 255) × IsTime e.1.0) ts → TokenFits (times_by ts b h)
    by_test ts true h a = a
    by_test ts false h a = tt
