-- How many bytes a row counts: a row that fits has a spelling, of few bytes, and what two rows merge to counts no more than both.
use Rattle.std.specs.Prelude.{◌≡◌, ◌≤◌, ◌^◌, ◌+◌, ℕ, suc, true, ◌&&◌, List, ◌++◌, Some, None, length, refl}
use Rattle.std.specs.List.{flat_map}
use Rattle.std.specs.declared.cmp.Ordering.{Ordering}
use Rattle.std.specs.declared.cmp.Ordering.TheVariants.{Less, Equal, Greater}
use Rattle.std.proofs.Common.{◌∙◌, arith, length-append}
use Rattle.std.proofs.lemmas.Bool.{lt-ltb}
use Rattle.crdt_core.proofs.Each.{all_weaker}
use Rattle.crdt_core.specs.declared.max.Max.{Max}
use Rattle.crdt_core.specs.EntryLaws.{and_both}
use Rattle.crdt_core.specs.Lex.{by_order}
use Rattle.crdt_core.specs.Map.{map_entries, map_join}
use Rattle.crdt_core.specs.Max.{max_join}
use Rattle.row_codec.specs.Reads.{are_bytes}
use Rattle.row_codec.specs.Range.{is_byte, is_eight, is_hash, is_below}
use Rattle.row_codec.specs.Spelling.{byte, four, eight, field, counted}
use Rattle.row_codec.specs.NumberLaws.{block_length}
use Rattle.row_codec.proofs.ByteOrder.{four_length, eight_length}
use Rattle.wire_messages.specs.Size.{row_length}
use Rattle.k2v_rows.specs.declared.value.K2vValue.{K2vValue}
use Rattle.k2v_rows.specs.declared.value.K2vValue.TheVariants.{Deleted, Value}
use Rattle.k2v_rows.specs.declared.writes.Writes.{Writes}
use Rattle.k2v_rows.specs.declared.k2v_row.K2vRow.{K2vRow}
use Rattle.k2v_rows.specs.Range.{value_in_range, writes_in_range, in_range, is_short_value, are_short_writes, has_bytes}
use Rattle.k2v_rows.specs.Spelling.{value as value_bytes, writes as writes_bytes, spelled}
use Rattle.k2v_rows.specs.Value.{value_cmp}
use Rattle.k2v_rows.specs.Writes.{joined_discard, joined_values, writes_join}
use Rattle.k2v_rows.specs.Token.{entries_join}
use Rattle.k2v_rows.specs.Row.{item_key, item_cmp, row_join}
use Rattle.k2v_schema.specs.Schema.{words}
use Rattle.k2v_schema.specs.Laws.{schema_laws}
use Rattle.machine_limits.specs.Bounds.{AreBounded}
use Rattle.machine_limits.proofs.Lists.{all_pass, below_is}
use Rattle.machine_limits.proofs.Totals.{total, total_same, total_most, flat_length}
use Rattle.k2v_limits.proofs.Merged.{join_sum, from_sum, few_keys}
use Rattle.k2v_limits.proofs.Rows.{IsTime, ValueFits, IsTimed, WritesFit, EntryFits, RowFits, writes_have, joined_fits}

-- how many bytes a row counts
abbrev pub weight : K2vRow → ℕ
weight r = length (spelled r)

counted_length : {X : Type 0} (f : X → List ℕ) (xs : List X) → length (counted f xs) ≡ 4 + total (λ x. length (f x)) xs
counted_length f xs =
    let a = length-append (four (length xs)) (flat_map f xs) in
    let b = four_length (length xs) in
    let c = flat_length f xs in
    omega arith

-- ---- spellings

early_eight : (n : ℕ) → IsTime n → is_eight n ≡ true
early_eight n h = lt-ltb n (2 ^ 64) (omega (arith, h))

value_range : (x : K2vValue) → ValueFits x → (value_in_range x ≡ true) × (is_short_value x ≡ true)
value_range Deleted f = (refl, refl)
value_range (Value bytes) f = let low = f.1 in (f.0, below_is bytes (omega (arith, low)))

few_values : (w : Writes) → WritesFit w → length (map_entries w.values) ≤ 16777217
few_values w f = few_keys 16777216 (map_entries w.values) w.values.ascending (all_weaker IsTimed (λ (e : ℕ × Max K2vValue). e.0 ≤ 16777216) (λ e h. h.0) (map_entries w.values) f.1)

writes_range : (w : Writes) → WritesFit w → (writes_in_range w ≡ true) × (are_short_writes w ≡ true)
writes_range w f =
    let es = map_entries w.values in
    let few = few_values w f in (
      and_both (is_eight w.discard.0) _ (early_eight w.discard.0 f.0) (all_pass IsTimed (λ (e : ℕ × Max K2vValue). is_eight e.0 && value_in_range e.1.0) (λ e h. and_both (is_eight e.0) (value_in_range e.1.0) (early_eight e.0 h.0) (value_range e.1.0 h.1).0) es f.1),
      and_both (is_below es) _ (below_is es (omega (arith, few))) (all_pass IsTimed (λ (e : ℕ × Max K2vValue). is_short_value e.1.0) (λ e h. (value_range e.1.0 h.1).1) es f.1),
    )

few_nodes : (r : K2vRow) → RowFits r → length (map_entries r.entries) ≤ 256
few_nodes r f = few_keys 255 (map_entries r.entries) r.entries.ascending (all_weaker EntryFits (λ (e : ℕ × Writes). e.0 ≤ 255) (λ e h. h.0) (map_entries r.entries) f.1)

-- a row that fits has a spelling
pub row_counts : (r : K2vRow) → RowFits r → row_length words r ≡ Some (weight r)
row_counts r f =
    let es = map_entries r.entries in
    let few = few_nodes r f in
    let pk = f.0.2 in
    let sk = f.0.4 in
    let ranges : in_range r ≡ true =
    and_both (is_hash r.bucket) _ f.0.0 (and_both (are_bytes r.pk) _ f.0.1 (and_both (are_bytes r.sk) _ f.0.3
    (all_pass EntryFits (λ (e : ℕ × Writes). is_byte e.0 && writes_in_range e.1) (λ e h. and_both (is_byte e.0) (writes_in_range e.1) (lt-ltb e.0 (2 ^ 8) (let low = h.0 in omega (arith, low))) (writes_range e.1 h.1).0) es f.1))) in
    let lengths : has_bytes r ≡ true =
    and_both (is_below r.pk) _ (below_is r.pk (omega (arith, pk))) (and_both (is_below r.sk) _ (below_is r.sk (omega (arith, sk))) (and_both (is_below es) _ (below_is es (omega (arith, few)))
    (all_pass EntryFits (λ (e : ℕ × Writes). are_short_writes e.1) (λ e h. (writes_range e.1 h.1).1) es f.1))) in
    rw (ranges, lengths) refl

-- ---- lengths

abbrev value_weight : Max K2vValue → ℕ
value_weight v = length (value_bytes v.0)

timed_is : (e : ℕ × Max K2vValue) → length (eight e.0 ++ value_bytes e.1.0) ≡ 8 + value_weight e.1
timed_is e = let a = length-append (eight e.0) (value_bytes e.1.0) in let b = eight_length e.0 in omega (arith, a, b)

-- a node's writes count their discard time, and each value with its time
abbrev pub writes_weight : Writes → ℕ
writes_weight w = length (writes_bytes w)

writes_is : (w : Writes) → writes_weight w ≡ 12 + total (λ (e : ℕ × Max K2vValue). 8 + value_weight e.1) (map_entries w.values)
writes_is w =
    let es = map_entries w.values in
    let a = length-append (eight w.discard.0) (counted (λ (e : ℕ × Max K2vValue). eight e.0 ++ value_bytes e.1.0) es) in
    let b = eight_length w.discard.0 in
    let c = counted_length (λ (e : ℕ × Max K2vValue). eight e.0 ++ value_bytes e.1.0) es in
    let d = total_same (λ (e : ℕ × Max K2vValue). length (eight e.0 ++ value_bytes e.1.0)) (λ (e : ℕ × Max K2vValue). 8 + value_weight e.1) timed_is es in
    omega (arith, a, b, c, d)

row_is : (r : K2vRow) → is_hash r.bucket ≡ true → weight r ≡ 45 + length r.pk + length r.sk + total (λ (e : ℕ × Writes). 1 + writes_weight e.1) (map_entries r.entries)
row_is r h =
    let es = map_entries r.entries in
    let nodes = counted (λ (e : ℕ × Writes). byte e.0 ++ writes_bytes e.1) es in
    let a = length-append r.bucket.0 (field r.pk ++ (field r.sk ++ nodes)) in
    let b = length-append (field r.pk) (field r.sk ++ nodes) in
    let c = length-append (field r.sk) nodes in
    let d = length-append (four (length r.pk)) r.pk in
    let e = length-append (four (length r.sk)) r.sk in
    let f = four_length (length r.pk) in
    let g = four_length (length r.sk) in
    let i = block_length 32 r.bucket.0 h in
    let j = counted_length (λ (e : ℕ × Writes). byte e.0 ++ writes_bytes e.1) es in
    let k = total_same (λ (e : ℕ × Writes). length (byte e.0 ++ writes_bytes e.1)) (λ (e : ℕ × Writes). 1 + writes_weight e.1) (λ e. omega arith) es in
    let whole : weight r ≡ suc (length (r.bucket.0 ++ (field r.pk ++ (field r.sk ++ nodes)))) = refl in
    whole ∙ omega (arith, a, b, c, d, e, f, g, i, j, k)

-- ---- a row counts few bytes

value_few : (v : Max K2vValue) → ValueFits v.0 → value_weight v ≤ 65541
value_few v f = by_value v.0 f
  where
    by_value : (x : K2vValue) → ValueFits x → length (value_bytes x) ≤ 65541
    by_value Deleted f = omega arith
    by_value (Value bytes) f = let a = length-append (four (length bytes)) bytes in let b = four_length (length bytes) in let low = f.1 in omega (arith, a, b, low)

writes_few : (w : Writes) → WritesFit w → writes_weight w ≤ 1200000000000
writes_few w f =
    let es = map_entries w.values in
    let is = writes_is w in
    let few = few_values w f in
    let each = total_most (λ (e : ℕ × Max K2vValue). 8 + value_weight e.1) 65549 es (all_weaker IsTimed (λ (e : ℕ × Max K2vValue). 8 + value_weight e.1 ≤ 65549) (λ e h. let low = value_few e.1 h.1 in omega (arith, low)) es f.1) in
    omega (arith, is, few, each)

pub row_few : (r : K2vRow) → RowFits r → weight r ≤ 1000000000000000
row_few r f =
    let es = map_entries r.entries in
    let is = row_is r f.0.0 in
    let pk = f.0.2 in
    let sk = f.0.4 in
    let few = few_nodes r f in
    let each = total_most (λ (e : ℕ × Writes). 1 + writes_weight e.1) 1200000000001 es (all_weaker EntryFits (λ (e : ℕ × Writes). 1 + writes_weight e.1 ≤ 1200000000001) (λ e h. let low = writes_few e.1 h.1 in omega (arith, low)) es f.1) in
    omega (arith, is, pk, sk, few, each)

-- ---- merges

value_joined : (a b : Max K2vValue) → 8 + value_weight (max_join value_cmp a b) ≤ (8 + value_weight a) + (8 + value_weight b)
value_joined a b = by_larger (value_cmp a.0 b.0)
  where
    by_larger : (o : Ordering) → 8 + length (value_bytes (by_order o b.0 a.0 a.0)) ≤ (8 + value_weight a) + (8 + value_weight b)
    by_larger Less = omega arith
    by_larger Equal = omega arith
    by_larger Greater = omega arith

writes_joined : (a b : Writes) → writes_weight (writes_join a b) ≤ writes_weight a + writes_weight b
writes_joined a b =
    let one = writes_is a in
    let two = writes_is b in
    writes_have (λ w. writes_weight w ≤ writes_weight a + writes_weight b) (joined_discard a b) (joined_values a b) _ refl a
    (λ kept. (
    let is = writes_is (record { discard = joined_discard a b; values = joined_values a b; kept = kept }) in
    let all = join_sum (max_join value_cmp) (λ v. 8 + value_weight v) value_joined a.values b.values in
    let some = from_sum (λ (e : ℕ × Max K2vValue). 8 + value_weight e.1) (suc (joined_discard a b).0) (map_join (max_join value_cmp) a.values b.values) in
    omega (arith, one, two, is, all, some)
    )) (omega arith)

entry_joined : (a b : Writes) → 1 + writes_weight (writes_join a b) ≤ (1 + writes_weight a) + (1 + writes_weight b)
entry_joined a b = let low = writes_joined a b in omega (arith, low)

rows_merged : (a b : K2vRow) → RowFits a → RowFits b → weight (row_join a b) ≤ weight a + weight b
rows_merged a b p q = by_key (item_cmp (item_key a) (item_key b))
  where
    both : K2vRow
    both = record a { entries = entries_join a.entries b.entries }

    by_key : (o : Ordering) → weight (by_order o b both a) ≤ weight a + weight b
    by_key Less = omega arith
    by_key Equal =
        let one = row_is a p.0.0 in
        let two = row_is b q.0.0 in
        let is = row_is both p.0.0 in
        let all = join_sum writes_join (λ w. 1 + writes_weight w) entry_joined a.entries b.entries in
        omega (arith, one, two, is, all)
    by_key Greater = omega arith

-- ---- all of it

row_key : (r : K2vRow) → RowFits r → length (words.key r) ≤ 200
row_key r f =
    let a = length-append r.bucket.0 (field r.pk ++ r.sk) in
    let b = length-append (field r.pk) r.sk in
    let c = length-append (four (length r.pk)) r.pk in
    let d = four_length (length r.pk) in
    let e = block_length 32 r.bucket.0 f.0.0 in
    let pk = f.0.2 in
    let sk = f.0.4 in
    omega (arith, a, b, c, d, e, pk, sk)

no_block : (hash : List ℕ) (n : ℕ) → None ≡ Some hash → 27 ≤ n
no_block hash n e = cc

pub rows_bounded : AreBounded row_join words RowFits weight
rows_bounded = record {
  laws = schema_laws;
  joined = λ a b same p q. joined_fits a b p q;
  called_for = λ old r row same p q c. absurd (omega (arith, c.1));
  counts = row_counts;
  least = λ r f. let is = row_is r f.0.0 in omega (arith, is);
  short_key = row_key;
  with_block = λ r hash f e. no_block hash (weight r) e;
  merged = λ a b same p q. let low = rows_merged a b p q in omega (arith, low);
  called_few = λ a b same p q. tt;
}
