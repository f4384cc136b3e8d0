use Rattle.std.proofs.Common.{◌≡◌, ◌≤◌, ◌<◌, ◌+◌, ◌-◌, Some, true, false, IsSorted, length, ap, sym, subst, ◌∙◌, arith}
use Rattle.std.specs.List.{sum_by}
use Rattle.std.specs.List.Sorted.{IsPartitionPoint}
use Rattle.std.proofs.lemmas.Option.{get_or_from_slice_get}
use Rattle.world_history.specs.Table.{row_cmp, ack_at, IsTable, is_before, IsKeyEnd, one_if, is_listed_before}
use Rattle.world_history.proofs.Rowed.{row_out, row_within}
use Rattle.world_history.proofs.Listed.{listed_there, none_first, none_further, count_first, count_next, count_end}
use Rattle.world_history.proofs.pair_count.writes_under.Goals as goal

pub before-k-requires : goal.before-k-requires
before-k-requires c = subst (IsSorted row_cmp) (sym c.as_slice-rows.ensures.value) c.args.table.now.made.sorted

-- nothing is counted before the rows that are named
pub loop-rows-init : goal.loop-rows-init
loop-rows-init c =
    let h = c.args.table.now.index.records.now in
    let rows = c.as_slice-rows.result.now in
    let t = subst (IsTable h) (sym c.as_slice-rows.ensures.value) c.args.table.now.made in
    record {
      upto = c.before-k.ensures.bound;
      none = none_first rows c.args.bucket.now c.args.prefix.now c.before-k.result c.before-k.ensures.point;
      counted = count_first rows t.sorted c.args.bucket.now c.args.prefix.now c.args.i c.before-k.result c.before-k.ensures.bound c.before-k.ensures.point;
      small = omega arith;
    }

pub key_end-k-requires : goal.key_end-k-requires
key_end-k-requires c =
    let rows = c.as_slice-rows.result.now in
    let found = listed_there rows c.loop-rows.k c.args.bucket.now c.args.prefix.now (sym c.is_listed_at.ensures ∙ c.loop-rows-test.true) in
    subst (λ x. c.loop-rows.k < length x) c.as_slice-rows.ensures.value found.1

-- the rows of one key more
pub loop-rows-preserved : goal.loop-rows-preserved
loop-rows-preserved c =
    let h = c.args.table.now.index.records.now in
    let rows = c.as_slice-rows.result.now in
    let bucket = c.args.bucket.now in
    let prefix = c.args.prefix.now in
    let t = subst (IsTable h) (sym c.as_slice-rows.ensures.value) c.args.table.now.made in
    let k = c.loop-rows.k in
    let p = c.before-in-loop-rows.result in
    let end = c.key_end-k.result in
    let found = listed_there rows k bucket prefix (sym c.is_listed_at.ensures ∙ c.loop-rows-test.true) in
    let here = get_or_from_slice_get rows k found.0 c.index-rows-k.result found.2.0 in
    let bound : end ≤ length rows = subst (λ x. end ≤ length x) (sym c.as_slice-rows.ensures.value) c.key_end-k.ensures.bound in
    let point = subst (λ x. IsKeyEnd x k (length h) end) (sym c.as_slice-rows.ensures.value) c.key_end-k.ensures.end in
    let told = row_out (ack_at h) (length h) rows t k found.0 found.1 in
    let early = row_within h told.0 found.0 (told.2 ∙ ap Some (get_or_from_slice_get rows k found.0 found.0 found.2.0)) in
    let before = subst (λ x. IsPartitionPoint (λ y. is_before bucket x.key c.args.i y ≡ true) (λ y. is_before bucket x.key c.args.i y ≡ false) rows p) here c.before-in-loop-rows.ensures.point in
    let next = count_next rows t.sorted bucket prefix c.args.i (length h) k p end found.0 found.2.0 found.2.1 early c.requires c.before-in-loop-rows.ensures.bound bound point before in
    let up : k ≤ end = omega (arith, c.key_end-k.ensures.further) in
    record {
      upto = bound;
      none = none_further rows bucket prefix k end up c.loop-rows.invariant.none;
      counted = next.1 ∙ (ap (λ n. n + (p - k)) c.loop-rows.invariant.counted ∙ ap (λ n. c.loop-rows.count + n) (sym c.saturating_sub-count.ensures));
      small = omega (arith, next.0, c.loop-rows.invariant.small, c.saturating_sub-count.ensures, up);
    }

-- all that is named was counted
pub returns : goal.returns
returns c =
    let h = c.args.table.now.index.records.now in
    let rows = c.as_slice-rows.result.now in
    let t = subst (IsTable h) (sym c.as_slice-rows.ensures.value) c.args.table.now.made in
    sym c.loop-rows.invariant.counted
    ∙ (count_end rows t.sorted c.args.bucket.now c.args.prefix.now c.args.i c.loop-rows.k c.loop-rows.invariant.none c.loop-rows.invariant.upto (sym c.is_listed_at.ensures ∙ c.loop-rows-test.false)
    ∙ ap (sum_by (λ r. one_if (is_listed_before c.args.bucket.now c.args.prefix.now c.args.i r))) c.as_slice-rows.ensures.value)
