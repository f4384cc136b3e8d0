use Rattle.std.proofs.Common.{◌≡◌, ◌+◌, None, IsSorted, length, refl, sym, subst, ap, ◌∙◌, arith}
use Rattle.std.proofs.lemmas.Option.{slice_get_read, get_or_from_slice_get}
use Rattle.world_history.specs.Table.{row_cmp, version_in, AreNewest}
use Rattle.world_history.specs.Checks.{newer_of}
use Rattle.world_history.proofs.Upto.{NewestUpto, upto_none, upto_more, upto_all}
use Rattle.world_history.proofs.latest.newest_upto.Goals as goal

pub loop-k-init : goal.loop-k-init
loop-k-init c = subst (λ all. NewestUpto c.args.table.now.index.records.now c.as_slice-rows.result.now 0 all None) (sym c.new-all.ensures.items) (upto_none c.args.table.now.index.records.now c.as_slice-rows.result.now None)

-- one row more
pub loop-k-preserved : goal.loop-k-preserved
loop-k-preserved c =
    let h = c.args.table.now.index.records.now in
    let rows = c.as_slice-rows.result.now in
    let k = c.loop-k.k in
    let sorted = subst (IsSorted row_cmp) (sym c.as_slice-rows.ensures.value) c.args.table.now.made.sorted in
    let at = slice_get_read rows (length rows) k c.index-rows-k.result refl c.loop-k-test.true c.index-rows-k.is in
    let here = get_or_from_slice_get rows k c.index-rows-k.result c.index-rows-k.result at in
    subst (λ all. NewestUpto h rows (k + 1) all c.newer-newest.result) (sym c.in-Ok.ensures.items)
    (upto_more h rows sorted k c.index-rows-k.result at c.loop-k.all.items c.loop-k.newest c.from_before.result c.newer-newest.result c.loop-k.invariant c.from_before.ensures
    (c.newer-newest.ensures ∙ (ap (newer_of c.from_before.result) c.version_in.ensures ∙ ap (λ r. newer_of c.from_before.result (version_in h r.place)) here)))

pub returns-clause-told : goal.returns-clause-told
returns-clause-told c =
    let h = c.args.table.now.index.records.now in
    let rows = c.as_slice-rows.result.now in
    let all : c.loop-k.k ≡ length rows = omega arith in
    subst (λ x. AreNewest h x c.loop-k.all.items) c.as_slice-rows.ensures.value (upto_all h rows c.loop-k.k c.loop-k.all.items c.loop-k.newest all c.loop-k.invariant)
