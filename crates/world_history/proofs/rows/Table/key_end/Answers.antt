use Rattle.std.proofs.Common.{◌≡◌, ◌<◌, Some, Option, true, false, length, refl, ap, sym, subst, ◌∙◌}
use Rattle.std.specs.List.Sorted.{IsPartitionPoint}
use Rattle.std.proofs.lemmas.Option.{slice_get_read}
use Rattle.world_history.specs.declared.rows.Row.{Row}
use Rattle.world_history.specs.Table.{ack_at, IsTable, is_before, IsKeyEnd}
use Rattle.world_history.proofs.Rowed.{row_out, row_within}
use Rattle.world_history.proofs.Listed.{end_further}
use Rattle.world_history.proofs.rows.Table.key_end.Goals as goal

-- the point that was found, for the row that is there
pub returns-clause-end : goal.returns-clause-end
returns-clause-end c =
    let n = length c.args.self.now.index.records.now in
    let rows = c.as_slice-rows.result.now in
    let inside : c.args.k < length rows = subst (λ x. c.args.k < length x) (sym c.as_slice-rows.ensures.value) c.requires in
    let at = slice_get_read rows (length rows) c.args.k c.index-rows-k.result refl inside c.index-rows-k.is in
    subst (λ x. IsKeyEnd x c.args.k n c.before-2.result) c.as_slice-rows.ensures.value
    (λ r there.
    let same : ◌≡◌ {A = Option Row} (Some c.index-rows-k.result) (Some r) = sym at ∙ there in
    let is : c.index-rows-k.result ≡ r = cc in
    subst (λ x. IsPartitionPoint (λ y. is_before x.bucket x.key n y ≡ true) (λ y. is_before x.bucket x.key n y ≡ false) rows c.before-2.result) is c.before-2.ensures.point)

-- the row itself stands before it
pub returns-clause-further : goal.returns-clause-further
returns-clause-further c =
    let h = c.args.self.now.index.records.now in
    let rows = c.as_slice-rows.result.now in
    let row = c.index-rows-k.result in
    let t = subst (IsTable h) (sym c.as_slice-rows.ensures.value) c.args.self.now.made in
    let inside : c.args.k < length rows = subst (λ x. c.args.k < length x) (sym c.as_slice-rows.ensures.value) c.requires in
    let at = slice_get_read rows (length rows) c.args.k row refl inside c.index-rows-k.is in
    let told = row_out (ack_at h) (length h) rows t c.args.k row inside in
    let whole : IsKeyEnd rows c.args.k (length h) c.before-2.result = subst (λ x. IsKeyEnd x c.args.k (length h) c.before-2.result) (sym c.as_slice-rows.ensures.value) (returns-clause-end c) in
    end_further rows t.sorted c.args.k (length h) c.before-2.result row at c.before-2.ensures.bound (whole row at) (row_within h told.0 row (told.2 ∙ ap Some (sym c.index-rows-k.is)))
