use Rattle.std.proofs.Common.{sym, ◌∙◌, ap}
use Rattle.std.specs.List.{sum_by}
use Rattle.world_history.specs.Table.{is_of, one_if}
use Rattle.world_history.proofs.Counts.{owed_to_key, owed_to_list}
use Rattle.world_history.proofs.pair_count.owed_to.Goals as goal

-- the rows of the keys that it names
pub returns-then-is_list : goal.returns-then-is_list
returns-then-is_list c =
    let table = c.args.table.now in
    let list = sym c.is_list.ensures ∙ c.if-is_list.true in
    c.writes_under.ensures ∙ owed_to_list table.index.records.now table.rows.items table.made c.args.i c.args.kind c.args.bucket.now c.args.own.now list c.requires

-- the rows of the key before the place are what it is owed
pub returns : goal.returns
returns c =
    let table = c.args.table.now in
    let no_list = sym c.is_list.ensures ∙ c.if-is_list.false in
    c.count.ensures
    ∙ (ap (sum_by (λ r. one_if (is_of c.args.bucket.now c.args.own.now c.args.i r))) c.as_slice.ensures.value
    ∙ owed_to_key table.index.records.now table.rows.items table.made c.args.i c.args.kind c.args.bucket.now c.args.own.now no_list c.requires)
