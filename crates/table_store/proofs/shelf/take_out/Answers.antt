use Rattle.std.proofs.Common.{◌≡◌, Some, None, ap, sym, ◌∙◌}
use Rattle.std.specs.List.{list_all}
use Rattle.table_store.specs.Shelf.{is_indexed, placed_at, without_key}
use Rattle.table_store.proofs.Forgetting.{fit_forgotten, fit_stays, indexed_left, is_without, stays_under, without_is, without_none}
use Rattle.table_store.proofs.Partitions.{indexed_more}
use Rattle.table_store.proofs.Shelves.{none_there}
use Rattle.table_store.proofs.shelf.take_out.Goals as goal

pub invariant_of-shelf-in-Break-1 : goal.invariant_of-shelf-in-Break-1
invariant_of-shelf-in-Break-1 g c =
    let index = c.args.shelf.now.index in
    let entries = c.args.shelf.now.rows.entries in
    record { indexed = indexed_more index c.forget.new.index entries (stays_under index c.forget.new.index c.in-Some.placed.now.partition c.in_err-forget-in-Some.ensures.stays) c.args.shelf.now.indexed }

pub invariant_of-shelf-in-Some : goal.invariant_of-shelf-in-Some
invariant_of-shelf-in-Some g c =
    let index = c.args.shelf.now.index in
    let later = c.forget.new.index in
    let entries = c.args.shelf.now.rows.entries in
    record { indexed = ap (list_all (is_indexed later)) c.take_row-row.ensures.rows ∙ indexed_left index later c.in-Some.placed.now.partition c.args.key.now c.in_ok-forget-in-Some.ensures.forgets entries c.are_in_order.ensures c.args.shelf.now.indexed }

pub returns-in-None-clause-row : goal.returns-in-None-clause-row
returns-in-None-clause-row g c = sym (none_there c.args.key.now c.args.shelf.now.rows.entries (sym c.in-None.ensures.value))

pub returns-in-None-clause-rows : goal.returns-in-None-clause-rows
returns-in-None-clause-rows g c =
    let entries = c.args.shelf.now.rows.entries in
    sym (without_none c.args.key.now entries (sym c.in-None.ensures.value)) ∙ without_is c.args.key.now entries c.are_in_order.ensures

pub returns-in_ok-forget-in-Some-clause-rows : goal.returns-in_ok-forget-in-Some-clause-rows
returns-in_ok-forget-in-Some-clause-rows g c = c.take_row-row.ensures.rows ∙ without_is c.args.key.now c.args.shelf.now.rows.entries c.are_in_order.ensures

pub returns-in_err-forget-in-Some-clause-fits : goal.returns-in_err-forget-in-Some-clause-fits
returns-in_err-forget-in-Some-clause-fits g c fit =
    fit_stays g.S.Schema.words c.in-Some.placed.now.partition c.args.shelf.now.rows.entries c.args.shelf.now.index c.forget.new.index c.in_err-forget-in-Some.ensures.stays fit

pub returns-in_ok-forget-in-Some-clause-fits : goal.returns-in_ok-forget-in-Some-clause-fits
returns-in_ok-forget-in-Some-clause-fits g c fit =
    let entries = c.args.shelf.now.rows.entries in
    fit_forgotten g.S.Schema.words c.args.key.now entries c.take_row-row.new.rows.entries (is_without c.args.key.now entries c.take_row-row.new.rows.entries c.are_in_order.ensures c.take_row-row.ensures.rows)
    c.in-Some.placed.now (sym c.in-Some.ensures.value) c.args.shelf.now.index c.forget.new.index c.in_ok-forget-in-Some.ensures.forgets fit
