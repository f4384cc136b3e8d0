use Rattle.std.specs.Prelude.{[]}
use Rattle.std.proofs.Common.{ap, sym, ◌∙◌, subst}
use Rattle.std.specs.List.{list_all}
use Rattle.std.specs.Map.{keys_of}
use Rattle.table_store.specs.Index.{entries_in}
use Rattle.table_store.specs.Shelf.{is_indexed}
use Rattle.table_store.specs.Settled.{AllFit}
use Rattle.table_store.proofs.Fitting.{fit_without}
use Rattle.table_store.proofs.Keys.{removed_others}
use Rattle.table_store.proofs.Partitions.{are_there, all_out, kept_others, indexed_without}
use Rattle.table_store.proofs.shelf.drop_rows.Goals as goal

pub invariant_of-shelf-in-Some : goal.invariant_of-shelf-in-Some
invariant_of-shelf-in-Some g c =
    let p = c.args.p in
    let index = c.args.shelf.now.index in
    let entries = c.args.shelf.now.rows.entries in
    let keys = keys_of c.in-Some.part.now.pairs.entries in
    let there = are_there index p keys entries (ap (λ o. keys_of (entries_in o)) (sym c.in-Some.ensures.value)) c.args.shelf.now.indexed in
    record {
      indexed =
          ap (list_all (is_indexed c.remove.new.self)) (c.drop_keys.ensures.rows ∙ kept_others p keys entries there)
          ∙ indexed_without p index c.remove.new.self (removed_others index c.remove.new.self p c.remove.ensures.updates.0) entries c.args.shelf.now.indexed;
    }

pub returns-in-Some-clause-rows : goal.returns-in-Some-clause-rows
returns-in-Some-clause-rows g c =
    let p = c.args.p in
    let entries = c.args.shelf.now.rows.entries in
    let keys = keys_of c.in-Some.part.now.pairs.entries in
    c.drop_keys.ensures.rows
    ∙ kept_others p keys entries (are_there c.args.shelf.now.index p keys entries (ap (λ o. keys_of (entries_in o)) (sym c.in-Some.ensures.value)) c.args.shelf.now.indexed)

pub returns-in-None-clause-rows : goal.returns-in-None-clause-rows
returns-in-None-clause-rows g c =
    let p = c.args.p in
    let entries = c.args.shelf.now.rows.entries in
    sym (all_out p entries (are_there c.args.shelf.now.index p [] entries (ap (λ o. keys_of (entries_in o)) (sym c.in-None.ensures.value)) c.args.shelf.now.indexed))

pub returns-in-Some-clause-fits : goal.returns-in-Some-clause-fits
returns-in-Some-clause-fits g c s fit =
    let p = c.args.p in
    let index = c.args.shelf.now.index in
    let entries = c.args.shelf.now.rows.entries in
    let keys = keys_of c.in-Some.part.now.pairs.entries in
    let rows = c.drop_keys.ensures.rows ∙ kept_others p keys entries (are_there index p keys entries (ap (λ o. keys_of (entries_in o)) (sym c.in-Some.ensures.value)) c.args.shelf.now.indexed) in
    subst (AllFit s c.remove.new.self) (sym rows) (fit_without s index c.remove.new.self p entries c.are_in_order.ensures c.remove.ensures.updates.0 fit)

pub returns-in-Some-clause-marked : goal.returns-in-Some-clause-marked
returns-in-Some-clause-marked g c = c.drop_keys.ensures.marked
