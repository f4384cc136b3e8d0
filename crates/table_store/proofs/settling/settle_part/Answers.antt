use Rattle.std.specs.Prelude.{◌≡◌, [], None, Some, is_some, refl}
use Rattle.std.proofs.Common.{ap, sym, ◌∙◌, subst}
use Rattle.std.specs.Map.{keys_of}
use Rattle.std.specs.BTreeMap.{get}
use Rattle.std.specs.Ordering.{nat_cmp}
use Rattle.table_model.specs.Top.{any_unspelled}
use Rattle.table_store.specs.Index.{entries_in}
use Rattle.table_store.specs.Shelf.{shelf_rows}
use Rattle.table_store.specs.Settled.{AllFit}
use Rattle.table_store.proofs.Partitions.{are_there, none_in}
use Rattle.table_store.proofs.Putting.{fit_one, settled_one}
use Rattle.table_store.proofs.Settled.{all_written}
use Rattle.table_store.proofs.settling.settle_part.Goals as goal

pub settle_rows-requires : goal.settle_rows-requires
settle_rows-requires g c = c.requires c.args.p c.in-Some.part.now (sym c.in-Some.ensures.value)

pub returns-in_err-settle_rows-in-Some-clause-settles : goal.returns-in_err-settle_rows-in-Some-clause-settles
returns-in_err-settle_rows-in-Some-clause-settles g c =
    let index = c.args.shelf.now.index in
    let later = c.get_mut.follows.lender c.settle_rows.new.part in
    let there = sym c.in-Some.ensures.value in
    let puts = ((c.get_mut.follows.holds c.settle_rows.new.part).3 (ap is_some there)).0 in
    record {
      rows = refl;
      markers = refl;
      fits = fit_one index later c.args.p c.in-Some.part.now c.settle_rows.new.part there puts g.S.Schema.words c.args.shelf.now.rows.entries c.settle_rows.ensures.fits c.requires;
    }

pub returns-in-None-clause-settles : goal.returns-in-None-clause-settles
returns-in-None-clause-settles g c = record {
  rows = refl;
  markers = refl;
  fits = subst (λ index. AllFit g.S.Schema.words index c.args.shelf.now.rows.entries) (sym c.get_mut.follows.holds-at-none) c.requires;
}

pub returns-in-None-clause-settled : goal.returns-in-None-clause-settled
returns-in-None-clause-settled g c part found =
    let wrong : None ≡ Some part = c.in-None.ensures.value ∙ (ap (λ m. get nat_cmp m c.args.p) (sym c.get_mut.follows.holds-at-none) ∙ found) in
    cc

pub returns-in-None-clause-written : goal.returns-in-None-clause-written
returns-in-None-clause-written g c =
    let p = c.args.p in
    let entries = c.args.shelf.now.rows.entries in
    let none = none_in p entries (are_there c.args.shelf.now.index p [] entries (ap (λ o. keys_of (entries_in o)) (sym c.in-None.ensures.value)) c.args.shelf.now.indexed) in
    ap (λ es. any_unspelled g.S.Schema.words (shelf_rows es)) none

pub returns-in_ok-settle_rows-in-Some-clause-settles : goal.returns-in_ok-settle_rows-in-Some-clause-settles
returns-in_ok-settle_rows-in-Some-clause-settles g c =
    let index = c.args.shelf.now.index in
    let later = c.get_mut.follows.lender c.settle_rows.new.part in
    let there = sym c.in-Some.ensures.value in
    let puts = ((c.get_mut.follows.holds c.settle_rows.new.part).3 (ap is_some there)).0 in
    record {
      rows = refl;
      markers = refl;
      fits = fit_one index later c.args.p c.in-Some.part.now c.settle_rows.new.part there puts g.S.Schema.words c.args.shelf.now.rows.entries c.settle_rows.ensures.fits c.requires;
    }

pub returns-in_ok-settle_rows-in-Some-clause-settled : goal.returns-in_ok-settle_rows-in-Some-clause-settled
returns-in_ok-settle_rows-in-Some-clause-settled g c =
    let index = c.args.shelf.now.index in
    let later = c.get_mut.follows.lender c.settle_rows.new.part in
    let there = sym c.in-Some.ensures.value in
    let puts = ((c.get_mut.follows.holds c.settle_rows.new.part).3 (ap is_some there)).0 in
    settled_one index later c.args.p c.in-Some.part.now c.settle_rows.new.part there puts c.in_ok-settle_rows-in-Some.ensures.settled

pub returns-in_ok-settle_rows-in-Some-clause-written : goal.returns-in_ok-settle_rows-in-Some-clause-written
returns-in_ok-settle_rows-in-Some-clause-written g c =
    let p = c.args.p in
    let entries = c.args.shelf.now.rows.entries in
    let part = c.settle_rows.new.part in
    let there = sym c.in-Some.ensures.value in
    all_written g.S.Schema.words p entries part c.settle_rows.ensures.fits c.in_ok-settle_rows-in-Some.ensures.settled c.are_in_order.ensures c.settle_rows.ensures.ordered
    (are_there c.args.shelf.now.index p (keys_of part.pairs.entries) entries (ap (λ o. keys_of (entries_in o)) there ∙ sym c.settle_rows.ensures.keys) c.args.shelf.now.indexed)
