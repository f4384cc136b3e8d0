use Rattle.std.specs.Prelude.{◌≡◌, Bool, List, filter, IfOk}
use Rattle.std.proofs.Common.{ap, sym, ◌∙◌, subst}
use Rattle.std.proofs.lemmas.List.Elements.{filter_agree}
use Rattle.std.specs.BTreeMap.Range.{is_from_start}
use Rattle.std.proofs.Math.Bool.{and-true}
use Rattle.table_store.specs.Shelf.{shelf_rows, begins, is_after, leading, window, vec_cmp}
use Rattle.table_store.proofs.Windows.{is_from, window_is}
use Rattle.table_store.proofs.window.rows_past.Goals as goal

pub returns-clause-is : goal.returns-clause-is
returns-clause-is g c =
    let prefix = c.args.prefix.now in
    let after = c.args.after.now in
    let entries = c.args.shelf.now.rows.entries in
    let from = filter_agree _ (is_from prefix after) (λ e. and-true (is_from_start vec_cmp c.in_ok-start.start e.0) ∙ c.in_ok-start.ensures.is e.0) entries in
    let same : leading (begins prefix) c.range.result ≡ filter (is_after prefix after) entries =
    ap (leading (begins prefix)) (c.range.ensures.between tt ∙ from) ∙ sym (window_is prefix after entries c.range.ensures.ordered) in
    subst (λ es. IfOk c.first_rows.result (λ found. ◌≡◌ {A = List g.row.R.Denot × Bool} (found.0.items, found.1) (window c.args.limit (shelf_rows es)))) same c.first_rows.ensures.is
