use Rattle.std.specs.Prelude.{◌||◌}
use Rattle.std.proofs.Common.{ap, sym, ◌∙◌}
use Rattle.std.proofs.lemmas.Result.{on_ok_weaker}
use Rattle.table_model.specs.Rows.{find_row}
use Rattle.table_store.specs.Index.{has_key}
use Rattle.table_store.specs.Markers.{is_marked}
use Rattle.table_store.proofs.Tables.{find_first}
use Rattle.table_store.proofs.table.Table.add_marked.Goals as goal

pub returns-clause-adds : goal.returns-clause-adds
returns-clause-adds g c = on_ok_weaker c.add_marked.result (λ adds key.
    let words = g.S.Schema.words in
    let inside = c.self.inside in
    adds key
    ∙ ap (λ o. has_key key c.args.keys.now.keys || is_marked words c.args.limit o)
    (sym (find_first words inside.first.rows.entries inside.second.rows.entries inside.third.rows.entries c.self.invariant.sound.in_first c.self.invariant.sound.in_second c.self.invariant.sound.in_third key)
    ∙ ap (find_row words 1 key) c.self.view_is)) c.add_marked.ensures.adds
