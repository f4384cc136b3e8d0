use Rattle.std.specs.Prelude.{◌++◌, filter}
use Rattle.std.proofs.Common.{ap, ◌∙◌, append_assoc}
use Rattle.table_model.specs.Rows.{rows_in}
use Rattle.table_store.specs.Notes.{is_among}
use Rattle.table_store.specs.Whole.{rows_at}
use Rattle.table_store.proofs.NotedRows.{among_is}
use Rattle.table_store.proofs.Wholes.{filter_rows}
use Rattle.table_store.proofs.table.Table.noted_rows.Goals as goal

pub returns-clause-are : goal.returns-clause-are
returns-clause-are g c =
    let words = g.S.Schema.words in
    let inside = c.self.inside in
    let p = c.args.p in
    let test = is_among words c.in_ok-notes.notes in
    let a = filter test (rows_at p inside.first) in
    let b = filter test (rows_at p inside.second) in
    let d = filter test (rows_at p inside.third) in
    c.in_ok-push_noted-3.ensures.rows
    ∙ (ap (λ l. l ++ d) (c.in_ok-push_noted-2.ensures.rows ∙ ap (λ l. l ++ b) (c.in_ok-push_noted.ensures.rows ∙ ap (λ l. l ++ a) c.new-rows.ensures.items))
    ∙ (append_assoc a b d
    ∙ (filter_rows words inside.first.rows.entries inside.second.rows.entries inside.third.rows.entries c.self.invariant.sound p test
    ∙ (ap (λ rows. filter test (rows_in words p rows)) c.self.view_is
    ∙ ap (λ one. filter one (rows_in words p c.args.self.now)) (among_is words c.args.noted.now c.in_ok-notes.notes c.in_ok-notes.ensures.are)))))
