use Rattle.std.proofs.Common.{sym, ◌∙◌}
use Rattle.std.proofs.lemmas.Result.{on_ok_weaker}
use Rattle.table_store.specs.Index.{has_key}
use Rattle.table_store.specs.Markers.{is_marked_at}
use Rattle.table_store.proofs.Marked.{adds_none, adds_it}
use Rattle.table_store.proofs.markers.add_one.Goals as goal

pub returns-then-not-is_marked-clause-adds : goal.returns-then-not-is_marked-clause-adds
returns-then-not-is_marked-clause-adds g c other =
    adds_none (is_marked_at g.S.Schema.words c.args.limit c.args.shelf.now.rows.entries) c.args.key.now other (has_key other c.args.keys.now.keys)
    (sym c.is_marked.ensures ∙ c.if-not-is_marked.true)

pub returns-clause-adds : goal.returns-clause-adds
returns-clause-adds g c =
    on_ok_weaker c.add_to.result
    (λ adds other. adds other ∙ adds_it (is_marked_at g.S.Schema.words c.args.limit c.args.shelf.now.rows.entries) c.args.key.now other (has_key other c.args.keys.now.keys)
    (sym c.is_marked.ensures ∙ c.if-not-is_marked.false))
    c.add_to.ensures.adds
