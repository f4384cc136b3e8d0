use Rattle.std.specs.Prelude.{◌++◌, ◌∷◌, [], not, cond, map, is_some}
use Rattle.std.proofs.Common.{ap, sym, ◌∙◌, append-nil}
use Rattle.table_model.specs.Rows.{find_row}
use Rattle.gc_model.specs.Collecting.{number_of}
use Rattle.node_parts.proofs.LookedAt.{mapped_some}
use Rattle.node_parts.proofs.collector.add_gone.Goals as goal

pub returns-then-is_some-clause-adds : goal.returns-then-is_some-clause-adds
returns-then-is_some-clause-adds g c =
    let o = c.args.collection.now in
    let there = ap (λ key. is_some (find_row g.S.Schema.words 1 key c.args.contents.now.table)) (sym c.as_slice.ensures) ∙ (ap is_some (sym c.get.ensures) ∙ (mapped_some (λ r. r.now) c.get.result ∙ (sym c.is_some.ensures ∙ c.if-is_some.true))) in
    sym (append-nil c.args.gone.now.items) ∙ ap (λ b. c.args.gone.now.items ++ map number_of (cond (not b) (o ∷ []) [])) (sym there)

pub returns-clause-adds : goal.returns-clause-adds
returns-clause-adds g c =
    let o = c.args.collection.now in
    let none = ap (λ key. is_some (find_row g.S.Schema.words 1 key c.args.contents.now.table)) (sym c.as_slice.ensures) ∙ (ap is_some (sym c.get.ensures) ∙ (mapped_some (λ r. r.now) c.get.result ∙ (sym c.is_some.ensures ∙ c.if-is_some.false))) in
    c.in_ok-push.ensures.items ∙ ap (λ b. c.args.gone.now.items ++ map number_of (cond (not b) (o ∷ []) [])) (sym none)
