use Rattle.std.proofs.Common.{◌≡◌, true, [], ◌∷◌, ap, sym, subst, ◌∙◌}
use Rattle.table_model.specs.Rows.{row_at, find_row}
use Rattle.table_model.proofs.RowLaws.{row_found}
use Rattle.wire_messages.specs.declared.message.Message.TheVariants.{Row}
use Rattle.cluster_machine.specs.Layouts.{is_stored, layouts}
use Rattle.cluster_machine.specs.Phases.{to_each}
use Rattle.cluster_machine.specs.Receives.{is_sendable}
use Rattle.node_parts.specs.Posts.{Posts}
use Rattle.node_parts.proofs.Faults.{ok_to}
use Rattle.node_core.proofs.Replies.{replies, sized_row}
use Rattle.node_core.proofs.node.Node.give_row.Goals as goal

pub returns-clause-answers : goal.returns-clause-answers
returns-clause-answers g c = ok_to c.send.result c.send.ensures.sent (λ sent id x is.
    let join = g.S.Row.Crdt.join in
    let s = g.S.Schema.words in
    let stored : is_stored layouts x.view c.args.at ≡ true = ap (λ v. is_stored layouts v c.args.at) (sym is.view) ∙ (sym c.is_stored.ensures ∙ c.if-not-is_stored.false) in
    let found : c.in_ok-row.row ≡ row_at join s x.accepted c.args.table c.args.key.now =
    c.in_ok-row.ensures.is ∙ (ap (find_row s c.args.table c.args.key.now) is.contents.table ∙ row_found g.met.S.Schema.laws x.accepted c.args.table c.args.key.now is.contents.proper) in
    let m = Row c.args.request c.args.phase (row_at join s x.accepted c.args.table c.args.key.now) in
    rw stored (replies c.args.self.now id x c.args.from m (is_sendable join s (row_at join s x.accepted c.args.table c.args.key.now)) c.args.out.now.items c.send.new.out.items is
    (subst (λ row. Posts c.args.self.now.id c.args.out.now.items c.send.new.out.items (to_each (c.args.from ∷ []) (Row c.args.request c.args.phase row))) found sent)
    (sized_row join s c.args.request c.args.phase (row_at join s x.accepted c.args.table c.args.key.now))))
