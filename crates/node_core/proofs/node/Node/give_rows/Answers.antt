use Rattle.std.proofs.Common.{◌≡◌, Bool, true, List, [], ◌∷◌, ◌++◌, ap, sym, subst, ◌∙◌}
use Rattle.std.specs.List.{list_all}
use Rattle.table_model.specs.Rows.{rows, range}
use Rattle.wire_messages.specs.declared.message.Message.TheVariants.{Rows}
use Rattle.cluster_machine.specs.Layouts.{is_stored, layouts}
use Rattle.cluster_machine.specs.Phases.{is_spelled, to_each}
use Rattle.cluster_machine.specs.Receives.{most_rows}
use Rattle.node_parts.specs.Posts.{Posts}
use Rattle.node_parts.proofs.Faults.{ok_to}
use Rattle.node_core.proofs.Replies.{replies, sized_rows}
use Rattle.node_core.proofs.node.Node.give_rows.Goals as goal

pub returns-clause-answers : goal.returns-clause-answers
returns-clause-answers g c = ok_to c.send.result c.send.ensures.sent (λ sent id x is.
    let join = g.S.Row.Crdt.join in
    let s = g.S.Schema.words in
    let stored : is_stored layouts x.view c.args.at ≡ true = ap (λ v. is_stored layouts v c.args.at) (sym is.view) ∙ (sym c.is_stored.ensures ∙ c.if-not-is_stored.false) in
    let given = range s 1 (c.args.bucket.now.0 ++ c.args.prefix.now) (c.args.bucket.now.0 ++ c.args.after.now) most_rows (rows join s x.accepted) in
    let found : (c.in_ok-rows.rows.items, c.in_ok-rows.more) ≡ given =
    c.in_ok-rows.ensures.is ∙ (λ i. range s 1 ((c.as_slice.ensures ∙ c.in_ok-whole_prefix.ensures.is) i) ((c.as_slice-2.ensures ∙ c.in_ok-whole_after.ensures.is) i) most_rows (is.contents.table i)) in
    let sent_rows : Posts c.args.self.now.id c.args.out.now.items c.send.new.out.items (to_each (c.args.from ∷ []) (Rows c.args.request c.args.phase c.in_ok-rows.rows.items c.in_ok-rows.more)) =
    subst (λ rs. Posts c.args.self.now.id c.args.out.now.items c.send.new.out.items (to_each (c.args.from ∷ []) (Rows c.args.request c.args.phase rs c.in_ok-rows.more))) c.from_vec.ensures sent in
    rw stored (replies c.args.self.now id x c.args.from (Rows c.args.request c.args.phase given.0 given.1) (list_all (is_spelled s) given.0) c.args.out.now.items c.send.new.out.items is
    (subst (λ (f : List g.row.S-Row.Denot × Bool). Posts c.args.self.now.id c.args.out.now.items c.send.new.out.items (to_each (c.args.from ∷ []) (Rows c.args.request c.args.phase f.0 f.1))) found sent_rows)
    (sized_rows join s c.args.request c.args.phase given.0 given.1)))
