use Rattle.std.proofs.Common.{Some, ap, sym, subst, ◌∙◌, ◌++◌, [], ◌∷◌}
use Rattle.std.specs.Prelude.{option_map}
use Rattle.quorum_model.specs.Window.{window}
use Rattle.read_call.specs.declared.progress.Progress.TheVariants.{Answered}
use Rattle.read_call.specs.Stands.{Waits}
use Rattle.read_call.proofs.Hearing.{first_heard, again_heard, second_heard, later_heard, none_heard}
use Rattle.read_call.proofs.range.RangeCall.answer.Goals as goal

pub returns-then-not-is_asked-clause-window : goal.returns-then-not-is_asked-clause-window
returns-then-not-is_asked-clause-window g c nodes answers s = ap (option_map (window g.S.Row.Crdt.join g.S.Schema.words)) (none_heard c.args.self.now.nodes nodes answers (c.args.node, record { rows = c.args.rows.items; more = c.args.more }) c.args.self.now.progress s (sym c.is_asked.ensures ∙ c.if-not-is_asked.true)).1

pub returns-then-not-is_asked-clause-stands : goal.returns-then-not-is_asked-clause-stands
returns-then-not-is_asked-clause-stands g c nodes answers s = (none_heard c.args.self.now.nodes nodes answers (c.args.node, record { rows = c.args.rows.items; more = c.args.more }) c.args.self.now.progress s (sym c.is_asked.ensures ∙ c.if-not-is_asked.true)).0

pub returns-in-Over-clause-window : goal.returns-in-Over-clause-window
returns-in-Over-clause-window g c nodes answers s = ap (option_map (window g.S.Row.Crdt.join g.S.Schema.words)) (later_heard c.args.self.now.nodes nodes answers (c.args.node, record { rows = c.args.rows.items; more = c.args.more }) c.args.self.now.progress c.in-Over.ensures.value s (sym c.is_asked.ensures ∙ c.if-not-is_asked.false)).1

pub returns-in-Over-clause-stands : goal.returns-in-Over-clause-stands
returns-in-Over-clause-stands g c nodes answers s =
    subst (λ q. Waits c.args.self.now.nodes q nodes (answers ++ (c.args.node, record { rows = c.args.rows.items; more = c.args.more }) ∷ [])) (sym c.in-Over.ensures.after) (later_heard c.args.self.now.nodes nodes answers (c.args.node, record { rows = c.args.rows.items; more = c.args.more }) c.args.self.now.progress c.in-Over.ensures.value s (sym c.is_asked.ensures ∙ c.if-not-is_asked.false)).0

pub returns-in-Asked-clause-window : goal.returns-in-Asked-clause-window
returns-in-Asked-clause-window g c nodes answers s = ap (option_map (window g.S.Row.Crdt.join g.S.Schema.words)) (first_heard c.args.self.now.nodes nodes answers (c.args.node, record { rows = c.args.rows.items; more = c.args.more }) c.args.self.now.progress c.in-Asked.ensures.value s (sym c.is_asked.ensures ∙ c.if-not-is_asked.false)).1

pub returns-in-Asked-clause-stands : goal.returns-in-Asked-clause-stands
returns-in-Asked-clause-stands g c nodes answers s =
    subst (λ r. Waits c.args.self.now.nodes (Answered c.args.node (record { rows = r; more = c.args.more })) nodes (answers ++ (c.args.node, record { rows = c.args.rows.items; more = c.args.more }) ∷ [])) (sym c.from_vec.ensures) (first_heard c.args.self.now.nodes nodes answers (c.args.node, record { rows = c.args.rows.items; more = c.args.more }) c.args.self.now.progress c.in-Asked.ensures.value s (sym c.is_asked.ensures ∙ c.if-not-is_asked.false)).0

pub returns-then-first-node-clause-window : goal.returns-then-first-node-clause-window
returns-then-first-node-clause-window g c nodes answers s = ap (option_map (window g.S.Row.Crdt.join g.S.Schema.words)) (again_heard c.args.self.now.nodes nodes answers (c.args.node, record { rows = c.args.rows.items; more = c.args.more }) c.args.self.now.progress c.in-Answered.first c.in-Answered.have c.in-Answered.ensures.value c.if-first-node.true s (sym c.is_asked.ensures ∙ c.if-not-is_asked.false)).1

pub returns-then-first-node-clause-stands : goal.returns-then-first-node-clause-stands
returns-then-first-node-clause-stands g c nodes answers s = (again_heard c.args.self.now.nodes nodes answers (c.args.node, record { rows = c.args.rows.items; more = c.args.more }) c.args.self.now.progress c.in-Answered.first c.in-Answered.have c.in-Answered.ensures.value c.if-first-node.true s (sym c.is_asked.ensures ∙ c.if-not-is_asked.false)).0

pub returns-in-Ok-clause-window : goal.returns-in-Ok-clause-window
returns-in-Ok-clause-window g c nodes answers s = ap Some (c.in-Ok.ensures.is ∙ ap (λ r. window g.S.Row.Crdt.join g.S.Schema.words (c.in-Answered.have, record { rows = r; more = c.args.more })) c.from_vec.ensures) ∙ ap (option_map (window g.S.Row.Crdt.join g.S.Schema.words)) (second_heard c.args.self.now.nodes nodes answers (c.args.node, record { rows = c.args.rows.items; more = c.args.more }) c.args.self.now.progress c.in-Answered.first c.in-Answered.have c.in-Answered.ensures.value c.if-first-node.false s (sym c.is_asked.ensures ∙ c.if-not-is_asked.false)).1

pub returns-in-Ok-clause-stands : goal.returns-in-Ok-clause-stands
returns-in-Ok-clause-stands g c nodes answers s =
    subst (λ q. Waits c.args.self.now.nodes q nodes (answers ++ (c.args.node, record { rows = c.args.rows.items; more = c.args.more }) ∷ [])) (sym c.in-Answered.ensures.after) (second_heard c.args.self.now.nodes nodes answers (c.args.node, record { rows = c.args.rows.items; more = c.args.more }) c.args.self.now.progress c.in-Answered.first c.in-Answered.have c.in-Answered.ensures.value c.if-first-node.false s (sym c.is_asked.ensures ∙ c.if-not-is_asked.false)).0
