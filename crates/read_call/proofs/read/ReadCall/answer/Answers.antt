use Rattle.std.proofs.Common.{Some, ap, sym, subst, ◌∙◌, ◌++◌, [], ◌∷◌}
use Rattle.std.specs.Prelude.{option_map}
use Rattle.quorum_model.specs.Answers.{merged}
use Rattle.read_call.specs.Stands.{Waits}
use Rattle.read_call.proofs.Hearing.{first_heard, again_heard, second_heard, later_heard, none_heard}
use Rattle.read_call.proofs.read.ReadCall.answer.Goals as goal

pub returns-then-not-is_asked-clause-value : goal.returns-then-not-is_asked-clause-value
returns-then-not-is_asked-clause-value g c nodes answers s = ap (option_map (merged g.R.Crdt.join)) (none_heard c.args.self.now.nodes nodes answers (c.args.node, c.args.row) c.args.self.now.progress s (sym c.is_asked.ensures ∙ c.if-not-is_asked.true)).1

pub returns-then-not-is_asked-clause-stands : goal.returns-then-not-is_asked-clause-stands
returns-then-not-is_asked-clause-stands g c nodes answers s = (none_heard c.args.self.now.nodes nodes answers (c.args.node, c.args.row) c.args.self.now.progress s (sym c.is_asked.ensures ∙ c.if-not-is_asked.true)).0

pub returns-in-Over-clause-value : goal.returns-in-Over-clause-value
returns-in-Over-clause-value g c nodes answers s = ap (option_map (merged g.R.Crdt.join)) (later_heard c.args.self.now.nodes nodes answers (c.args.node, c.args.row) c.args.self.now.progress c.in-Over.ensures.value s (sym c.is_asked.ensures ∙ c.if-not-is_asked.false)).1

pub returns-in-Over-clause-stands : goal.returns-in-Over-clause-stands
returns-in-Over-clause-stands g c nodes answers s =
    subst (λ q. Waits c.args.self.now.nodes q nodes (answers ++ (c.args.node, c.args.row) ∷ [])) (sym c.in-Over.ensures.after) (later_heard c.args.self.now.nodes nodes answers (c.args.node, c.args.row) c.args.self.now.progress c.in-Over.ensures.value s (sym c.is_asked.ensures ∙ c.if-not-is_asked.false)).0

pub returns-in-Asked-clause-value : goal.returns-in-Asked-clause-value
returns-in-Asked-clause-value g c nodes answers s = ap (option_map (merged g.R.Crdt.join)) (first_heard c.args.self.now.nodes nodes answers (c.args.node, c.args.row) c.args.self.now.progress c.in-Asked.ensures.value s (sym c.is_asked.ensures ∙ c.if-not-is_asked.false)).1

pub returns-in-Asked-clause-stands : goal.returns-in-Asked-clause-stands
returns-in-Asked-clause-stands g c nodes answers s = (first_heard c.args.self.now.nodes nodes answers (c.args.node, c.args.row) c.args.self.now.progress c.in-Asked.ensures.value s (sym c.is_asked.ensures ∙ c.if-not-is_asked.false)).0

pub returns-then-first-node-clause-value : goal.returns-then-first-node-clause-value
returns-then-first-node-clause-value g c nodes answers s = ap (option_map (merged g.R.Crdt.join)) (again_heard c.args.self.now.nodes nodes answers (c.args.node, c.args.row) c.args.self.now.progress c.in-Answered.first c.in-Answered.have c.in-Answered.ensures.value c.if-first-node.true s (sym c.is_asked.ensures ∙ c.if-not-is_asked.false)).1

pub returns-then-first-node-clause-stands : goal.returns-then-first-node-clause-stands
returns-then-first-node-clause-stands g c nodes answers s = (again_heard c.args.self.now.nodes nodes answers (c.args.node, c.args.row) c.args.self.now.progress c.in-Answered.first c.in-Answered.have c.in-Answered.ensures.value c.if-first-node.true s (sym c.is_asked.ensures ∙ c.if-not-is_asked.false)).0

pub returns-in-Ok-clause-value : goal.returns-in-Ok-clause-value
returns-in-Ok-clause-value g c nodes answers s = ap Some c.in-Ok.ensures.joined ∙ ap (option_map (merged g.R.Crdt.join)) (second_heard c.args.self.now.nodes nodes answers (c.args.node, c.args.row) c.args.self.now.progress c.in-Answered.first c.in-Answered.have c.in-Answered.ensures.value c.if-first-node.false s (sym c.is_asked.ensures ∙ c.if-not-is_asked.false)).1

pub returns-in-Ok-clause-stands : goal.returns-in-Ok-clause-stands
returns-in-Ok-clause-stands g c nodes answers s =
    subst (λ q. Waits c.args.self.now.nodes q nodes (answers ++ (c.args.node, c.args.row) ∷ [])) (sym c.in-Answered.ensures.after) (second_heard c.args.self.now.nodes nodes answers (c.args.node, c.args.row) c.args.self.now.progress c.in-Answered.first c.in-Answered.have c.in-Answered.ensures.value c.if-first-node.false s (sym c.is_asked.ensures ∙ c.if-not-is_asked.false)).0
