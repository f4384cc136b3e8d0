use Rattle.std.proofs.Common.{sym, ◌∙◌}
use Rattle.serve_cluster.proofs.Coming.{due_next, due_computed, due_within}
use Rattle.serve_cluster.proofs.changing.Changing.make_due.Goals as goal

pub change-requires-clause-state : goal.change-requires-clause-state
change-requires-clause-state c = (c.requires.state.0.cluster, c.requires.state.1.cluster)

pub change-requires-clause-computed : goal.change-requires-clause-computed
change-requires-clause-computed c = due_computed c.args.self.now c.remove-change.result c.remove-change.ensures.value c.requires.state.0 c.requires.state.1

pub change-requires-clause-within : goal.change-requires-clause-within
change-requires-clause-within c = λ k st. due_within c.args.self.now c.requires.state.0 c.requires.state.1 k st

pub returns-clause-does : goal.returns-clause-does
returns-clause-does c =
    due_next c.change.result c.args.self.now c.remove-change.result c.remove-change.ensures.value c.remove-change.new.self c.change.new.self c.remove-change.ensures.rest (λ m h. sym (c.is_due.ensures m h) ∙ c.if-not-is_due.false) c.change.ensures.does
