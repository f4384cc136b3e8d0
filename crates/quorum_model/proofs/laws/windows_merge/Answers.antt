use Rattle.quorum_model.proofs.Windows.{window_ascends, window_row}
use Rattle.quorum_model.proofs.laws.windows_merge.Goals as goal

pub returns-clause-ascends : goal.returns-clause-ascends
returns-clause-ascends g c = window_ascends g.S.Row.Crdt.join g.S.Schema.words g.met.S.Schema.laws

pub returns-clause-rows : goal.returns-clause-rows
returns-clause-rows g c = window_row g.S.Row.Crdt.join g.S.Schema.words g.met.S.Schema.laws
