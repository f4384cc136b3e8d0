use Rattle.range_laws.proofs.Ascending.{window_proper, window_table, window_named, window_ascends}
use Rattle.range_laws.proofs.windows_ascend.Goals as goal

pub returns-clause-proper : goal.returns-clause-proper
returns-clause-proper g c = λ join s laws position prefix after limit a b p q. window_proper laws position prefix after limit a b p q

pub returns-clause-table : goal.returns-clause-table
returns-clause-table g c = λ join s laws position prefix after limit a b p q. window_table laws position prefix after limit a b p q

pub returns-clause-named : goal.returns-clause-named
returns-clause-named g c = λ join s laws position prefix after limit a b long p q. window_named laws position prefix after limit a b p q long

pub returns-clause-ascending : goal.returns-clause-ascending
returns-clause-ascending g c = λ join s laws position prefix after limit a b p q. window_ascends laws position prefix after limit a b p q
