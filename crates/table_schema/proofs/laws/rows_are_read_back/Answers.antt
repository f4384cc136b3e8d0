use Rattle.table_schema.proofs.laws.rows_are_read_back.Goals as goal

pub returns-clause-proper : goal.returns-clause-proper
returns-clause-proper g c = let laws = g.met.S.Schema.laws in λ r bytes is. laws.spelled_is_proper r bytes ((laws.reads_back r bytes).0 is)
