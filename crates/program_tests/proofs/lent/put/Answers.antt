use Rattle.program_tests.proofs.lent.put.Goals as goal

-- the order leads to a state
pub returns : goal.returns
returns c = record { state = (_, (c.in_ok-end.ensures.carries c.requires.state.0 c.requires.state.1).stands) }
