use Rattle.program_tests.proofs.lent.three_nodes.Goals as goal

-- the cluster stands for the state of its world
pub returns : goal.returns
returns c = record { state = (_, c.new.ensures c.in_ok-world.ensures.stands.0 c.in_ok-world.ensures.stands.1) }
