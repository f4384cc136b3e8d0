use Rattle.node_tests.proofs.times.two_long_ticks.Goals as goal

pub step-second-requires-clause-stands : goal.step-second-requires-clause-stands
step-second-requires-clause-stands c = (_, (c.in_ok-first.ensures.steps _ c.in_ok-world.ensures.stands).does.stands)
