use Rattle.serve_cluster.proofs.changing.Changing.world.Goals as goal

pub returns : goal.returns
returns c = λ m h. c.world.ensures m.cluster h.cluster
