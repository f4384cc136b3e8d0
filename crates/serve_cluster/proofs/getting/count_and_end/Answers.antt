use Rattle.serve_cluster.proofs.Acting.{causes_next}
use Rattle.serve_cluster.proofs.Nexts.{one_less, got_counted, lacks_counted}
use Rattle.serve_cluster.proofs.getting.count_and_end.Goals as goal

pub end-requires-clause-on_its_way : goal.end-requires-clause-on_its_way
end-requires-clause-on_its_way c = got_counted c.args.world.now c.args.getting.now c.in-Some.left c.requires.late (one_less c.in-Some.left c.args.getting.now.left c.in-Some.ensures.1) c.requires.on_its_way

pub returns-clause-causes : goal.returns-clause-causes
returns-clause-causes c = causes_next c.end.result (lacks_counted c.args.world.now c.args.getting.now c.in-Some.left c.requires.late (one_less c.in-Some.left c.args.getting.now.left c.in-Some.ensures.1)) c.end.ensures.causes
