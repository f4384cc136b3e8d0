use Rattle.serve_model.specs.Clusters.{round}
use Rattle.serve_cluster.proofs.Acting.{store_kept, keeps_next, lacks_kept, lacks_then, cause_more, causes_next}
use Rattle.serve_cluster.proofs.acts.rounds.Goals as goal

pub round-requires-in-Ok : goal.round-requires-in-Ok
round-requires-in-Ok c = store_kept c.args.world.now c.round.new.world (round c.args.members.now) c.requires c.in-Ok.ensures.keeps

pub returns-in-Ok-clause-keeps : goal.returns-in-Ok-clause-keeps
returns-in-Ok-clause-keeps c = keeps_next c.round-in-Ok.result c.args.world.now c.round.new.world c.round-in-Ok.new.world (round c.args.members.now) (round c.args.members.now) c.in-Ok.ensures.keeps c.round-in-Ok.ensures.keeps

pub returns-in-Ok-clause-causes : goal.returns-in-Ok-clause-causes
returns-in-Ok-clause-causes c = causes_next c.round-in-Ok.result (lacks_kept c.args.world.now c.round.new.world (round c.args.members.now) (λ _. round c.args.members.now) c.in-Ok.ensures.keeps) c.round-in-Ok.ensures.causes

pub returns-in-Err-clause-causes : goal.returns-in-Err-clause-causes
returns-in-Err-clause-causes c = cause_more c.in-Err.memory (lacks_then c.args.world.now (λ _. round c.args.members.now) (λ _. round c.args.members.now)) c.in-Err.ensures.causes
