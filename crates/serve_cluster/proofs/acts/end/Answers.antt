use Rattle.std.proofs.Common.{[], ◌++◌}
use Rattle.store_model.specs.Acts.{end_of}
use Rattle.serve_model.specs.Clusters.{round, acts_past_end, end_in}
use Rattle.serve_cluster.proofs.Acting.{store_kept, finish_next, lacks_kept, lacks_then, cause_more, causes_next}
use Rattle.serve_cluster.proofs.acts.end.Goals as goal

pub take-requires : goal.take-requires
take-requires c = store_kept c.args.world.now c.rounds.new.world (round c.args.members.now ++ round c.args.members.now) c.requires c.in-Ok.ensures.keeps

pub returns-in-Ok-clause-does : goal.returns-in-Ok-clause-does
returns-in-Ok-clause-does c = finish_next c.take.result c.args.world.now c.rounds.new.world c.take.new.world c.args.members.now c.args.request c.in-Ok.ensures.keeps c.take.ensures.does

pub returns-in-Ok-clause-causes : goal.returns-in-Ok-clause-causes
returns-in-Ok-clause-causes c =
    causes_next c.take.result (lacks_kept c.args.world.now c.rounds.new.world (round c.args.members.now ++ round c.args.members.now) (λ t. acts_past_end c.args.request (end_of t.ends c.args.request)) c.in-Ok.ensures.keeps) c.take.ensures.causes

pub returns-in-Err-clause-causes : goal.returns-in-Err-clause-causes
returns-in-Err-clause-causes c =
    cause_more c.in-Err.memory (lacks_then c.args.world.now (λ _. round c.args.members.now ++ round c.args.members.now) (λ s. acts_past_end c.args.request (end_in c.args.members.now s c.args.request []))) c.in-Err.ensures.causes
