use Rattle.std.proofs.Common.{[]}
use Rattle.serve_model.specs.Clusters.{delivered}
use Rattle.serve_cluster.proofs.Acting.{store_kept, finish_more, finish_lacks, begin_lacks, cause_more, causes_next}
use Rattle.serve_cluster.proofs.acts.finish.Goals as goal

pub end-requires : goal.end-requires
end-requires c = store_kept c.args.world.now c.drain_all.new.world delivered c.requires c.in-Ok.ensures.keeps

pub returns-in-Ok-clause-does : goal.returns-in-Ok-clause-does
returns-in-Ok-clause-does c = finish_more c.args.world.now c.drain_all.new.world c.args.members.now c.args.request delivered (λ _. []) c.end.result c.end.new.world c.in-Ok.ensures.keeps c.end.ensures.does

pub returns-in-Ok-clause-causes : goal.returns-in-Ok-clause-causes
returns-in-Ok-clause-causes c = causes_next c.end.result (finish_lacks c.args.world.now c.drain_all.new.world c.args.members.now c.args.request delivered (λ _. []) c.in-Ok.ensures.keeps) c.end.ensures.causes

pub returns-in-Err-clause-causes : goal.returns-in-Err-clause-causes
returns-in-Err-clause-causes c = cause_more c.in-Err.memory (begin_lacks c.args.world.now c.args.members.now c.args.request delivered (λ _. [])) c.in-Err.ensures.causes
