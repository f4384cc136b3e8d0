use Rattle.std.proofs.Common.{[], ◌∷◌}
use Rattle.store_model.specs.Acts.{drain, all_messages}
use Rattle.serve_model.specs.Clusters.{works}
use Rattle.serve_cluster.proofs.Acting.{store_kept, keeps_next, lacks_kept, lacks_then, cause_more, causes_next}
use Rattle.serve_cluster.proofs.acts.round.Goals as goal

pub drain_all-requires : goal.drain_all-requires
drain_all-requires c = store_kept c.args.world.now c.work_all.new.world (works c.args.members.now) c.requires c.in-Ok.ensures.keeps

pub returns-in-Ok-clause-keeps : goal.returns-in-Ok-clause-keeps
returns-in-Ok-clause-keeps c = keeps_next c.drain_all.result c.args.world.now c.work_all.new.world c.drain_all.new.world (works c.args.members.now) (drain all_messages ∷ []) c.in-Ok.ensures.keeps c.drain_all.ensures.keeps

pub returns-in-Ok-clause-causes : goal.returns-in-Ok-clause-causes
returns-in-Ok-clause-causes c = causes_next c.drain_all.result (lacks_kept c.args.world.now c.work_all.new.world (works c.args.members.now) (λ _. drain all_messages ∷ []) c.in-Ok.ensures.keeps) c.drain_all.ensures.causes

pub returns-in-Err-clause-causes : goal.returns-in-Err-clause-causes
returns-in-Err-clause-causes c = cause_more c.in-Err.memory (lacks_then c.args.world.now (λ _. works c.args.members.now) (λ _. drain all_messages ∷ [])) c.in-Err.ensures.causes
