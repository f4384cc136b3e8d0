use Rattle.std.proofs.Common.{length, get_or, take, drop, ◌-◌}
use Rattle.serve_model.specs.Clusters.{works}
use Rattle.serve_cluster.proofs.Acting.{store_kept, one_lacks, cause_more, first_left, one_worked, all_worked}
use Rattle.serve_cluster.proofs.acts.work_all.Goals as goal

pub work-requires : goal.work-requires
work-requires c = store_kept c.args.world.now c.members.world (works c.members.invariant.done) c.requires c.members.invariant.keeps

pub members-preserved : goal.members-preserved
members-preserved c =
    one_worked c.args.world.now c.members.world c.work.new.world c.args.members.now c.members.rest.now (get_or c.members.rest.now 0 0) (take (length c.members.rest.now - 1) (drop 1 c.members.rest.now))
    (first_left c.members.rest.now c.members-test.ensures) c.members.invariant c.in-Ok.ensures.keeps

pub returns-in-Err-clause-causes : goal.returns-in-Err-clause-causes
returns-in-Err-clause-causes c = cause_more c.in-Err.memory (one_lacks c.args.world.now c.members.world c.args.members.now c.members.rest.now (get_or c.members.rest.now 0 0) (take (length c.members.rest.now - 1) (drop 1 c.members.rest.now))
    (first_left c.members.rest.now c.members-test.ensures) c.members.invariant) c.in-Err.ensures.causes

pub returns-clause-keeps : goal.returns-clause-keeps
returns-clause-keeps c = all_worked c.args.world.now c.members.world c.args.members.now c.members.rest.now c.members-test.ensures c.members.invariant
