use Rattle.std.proofs.Common.{None}
use Rattle.serve_cluster.specs.Giving.{Delivers}
use Rattle.serve_cluster.proofs.Acting.{ok_as, cause_more}
use Rattle.serve_cluster.proofs.Nexts.{drained_get, drain_lacks_next}
use Rattle.serve_cluster.proofs.getting.go_on.Goals as goal

pub work_and_end-requires : goal.work_and_end-requires
work_and_end-requires c = record {
  on_its_way =
      drained_get c.args.world.now c.deliver_on.new.world c.args.getting.now c.deliver_on.new.getting
      (ok_as (Delivers c.args.world.now c.deliver_on.new.world c.args.getting.now c.deliver_on.new.getting) c.deliver_on.result c.in-Ok-None.field-0 None c.in-Ok-None.is c.in-Ok-None.field-0-is c.deliver_on.ensures.delivers) c.requires;
}

pub returns-in-Err-clause-causes : goal.returns-in-Err-clause-causes
returns-in-Err-clause-causes c = cause_more c.in-Err.memory (λ full. drain_lacks_next c.args.world.now c.args.getting.now full c.args.members.now) c.in-Err.ensures.causes
