use Rattle.serve_model.specs.Stores.{carry}
use Rattle.serve_cluster.proofs.Acting.{cause_more}
use Rattle.serve_cluster.proofs.Coming.{mid_state, carried_all, carried_lacks, job_lacks}
use Rattle.serve_cluster.proofs.changing.ChangingStorage.carry.Goals as goal

pub make_due-requires : goal.make_due-requires
make_due-requires c = record { state = mid_state c.args.self.now c.args.time (carry c.args.order) c.carry.new.self c.in-Ok.end c.in-Ok.ensures.carries c.requires.state }

pub returns-in-Ok-make_due-clause-carries : goal.returns-in-Ok-make_due-clause-carries
returns-in-Ok-make_due-clause-carries c = carried_all c.args.self.now c.args.time (carry c.args.order) c.carry.new.self c.in-Ok.end c.in-Ok.ensures.carries c.make_due.new.self c.in-Ok-make_due.ensures.does

pub returns-in-Err-make_due-clause-causes : goal.returns-in-Err-make_due-clause-causes
returns-in-Err-make_due-clause-causes c = cause_more c.in-Err-make_due.memory (carried_lacks c.args.self.now c.args.time (carry c.args.order) c.carry.new.self c.in-Ok.end c.in-Ok.ensures.carries) c.in-Err-make_due.ensures.causes

pub returns-in-Err-clause-causes : goal.returns-in-Err-clause-causes
returns-in-Err-clause-causes c = cause_more c.in-Err.memory (job_lacks c.args.self.now c.args.time (carry c.args.order)) c.in-Err.ensures.causes
