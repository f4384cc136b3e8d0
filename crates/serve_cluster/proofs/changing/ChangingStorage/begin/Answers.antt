use Rattle.flow_model.specs.declared.order.Order.TheVariants.{Get}
use Rattle.serve_model.specs.Stores.{carry}
use Rattle.serve_cluster.proofs.Acting.{cause_more}
use Rattle.serve_cluster.proofs.Coming.{get_begins, job_lacks}
use Rattle.serve_cluster.proofs.changing.ChangingStorage.begin.Goals as goal

pub returns-in-Ok-clause-begins : goal.returns-in-Ok-clause-begins
returns-in-Ok-clause-begins c = get_begins c.args.self.now c.begin.new.self c.args.time (Get c.args.bucket c.args.key) c.in-Ok.ensures.begins

pub returns-in-Err-clause-causes : goal.returns-in-Err-clause-causes
returns-in-Err-clause-causes c = cause_more c.in-Err.memory (job_lacks c.args.self.now c.args.time (carry (Get c.args.bucket c.args.key))) c.in-Err.ensures.causes
