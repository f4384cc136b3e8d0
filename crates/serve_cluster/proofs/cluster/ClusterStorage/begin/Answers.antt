use Rattle.flow_model.specs.declared.order.Order.TheVariants.{Get}
use Rattle.serve_model.specs.Stores.{carry}
use Rattle.serve_cluster.specs.Standing.{StandsFor}
use Rattle.serve_cluster.proofs.Acting.{cause_more}
use Rattle.serve_cluster.proofs.Begun.{begins_so}
use Rattle.serve_cluster.proofs.Carrying.{asking_full}
use Rattle.serve_cluster.proofs.cluster.ClusterStorage.begin.Goals as goal

pub returns-in-Ok-clause-begins : goal.returns-in-Ok-clause-begins
returns-in-Ok-clause-begins c = begins_so c.ask.new.self c.begun-self.result c.args.time c.args.bucket c.args.key c.in-Ok.number (StandsFor c.args.self.now) c.begun-self.ensures c.in-Ok.ensures.asks

pub returns-in-Err-clause-causes : goal.returns-in-Err-clause-causes
returns-in-Err-clause-causes c = cause_more c.in-Err.memory (λ full m st. asking_full m c.args.time (carry (Get c.args.bucket c.args.key)) (full m st)) c.in-Err.ensures.causes
