use Rattle.std.proofs.Common.{[]}
use Rattle.serve_model.specs.Stores.{leave}
use Rattle.serve_cluster.proofs.Acting.{cause_more}
use Rattle.serve_cluster.proofs.Coming.{upload_goes, job_lacks}
use Rattle.serve_cluster.proofs.changing.ChangingStorage.receive.Goals as goal

pub returns-in-Ok-clause-takes : goal.returns-in-Ok-clause-takes
returns-in-Ok-clause-takes c = λ m st. upload_goes c.args.self.now c.receive.new.self m c.args.time c.args.upload [] c.in-Ok.need st.staged st.to_come (c.in-Ok.ensures.takes m.cluster st.cluster)

pub returns-in-Err-clause-causes : goal.returns-in-Err-clause-causes
returns-in-Err-clause-causes c = cause_more c.in-Err.memory (job_lacks c.args.self.now c.args.time (leave c.args.upload [])) c.in-Err.ensures.causes
