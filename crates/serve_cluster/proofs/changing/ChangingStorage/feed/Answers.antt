use Rattle.std.proofs.Common.{inl, length, Some, ◌++◌}
use Rattle.serve_cluster.proofs.Acting.{cause_more}
use Rattle.serve_cluster.proofs.Coming.{upload_taken, upload_goes}
use Rattle.serve_cluster.proofs.changing.ChangingStorage.feed.Goals as goal

pub feed-requires-clause-needed : goal.feed-requires-clause-needed
feed-requires-clause-needed c = upload_taken c.args.self.now (Some (length c.args.bytes)) c.requires.needed

pub returns-in-Ok-clause-takes : goal.returns-in-Ok-clause-takes
returns-in-Ok-clause-takes c = λ m time u came h. upload_goes c.args.self.now c.feed.new.self m time u (came ++ c.args.bytes) c.in-Ok.need h.staged h.to_come (c.in-Ok.ensures.takes m.cluster time u came h.cluster)

pub returns-in-Err-clause-causes : goal.returns-in-Err-clause-causes
returns-in-Err-clause-causes c = cause_more c.in-Err.memory (λ full m time u came h. inl (full m.cluster time u came h.cluster)) c.in-Err.ensures.causes
