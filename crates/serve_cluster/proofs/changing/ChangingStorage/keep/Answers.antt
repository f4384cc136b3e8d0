use Rattle.std.proofs.Common.{inl, Some}
use Rattle.serve_model.specs.Stores.{keep}
use Rattle.serve_cluster.proofs.Acting.{cause_more}
use Rattle.serve_cluster.proofs.Coming.{upload_taken, upload_mid, upload_ends, upload_lacks}
use Rattle.serve_cluster.proofs.changing.ChangingStorage.keep.Goals as goal

pub keep-requires : goal.keep-requires
keep-requires c = record { whole = upload_taken c.args.self.now (Some 0) c.requires.whole }

pub make_due-requires : goal.make_due-requires
make_due-requires c = record {
  state = let on = c.requires.whole in upload_mid c.args.self.now c.keep.new.self on.0 on.1 on.2 on.3 (Some 0) on.4 (keep on.2 on.3) c.in-Ok.end (c.in-Ok.ensures.kept on.0.cluster on.1 on.2 on.3 on.4.cluster);
}

pub returns-in-Ok-make_due-clause-kept : goal.returns-in-Ok-make_due-clause-kept
returns-in-Ok-make_due-clause-kept c = λ m time u came h.
    upload_ends c.args.self.now c.keep.new.self m time u came (Some 0) h (keep u came) c.in-Ok.end (c.in-Ok.ensures.kept m.cluster time u came h.cluster) c.make_due.new.self c.in-Ok-make_due.ensures.does

pub returns-in-Err-make_due-clause-causes : goal.returns-in-Err-make_due-clause-causes
returns-in-Err-make_due-clause-causes c =
    cause_more c.in-Err-make_due.memory
    (λ full m time u came h. upload_lacks c.args.self.now c.keep.new.self m time u came (Some 0) h (keep u came) c.in-Ok.end (c.in-Ok.ensures.kept m.cluster time u came h.cluster) full)
    c.in-Err-make_due.ensures.causes

pub returns-in-Err-clause-causes : goal.returns-in-Err-clause-causes
returns-in-Err-clause-causes c = cause_more c.in-Err.memory (λ full m time u came h. inl (full m.cluster time u came h.cluster)) c.in-Err.ensures.causes
