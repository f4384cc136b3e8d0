use Rattle.std.proofs.Common.{inl}
use Rattle.serve_model.specs.Stores.{leave}
use Rattle.serve_cluster.proofs.Acting.{cause_more}
use Rattle.serve_cluster.proofs.Coming.{upload_taken, upload_mid, upload_ends, upload_lacks}
use Rattle.serve_cluster.proofs.Uploading.{left_now}
use Rattle.serve_cluster.proofs.changing.ChangingStorage.leave.Goals as goal

pub leave-requires : goal.leave-requires
leave-requires c = let on = c.requires.on_its_way in record { on_its_way = (on.0, upload_taken c.args.self.now on.0 on.1) }

pub make_due-requires : goal.make_due-requires
make_due-requires c = record {
  state =
      let need = c.requires.on_its_way.0 in
      let on = c.requires.on_its_way.1 in
      upload_mid c.args.self.now c.leave.new.self on.0 on.1 on.2 on.3 need on.4 (leave on.2 on.3) c.in-Ok.end (c.in-Ok.ensures.given_up on.0.cluster on.1 on.2 on.3 need (leave on.2 on.3) on.4.cluster (left_now on.2 on.3 need));
}

pub returns-in-Ok-make_due-clause-given_up : goal.returns-in-Ok-make_due-clause-given_up
returns-in-Ok-make_due-clause-given_up c = λ m time u came need job h is.
    upload_ends c.args.self.now c.leave.new.self m time u came need h job c.in-Ok.end (c.in-Ok.ensures.given_up m.cluster time u came need job h.cluster is) c.make_due.new.self c.in-Ok-make_due.ensures.does

pub returns-in-Ok-make_due-clause-silent : goal.returns-in-Ok-make_due-clause-silent
returns-in-Ok-make_due-clause-silent c = λ m time u came h. c.in-Ok.ensures.silent m.cluster time u came h.cluster

pub returns-in-Err-make_due-clause-causes : goal.returns-in-Err-make_due-clause-causes
returns-in-Err-make_due-clause-causes c =
    cause_more c.in-Err-make_due.memory
    (λ full need m time u came h.
    upload_lacks c.args.self.now c.leave.new.self m time u came need h (leave u came) c.in-Ok.end (c.in-Ok.ensures.given_up m.cluster time u came need (leave u came) h.cluster (left_now u came need)) full)
    c.in-Err-make_due.ensures.causes

pub returns-in-Err-clause-causes : goal.returns-in-Err-clause-causes
returns-in-Err-clause-causes c = cause_more c.in-Err.memory (λ full need m time u came h. inl (full need m.cluster time u came h.cluster)) c.in-Err.ensures.causes
