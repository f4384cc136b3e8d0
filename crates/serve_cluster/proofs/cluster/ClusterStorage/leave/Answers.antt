use Rattle.std.proofs.Common.{IfOk, false, subst}
use Rattle.store_model.specs.Run.{need_at}
use Rattle.serve_model.specs.Clusters.{decided, acts_opened}
use Rattle.serve_cluster.specs.Acting.{LacksRoom, Finishes}
use Rattle.serve_cluster.proofs.Acting.{causes_next}
use Rattle.serve_cluster.proofs.Uploading.{opened_store, left_next, silent_next, left_full, left_none}
use Rattle.serve_cluster.proofs.cluster.ClusterStorage.leave.Goals as goal

pub leave-requires : goal.leave-requires
leave-requires c = let on = c.requires.on_its_way.1 in opened_store c.args.self.now on.0 on.1 on.2 on.3 c.requires.on_its_way.0 on.4 c.in-Some.request c.in-Some.is

pub returns-in-Some-clause-given_up : goal.returns-in-Some-clause-given_up
returns-in-Some-clause-given_up c =
    left_next c.args.self.now c.in-Some.request c.in-Some.is c.leave.new.world c.leave.result
    (subst (λ ms. IfOk c.leave.result (λ end. Finishes c.args.self.now.world c.leave.new.world ms c.in-Some.request (λ s. decided false c.in-Some.request (need_at s c.in-Some.request)) end)) c.as_slice.ensures c.leave.ensures.does)

pub returns-in-Some-clause-silent : goal.returns-in-Some-clause-silent
returns-in-Some-clause-silent c =
    silent_next c.args.self.now c.in-Some.request c.in-Some.is c.leave.new.world c.leave.result
    (subst (λ ms. IfOk c.leave.result (λ end. Finishes c.args.self.now.world c.leave.new.world ms c.in-Some.request (λ s. decided false c.in-Some.request (need_at s c.in-Some.request)) end)) c.as_slice.ensures c.leave.ensures.does)

pub returns-in-Some-clause-causes : goal.returns-in-Some-clause-causes
returns-in-Some-clause-causes c =
    causes_next c.leave.result
    (λ full need m time u came h.
    left_full c.args.self.now m time u came need h c.in-Some.request c.in-Some.is
    (subst (λ ms. LacksRoom c.args.self.now.world (λ s. acts_opened ms s c.in-Some.request (decided false c.in-Some.request (need_at s c.in-Some.request)))) c.as_slice.ensures full))
    c.leave.ensures.causes

pub returns-in-None-clause-given_up : goal.returns-in-None-clause-given_up
returns-in-None-clause-given_up c = λ m time u came need job h is. left_none c.args.self.now m time u came need h c.in-None.is job is
