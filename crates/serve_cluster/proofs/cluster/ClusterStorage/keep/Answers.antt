use Rattle.std.proofs.Common.{IfOk, Some, refl, subst, ◌∷◌}
use Rattle.store_model.specs.Acts.{keeps}
use Rattle.serve_model.specs.Clusters.{delivered, acts_opened}
use Rattle.serve_cluster.specs.Acting.{LacksRoom, Finishes}
use Rattle.serve_cluster.proofs.Acting.{causes_next}
use Rattle.serve_cluster.proofs.Uploading.{opened_store, may_keep, kept_next, kept_full, none_taken}
use Rattle.serve_cluster.proofs.cluster.ClusterStorage.keep.Goals as goal

pub keep-requires-clause-stands : goal.keep-requires-clause-stands
keep-requires-clause-stands c = let on = c.requires.whole in opened_store c.args.self.now on.0 on.1 on.2 on.3 (Some 0) on.4 c.in-Some.request c.in-Some.is

pub keep-requires-clause-needed : goal.keep-requires-clause-needed
keep-requires-clause-needed c = let on = c.requires.whole in may_keep c.args.self.now on.0 on.1 on.2 on.3 (Some 0) on.4 c.in-Some.request c.in-Some.is refl

pub returns-in-Some-clause-kept : goal.returns-in-Some-clause-kept
returns-in-Some-clause-kept c =
    kept_next c.args.self.now c.in-Some.request c.in-Some.is c.keep.new.world c.keep.result
    (subst (λ ms. IfOk c.keep.result (λ end. Finishes c.args.self.now.world c.keep.new.world ms c.in-Some.request (λ _. keeps c.in-Some.request ∷ delivered) end)) c.as_slice.ensures c.keep.ensures.does)

pub returns-in-Some-clause-causes : goal.returns-in-Some-clause-causes
returns-in-Some-clause-causes c =
    causes_next c.keep.result
    (λ full m time u came h.
    kept_full c.args.self.now m time u came (Some 0) h c.in-Some.request c.in-Some.is refl
    (subst (λ ms. LacksRoom c.args.self.now.world (λ s. acts_opened ms s c.in-Some.request (keeps c.in-Some.request ∷ delivered))) c.as_slice.ensures full))
    c.keep.ensures.causes

pub returns-in-None-clause-kept : goal.returns-in-None-clause-kept
returns-in-None-clause-kept c = λ m time u came h. none_taken c.args.self.now m time u came 0 c.in-None.is h
