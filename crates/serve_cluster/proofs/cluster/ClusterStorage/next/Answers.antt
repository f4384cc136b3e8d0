use Rattle.std.proofs.Common.{IfOk, subst}
use Rattle.serve_cluster.specs.Giving.{GivesNext, LacksGetting}
use Rattle.serve_cluster.proofs.Acting.{causes_next}
use Rattle.serve_cluster.proofs.Begun.{has_got, next_ok, next_full, gives_first_part, may_give}
use Rattle.serve_cluster.proofs.cluster.ClusterStorage.next.Goals as goal

pub go_on-requires : goal.go_on-requires
go_on-requires c = let on = c.requires.on_its_way in has_got c.args.self.now c.in-Some.getting c.in-Some.is on.0 on.1 on.2 on.3 on.4

pub returns-in-Some-clause-goes : goal.returns-in-Some-clause-goes
returns-in-Some-clause-goes c =
    next_ok c.args.self.now c.in-Some.getting c.in-Some.is c.go_on.new.world c.go_on.new.getting c.go_on.result c.go_on.ensures.same
    (subst (λ ms. IfOk c.go_on.result (λ got. GivesNext c.args.self.now.world c.go_on.new.world ms c.in-Some.getting c.go_on.new.getting got)) c.as_slice.ensures c.go_on.ensures.gives)

pub returns-in-Some-clause-first : goal.returns-in-Some-clause-first
returns-in-Some-clause-first c = λ m time order so_far h. gives_first_part c.args.self.now m time order so_far h

pub returns-in-Some-clause-so_far : goal.returns-in-Some-clause-so_far
returns-in-Some-clause-so_far c = λ m time order so_far h. may_give c.args.self.now m time order so_far h

pub returns-in-Some-clause-causes : goal.returns-in-Some-clause-causes
returns-in-Some-clause-causes c =
    causes_next c.go_on.result (λ full. next_full c.args.self.now c.in-Some.getting c.in-Some.is (subst (λ ms. LacksGetting c.args.self.now.world ms c.in-Some.getting) c.as_slice.ensures full)) c.go_on.ensures.causes
