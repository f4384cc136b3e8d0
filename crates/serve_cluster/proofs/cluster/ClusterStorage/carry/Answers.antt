use Rattle.std.proofs.Common.{Some, None, IfOk, subst}
use Rattle.serve_model.specs.Stores.{carry}
use Rattle.serve_model.specs.Clusters.{delivered, acts_opened}
use Rattle.serve_cluster.specs.Acting.{LacksRoom, Finishes}
use Rattle.serve_cluster.specs.Standing.{StandsFor}
use Rattle.serve_cluster.proofs.Acting.{ok_as, cause_more, causes_next}
use Rattle.serve_cluster.proofs.Carrying.{AskedSo, asked_store, asking_full, refused, opened_full, opened_next}
use Rattle.serve_cluster.proofs.cluster.ClusterStorage.carry.Goals as goal

pub finish-requires : goal.finish-requires
finish-requires c =
    asked_store c.args.self.now c.ask.new.self c.args.time c.args.order (Some c.in-Ok-Some.number)
    (ok_as (AskedSo c.args.self.now c.ask.new.self c.args.time c.args.order) c.ask.result c.in-Ok-Some.field-0 (Some c.in-Ok-Some.number) c.in-Ok-Some.is c.in-Ok-Some.field-0-is c.ask.ensures.asks) c.requires.state

pub returns-in-Ok-Some-clause-carries : goal.returns-in-Ok-Some-clause-carries
returns-in-Ok-Some-clause-carries c =
    opened_next c.ask.new.self c.args.time c.args.order c.in-Ok-Some.number c.finish.new.world (StandsFor c.args.self.now) c.finish.result c.requires.whole
    (ok_as (AskedSo c.args.self.now c.ask.new.self c.args.time c.args.order) c.ask.result c.in-Ok-Some.field-0 (Some c.in-Ok-Some.number) c.in-Ok-Some.is c.in-Ok-Some.field-0-is c.ask.ensures.asks)
    (subst (λ ms. IfOk c.finish.result (λ end. Finishes c.ask.new.self.world c.finish.new.world ms c.in-Ok-Some.number (λ _. delivered) end)) c.as_slice.ensures c.finish.ensures.does)

pub returns-in-Ok-Some-clause-causes : goal.returns-in-Ok-Some-clause-causes
returns-in-Ok-Some-clause-causes c =
    causes_next c.finish.result
    (λ full m st.
    opened_full c.ask.new.self m c.args.time c.args.order c.requires.whole c.in-Ok-Some.number
    (ok_as (AskedSo c.args.self.now c.ask.new.self c.args.time c.args.order) c.ask.result c.in-Ok-Some.field-0 (Some c.in-Ok-Some.number) c.in-Ok-Some.is c.in-Ok-Some.field-0-is c.ask.ensures.asks m st)
    (subst (λ ms. LacksRoom c.ask.new.self.world (λ t. acts_opened ms t c.in-Ok-Some.number delivered)) c.as_slice.ensures full))
    c.finish.ensures.causes

pub returns-in-Ok-None-clause-carries : goal.returns-in-Ok-None-clause-carries
returns-in-Ok-None-clause-carries c = λ m st.
    refused c.ask.new.self m c.args.time c.args.order c.requires.whole (ok_as (AskedSo c.args.self.now c.ask.new.self c.args.time c.args.order) c.ask.result c.in-Ok-None.field-0 None c.in-Ok-None.is c.in-Ok-None.field-0-is c.ask.ensures.asks m st)

pub returns-in-Err-clause-causes : goal.returns-in-Err-clause-causes
returns-in-Err-clause-causes c = cause_more c.in-Err.memory (λ full m st. asking_full m c.args.time (carry c.args.order) (full m st)) c.in-Err.ensures.causes
