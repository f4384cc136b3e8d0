use Rattle.std.proofs.Common.{[], ◌∷◌, Some, None}
use Rattle.store_model.specs.Acts.{gives_up}
use Rattle.serve_model.specs.Clusters.{delivered}
use Rattle.serve_cluster.proofs.Acting.{store_kept, done_act, act_lacks, may_leave, left_next, left_lacks, finish_more, finish_lacks, begin_lacks, cause_more, causes_next}
use Rattle.serve_cluster.proofs.acts.leave.Goals as goal

pub abort-requires-clause-needed : goal.abort-requires-clause-needed
abort-requires-clause-needed c = may_leave c.args.world.now c.args.world.now c.args.members.now c.args.request c.need.result c.need.ensures c.in-Some.field-0 c.in-Some.is

pub finish-requires : goal.finish-requires
finish-requires c =
    let may = may_leave c.args.world.now c.args.world.now c.args.members.now c.args.request c.need.result c.need.ensures c.in-Some.field-0 c.in-Some.is in
    store_kept c.args.world.now c.abort.new.self (gives_up c.args.request ∷ []) c.requires (done_act c.args.world.now c.abort.new.self (gives_up c.args.request) may c.in-Ok.ensures.given_up)

pub returns-in-Ok-clause-does : goal.returns-in-Ok-clause-does
returns-in-Ok-clause-does c =
    let may = may_leave c.args.world.now c.args.world.now c.args.members.now c.args.request c.need.result c.need.ensures c.in-Some.field-0 c.in-Some.is in
    left_next c.args.world.now c.finish.new.world c.args.members.now c.args.request c.need.result c.need.ensures (Some c.in-Some.field-0) c.in-Some.is c.finish.result
    (finish_more c.args.world.now c.abort.new.self c.args.members.now c.args.request (gives_up c.args.request ∷ []) (λ _. delivered) c.finish.result c.finish.new.world
    (done_act c.args.world.now c.abort.new.self (gives_up c.args.request) may c.in-Ok.ensures.given_up) c.finish.ensures.does)

pub returns-in-Ok-clause-causes : goal.returns-in-Ok-clause-causes
returns-in-Ok-clause-causes c =
    let may = may_leave c.args.world.now c.args.world.now c.args.members.now c.args.request c.need.result c.need.ensures c.in-Some.field-0 c.in-Some.is in
    causes_next c.finish.result
    (λ full.
    left_lacks c.args.world.now c.finish.new.world c.args.members.now c.args.request c.need.result c.need.ensures (Some c.in-Some.field-0) c.in-Some.is
    (finish_lacks c.args.world.now c.abort.new.self c.args.members.now c.args.request (gives_up c.args.request ∷ []) (λ _. delivered) (done_act c.args.world.now c.abort.new.self (gives_up c.args.request) may c.in-Ok.ensures.given_up) full))
    c.finish.ensures.causes

pub returns-in-Err-clause-causes : goal.returns-in-Err-clause-causes
returns-in-Err-clause-causes c =
    let may = may_leave c.args.world.now c.args.world.now c.args.members.now c.args.request c.need.result c.need.ensures c.in-Some.field-0 c.in-Some.is in
    cause_more c.in-Err.memory
    (λ full.
    left_lacks c.args.world.now c.abort.new.self c.args.members.now c.args.request c.need.result c.need.ensures (Some c.in-Some.field-0) c.in-Some.is
    (begin_lacks c.args.world.now c.args.members.now c.args.request (gives_up c.args.request ∷ []) (λ _. delivered) (act_lacks c.args.world.now (gives_up c.args.request) may full)))
    c.in-Err.ensures.causes

pub returns-in-None-clause-does : goal.returns-in-None-clause-does
returns-in-None-clause-does c = left_next c.args.world.now c.end.new.world c.args.members.now c.args.request c.need.result c.need.ensures None c.in-None.is c.end.result c.end.ensures.does

pub returns-in-None-clause-causes : goal.returns-in-None-clause-causes
returns-in-None-clause-causes c = causes_next c.end.result (left_lacks c.args.world.now c.end.new.world c.args.members.now c.args.request c.need.result c.need.ensures None c.in-None.is) c.end.ensures.causes
