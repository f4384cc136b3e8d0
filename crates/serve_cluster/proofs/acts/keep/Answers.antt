use Rattle.std.proofs.Common.{[], ◌∷◌}
use Rattle.store_model.specs.Acts.{keeps}
use Rattle.serve_model.specs.Clusters.{delivered}
use Rattle.serve_cluster.proofs.Acting.{store_kept, done_act, act_lacks, finish_more, finish_lacks, begin_lacks, cause_more, causes_next}
use Rattle.serve_cluster.proofs.acts.keep.Goals as goal

pub finish-requires-in-Ok : goal.finish-requires-in-Ok
finish-requires-in-Ok c =
    store_kept c.args.world.now c.finish.new.self (keeps c.args.request ∷ []) c.requires.stands (done_act c.args.world.now c.finish.new.self (keeps c.args.request) c.requires.needed c.in-Ok.ensures.kept)

pub returns-in-Ok-clause-does : goal.returns-in-Ok-clause-does
returns-in-Ok-clause-does c =
    finish_more c.args.world.now c.finish.new.self c.args.members.now c.args.request (keeps c.args.request ∷ []) (λ _. delivered) c.finish-in-Ok.result c.finish-in-Ok.new.world
    (done_act c.args.world.now c.finish.new.self (keeps c.args.request) c.requires.needed c.in-Ok.ensures.kept) c.finish-in-Ok.ensures.does

pub returns-in-Ok-clause-causes : goal.returns-in-Ok-clause-causes
returns-in-Ok-clause-causes c =
    causes_next c.finish-in-Ok.result
    (finish_lacks c.args.world.now c.finish.new.self c.args.members.now c.args.request (keeps c.args.request ∷ []) (λ _. delivered) (done_act c.args.world.now c.finish.new.self (keeps c.args.request) c.requires.needed c.in-Ok.ensures.kept))
    c.finish-in-Ok.ensures.causes

pub returns-in-Err-clause-causes : goal.returns-in-Err-clause-causes
returns-in-Err-clause-causes c =
    cause_more c.in-Err.memory
    (λ full. begin_lacks c.args.world.now c.args.members.now c.args.request (keeps c.args.request ∷ []) (λ _. delivered) (act_lacks c.args.world.now (keeps c.args.request) c.requires.needed full))
    c.in-Err.ensures.causes
