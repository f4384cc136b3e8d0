use Rattle.std.proofs.Common.{[], ◌∷◌}
use Rattle.store_model.specs.Acts.{feeds}
use Rattle.serve_model.specs.Clusters.{delivered}
use Rattle.serve_cluster.proofs.Acting.{store_kept, done_act, act_lacks, keeps_next, lacks_kept, lacks_then, cause_more, causes_next}
use Rattle.serve_cluster.proofs.acts.feed.Goals as goal

pub drain_all-requires : goal.drain_all-requires
drain_all-requires c =
    store_kept c.args.world.now c.feed.new.self (feeds c.args.request c.args.bytes ∷ []) c.requires.stands (done_act c.args.world.now c.feed.new.self (feeds c.args.request c.args.bytes) c.requires.needed c.in-Ok.ensures.fed)

pub returns-in-Ok-clause-keeps : goal.returns-in-Ok-clause-keeps
returns-in-Ok-clause-keeps c =
    keeps_next c.drain_all.result c.args.world.now c.feed.new.self c.drain_all.new.world (feeds c.args.request c.args.bytes ∷ []) delivered
    (done_act c.args.world.now c.feed.new.self (feeds c.args.request c.args.bytes) c.requires.needed c.in-Ok.ensures.fed) c.drain_all.ensures.keeps

pub returns-in-Ok-clause-causes : goal.returns-in-Ok-clause-causes
returns-in-Ok-clause-causes c =
    causes_next c.drain_all.result
    (lacks_kept c.args.world.now c.feed.new.self (feeds c.args.request c.args.bytes ∷ []) (λ _. delivered) (done_act c.args.world.now c.feed.new.self (feeds c.args.request c.args.bytes) c.requires.needed c.in-Ok.ensures.fed))
    c.drain_all.ensures.causes

pub returns-in-Err-clause-causes : goal.returns-in-Err-clause-causes
returns-in-Err-clause-causes c =
    cause_more c.in-Err.memory
    (λ full. lacks_then c.args.world.now (λ _. feeds c.args.request c.args.bytes ∷ []) (λ _. delivered) (act_lacks c.args.world.now (feeds c.args.request c.args.bytes) c.requires.needed full))
    c.in-Err.ensures.causes
