use Rattle.serve_cluster.proofs.Acting.{store_after, taken_store, took_end, take_lacks, cause_more}
use Rattle.serve_model.specs.Clusters.{expiry}
use Rattle.serve_cluster.proofs.acts.take.Goals as goal

pub expire-requires : goal.expire-requires
expire-requires c = taken_store c.args.world.now c.take_end-end.new.self c.args.request c.requires c.take_end-end.ensures.taken

pub forget_delivered-requires : goal.forget_delivered-requires
forget_delivered-requires c =
    record { stands = store_after c.take_end-end.new.self c.expire.new.world (expiry c.args.request c.take_end-end.result) (taken_store c.args.world.now c.take_end-end.new.self c.args.request c.requires c.take_end-end.ensures.taken) c.in-Ok.ensures.does }

pub returns-in-Ok-clause-does : goal.returns-in-Ok-clause-does
returns-in-Ok-clause-does c =
    took_end c.args.world.now c.take_end-end.new.self c.expire.new.world c.forget_delivered.new.self c.args.request c.take_end-end.result c.take_end-end.ensures.end c.take_end-end.ensures.taken c.in-Ok.ensures.does c.forget_delivered.ensures

pub returns-in-Err-clause-causes : goal.returns-in-Err-clause-causes
returns-in-Err-clause-causes c = cause_more c.in-Err.memory (take_lacks c.args.world.now c.take_end-end.new.self c.args.request c.take_end-end.result c.take_end-end.ensures.end c.take_end-end.ensures.taken) c.in-Err.ensures.causes
