use Rattle.std.proofs.Common.{map, length, get_or, take, drop, ◌-◌}
use Rattle.serve_cluster.proofs.Acting.{cause_more}
use Rattle.serve_cluster.proofs.Going.{going_store, one_done, one_lacks_room, first_of, first_act}
use Rattle.change_deeds.specs.Deeds.{act_of}
use Rattle.serve_cluster.proofs.change.play_all.Goals as goal

pub play-requires : goal.play-requires
play-requires c = going_store c.args.world.now c.deeds.world (map act_of c.args.deeds.now) (map act_of c.deeds.rest.now) c.requires c.deeds.invariant

pub deeds-preserved : goal.deeds-preserved
deeds-preserved c =
    one_done c.args.world.now c.deeds.world c.play.new.world (map act_of c.args.deeds.now) (map act_of c.deeds.rest.now) (act_of (get_or c.deeds.rest.now 0 _)) (map act_of (take (length c.deeds.rest.now - 1) (drop 1 c.deeds.rest.now)))
    (first_act act_of c.deeds.rest.now (get_or c.deeds.rest.now 0 _) (take (length c.deeds.rest.now - 1) (drop 1 c.deeds.rest.now)) (first_of c.deeds.rest.now _ c.deeds-test.ensures)) c.deeds.invariant c.in-Ok.ensures.does

pub returns-in-Err-clause-causes : goal.returns-in-Err-clause-causes
returns-in-Err-clause-causes c =
    cause_more c.in-Err.memory (one_lacks_room c.args.world.now c.deeds.world (map act_of c.args.deeds.now) (map act_of c.deeds.rest.now) (act_of (get_or c.deeds.rest.now 0 _)) (map act_of (take (length c.deeds.rest.now - 1) (drop 1 c.deeds.rest.now)))
    (first_act act_of c.deeds.rest.now (get_or c.deeds.rest.now 0 _) (take (length c.deeds.rest.now - 1) (drop 1 c.deeds.rest.now)) (first_of c.deeds.rest.now _ c.deeds-test.ensures)) c.deeds.invariant) c.in-Err.ensures.causes
