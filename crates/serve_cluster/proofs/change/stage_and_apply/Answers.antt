use Rattle.std.proofs.Common.{map}
use Rattle.serve_cluster.specs.Changes.{stages_in}
use Rattle.change_deeds.specs.Deeds.{act_of}
use Rattle.serve_cluster.proofs.Acting.{store_after, cause_more, causes_next}
use Rattle.serve_cluster.proofs.Making.{stages_next, staged_lacks, staging_lacks_all}
use Rattle.serve_cluster.proofs.change.stage_and_apply.Goals as goal

pub apply_and_play-requires-clause-stands : goal.apply_and_play-requires-clause-stands
apply_and_play-requires-clause-stands c = store_after c.args.world.now c.stage_roles.new.world (stages_in c.args.change) c.requires.stands c.in-Ok.ensures.does

pub returns-in-Ok-clause-does : goal.returns-in-Ok-clause-does
returns-in-Ok-clause-does c =
    stages_next c.apply_and_play.result c.args.world.now c.stage_roles.new.world c.apply_and_play.new.world c.args.node c.args.change c.requires.computed c.requires.within (map act_of c.args.deeds.now) c.in-Ok.ensures.does c.apply_and_play.ensures.does

pub returns-in-Ok-clause-causes : goal.returns-in-Ok-clause-causes
returns-in-Ok-clause-causes c = causes_next c.apply_and_play.result (staged_lacks c.args.world.now c.stage_roles.new.world c.args.node c.args.change c.requires.computed c.requires.within (map act_of c.args.deeds.now) c.in-Ok.ensures.does) c.apply_and_play.ensures.causes

pub returns-in-Err-clause-causes : goal.returns-in-Err-clause-causes
returns-in-Err-clause-causes c = cause_more c.in-Err.memory (staging_lacks_all c.args.world.now c.args.node c.args.change (map act_of c.args.deeds.now)) c.in-Err.ensures.causes
