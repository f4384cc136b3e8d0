use Rattle.std.proofs.Common.{map}
use Rattle.change_deeds.specs.Deeds.{act_of}
use Rattle.serve_cluster.proofs.Acting.{causes_next}
use Rattle.serve_cluster.proofs.Making.{applies_next, applies_lacks, store_next}
use Rattle.serve_cluster.proofs.change.apply_and_play.Goals as goal

pub returns-in-Ok-clause-stands : goal.returns-in-Ok-clause-stands
returns-in-Ok-clause-stands c = store_next c.play_all.result c.apply.new.world c.play_all.new.world (map act_of c.args.deeds.now) c.in-Ok.ensures.stands c.play_all.ensures.does

pub returns-in-Ok-clause-does : goal.returns-in-Ok-clause-does
returns-in-Ok-clause-does c = applies_next c.play_all.result c.args.world.now c.apply.new.world c.play_all.new.world c.args.node c.args.shown (map act_of c.args.deeds.now) c.in-Ok.ensures.does c.play_all.ensures.does

pub returns-in-Ok-clause-causes : goal.returns-in-Ok-clause-causes
returns-in-Ok-clause-causes c = causes_next c.play_all.result (applies_lacks c.args.world.now c.apply.new.world c.args.node c.args.shown (map act_of c.args.deeds.now) c.in-Ok.ensures.does) c.play_all.ensures.causes
