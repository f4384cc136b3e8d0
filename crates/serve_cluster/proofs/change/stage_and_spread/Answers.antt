use Rattle.std.proofs.Common.{map, [], ◌∷◌}
use Rattle.store_model.specs.Run.{plainly}
use Rattle.store_model.specs.Acts.{moves}
use Rattle.cluster_machine.specs.declared.step.Step.TheVariants as step
use Rattle.serve_changes.specs.Acts.{steps}
use Rattle.change_deeds.specs.Deeds.{staged_as}
use Rattle.serve_cluster.proofs.Acting.{store_after, does_next, lacks_more, lacks_then, cause_more, causes_next}
use Rattle.serve_cluster.proofs.change.stage_and_spread.Goals as goal

pub spread-requires-clause-stands : goal.spread-requires-clause-stands
spread-requires-clause-stands c = store_after c.args.world.now c.stage_all.new.world (steps (map (λ role. plainly (staged_as role)) c.args.roles.now.list)) c.requires.stands c.in-Ok.ensures.does

pub returns-in-Ok-clause-does : goal.returns-in-Ok-clause-does
returns-in-Ok-clause-does c =
    does_next c.spread.result c.args.world.now c.stage_all.new.world c.spread.new.world (steps (map (λ role. plainly (staged_as role)) c.args.roles.now.list)) (moves (plainly (step.Redundancy c.args.wanted)) ∷ []) c.in-Ok.ensures.does c.spread.ensures.does

pub returns-in-Ok-clause-causes : goal.returns-in-Ok-clause-causes
returns-in-Ok-clause-causes c =
    causes_next c.spread.result (lacks_more c.args.world.now c.stage_all.new.world (steps (map (λ role. plainly (staged_as role)) c.args.roles.now.list)) (λ _. moves (plainly (step.Redundancy c.args.wanted)) ∷ []) c.in-Ok.ensures.does) c.spread.ensures.causes

pub returns-in-Err-clause-causes : goal.returns-in-Err-clause-causes
returns-in-Err-clause-causes c =
    cause_more c.in-Err.memory (lacks_then c.args.world.now (λ _. steps (map (λ role. plainly (staged_as role)) c.args.roles.now.list)) (λ _. moves (plainly (step.Redundancy c.args.wanted)) ∷ [])) c.in-Err.ensures.causes
