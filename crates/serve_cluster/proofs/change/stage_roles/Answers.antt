use Rattle.std.proofs.Common.{sym, subst, List}
use Rattle.crdt_core.specs.Outcomes.{WantOr}
use Rattle.std.proofs.Common.{OnOk}
use Rattle.store_model.specs.Acts.{Act}
use Rattle.serve_cluster.specs.Acting.{DoesActs, LacksRoom}
use Rattle.change_deeds.specs.Deeds.{staged_roles}
use Rattle.serve_cluster.proofs.Acting.{store_after, does_next, lacks_more, lacks_then, cause_more, causes_next}
use Rattle.serve_cluster.proofs.Staging.{out_acts, stages_parts}
use Rattle.serve_cluster.proofs.change.stage_roles.Goals as goal

pub stage_and_spread-requires-clause-stands : goal.stage_and_spread-requires-clause-stands
stage_and_spread-requires-clause-stands c = store_after c.args.world.now c.unstage_all.new.world out_acts c.requires.stands c.in-Ok.ensures.does

pub returns-in-Ok-clause-does : goal.returns-in-Ok-clause-does
returns-in-Ok-clause-does c =
    subst (λ (acts : List Act). OnOk c.stage_and_spread.result (DoesActs c.args.world.now c.stage_and_spread.new.world acts)) (sym (stages_parts c.args.roles.now.list c.args.wanted))
    (does_next c.stage_and_spread.result c.args.world.now c.unstage_all.new.world c.stage_and_spread.new.world out_acts (staged_roles c.args.roles.now.list c.args.wanted) c.in-Ok.ensures.does c.stage_and_spread.ensures.does)

pub returns-in-Ok-clause-causes : goal.returns-in-Ok-clause-causes
returns-in-Ok-clause-causes c =
    subst (λ (acts : List Act). WantOr c.stage_and_spread.result (LacksRoom c.args.world.now (λ _. acts))) (sym (stages_parts c.args.roles.now.list c.args.wanted))
    (causes_next c.stage_and_spread.result (lacks_more c.args.world.now c.unstage_all.new.world out_acts (λ _. staged_roles c.args.roles.now.list c.args.wanted) c.in-Ok.ensures.does) c.stage_and_spread.ensures.causes)

pub returns-in-Err-clause-causes : goal.returns-in-Err-clause-causes
returns-in-Err-clause-causes c =
    cause_more c.in-Err.memory (λ full. subst (λ (acts : List Act). LacksRoom c.args.world.now (λ _. acts)) (sym (stages_parts c.args.roles.now.list c.args.wanted))
    (lacks_then c.args.world.now (λ _. out_acts) (λ _. staged_roles c.args.roles.now.list c.args.wanted) full)) c.in-Err.ensures.causes
