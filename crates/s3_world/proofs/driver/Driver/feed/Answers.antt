use Rattle.std.proofs.Common.{refl, sym, ◌∙◌, subst}
use Rattle.std.specs.Prelude.{IsSome}
use Rattle.flow_model.specs.Streams as stream
use Rattle.s3_world.proofs.Causes.{same_causes}
use Rattle.s3_world.proofs.Phases.{fed_is_good}
use Rattle.s3_world.proofs.Clients.{need_is, world_is, still_there, heard_phase, heard_plays, heard_overflows}
use Rattle.s3_world.proofs.driver.Driver.feed.Goals as goal

pub block-requires : goal.block-requires
block-requires g c = sym (need_is c.args.self.now c.take_flow-flow.new.self c.args.request c.take_flow-flow.result c.take_flow-flow.ensures) ∙ c.requires.needed

pub begins-requires-clause-stands : goal.begins-requires-clause-stands
begins-requires-clause-stands g c = world_is c.args.self.now c.take_flow-flow.new.self c.args.request c.take_flow-flow.result c.take_flow-flow.ensures c.requires.stands

pub begins-requires-clause-there : goal.begins-requires-clause-there
begins-requires-clause-there g c = still_there c.args.self.now c.take_flow-flow.new.self c.args.request c.take_flow-flow.result c.take_flow-flow.ensures

pub begins-requires-clause-short : goal.begins-requires-clause-short
begins-requires-clause-short g c = (heard_phase c.take_flow-flow.result (λ f. stream.fed f c.args.block) c.in_ok-flow.flow c.in_ok-flow.phase c.in_ok-flow.ensures.is (fed_is_good c.take_flow-flow.result c.args.block)).short

pub begins-requires-clause-stocked : goal.begins-requires-clause-stocked
begins-requires-clause-stocked g c = (heard_phase c.take_flow-flow.result (λ f. stream.fed f c.args.block) c.in_ok-flow.flow c.in_ok-flow.phase c.in_ok-flow.ensures.is (fed_is_good c.take_flow-flow.result c.args.block)).stocked

pub returns-clause-plays : goal.returns-clause-plays
returns-clause-plays g c =
    heard_plays c.take_flow-flow.result (λ f. stream.fed f c.args.block) c.in_ok-flow.flow c.in_ok-flow.phase c.in_ok-flow.ensures.is (fed_is_good c.take_flow-flow.result c.args.block)
    c.args.self.now c.take_flow-flow.new.self c.args.request c.take_flow-flow.ensures (subst IsSome (sym c.requires.needed) refl) (λ s. s.draws)
    c.begins.new.self c.begins.result c.begins.ensures.begins

pub returns-clause-causes : goal.returns-clause-causes
returns-clause-causes g c =
    same_causes c.begins.result
    (heard_overflows c.take_flow-flow.result (λ f. stream.fed f c.args.block) c.in_ok-flow.flow c.in_ok-flow.phase c.in_ok-flow.ensures.is (fed_is_good c.take_flow-flow.result c.args.block)
    c.args.self.now c.take_flow-flow.new.self c.args.request c.take_flow-flow.ensures (subst IsSome (sym c.requires.needed) refl) (λ s. s.draws))
    c.begins.ensures.causes
