use Rattle.std.proofs.Common.{sym, ◌∙◌}
use Rattle.s3_world.proofs.Clients.{needs_some, needs_flow}
use Rattle.s3_world.proofs.driver.Driver.take_flow.Goals as goal

pub unreachable-requires : goal.unreachable-requires
unreachable-requires g c = needs_some c.args.self.now.requests c.args.request c.requires (sym c.in_default.ensures.value)

pub unreachable-requires-in_default-take_flow : goal.unreachable-requires-in_default-take_flow
unreachable-requires-in_default-take_flow g c =
    needs_flow c.args.self.now.requests c.args.request c.in-Some.asked.now (sym c.in-Some.ensures.value) c.requires (sym c.take_flow.ensures.flow ∙ c.in_default-take_flow.is)
