use Rattle.std.proofs.Common.{sym, ◌∙◌}
use Rattle.s3_world.proofs.Clients.{nobody_needs, closed_needs, open_needs}
use Rattle.s3_world.proofs.driver.Driver.need.Goals as goal

pub returns-in_err-asked : goal.returns-in_err-asked
returns-in_err-asked g c = λ s d. c.from_residual.ensures ∙ nobody_needs c.args.self.now c.args.request (sym c.in_err-asked.ensures.value) s d

pub returns-then-is_open : goal.returns-then-is_open
returns-then-is_open g c = λ s d. c.need.ensures ∙ open_needs c.args.self.now c.args.request c.is_open.result c.is_open.ensures c.if-is_open.true c.in_ok-asked.asked.now (sym c.in_ok-asked.ensures.value) s d

pub returns-else-is_open : goal.returns-else-is_open
returns-else-is_open g c = λ s d. closed_needs c.args.self.now c.args.request c.is_open.result c.is_open.ensures c.if-is_open.false s d
