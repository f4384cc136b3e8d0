use Rattle.s3_world.proofs.Clients.{begins_so}
use Rattle.s3_world.proofs.driver.Driver.begins.Goals as goal

pub returns-clause-begins : goal.returns-clause-begins
returns-clause-begins g c =
    begins_so c.args.self.now c.waits.new.self _ c.accepted.result c.args.request c.args.flow c.args.phase c.in_ok-report.report c.in_ok-report.ensures.steps c.waits.ensures c.accepted.ensures
