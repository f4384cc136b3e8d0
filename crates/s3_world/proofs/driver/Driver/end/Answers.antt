use Rattle.std.proofs.Common.{Some, ap, ◌∙◌}
use Rattle.s3_world.specs.Driven.{place_in}
use Rattle.s3_world.proofs.Ends.{placed, end_at, taken_nowhere}
use Rattle.s3_world.proofs.driver.Driver.end.Goals as goal

pub at-requires : goal.at-requires
at-requires g c = (placed c.args.request c.args.self.now.ends (Some c.in-Some.i) (c.in-Some.ensures ∙ ap (λ es. place_in es c.args.request) c.as_slice.ensures)).0

pub returns-in-Some : goal.returns-in-Some
returns-in-Some g c = λ s d. end_at c.args.self.now c.args.request c.in-Some.i c.at.result.now (c.in-Some.ensures ∙ ap (λ es. place_in es c.args.request) c.as_slice.ensures) c.at.ensures s d

pub returns-in-None : goal.returns-in-None
returns-in-None g c = λ s d. taken_nowhere c.args.self.now c.args.request (c.in-None.ensures ∙ ap (λ es. place_in es c.args.request) c.as_slice.ensures) s d
