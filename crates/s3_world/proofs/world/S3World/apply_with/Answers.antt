use Rattle.std.proofs.Common.{refl}
use Rattle.change_model.specs.Given.{applying}
use Rattle.s3_world.proofs.Becoming.{doing_plays}
use Rattle.s3_world.proofs.world.S3World.apply_with.Goals as goal

pub returns-clause-plays : goal.returns-clause-plays
returns-clause-plays c = doing_plays c.args.self.now _ refl refl refl refl refl (λ w. applying w c.args.node c.args.shown) (λ w. refl) (λ w. tt) c.in_ok-report.report _ refl c.in_ok-report.ensures.applies
