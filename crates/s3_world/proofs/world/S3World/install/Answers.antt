use Rattle.std.proofs.Common.{refl}
use Rattle.s3_world.proofs.Becoming.{on_installed, on_unchanged}
use Rattle.s3_world.proofs.world.S3World.install.Goals as goal

pub returns-clause-installed : goal.returns-clause-installed
returns-clause-installed c = on_installed c.args.self.now _ refl refl refl refl refl c.args.first c.install.result c.install.ensures.installed

pub returns-clause-unchanged : goal.returns-clause-unchanged
returns-clause-unchanged c = on_unchanged c.args.self.now _ refl refl refl refl refl c.install.result c.install.ensures.unchanged
