use Rattle.std.proofs.Common.{ap}
use Rattle.s3_world.specs.declared.world.S3World.{S3World}
use Rattle.s3_world.proofs.Storing.{bucket_keeps}
use Rattle.s3_world.proofs.world.S3World.add_bucket.Goals as goal

pub returns-clause-keeps : goal.returns-clause-keeps
returns-clause-keeps c =
    bucket_keeps c.args.self.now c.accepted.result (rw c.new.ensures at c.accepted.ensures) c.args.name.now _
    (let old : S3World = c.args.self.now in ap (λ bs. record old { buckets = bs }) (rw c.as_slice.ensures at c.in_ok-push.ensures.pushed))
