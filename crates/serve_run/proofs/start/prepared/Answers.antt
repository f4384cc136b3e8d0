use Rattle.std.proofs.Common.{map}
use Rattle.store_model.specs.Run.{start}
use Rattle.store_model.specs.Acts.{adds, cuts}
use Rattle.serve_run.proofs.Opening.{does_one}
use Rattle.serve_run.proofs.start.prepared.Goals as goal

pub returns-clause-stands : goal.returns-clause-stands
returns-clause-stands c =
    does_one c.in_ok-world.world c.add_buckets.new.world c.cut.new.world (map adds c.args.buckets.now) (cuts c.args.size)
    c.in_ok-add_buckets.ensures.adds c.in_ok-cut.ensures.cuts start c.in_ok-world.ensures.starts
