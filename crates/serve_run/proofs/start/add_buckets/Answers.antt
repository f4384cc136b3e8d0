use Rattle.serve_run.proofs.Opening.{leads_on}
use Rattle.serve_run.proofs.start.add_buckets.Goals as goal

pub loop-name-preserved : goal.loop-name-preserved
loop-name-preserved c =
    record {
      stands = c.in_ok-add_bucket.ensures.stands;
      all = λ s st. leads_on c.loop-name.world c.add_bucket.new.world s c.args.names.now c.loop-name.name-index c.name-item.result c.loop-name-test.true c.name-item.is (c.loop-name.invariant.all s st) c.in_ok-add_bucket.ensures.adds;
    }
