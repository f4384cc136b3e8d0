use Rattle.std.proofs.Common.{ℕ, List, length}
use Rattle.cluster_machine.specs.World.{numbered}
use Rattle.flow_model.specs.Streams as stream
use Rattle.store_model.specs.Run.{feeding}
use Rattle.s3_world.proofs.Causes.{handed_on}
use Rattle.s3_world.proofs.Clients.{needs_so_many}
use Rattle.s3_world.proofs.Keeping.{heard_keeps}
use Rattle.s3_world.proofs.Storing.{is_driven, has_run, carries, overflows}
use Rattle.s3_world.proofs.world.S3World.feed.Goals as goal

pub feed-requires-clause-stands : goal.feed-requires-clause-stands
feed-requires-clause-stands c = has_run c.args.self.now c.requires.stands

pub feed-requires-clause-needed : goal.feed-requires-clause-needed
feed-requires-clause-needed c =
    let h = c.requires.stands in
    rw c.in_ok-block.ensures.same (needs_so_many c.args.self.now.driver h.0 (is_driven c.args.self.now h.0 h.1) c.args.request (length c.args.bytes) (c.requires.needed h.0 h.1).0)

pub returns-in_err-feed-clause-causes : goal.returns-in_err-feed-clause-causes
returns-in_err-feed-clause-causes c =
    handed_on c.from_residual-in_err-feed.result c.in_err-feed.field-0.0 c.from_residual-in_err-feed.ensures.1 (overflows c.args.self.now (λ s. feeding s c.args.request c.args.bytes)) (rw c.in_ok-block.ensures.same at c.in_err-feed.ensures.causes)

pub returns-clause-fed : goal.returns-clause-fed
returns-clause-fed c =
    let bytes : List ℕ = c.args.bytes in
    carries c.args.self.now c.feed.new.self (λ s. feeding s c.args.request bytes) (λ s. heard_keeps s c.args.request (λ flow. stream.fed flow bytes) (numbered s.asked c.args.request))
    c.in_ok-feed.field-0 (rw c.in_ok-block.ensures.same at c.in_ok-feed.ensures.plays)
