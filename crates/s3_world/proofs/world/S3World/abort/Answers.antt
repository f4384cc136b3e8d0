use Rattle.cluster_machine.specs.World.{numbered}
use Rattle.flow_model.specs.Streams as stream
use Rattle.store_model.specs.Run.{giving_up}
use Rattle.s3_world.proofs.Causes.{handed_on}
use Rattle.s3_world.proofs.Clients.{needs_any}
use Rattle.s3_world.proofs.Keeping.{heard_keeps}
use Rattle.s3_world.proofs.Storing.{is_driven, has_run, carries, overflows}
use Rattle.s3_world.proofs.world.S3World.abort.Goals as goal

pub abort-requires-clause-stands : goal.abort-requires-clause-stands
abort-requires-clause-stands c = has_run c.args.self.now c.requires.stands

pub abort-requires-clause-needed : goal.abort-requires-clause-needed
abort-requires-clause-needed c =
    let h = c.requires.stands in needs_any c.args.self.now.driver h.0 (is_driven c.args.self.now h.0 h.1) c.args.request (c.requires.needed h.0 h.1)

pub returns-in_err-abort-clause-causes : goal.returns-in_err-abort-clause-causes
returns-in_err-abort-clause-causes c =
    handed_on c.from_residual.result c.in_err-abort.field-0.0 c.from_residual.ensures.1 (overflows c.args.self.now (λ s. giving_up s c.args.request)) c.in_err-abort.ensures.causes

pub returns-clause-given_up : goal.returns-clause-given_up
returns-clause-given_up c =
    carries c.args.self.now c.abort.new.self (λ s. giving_up s c.args.request) (λ s. heard_keeps s c.args.request stream.given_up (numbered s.asked c.args.request)) c.in_ok-abort.field-0 c.in_ok-abort.ensures.plays
