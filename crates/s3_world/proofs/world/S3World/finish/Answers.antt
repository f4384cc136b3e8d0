use Rattle.std.proofs.Common.{◌++◌}
use Rattle.cluster_machine.specs.World.{numbered}
use Rattle.flow_model.specs.Streams as stream
use Rattle.store_model.specs.Run.{State, fills_at, keeping}
use Rattle.s3_world.proofs.Causes.{handed_on}
use Rattle.s3_world.proofs.Clients.{needs_so_many}
use Rattle.s3_world.proofs.Keeping.{heard_keeps}
use Rattle.s3_world.proofs.Storing.{is_driven, has_run, carries, overflows}
use Rattle.s3_world.proofs.world.S3World.finish.Goals as goal

pub finish-requires-clause-stands : goal.finish-requires-clause-stands
finish-requires-clause-stands c = has_run c.args.self.now c.requires.stands

pub finish-requires-clause-needed : goal.finish-requires-clause-needed
finish-requires-clause-needed c =
    let h = c.requires.stands in needs_so_many c.args.self.now.driver h.0 (is_driven c.args.self.now h.0 h.1) c.args.request 0 (c.requires.needed h.0 h.1)

pub returns-in_err-finish-clause-causes : goal.returns-in_err-finish-clause-causes
returns-in_err-finish-clause-causes c =
    handed_on c.from_residual.result c.in_err-finish.field-0.0 c.from_residual.ensures.1 (overflows c.args.self.now (λ s. keeping s c.args.request)) c.in_err-finish.ensures.causes

pub returns-clause-kept : goal.returns-clause-kept
returns-clause-kept c =
    let filled : State → State = λ s. record s { draws = fills_at s c.args.request (numbered s.asked c.args.request) ++ s.draws } in
    carries c.args.self.now c.finish.new.self (λ s. keeping s c.args.request) (λ s. heard_keeps (filled s) c.args.request stream.finished (numbered s.asked c.args.request)) c.in_ok-finish.field-0 c.in_ok-finish.ensures.plays
