use Rattle.s3_model.specs.Targets.{parameter_in}
use Rattle.s3_request.proofs.Lists.{given_step}
use Rattle.s3_request.proofs.target.parameters_in.Goals as goal

pub loop-piece-preserved : goal.loop-piece-preserved
loop-piece-preserved c =
    given_step parameter_in c.args.pieces.now c.loop-piece.piece-index _ _ c.push_given.new.given c.in_ok-parameter.parameter c.loop-piece-test.true c.loop-piece.invariant c.in_ok-push_given.ensures.ok c.in_ok-parameter.ensures.same
