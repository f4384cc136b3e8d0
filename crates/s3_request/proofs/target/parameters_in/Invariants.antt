use Rattle.std.proofs.Common.{◌≡◌, map, take}
use Rattle.std.specs.List.{filter_map}
use Rattle.s3_model.specs.Targets.{parameter_in}
use Rattle.s3_request.proofs.target.parameters_in.Given as goal

abbrev pub invariant-loop-piece : goal.invariant-loop-piece
invariant-loop-piece l = l.given ≡ filter_map parameter_in (map (λ piece. piece.now) (take l.piece-index l.pieces))
