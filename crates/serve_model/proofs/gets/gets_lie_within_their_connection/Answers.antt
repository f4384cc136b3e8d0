use Rattle.serve_model.specs.Talk.{request_limit}
use Rattle.serve_model.specs.Plain.{plain}
use Rattle.serve_model.proofs.Halting.{gets_within}
use Rattle.serve_model.proofs.gets.gets_lie_within_their_connection.Goals as goal

pub returns : goal.returns
returns c = λ buckets g p bytes. gets_within plain buckets g (λ P time bucket key x gives. gives) request_limit p bytes
