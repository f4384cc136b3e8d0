use Rattle.serve_changes.specs.Changing.{changing}
use Rattle.serve_limits.proofs.Talking.{connection_asks}
use Rattle.serve_limits.proofs.connections_ask_what_is_askable.Goals as goal

pub returns : goal.returns
returns c = λ buckets grammar p bytes early. connection_asks changing buckets grammar p bytes early
