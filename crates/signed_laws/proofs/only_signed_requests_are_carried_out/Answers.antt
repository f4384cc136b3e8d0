use Rattle.serve_model.specs.Clusters.{cluster}
use Rattle.serve_model.specs.Plain.{plain}
use Rattle.serve_changes.specs.Changing.{changing}
use Rattle.signed_laws.proofs.Turns.{turn_is, stops_are}
use Rattle.signed_laws.proofs.only_signed_requests_are_carried_out.Goals as goal

pub returns-clause-of_map : goal.returns-clause-of_map
returns-clause-of_map c buckets g some last p bytes = ((turn_is plain buckets some g last bytes p).0, stops_are plain buckets some g last bytes p)

pub returns-clause-of_cluster : goal.returns-clause-of_cluster
returns-clause-of_cluster c buckets g some last p bytes = ((turn_is cluster buckets some g last bytes p).0, stops_are cluster buckets some g last bytes p)

pub returns-clause-of_changing : goal.returns-clause-of_changing
returns-clause-of_changing c buckets g some last p bytes = ((turn_is changing buckets some g last bytes p).0, stops_are changing buckets some g last bytes p)
