use Rattle.std.proofs.Common.{◌∙◌, sym, ap, map}
use Rattle.std.specs.List.{list_all}
use Rattle.quorum_model.specs.Quorum.{two_of}
use Rattle.cluster_machine.specs.Rounds.{confirmed_for}
use Rattle.node_parts.specs.Rounds.{pair_of}
use Rattle.node_parts.proofs.Confirmations.{complete_same}
use Rattle.node_parts.proofs.rounds.Moving.is_complete.Goals as goal

pub returns : goal.returns
returns c node r is =
    c.complete.ensures r.target (map pair_of r.parts) node is.told is.round
    ∙ complete_same node r.parts is.told
    ∙ ap (λ cs. list_all (λ part. two_of part.set (confirmed_for part.partition cs)) r.parts) (sym is.confirmed)
