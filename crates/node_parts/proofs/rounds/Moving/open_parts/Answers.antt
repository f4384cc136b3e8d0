use Rattle.std.proofs.Common.{◌∙◌, sym, ap, map}
use Rattle.std.specs.List.{filter}
use Rattle.std.proofs.lemmas.Result.{IfOk-weaker}
use Rattle.node_parts.specs.Rounds.{pair_of, has_any}
use Rattle.node_parts.proofs.Confirmations.{left, open_same}
use Rattle.node_parts.proofs.rounds.Moving.open_parts.Goals as goal

pub returns-clause-are : goal.returns-clause-are
returns-clause-are c =
    IfOk-weaker c.open_parts.result _ _ (λ parts are node r is.
    are r.target (map pair_of r.parts) node is.told is.round
    ∙ open_same node r.parts is.told
    ∙ ap (λ cs. filter has_any (map (left cs) r.parts)) (sym is.confirmed)
    ) c.open_parts.ensures.nodes
