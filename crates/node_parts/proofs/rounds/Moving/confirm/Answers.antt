use Rattle.std.proofs.Common.{◌++◌, [], ◌∷◌, ap, ◌∙◌, map}
use Rattle.node_parts.specs.Rounds.{pair_of}
use Rattle.node_parts.proofs.Confirmations.{told_more}
use Rattle.node_parts.proofs.rounds.Moving.confirm.Goals as goal

pub returns : goal.returns
returns c node r is =
    let p = c.args.p in
    let from = c.args.from in
    record {
      told = is.told ++ (p, from) ∷ [];
      number = is.number;
      round = c.confirm.ensures.told r.target (map pair_of r.parts) node is.told is.round;
      confirmed = ap (λ cs. cs ++ record { partition = p; node = from } ∷ []) is.confirmed ∙ told_more node r.parts is.told p from;
      walks = is.walks;
    }
