use Rattle.std.proofs.Common.{[], sym, ap, ◌∙◌}
use Rattle.std.specs.Option.{unwrap_or}
use Rattle.quorum_model.specs.Quorum.{is_among}
use Rattle.node_parts.proofs.sets.gives.Goals as goal

pub returns : goal.returns
returns c = c.contains.ensures.value ∙ ap (λ o. is_among c.args.node (unwrap_or o [])) (sym c.set.ensures)
