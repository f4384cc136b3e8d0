use Rattle.std.proofs.Common.{ap, ◌∙◌}
use Rattle.k2v_rows.specs.Values.{later_values}
use Rattle.k2v_rows.proofs.writes.merge_values.Goals as goal

pub returns-clause-joined : goal.returns-clause-joined
returns-clause-joined c = c.drop_through.ensures ∙ ap (later_values c.args.discard) c.in_ok-merge.ensures.joined
