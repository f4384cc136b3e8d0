use Rattle.audit_runs.proofs.Lawful.{printed_are_played}
use Rattle.audit_runs.proofs.printed_turns_are_played.Goals as goal

pub returns : goal.returns
returns c = printed_are_played c.lawful_prints_are_greatest.ensures.computed
