use Rattle.audit_model.specs.Printed.{all_prints}
use Rattle.audit_runs.proofs.Lawful.{first_turns_allowed, all_first}
use Rattle.audit_runs.proofs.Promises.{kept_beside}
use Rattle.audit_runs.proofs.printed_turns_keep_promises.Goals as goal

pub returns : goal.returns
returns c = λ events saids turns given.
    let found = c.printed_turns_are_played.ensures events saids turns given in
    let first = all_first events (all_prints events saids) turns given.printed in
    kept_beside c.promises_are_kept.ensures c.timely_turns_collect_safely.ensures.prompt turns found.0 (first_turns_allowed events turns first.later given.scheduled first.whole) found.1.0 found.1.1
