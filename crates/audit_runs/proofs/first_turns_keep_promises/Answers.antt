use Rattle.audit_runs.proofs.Lawful.{first_turns_allowed, first_are_played}
use Rattle.audit_runs.proofs.Promises.{kept_beside}
use Rattle.audit_runs.proofs.first_turns_keep_promises.Goals as goal

pub returns-clause-beside : goal.returns-clause-beside
returns-clause-beside c = first_are_played c.lawful_prints_are_greatest.ensures.computed

pub returns-clause-kept : goal.returns-clause-kept
returns-clause-kept c = λ events saids turns scheduled lawful first.
    let found = first_are_played c.lawful_prints_are_greatest.ensures.computed events saids turns scheduled lawful first in
    kept_beside c.promises_are_kept.ensures c.timely_turns_collect_safely.ensures.prompt turns found.0 (first_turns_allowed events turns first.later scheduled first.whole) found.1.0 found.1.1
