use Rattle.audit_findings.proofs.Following.{run_found}
use Rattle.audit_findings.proofs.each_run_is_found.Goals as goal

pub returns : goal.returns
returns c = λ events text saids history scheduled readable fresh lawful.
    let cuts = c.cuts_change_no_run.ensures in
    run_found c.first_turns_keep_promises.ensures.beside c.next_turns_can_be_given.ensures c.next_turns_go_on_or_pass.ensures (record { events = cuts.events; end = cuts.end; go_on = cuts.go_on })
    events text saids history scheduled readable fresh lawful
