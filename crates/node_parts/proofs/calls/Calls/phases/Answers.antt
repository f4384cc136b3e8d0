use Rattle.std.proofs.Common.{◌∙◌, ap}
use Rattle.std.specs.Prelude.{option_map}
use Rattle.std.specs.Map.{lookup}
use Rattle.cluster_machine.specs.Phases.{call_at}
use Rattle.node_parts.specs.declared.call.Call.{Call}
use Rattle.node_parts.proofs.OpenCalls.{finds, looked_up, same_phases}
use Rattle.node_parts.proofs.calls.Calls.phases.Goals as goal

pub returns-in-Some : goal.returns-in-Some
returns-in-Some g c calls are =
    let es = c.args.self.now.by_number.entries in
    ap (option_map (λ (d : Call g.row.S.Denot g.row.S-Row.Denot). d.phases)) c.in-Some.ensures.value
    ∙ same_phases (lookup (finds (record { 0 = c.args.request })) es) (call_at calls c.args.request) (looked_up (record { 0 = c.args.request }) es calls are)

pub returns-in-None : goal.returns-in-None
returns-in-None g c calls are =
    let es = c.args.self.now.by_number.entries in
    ap (option_map (λ (d : Call g.row.S.Denot g.row.S-Row.Denot). d.phases)) c.in-None.ensures.value
    ∙ same_phases (lookup (finds (record { 0 = c.args.request })) es) (call_at calls c.args.request) (looked_up (record { 0 = c.args.request }) es calls are)
