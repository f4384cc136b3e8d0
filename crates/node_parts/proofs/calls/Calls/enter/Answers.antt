use Rattle.std.proofs.Common.{subst, sym, ap, ◌∙◌, refl}
use Rattle.std.specs.List.{AllZip}
use Rattle.std.specs.Map.{lookup}
use Rattle.std.proofs.lemmas.Option.{same_Some}
use Rattle.cluster_machine.specs.Node.{Call as Opened}
use Rattle.cluster_machine.specs.Phases.{with_call}
use Rattle.node_parts.specs.declared.call.Call.{Call}
use Rattle.node_parts.specs.Calls.{IsEntry}
use Rattle.node_parts.proofs.OpenCalls.{finds, AreFound, looked_up, call_written, found_call, not_found}
use Rattle.node_parts.proofs.Answered.{request_is}
use Rattle.node_parts.proofs.calls.Calls.enter.Goals as goal

pub returns-in-Some : goal.returns-in-Some
returns-in-Some g c calls m doing are there is =
    let es = c.args.self.now.by_number.entries in
    let w : Call g.row.S.Denot g.row.S-Row.Denot = record { start = c.in-Some.call.now.start; phases = c.args.number; present = c.args.present } in
    let now : Opened g.row.S-Row.Denot = record m { phases = c.args.number; present = doing } in
    let found = found_call (lookup (finds (record { 0 = c.args.request })) es) c.in-Some.call.now m (sym c.in-Some.ensures.value)
    (subst (λ o. AreFound (lookup (finds (record { 0 = c.args.request })) es) o) there (looked_up (record { 0 = c.args.request }) es calls are)) in
    subst (λ ns. AllZip IsEntry ns (with_call now calls)) (sym (c.get_mut.follows.holds w).0)
    (call_written (record { 0 = c.args.request }) w now es calls c.get_mut.ensures.ordered are (request_is c.args.request m calls there)
    (λ n other. ap (λ (d : Opened g.row.S-Row.Denot). d.start) (same_Some m n (sym there ∙ other)))
    (record { start = found.start; phases = refl; present = is }))

pub returns-in_default : goal.returns-in_default
returns-in_default g c calls m doing are there is =
    let es = c.args.self.now.by_number.entries in
    absurd (not_found (lookup (finds (record { 0 = c.args.request })) es) m (sym c.in_default.ensures.value)
    (subst (λ o. AreFound (lookup (finds (record { 0 = c.args.request })) es) o) there (looked_up (record { 0 = c.args.request }) es calls are)))
