use Rattle.std.proofs.Common.{◌∷◌, subst, sym, refl}
use Rattle.std.specs.List.{AllZip}
use Rattle.cluster_machine.specs.Node.{Call as Opened, resting}
use Rattle.node_parts.specs.Calls.{IsEntry}
use Rattle.node_parts.specs.declared.call.Call.{Call}
use Rattle.node_parts.specs.declared.call.Present.TheVariants.{Resting}
use Rattle.node_parts.proofs.OpenCalls.{call_begun}
use Rattle.node_parts.proofs.calls.Calls.begin.Goals as goal

pub returns-clause-begun : goal.returns-clause-begun
returns-clause-begun g c calls are below =
    let v : Call g.row.S.Denot g.row.S-Row.Denot = record { start = c.args.start; phases = 0; present = Resting } in
    let m : Opened g.row.S-Row.Denot = record { request = c.args.request; start = c.args.start; phases = 0; present = resting } in
    subst (λ es. AllZip IsEntry es (m ∷ calls)) (sym c.in_ok-insert.ensures.entries)
    (call_begun (record { 0 = c.args.request }) v m c.args.self.now.by_number.entries calls below are refl (record { start = refl; phases = refl; present = tt }))
