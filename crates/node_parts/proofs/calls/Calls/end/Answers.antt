use Rattle.std.proofs.Common.{subst, sym, ap, ◌∙◌}
use Rattle.std.specs.List.{AllZip}
use Rattle.std.specs.Map.{lookup}
use Rattle.cluster_machine.specs.Phases.{without_call}
use Rattle.node_parts.specs.Calls.{IsEntry}
use Rattle.node_parts.proofs.OpenCalls.{finds, call_forgotten}
use Rattle.node_parts.proofs.calls.Calls.end.Goals as goal

pub returns : goal.returns
returns g c calls are =
    let same = c.remove.ensures.entries in
    let gone = sym (ap (lookup (finds (record { 0 = c.args.request }))) same) ∙ c.remove.ensures.updates.1 in
    subst (λ es. AllZip IsEntry es (without_call c.args.request calls)) (sym same) (call_forgotten (record { 0 = c.args.request }) c.args.self.now.by_number.entries calls gone are)
