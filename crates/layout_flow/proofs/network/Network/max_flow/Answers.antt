use Rattle.std.proofs.Common.{◌-◌, ◌≤◌, arith}
use Rattle.std.proofs.lemmas.Bool.{iff_false}
use Rattle.layout_flow.specs.Closed.{copies_for}
use Rattle.layout_flow.proofs.Whole.{none_fits}
use Rattle.layout_flow.proofs.network.Network.max_flow.Goals as goal

pub returns-in_ok-cut-clause-none : goal.returns-in_ok-cut-clause-none
returns-in_ok-cut-clause-none c =
    let net = c.args.self.now in
    let little : 768 ≤ copies_for 256 net.roles.list net.size (4 - net.r) → ⊥ = iff_false c.has_room.ensures c.if-has_room.false in
    none_fits net.roles.list net.r net.size net.high net.roles.ascending (omega arith)
