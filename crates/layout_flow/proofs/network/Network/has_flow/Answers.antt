use Rattle.layout_flow.specs.Closed.{columns}
use Rattle.layout_flow.proofs.Whole.{laid, some_fits, copies_row}
use Rattle.layout_flow.proofs.network.Network.has_flow.Goals as goal

pub returns : goal.returns
returns c =
    let net = c.args.self.now in (
      λ t. (columns 256 (copies_row net.roles.list net.r net.size), (laid net.roles.list net.r net.size net.low net.high net.roles.ascending (c.has_room.ensures.0 t)).fits),
      λ some. c.has_room.ensures.1 (some_fits net.roles.list net.r net.size net.high net.roles.ascending some),
    )
