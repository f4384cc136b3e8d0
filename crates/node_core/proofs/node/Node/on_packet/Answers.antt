use Rattle.node_core.proofs.Nodes.{with_dropped}
use Rattle.node_core.proofs.node.Node.on_packet.Goals as goal

pub returns-clause-receives : goal.returns-clause-receives
returns-clause-receives g c id x is =
    let done = c.in_ok-heard.ensures.receives id x is in
    record { stands = with_dropped c.hear.new.self id _ c.in_ok-heard.heard.dropped done.stands; posts = done.posts; ends = done.ends; spelled = done.spelled }
