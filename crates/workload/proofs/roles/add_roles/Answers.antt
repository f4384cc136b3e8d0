use Rattle.std.proofs.Common.{◌≡◌, ◌-◌, ◌++◌, map, ap, ◌∙◌, arith}
use Rattle.std.specs.List.{range_with_len}
use Rattle.workload.specs.Change.{role_of}
use Rattle.workload.proofs.Ranges.{range_pushed}
use Rattle.workload.proofs.roles.add_roles.Goals as goal

pub loop-node-preserved : goal.loop-node-preserved
loop-node-preserved c =
    range_pushed (role_of c.args.j) 1 c.loop-node.node c.args.events.now c.loop-node.events c.push.new.self c.in_ok-role.field-0 c.loop-node.auto.node c.loop-node.invariant c.in_ok-role.ensures.role c.in_ok-push.ensures.ok

pub returns-clause-ok : goal.returns-clause-ok
returns-clause-ok c =
    let end : c.loop-node.node ≡ 7 = omega (arith, c.loop-node.auto.node-end (omega arith)) in
    c.loop-node.invariant ∙ ap (λ n. c.args.events.now ++ map (role_of c.args.j) (range_with_len 1 (n - 1))) end
