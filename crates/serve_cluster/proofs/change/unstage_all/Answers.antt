use Rattle.std.proofs.Common.{◌<◌, ◌+◌, None, arith}
use Rattle.cluster_machine.specs.declared.step.Step.TheVariants as step
use Rattle.store_model.specs.Run.{plainly}
use Rattle.store_model.specs.Acts.{moves}
use Rattle.serve_cluster.proofs.Acting.{cause_more}
use Rattle.serve_cluster.proofs.Going.{begins, going_store, one_done, one_lacks_room, all_done}
use Rattle.serve_cluster.proofs.Staging.{out_acts, out_from, next_out, none_out}
use Rattle.serve_cluster.proofs.change.unstage_all.Goals as goal

pub nodes-init : goal.nodes-init
nodes-init c = record { within = omega arith; going = begins c.args.world.now out_acts }

pub stage_as-requires-clause-stands : goal.stage_as-requires-clause-stands
stage_as-requires-clause-stands c = going_store c.args.world.now c.nodes.world out_acts (out_from c.nodes.node) c.requires c.nodes.invariant.going

pub nodes-preserved : goal.nodes-preserved
nodes-preserved c =
    let few : c.nodes.node < 16 = omega (arith, c.nodes-test.true) in
    record {
      within = omega (arith, few);
      going =
          one_done c.args.world.now c.nodes.world c.stage_as.new.world out_acts (out_from c.nodes.node) (moves (plainly (step.Role (c.nodes.node + 1) None))) (out_from (c.nodes.node + 1)) (next_out c.nodes.node few) c.nodes.invariant.going
          c.in-Ok.ensures.does;
    }

pub returns-in-Err-clause-causes : goal.returns-in-Err-clause-causes
returns-in-Err-clause-causes c =
    let few : c.nodes.node < 16 = omega (arith, c.nodes-test.true) in
    cause_more c.in-Err.memory
    (one_lacks_room c.args.world.now c.nodes.world out_acts (out_from c.nodes.node) (moves (plainly (step.Role (c.nodes.node + 1) None))) (out_from (c.nodes.node + 1)) (next_out c.nodes.node few) c.nodes.invariant.going) c.in-Err.ensures.causes

pub returns-clause-does : goal.returns-clause-does
returns-clause-does c = all_done c.args.world.now c.nodes.world out_acts (out_from c.nodes.node) (none_out c.nodes.node (omega (arith, c.nodes-test.false))) c.nodes.invariant.going
