-- What is done to a world in a layout change, as acts.
use Rattle.std.specs.Prelude.{ℕ, Some, List, [], ◌∷◌, ◌++◌, map}
use Rattle.layout_roles.specs.declared.role.Role.{Role}
use Rattle.layout_roles.specs.declared.redundancy.Redundancy.{Redundancy}
use Rattle.crdt_rows.specs.declared.any_row.AnyRow.{AnyRow}
use Rattle.cluster_machine.specs.declared.step.Action.{Action}
use Rattle.cluster_machine.specs.declared.step.Action.TheVariants as action
use Rattle.cluster_machine.specs.declared.step.Step.{Step}
use Rattle.cluster_machine.specs.declared.step.Step.TheVariants as step
use Rattle.cluster_machine.specs.Phases.{with_node}
use Rattle.change_model.specs.Steps.{from_one}
use Rattle.store_model.specs.Run.{plainly}
use Rattle.store_model.specs.Acts.{Act, moves, drain, forgets, all_messages}
use Rattle.serve_changes.specs.Acts.{steps, shows_acts, spreads_acts, each_acts}
use Rattle.change_deeds.specs.declared.deeds.Deed.{Deed}
use Rattle.change_deeds.specs.declared.deeds.Deed.TheVariants.{Show, Turn, Drain}

-- the step by which a node acts so
abbrev pub step_of : Action → ℕ → Step AnyRow
step_of action.Ack = step.Ack
step_of action.Sync = step.Sync
step_of action.SyncAck = step.SyncAck
step_of action.Clean = step.Clean
step_of action.Work = step.Work
step_of action.Repair = step.Repair
step_of action.Collect = step.Collect

-- the step by which a role is staged
abbrev pub staged_as : Role → Step AnyRow
staged_as role = step.Role role.node (Some (role.zone, role.kind))

-- these roles are staged, and the redundancy
abbrev pub staged_roles : List Role → Redundancy → List Act
staged_roles roles wanted = steps (map (λ role. plainly (staged_as role)) roles) ++ moves (plainly (step.Redundancy wanted)) ∷ []

-- the act
abbrev pub act_of : Deed → Act
act_of (Show from to) = moves (plainly (step.Gossip from to))
act_of (Turn action node) = moves (plainly (step_of action node))
act_of Drain = drain all_messages

-- the acts of a change past its apply
abbrev pub acts_past_apply : ℕ → List ℕ → List Act
acts_past_apply m part =
    shows_acts (from_one m part)
    ++ (each_acts step.Ack part ++ (spreads_acts m part
    ++ (each_acts step.Sync part ++ (drain all_messages ∷ (spreads_acts m part
    ++ (each_acts step.SyncAck part ++ (spreads_acts m part
    ++ (each_acts step.Clean part ++ forgets ∷ []))))))))

-- nodes among others, in order and each once
abbrev pub with_nodes : List ℕ → List ℕ → List ℕ
with_nodes [] others = others
with_nodes (n ∷ ns) others = with_node n (with_nodes ns others)
