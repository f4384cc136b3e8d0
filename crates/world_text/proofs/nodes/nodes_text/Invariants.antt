use Rattle.std.proofs.Common.{◌≡◌, ◌++◌, drop, flat_map}
use Rattle.store_model.specs.Run.{State}
use Rattle.text_model.specs.Transcript.{line_at}
use Rattle.s3_world.specs.Stands.{IsStore}
use Rattle.world_text.proofs.nodes.nodes_text.Given as goal

abbrev pub invariant-loop-node : goal.invariant-loop-node
invariant-loop-node l = (s : State) → IsStore l.world s → l.text ++ flat_map (line_at s.world) (drop l.node-index l.nodes) ≡ flat_map (line_at s.world) l.nodes
