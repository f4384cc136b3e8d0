use Rattle.std.proofs.Common.{◌≡◌, ◌++◌, drop, flat_map}
use Rattle.k2v_model.specs.Run.{State}
use Rattle.k2v_text.specs.Transcript.{line_at}
use Rattle.k2v_world.specs.Stands.{IsItems}
use Rattle.k2v_api.proofs.tail.nodes_text.Given as goal

abbrev pub invariant-loop-node : goal.invariant-loop-node
invariant-loop-node l = (s : State) → IsItems l.items s → l.text ++ flat_map (line_at s.world) (drop l.node-index l.nodes) ≡ flat_map (line_at s.world) l.nodes
