use Rattle.std.proofs.Common.{◌≡◌, ◌++◌, take, flat_map}
use Rattle.layout_roles.specs.Text.{node_word}
use Rattle.layout_text.proofs.cut.append_nodes.Given as goal

abbrev pub invariant-loop-vertex : goal.invariant-loop-vertex
invariant-loop-vertex l = l.out ≡ l.fn.out ++ flat_map node_word (take l.vertex-index l.side)
