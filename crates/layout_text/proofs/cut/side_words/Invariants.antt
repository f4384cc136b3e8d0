use Rattle.std.proofs.Common.{◌≡◌, take}
use Rattle.layout_roles.specs.Text.{side_words}
use Rattle.layout_text.proofs.cut.side_words.Given as goal

abbrev pub invariant-loop-vertex : goal.invariant-loop-vertex
invariant-loop-vertex l = l.words ≡ side_words l.names (take l.vertex-index l.side) l.partition
