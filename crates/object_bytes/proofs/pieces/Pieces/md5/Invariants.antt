use Rattle.std.proofs.Common.{ℕ, List, ◌++◌, take}
use Rattle.std.specs.List.{concat}
use Rattle.md5.specs.Md5.{Holds}
use Rattle.object_bytes.proofs.pieces.Pieces.md5.Given as goal

-- the hasher holds what it held, and the blocks so far
abbrev pub invariant-loop-block : goal.invariant-loop-block
invariant-loop-block l = (whole : List ℕ) → Holds l.initial.hasher whole → Holds l.hasher (whole ++ concat (take l.block-index l.block-items))
