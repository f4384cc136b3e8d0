use Rattle.std.proofs.Common.{◌≡◌, ◌++◌, take}
use Rattle.std.specs.List.{concat}
use Rattle.object_bytes.proofs.pieces.Pieces.into_bytes.Given as goal

-- the bytes are those that came at once, and those of the blocks so far
abbrev pub invariant-loop-block : goal.invariant-loop-block
invariant-loop-block l = l.bytes ≡ l.initial.bytes ++ concat (take l.block-index l.block-items)
