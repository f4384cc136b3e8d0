use Rattle.std.proofs.Common.{◌≡◌, ◌+◌, length, take}
use Rattle.std.specs.List.{concat}
use Rattle.object_bytes.proofs.pieces.Pieces.into_rest.Given as goal

-- the bytes that are gone, with those of the blocks so far, are as many as there were
abbrev pub invariant-loop-block : goal.invariant-loop-block
invariant-loop-block l = l.gone + length (concat (take l.block-index l.block-items)) ≡ l.initial.gone
