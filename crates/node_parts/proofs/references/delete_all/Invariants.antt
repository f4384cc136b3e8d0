use Rattle.std.proofs.Common.{◌≡◌, take}
use Rattle.node_parts.specs.References.{deleted_all}
use Rattle.node_parts.proofs.references.delete_all.Given as goal

abbrev pub invariant-loop-hash : goal.invariant-loop-hash
invariant-loop-hash l = l.blocks ≡ deleted_all l.fn.blocks (take l.hash-index l.hashes)
