use Rattle.std.proofs.Common.{◌≡◌, take}
use Rattle.node_parts.specs.References.{ended}
use Rattle.node_parts.proofs.references.end_references.Given as goal

abbrev pub invariant-loop-hash : goal.invariant-loop-hash
invariant-loop-hash l = l.blocks ≡ ended l.now l.fn.blocks (take l.hash-index l.hashes)
