use Rattle.std.proofs.Common.{take}
use Rattle.std.specs.List.{AllByRecursion}
use Rattle.blake2_hash.specs.Blake2b.{blake2b}
use Rattle.cluster_machine.specs.Blocks.{IsRowWithBlock}
use Rattle.object_schema.specs.Schema.{words}
use Rattle.node_tests.proofs.tests.come_with_blocks.Given as goal

-- the rows so far come with their blocks
abbrev pub invariant-loop-stored : goal.invariant-loop-stored
invariant-loop-stored l = AllByRecursion (IsRowWithBlock (blake2b 32) words) (take l.stored-index l.rows)
