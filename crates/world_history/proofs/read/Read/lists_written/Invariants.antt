use Rattle.std.proofs.Common.{◌≡◌, true, take}
use Rattle.std.specs.List.{list_all}
use Rattle.world_history.specs.Checks.{is_written_if_named}
use Rattle.world_history.proofs.read.Read.lists_written.Given as goal

abbrev pub invariant-loop-key : goal.invariant-loop-key
invariant-loop-key l =
    list_all (is_written_if_named l.index.records.now l.self.finished l.self.kind l.self.bucket.now l.self.key.now) (take l.key-index l.entries) ≡ true
