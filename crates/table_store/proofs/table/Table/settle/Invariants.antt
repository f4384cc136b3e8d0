use Rattle.std.proofs.Common.{◌≡◌, ◌<◌, All, IsTrue}
use Rattle.table_store.proofs.Wholes.{AllWritten}
use Rattle.table_store.proofs.table.Table.settle.Given as goal

abbrev pub invariant-loop-p : goal.invariant-loop-p
invariant-loop-p g l = record {
  same : l.self ≡ l.fn.self;
  written : AllWritten g.S.Schema.words l.p l.fn.self;
  proper : 0 < l.p → All (λ r. IsTrue (g.S.Schema.words.is_proper r)) l.fn.self;
}
