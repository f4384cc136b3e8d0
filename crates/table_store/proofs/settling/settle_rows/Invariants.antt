use Rattle.std.proofs.Common.{◌≡◌, ◌+◌, false, cond, length}
use Rattle.std.specs.Map.{keys_of}
use Rattle.table_store.specs.Settled.{Fits, IsSettled}
use Rattle.table_store.proofs.settling.settle_rows.Given as goal

abbrev pub invariant-loop-more : goal.invariant-loop-more
invariant-loop-more g l = record {
  fits : Fits g.S.Schema.words l.p l.rows.entries l.part;
  keys : keys_of l.part.pairs.entries ≡ keys_of l.fn.part.pairs.entries;
  settled : l.more ≡ false → IsSettled l.part;
}

abbrev pub decreases-loop-more : goal.decreases-loop-more
decreases-loop-more g l = length l.part.waiting.keys + cond l.more 1 0
