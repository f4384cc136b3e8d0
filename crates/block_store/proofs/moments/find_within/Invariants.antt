use Rattle.std.proofs.Common.{Some}
use Rattle.block_store.specs.Contents.{Contents}
use Rattle.block_store.specs.Moments.{AreMoments}
use Rattle.block_store.proofs.Within.{Finds}
use Rattle.block_store.proofs.moments.find_within.Given as goal

abbrev pub invariant-loop-moment : goal.invariant-loop-moment
invariant-loop-moment l = (c : Contents) → AreMoments (Some l.fn.moments) c → Finds l.fn.limit c l.moment-iterator l.found
