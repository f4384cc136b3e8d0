use Rattle.std.proofs.Common.{sym}
use Rattle.crdt_core.specs.Places.{IsAt, IsGap}
use Rattle.crdt_core.proofs.PlaceLemmas.{value_at-place, value_at-gap, read_some}
use Rattle.crdt_core.proofs.map.Map.get.Goals as goal

-- the entry at the key's place has its value
pub returns-in-Ok : goal.returns-in-Ok
returns-in-Ok g c =
    let R = g.K.Ord.cmp in
    let es = c.args.self.now.entries in
    let at : IsAt R c.args.key.now es c.in-Ok.i = rw c.as_slice.ensures at c.in-Ok.ensures.found in
    sym (value_at-place R c.args.key.now es c.in-Ok.i c.at.result.now g.met.K.Ord.total at (read_some es c.in-Ok.i _ c.at.ensures))

-- a key with a gap has none
pub returns-in-Err : goal.returns-in-Err
returns-in-Err g c =
    let R = g.K.Ord.cmp in
    let es = c.args.self.now.entries in
    let gap : IsGap R c.args.key.now es c.in-Err.field-0 = rw c.as_slice.ensures at c.in-Err.ensures.absent in
    sym (value_at-gap R c.args.key.now es c.in-Err.field-0 g.met.K.Ord.total gap)
