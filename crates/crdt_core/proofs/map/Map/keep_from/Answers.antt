use Rattle.std.proofs.Common.{◌≡◌, drop, sym, ◌∙◌}
use Rattle.crdt_core.specs.Entries.{entries_from}
use Rattle.crdt_core.specs.MapLaws.{same_map, map_from-entries}
use Rattle.crdt_core.proofs.PlaceLemmas.{from_at, from_gap, ascending_drop}
use Rattle.crdt_core.proofs.map.Map.keep_from.Goals as goal
use Rattle.crdt_core.proofs.map.Map.keep_from.Goals.{in-Ok, in-Err}

pub invariant_of-self : goal.invariant_of-self
invariant_of-self g c = record { ascending = rw c.drop_front.ensures (ascending_drop g.K.Ord.cmp c.args.self.now.entries _ c.args.self.now.ascending) }

-- the entries from the key's place on are kept
pub returns : goal.returns
returns g c =
    let R = g.K.Ord.cmp in
    let k = c.args.key.now in
    let es = c.args.self.now.entries in
    let kept = c.args.self.now.ascending in
    let left : drop c.match-place.smaller es ≡ entries_from R k es =
    elim c.match-place.branch [
      | in-Ok w ↦ rw w.smaller-is (from_at R k g.met.K.Ord.total es _ kept (rw c.as_slice.ensures at w.in-Ok.ensures.found))
      | in-Err w ↦ rw w.smaller-is (from_gap R k g.met.K.Ord.total es _ kept (rw c.as_slice.ensures at w.in-Err.ensures.absent))
    ] in
    same_map _ _ (c.drop_front.ensures ∙ (left ∙ sym (map_from-entries g.met.K.Ord.total k c.args.self.now)))
