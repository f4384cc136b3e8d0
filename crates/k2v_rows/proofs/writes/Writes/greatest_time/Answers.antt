use Rattle.std.proofs.Common.{◌≡◌, ◌-◌, length, Some, None, slice_get, subst, sym, ap}
use Rattle.crdt_core.specs.Map.{map_entries}
use Rattle.k2v_rows.specs.Later.{greatest_from}
use Rattle.k2v_rows.proofs.Lasts.{last_of_later, no_last}
use Rattle.k2v_rows.proofs.writes.Writes.greatest_time.Goals as goal

-- the last value has the greatest time
pub returns-in-Some : goal.returns-in-Some
returns-in-Some c =
    let w = c.args.self.now in
    let last = c.in-Some.field-0.now in
    last_of_later w.discard.0 (map_entries w.values) last w.values.ascending w.kept (subst (λ es. Some last ≡ slice_get es (length es - 1)) c.as_slice.ensures c.in-Some.ensures.value)

pub returns-in-None : goal.returns-in-None
returns-in-None c =
    let w = c.args.self.now in
    sym (ap (greatest_from w.discard.0) (no_last (map_entries w.values) (subst (λ es. None ≡ slice_get es (length es - 1)) c.as_slice.ensures c.in-None.ensures.value)))
