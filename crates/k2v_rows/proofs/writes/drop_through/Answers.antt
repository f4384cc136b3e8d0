use Rattle.std.proofs.Common.{◌≡◌, ◌-◌, ◌≤◌, suc, length, Some, None, slice_get, subst, sym, ap, ◌∙◌, arith, add-one}
use Rattle.std.specs.Cmp.{nat_cmp_total}
use Rattle.crdt_core.specs.Map.{map_entries, map_from}
use Rattle.crdt_core.specs.MapLaws.{map_from-entries, same_map}
use Rattle.k2v_rows.specs.Later.{greatest_from}
use Rattle.k2v_rows.proofs.Lasts.{last_time, no_last, none_later}
use Rattle.k2v_rows.proofs.writes.drop_through.Goals as goal
use Rattle.k2v_rows.proofs.writes.drop_through.Goals.{in-Some, in-None}

pub returns-then-discard-last : goal.returns-then-discard-last
returns-then-discard-last c = c.keep_from.ensures ∙ ap (λ k. map_from k c.args.values.now) (add-one c.args.discard)

-- no value is later than the last
pub returns-else-discard-last : goal.returns-else-discard-last
returns-else-discard-last c =
    let m = c.args.values.now in
    let d = c.args.discard in
    let greatest : greatest_from 0 (map_entries m) ≤ d = elim c.match-last.branch [
      | in-Some w ↦
          let x = w.in-Some.field-0.now in
          let is = last_time (map_entries m) x m.ascending (subst (λ es. Some x ≡ slice_get es (length es - 1)) c.as_slice.ensures w.in-Some.ensures.value) in
          omega (arith, is, w.last-is, c.if-discard-last.false)
      | in-None w ↦
          let none = ap (greatest_from 0) (no_last (map_entries m) (subst (λ es. None ≡ slice_get es (length es - 1)) c.as_slice.ensures w.in-None.ensures.value)) in
          omega (arith, none)
    ] in
    same_map _ _ (c.new.ensures ∙ sym (map_from-entries nat_cmp_total (suc d) m ∙ none_later d (map_entries m) greatest))
