use Rattle.std.proofs.Common.{ap, ◌∙◌}
use Rattle.crdt_core.specs.Map.{map_entries, map_join}
use Rattle.crdt_core.specs.Max.{max_join}
use Rattle.k2v_rows.specs.Later.{are_later}
use Rattle.k2v_rows.specs.Value.{value_cmp}
use Rattle.k2v_rows.specs.WritesLaws.{values_after}
use Rattle.k2v_rows.proofs.writes.WritesCrdt.merge.Goals as goal

-- the merged values are after the discard time
pub invariant_of-self-2 : goal.invariant_of-self-2
invariant_of-self-2 c =
    let d = c.merge.new.self.0 in
    record { kept = ap (λ m. are_later d (map_entries m)) c.in_ok-merge_values.ensures.joined ∙ values_after d (map_join (max_join value_cmp) c.args.self.now.values c.args.other.now.values) }
