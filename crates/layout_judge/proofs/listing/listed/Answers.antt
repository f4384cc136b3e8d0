use Rattle.std.proofs.Common.{◌≡◌, ◌≤◌, List, length, sym, ap, subst, ◌∙◌}
use Rattle.layout_roles.specs.declared.role.Role.{Role}
use Rattle.layout_roles.specs.Zones.{zones}
use Rattle.layout_flow.proofs.Whole.{few_zones}
use Rattle.layout_judge.proofs.Kept.{all_kept}
use Rattle.layout_judge.proofs.listing.listed.Goals as goal

pub keep_partitions-requires : goal.keep_partitions-requires
keep_partitions-requires c =
    let roles = c.args.roles.now in
    let groups : c.as_slice-2.result.now ≡ zones roles.list = c.as_slice-2.ensures ∙ (c.in_ok-zones.ensures.groups ∙ ap zones c.as_slice.ensures) in
    record { few = subst (λ (zs : List (List Role)). length zs ≤ 256) (sym groups) (few_zones roles.list roles.ascending roles.numbered) }

pub returns-clause-listed : goal.returns-clause-listed
returns-clause-listed c =
    let roles = c.args.roles.now in
    let groups : c.as_slice-2.result.now ≡ zones roles.list = c.as_slice-2.ensures ∙ (c.in_ok-zones.ensures.groups ∙ ap zones c.as_slice.ensures) in
    all_kept c.new-side.result.vertices.now c.args.side.now roles.list c.as_slice-3.result.now c.as_slice-2.result.now
    c.new-kept.result c.keep.new.kept c.keep_partitions.new.kept c.keep_nodes.new.kept c.keep-2.new.kept
    c.new-side.ensures groups c.as_slice-3.ensures c.new-kept.ensures
    c.in_ok-keep.ensures.ok c.in_ok-keep_partitions.ensures.ok c.in_ok-keep_nodes.ensures.ok c.in_ok-keep-2.ensures.ok
