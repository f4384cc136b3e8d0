use Rattle.std.proofs.Common.{◌≡◌, ◌≤◌, List, length, sym, ap, subst, ◌∙◌}
use Rattle.layout_roles.specs.Zones.{Name, zone_names}
use Rattle.audit_prints.proofs.Named.{few_names}
use Rattle.audit_prints.proofs.cuts.light_cut.Goals as goal

pub side_of-requires : goal.side_of-requires
side_of-requires c =
    let roles = c.args.roles.now in
    let is : c.as_slice-2.result.now ≡ zone_names roles.list = c.as_slice-2.ensures ∙ (c.in_ok-names.ensures.names ∙ ap zone_names c.as_slice.ensures) in
    subst (λ (names : List Name). length names ≤ 256) (sym is) (few_names roles.list roles.ascending roles.numbered)
