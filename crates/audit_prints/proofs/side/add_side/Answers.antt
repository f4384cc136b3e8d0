use Rattle.std.proofs.Common.{◌≡◌, ◌++◌, List, OnOk, ap, subst, ◌∙◌, arith}
use Rattle.layout_roles.specs.declared.vertex.Vertex.{Vertex}
use Rattle.audit_prints.specs.Sides.{zone_numbers}
use Rattle.audit_prints.proofs.Named.{line_named}
use Rattle.audit_prints.proofs.side.add_side.Goals as goal

pub returns-clause-ok : goal.returns-clause-ok
returns-clause-ok c =
    subst (λ (vs : List Vertex). OnOk c.add_partitions.result (c.add_partitions.new.side ≡ c.args.side.now ++ vs))
    (line_named c.args.names.now c.args.up c.args.down c.args.zones.now c.as_slice-2.result.now c.args.first c.args.last (omega arith) (c.as_slice-2.ensures ∙ (c.in_ok-numbers.ensures.numbers ∙ ap (zone_numbers c.args.names.now) c.as_slice.ensures)))
    c.add_partitions.ensures.ok
