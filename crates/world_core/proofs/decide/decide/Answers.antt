use Rattle.std.proofs.Common.{Err, ap, ◌∙◌}
use Rattle.world_core.proofs.DecidedLayout.{enough, shows}
use Rattle.layout_roles.specs.Certificates.{zones_wanted}
use Rattle.world_core.proofs.decide.decide.Goals as goal

pub returns-in_ok-roles-in-Ok-clause-decided : goal.returns-in_ok-roles-in-Ok-clause-decided
returns-in_ok-roles-in-Ok-clause-decided c = record {
  same = ap (λ rs. rs.list) c.in_ok-roles-in-Ok.ensures.same;
  enough = enough c.args.roles.now.list c.args.wanted c.compute.result c.compute.ensures.nodes c.compute.ensures.zones (λ n e. let is = c.in-Ok.is in cc) (λ z r e. let is = c.in-Ok.is in cc);
  certified = c.in-Ok.ensures.certified;
}

pub returns-in-Err-TooFewNodes-clause-decided : goal.returns-in-Err-TooFewNodes-clause-decided
returns-in-Err-TooFewNodes-clause-decided c = (c.compute.ensures.nodes c.in-Err-TooFewNodes.nodes).0 (c.in-Err-TooFewNodes.is ∙ ap Err c.in-Err-TooFewNodes.field-0-is)

pub returns-in-Err-TooFewZones-clause-decided : goal.returns-in-Err-TooFewZones-clause-decided
returns-in-Err-TooFewZones-clause-decided c = (c.compute.ensures.zones c.in-Err-TooFewZones.zones c.in-Err-TooFewZones.r).0 (c.in-Err-TooFewZones.is ∙ ap Err c.in-Err-TooFewZones.field-0-is)

pub returns-in-Err-NoAssignment-clause-decided : goal.returns-in-Err-NoAssignment-clause-decided
returns-in-Err-NoAssignment-clause-decided c =
    let is = c.in-Err-NoAssignment.is ∙ ap Err c.in-Err-NoAssignment.field-0-is in
    let roles = c.args.roles.now.list in (
      enough roles c.args.wanted c.compute.result c.compute.ensures.nodes c.compute.ensures.zones (λ n e. cc) (λ z r e. cc),
      shows roles (zones_wanted c.args.wanted roles) c.in-Err-NoAssignment.field-0 c.in-Err-NoAssignment.cut c.in-Err-NoAssignment.field-0-is c.in-Err-NoAssignment.ensures.none,
    )
