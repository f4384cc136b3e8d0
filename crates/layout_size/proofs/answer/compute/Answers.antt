use Rattle.std.proofs.Common.{◌≡◌, IfOk, sym, ap, ◌∙◌, subst, arith}
use Rattle.layout_roles.specs.declared.roles.Roles.{Roles}
use Rattle.layout_roles.specs.Certificates.{zones_wanted, IsCertified}
use Rattle.layout_size.proofs.Zones.{wanted_some}
use Rattle.layout_size.proofs.Certifying.{certified_of}
use Rattle.layout_size.proofs.answer.compute.Goals as goal

pub new-requires-clause-low : goal.new-requires-clause-low
new-requires-clause-low c =
    let roles = c.args.roles.now.list in
    let r : c.zones_of-r.result ≡ zones_wanted c.args.wanted roles = c.zones_of-r.ensures.wanted roles (sym c.zone_count-zones.ensures) in
    let count = c.storage_count-nodes.ensures in
    let some = wanted_some c.args.wanted roles c.requires (omega arith) in
    omega arith

pub returns-clause-certified : goal.returns-clause-certified
returns-clause-certified c =
    let roles = c.args.roles.now.list in
    let wanted = c.args.wanted in
    let r : c.zones_of-r.result ≡ zones_wanted wanted roles = c.zones_of-r.ensures.wanted roles (sym c.zone_count-zones.ensures) in
    let same = c.in_ok-new.ensures.roles in
    subst (λ (x : Roles). IfOk c.certify.result (IsCertified x.list wanted)) same
    (certified_of c.certify.result _ wanted _ (c.in_ok-new.ensures.redundancy ∙ r ∙ ap (λ (x : Roles). zones_wanted wanted x.list) (sym same)) c.certify.ensures.redundancy c.certify.ensures.greatest c.certify.ensures.above c.certify.ensures.some
    c.certify.ensures.cut c.certify.ensures.light)
