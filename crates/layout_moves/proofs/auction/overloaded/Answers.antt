use Rattle.std.proofs.Common.{◌≡◌, ◌≤◌, true, List, length, get_or, sym, ap, ◌∙◌, subst, arith}
use Rattle.std.specs.List.{All}
use Rattle.std.proofs.lemmas.List.{take_all}
use Rattle.layout_roles.specs.declared.role.Role.{Role}
use Rattle.layout_roles.specs.Zones.{is_storage}
use Rattle.layout_roles.specs.Fits.{load, room}
use Rattle.layout_moves.proofs.Adding.{all_storage, all_more, not_full, over_here}
use Rattle.layout_moves.proofs.auction.overloaded.Goals as goal

pub loop-role-preserved : goal.loop-role-preserved
loop-role-preserved c =
    let roles = c.args.roles.now.list in
    let items = c.as_slice-role-items.ensures in
    let role = c.role-item.result in
    let long = ap (λ (rs : List Role). length rs) items in
    all_more (λ role. is_storage role ≡ true → load c.args.sets.now role.node ≤ room c.args.size role) roles c.loop-role.role-index role (omega arith)
    (c.role-item.is ∙ ap (λ (rs : List Role). get_or rs c.loop-role.role-index role) items) c.loop-role.invariant
    (not_full (is_storage role) (room c.args.size role) (load c.args.sets.now role.node) (sym c.is_too_full.ensures ∙ c.if-is_too_full.false))

pub returns-then-is_too_full-clause-some : goal.returns-then-is_too_full-clause-some
returns-then-is_too_full-clause-some c =
    let roles = c.args.roles.now.list in
    let items = c.as_slice-role-items.ensures in
    let role = c.role-item.result in
    let long = ap (λ (rs : List Role). length rs) items in
    over_here roles c.args.size c.args.sets.now c.loop-role.role-index role (omega arith) (c.role-item.is ∙ ap (λ (rs : List Role). get_or rs c.loop-role.role-index role) items) (sym c.is_too_full.ensures ∙ c.if-is_too_full.true)

pub returns-clause-none : goal.returns-clause-none
returns-clause-none c = λ _.
    let roles = c.args.roles.now.list in
    let long = ap (λ (rs : List Role). length rs) c.as_slice-role-items.ensures in
    all_storage (λ role. load c.args.sets.now role.node ≤ room c.args.size role) roles
    (subst (λ (rs : List Role). All (λ role. is_storage role ≡ true → load c.args.sets.now role.node ≤ room c.args.size role) rs) (take_all c.loop-role.role-index roles (omega arith)) c.loop-role.invariant)
