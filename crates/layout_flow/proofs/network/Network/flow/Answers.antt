use Rattle.std.proofs.Common.{◌≡◌, ℕ, ◌-◌, List, IsTrue, length, take, sym, ap, ◌∙◌, subst, arith}
use Rattle.std.specs.List.{flat_map, list_all}
use Rattle.layout_roles.specs.declared.role.Role.{Role}
use Rattle.layout_roles.specs.Zones.{set_ascends, zones}
use Rattle.layout_roles.specs.Fits.{NodeSet, Fits}
use Rattle.layout_flow.specs.Closed.{columns, zone_copies}
use Rattle.layout_flow.proofs.Whole.{Laid, laid, copies_row, row_length}
use Rattle.layout_flow.proofs.network.Network.flow.Goals as goal

row_is : (roles : List Role) (r size : ℕ) (groups : List (List Role)) (copies : List ℕ) → copies ≡ take 768 (flat_map (zone_copies 256 size (4 - r)) groups) → groups ≡ zones roles → copies ≡ copies_row roles r size
row_is roles r size groups copies e f = e ∙ ap (λ (zs : List (List Role)). take 768 (flat_map (zone_copies 256 size (4 - r)) zs)) f

pub sets_of-requires : goal.sets_of-requires
sets_of-requires c =
    let net = c.args.self.now in
    let row = row_is net.roles.list net.r net.size c.as_slice.result.now c.in_ok-copies.copies c.in_ok-copies.ensures.copies (c.as_slice.ensures ∙ net.grouped) in
    let long = ap (λ (xs : List ℕ). length xs) (c.as_slice-2.ensures ∙ row) ∙ row_length net.roles.list net.r net.size c.requires in
    let count = c.from.ensures in
    omega arith

sets_are : (roles : List Role) (r size : ℕ) (count : ℕ) (copies : List ℕ) (sets : List NodeSet) → sets ≡ columns count copies → count ≡ 256 → copies ≡ copies_row roles r size → sets ≡ columns 256 (copies_row roles r size)
sets_are roles r size count copies sets e f g = e ∙ (λ i. columns (f i) (g i))

pub invariant_of-result : goal.invariant_of-result
invariant_of-result c =
    let net = c.args.self.now in
    let row = row_is net.roles.list net.r net.size c.as_slice.result.now c.in_ok-copies.copies c.in_ok-copies.ensures.copies (c.as_slice.ensures ∙ net.grouped) in
    let sets = sets_are net.roles.list net.r net.size c.from.result c.as_slice-2.result.now c.in_ok-sets.sets c.in_ok-sets.ensures.sets c.from.ensures (c.as_slice-2.ensures ∙ row) in
    let done : Laid net.roles.list net.r net.size (columns 256 (copies_row net.roles.list net.r net.size)) = laid net.roles.list net.r net.size net.low net.high net.roles.ascending c.requires in
    record {
      whole = ap (λ (xs : List NodeSet). length xs) sets ∙ done.whole;
      ascending = subst (λ (xs : List NodeSet). IsTrue (list_all set_ascends xs)) (sym sets) done.rises;
    }

pub returns-clause-fits : goal.returns-clause-fits
returns-clause-fits c =
    let net = c.args.self.now in
    let row = row_is net.roles.list net.r net.size c.as_slice.result.now c.in_ok-copies.copies c.in_ok-copies.ensures.copies (c.as_slice.ensures ∙ net.grouped) in
    let sets = sets_are net.roles.list net.r net.size c.from.result c.as_slice-2.result.now c.in_ok-sets.sets c.in_ok-sets.ensures.sets c.from.ensures (c.as_slice-2.ensures ∙ row) in
    let done : Laid net.roles.list net.r net.size (columns 256 (copies_row net.roles.list net.r net.size)) = laid net.roles.list net.r net.size net.low net.high net.roles.ascending c.requires in
    subst (λ (xs : List NodeSet). Fits net.roles.list net.r net.size xs) (sym sets) done.fits
