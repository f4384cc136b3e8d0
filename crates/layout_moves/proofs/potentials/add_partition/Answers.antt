use Rattle.std.proofs.Common.{◌≡◌, ℕ, ◌<◌, ◌++◌, [], ◌∷◌, List, length, map, take, get_or, sym, ap, ◌∙◌, arith, rules, append_assoc}
use Rattle.std.specs.Prelude.{ℤ, pos, ◌-ℤ◌}
use mir.Syntax.{w64}
use mir.Val.{SFits}
use Rattle.std.proofs.lemmas.Int.{to_z-of_z}
use Rattle.std.specs.List.{enumerate_from}
use Rattle.std.proofs.lemmas.List.{get_or_default}
use Rattle.layout_roles.specs.declared.role.Role.{Role}
use Rattle.layout_roles.specs.Zones.{zones}
use Rattle.layout_roles.specs.declared.vertex.Vertex.{Vertex}
use Rattle.layout_roles.specs.declared.vertex.Vertex.TheVariants.{Up, Down, Zone}
use Rattle.layout_roles.specs.Fits.{set_at}
use Rattle.layout_moves.specs.Moves.{Potentials}
use Rattle.layout_moves.specs.Prices.{asked, level, potential}
use Rattle.layout_moves.specs.Listing.{with_potential}
use Rattle.layout_moves.proofs.Adding.{zone_entry, all_entries}
use Rattle.layout_moves.proofs.potentials.add_partition.Goals as goal

pub loop-i-preserved : goal.loop-i-preserved
loop-i-preserved c =
    let roles = c.args.roles.now.list in
    let p = c.args.p in
    let i = c.loop-i.i in
    let φ : Potentials = potential roles c.args.each c.args.old.now c.args.sets.now c.args.prices.now c.args.top in
    let asks = asked 1 (set_at c.args.old.now p) c.args.prices.now in
    let set = set_at c.args.sets.now p in
    let long = ap (λ (zs : List (List Role)). length zs) c.requires.grouped in
    let less : i < length c.args.groups.now = c.loop-i-test.true in
    let inside : i < length (zones roles) = omega arith in
    let zone : c.as_slice.result.now ≡ get_or (zones roles) i [] =
    c.as_slice.ensures ∙ c.index-groups-i.is ∙ get_or_default c.args.groups.now i c.index-groups-i.result [] less ∙ ap (λ (zs : List (List Role)). get_or zs i []) c.requires.grouped in
    let value : c.below.result ≡ pos c.args.top -ℤ pos (level c.args.each asks set (get_or (zones roles) i [])) =
    c.below.ensures ∙ ap (λ n. pos c.args.top -ℤ pos n) (c.level_of-level.ensures.level
    ∙ ap (λ n. level c.args.each (asked 1 (set_at c.args.old.now n) c.args.prices.now) (set_at c.args.sets.now c.from.result) c.as_slice.result.now) c.from-2.ensures
    ∙ ap (λ n. level c.args.each asks (set_at c.args.sets.now n) c.as_slice.result.now) c.from.ensures ∙ ap (level c.args.each asks set) zone) in
    let fits : SFits w64 c.below.result = search rules in
    let kept = to_z-of_z w64 c.below.result fits in
    let head : List (Vertex × ℤ) = with_potential φ (Up p) ∷ with_potential φ (Down p) ∷ map (λ (z : ℕ × List Role). with_potential φ (Zone p z.0)) (take i (enumerate_from 0 (zones roles))) in
    c.in_ok-push-3.ensures.ok
    ∙ ap (λ z. c.loop-i.list ++ (Zone p i, z) ∷ []) (kept ∙ value)
    ∙ ap (λ (xs : List (Vertex × ℤ)). xs ++ with_potential φ (Zone p i) ∷ []) c.loop-i.invariant
    ∙ append_assoc c.args.list.now head (with_potential φ (Zone p i) ∷ [])
    ∙ ap (λ (xs : List (Vertex × ℤ)). c.args.list.now ++ (with_potential φ (Up p) ∷ with_potential φ (Down p) ∷ xs)) (sym (zone_entry φ roles p i inside))

pub returns-clause-ok : goal.returns-clause-ok
returns-clause-ok c =
    let roles = c.args.roles.now.list in
    let p = c.args.p in
    let φ : Potentials = potential roles c.args.each c.args.old.now c.args.sets.now c.args.prices.now c.args.top in
    let long = ap (λ (zs : List (List Role)). length zs) c.requires.grouped in
    c.loop-i.invariant ∙ ap (λ (xs : List (Vertex × ℤ)). c.args.list.now ++ (with_potential φ (Up p) ∷ with_potential φ (Down p) ∷ xs)) (all_entries φ roles p c.loop-i.i (omega arith))
