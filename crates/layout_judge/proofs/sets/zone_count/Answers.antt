use Rattle.std.proofs.Common.{◌≡◌, ◌<◌, Bool, true, false, not, ◌&&◌, length, take, sym, ◌∙◌, refl, arith}
use Rattle.std.specs.List.{list_any}
use Rattle.std.proofs.lemmas.Bool.{and_parts, not-true}
use Rattle.layout_roles.specs.Zones.{is_storage, name_of, is_in_zone}
use Rattle.layout_roles.specs.Fits.{has_node}
use Rattle.layout_judge.proofs.Counted.{opened, not_opened}
use Rattle.layout_judge.proofs.sets.zone_count.Goals as goal
use Rattle.layout_judge.proofs.sets.zone_count.Goals.{then-opens_zone, else-opens_zone}

old_zone : (a b c : Bool) → (a && (b && not c)) ≡ false → a ≡ true → b ≡ true → c ≡ true
old_zone true true true e f g = refl
old_zone true true false e f g = cc
old_zone true false c e f g = cc
old_zone false b c e f g = cc

pub loop-i-preserved : goal.loop-i-preserved
loop-i-preserved c =
    let roles = c.args.roles.now in
    let set = c.args.set.now in
    let role = c.index-roles-i.result in
    let i = c.loop-i.i in
    let inside : i < length roles = c.loop-i-test.true in
    let known = list_any (λ other. has_node other.node set && (is_storage other && is_in_zone (name_of role) other)) (take i roles) in
    let so_far = c.loop-i.invariant in
    elim c.if-opens_zone.branch [
      | then-opens_zone w ↦
          let parts = and_parts (has_node role.node set) (is_storage role && not known) (sym c.opens_zone.ensures ∙ w.if-opens_zone.true) in
          let more = and_parts (is_storage role) (not known) parts.1 in
          let one = opened roles set i role inside c.index-roles-i.is parts.0 more.0 (not-true known more.1) in
          let count = w.count-is in
          record { within = omega arith; count = omega arith }
      | else-opens_zone w ↦
          let one = not_opened roles set i role inside c.index-roles-i.is (old_zone (has_node role.node set) (is_storage role) known (sym c.opens_zone.ensures ∙ w.if-opens_zone.false)) in
          let count = w.count-is in
          record { within = omega arith; count = omega arith }
    ]
