use Rattle.std.proofs.Common.{◌≡◌, ◌<◌, Bool, true, false, not, ◌&&◌, length, take, sym, ◌∙◌, refl, arith}
use Rattle.std.specs.List.{list_any}
use Rattle.std.proofs.lemmas.Bool.{and_parts, not-true}
use Rattle.layout_roles.specs.Zones.{is_storage, name_of, is_in_zone}
use Rattle.layout_roles.proofs.ZoneNames.{count_new, count_same}
use Rattle.layout_roles.proofs.roles.Roles.zone_count.Goals as goal
use Rattle.layout_roles.proofs.roles.Roles.zone_count.Goals.{then-opens_zone, else-opens_zone}

old_zone : (a b : Bool) → (a && not b) ≡ false → a ≡ true → b ≡ true
old_zone true true e f = refl
old_zone true false e f = cc
old_zone false b e f = cc

pub loop-i-preserved : goal.loop-i-preserved
loop-i-preserved c =
    let roles = c.as_slice-roles.result.now in
    let role = c.index-roles-i.result in
    let i = c.loop-i.i in
    let inside : i < length roles = c.loop-i-test.true in
    let known = list_any (λ other. is_storage other && is_in_zone (name_of role) other) (take i roles) in
    let so_far = c.loop-i.invariant in
    elim c.if-opens_zone.branch [
      | then-opens_zone w ↦
          let parts = and_parts (is_storage role) (not known) (sym c.opens_zone.ensures ∙ w.if-opens_zone.true) in
          let more = count_new roles i role inside c.index-roles-i.is parts.0 (not-true known parts.1) in
          let count = w.count-is in
          record { within = omega arith; count = omega arith }
      | else-opens_zone w ↦
          let more = count_same roles i role inside c.index-roles-i.is (old_zone (is_storage role) known (sym c.opens_zone.ensures ∙ w.if-opens_zone.false)) in
          let count = w.count-is in
          record { within = omega arith; count = omega arith }
    ]
