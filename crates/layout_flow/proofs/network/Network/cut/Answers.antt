use Rattle.std.proofs.Common.{◌≡◌, ℕ, ◌-◌, Bool, true, false, List, length, refl, sym, ap, ◌∙◌, arith}
use Rattle.layout_roles.specs.declared.role.Role.{Role}
use Rattle.layout_roles.specs.Zones.{zones}
use Rattle.layout_flow.specs.Closed.{to_zone, down_is_held, printed_side, held_list}
use Rattle.layout_flow.proofs.Whole.{Shown, shown, few_zones}
use Rattle.layout_flow.proofs.network.Network.cut.Goals as goal
use Rattle.layout_flow.proofs.network.Network.cut.Goals.{then-down, else-down}

pub side_of-requires-clause-numbered : goal.side_of-requires-clause-numbered
side_of-requires-clause-numbered c =
    let net = c.args.self.now in
    let same = ap (λ (zs : List (List Role)). length zs) (c.as_slice.ensures ∙ net.grouped) in
    let few = few_zones net.roles.list net.roles.ascending net.roles.numbered in
    omega arith

each_is : (r each : ℕ) (down : Bool) → down ≡ true → each ≡ 4 - r → each ≡ to_zone r down
each_is r each true e f = f
each_is r each false e f = cc

each_is_one : (r each : ℕ) (down : Bool) → down ≡ false → each ≡ 1 → each ≡ to_zone r down
each_is_one r each true e f = cc
each_is_one r each false e f = f

list_is : (size each : ℕ) (down : Bool) (groups : List (List Role)) (roles' roles : List Role) (each' : ℕ) (down' : Bool) → each ≡ each' → down ≡ down' → groups ≡ zones roles → roles' ≡ roles →
    held_list 256 size each down groups roles' ≡ held_list 256 size each' down' (zones roles) roles
list_is size each down groups roles' roles each' down' e f g h = λ i. held_list 256 size (e i) (f i) (g i) (h i)

pub returns-clause-printed : goal.returns-clause-printed
returns-clause-printed c =
    let net = c.args.self.now in
    let roles = net.roles.list in
    let down = c.holds_down-down.result in
    let all : Shown roles net.r net.size (printed_side 256 roles net.r net.size) = shown roles net.r net.size net.low net.high net.roles.ascending c.requires in
    let each : c.if-down.each ≡ to_zone net.r down = elim c.if-down.branch [
      | then-down w ↦ each_is net.r c.if-down.each down w.if-down.true w.each-is
      | else-down w ↦ each_is_one net.r c.if-down.each down w.if-down.false w.each-is
    ] in
    let held : down ≡ down_is_held 256 roles net.r net.size = c.holds_down-down.ensures in
    let list = list_is net.size c.if-down.each down c.as_slice.result.now c.as_slice-2.result.now roles (to_zone net.r (down_is_held 256 roles net.r net.size)) (down_is_held 256 roles net.r net.size)
    (each ∙ ap (to_zone net.r) held) held (c.as_slice.ensures ∙ net.grouped) c.as_slice-2.ensures in
    let little = c.requires in
    let copies = c.copies.ensures in
    let weighs = all.weighs in
    record {
      set = printed_side 256 roles net.r net.size;
      printed = all.printed;
      listed = c.in_ok-side.ensures.side ∙ list ∙ sym all.listed;
      weighs = omega arith;
      sized = refl;
    }
