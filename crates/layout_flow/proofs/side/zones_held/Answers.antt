use Rattle.std.proofs.Common.{ℕ, ◌<◌, ◌≤◌, ◌++◌, [], ◌∷◌, List, length, map, sym, ap, ◌∙◌, arith}
use Rattle.std.specs.List.{filter, enumerate_from}
use Rattle.std.proofs.lemmas.List.{take_all}
use Rattle.std.proofs.lemmas.List.FromFn.{length-enumerate_from}
use Rattle.layout_roles.specs.declared.role.Role.{Role}
use Rattle.layout_flow.specs.Closed.{zone_is_held}
use Rattle.layout_flow.proofs.Listed.{zone_more_yes, zone_more_no}
use Rattle.layout_flow.proofs.side.zones_held.Goals as goal
use Rattle.layout_flow.proofs.side.zones_held.Goals.{then-holds_zone+in_ok-push, else-holds_zone}

pub loop-i-preserved : goal.loop-i-preserved
loop-i-preserved c =
    let zones = c.args.zones.now in
    let zone = c.index-zones-i.result in
    let same = ap (zone_is_held 256 c.args.size c.args.each) (sym c.as_slice.ensures) ∙ sym c.holds_zone.ensures in
    let inside : c.loop-i.i < length zones = c.loop-i-test.true in
    elim c.if-holds_zone.branch [
      | then-holds_zone+in_ok-push w ↦
          w.numbers-is ∙ w.in_ok-push.ensures.ok ∙ ap (λ (s : List ℕ). s ++ c.loop-i.i ∷ []) c.loop-i.invariant
          ∙ sym (zone_more_yes 256 c.args.size c.args.each zones c.loop-i.i zone inside c.index-zones-i.is (same ∙ w.if-holds_zone.true))
      | else-holds_zone w ↦
          w.numbers-is ∙ c.loop-i.invariant
          ∙ sym (zone_more_no 256 c.args.size c.args.each zones c.loop-i.i zone inside c.index-zones-i.is (same ∙ w.if-holds_zone.false))
    ]

pub returns-clause-numbers : goal.returns-clause-numbers
returns-clause-numbers c =
    let xs = enumerate_from 0 c.args.zones.now in
    let end : length xs ≤ c.loop-i.i = omega (arith, length-enumerate_from 0 c.args.zones.now) in
    c.loop-i.invariant ∙ ap (λ (ys : List (ℕ × List Role)). map (λ z. z.0) (filter (λ z. zone_is_held 256 c.args.size c.args.each z.1) ys)) (take_all c.loop-i.i xs end)
