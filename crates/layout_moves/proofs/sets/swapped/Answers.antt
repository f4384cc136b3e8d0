use Rattle.std.proofs.Common.{◌≡◌, ℕ, List, length, get_or, IsTrue, sym, subst, arith}
use Rattle.layout_roles.specs.Zones.{set_ascends}
use Rattle.layout_moves.specs.Prices.{IsSwap}
use Rattle.layout_moves.proofs.Swapping.{swap_third, third_out, order_ascends, differ, apart_at}
use Rattle.layout_moves.proofs.sets.swapped.Goals as goal

pub returns-then-set-out-clause-ascends : goal.returns-then-set-out-clause-ascends
returns-then-set-out-clause-ascends c = λ different lacked.
    let set = c.args.set in
    let three : length set ≡ 3 = omega arith in
    subst (λ (x : List ℕ). IsTrue (set_ascends x)) (sym c.in_order.ensures.nodes)
    (order_ascends c.args.new (get_or set 1 0) (get_or set 2 0) (apart_at set c.args.new 1 lacked (omega arith)) (apart_at set c.args.new 2 lacked (omega arith)) (differ set 1 2 different (omega arith) (omega arith)))

pub returns-then-set-out-2-clause-ascends : goal.returns-then-set-out-2-clause-ascends
returns-then-set-out-2-clause-ascends c = λ different lacked.
    let set = c.args.set in
    let three : length set ≡ 3 = omega arith in
    subst (λ (x : List ℕ). IsTrue (set_ascends x)) (sym c.in_order-then-set-out-2.ensures.nodes)
    (order_ascends (get_or set 0 0) c.args.new (get_or set 2 0) (λ e. apart_at set c.args.new 0 lacked (omega arith) (sym e)) (differ set 0 2 different (omega arith) (omega arith)) (apart_at set c.args.new 2 lacked (omega arith)))

pub returns-clause-swap : goal.returns-clause-swap
returns-clause-swap c =
    let set = c.args.set in
    let three : length set ≡ 3 = omega arith in
    let out = third_out set c.args.out three c.requires (λ e. absurd (c.if-set-out.false e)) (λ e. absurd (c.if-set-out-2.false e)) in
    subst (λ (x : List ℕ). IsSwap set c.args.out c.args.new x) (sym c.in_order-2.ensures.nodes) (swap_third set c.args.out c.args.new three out)

pub returns-clause-ascends : goal.returns-clause-ascends
returns-clause-ascends c = λ different lacked.
    let set = c.args.set in
    let three : length set ≡ 3 = omega arith in
    subst (λ (x : List ℕ). IsTrue (set_ascends x)) (sym c.in_order-2.ensures.nodes)
    (order_ascends (get_or set 0 0) (get_or set 1 0) c.args.new (differ set 0 1 different (omega arith) (omega arith)) (λ e. apart_at set c.args.new 0 lacked (omega arith) (sym e)) (λ e. apart_at set c.args.new 1 lacked (omega arith) (sym e)))
