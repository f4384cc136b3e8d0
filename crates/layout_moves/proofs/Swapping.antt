-- A set in which one node takes another's place.
use Rattle.std.proofs.Common.{◌≡◌, ℕ, ◌+◌, ◌<◌, Bool, true, false, cond, ◌||◌, nat_eq, nat_lt, IsTrue, List, [], ◌∷◌, length, get_or, refl, sym, ap, arith, eqb-true}
use Rattle.std.specs.List.{sum_by, IsDistinct, AllByRecursion}
use Rattle.std.proofs.lemmas.Bool.{eq-eqb, ne_eqb}
use Rattle.std.proofs.lemmas.List.Sums.{sum_by-cons, get_or-le-sum_by}
use Rattle.layout_roles.specs.Zones.{set_ascends}
use Rattle.layout_roles.specs.Fits.{NodeSet, has_node}
use Rattle.layout_roles.specs.Sets.{put_node, in_order}
use Rattle.layout_flow.proofs.Sums.{yes}
use Rattle.layout_flow.proofs.Zones.{count_none}
use Rattle.layout_flow.proofs.Spread.{distinct_once}
use Rattle.layout_flow.proofs.Wrapped.{put_ascends}
use Rattle.layout_moves.specs.Prices.{IsSwap}
use Rattle.layout_moves.proofs.Swaps.{two_below}

put_sum : (f : ℕ → ℕ) (node : ℕ) (rest : List ℕ) → sum_by f (put_node node rest) ≡ f node + sum_by f rest
put_sum f node [] = sum_by-cons f node []
put_sum f node (first ∷ rest) =
    let a = sum_by-cons f node (first ∷ rest) in
    let b = sum_by-cons f first (put_node node rest) in
    let c = sum_by-cons f first rest in
    let d = put_sum f node rest in
    elim (nat_lt node first) as (λ t. sum_by f (cond t (node ∷ first ∷ rest) (first ∷ put_node node rest)) ≡ f node + sum_by f (first ∷ rest)) [
      | true ↦ a
      | false ↦ omega arith
    ]

order_sum : (f : ℕ → ℕ) (a b c : ℕ) → sum_by f (in_order a b c) ≡ f a + (f b + f c)
order_sum f a b c = omega (arith, put_sum f c (put_node b (a ∷ [])), put_sum f b (a ∷ []), sum_by-cons f a [])

three_sum : (f : ℕ → ℕ) (set : List ℕ) → length set ≡ 3 → sum_by f set ≡ f (get_or set 0 0) + (f (get_or set 1 0) + f (get_or set 2 0))
three_sum f [] e = absurd (omega arith)
three_sum f (a ∷ []) e = absurd (omega arith)
three_sum f (a ∷ b ∷ []) e = absurd (omega arith)
three_sum f (a ∷ b ∷ c ∷ []) e = omega (arith, sum_by-cons f a (b ∷ c ∷ []), sum_by-cons f b (c ∷ []), sum_by-cons f c [])
three_sum f (a ∷ b ∷ c ∷ d ∷ rest) e = absurd (omega arith)

pub swap_third : (set : NodeSet) (out new : ℕ) → length set ≡ 3 → get_or set 2 0 ≡ out → IsSwap set out new (in_order (get_or set 0 0) (get_or set 1 0) new)
swap_third set out new three e = record { sums = λ f. omega (arith, order_sum f (get_or set 0 0) (get_or set 1 0) new, three_sum f set three, ap f e) }

-- where it isn't the first two, it is the third
pub third_out : (set : NodeSet) (out : ℕ) → length set ≡ 3 → has_node out set ≡ true → (get_or set 0 0 ≡ out → ⊥) → (get_or set 1 0 ≡ out → ⊥) → get_or set 2 0 ≡ out
third_out [] out e t a b = absurd (omega arith)
third_out (x ∷ []) out e t a b = absurd (omega arith)
third_out (x ∷ y ∷ []) out e t a b = absurd (omega arith)
third_out (x ∷ y ∷ z ∷ []) out e t a b = at (nat_eq out x) (nat_eq out y) (nat_eq out z) (λ h. a (sym (eqb-true out x h))) (λ h. b (sym (eqb-true out y h))) (λ h. sym (eqb-true out z h)) t
  where
    at : (p q r : Bool) → (p ≡ true → ⊥) → (q ≡ true → ⊥) → (r ≡ true → z ≡ out) → (p || (q || (r || false))) ≡ true → z ≡ out
    at true q r hp hq hr t = absurd (hp refl)
    at false true r hp hq hr t = absurd (hq refl)
    at false false true hp hq hr t = hr refl
    at false false false hp hq hr t = cc
third_out (x ∷ y ∷ z ∷ w ∷ rest) out e t a b = absurd (omega arith)

pub order_ascends : (a b c : ℕ) → (a ≡ b → ⊥) → (a ≡ c → ⊥) → (b ≡ c → ⊥) → IsTrue (set_ascends (in_order a b c))
order_ascends a b c ab ac bc =
    put_ascends c (put_node b (a ∷ [])) (differs (nat_lt b a) (ne_eqb c b (λ e. bc (sym e))) (ne_eqb c a (λ e. ac (sym e))))
    (put_ascends b (a ∷ []) (ne_eqb b a (λ e. ab (sym e)), tt) refl)
  where
    differs : (t : Bool) → nat_eq c b ≡ false → nat_eq c a ≡ false → AllByRecursion (λ y. nat_eq c y ≡ false) (cond t (b ∷ a ∷ []) (a ∷ b ∷ []))
    differs true cb ca = (cb, (ca, tt))
    differs false cb ca = (ca, (cb, tt))

pub differ : (set : NodeSet) (i j : ℕ) → IsDistinct nat_eq set → i < j → j < length set → get_or set i 0 ≡ get_or set j 0 → ⊥
differ set i j different less inside e =
    let x = get_or set i 0 in
    let two = two_below (λ m. cond (nat_eq x m) 1 0) set i j 0 less inside in
    let once = distinct_once x set different in
    let a = yes (nat_eq x x) 1 (eq-eqb x x refl) in
    let b = yes (nat_eq x (get_or set j 0)) 1 (eq-eqb x (get_or set j 0) e) in
    absurd (omega arith)

pub apart_at : (set : NodeSet) (new i : ℕ) → has_node new set ≡ false → i < length set → new ≡ get_or set i 0 → ⊥
apart_at set new i lacked inside e =
    let none = count_none (nat_eq new) set lacked in
    let some = get_or-le-sum_by (λ m. cond (nat_eq new m) 1 0) set i 0 inside in
    let a = yes (nat_eq new (get_or set i 0)) 1 (eq-eqb new (get_or set i 0) e) in
    absurd (omega arith)
