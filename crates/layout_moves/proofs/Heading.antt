-- What a head start keeps, and when the auction can go on from it.
use Rattle.std.proofs.Common.{◌≡◌, ℕ, ◌-◌, ◌<◌, ◌≤◌, true, false, ◌&&◌, ◌||◌, ◌==◌, nat_eq, nat_le, IsTrue, List, [], length, get_or, slice_set, subst, ◌∙◌, inl, inr, arith, eqb-true, leb-true}
use Rattle.std.specs.List.{list_all, IsDistinct}
use Rattle.std.proofs.lemmas.Bool.{and_parts, or_cases}
use Rattle.std.proofs.lemmas.List.{length-set}
use Rattle.std.proofs.lemmas.List.Sums.{AllPass-from_list_all, list_all-from_AllPass}
use Rattle.layout_roles.specs.declared.role.Role.{Role}
use Rattle.layout_roles.specs.Zones.{zones, nodes_ascend, set_ascends}
use Rattle.layout_roles.specs.Fits.{NodeSet, has_node, load, room, set_at}
use Rattle.layout_moves.specs.Prices.{IsBase, IsCheap, IsSwap, may_take, asked}
use Rattle.layout_moves.specs.Auction.{IsPriced, AreBases, is_fair, highest}
use Rattle.layout_moves.proofs.Adding.{all_storage}
use Rattle.layout_moves.proofs.Steps.{taker_stored, all_set}
use Rattle.layout_moves.proofs.Swaps.{lacks, Swapped, swap_base}

-- sets after one copy went where it may go
pub exchanged : (roles : List Role) (each : ℕ) (sets : List NodeSet) (p out new : ℕ) (set after : NodeSet) → IsTrue (nodes_ascend roles) → AreBases roles each sets → p < length sets → set_at sets p ≡ set →
    IsTrue (has_node out set) → IsTrue (may_take each set out (zones roles) new) → IsSwap set out new after →
    (IsDistinct nat_eq set → has_node new set ≡ false → IsTrue (set_ascends after)) → AreBases roles each (slice_set sets p after)
exchanged roles each sets p out new set after ascend before inside is had take swap ascends =
    let base : IsBase roles each set = subst (IsBase roles each) is (before.bases p [] inside) in
    let lacked = lacks each set out (zones roles) new take in
    let s : Swapped roles each set out new after = record {
      base = base;
      had = had;
      lacked = lacked;
      stored = taker_stored roles each set out new take;
      taken = take;
      swap = swap;
    } in
    record {
      whole = length-set sets p after ∙ before.whole;
      bases = all_set (IsBase roles each) sets p after inside before.bases (swap_base roles each set out new after ascend s);
      ascending = list_all-from_AllPass set_ascends (slice_set sets p after)
          (all_set (λ x. IsTrue (set_ascends x)) sets p after inside (AllPass-from_list_all set_ascends sets before.ascending) (ascends base.three.different lacked));
    }

fair_room : (price limit room load : ℕ) → ((price == 0) || (nat_le price limit && nat_le room load)) ≡ true → 0 < price → room ≤ load
fair_room price limit room load h some = elim (or_cases (price == 0) (nat_le price limit && nat_le room load) h) [
  | inl none ↦ let e = eqb-true price 0 none in absurd (omega arith)
  | inr both ↦ leb-true room load (and_parts (nat_le price limit) (nat_le room load) both).1
]

fair_low : (price limit room load : ℕ) → ((price == 0) || (nat_le price limit && nat_le room load)) ≡ true → price ≤ limit
fair_low price limit room load h = elim (or_cases (price == 0) (nat_le price limit && nat_le room load) h) [
  | inl none ↦ let e = eqb-true price 0 none in omega arith
  | inr both ↦ leb-true price limit (and_parts (nat_le price limit) (nat_le room load) both).0
]

-- where the sets are cheap and the prices fair, the auction can go on
pub priced_from : (roles : List Role) (r size : ℕ) (old sets : List NodeSet) (prices : List ℕ) → AreBases roles (4 - r) sets → length prices ≡ 65 →
    ((p : ℕ) → p < length sets → IsCheap 1 (4 - r) (zones roles) (asked 66 (set_at old p) prices) (set_at sets p)) → list_all (is_fair size sets prices) roles ≡ true → IsPriced roles r size old sets prices
priced_from roles r size old sets prices before rows cheap fair =
    let all = AllPass-from_list_all (is_fair size sets prices) roles fair in
    record {
      whole = before.whole;
      rows = rows;
      bases = before.bases;
      ascending = before.ascending;
      cheap = λ p less. cheap p (let w = before.whole in omega arith);
      covered = all_storage (λ role. 0 < get_or prices role.node 0 → room size role ≤ load sets role.node) roles
          (λ k d h is some. fair_room (get_or prices (get_or roles k d).node 0) highest (room size (get_or roles k d)) (load sets (get_or roles k d).node) (all k d h) some);
      low = all_storage (λ role. get_or prices role.node 0 ≤ highest) roles
          (λ k d h is. fair_low (get_or prices (get_or roles k d).node 0) highest (room size (get_or roles k d)) (load sets (get_or roles k d).node) (all k d h));
    }
