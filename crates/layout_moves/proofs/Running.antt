-- One step of the auction, its beginning and its end.
use Rattle.std.proofs.Common.{◌≡◌, ℕ, ◌+◌, ◌-◌, ◌^◌, ◌<◌, ◌≤◌, Bool, true, false, cond, ◌==◌, IsTrue, List, [], length, get_or, sym, ap, ◌∙◌, subst, inl, inr, arith, eqb-true}
use Rattle.std.specs.Prelude.{Option, Some, None, IfSome}
use Rattle.std.specs.List.{count_by, list_any, list_all, All}
use Rattle.std.proofs.Math.ListN.{set}
use Rattle.std.proofs.lemmas.Bool.{cases_Bool}
use Rattle.std.proofs.lemmas.List.{get_or-map, length-map}
use Rattle.std.proofs.lemmas.List.Elements.{All-filter}
use Rattle.layout_roles.specs.declared.role.Role.{Role}
use Rattle.layout_roles.specs.Zones.{Name, name_of, nodes_ascend, is_numbered, is_storage, storage_nodes, zone_names, same_name, is_in_zone, nodes_in, zones, set_ascends}
use Rattle.layout_roles.specs.Fits.{NodeSet, has_node, load, room, partitions, is_storage_node, Fits, set_at}
use Rattle.layout_flow.proofs.Sums.{no, sum_by-filter, sum_by-agree, sum_by-none}
use Rattle.layout_flow.proofs.Zones.{count_none, zone_once}
use Rattle.layout_roles.proofs.ZoneNames.{same_true}
use Rattle.layout_flow.proofs.Spread.{in_set, spread_from_few}
use Rattle.layout_moves.specs.Prices.{kept, IsBase, IsCheap, IsSwap, asked}
use Rattle.layout_moves.specs.Auction.{highest, IsPriced, is_over, unrest}
use Rattle.layout_moves.specs.Offers.{Needs, RisesAtMost, IsLeastBid}
use Rattle.layout_moves.specs.declared.bids.Bid.{Bid}
use Rattle.layout_moves.proofs.Swaps.{lacks}
use Rattle.layout_flow.proofs.Few.{numbered_below}
use Rattle.layout_moves.proofs.Steps.{found, Over, over_at, Allowed, raised, risen, moved, taker_stored, price_same, price_other}

-- ---- one step

-- what a step owes
pub record Stepped (roles : List Role) (r size : ℕ) (old sets : List NodeSet) (prices : List ℕ) (sets' : List NodeSet) (prices' : List ℕ) : Type 0 where
  pub priced : IsPriced roles r size old sets' prices'
  pub nearer : unrest roles old sets' prices' < unrest roles old sets prices

pub over_small : (roles : List Role) (size : ℕ) (sets : List NodeSet) (node : ℕ) → IsTrue (list_all is_numbered roles) → Over roles size sets node → node ≤ 64
over_small roles size sets node numbered over =
    let all = All-filter is_storage (λ role. role.node ≤ 64) roles (numbered_below roles numbered) in
    let small = all over.at over.role over.inside in
    let named = ap (λ (r : Role). r.node) (over.is over.role) ∙ over.named in
    omega arith

price_low : (roles : List Role) (prices : List ℕ) (node : ℕ) → All (λ role. get_or prices role.node 0 ≤ highest) (storage_nodes roles) → IsTrue (is_storage_node roles node) → get_or prices node 0 ≤ highest
price_low roles prices node low t =
    let f = found (λ role. role.node == node) (storage_nodes roles) t in
    let l = low f.at f.item f.inside in
    let same = ap (λ (r : Role). r.node) (f.is f.item) ∙ eqb-true f.item.node node f.passes in
    let e = ap (λ n. get_or prices n 0) same in
    omega arith

pub over_low : (roles : List Role) (size : ℕ) (sets : List NodeSet) (prices : List ℕ) (node : ℕ) → All (λ role. get_or prices role.node 0 ≤ highest) (storage_nodes roles) → Over roles size sets node → get_or prices node 0 ≤ highest
over_low roles size sets prices node low over =
    let l = low over.at over.role over.inside in
    let named = ap (λ (r : Role). r.node) (over.is over.role) ∙ over.named in
    let e = ap (λ n. get_or prices n 0) named in
    omega arith

-- prices stay far below the greatest u32
pub one_fits : (roles : List Role) (size : ℕ) (sets : List NodeSet) (prices : List ℕ) (node : ℕ) → All (λ role. get_or prices role.node 0 ≤ highest) (storage_nodes roles) → Over roles size sets node → get_or prices node 0 + 1 < 2 ^ 32
unfolding highest
one_fits roles size sets prices node low over = let l = over_low roles size sets prices node low over in omega arith

fee_below : (b : Bool) → cond {A = ℕ} b 0 66 ≤ 66
fee_below true = omega arith
fee_below false = omega arith

pub rise_fits : (roles : List Role) (r : ℕ) (old sets : List NodeSet) (prices : List ℕ) (out p new rise : ℕ) → All (λ role. get_or prices role.node 0 ≤ highest) (storage_nodes roles) →
    Needs 66 (zones roles) (4 - r) old sets prices out p new rise → get_or prices out 0 + rise < 2 ^ 32
unfolding highest
rise_fits roles r old sets prices out p new rise low needs =
    let l = price_low roles prices new low (taker_stored roles (4 - r) (set_at sets p) out new needs.1) in
    let f = fee_below (has_node new (set_at old p)) in
    let e = needs.2 in
    omega arith

pub step_none : (roles : List Role) (r size : ℕ) (old sets other : List NodeSet) (prices : List ℕ) (out : ℕ) (best : Option Bid) → r ≤ 3 → IsTrue (nodes_ascend roles) → IsTrue (list_all is_numbered roles) → Fits roles r size other →
    IsPriced roles r size old sets prices → IsTrue (is_over roles size sets out) → IsLeastBid 66 (zones roles) (4 - r) old sets prices out 256 best → best ≡ None →
    Stepped roles r size old sets prices sets (raised prices out 1)
step_none roles r size old sets other prices out best great ascend numbered fits priced over is e =
    let o = over_at roles size sets out over in
    let allowed : Allowed roles r old sets prices out 1 = λ p less has node t.
    absurd (subst (λ b. RisesAtMost b (asked 66 (set_at old p) prices out) (asked 66 (set_at old p) prices node)) e (is.least p less has node t)) in
    let risen = risen roles r size old sets other prices out 1 great ascend numbered fits priced o allowed in
    record { priced = risen.priced; nearer = let n = risen.nearer in omega arith }

pub step_some : (roles : List Role) (r size : ℕ) (old sets other : List NodeSet) (prices : List ℕ) (out : ℕ) (best : Option Bid) (bid : Bid) (after : NodeSet) → r ≤ 3 → IsTrue (nodes_ascend roles) → IsTrue (list_all is_numbered roles) → Fits roles r size other →
    IsPriced roles r size old sets prices → IsTrue (is_over roles size sets out) → IsLeastBid 66 (zones roles) (4 - r) old sets prices out 256 best → best ≡ Some bid →
    IsSwap (set_at sets bid.partition) out bid.node after → IsTrue (set_ascends after) → Stepped roles r size old sets prices (set sets bid.partition after) (raised prices out bid.rise)
step_some roles r size old sets other prices out best bid after great ascend numbered fits priced over is e swap rising =
    let o = over_at roles size sets out over in
    let allowed : Allowed roles r old sets prices out bid.rise = λ p less has node t.
    subst (λ b. RisesAtMost b (asked 66 (set_at old p) prices out) (asked 66 (set_at old p) prices node)) e (is.least p less has node t) in
    let rise = risen roles r size old sets other prices out bid.rise great ascend numbered fits priced o allowed in
    let made = subst (λ b. IfSome b (λ bid. (bid.partition < 256) × Needs 66 (zones roles) (4 - r) old sets prices out bid.partition bid.node bid.rise)) e is.made in
    let needs = made.1 in
    let small = over_small roles size sets out numbered o in
    let inside : out < length prices = let w = priced.rows in omega arith in
    let lacked = lacks (4 - r) (set_at sets bid.partition) out (zones roles) bid.node needs.1 in
    let apart : bid.node ≡ out → ⊥ = λ same. let x = ap (λ n. has_node n (set_at sets bid.partition)) same in let y = needs.0 in cc in
    let s = price_same prices out (get_or prices out 0 + bid.rise) inside in
    let t = price_other prices out (get_or prices out 0 + bid.rise) bid.node apart in
    let gap : asked 66 (set_at old bid.partition) (raised prices out bid.rise) out ≡ asked 66 (set_at old bid.partition) (raised prices out bid.rise) bid.node + 1 =
    gap_at (get_or prices out 0) bid.rise (get_or prices bid.node 0) (get_or (raised prices out bid.rise) out 0) (get_or (raised prices out bid.rise) bid.node 0) (cond (has_node out (set_at old bid.partition)) 0 66) (cond (has_node bid.node (set_at old bid.partition)) 0 66) s t needs.2 in
    let move = moved roles r size old sets (raised prices out bid.rise) bid.partition out bid.node after ascend rise.priced o made.0 needs.0 needs.1 gap swap rising in
    record { priced = move.priced; nearer = finish (unrest roles old (set sets bid.partition after) (raised prices out bid.rise)) (unrest roles old sets (raised prices out bid.rise)) (unrest roles old sets prices) bid.rise move.nearer rise.nearer }
  where
    gap_at : (p rise q p' q' a b : ℕ) → p' ≡ p + rise → q' ≡ q → p + a + rise ≡ q + b + 1 → p' + a ≡ q' + b + 1
    gap_at p rise q p' q' a b e f g = omega arith

    finish : (x y z rise : ℕ) → x + 1 ≤ y → y + rise ≤ z → x < z
    finish x y z rise e f = omega arith

-- what the swap of the bid needs
pub bid_at : (fee : ℕ) (zs : List (List Role)) (each : ℕ) (old sets : List NodeSet) (prices : List ℕ) (out n : ℕ) (best : Option Bid) (bid : Bid) → IsLeastBid fee zs each old sets prices out n best → best ≡ Some bid →
    (bid.partition < n) × Needs fee zs each old sets prices out bid.partition bid.node bid.rise
bid_at fee zs each old sets prices out n best bid is e = subst (λ b. IfSome b (λ bid. (bid.partition < n) × Needs fee zs each old sets prices out bid.partition bid.node bid.rise)) e is.made

-- ---- the beginning

pub begun : (roles : List Role) (r size : ℕ) (old sets : List NodeSet) (prices : List ℕ) → length sets ≡ 256 → length prices ≡ 65 → ((node : ℕ) → get_or prices node 0 ≡ 0) → All (IsBase roles (4 - r)) sets → IsTrue (list_all set_ascends sets) →
    ((p : ℕ) → p < 256 → IsCheap 1 (4 - r) (zones roles) (asked 66 (set_at old p) prices) (set_at sets p)) → IsPriced roles r size old sets prices
begun roles r size old sets prices whole rows zero bases ascending cheap = record {
  whole = whole;
  rows = rows;
  bases = bases;
  ascending = ascending;
  cheap = cheap;
  covered = λ k d h some. let z = zero (get_or (storage_nodes roles) k d).node in absurd (omega arith);
  low = λ k d h. let z = zero (get_or (storage_nodes roles) k d).node in omega arith;
}

-- ---- the end

-- a name that is no zone's has no nodes
few_anywhere : (roles : List Role) (set : NodeSet) (each : ℕ) → All (λ zone. kept set zone ≤ each) (zones roles) → (name : Name) → count_by (in_set set) (nodes_in roles name) ≤ each
few_anywhere roles set each few name =
    elim (cases_Bool (list_any (same_name name) (zone_names roles))) [
      | inl there ↦
          let f = found (same_name name) (zone_names roles) there in
          let same = same_true name f.item f.passes in
          let at : get_or (zones roles) f.at [] ≡ nodes_in roles name =
          get_or-map (nodes_in roles) (zone_names roles) f.at [] [] f.inside ∙ ap (nodes_in roles) (f.is [] ∙ sym same) in
          subst (λ (z : List Role). kept set z ≤ each) at (few f.at [] (omega (arith, length-map (zone_names roles) (nodes_in roles))))
      | inr absent ↦
          let nodes = storage_nodes roles in
          let a = sum_by-filter (is_in_zone name) (λ role. cond (in_set set role) 1 0) nodes in
          let b = sum_by-agree (λ role. cond (is_in_zone name role) (cond (in_set set role) 1 0) 0) (λ role. 0) nodes
          (λ k d h. no (is_in_zone name (get_or nodes k d)) (cond (in_set set (get_or nodes k d)) 1 0) (elsewhere (get_or nodes k d) (zone_once roles k d h) absent)) in
          let c = sum_by-none nodes in
          omega arith
    ]
  where
    elsewhere : (role : Role) → count_by (same_name (name_of role)) (zone_names roles) ≡ 1 → list_any (same_name name) (zone_names roles) ≡ false → is_in_zone name role ≡ false
    elsewhere role once absent = elim (cases_Bool (is_in_zone name role)) [
      | inl same ↦
          let e = same_true (name_of role) name same in
          let one : count_by (same_name name) (zone_names roles) ≡ 1 = subst (λ n. count_by (same_name n) (zone_names roles) ≡ 1) e once in
          let none = count_none (same_name name) (zone_names roles) absent in
          absurd (omega arith)
      | inr apart ↦ apart
    ]

pub fits_from : (roles : List Role) (r size : ℕ) (sets : List NodeSet) → 1 ≤ r → r ≤ 3 → IsTrue (nodes_ascend roles) → length sets ≡ 256 → All (IsBase roles (4 - r)) sets → All (λ role. load sets role.node ≤ room size role) (storage_nodes roles) → Fits roles r size sets
unfolding partitions
fits_from roles r size sets low great ascend whole bases within = record {
  whole = whole;
  threes = λ k d h. (bases k d h).three;
  spread = λ k d h. spread_from_few roles (get_or sets k d) r low great ascend (bases k d h).three (few_anywhere roles (get_or sets k d) (4 - r) (bases k d h).few);
  within = within;
}

-- ---- between slices and lists

pub bid_moved : (roles : List Role) (r : ℕ) (old sets sets' : List NodeSet) (prices prices' : List ℕ) (groups : List (List Role)) (out : ℕ) (best : Option Bid) → sets' ≡ sets → prices' ≡ prices → groups ≡ zones roles → length sets ≡ 256 →
    IsLeastBid 66 groups (4 - r) old sets' prices' out (length sets') best → IsLeastBid 66 (zones roles) (4 - r) old sets prices out 256 best
bid_moved roles r old sets sets' prices prices' groups out best e f g whole is =
    let len : length sets' ≡ 256 = ap (λ (xs : List NodeSet). length xs) e ∙ whole in
    subst (λ n. IsLeastBid 66 (zones roles) (4 - r) old sets prices out n best) len
    (subst (λ (xs : List NodeSet). IsLeastBid 66 (zones roles) (4 - r) old xs prices out (length sets') best) e
    (subst (λ (xs : List ℕ). IsLeastBid 66 (zones roles) (4 - r) old sets' xs out (length sets') best) f
    (subst (λ (zs : List (List Role)). IsLeastBid 66 zs (4 - r) old sets' prices' out (length sets') best) g is)))

pub stepped_to : (roles : List Role) (r size : ℕ) (old sets : List NodeSet) (prices : List ℕ) (sets' sets'' : List NodeSet) (prices' prices'' : List ℕ) → sets'' ≡ sets' → prices'' ≡ prices' →
    Stepped roles r size old sets prices sets' prices' → Stepped roles r size old sets prices sets'' prices''
stepped_to roles r size old sets prices sets' sets'' prices' prices'' e f step =
    subst (λ (xs : List NodeSet). Stepped roles r size old sets prices xs prices'') (sym e) (subst (λ (xs : List ℕ). Stepped roles r size old sets prices sets' xs) (sym f) step)
