-- From any roles something is computed: a layout of the greatest partition size with its cut, or the cause for which there is none.
use Rattle.std.proofs.Common.{◌≡◌, ℕ, zero, suc, ◌+◌, ◌-◌, ◌/◌, ◌<◌, ◌≤◌, ◌⊎◌, inl, inr, ◌*◌, min, max, IsTrue, List, [], ◌∷◌, length, get_or, refl, sym, ap, subst, arith}
use Rattle.std.specs.List.{All, filter, list_all, sum_by, count_by}
use Rattle.std.proofs.Math.Nat.{mul-le-mul_right, div-mul-le_self}
use Rattle.std.proofs.lemmas.List.Sums.{sum_by-le, count_by-le-length}
use Rattle.std.proofs.lemmas.Bool.{cases_lt}
use Rattle.std.proofs.lemmas.List.Elements.{All-nil, All-cons, All-filter}
use Rattle.layout_roles.specs.declared.role.Role.{Role}
use Rattle.layout_roles.specs.declared.redundancy.Redundancy.{Redundancy}
use Rattle.layout_roles.specs.declared.cut.Cut.{Cut}
use Rattle.layout_roles.specs.declared.certified.Certified.{Certified}
use Rattle.layout_roles.specs.Zones.{nodes_ascend, is_numbered, capacity_of, is_storage, name_of, same_name, storage_nodes, zone_names, zones}
use Rattle.layout_roles.specs.Fits.{room, NoneFits}
use Rattle.layout_roles.specs.Network.{vertices}
use Rattle.layout_roles.specs.Certificates.{IsPrintedCut, IsRedundancy, zones_wanted, AreEnough, IsCertified, ShowsNone}
use Rattle.layout_flow.specs.Closed.{copies_for, columns, printed_side}
use Rattle.layout_flow.specs.Totals.{copies_in}
use Rattle.layout_flow.proofs.Sums.{sum_by-below}
use Rattle.layout_flow.proofs.Zones.{sum_by_zones, zone_once}
use Rattle.layout_flow.proofs.Whole.{Laid, laid, copies_row, none_fits, Shown, shown}

-- what is computed from roles
pub data Computed (roles : List Role) (wanted : Redundancy) : Type 0 where
  few_nodes : length (storage_nodes roles) < 3 → Computed roles wanted
  few_zones : 3 ≤ length (storage_nodes roles) → length (zone_names roles) < zones_wanted wanted roles → Computed roles wanted
  none : (cut : Cut) → AreEnough roles wanted → ShowsNone roles (zones_wanted wanted roles) cut → Computed roles wanted
  layout : (certified : Certified) → AreEnough roles wanted → IsCertified roles wanted certified → Computed roles wanted

abbrev most : List Role → ℕ
most [] = 0
most (role ∷ roles) = max (capacity_of role) (most roles)

up_to : (m n : ℕ) → m ≤ n → (roles : List Role) → All (λ role. capacity_of role ≤ m) roles → All (λ role. capacity_of role ≤ n) roles
up_to m n low roles h = λ k d lt. let here = h k d lt in omega arith

below_most : (roles : List Role) → All (λ role. capacity_of role ≤ most roles) roles
below_most [] = All-nil (λ role. capacity_of role ≤ 0)
below_most (role ∷ roles) =
    let all = most (role ∷ roles) in
    All-cons (λ role. capacity_of role ≤ all) role roles (omega arith) (up_to (most roles) all (omega arith) roles (below_most roles))

-- a node has no room for a partition that is greater than its capacity
no_room : (capacity size : ℕ) → capacity < size → capacity / size ≤ 0
no_room capacity size lt =
    elim (cases_lt (capacity / size) 1) [
      | inl few ↦ omega arith
      | inr many ↦ let a = div-mul-le_self capacity size in let b = mul-le-mul_right size many in omega arith
    ]

-- no copies of partitions that are greater than every capacity
none_past : (roles : List Role) (size each : ℕ) → most roles < size → copies_for 256 roles size each ≤ 0
none_past roles size each past =
    let here : Role → ℕ = λ role. min 256 (room size role) in
    let less = sum_by-below (λ (zone : List Role). min (each * 256) (copies_in 256 size zone)) (λ zone. sum_by here zone) (zones roles) (λ k d lt. omega arith) in
    let all = sum_by_zones here roles in
    let capacities : All (λ role. capacity_of role ≤ most roles) (storage_nodes roles) = All-filter is_storage (λ role. capacity_of role ≤ most roles) roles (below_most roles) in
    let none_here : All (λ role. here role ≤ 0) (storage_nodes roles) =
    λ k d lt. (let low = no_room (capacity_of (get_or (storage_nodes roles) k d)) size (let c = capacities k d lt in omega arith) in omega arith) in
    let zero = sum_by-le here 0 (storage_nodes roles) none_here in
    omega arith

-- with three storage nodes at least one zone is wanted
zone_there : (roles : List Role) → 3 ≤ length (storage_nodes roles) → 1 ≤ length (zone_names roles)
zone_there roles enough =
    by (storage_nodes roles) refl
  where
    by : (nodes : List Role) → nodes ≡ storage_nodes roles → 1 ≤ length (zone_names roles)
    by [] is = absurd (let n : length (storage_nodes roles) ≡ 0 = sym (ap length is) in omega arith)
    by (node ∷ nodes) is =
        let once : count_by (same_name (name_of (get_or (storage_nodes roles) 0 node))) (zone_names roles) ≡ 1 = zone_once roles 0 node (omega arith) in
        let fewer = count_by-le-length (same_name (name_of (get_or (storage_nodes roles) 0 node))) (zone_names roles) in
        omega arith

wanted_some : (wanted : Redundancy) (roles : List Role) → IsRedundancy wanted → 3 ≤ length (storage_nodes roles) → 1 ≤ zones_wanted wanted roles
wanted_some (Redundancy.AtLeast r) roles lawful enough = lawful.0
wanted_some Redundancy.Maximum roles lawful enough = let some = zone_there roles enough in omega arith

module _ (roles : List Role) (ascend : IsTrue (nodes_ascend roles)) (numbered : IsTrue (list_all is_numbered roles)) (r : ℕ) (low : 1 ≤ r) (high : r ≤ 3) where
  abbrev copies : ℕ → ℕ
  copies size = copies_for 256 roles size (4 - r)

  -- the greatest size for which the nodes have room
  abbrev Found : Type 0
  Found = (size : ℕ) × ((0 < size) × (768 ≤ copies size) × ((more : ℕ) → size < more → NoneFits roles r more))

  less : (k : ℕ) → ((more : ℕ) → suc k < more → NoneFits roles r more) → copies (suc k) < 768 → (more : ℕ) → k < more → NoneFits roles r more
  less k above little more h =
      elim (cases_lt (suc k) more) [
        | inl beyond ↦ above more beyond
        | inr here ↦ let same : suc k ≡ more = omega arith in subst (NoneFits roles r) same (none_fits roles r (suc k) high ascend little)
      ]

  search_down : (k : ℕ) → 768 ≤ copies 1 → ((more : ℕ) → suc k < more → NoneFits roles r more) → Found
  search_down zero enough above = (1, (omega arith, enough, above))
  search_down (suc k) enough above =
      elim (cases_lt (copies (suc (suc k))) 768) [
        | inl little ↦ search_down k enough (less (suc k) above little)
        | inr much ↦ (suc (suc k), (omega arith, much, above))
      ]

  found : 768 ≤ copies 1 → Found
  found enough = search_down (most roles) enough (λ more h. none_fits roles r more high ascend (let few = none_past roles more (4 - r) (omega arith) in omega arith))

  abbrev cut_for : ℕ → Cut
  cut_for size = record { size = size; weight = copies size; side = filter (printed_side 256 roles r size) (vertices roles) }

  cut_shown : (size : ℕ) → copies size < 768 → IsPrintedCut roles r size (cut_for size)
  cut_shown size little =
      let s : Shown roles r size (printed_side 256 roles r size) = shown roles r size low high ascend little in
      record { set = printed_side 256 roles r size; printed = s.printed; listed = refl; weighs = sym s.weighs; sized = refl }

  -- what none fits has little room
  has_little : (size : ℕ) → NoneFits roles r size → copies size < 768
  has_little size none_at =
      elim (cases_lt (copies size) 768) [
        | inl little ↦ little
        | inr much ↦ absurd (none_at (columns 256 (copies_row roles r size)) (laid roles r size low high ascend much).fits)
      ]

  shows_none : copies 1 < 768 → ShowsNone roles r (cut_for 1)
  shows_none little = record { none = none_fits roles r 1 high ascend little; printed = cut_shown 1 little; light = little }

  module _ (f : Found) where
    sets_for : Laid roles r f.0 (columns 256 (copies_row roles r f.0))
    sets_for = laid roles r f.0 low high ascend f.1.1

    abbrev certified_for : Certified
    certified_for = record {
      r = r;
      size = f.0;
      sets = record { sets = columns 256 (copies_row roles r f.0); whole = sets_for.whole; ascending = sets_for.rises };
      cut = cut_for (f.0 + 1);
    }

    certifies : (wanted : Redundancy) → r ≡ zones_wanted wanted roles → IsCertified roles wanted certified_for
    certifies wanted is =
        let over : NoneFits roles r (f.0 + 1) = f.1.2 (f.0 + 1) (omega arith) in
        let little : copies (f.0 + 1) < 768 = has_little (f.0 + 1) over in
        record {
          redundancy = is;
          greatest = record { fits = sets_for.fits; greatest = over };
          above = f.1.2;
          some = f.1.0;
          cut = cut_shown (f.0 + 1) little;
          light = little;
        }

  computes : (wanted : Redundancy) → r ≡ zones_wanted wanted roles → AreEnough roles wanted → Computed roles wanted
  computes wanted is enough =
      elim (cases_lt (copies 1) 768) [
        | inl little ↦ none (cut_for 1) enough (subst (λ n. ShowsNone roles n (cut_for 1)) is (shows_none little))
        | inr much ↦ let f = found much in layout (certified_for f) enough (certifies f wanted is)
      ]

at_most_three : (wanted : Redundancy) (roles : List Role) → IsRedundancy wanted → zones_wanted wanted roles ≤ 3
at_most_three (Redundancy.AtLeast r) roles lawful = lawful.1
at_most_three Redundancy.Maximum roles lawful = omega arith

pub something_computed : (roles : List Role) (wanted : Redundancy) → IsTrue (nodes_ascend roles) → IsTrue (list_all is_numbered roles) → IsRedundancy wanted → Computed roles wanted
something_computed roles wanted ascend numbered lawful =
    elim (cases_lt (length (storage_nodes roles)) 3) [
      | inl few ↦ few_nodes few
      | inr enough ↦ elim (cases_lt (length (zone_names roles)) (zones_wanted wanted roles)) [
        | inl few ↦ few_zones enough few
        | inr zones ↦
            computes roles ascend numbered (zones_wanted wanted roles) (wanted_some wanted roles lawful enough) (at_most_three wanted roles lawful) wanted refl
            (record { nodes = enough; zones = zones })
      ]
    ]
