-- The laws of the network at 256 partitions.
use Rattle.std.proofs.Common.{◌≡◌, ℕ, ◌-◌, ◌<◌, ◌≤◌, IsTrue, List, length, get_or, take, refl, sym, ap, ◌∙◌, subst, arith, leb-true, min, inl, inr}
use Rattle.std.specs.List.{filter, flat_map, list_all}
use Rattle.std.proofs.lemmas.List.Sums.{list_all-from_AllPass, AllPass-from_list_all}
use Rattle.layout_roles.specs.declared.role.Role.{Role}
use Rattle.layout_roles.specs.Zones.{nodes_ascend, is_numbered, set_ascends, zones}
use Rattle.layout_roles.specs.Fits.{NodeSet, partitions, FitsAll, Fits, SomeFits, NoneFits}
use Rattle.layout_roles.specs.Network.{network_of, network, vertices_of, vertices}
use Rattle.layout_roles.specs.Cuts.{Side, IsCut, weight, IsPrinted}
use Rattle.layout_flow.specs.Closed.{copies_for, down_is_held, to_zone, zone_copies, columns, printed_side, held_list}
use Rattle.layout_flow.proofs.Printed.{Exact, every_weight, printed_exact}
use Rattle.layout_flow.specs.Flows.{Flow, IsFlow, IsGreatestFlow, value}
use Rattle.layout_flow.proofs.Bounds.{flow_below_cut}
use Rattle.layout_flow.proofs.Greatest.{GreatFlow, great, source_alone, source_weight}
use Rattle.std.proofs.lemmas.Bool.{cases_lt}
use Rattle.layout_flow.proofs.Duality.{fits_needs}
use Rattle.layout_flow.proofs.Fitted.{Fitted, fitted}
use Rattle.layout_flow.proofs.Wrapped.{node_of, all_roles, numbers_are, all_length}
use Rattle.std.proofs.lemmas.List.{length-map}
use Rattle.layout_flow.proofs.Listed.{listed, zones_length, nodes_below}

all_are : 256 ≡ partitions
unfolding partitions
all_are = refl

-- what the columns are
pub record Laid (roles : List Role) (r size : ℕ) (sets : List NodeSet) : Type 0 where
  pub fits : Fits roles r size sets
  pub whole : length sets ≡ 256
  pub rises : IsTrue (list_all set_ascends sets)

abbrev pub copies_row : List Role → ℕ → ℕ → List ℕ
copies_row roles r size = take 768 (flat_map (zone_copies 256 size (4 - r)) (zones roles))

pub laid : (roles : List Role) (r size : ℕ) → 1 ≤ r → r ≤ 3 → IsTrue (nodes_ascend roles) → 768 ≤ copies_for 256 roles size (4 - r) → Laid roles r size (columns 256 (copies_row roles r size))
laid roles r size low high ascend enough =
    let sets = columns 256 (copies_row roles r size) in
    let done : Fitted 256 roles r size sets = fitted 256 roles r size (omega arith) low high ascend enough in
    record {
      fits = subst (λ n. FitsAll n roles r size sets) all_are done.fits;
      whole = done.fits.whole;
      rises = list_all-from_AllPass set_ascends sets done.rises;
    }

pub none_fits : (roles : List Role) (r size : ℕ) → r ≤ 3 → IsTrue (nodes_ascend roles) → copies_for 256 roles size (4 - r) < 768 → NoneFits roles r size
none_fits roles r size high ascend little sets fits =
    let needs = fits_needs 256 roles r size sets high ascend (subst (λ n. FitsAll n roles r size sets) (sym all_are) fits) in
    omega arith

pub some_fits : (roles : List Role) (r size : ℕ) → r ≤ 3 → IsTrue (nodes_ascend roles) → SomeFits roles r size → 768 ≤ copies_for 256 roles size (4 - r)
some_fits roles r size high ascend some =
    let needs = fits_needs 256 roles r size some.0 high ascend (subst (λ n. FitsAll n roles r size some.0) (sym all_are) some.1) in
    omega arith

-- a cut that weighs less than three copies of each partition shows that no assignment fits
pub duality : (roles : List Role) (r size : ℕ) → 1 ≤ r → r ≤ 3 → IsTrue (nodes_ascend roles) → (side : Side) → IsCut side → weight (network roles r size) side < 768 → NoneFits roles r size
duality roles r size low high ascend side cut light sets fits =
    let at : weight (network_of 256 roles r size) side < 768 = subst (λ n. weight (network_of n roles r size) side < 768) (sym all_are) light in
    let needs = fits_needs 256 roles r size sets high ascend (subst (λ n. FitsAll n roles r size sets) (sym all_are) fits) in
    let every = every_weight 256 roles r size (omega arith) low high side cut 768 (omega arith) needs in
    omega arith

-- what is known of the printed cut's set
pub record Shown (roles : List Role) (r size : ℕ) (set : Side) : Type 0 where
  pub printed : IsPrinted (network roles r size) set
  pub weighs : weight (network roles r size) set ≡ copies_for 256 roles size (4 - r)
  pub listed : filter set (vertices roles) ≡ held_list 256 size (to_zone r (down_is_held 256 roles r size)) (down_is_held 256 roles r size) (zones roles) roles

pub shown : (roles : List Role) (r size : ℕ) → 1 ≤ r → r ≤ 3 → IsTrue (nodes_ascend roles) → copies_for 256 roles size (4 - r) < 768 → Shown roles r size (printed_side 256 roles r size)
shown roles r size low high ascend little =
    let set = printed_side 256 roles r size in
    let exact : Exact 256 roles r size = printed_exact 256 roles r size (omega arith) low high ascend little in
    let down = down_is_held 256 roles r size in
    record {
      printed = subst (λ n. IsPrinted (network_of n roles r size) set) all_are exact.printed;
      weighs = subst (λ n. weight (network_of n roles r size) set ≡ copies_for 256 roles size (4 - r)) all_are exact.weighs;
      listed = subst (λ n. filter set (vertices_of n roles) ≡ held_list 256 size (to_zone r down) down (zones roles) roles) all_are (listed 256 roles r size (to_zone r down) down);
    }

-- there are few enough zones to be numbered by a byte
pub few_zones : (roles : List Role) → IsTrue (nodes_ascend roles) → IsTrue (list_all is_numbered roles) → length (zones roles) ≤ 256
few_zones roles ascend numbered =
    let each = AllPass-from_list_all is_numbered roles numbered in
    let a = zones_length roles in
    let b = nodes_below 64 roles ascend (λ k d h. leb-true (get_or roles k d).node 64 (each k d h)) in
    omega arith

-- the copies fill three rows
pub row_length : (roles : List Role) (r size : ℕ) → 768 ≤ copies_for 256 roles size (4 - r) → length (copies_row roles r size) ≡ 768
row_length roles r size enough =
    ap (λ (xs : List ℕ). length xs) (sym (numbers_are 256 roles size (4 - r)))
    ∙ length-map (all_roles 256 roles size (4 - r)) node_of ∙ all_length 256 roles size (4 - r) enough

-- no flow is greater than a cut
pub flow_below : (roles : List Role) (r size : ℕ) → IsTrue (nodes_ascend roles) → (flow : Flow) → IsFlow (network roles r size) flow → (side : Side) → IsCut side →
    value (network roles r size) flow ≤ weight (network roles r size) side
flow_below roles r size ascend flow is_flow side cut = flow_below_cut partitions roles r size ascend flow is_flow side cut

-- a flow that carries as much as the zones have room for
pub record Great (roles : List Role) (r size : ℕ) (flow : Flow) : Type 0 where
  pub is_flow : IsFlow (network roles r size) flow
  pub carries : value (network roles r size) flow ≡ min 768 (copies_for 256 roles size (4 - r))

great_at : (roles : List Role) (r size : ℕ) → 1 ≤ r → r ≤ 3 → IsTrue (nodes_ascend roles) → (flow : Flow) × Great roles r size flow
great_at roles r size low high ascend =
    let made : GreatFlow 256 roles r size = great 256 roles r size low high ascend in (
      made.flow,
      record {
        is_flow = subst (λ n. IsFlow (network_of n roles r size) made.flow) all_are made.is_flow;
        carries = subst (λ n. value (network_of n roles r size) made.flow ≡ min 768 (copies_for 256 roles size (4 - r))) all_are made.carries;
      },
    )

-- a flow of three copies of each partition and an assignment that fits are there together
pub flow_fits : (roles : List Role) (r size : ℕ) → 1 ≤ r → r ≤ 3 → IsTrue (nodes_ascend roles) →
    ((flow : Flow) × IsFlow (network roles r size) flow × (value (network roles r size) flow ≡ 768)) → SomeFits roles r size
flow_fits roles r size low high ascend given =
    elim (cases_lt (copies_for 256 roles size (4 - r)) 768) [
      | inl little ↦
          let set = printed_side 256 roles r size in
          let all : Shown roles r size set = shown roles r size low high ascend little in
          let weighs = all.weighs in
          let below = flow_below roles r size ascend given.0 given.1 set all.printed.cut in
          let carries = given.2 in
          absurd (omega arith)
      | inr enough ↦ (columns 256 (copies_row roles r size), (laid roles r size low high ascend enough).fits)
    ]

pub fits_flow : (roles : List Role) (r size : ℕ) → 1 ≤ r → r ≤ 3 → IsTrue (nodes_ascend roles) →
    SomeFits roles r size → (flow : Flow) × IsFlow (network roles r size) flow × (value (network roles r size) flow ≡ 768)
fits_flow roles r size low high ascend some =
    let enough = some_fits roles r size high ascend some in
    let made = great_at roles r size low high ascend in
    let carries = made.1.carries in
    (made.0, made.1.is_flow, omega arith)

-- the printed cut weighs what a greatest flow carries
pub printed_flow : (roles : List Role) (r size : ℕ) → 1 ≤ r → r ≤ 3 → IsTrue (nodes_ascend roles) → (set : Side) → IsPrinted (network roles r size) set →
    (flow : Flow) × IsGreatestFlow (network roles r size) flow × (value (network roles r size) flow ≡ weight (network roles r size) set)
printed_flow roles r size low high ascend set printed =
    let made = great_at roles r size low high ascend in
    let carries = made.1.carries in
    let below = flow_below roles r size ascend made.0 made.1.is_flow set printed.cut in
    let above = least_weight in
    let same : value (network roles r size) made.0 ≡ weight (network roles r size) set = omega arith in (
      made.0,
      record { is_flow = made.1.is_flow; greatest = λ other is_flow. let b = flow_below roles r size ascend other is_flow set printed.cut in omega arith },
      same,
    )
  where
    least_weight : weight (network roles r size) set ≤ min 768 (copies_for 256 roles size (4 - r))
    least_weight =
        let alone : weight (network roles r size) source_alone ≡ 768 = subst (λ n. weight (network_of n roles r size) source_alone ≡ 768) all_are (source_weight 256 roles r size high) in
        let small = printed.least source_alone (record { source = refl; sink = refl }) in
        elim (cases_lt (copies_for 256 roles size (4 - r)) 768) [
          | inl little ↦
              let side = printed_side 256 roles r size in
              let all : Shown roles r size side = shown roles r size low high ascend little in
              let weighs = all.weighs in
              let least = printed.least side all.printed.cut in
              omega arith
          | inr enough ↦ omega arith
        ]
