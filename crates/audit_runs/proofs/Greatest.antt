-- A layout that is lawful with its own cut has the greatest partition size, and is one that is computed.
use Rattle.std.proofs.Common.{◌≡◌, ℕ, zero, suc, ◌+◌, ◌-◌, ◌*◌, ◌<◌, ◌≤◌, min, inl, inr, IsTrue, List, [], length, get_or, refl, sym, subst, ◌∙◌, arith}
use Rattle.std.specs.List.{filter}
use Rattle.std.proofs.lemmas.Bool.{cases_lt}
use Rattle.std.proofs.lemmas.List.{length-map}
use Rattle.std.proofs.lemmas.List.Sums.{sum_by-le, count_by-le-length}
use Rattle.layout_roles.specs.declared.role.Role.{Role}
use Rattle.layout_roles.specs.declared.redundancy.Redundancy.{Redundancy}
use Rattle.layout_roles.specs.declared.layout.Layout.{Layout}
use Rattle.layout_roles.specs.declared.cut.Cut.{Cut}
use Rattle.layout_roles.specs.Zones.{nodes_ascend, storage_nodes, zone_names, zones, nodes_in}
use Rattle.layout_roles.specs.Fits.{partitions, NodeSet, Fits, NoneFits, IsGreatest}
use Rattle.layout_roles.specs.Network.{network, vertices}
use Rattle.layout_roles.specs.Cuts.{Side, IsCut, weight}
use Rattle.layout_roles.specs.Certificates.{IsPrintedCut, IsRedundancy, zones_wanted, AreEnough}
use Rattle.side_model.specs.Sides.{set_of}
use Rattle.layout_flow.specs.Closed.{copies_for, columns, printed_side}
use Rattle.layout_flow.specs.Totals.{copies_in}
use Rattle.layout_flow.proofs.Lightest.{OneToThree, one_to_three}
use Rattle.layout_flow.proofs.Spread.{in_set, three_chosen}
use Rattle.layout_flow.proofs.Whole.{laid, copies_row, some_fits, Shown, shown}
use Rattle.cluster_machine.specs.declared.applied.Applied.{Applied}
use Rattle.cluster_machine.specs.Choices.{IsBest}
use Rattle.audit_model.specs.Printed.{Staged, Printed, IsLawful, IsOfPrint}
use Rattle.audit_runs.specs.Alike.{AreSameButCut}

-- a light cut shows that nothing fits
abbrev LightCuts : Type 0
LightCuts = (roles : List Role) (r size : ℕ) (side : Side) → IsTrue (nodes_ascend roles) → 1 ≤ r → r ≤ 3 → IsCut side → weight (network roles r size) side < 768 → NoneFits roles r size

-- what fits a size fits each smaller one
abbrev SmallerSizes : Type 0
SmallerSizes = (roles : List Role) (r small great : ℕ) (sets : List NodeSet) → 0 < small → small ≤ great → Fits roles r great sets → Fits roles r small sets

-- what an assignment shows of its roles
record Has (roles : List Role) (wanted : Redundancy) (r : ℕ) : Type 0 where
  low : 1 ≤ r
  high : r ≤ 3
  enough : AreEnough roles wanted

at_most_three : (wanted : Redundancy) (roles : List Role) → IsRedundancy wanted → zones_wanted wanted roles ≤ 3
at_most_three (Redundancy.AtLeast r) roles lawful = lawful.1
at_most_three Redundancy.Maximum roles lawful = omega arith

-- an assignment shows that there are three storage nodes
three_nodes : (roles : List Role) (r size : ℕ) (sets : List NodeSet) → IsTrue (nodes_ascend roles) → Fits roles r size sets → 3 ≤ length (storage_nodes roles)
unfolding partitions
three_nodes roles r size sets ascend fits =
    let whole : length sets ≡ 256 = fits.whole in
    let one = three_chosen roles (get_or sets 0 []) ascend (fits.threes 0 [] (omega arith)) in
    let few = count_by-le-length (in_set (get_or sets 0 [])) (storage_nodes roles) in
    omega arith

-- the zones have room for 768 copies only where each has room for its part
room_in_zones : (roles : List Role) (size each : ℕ) → copies_for 256 roles size each ≤ length (zone_names roles) * (each * 256)
room_in_zones roles size each =
    let most = sum_by-le (λ (zone : List Role). min (each * 256) (copies_in 256 size zone)) (each * 256) (zones roles) (λ k d lt. omega arith) in
    let count : length (zones roles) ≡ length (zone_names roles) = length-map (zone_names roles) (nodes_in roles) in
    subst (λ n. copies_for 256 roles size each ≤ n * (each * 256)) count most

-- so there are as many zones as are wanted
enough_zones : (r z copies : ℕ) → OneToThree r → copies ≤ z * ((4 - r) * 256) → 768 ≤ copies → r ≤ z
enough_zones r z copies (OneToThree.is_one is) most much = let m = subst (λ n. copies ≤ z * ((4 - n) * 256)) is most in omega arith
enough_zones r z copies (OneToThree.is_two is) most much = let m = subst (λ n. copies ≤ z * ((4 - n) * 256)) is most in omega arith
enough_zones r z copies (OneToThree.is_three is) most much = let m = subst (λ n. copies ≤ z * ((4 - n) * 256)) is most in omega arith

one_zone : (z each copies : ℕ) → copies ≤ z * each → 768 ≤ copies → 1 ≤ z
one_zone zero each copies most much = absurd (omega arith)
one_zone (suc z) each copies most much = omega arith

module _ (roles : List Role) (size : ℕ) (sets : List NodeSet) (ascend : IsTrue (nodes_ascend roles)) where
  shows_enough : (wanted : Redundancy) → IsRedundancy wanted → Fits roles (zones_wanted wanted roles) size sets → Has roles wanted (zones_wanted wanted roles)
  shows_enough (Redundancy.AtLeast r) lawful fits =
      let much = some_fits roles r size lawful.1 ascend (sets, fits) in
      record {
        low = lawful.0;
        high = lawful.1;
        enough = record {
          nodes = three_nodes roles r size sets ascend fits;
          zones = enough_zones r (length (zone_names roles)) (copies_for 256 roles size (4 - r)) (one_to_three r lawful.0 lawful.1) (room_in_zones roles size (4 - r)) much;
        };
      }
  shows_enough Redundancy.Maximum lawful fits =
      let r = min 3 (length (zone_names roles)) in
      let much = some_fits roles r size (omega arith) ascend (sets, fits) in
      let some = one_zone (length (zone_names roles)) ((4 - r) * 256) (copies_for 256 roles size (4 - r)) (room_in_zones roles size (4 - r)) much in
      record {
        low = omega arith;
        high = omega arith;
        enough = record { nodes = three_nodes roles r size sets ascend fits; zones = omega arith };
      }

module _ (light_cuts : LightCuts) (smaller_sizes : SmallerSizes) (s : Staged) (p : Printed) (ascend : IsTrue (nodes_ascend s.roles)) (wanted_in : IsRedundancy s.wanted) (h : IsLawful s p) where
  abbrev r : ℕ
  r = zones_wanted s.wanted s.roles

  has : Has s.roles s.wanted r
  has = shows_enough s.roles p.size p.sets ascend s.wanted wanted_in h.fits

  over : NoneFits s.roles r (p.size + 1)
  over = light_cuts s.roles r (p.size + 1) (set_of p.side) ascend has.low has.high h.cut h.light

  above : (size : ℕ) → p.size < size → NoneFits s.roles r size
  above size lt sets fits = over sets (smaller_sizes s.roles r (p.size + 1) size sets (omega arith) (omega arith) fits)

  pub lawful_is_greatest : IsGreatest s.roles r p.size p.sets × ((size : ℕ) → p.size < size → NoneFits s.roles r size)
  lawful_is_greatest = (record { fits = h.fits; greatest = over }, above)

  little : copies_for 256 s.roles (p.size + 1) (4 - r) < 768
  little =
      elim (cases_lt (copies_for 256 s.roles (p.size + 1) (4 - r)) 768) [
        | inl less ↦ less
        | inr much ↦ absurd (over (columns 256 (copies_row s.roles r (p.size + 1))) (laid s.roles r (p.size + 1) has.low has.high ascend much).fits)
      ]

  -- the cut of least weight for the next size
  abbrev least_side : Side
  least_side = printed_side 256 s.roles r (p.size + 1)

  abbrev least_cut : Cut
  least_cut = record { size = p.size + 1; weight = copies_for 256 s.roles (p.size + 1) (4 - r); side = filter least_side (vertices s.roles) }

  least_is_printed : IsPrintedCut s.roles r (p.size + 1) least_cut
  least_is_printed =
      let all : Shown s.roles r (p.size + 1) least_side = shown s.roles r (p.size + 1) has.low has.high ascend little in
      record { set = least_side; printed = all.printed; listed = refl; weighs = sym all.weighs; sized = refl }

  -- what is known of a size with these sets
  record Certifies (r size : ℕ) (sets : List NodeSet) : Type 0 where
    greatest : IsGreatest s.roles r size sets
    above : (more : ℕ) → size < more → NoneFits s.roles r more
    some : 0 < size
    cut : IsPrintedCut s.roles r (size + 1) least_cut

  moved : (m n : ℕ) (sets : List NodeSet) → m ≡ r → n ≡ p.size → sets ≡ p.sets → Certifies m n sets
  moved m n sets a b c =
      subst (λ x. Certifies x n sets) (sym a) (subst (λ y. Certifies r y sets) (sym b) (subst (λ z. Certifies r p.size z) (sym c)
      (record { greatest = lawful_is_greatest.0; above = above; some = h.some; cut = least_is_printed })))

  module _ (version : ℕ) (l : Layout) (print : Applied) (o : IsOfPrint s.roles s.wanted version p l print) where
    abbrev best : Applied
    best = record { certified = record { r = l.r; size = l.size; sets = l.sets; cut = least_cut }; roles = l.roles }

    same : AreSameButCut print best
    same = record { roles = o.shown_roles ∙ sym o.roles_are; redundancy = o.shown_redundancy; size = o.size.1 ∙ sym o.size.0; sets = o.sets.1 ∙ sym o.sets.0 }

    is_best : IsBest s.roles s.wanted version l best
    is_best =
        let all : Certifies l.r l.size l.sets.sets = moved l.r l.size l.sets.sets o.redundancy o.size.0 o.sets.0 in
        record {
          version_is = o.version_is;
          roles_are = o.roles_are;
          shown_roles = o.roles_are;
          redundancy = refl;
          size = refl;
          sets = refl;
          enough = has.enough;
          certified = record { redundancy = o.redundancy; greatest = all.greatest; above = all.above; some = all.some; cut = all.cut; light = little };
        }

    is_computed : (best : Applied) × (AreSameButCut print best × IsBest s.roles s.wanted version l best)
    is_computed = (best, (same, is_best))

-- the layout itself has its roles in order
pub print_is_computed : LightCuts → SmallerSizes → (s : Staged) (p : Printed) (version : ℕ) (l : Layout) (print : Applied) → IsRedundancy s.wanted → IsLawful s p →
    IsOfPrint s.roles s.wanted version p l print → (best : Applied) × (AreSameButCut print best × IsBest s.roles s.wanted version l best)
print_is_computed light_cuts smaller_sizes s p version l print wanted_in h o =
    is_computed light_cuts smaller_sizes s p (subst (λ roles. IsTrue (nodes_ascend roles)) o.roles_are l.roles.ascending) wanted_in h version l print o
