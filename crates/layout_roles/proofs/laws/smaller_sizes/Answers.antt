use Rattle.std.proofs.Common.{ℕ, ◌/◌, ◌<◌, ◌≤◌, List, get_or, le_trans, arith}
use Rattle.std.proofs.Math.Nat.{mul-le-mul_left, div-mul-le_self}
use Rattle.std.proofs.lemmas.Nat.{le-div}
use Rattle.layout_roles.specs.declared.role.Role.{Role}
use Rattle.layout_roles.specs.Zones.{storage_nodes, capacity_of}
use Rattle.layout_roles.specs.Fits.{NodeSet, Fits}
use Rattle.layout_roles.proofs.laws.smaller_sizes.Goals as goal

more_room : (capacity small great : ℕ) → 0 < small → small ≤ great → capacity / great ≤ capacity / small
more_room capacity small great some le =
    let a = mul-le-mul_left (capacity / great) le in
    let b = div-mul-le_self capacity great in
    le-div (capacity / great) capacity small some (omega arith)

smaller : (roles : List Role) (r small great : ℕ) (sets : List NodeSet) → 0 < small → small ≤ great → Fits roles r great sets → Fits roles r small sets
smaller roles r small great sets some le fits = record {
  whole = fits.whole;
  threes = fits.threes;
  spread = fits.spread;
  within = λ k d h. le_trans (fits.within k d h) (more_room (capacity_of (get_or (storage_nodes roles) k d)) small great some le);
}

pub returns : goal.returns
returns c = smaller
