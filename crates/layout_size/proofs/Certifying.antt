-- What is certified of a network's roles, from its parts.
use Rattle.std.proofs.Common.{◌≡◌, ℕ, ◌+◌, ◌<◌, List, Result, Ok, Err, IfOk, sym, subst}
use Rattle.layout_roles.specs.declared.redundancy.Redundancy.{Redundancy}
use Rattle.layout_roles.specs.declared.role.Role.{Role}
use Rattle.layout_roles.specs.declared.certified.Certified.{Certified}
use Rattle.layout_roles.specs.Fits.{NoneFits, IsGreatest}
use Rattle.layout_roles.specs.Certificates.{IsPrintedCut, zones_wanted, IsCertified}

pub certified_of : {E : Type 0} (result : Result Certified E) (roles : List Role) (wanted : Redundancy) (r : ℕ) → r ≡ zones_wanted wanted roles → IfOk result (λ c. c.r ≡ r) →
    IfOk result (λ c. IsGreatest roles r c.size c.sets.sets) → IfOk result (λ c. (size : ℕ) → c.size < size → NoneFits roles c.r size) → IfOk result (λ c. 0 < c.size) →
    IfOk result (λ c. IsPrintedCut roles r (c.size + 1) c.cut) → IfOk result (λ c. c.cut.weight < 768) → IfOk result (IsCertified roles wanted)
certified_of (Ok c) roles wanted r is same greatest above some cut light = record {
  redundancy = subst (λ n. n ≡ zones_wanted wanted roles) (sym same) is;
  greatest = subst (λ n. IsGreatest roles n c.size c.sets.sets) (sym same) greatest;
  above = above;
  some = some;
  cut = subst (λ n. IsPrintedCut roles n (c.size + 1) c.cut) (sym same) cut;
  light = light;
}
certified_of (Err e) roles wanted r is same greatest above some cut light = tt
