-- What fits equal roles.
use Rattle.std.proofs.Common.{◌≡◌, ℕ, List, sym, subst}
use Rattle.layout_roles.specs.declared.role.Role.{Role}
use Rattle.layout_roles.specs.Fits.{NodeSet, Fits, NoneFits}

pub fits_moved : (roles' roles : List Role) (r' r size' size : ℕ) (sets : List NodeSet) → roles' ≡ roles → r' ≡ r → size' ≡ size → Fits roles r size sets → Fits roles' r' size' sets
fits_moved roles' roles r' r size' size sets e f g fits =
    subst (λ (rs : List Role). Fits rs r' size' sets) (sym e) (subst (λ n. Fits roles n size' sets) (sym f) (subst (λ n. Fits roles r n sets) (sym g) fits))

pub none_moved : (roles' roles : List Role) (r' r size' size : ℕ) → roles' ≡ roles → r' ≡ r → size' ≡ size → NoneFits roles r size → NoneFits roles' r' size'
none_moved roles' roles r' r size' size e f g none sets fits =
    none sets (fits_moved roles roles' r r' size size' sets (sym e) (sym f) (sym g) fits)
