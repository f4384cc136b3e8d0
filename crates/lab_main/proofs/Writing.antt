-- What was written.
use Rattle.std.proofs.Common.{◌≡◌, ℕ, Option, List, [], ◌∷◌, ◌++◌, refl, subst}
use Rattle.lab_outside.specs.Bytes.{Wrote, WrotePrefix}

front_nil : (front rest : List ℕ) → front ++ rest ≡ [] → front ≡ []
front_nil [] rest h = refl
front_nil (x ∷ xs) rest h = cc

-- a first part of nothing is nothing
pub wrote_nothing : (old new : Option (List ℕ)) → WrotePrefix old new [] → Wrote old new []
wrote_nothing old new h = subst (Wrote old new) (front_nil h.front h.rest h.whole) h.wrote
