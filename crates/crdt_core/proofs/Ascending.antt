-- Entries that ascend, as a loop goes over them.
use Rattle.std.proofs.Common.{◌≡◌, ◌<◌, true, List, [], ◌∷◌, length, refl, arith}
use Rattle.std.specs.declared.cmp.Ordering.{Ordering}
use Rattle.crdt_core.specs.Entries.{is_ascending}

module _ {K V : Type 0} (R : K → K → Ordering) where
  pub few_ascending : (es : List (K × V)) → length es < 2 → is_ascending R es ≡ true
  few_ascending [] h = refl
  few_ascending (e ∷ []) h = refl
  few_ascending (e ∷ f ∷ es) h = absurd (omega arith)
