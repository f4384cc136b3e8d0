-- Laws that impls cite; no definition stands here.
-- Values that may be missing join as those that are there.
use Rattle.std.specs.Prelude.{◌≡◌, Option, Some, None, refl}
use Rattle.std.proofs.Common.{ap}
use Rattle.crdt_core.specs.Laws.{JoinLaws}
use Rattle.crdt_core.specs.Order.{option_join}

pub option_join-none : {R : Type 0} (j : R → R → R) (a : Option R) → option_join j a None ≡ a
option_join-none j None = refl
option_join-none j (Some a) = refl

module _ {R : Type 0} {j : R → R → R} (laws : JoinLaws j) where
  option_comm : (a b : Option R) → option_join j a b ≡ option_join j b a
  option_comm None None = refl
  option_comm None (Some b) = refl
  option_comm (Some a) None = refl
  option_comm (Some a) (Some b) = ap Some (laws.commutative a b)

  option_assoc : (a b c : Option R) → option_join j (option_join j a b) c ≡ option_join j a (option_join j b c)
  option_assoc None b c = refl
  option_assoc (Some a) None c = refl
  option_assoc (Some a) (Some b) None = refl
  option_assoc (Some a) (Some b) (Some c) = ap Some (laws.associative a b c)

  option_idem : (a : Option R) → option_join j a a ≡ a
  option_idem None = refl
  option_idem (Some a) = ap Some (laws.idempotent a)

  pub option_laws : JoinLaws (option_join j)
  option_laws = record { commutative = option_comm; associative = option_assoc; idempotent = option_idem }
