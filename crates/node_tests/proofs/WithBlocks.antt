-- Rows that come with their blocks, one after the other.
use Rattle.std.proofs.Common.{ℕ, ◌+◌, ◌<◌, List, [], ◌∷◌, length, get_or, take, sym, subst}
use Rattle.std.specs.List.{AllByRecursion}
use Rattle.std.proofs.lemmas.List.{take_more}
use Rattle.crdt_core.proofs.Each.{all_append}

-- one more
pub all_more : {A : Type 0} (P : A → Type 0) (xs : List A) (i : ℕ) (d : A) → i < length xs → AllByRecursion P (take i xs) → P (get_or xs i d) → AllByRecursion P (take (i + 1) xs)
all_more P xs i d lt all last = subst (AllByRecursion P) (sym (take_more xs i d lt)) (all_append P (take i xs) (get_or xs i d ∷ []) all (last, tt))
