-- What holds of each element of a list: by a test, and where it changed at one place. And lists that are short.
use Rattle.std.specs.Prelude.{◌≡◌, ◌<◌, ◌^◌, ℕ, zero, suc, Bool, true, List, [], ◌∷◌, length, slice_set, refl}
use Rattle.std.specs.List.{AllByRecursion, list_all}
use Rattle.std.proofs.lemmas.Bool.{lt-ltb}
use Rattle.crdt_core.specs.EntryLaws.{and_both}
use Rattle.row_codec.specs.Range.{is_below}

pub all_set : {X : Type 0} (P : X → Type 0) (xs : List X) (i : ℕ) (x : X) → AllByRecursion P xs → P x → AllByRecursion P (slice_set xs i x)
all_set P [] zero x a h = tt
all_set P [] (suc i) x a h = tt
all_set P (y ∷ xs) zero x a h = (h, a.1)
all_set P (y ∷ xs) (suc i) x a h = (a.0, all_set P xs i x a.1 h)

-- what has a property passes each test that the property passes
pub all_pass : {X : Type 0} (P : X → Type 0) (test : X → Bool) → ((x : X) → P x → test x ≡ true) → (xs : List X) → AllByRecursion P xs → list_all test xs ≡ true
all_pass P test h [] a = refl
all_pass P test h (x ∷ xs) a = and_both (test x) (list_all test xs) (h x a.0) (all_pass P test h xs a.1)

-- 4 bytes say how many there are
pub below_is : {X : Type 0} (xs : List X) → length xs < 4294967296 → is_below xs ≡ true
below_is xs h = lt-ltb (length xs) (2 ^ 32) h
