-- The least number of an open write, from its place.
use Rattle.std.proofs.Common.{◌≡◌, ℕ, suc, ◌+◌, Bool, true, false, not, cond, Some, None, List, [], ◌∷◌, length, refl, ◌∙◌, arith}
use Rattle.std.specs.Prelude.{option_map, nat_lt}
use borrow.Author.Tests.{tests}
use Rattle.std.specs.List.{position, position_or_len}
use Rattle.k2v_rows.specs.Row.{ItemKey}
use Rattle.k2v_world.specs.declared.asked.Asked.{Asked}
use Rattle.k2v_world.specs.Kept.{is_open_write, busy_from}

module _ (n : ℕ) (key : ItemKey) where
  -- how many stand before the first
  abbrev before_it : List Asked → ℕ
  before_it xs = position_or_len (is_open_write n key) xs

  -- by whether the first request is one
  by_first : (q : ℕ) (xs : List Asked) (b : Bool) → busy_from (suc q) xs n key ≡ cond (nat_lt (before_it xs) (length xs)) (Some (suc q + before_it xs)) None →
      cond b (Some q) (busy_from (suc q) xs n key) ≡ cond (nat_lt (cond (not b) (1 + before_it xs) 0) (suc (length xs))) (Some (q + cond (not b) (1 + before_it xs) 0)) None
  by_first q xs true rest = grind (arith, tests)
  by_first q xs false rest = grind (arith, tests, rest)

  counts : (q : ℕ) (xs : List Asked) → busy_from q xs n key ≡ cond (nat_lt (before_it xs) (length xs)) (Some (q + before_it xs)) None
  counts q [] = refl
  counts q (a ∷ xs) = by_first q xs (is_open_write n key a) (counts (suc q) xs)

  numbered_from : (q p : ℕ) (b : Bool) → cond b (Some (q + p)) None ≡ option_map (λ i. q + i) (cond b (Some p) None)
  numbered_from q p true = refl
  numbered_from q p false = refl

  pub busy_is : (q : ℕ) (xs : List Asked) → busy_from q xs n key ≡ option_map (λ i. q + i) (position (is_open_write n key) xs)
  busy_is q xs = counts q xs ∙ numbered_from q (before_it xs) (nat_lt (before_it xs) (length xs))
