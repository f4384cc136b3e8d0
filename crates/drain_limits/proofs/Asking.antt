-- Below the prefixes that are asked for after an answer there are no more key hashes than below the one that was answered, and each has some.
use Rattle.std.specs.Prelude.{◌≡◌, ◌≤◌, ◌+◌, ℕ, Bool, true, false, not, cond, Option, Some, None, List, [], ◌∷◌, ◌++◌, length, flat_map, refl}
use Rattle.std.specs.List.{AllByRecursion}
use Rattle.std.proofs.Common.{sym, subst, inl, arith}
use Rattle.blake2_hash.specs.declared.digest.Hash32.{Hash32}
use Rattle.crdt_core.specs.Members.{Has}
use Rattle.table_model.specs.Root.{Pair}
use Rattle.walk_model.specs.Sets.{with_prefix, only_at, child}
use Rattle.walk_model.specs.Walking.{is_there, differing, ask, asks_of}
use Rattle.walk_model.proofs.Prefixes.{starts}
use Rattle.machine_limits.proofs.Totals.{total, has_filter, all_has}
use Rattle.drain_limits.specs.Loads.{under}
use Rattle.drain_limits.proofs.Counting.{has_under}

module _ (keys : List (List ℕ)) (prefix : List ℕ) (pairs : List Pair) (theirs : List (ℕ × Hash32)) (value : ℕ → List ℕ) (known : AllByRecursion (λ pair. Has keys pair.0) pairs) where
  abbrev longer : ℕ → List ℕ
  longer byte = prefix ++ byte ∷ []

  abbrev children : List ℕ → List (ℕ × List ℕ)
  children bytes = flat_map (λ byte. child byte (with_prefix (prefix ++ byte ∷ []) pairs) (value byte)) bytes

  -- what is asked of the children at these bytes
  abbrev pub asked : List ℕ → List (List ℕ)
  asked bytes = asks_of prefix pairs (differing theirs (children bytes))

  -- so many are asked at most, and so many key hashes are below them
  pub record AreFew (t : ℕ) (qs : List (List ℕ)) : Type 0 where
    pub count : length qs ≤ t
    pub sum : total (λ q. under q keys) qs ≤ t

  some_under : (byte : ℕ) (w : Pair) (ws : List Pair) → with_prefix (longer byte) pairs ≡ w ∷ ws → 1 ≤ under (longer byte) keys
  some_under byte w ws e =
      let there : Has (with_prefix (longer byte) pairs) w = subst (λ (xs : List Pair). Has xs w) (sym e) (inl refl) in
      let both = has_filter (λ (pair : Pair). starts pair.0 (longer byte)) pairs w there in
      has_under (longer byte) w.0 keys (all_has (λ (pair : Pair). Has keys pair.0) pairs w known both.0) both.1

  -- with the children at one byte more
  module _ (byte : ℕ) (bytes : List ℕ) (rest : AreFew (total (λ b. under (prefix ++ b ∷ []) keys) bytes) (asked bytes)) where
    abbrev With : List (List ℕ) → Type 0
    With qs = AreFew (under (longer byte) keys + total (λ b. under (prefix ++ b ∷ []) keys) bytes) qs

    more : With (asked bytes)
    more = let a = rest.count in let b = rest.sum in record { count = omega (arith, a); sum = omega (arith, b) }

    by_only : (o : Option (List ℕ)) → 1 ≤ under (longer byte) keys → With (ask (longer byte) o ++ asked bytes)
    by_only None some = let a = rest.count in let b = rest.sum in record { count = omega (arith, a, some); sum = omega (arith, b) }
    by_only (Some key) some = more

    by_test : (c : Bool) → 1 ≤ under (longer byte) keys → With (asks_of prefix pairs (cond c ((byte, value byte) ∷ differing theirs (children bytes)) (differing theirs (children bytes))))
    by_test true some = by_only (only_at (longer byte) pairs) some
    by_test false some = more

    by_pairs : (ws : List Pair) → with_prefix (longer byte) pairs ≡ ws → With (asks_of prefix pairs (differing theirs (child byte ws (value byte) ++ children bytes)))
    by_pairs [] e = more
    by_pairs (w ∷ ws) e = by_test (not (is_there theirs (byte, value byte))) (some_under byte w ws e)

  pub asked_few : (bytes : List ℕ) → AreFew (total (λ b. under (prefix ++ b ∷ []) keys) bytes) (asked bytes)
  asked_few [] = record { count = omega arith; sum = omega arith }
  asked_few (byte ∷ bytes) = by_pairs byte bytes (asked_few bytes) (with_prefix (longer byte) pairs) refl
