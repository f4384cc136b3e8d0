-- A reader takes a value from the front of bytes, and leaves the rest.
use Rattle.std.specs.Prelude.{◌≡◌, ℕ, ◌^◌, nat_lt, Bool, true, ◌&&◌, ◌==◌, if◌then◌else◌, List, ◌++◌, length, Option, Some, None}
use Rattle.std.specs.List.{list_all}

infixl 10 ◌>>=◌
-- what f makes of the value, where there is one
abbrev pub ◌>>=◌ : {A B : Type 0} → Option A → (A → Option B) → Option B
None >>= f = None
(Some x) >>= f = f x

-- each number is a byte
abbrev pub are_bytes : List ℕ → Bool
are_bytes = list_all (λ b. nat_lt b (2 ^ 8))

-- each number is a byte
abbrev pub IsBytes : List ℕ → Type 0
IsBytes bytes = are_bytes bytes ≡ true

-- The bytes are the spelling of a value, and then a rest. Each number of the value is in its type's range,
-- and its lengths and counts are short enough to be spelled.
pub record Begins {X : Type 0} (in_range : X → Bool) (is_short : X → Bool) (spelled : X → List ℕ) (bytes : List ℕ) (x : X) (rest : List ℕ) : Type 0 where
  pub parts : bytes ≡ spelled x ++ rest
  pub fits : in_range x ≡ true
  pub short : is_short x ≡ true

-- the reader takes from the front of bytes exactly the values whose spelling stands there
pub record Reads {X : Type 0} (in_range : X → Bool) (is_short : X → Bool) (spelled : X → List ℕ) (read : List ℕ → Option (X × List ℕ)) : Type 0 where
  pub takes : (bytes : List ℕ) (x : X) (rest : List ℕ) → IsBytes bytes → read bytes ≡ Some (x, rest) → Begins in_range is_short spelled bytes x rest
  pub bytes : (x : X) → in_range x ≡ true → IsBytes (spelled x)
  pub again : (x : X) (rest : List ℕ) → in_range x ≡ true → is_short x ≡ true → read (spelled x ++ rest) ≡ Some (x, rest)

-- ---- a value alone

-- the bytes of a value that has any
abbrev pub spelling_of : {X : Type 0} → (X → Bool) → (X → Bool) → (X → List ℕ) → X → Option (List ℕ)
spelling_of in_range is_short spelled x = if in_range x && is_short x then Some (spelled x) else None

-- the value that has these bytes
abbrev pub read_whole : {X : Type 0} → (List ℕ → Option (X × List ℕ)) → List ℕ → Option X
read_whole read bytes = if are_bytes bytes then (read bytes >>= λ found. if length found.1 == 0 then Some found.0 else None) else None
