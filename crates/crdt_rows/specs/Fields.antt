-- The order of the fields of rows, which is that of their row bytes: where a length stands first, it decides first.
use Rattle.std.specs.Prelude.{ℕ, List, length}
use Rattle.std.specs.declared.cmp.Ordering.{Ordering}
use Rattle.std.specs.Ordering.{nat_cmp, ordering_then}
use Rattle.std.specs.Cmp.Lexicographic.{slice_cmp}

-- the shorter list first; of two as long, the first values that differ decide
abbrev pub list_cmp : {X : Type 0} → (X → X → Ordering) → List X → List X → Ordering
list_cmp R a b = ordering_then (nat_cmp (length a) (length b)) (slice_cmp R a b)

-- the order of bytes, the first that differs decides
abbrev pub bytes_cmp : List ℕ → List ℕ → Ordering
bytes_cmp = list_cmp nat_cmp

-- by name, then by value
abbrev pub header_cmp : List ℕ × List ℕ → List ℕ × List ℕ → Ordering
header_cmp a b = ordering_then (bytes_cmp a.0 b.0) (bytes_cmp a.1 b.1)
