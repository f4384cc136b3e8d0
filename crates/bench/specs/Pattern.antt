-- The bytes that the jobs work on.
use Rattle.std.specs.Prelude.{ℕ, ◌%◌, List, map}
use Rattle.std.specs.List.{range_with_len}

-- n bytes, of which byte i is i modulo 251
unfoldable pub pattern : ℕ → List ℕ
pattern n = map (λ i. i % 251) (range_with_len 0 n)
