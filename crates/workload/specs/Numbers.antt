-- The numbers of a workload: SplitMix64 (Steele, Lea and Flood, 2014). A state is a number below 2 ^ 64; the first is the seed.
use Rattle.std.specs.Prelude.{ℕ, zero, suc, ◌+◌, ◌*◌, ◌/◌, ◌%◌, ◌^◌, bit_xor}

-- the state after the next number: a constant is added, modulo 2 ^ 64
unfoldable pub next : ℕ → ℕ
next x = (x + 0x9e3779b97f4a7c15) % 2 ^ 64

-- z xor z shifted right by k places
abbrev pub folded : ℕ → ℕ → ℕ
folded k z = bit_xor z (z / 2 ^ k)

-- z xor z shifted right by k places, times m, modulo 2 ^ 64
abbrev pub stirred : ℕ → ℕ → ℕ → ℕ
stirred k m z = folded k z * m % 2 ^ 64

-- the number that is drawn when the state has become z
unfoldable pub mixed : ℕ → ℕ
mixed z = folded 31 (stirred 27 0x94d049bb133111eb (stirred 30 0xbf58476d1ce4e5b9 z))

-- the state after i numbers more
abbrev pub after : ℕ → ℕ → ℕ
after x zero = x
after x (suc i) = next (after x i)

-- the i-th number that is drawn from state x on, counted from 1, modulo k
abbrev pub draw : ℕ → ℕ → ℕ → ℕ
draw x i k = mixed (after x i) % k
