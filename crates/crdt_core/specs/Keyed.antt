-- The join of two values under keys, of which the greater key wins.
use Rattle.std.specs.declared.cmp.Ordering.{Ordering}
use Rattle.crdt_core.specs.declared.keyed.Keyed.{Keyed}
use Rattle.crdt_core.specs.Laws.{through}
use Rattle.crdt_core.specs.Lex.{lex_join}

-- the one with the greater key, and under one key the join of the values
abbrev pub keyed_join : {K V : Type 0} → (K → K → Ordering) → (V → V → V) → Keyed K V → Keyed K V → Keyed K V
keyed_join R j = through (λ a. (a.key, a.v)) (λ p. record { key = p.0; v = p.1 }) (lex_join R j)
