-- The join of two values that carry times, of which the later wins.
use Rattle.std.specs.Ordering.{nat_cmp}
use Rattle.crdt_core.specs.declared.lww.Lww.{Lww}
use Rattle.crdt_core.specs.Laws.{through}
use Rattle.crdt_core.specs.Lex.{lex_join}

-- the later of the two, and at one time the join of the values
abbrev pub lww_join : {V : Type 0} → (V → V → V) → Lww V → Lww V → Lww V
lww_join j = through (λ a. (a.ts, a.v)) (λ p. record { ts = p.0; v = p.1 }) (lex_join nat_cmp j)
