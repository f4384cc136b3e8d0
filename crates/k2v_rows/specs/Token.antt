-- What a reader has seen, and what a write discards of it.
use Rattle.std.specs.Prelude.{ℕ, nat_eq, List, [], ◌∷◌, map, Some, refl}
use Rattle.std.specs.Ordering.{nat_cmp}
use Rattle.crdt_core.specs.declared.max.Max.{Max}
use Rattle.crdt_core.specs.Map.{MapOf, map_join, map_single}
use Rattle.k2v_rows.specs.declared.writes.Writes.{Writes}
use Rattle.k2v_rows.specs.Writes.{greatest_time, writes_join}

-- the writes of each node
abbrev pub WritesMap : Type 0
WritesMap = MapOf nat_cmp nat_eq (λ m n. Some (nat_cmp m n)) Writes

-- the writes of both, node by node
abbrev pub entries_join : WritesMap → WritesMap → WritesMap
entries_join a b = map_join writes_join a b

-- a time of each node
abbrev pub TimeMap : Type 0
TimeMap = MapOf nat_cmp nat_eq (λ m n. Some (nat_cmp m n)) (Max ℕ)

-- of each node the greatest of its discard time and the times of its values
abbrev pub token_entries : List (ℕ × Writes) → List (ℕ × Max ℕ)
token_entries es = map (λ e. (e.0, record { 0 = greatest_time e.1 })) es

-- a discard time without values
abbrev pub discarded : Max ℕ → Writes
discarded t = record { discard = t; values = record { entries = []; ascending = refl }; kept = refl }

-- each node's discard time raised to the time that the token has for it, which discards its values up to that time
abbrev pub raised : WritesMap → List (ℕ × Max ℕ) → WritesMap
raised m [] = m
raised m (seen ∷ token) = raised (entries_join m (map_single seen.0 (discarded seen.1))) token
