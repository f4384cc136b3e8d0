-- The join of two pairs, part by part.
use Rattle.crdt_core.specs.declared.pair.Pair.{Pair}

-- each part joined with its like
abbrev pub pair_join : {A B : Type 0} → (A → A → A) → (B → B → B) → Pair A B → Pair A B → Pair A B
pair_join f g a b = record { a = f a.a b.a; b = g a.b b.b }
