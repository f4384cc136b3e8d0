-- Entries that were read, and the map of them.
use Rattle.std.proofs.Common.{◌≡◌, ℕ, List, Option, Some, refl, ap, sym, ◌∙◌}
use Rattle.std.specs.declared.cmp.Ord as ord
use Rattle.std.specs.declared.cmp.PartialEq as partial_eq
use Rattle.std.specs.declared.cmp.PartialOrd as partial_ord
use Rattle.crdt_core.specs.declared.map.Map.{Map}
use Rattle.crdt_core.specs.Map.{map_entries}
use Rattle.row_codec.specs.Built.{map_from}
use Rattle.row_codec.specs.BuiltLaws.{map_there}
use Rattle.row_codec.specs.Reading.{counted_at, both_at, tested_at}
use Rattle.row_codec.specs.Rows.{map_at}

module _ {K V : Type 0} {o : ord.Ghosts K} {p : partial_eq.Ghosts K} {q : partial_ord.Ghosts K} where
  pub map_taken : (key_at : List ℕ → Option (K × List ℕ)) (value_at : List ℕ → Option (V × List ℕ)) (bytes : List ℕ) (es : List (K × V)) (rest : List ℕ) (m : Map K V o p q) → counted_at (both_at key_at value_at) bytes ≡ Some (es, rest) → map_entries m ≡ es → map_at key_at value_at bytes ≡ Some (m, rest)
  unfolding map_at tested_at
  map_taken key_at value_at bytes es rest m h e =
      let made : map_from es ≡ Some m = ap map_from (sym e) ∙ map_there m in
      rw (h, made) refl
