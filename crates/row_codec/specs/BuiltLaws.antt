-- Laws that impls cite; no definition stands here.
-- What stands in bytes of a map or row makes that map or row again.
use Rattle.std.specs.Prelude.{◌≡◌, ℕ, Bool, true, false, List, Some, refl}
use Rattle.std.proofs.Common.{ap, sym, ◌∙◌}
use Rattle.std.specs.declared.cmp.Ord as ord
use Rattle.std.specs.declared.cmp.PartialEq as partial_eq
use Rattle.std.specs.declared.cmp.PartialOrd as partial_ord
use Rattle.blake2_hash.specs.declared.digest.Hash32.{Hash32}
use Rattle.crdt_core.specs.declared.map.Map.{Map}
use Rattle.crdt_core.specs.Entries.{is_ascending}
use Rattle.crdt_core.specs.Map.{map_entries}
use Rattle.crdt_core.specs.MapLaws.{same_map}
use Rattle.crdt_rows.specs.declared.object_row.ObjectRow.{ObjectRow}
use Rattle.crdt_rows.specs.ObjectRowLaws.{same_row}
use Rattle.crdt_rows.specs.Versions.{is_settled_row, is_sized_row}
use Rattle.row_codec.specs.NumberLaws.{some_is}
use Rattle.row_codec.specs.Built.{map_by, map_from, VersionMap, object_parts, object_by, object_from}

module _ {K V : Type 0} {o : ord.Ghosts K} {p : partial_eq.Ghosts K} {q : partial_ord.Ghosts K} where
  map_back_by : (es : List (K × V)) (b : Bool) (h : is_ascending o.cmp es ≡ b) (m : Map K V o p q) → map_by es b h ≡ Some m → map_entries m ≡ es
  map_back_by es true h m e = sym (ap map_entries (some_is _ _ e))
  map_back_by es false h m e = absurd cc

  map_there_by : (m : Map K V o p q) (b : Bool) (h : is_ascending o.cmp (map_entries m) ≡ b) → map_by (map_entries m) b h ≡ Some m
  map_there_by m true h = ap Some (same_map _ m refl)
  map_there_by m false h = let no : true ≡ false = sym m.ascending ∙ h in cc

  pub map_there : (m : Map K V o p q) → map_from (map_entries m) ≡ Some m
  map_there m = map_there_by m (is_ascending o.cmp (map_entries m)) refl

  pub map_back : (es : List (K × V)) (m : Map K V o p q) → map_from es ≡ Some m → map_entries m ≡ es
  map_back es m e = map_back_by es (is_ascending o.cmp es) refl m e

object_back_by : (t : Hash32 × (List ℕ × VersionMap)) (b c : Bool) (h : is_settled_row (map_entries t.1.1) ≡ b) (g : is_sized_row (map_entries t.1.1) ≡ c) (r : ObjectRow) → object_by t b c h g ≡ Some r → object_parts r ≡ t
object_back_by t true true h g r e = sym (ap object_parts (some_is _ _ e))
object_back_by t true false h g r e = absurd cc
object_back_by t false c h g r e = absurd cc

object_there_by : (r : ObjectRow) (b c : Bool) (h : is_settled_row (map_entries r.versions) ≡ b) (g : is_sized_row (map_entries r.versions) ≡ c) → object_by (object_parts r) b c h g ≡ Some r
object_there_by r true true h g = ap Some (same_row _ r refl refl refl)
object_there_by r true false h g = let no : true ≡ false = sym r.sized ∙ g in cc
object_there_by r false c h g = let no : true ≡ false = sym r.settled ∙ h in cc

pub object_there : (r : ObjectRow) → object_from (object_parts r) ≡ Some r
object_there r = object_there_by r (is_settled_row (map_entries r.versions)) (is_sized_row (map_entries r.versions)) refl refl

pub object_back : (t : Hash32 × (List ℕ × VersionMap)) (r : ObjectRow) → object_from t ≡ Some r → object_parts r ≡ t
object_back t r e = object_back_by t (is_settled_row (map_entries t.1.1)) (is_sized_row (map_entries t.1.1)) refl refl r e
