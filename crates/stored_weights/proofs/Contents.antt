-- The rows that contents have are of different places, and each is what they have at its place.
use Rattle.std.specs.Prelude.{◌≡◌, ◌≤◌, ◌*◌, ℕ, List, [], ◌∷◌, Some, map, refl}
use Rattle.std.specs.List.{AllByRecursion}
use Rattle.std.specs.declared.cmp.Ordering.TheVariants.{Less, Equal, Greater}
use Rattle.std.specs.Cmp.{tied_itself}
use Rattle.std.specs.Ordering.{ordering_reverse}
use Rattle.std.proofs.Common.{ap, sym, subst, ◌∙◌, inl, inr}
use Rattle.crdt_core.specs.Members.{Has}
use Rattle.crdt_rows.specs.declared.any_row.AnyRow.{AnyRow}
use Rattle.crdt_rows.specs.AnyRow.{any_join}
use Rattle.limit_rows.specs.Fitting.{weight}
use Rattle.machine_limits.proofs.Totals.{all_from}
use Rattle.machine_origins.specs.Origins.{ComesFrom}
use Rattle.object_origins.proofs.Shown.{Facts}
use Rattle.object_schema.specs.Laws.{schema_laws}
use Rattle.object_schema.specs.Schema.{words}
use Rattle.table_model.specs.Rows.{place_cmp, place, AllProper, row_at, rows, find_row}
use Rattle.table_model.proofs.RowLaws.{place_total, Above, Ascends, rows_ascend, row_found}
use Rattle.stored_weights.specs.Stored.{IsSpelled, sum_of, AreOfDifferentPlaces}
use Rattle.stored_weights.proofs.Made.{IsMade, made}
use Rattle.stored_weights.proofs.Weighing.{weigh_no_more}

not_less : Less ≡ Equal → ⊥
not_less e = cc

-- a place below all of some rows is none of theirs
none_there : (p : ℕ × List ℕ) (rs : List AnyRow) → Above words p rs → Has (map (λ q. (words.table q, words.key q)) rs) p → ⊥
none_there p [] a h = elim h [ ]
none_there p (r ∷ rs) a (inl e) = not_less (sym (subst (λ (q : ℕ × List ℕ). place_cmp p q ≡ Less) e a.0) ∙ tied_itself place_total p)
none_there p (r ∷ rs) a (inr h) = none_there p rs a.1 h

ascending_apart : (rs : List AnyRow) → Ascends words rs → AreOfDifferentPlaces rs
ascending_apart [] a = tt
ascending_apart (r ∷ rs) a = (none_there (place words r) rs a.0, ascending_apart rs a.1)

-- rows in order have each of them at its place
each_found : (rs : List AnyRow) → Ascends words rs → (r : AnyRow) → Has rs r → find_row words (words.table r) (words.key r) rs ≡ Some r
each_found [] a r h = elim h [ ]
each_found (q ∷ rs) a r (inl e) = subst (λ x. find_row words (words.table x) (words.key x) (q ∷ rs) ≡ Some x) e (rw (tied_itself place_total (place words q)) refl)
each_found (q ∷ rs) a r (inr h) = rw (turned_less (place words q) (place words r) (above_has rs a.0 h)) (each_found rs a.1 r h)
  where
    above_has : (xs : List AnyRow) → Above words (place words q) xs → Has xs r → place_cmp (place words q) (place words r) ≡ Less
    above_has [] b g = elim g [ ]
    above_has (x ∷ xs) b (inl e) = subst (λ y. place_cmp (place words q) (place words y) ≡ Less) e b.0
    above_has (x ∷ xs) b (inr g) = above_has xs b.1 g

    turned_less : (p o : ℕ × List ℕ) → place_cmp p o ≡ Less → place_cmp o p ≡ Greater
    turned_less p o e = place_total.antisymm o p ∙ ap ordering_reverse e

module _ (facts : Facts) (stored contents : List AnyRow) (proper : AllProper words contents)
    (comes : (table : ℕ) (key : List ℕ) (row : AnyRow) → row_at any_join words contents table key ≡ Some row → ComesFrom any_join words stored row) where
  -- each row of the contents is made of stored rows
  pub each_made : (r : AnyRow) → Has (rows any_join words contents) r → IsMade stored r
  each_made r h =
      let ascends = rows_ascend schema_laws contents proper in
      made facts stored r (comes (words.table r) (words.key r) r (sym (row_found schema_laws contents (words.table r) (words.key r) proper) ∙ each_found (rows any_join words contents) ascends r h))

  pub contents_weigh : AllByRecursion IsSpelled stored → sum_of weight (rows any_join words contents) ≤ 2 * sum_of weight stored
  contents_weigh spelled =
      let rs = rows any_join words contents in
      weigh_no_more stored rs spelled (all_from (IsMade stored) rs each_made) (ascending_apart rs (rows_ascend schema_laws contents proper))
