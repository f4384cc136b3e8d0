-- Laws that impls cite; no definition stands here.
-- The entries of joined maps, their values at each key, and the laws of their join.
use Rattle.std.specs.Prelude.{◌≡◌, Bool, true, false, cond, List, None, refl}
use Rattle.std.proofs.Common.{ap, sym, ◌∙◌}
use mathlib.Core.Bool.{Bool-set}
use mathlib.Core.HLevel.{is_prop→PathP}
use Rattle.std.specs.declared.cmp.Ord as ord
use Rattle.std.specs.declared.cmp.PartialEq as partial_eq
use Rattle.std.specs.declared.cmp.PartialOrd as partial_ord
use Rattle.std.specs.Cmp.{IsTotalOrder}
use Rattle.std.specs.Ordering.{is_lt}
use Rattle.crdt_core.specs.declared.map.Map.{Map}
use Rattle.crdt_core.specs.Orders.{Identifies}
use Rattle.crdt_core.specs.Laws.{JoinLaws}
use Rattle.crdt_core.specs.Order.{option_join}
use Rattle.crdt_core.specs.Entries.{is_ascending, merged, entries_from}
use Rattle.crdt_core.specs.EntryLaws.{same_entries, ascending_merged, ascending_from, value_at-merged, value_at-from, merged_comm, merged_assoc, merged_idem}
use Rattle.crdt_core.specs.Map.{map_get, map_of, map_join, map_from}

module _ {K V : Type 0} {o : ord.Ghosts K} {p : partial_eq.Ghosts K} {q : partial_ord.Ghosts K} where
  -- maps with the same entries are one
  same_from : (es fs : List (K × V)) → es ≡ fs → (s : is_ascending o.cmp es ≡ true) (t : is_ascending o.cmp fs ≡ true) → ◌≡◌ {A = Map K V o p q} (record { entries = es; ascending = s }) (record { entries = fs; ascending = t })
  same_from es fs e s t = λ i. record {
    entries = e i;
    ascending = is_prop→PathP (λ k. is_ascending o.cmp (e k) ≡ true) (λ k. Bool-set (is_ascending o.cmp (e k)) true) s t i;
  }

  pub same_map : (a b : Map K V o p q) → a.entries ≡ b.entries → a ≡ b
  same_map a b e = same_from a.entries b.entries e a.ascending b.ascending

  entries_of : (es : List (K × V)) (b : Bool) (h : is_ascending o.cmp es ≡ b) (m : Map K V o p q) → is_ascending o.cmp es ≡ true → (map_of es b h m).entries ≡ es
  entries_of es true h m t = refl
  entries_of es false h m t = let no : true ≡ false = sym t ∙ h in cc

  module _ (total : IsTotalOrder o.cmp) where
    -- the entries of a join are the merged entries
    pub map_join-entries : (j : V → V → V) (a b : Map K V o p q) → (map_join j a b).entries ≡ merged o.cmp j a.entries b.entries
    map_join-entries j a b = entries_of _ _ refl a (ascending_merged total j a.entries b.entries a.ascending b.ascending)

    pub map_laws : Identifies o.cmp → {j : V → V → V} → JoinLaws j → JoinLaws (map_join {o = o} {p = p} {q = q} j)
    map_laws same {j} laws = record {
      commutative = λ a b. same_map _ _ (map_join-entries j a b ∙ (merged_comm total same laws a.entries b.entries b.entries a.ascending b.ascending b.ascending ∙ sym (map_join-entries j b a)));
      associative = λ a b c. same_map _ _ (map_join-entries j (map_join j a b) c ∙ (ap (λ es. merged o.cmp j es c.entries) (map_join-entries j a b)
          ∙ (merged_assoc total same laws a.entries b.entries c.entries a.ascending b.ascending c.ascending
          ∙ (ap (merged o.cmp j a.entries) (sym (map_join-entries j b c)) ∙ sym (map_join-entries j a (map_join j b c))))));
      idempotent = λ a. same_map _ _ (map_join-entries j a a ∙ merged_idem total same laws a.entries a.entries a.entries a.ascending a.ascending a.ascending);
    }

    -- the value of a join at a key is the join of the values there
    pub map_get-join : (j : V → V → V) (a b : Map K V o p q) (k : K) → map_get (map_join j a b) k ≡ option_join j (map_get a k) (map_get b k)
    map_get-join j a b k = rw (map_join-entries j a b) (value_at-merged total j k a.entries b.entries a.ascending b.ascending)

    pub map_from-entries : (k : K) (m : Map K V o p q) → (map_from k m).entries ≡ entries_from o.cmp k m.entries
    map_from-entries k m = entries_of _ _ refl m (ascending_from total k m.entries m.ascending)

    -- a map without smaller keys has no value at those, and its own at each other
    pub map_get-from : (m : Map K V o p q) (k at : K) → map_get (map_from k m) at ≡ cond (is_lt (o.cmp at k)) None (map_get m at)
    map_get-from m k at = rw (map_from-entries k m) (value_at-from total at k m.entries)

    -- maps with the same values at each key are one
    pub map_get-decides : Identifies o.cmp → (a b : Map K V o p q) → ((k : K) → map_get a k ≡ map_get b k) → a ≡ b
    map_get-decides same a b h = same_map a b (same_entries total same a.entries b.entries a.ascending b.ascending h)
