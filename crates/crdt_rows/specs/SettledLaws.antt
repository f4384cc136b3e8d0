-- Laws that impls cite; no definition stands here.
-- The join of settled maps has the laws of a join.
use Rattle.std.specs.Prelude.{◌≡◌, Bool, true, false, cond, ◌||◌, Option, Some, None, refl}
use Rattle.std.proofs.Common.{ap, sym, ◌∙◌}
use mathlib.Core.Bool.{Bool-set}
use mathlib.Core.HLevel.{is_prop→PathP}
use Rattle.std.specs.declared.cmp.Ord as ord
use Rattle.std.specs.declared.cmp.PartialEq as partial_eq
use Rattle.std.specs.declared.cmp.PartialOrd as partial_ord
use Rattle.std.specs.Cmp.{IsTotalOrder}
use Rattle.crdt_core.specs.declared.map.Map.{Map}
use Rattle.crdt_core.specs.Orders.{Identifies}
use Rattle.crdt_core.specs.Laws.{JoinLaws}
use Rattle.crdt_core.specs.Order.{option_join}
use Rattle.crdt_core.specs.OrderLaws.{option_laws}
use Rattle.crdt_core.specs.Map.{map_entries, map_get, map_join}
use Rattle.crdt_core.specs.MapLaws.{map_join-entries, map_from-entries, map_get-join, map_get-from, map_get-decides}
use Rattle.crdt_rows.specs.Newest.{later, is_older, kept, newest_of, is_settled}
use Rattle.crdt_rows.specs.NewestLaws.{older_later, settled_none, newest_kept, settled_kept, newest_merged}
use Rattle.crdt_rows.specs.Each.{passes}
use Rattle.crdt_rows.specs.EachLaws.{kept_passes, merged_passes}
use Rattle.crdt_rows.specs.Settled.{Settled, kept_map, newest_in, joined_map, settled_of, settled_join}

module _ {V : Type 0} {j : V → V → V} (laws : JoinLaws j) where
  -- the laws at one key, of which A, B and C say that it is older than the newest final keys
  comm_at : (A B : Bool) (x y : Option V) → cond (A || B) None (option_join j x y) ≡ cond (B || A) None (option_join j y x)
  comm_at true true x y = refl
  comm_at true false x y = refl
  comm_at false true x y = refl
  comm_at false false x y = (option_laws laws).commutative x y

  assoc_at : (A B C : Bool) (x y z : Option V) → cond ((A || B) || C) None (option_join j (cond (A || B) None (option_join j x y)) z) ≡ cond (A || (B || C)) None (option_join j x (cond (B || C) None (option_join j y z)))
  assoc_at true B C x y z = refl
  assoc_at false true C x y z = refl
  assoc_at false false true x y z = refl
  assoc_at false false false x y z = (option_laws laws).associative x y z

  idem_at : (A : Bool) (x : Option V) → (A ≡ true → x ≡ None) → cond (A || A) None (option_join j x x) ≡ x
  idem_at true x h = sym (h refl)
  idem_at false x h = (option_laws laws).idempotent x

module _ {K V : Type 0} {o : ord.Ghosts K} {p : partial_eq.Ghosts K} {q : partial_ord.Ghosts K} where
  pub kept_map-entries : IsTotalOrder o.cmp → (n : Option K) (m : Map K V o p q) → map_entries (kept_map n m) ≡ kept o.cmp n (map_entries m)
  kept_map-entries total None m = refl
  kept_map-entries total (Some k) m = map_from-entries total k m

  map_get-kept : IsTotalOrder o.cmp → (n : Option K) (m : Map K V o p q) (k : K) → map_get (kept_map n m) k ≡ cond (is_older o.cmp k n) None (map_get m k)
  map_get-kept total None m k = refl
  map_get-kept total (Some n) m k = map_get-from total m n k

  module _ (final fits : V → Bool) where
    same_from : (m n : Map K V o p q) → m ≡ n → (s : is_settled o.cmp final (map_entries m) ≡ true) (t : is_settled o.cmp final (map_entries n) ≡ true) (f : passes fits (map_entries m) ≡ true) (g : passes fits (map_entries n) ≡ true) → ◌≡◌ {A = Settled o p q final fits} (record { map = m; settled = s; fit = f }) (record { map = n; settled = t; fit = g })
    same_from m n e s t f g = λ i. record {
      map = e i;
      settled = is_prop→PathP (λ k. is_settled o.cmp final (map_entries (e k)) ≡ true) (λ k. Bool-set (is_settled o.cmp final (map_entries (e k))) true) s t i;
      fit = is_prop→PathP (λ k. passes fits (map_entries (e k)) ≡ true) (λ k. Bool-set (passes fits (map_entries (e k))) true) f g i;
    }

    -- two with the same map are one
    pub same_settled : (a b : Settled o p q final fits) → a.map ≡ b.map → a ≡ b
    same_settled a b e = same_from a.map b.map e a.settled b.settled a.fit b.fit

    map_of-settled : (m : Map K V o p q) (s t : Bool) (h : is_settled o.cmp final (map_entries m) ≡ s) (g : passes fits (map_entries m) ≡ t) (other : Settled o p q final fits) → is_settled o.cmp final (map_entries m) ≡ true → passes fits (map_entries m) ≡ true → (settled_of final fits m s t h g other).map ≡ m
    map_of-settled m true true h g other s f = refl
    map_of-settled m true false h g other s f = let no : true ≡ false = sym f ∙ g in cc
    map_of-settled m false t h g other s f = let no : true ≡ false = sym s ∙ h in cc

    module _ (total : IsTotalOrder o.cmp) (same : Identifies o.cmp) (j : V → V → V) (either : (a b : V) → final (j a b) ≡ (final a || final b)) (closed : (a b : V) → fits a ≡ true → fits b ≡ true → fits (j a b) ≡ true) where
      newest_both : (a b : Map K V o p q) → newest_in final fits (map_join j a b) ≡ later o.cmp (newest_in final fits a) (newest_in final fits b)
      newest_both a b = ap (newest_of o.cmp final) (map_join-entries total j a b) ∙ newest_merged total final same j either (map_entries a) (map_entries b)

      joined_entries : (a b : Map K V o p q) → map_entries (joined_map final fits j a b) ≡ kept o.cmp (newest_in final fits (map_join j a b)) (map_entries (map_join j a b))
      joined_entries a b =
          kept_map-entries total (later o.cmp (newest_in final fits a) (newest_in final fits b)) (map_join j a b)
          ∙ ap (λ n. kept o.cmp n (map_entries (map_join j a b))) (sym (newest_both a b))

      pub joined_settled : (a b : Map K V o p q) → is_settled o.cmp final (map_entries (joined_map final fits j a b)) ≡ true
      joined_settled a b = ap (is_settled o.cmp final) (joined_entries a b) ∙ settled_kept total final (map_entries (map_join j a b)) (map_join j a b).ascending

      pub joined_fit : (a b : Map K V o p q) → passes fits (map_entries a) ≡ true → passes fits (map_entries b) ≡ true → passes fits (map_entries (joined_map final fits j a b)) ≡ true
      joined_fit a b f g =
          ap (passes fits) (kept_map-entries total (later o.cmp (newest_in final fits a) (newest_in final fits b)) (map_join j a b))
          ∙ kept_passes o.cmp fits (later o.cmp (newest_in final fits a) (newest_in final fits b)) (map_entries (map_join j a b))
          (ap (passes fits) (map_join-entries total j a b) ∙ merged_passes o.cmp fits j closed (map_entries a) (map_entries b) f g)

      -- the map of a join is the joined map
      pub settled_join-map : (a b : Settled o p q final fits) → (settled_join final fits j a b).map ≡ joined_map final fits j a.map b.map
      settled_join-map a b = map_of-settled (joined_map final fits j a.map b.map) _ _ refl refl a (joined_settled a.map b.map) (joined_fit a.map b.map a.fit b.fit)

      -- the newest final key of a join is the later of theirs
      pub newest_joined : (a b : Settled o p q final fits) → newest_in final fits (settled_join final fits j a b).map ≡ later o.cmp (newest_in final fits a.map) (newest_in final fits b.map)
      newest_joined a b =
          ap (newest_in final fits) (settled_join-map a b)
          ∙ (ap (newest_of o.cmp final) (joined_entries a.map b.map)
          ∙ (newest_kept total final (map_entries (map_join j a.map b.map)) (map_join j a.map b.map).ascending ∙ newest_both a.map b.map))

      -- a join has at each key the join of the values there, unless the key is older than the newest final one
      pub map_get-settled : (a b : Settled o p q final fits) (k : K) → map_get (settled_join final fits j a b).map k ≡ cond (is_older o.cmp k (newest_in final fits a.map) || is_older o.cmp k (newest_in final fits b.map)) None (option_join j (map_get a.map k) (map_get b.map k))
      map_get-settled a b k =
          ap (λ m. map_get m k) (settled_join-map a b)
          ∙ (map_get-kept total (later o.cmp (newest_in final fits a.map) (newest_in final fits b.map)) (map_join j a.map b.map) k
          ∙ (λ i. cond (older_later total k (newest_in final fits a.map) (newest_in final fits b.map) i) None (map_get-join total j a.map b.map k i)))

      ext : (a b : Settled o p q final fits) → ((k : K) → map_get a.map k ≡ map_get b.map k) → a ≡ b
      ext a b h = same_settled a b (map_get-decides total same a.map b.map h)

      module _ (laws : JoinLaws j) where
        older_joined : (a b : Settled o p q final fits) (k : K) → is_older o.cmp k (newest_in final fits (settled_join final fits j a b).map) ≡ (is_older o.cmp k (newest_in final fits a.map) || is_older o.cmp k (newest_in final fits b.map))
        older_joined a b k = ap (is_older o.cmp k) (newest_joined a b) ∙ older_later total k (newest_in final fits a.map) (newest_in final fits b.map)

        pub settled_laws : JoinLaws (settled_join {o = o} {p = p} {q = q} final fits j)
        settled_laws = record {
          commutative = λ a b. ext _ _ (λ k. map_get-settled a b k ∙ (comm_at laws (is_older o.cmp k (newest_in final fits a.map)) (is_older o.cmp k (newest_in final fits b.map)) (map_get a.map k) (map_get b.map k) ∙ sym (map_get-settled b a k)));
          associative = λ a b c. ext _ _ (λ k.
              map_get-settled (settled_join final fits j a b) c k
              ∙ ((λ i. cond (older_joined a b k i || is_older o.cmp k (newest_in final fits c.map)) None (option_join j (map_get-settled a b k i) (map_get c.map k)))
              ∙ (assoc_at laws (is_older o.cmp k (newest_in final fits a.map)) (is_older o.cmp k (newest_in final fits b.map)) (is_older o.cmp k (newest_in final fits c.map)) (map_get a.map k) (map_get b.map k) (map_get c.map k)
              ∙ (sym (λ i. cond (is_older o.cmp k (newest_in final fits a.map) || older_joined b c k i) None (option_join j (map_get a.map k) (map_get-settled b c k i)))
              ∙ sym (map_get-settled a (settled_join final fits j b c) k)))));
          idempotent = λ a. ext _ _ (λ k. map_get-settled a a k ∙ idem_at laws (is_older o.cmp k (newest_in final fits a.map)) (map_get a.map k) (settled_none total final k (map_entries a.map) a.settled));
        }
