-- Entries that are all older than a key, and what merging them in leaves from that key on.
use Rattle.std.proofs.Common.{◌≡◌, ◌&&◌, ◌-◌, Bool, true, false, cond, List, [], ◌∷◌, length, Option, Some, None, unwrap_or, slice_get, Ordering, refl, ap, sym, subst, ◌∙◌, arith}
use Rattle.std.specs.List.{list_all}
use Rattle.std.specs.Ordering.{is_lt}
use Rattle.std.specs.Cmp.{IsTotalOrder}
use Rattle.std.specs.declared.cmp.Ord as ord
use Rattle.std.specs.declared.cmp.PartialEq as partial_eq
use Rattle.std.specs.declared.cmp.PartialOrd as partial_ord
use Rattle.crdt_core.specs.declared.map.Map.{Map}
use Rattle.crdt_core.specs.Orders.{Identifies}
use Rattle.crdt_core.specs.Order.{option_join}
use Rattle.crdt_core.specs.OrderLaws.{option_join-none}
use Rattle.crdt_core.specs.Entries.{is_below, is_ascending, value_at, entries_from}
use Rattle.crdt_core.specs.EntryLaws.{and_parts, less_is, value_at-from}
use Rattle.crdt_core.specs.Map.{map_entries, map_get, map_join, map_from}
use Rattle.crdt_core.specs.MapLaws.{map_get-join, map_get-from, map_get-decides}

and_true : (a : Bool) → a ≡ (a && true)
and_true true = refl
and_true false = refl

and_implied : (a b : Bool) → (b ≡ true → a ≡ true) → b ≡ (a && b)
and_implied a true h = rw (h refl) refl
and_implied true false h = refl
and_implied false false h = refl

module _ {K V : Type 0} {R : K → K → Ordering} (o : IsTotalOrder R) (n : K) where
  last_at : (e : K × V) (es : List (K × V)) (x : K × V) → is_ascending R (e ∷ es) ≡ true → Some x ≡ slice_get (e ∷ es) (length es) → is_lt (R x.0 n) ≡ list_all (λ f. is_lt (R f.0 n)) (e ∷ es)
  last_at e [] x s g = ap (λ f. is_lt (R (unwrap_or f e).0 n)) g ∙ and_true (is_lt (R e.0 n))
  last_at e (f ∷ fs) x s g =
      let parts = and_parts (is_below R e.0 (f ∷ fs)) (is_ascending R (f ∷ fs)) s in
      let rest = list_all (λ g. is_lt (R g.0 n)) fs in
      last_at f fs x parts.1 g
      ∙ and_implied (is_lt (R e.0 n)) (is_lt (R f.0 n) && rest) (λ h. ap is_lt (o.trans e.0 f.0 n (less_is (R e.0 f.0) parts.0) (less_is (R f.0 n) (and_parts (is_lt (R f.0 n)) rest h).0)))

  -- all are older where the last one is
  pub last_older : (es : List (K × V)) (x : K × V) → is_ascending R es ≡ true → Some x ≡ slice_get es (length es - 1) → is_lt (R x.0 n) ≡ list_all (λ f. is_lt (R f.0 n)) es
  last_older [] x s g = let no : Some x ≡ None = g in cc
  last_older (e ∷ es) x s g =
      let last : length (e ∷ es) - 1 ≡ length es = omega arith in
      last_at e es x s (subst (λ i. Some x ≡ slice_get (e ∷ es) i) last g)

  nothing_from : (es : List (K × V)) → list_all (λ f. is_lt (R f.0 n)) es ≡ true → entries_from R n es ≡ []
  nothing_from [] h = refl
  nothing_from (e ∷ es) h =
      let parts = and_parts (is_lt (R e.0 n)) (list_all (λ f. is_lt (R f.0 n)) es) h in
      rw (parts.0) (nothing_from es parts.1)

  nothing_at : (k : K) (es : List (K × V)) → list_all (λ f. is_lt (R f.0 n)) es ≡ true → None ≡ cond (is_lt (R k n)) None (value_at R k es)
  nothing_at k es h = sym (ap (value_at R k) (nothing_from es h)) ∙ value_at-from o k n es

same_at : {V : Type 0} (j : V → V → V) (b : Bool) (x y : Option V) → None ≡ cond b None y → cond b None (option_join j x y) ≡ cond b None x
same_at j true x y h = refl
same_at j false x y h = ap (option_join j x) (sym h) ∙ option_join-none j x

module _ {K V : Type 0} {o : ord.Ghosts K} {p : partial_eq.Ghosts K} {q : partial_ord.Ghosts K} (total : IsTotalOrder o.cmp) (same : Identifies o.cmp) where
  -- from a key on, a map stays as it was where only older entries are merged in
  pub older_merged : (j : V → V → V) (n : K) (a b : Map K V o p q) → list_all (λ f. is_lt (o.cmp f.0 n)) (map_entries b) ≡ true → map_from n a ≡ map_from n (map_join j a b)
  older_merged j n a b h = map_get-decides total same (map_from n a) (map_from n (map_join j a b)) (λ k.
      map_get-from total a n k
      ∙ (sym (same_at j (is_lt (o.cmp k n)) (map_get a k) (map_get b k) (nothing_at total n k (map_entries b) h))
      ∙ (ap (cond (is_lt (o.cmp k n)) None) (sym (map_get-join total j a b k))
      ∙ sym (map_get-from total (map_join j a b) n k))))
