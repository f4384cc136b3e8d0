-- Entries of merged maps: what each of them keeps, how many there are, and what they count.
use Rattle.std.specs.Prelude.{◌≡◌, ◌≤◌, ◌<◌, ◌+◌, ℕ, suc, Bool, true, false, List, [], ◌∷◌, length, refl}
use Rattle.std.specs.List.{AllByRecursion}
use Rattle.std.specs.declared.cmp.Ordering.{Ordering}
use Rattle.std.specs.declared.cmp.Ordering.TheVariants.{Less, Equal, Greater}
use Rattle.std.specs.declared.cmp.Ord as ord
use Rattle.std.specs.declared.cmp.PartialEq as partial_eq
use Rattle.std.specs.declared.cmp.PartialOrd as partial_ord
use Rattle.std.specs.Ordering.{nat_cmp}
use Rattle.std.proofs.Common.{sym, arith}
use Rattle.std.proofs.lemmas.Cmp.{ranked}
use Rattle.crdt_core.specs.Entries.{is_below, is_ascending, merged, entries_from}
use Rattle.crdt_core.specs.EntryLaws.{and_parts, less_is}
use Rattle.crdt_core.specs.Lex.{by_order}
use Rattle.crdt_core.specs.Map.{map_entries, map_of, map_join, map_from}
use Rattle.crdt_core.specs.declared.map.Map.{Map}
use Rattle.machine_origins.proofs.Lists.{all_filter}
use Rattle.machine_limits.proofs.Totals.{total, total_filter}

module _ {K V : Type 0} (R : K → K → Ordering) (j : V → V → V) where
  -- a property of keys and one of values that joins hand on: each merged entry has both
  module _ (P : K → Type 0) (Q : V → Type 0) (joins : (a b : V) → Q a → Q b → Q (j a b)) where
    abbrev Each : List (K × V) → Type 0
    Each es = AllByRecursion (λ (e : K × V). P e.0 × Q e.1) es

    each_by : (x y : K × V) (xs ys : List (K × V)) (o : Ordering) → P x.0 × Q x.1 → P y.0 × Q y.1 → Each (merged R j xs (y ∷ ys)) → Each (merged R j xs ys) → Each (merged R j (x ∷ xs) ys) →
        Each (by_order o (x ∷ merged R j xs (y ∷ ys)) ((x.0, j x.1 y.1) ∷ merged R j xs ys) (y ∷ merged R j (x ∷ xs) ys))
    each_by x y xs ys Less p q a b c = (p, a)
    each_by x y xs ys Equal p q a b c = ((p.0, joins x.1 y.1 p.1 q.1), b)
    each_by x y xs ys Greater p q a b c = (q, c)

    pub merged_each : (xs ys : List (K × V)) → Each xs → Each ys → Each (merged R j xs ys)
    merged_each [] ys a b = b
    merged_each (x ∷ xs) [] a b = a
    merged_each (x ∷ xs) (y ∷ ys) a b = each_by x y xs ys (R x.0 y.0) a.0 b.0 (merged_each xs (y ∷ ys) a.1 b) (merged_each xs ys a.1 b.1) (merged_each (x ∷ xs) ys a b.1)

  -- joins count no more than both, and so do merged entries
  module _ (count : V → ℕ) (joins : (a b : V) → count (j a b) ≤ count a + count b) where
    abbrev sum : List (K × V) → ℕ
    sum es = total (λ (e : K × V). count e.1) es

    sum_by_order : (x y : K × V) (xs ys : List (K × V)) (o : Ordering) → sum (merged R j xs (y ∷ ys)) ≤ sum xs + sum (y ∷ ys) → sum (merged R j xs ys) ≤ sum xs + sum ys → sum (merged R j (x ∷ xs) ys) ≤ sum (x ∷ xs) + sum ys →
        sum (by_order o (x ∷ merged R j xs (y ∷ ys)) ((x.0, j x.1 y.1) ∷ merged R j xs ys) (y ∷ merged R j (x ∷ xs) ys)) ≤ sum (x ∷ xs) + sum (y ∷ ys)
    sum_by_order x y xs ys Less a b c = omega arith
    sum_by_order x y xs ys Equal a b c = let d = joins x.1 y.1 in omega arith
    sum_by_order x y xs ys Greater a b c = omega arith

    pub merged_sum : (xs ys : List (K × V)) → sum (merged R j xs ys) ≤ sum xs + sum ys
    merged_sum [] ys = omega arith
    merged_sum (x ∷ xs) [] = omega arith
    merged_sum (x ∷ xs) (y ∷ ys) = sum_by_order x y xs ys (R x.0 y.0) (merged_sum xs (y ∷ ys)) (merged_sum xs ys) (merged_sum (x ∷ xs) ys)

-- ---- maps

module _ {K V : Type 0} {o : ord.Ghosts K} {p : partial_eq.Ghosts K} {q : partial_ord.Ghosts K} where
  -- what holds of the entries of both holds of those of the map
  map_keeps : (C : List (K × V) → Type 0) (es : List (K × V)) (b : Bool) (h : is_ascending o.cmp es ≡ b) (m : Map K V o p q) → C es → C (map_entries m) → C (map_entries (map_of es b h m))
  map_keeps C es true h m a c = a
  map_keeps C es false h m a c = c

  -- each entry of a joined map keeps what those of both have
  pub join_each : (j : V → V → V) (P : K → Type 0) (Q : V → Type 0) → ((a b : V) → Q a → Q b → Q (j a b)) → (a b : Map K V o p q) →
      AllByRecursion (λ (e : K × V). P e.0 × Q e.1) (map_entries a) → AllByRecursion (λ (e : K × V). P e.0 × Q e.1) (map_entries b) → AllByRecursion (λ (e : K × V). P e.0 × Q e.1) (map_entries (map_join j a b))
  join_each j P Q joins a b x y =
      map_keeps (λ es. AllByRecursion (λ (e : K × V). P e.0 × Q e.1) es) (merged o.cmp j (map_entries a) (map_entries b)) (is_ascending o.cmp (merged o.cmp j (map_entries a) (map_entries b))) refl a
      (merged_each o.cmp j P Q joins (map_entries a) (map_entries b) x y) x

  -- and they count no more than both
  pub join_sum : (j : V → V → V) (count : V → ℕ) → ((a b : V) → count (j a b) ≤ count a + count b) → (a b : Map K V o p q) →
      total (λ (e : K × V). count e.1) (map_entries (map_join j a b)) ≤ total (λ (e : K × V). count e.1) (map_entries a) + total (λ (e : K × V). count e.1) (map_entries b)
  join_sum j count joins a b =
      map_keeps (λ es. total (λ (e : K × V). count e.1) es ≤ total (λ (e : K × V). count e.1) (map_entries a) + total (λ (e : K × V). count e.1) (map_entries b)) (merged o.cmp j (map_entries a) (map_entries b)) (is_ascending o.cmp (merged o.cmp j (map_entries a) (map_entries b))) refl a
      (merged_sum o.cmp j count joins (map_entries a) (map_entries b)) (omega arith)

  -- the entries from a key on are some of them
  pub from_each : (P : K × V → Type 0) (k : K) (m : Map K V o p q) → AllByRecursion P (map_entries m) → AllByRecursion P (map_entries (map_from k m))
  from_each P k m a = map_keeps (λ es. AllByRecursion P es) (entries_from o.cmp k (map_entries m)) (is_ascending o.cmp (entries_from o.cmp k (map_entries m))) refl m (all_filter P _ (map_entries m) a) a

  pub from_sum : (f : K × V → ℕ) (k : K) (m : Map K V o p q) → total f (map_entries (map_from k m)) ≤ total f (map_entries m)
  from_sum f k m = map_keeps (λ es. total f es ≤ total f (map_entries m)) (entries_from o.cmp k (map_entries m)) (is_ascending o.cmp (entries_from o.cmp k (map_entries m))) refl m (total_filter f _ (map_entries m)) (omega arith)

-- ---- how many there are

module _ {V : Type 0} (top : ℕ) where
  -- keys that ascend and are at most so great are few
  few_after : (e : ℕ × V) (es : List (ℕ × V)) → is_ascending nat_cmp (e ∷ es) ≡ true → AllByRecursion (λ (e : ℕ × V). e.0 ≤ top) (e ∷ es) → length (e ∷ es) + e.0 ≤ suc top
  few_after e [] s a = let low = a.0 in omega arith
  few_after e (f ∷ es) s a =
      let parts = and_parts (is_below nat_cmp e.0 (f ∷ es)) (is_ascending nat_cmp (f ∷ es)) s in
      let below : e.0 < f.0 = ranked e.0 f.0 Less (sym (less_is (nat_cmp e.0 f.0) parts.0)) in
      let rest = few_after f es parts.1 a.1 in
      omega (arith, below, rest)

  pub few_keys : (es : List (ℕ × V)) → is_ascending nat_cmp es ≡ true → AllByRecursion (λ (e : ℕ × V). e.0 ≤ top) es → length es ≤ suc top
  few_keys [] s a = omega arith
  few_keys (e ∷ es) s a = let h = few_after e es s a in omega (arith, h)
