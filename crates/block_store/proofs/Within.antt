-- What a walk over the first moments finds.
use Rattle.std.proofs.Common.{◌≡◌, ◌≤◌, ◌<◌, ℕ, Bool, true, false, cond, List, [], ◌∷◌, Option, Some, None, refl, sym, ap, ◌∙◌, arith, eq-eqb, eqb-true}
use Rattle.std.specs.Prelude.{◌==◌, ◌&&◌, ◌||◌, IsTrue}
use Rattle.std.specs.List.{All, AllByRecursion, filter, list_any}
use Rattle.std.specs.List.Sorted.{IsStrictlySortedBy}
use Rattle.std.specs.Map.{keys_of}
use Rattle.std.specs.Ordering.{nat_cmp, ordering_then, MatchOrdering}
use Rattle.std.specs.Cmp.{ranks, eq_by_cmp_equiv, tied_itself, nat_cmp_total}
use Rattle.std.specs.declared.cmp.Ordering.{Ordering}
use Rattle.std.specs.declared.cmp.Ordering.TheVariants.{Less, Equal, Greater}
use Rattle.std.specs.BTreeMap.{BTreeMap, get, IsOrdered, is_at}
use Rattle.std.specs.BTreeSet.{contains}
use Rattle.std.proofs.lemmas.Map.Entries.{option_filter, lookup-filter-values}
use Rattle.std.proofs.lemmas.Map.Keys.{sorted_head, sorted_tail, IsDistinct-from_sorted}
use Rattle.std.proofs.lemmas.List.Elements.{recursion_from_All}
use Rattle.std.proofs.lemmas.Option.{same_Some}
use Rattle.crdt_core.proofs.Each.{all_weaker}
use Rattle.blake2_hash.specs.declared.digest.Hash32.{Hash32}
use Rattle.blake2_hash.specs.Hash.{hash_cmp, is_hash}
use Rattle.blake2_hash.specs.HashLaws.{hash_total}
use Rattle.block_store.specs.Contents.{Contents, IsInOrder, idle_notes, live_count}
use Rattle.block_store.specs.Moments.{Moments, moment_cmp, idle_since, is_since, is_within, idle_within, AreMoments}
use Rattle.block_store.proofs.ByHash.{turned}
use Rattle.block_store.proofs.SameEntries.{same_entries}
use Rattle.block_store.proofs.Showing.{same_hash}
use Rattle.block_store.proofs.Since.{at_moment}

-- one of these moments is that of this block
abbrev pub has : Hash32 → List (ℕ × Hash32) → Bool
has q ms = list_any (λ t. is_hash q t.1) ms

-- a walk of the moments has these before it, and found what is in the map
pub record Finds (limit : Option ℕ) (c : Contents) (rest : List (ℕ × Hash32)) (found : BTreeMap Hash32 ℕ) : Type 0 where
  pub sorted : IsStrictlySortedBy moment_cmp rest
  pub since : AllByRecursion (λ t. idle_since c t.1 ≡ Some t.0) rest
  pub ordered : IsOrdered hash_cmp found
  pub gives : (q : Hash32) → get hash_cmp found q ≡ cond (has q rest) None (option_filter (is_within limit) (idle_since c q))

-- ---- the start

since_is : (n : ℕ) (o : Option ℕ) → is_since n o ≡ true → o ≡ Some n
since_is n None t = cc
since_is n (Some m) t = ap (λ k. Some k) (eqb-true m n t)

any_weaker : {X : Type 0} (p r : X → Bool) → ((x : X) → p x ≡ true → r x ≡ true) → (xs : List X) → list_any p xs ≡ true → list_any r xs ≡ true
any_weaker p r w [] t = t
any_weaker p r w (x ∷ xs) t =
    elim (p x) as (λ b. p x ≡ b → (b || list_any p xs) ≡ true → (r x || list_any r xs) ≡ true) [
      | true ↦ λ e t. ap (λ b. b || list_any r xs) (w x e)
      | false ↦ λ e t. elim (r x) as (λ b. (b || list_any r xs) ≡ true) [ true ↦ refl | false ↦ any_weaker p r w xs t ]
    ] refl t

and_right : (a b : Bool) → (a && b) ≡ true → b ≡ true
and_right true b t = t
and_right false b t = cc

pub start : (limit : Option ℕ) (c : Contents) (m : Moments) (none : BTreeMap Hash32 ℕ) → ((q : Hash32) → get hash_cmp none q ≡ None) → IsOrdered hash_cmp none →
    IsStrictlySortedBy moment_cmp m.keys → All (λ t. IsTrue (contains moment_cmp m t)) m.keys → AreMoments (Some m) c → Finds limit c m.keys none
start limit c m none empty ordered sorted all are = record {
  sorted = sorted;
  ordered = ordered;
  since = all_weaker (λ t. IsTrue (contains moment_cmp m t)) (λ t. idle_since c t.1 ≡ Some t.0) (λ t there. since_is t.0 (idle_since c t.1) (sym (are t.1 t.0) ∙ there)) m.keys (recursion_from_All (λ t. IsTrue (contains moment_cmp m t)) m.keys all);
  gives = λ q. empty q ∙ sym (elim (has q m.keys) as (λ b. has q m.keys ≡ b → cond b None (option_filter (is_within limit) (idle_since c q)) ≡ None) [
    | true ↦ λ t. refl
    | false ↦ λ t. ap (option_filter (is_within limit)) (elim (idle_since c q) as (λ o. idle_since c q ≡ o → o ≡ None) [
      | None ↦ λ e. refl
      | Some n ↦ λ e.
          let there : contains moment_cmp m (n, q) ≡ true = are q n ∙ ap (is_since n) e ∙ eq-eqb n n refl in
          let here : has q m.keys ≡ true = any_weaker (is_at (moment_cmp (n, q))) (λ t. is_hash q t.1) (λ x y. and_right (n == x.0) (is_hash q x.1) (sym (at_moment n x.0 q x.1) ∙ y)) m.keys there in
          cc
    ] refl)
  ] refl);
}

-- ---- a step

less_both : (r s : Ordering) → r ≡ Equal → s ≡ Equal → ordering_then r s ≡ Less → ⊥
less_both r s e f t = let no : Equal ≡ Less = (λ i. ordering_then (sym e i) (sym f i)) ∙ t in cc

none_later : (c : Contents) (e : ℕ × Hash32) (rest : List (ℕ × Hash32)) → idle_since c e.1 ≡ Some e.0 → AllByRecursion (λ t. moment_cmp e t ≡ Less) rest → AllByRecursion (λ t. idle_since c t.1 ≡ Some t.0) rest → has e.1 rest ≡ false
none_later c e [] here above since = refl
none_later c e (t ∷ ts) here above since =
    elim (is_hash e.1 t.1) as (λ b. is_hash e.1 t.1 ≡ b → (b || has e.1 ts) ≡ false) [
      | true ↦ λ s.
          let hash : e.1 ≡ t.1 = same_hash e.1 t.1 s in
          let number : e.0 ≡ t.0 = same_Some e.0 t.0 (sym here ∙ ap (idle_since c) hash ∙ since.0) in
          let same : moment_cmp e e ≡ Less = ap (moment_cmp e) (λ i. (number i, hash i)) ∙ above.0 in
          absurd (less_both (nat_cmp e.0 e.0) (hash_cmp e.1 e.1) (tied_itself nat_cmp_total e.0) (tied_itself hash_total e.1) same)
      | false ↦ λ s. none_later c e ts here above.1 since.1
    ] refl

pub next : (limit : Option ℕ) (c : Contents) (e : ℕ × Hash32) (rest : List (ℕ × Hash32)) (old new : BTreeMap Hash32 ℕ) → is_within limit e.0 ≡ true →
    ((q : Hash32) → get hash_cmp new q ≡ cond (is_hash e.1 q) (Some e.0) (get hash_cmp old q)) → IsOrdered hash_cmp new → Finds limit c (e ∷ rest) old → Finds limit c rest new
next limit c e rest old new within put ordered f = record {
  sorted = sorted_tail moment_cmp e rest f.sorted;
  since = f.since.1;
  ordered = ordered;
  gives = λ q. put q ∙ ap (λ b. cond b (Some e.0) (get hash_cmp old q)) (turned q e.1)
      ∙ elim (is_hash q e.1) as (λ b. is_hash q e.1 ≡ b → get hash_cmp old q ≡ cond (b || has q rest) None (option_filter (is_within limit) (idle_since c q)) → cond b (Some e.0) (get hash_cmp old q) ≡ cond (has q rest) None (option_filter (is_within limit) (idle_since c q))) [
        | true ↦ λ t o.
            let same : q ≡ e.1 = same_hash q e.1 t in
            let none : has q rest ≡ false = ap (λ h. has h rest) same ∙ none_later c e rest f.since.0 (sorted_head moment_cmp e rest f.sorted) f.since.1 in
            let is : idle_since c q ≡ Some e.0 = ap (idle_since c) same ∙ f.since.0 in
            sym
            (ap (λ b. cond b None (option_filter (is_within limit) (idle_since c q))) none
            ∙ ap (option_filter (is_within limit)) is
            ∙ ap (λ b. cond b (Some e.0) None) within)
        | false ↦ λ t o. o
      ] refl (f.gives q);
}

-- ---- the end

no_less : (n m : ℕ) (s : Ordering) → ordering_then (nat_cmp n m) s ≡ Less → n ≤ m
no_less n m s t =
    elim (nat_cmp n m) as (λ r. MatchOrdering r (n < m) (n ≡ m) (m < n) → ordering_then r s ≡ Less → n ≤ m) [
      | Less ↦ λ o u. omega (arith, o)
      | Equal ↦ λ o u. omega (arith, o)
      | Greater ↦ λ o u. cc
    ] (ranks n m) t

above_limit : (limit : Option ℕ) (n m : ℕ) → n ≤ m → is_within limit n ≡ false → is_within limit m ≡ false
above_limit None n m o t = t
above_limit (Some limit) n m o t = grind (arith, o, t)

beyond : (limit : Option ℕ) (c : Contents) (q : Hash32) (rest : List (ℕ × Hash32)) → AllByRecursion (λ t. is_within limit t.0 ≡ false) rest → AllByRecursion (λ t. idle_since c t.1 ≡ Some t.0) rest → has q rest ≡ true →
    option_filter (is_within limit) (idle_since c q) ≡ None
beyond limit c q [] past since t = cc
beyond limit c q (e ∷ es) past since t =
    elim (is_hash q e.1) as (λ b. is_hash q e.1 ≡ b → (b || has q es) ≡ true → option_filter (is_within limit) (idle_since c q) ≡ None) [
      | true ↦ λ s u.
          let is : idle_since c q ≡ Some e.0 = ap (idle_since c) (same_hash q e.1 s) ∙ since.0 in
          ap (option_filter (is_within limit)) is ∙ ap (λ b. cond b (Some e.0) None) past.0
      | false ↦ λ s u. beyond limit c q es past.1 since.1 u
    ] refl t

all_past : (limit : Option ℕ) (e : ℕ × Hash32) (rest : List (ℕ × Hash32)) → is_within limit e.0 ≡ false → AllByRecursion (λ t. moment_cmp e t ≡ Less) rest → AllByRecursion (λ t. is_within limit t.0 ≡ false) rest
all_past limit e [] past above = tt
all_past limit e (t ∷ ts) past above = (above_limit limit e.0 t.0 (no_less e.0 t.0 (hash_cmp e.1 t.1) above.0) past, all_past limit e ts past above.1)

-- what the map has then: the moments within the limit
abbrev AreWithin : Option ℕ → Contents → BTreeMap Hash32 ℕ → Type 0
AreWithin limit c found = (q : Hash32) → get hash_cmp found q ≡ option_filter (is_within limit) (idle_since c q)

cut : (limit : Option ℕ) (c : Contents) (e : ℕ × Hash32) (rest : List (ℕ × Hash32)) (found : BTreeMap Hash32 ℕ) → is_within limit e.0 ≡ false → Finds limit c (e ∷ rest) found → AreWithin limit c found
cut limit c e rest found past f q =
    let pasts : AllByRecursion (λ t. is_within limit t.0 ≡ false) (e ∷ rest) = (past, all_past limit e rest past (sorted_head moment_cmp e rest f.sorted)) in
    f.gives q
    ∙ elim (has q (e ∷ rest)) as (λ b. has q (e ∷ rest) ≡ b → cond b None (option_filter (is_within limit) (idle_since c q)) ≡ option_filter (is_within limit) (idle_since c q)) [
      | true ↦ λ t. sym (beyond limit c q (e ∷ rest) pasts f.since t)
      | false ↦ λ t. refl
    ] refl

-- ---- as a list

above_kept : (h : Hash32) (p : Hash32 × ℕ → Bool) (es : List (Hash32 × ℕ)) → AllByRecursion (λ k. hash_cmp h k ≡ Less) (keys_of es) → AllByRecursion (λ k. hash_cmp h k ≡ Less) (keys_of (filter p es))
above_kept h p [] a = tt
above_kept h p (e ∷ es) a =
    elim (p e) as (λ b. AllByRecursion (λ k. hash_cmp h k ≡ Less) (keys_of (cond b (e ∷ filter p es) (filter p es)))) [ true ↦ (a.0, above_kept h p es a.1) | false ↦ above_kept h p es a.1 ]

sorted_kept : (p : Hash32 × ℕ → Bool) (es : List (Hash32 × ℕ)) → IsStrictlySortedBy hash_cmp (keys_of es) → IsStrictlySortedBy hash_cmp (keys_of (filter p es))
unfolding IsStrictlySortedBy
sorted_kept p [] s = tt
sorted_kept p (e ∷ es) s =
    elim (p e) as (λ b. IsStrictlySortedBy hash_cmp (keys_of (cond b (e ∷ filter p es) (filter p es)))) [ true ↦ (above_kept e.0 p es s.0, sorted_kept p es s.1) | false ↦ sorted_kept p es s.1 ]

pub idle_in_order : (c : Contents) → IsInOrder c → IsStrictlySortedBy hash_cmp (keys_of (idle_notes c))
idle_in_order c o = sorted_kept (λ n. live_count c n.0 == 0) c.notes o.notes

listed : (limit : Option ℕ) (c : Contents) (found : BTreeMap Hash32 ℕ) → IsInOrder c → IsOrdered hash_cmp found → AreWithin limit c found → found.entries ≡ idle_within limit c
listed limit c found order ordered are =
    let sorted = idle_in_order c order in
    same_entries found.entries (idle_within limit c) ordered (sorted_kept (λ n. is_within limit n.1) (idle_notes c) sorted)
    (λ q. are q ∙ sym (lookup-filter-values (eq_by_cmp_equiv hash_total) (is_within limit) q (idle_notes c) (IsDistinct-from_sorted hash_cmp (keys_of (idle_notes c)) sorted)))

-- at the first moment past the limit
pub listed_so_far : (limit : Option ℕ) (c : Contents) (e : ℕ × Hash32) (rest : List (ℕ × Hash32)) (found : BTreeMap Hash32 ℕ) → is_within limit e.0 ≡ false → IsInOrder c → Finds limit c (e ∷ rest) found → found.entries ≡ idle_within limit c
listed_so_far limit c e rest found past order f = listed limit c found order f.ordered (cut limit c e rest found past f)

-- after the last
pub listed_whole : (limit : Option ℕ) (c : Contents) (found : BTreeMap Hash32 ℕ) → IsInOrder c → Finds limit c [] found → found.entries ≡ idle_within limit c
listed_whole limit c found order f = listed limit c found order f.ordered f.gives

pub all_within : (es : List (Hash32 × ℕ)) → filter (λ n. is_within None n.1) es ≡ es
all_within [] = refl
all_within (e ∷ es) = ap (λ t. e ∷ t) (all_within es)
