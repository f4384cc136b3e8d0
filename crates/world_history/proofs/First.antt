-- The first of the places that the numbers below one have, and of the reads that aren't fresh.
use Rattle.std.proofs.Common.{◌≡◌, ℕ, zero, suc, ◌+◌, ◌<◌, ◌≤◌, Bool, true, false, List, Option, Some, None, is_some, not, IsNone, IsTrue, ◌↔◌, ◌⊎◌, inl, inr, nat_lt, length, refl, sym, subst, ◌∙◌, arith, below_more}
use Rattle.std.proofs.lemmas.Bool.{ltb-true, ltb-false}
use Rattle.history_model.specs.declared.record.Record.{Record}
use Rattle.history_model.specs.Fresh.{Fresh}
use Rattle.world_history.specs.Checks.{stale_at, earlier_of, IsFirstBelow}
use Rattle.stale_model.specs.Stale.{IsFirstStale}
use Rattle.world_history.proofs.Decided.{stale_there, stale_found, stale_within, none_stale, no_stale}

abbrev Place : Type 0
Place = ℕ × ℕ

first_is : (p : ℕ → Option Place) (n : ℕ) (a : Place) → (k : ℕ) × (k < n) × (p k ≡ Some a) → ((k : ℕ) → k < n → (b : Place) → p k ≡ Some b → a.0 ≤ b.0) → IsFirstBelow p n (Some a)
first_is p n a (k, lt, at) least = record {
  none = λ e. let no : ◌≡◌ {A = Option Place} (Some a) None = e in cc;
  some = λ b e. (k, lt, at ∙ e);
  least = λ b e m c less there. let same : a ≡ b = cc in subst (λ x. x.0 ≤ c.0) same (least m less c there);
}

first_not : (p : ℕ → Option Place) (n : ℕ) → ((k : ℕ) → k < n → p k ≡ None) → IsFirstBelow p n None
first_not p n none = record {
  none = λ e. none;
  some = λ a e. let no : ◌≡◌ {A = Option Place} None (Some a) = e in cc;
  least = λ a e k b lt at. let no : ◌≡◌ {A = Option Place} None (Some a) = e in cc;
}

pub first_none : (p : ℕ → Option Place) → IsFirstBelow p 0 None
first_none p = first_not p 0 (λ k lt. absurd (omega arith))

-- one more
pub first_more : (p : ℕ → Option Place) (n : ℕ) (r : Option Place) → IsFirstBelow p n r → IsFirstBelow p (n + 1) (earlier_of r (p n))
first_more p n r old = step r (p n) refl old
  where
    last : n < n + 1
    last = omega arith

    more : (k : ℕ) → k < n → k < n + 1
    more k lt = omega arith

    itself : (b c : Place) → p n ≡ Some b → p n ≡ Some c → b.0 ≤ c.0
    itself b c e at = let same : b ≡ c = cc in subst (λ x. b.0 ≤ x.0) same (omega arith)

    step : (r o : Option Place) → p n ≡ o → IsFirstBelow p n r → IsFirstBelow p (n + 1) (earlier_of r o)
    step None None e old = first_not p (n + 1) (below_more (λ k. p k ≡ None) n (old.none refl) e)
    step None (Some b) e old =
        first_is p (n + 1) b (n, last, e)
        (below_more (λ k. (c : Place) → p k ≡ Some c → b.0 ≤ c.0) n
        (λ k lt c at. let none = old.none refl k lt in let no : ◌≡◌ {A = Option Place} None (Some c) = sym none ∙ at in cc)
        (λ c at. itself b c e at))
    step (Some a) None e old =
        first_is p (n + 1) a (let there = old.some a refl in (there.0, more there.0 there.1, there.2))
        (below_more (λ k. (c : Place) → p k ≡ Some c → a.0 ≤ c.0) n
        (λ k lt c at. old.least a refl k c lt at)
        (λ c at. let no : ◌≡◌ {A = Option Place} None (Some c) = sym e ∙ at in cc))
    step (Some a) (Some b) e old = by_case (nat_lt b.0 a.0) refl
      where
        by_case : (t : Bool) → nat_lt b.0 a.0 ≡ t → IsFirstBelow p (n + 1) (earlier_of (Some a) (Some b))
        by_case true t =
            let before = ltb-true b.0 a.0 t in
            rw t (first_is p (n + 1) b (n, last, e)
            (below_more (λ k. (c : Place) → p k ≡ Some c → b.0 ≤ c.0) n
            (λ k lt c at. let least = old.least a refl k c lt at in omega arith)
            (λ c at. itself b c e at)))
        by_case false t =
            let behind = ltb-false b.0 a.0 t in
            rw t (first_is p (n + 1) a (let there = old.some a refl in (there.0, more there.0 there.1, there.2))
            (below_more (λ k. (c : Place) → p k ≡ Some c → a.0 ≤ c.0) n
            (λ k lt c at. old.least a refl k c lt at)
            (λ c at. let least = itself b c e at in omega arith)))

-- some is the first, or there is none
first_below : (p : ℕ → Option Place) (n : ℕ) → (r : Option Place) × IsFirstBelow p n r
first_below p zero = (None, first_none p)
first_below p (suc n) =
    let before = first_below p n in
    let next : n + 1 ≡ suc n = omega arith in
    (earlier_of before.0 (p n), subst (λ m. IsFirstBelow p m (earlier_of before.0 (p n))) next (first_more p n before.0 before.1))

module _ (h : List Record) where
  -- the first that is found is the stale read that finished first
  pub first_of : (a : Place) → IsFirstBelow (stale_at h) (length h) (Some a) → IsFirstStale h a.1
  first_of a first =
      let there = first.some a refl in record {
        began = there.0;
        finished = a.0;
        one = stale_there h there.0 a there.2;
        first = λ i j q s. first.least a refl i (j, q) (stale_within h i j q s) (stale_found h i j q s);
      }

  -- none is found exactly where the history is fresh
  pub fresh_none : IsFirstBelow (stale_at h) (length h) None → Fresh h
  fresh_none first = none_stale h (first.none refl)

  pub not_fresh : (a : Place) → IsFirstBelow (stale_at h) (length h) (Some a) → Fresh h → ⊥
  not_fresh a first fresh = let s = first_of a first in no_stale h fresh s.began s.finished a.1 s.one

-- a history in the place of equal records
pub of_history : (k h : List Record) (o : Option Place) → k ≡ h → IsFirstBelow (stale_at k) (length k) o → IsFirstBelow (stale_at h) (length h) o
of_history k h o same first = subst (λ (r : List Record). IsFirstBelow (stale_at r) (length r) o) same first

pub none_is_fresh : (h : List Record) → IsFirstBelow (stale_at h) (length h) None → IsNone {T = ℕ} None ↔ Fresh h
none_is_fresh h first = (λ none. fresh_none h first, λ fresh. refl)

pub some_is_stale : (h : List Record) (place q : ℕ) → IsFirstBelow (stale_at h) (length h) (Some (place, q)) → IsNone (Some q) ↔ Fresh h
some_is_stale h place q first = (λ none. let no : true ≡ false = none in cc, λ fresh. absurd (not_fresh h (place, q) first fresh))

-- whether none is found says whether the history is fresh
pub none_tells : (h : List Record) (o : Option Place) (none : Bool) → is_some o ≡ not none → IsFirstBelow (stale_at h) (length h) o → IsTrue none ↔ Fresh h
none_tells h None true e first = (λ yes. fresh_none h first, λ fresh. refl)
none_tells h None false e first = let no : false ≡ true = e in cc
none_tells h (Some a) true e first = let no : true ≡ false = e in cc
none_tells h (Some a) false e first = (λ yes. let no : false ≡ true = yes in cc, λ fresh. absurd (not_fresh h a first fresh))

-- each history is fresh or isn't
pub fresh_or_not : (h : List Record) → Fresh h ⊎ (Fresh h → ⊥)
fresh_or_not h = let found = first_below (stale_at h) (length h) in by_first found.0 found.1
  where
    by_first : (r : Option Place) → IsFirstBelow (stale_at h) (length h) r → Fresh h ⊎ (Fresh h → ⊥)
    by_first None first = inl (fresh_none h first)
    by_first (Some a) first = inr (not_fresh h a first)
