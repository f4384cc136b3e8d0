-- Layouts without a gap: where one is stored, and that what is stored at each version decides them.
use Rattle.std.specs.Prelude.{◌≡◌, ◌≤◌, ◌<◌, ℕ, suc, pred, Bool, true, false, cond, ◌==◌, leb, List, [], ◌∷◌, Option, Some, None, refl}
use Rattle.std.specs.Option.{unwrap_or}
use Rattle.std.specs.List.{filter, find}
use Rattle.std.proofs.Common.{ap, sym, subst, ◌∙◌, arith}
use Rattle.std.proofs.lemmas.Bool.{eqb-true, eqb-false, eq-eqb, ne_eqb, leb-true, leb-false, le-leb}
use Rattle.crdt_core.specs.EntryLaws.{and_parts, and_both}
use Rattle.view_model.specs.View.{Reading, follow, is_gapless, first_version, last_version, from}

pub lt_leb : (a b : ℕ) → b < a → leb a b ≡ false
lt_leb a b h = elim (leb a b) as (λ t. leb a b ≡ t → leb a b ≡ false) [ true ↦ (λ e. let k : a ≤ b = leb-true a b e in let never : ⊥ = omega arith in absurd never) | false ↦ (λ e. e) ] refl

pub not_apart : (m n : ℕ) → (m < n → ⊥) → (n < m → ⊥) → m ≡ n
not_apart m n f g = elim (leb m n) as (λ t. leb m n ≡ t → m ≡ n) [
  | true ↦ (λ e. let h : m ≤ n = leb-true m n e in
      elim (leb n m) as (λ t. leb n m ≡ t → m ≡ n) [ true ↦ (λ k. let l : n ≤ m = leb-true n m k in omega arith) | false ↦ (λ k. absurd (f (leb-false n m k))) ] refl)
  | false ↦ (λ e. absurd (g (leb-false m n e)))
] refl

-- what is above a number and is not the next one is above that
above : (i before v : ℕ) → v ≡ suc before → before < i → (v ≡ i → ⊥) → v < i
above i before v e h apart = elim (leb i v) as (λ t. leb i v ≡ t → v < i) [ true ↦ (λ t. let k : i ≤ v = leb-true i v t in absurd (apart (omega arith))) | false ↦ (λ t. leb-false i v t) ] refl

pub beyond : (v i : ℕ) → v ≤ i → (v ≡ i → ⊥) → v < i
beyond v i h apart = elim (leb i v) as (λ t. leb i v ≡ t → v < i) [ true ↦ (λ t. let k : i ≤ v = leb-true i v t in absurd (apart (omega arith))) | false ↦ (λ t. leb-false i v t) ] refl

module _ {L : Type 0} (r : Reading L) where
  -- the layout of version i among these
  abbrev pub at : List L → ℕ → Option L
  at xs i = find (λ l. r.version l == i) xs

  abbrev pub Stored : List L → ℕ → Type 0
  Stored xs i = (x : L) × (at xs i ≡ Some x)

  pub skip : (x : L) (xs : List L) (i : ℕ) → (r.version x == i) ≡ false → at (x ∷ xs) i ≡ at xs i
  skip x xs i e = rw e refl

  pub hit : (x : L) (xs : List L) (i : ℕ) → (r.version x == i) ≡ true → at (x ∷ xs) i ≡ Some x
  hit x xs i e = rw e refl

  pub head_at : (x : L) (xs : List L) → at (x ∷ xs) (r.version x) ≡ Some x
  head_at x xs = hit x xs (r.version x) (eq-eqb (r.version x) (r.version x) refl)

  pub none_is_not : (x : L) → None ≡ Some x → ⊥
  none_is_not x e = cc

  -- ---- layouts that follow a version

  pub followed : (before : ℕ) (x : L) (xs : List L) → follow r before (x ∷ xs) ≡ true → (r.version x ≡ suc before) × (follow r (r.version x) xs ≡ true)
  followed before x xs f =
      let p = and_parts (r.version x == suc before) (follow r (r.version x) xs) f in
      (eqb-true (r.version x) (suc before) p.0, p.1)

  pub none_below : (before i : ℕ) (xs : List L) → follow r before xs ≡ true → i ≤ before → at xs i ≡ None
  none_below before i [] f h = refl
  none_below before i (x ∷ xs) f h =
      let p = followed before x xs f in
      let v : r.version x ≡ suc before = p.0 in
      skip x xs i (ne_eqb (r.version x) i (λ e. omega arith)) ∙ none_below (r.version x) i xs p.1 (omega arith)

  pub last_least : (before : ℕ) (xs : List L) → follow r before xs ≡ true → before ≤ last_version r before xs
  last_least before [] f = omega arith
  last_least before (x ∷ xs) f =
      let p = followed before x xs f in
      let v : r.version x ≡ suc before = p.0 in
      let h : r.version x ≤ last_version r (r.version x) xs = last_least (r.version x) xs p.1 in
      omega arith

  pub none_above : (before i : ℕ) (xs : List L) → follow r before xs ≡ true → last_version r before xs < i → at xs i ≡ None
  none_above before i [] f h = refl
  none_above before i (x ∷ xs) f h =
      let p = followed before x xs f in
      let k : r.version x ≤ last_version r (r.version x) xs = last_least (r.version x) xs p.1 in
      skip x xs i (ne_eqb (r.version x) i (λ e. omega arith)) ∙ none_above (r.version x) i xs p.1 h

  within_by : (x : L) (xs : List L) (i : ℕ) (b : Bool) → (r.version x == i) ≡ b → ((r.version x == i) ≡ false → Stored xs i) → Stored (x ∷ xs) i
  within_by x xs i true e rest = (x, hit x xs i e)
  within_by x xs i false e rest = let s = rest e in (s.0, skip x xs i e ∙ s.1)

  pub some_within : (before i : ℕ) (xs : List L) → follow r before xs ≡ true → before < i → i ≤ last_version r before xs → Stored xs i
  some_within before i [] f h k = let never : ⊥ = omega arith in absurd never
  some_within before i (x ∷ xs) f h k =
      let p = followed before x xs f in
      let v : r.version x ≡ suc before = p.0 in
      within_by x xs i (r.version x == i) refl (λ e. some_within (r.version x) i xs p.1 (above i before (r.version x) v h (eqb-false (r.version x) i e)) k)

  -- layouts that follow one version and are the same at each version are one list
  tails_by : (x y : L) (xs ys : List L) (i : ℕ) (b : Bool) → (r.version x == i) ≡ b → r.version y ≡ r.version x → follow r (r.version x) xs ≡ true → follow r (r.version x) ys ≡ true → at (x ∷ xs) i ≡ at (y ∷ ys) i → at xs i ≡ at ys i
  tails_by x y xs ys i true e v f g h =
      let k : r.version x ≡ i = eqb-true (r.version x) i e in
      none_below (r.version x) i xs f (omega arith) ∙ sym (none_below (r.version x) i ys g (omega arith))
  tails_by x y xs ys i false e v f g h =
      sym (skip x xs i e) ∙ (h ∙ skip y ys i (ap (λ n. n == i) v ∙ e))

  pub same_follow : (before : ℕ) (xs ys : List L) → follow r before xs ≡ true → follow r before ys ≡ true → ((i : ℕ) → at xs i ≡ at ys i) → xs ≡ ys
  same_follow before [] [] f g h = refl
  same_follow before [] (y ∷ ys) f g h = absurd (none_is_not y (h (r.version y) ∙ head_at y ys))
  same_follow before (x ∷ xs) [] f g h = absurd (none_is_not x (sym (h (r.version x)) ∙ head_at x xs))
  same_follow before (x ∷ xs) (y ∷ ys) f g h =
      let p = followed before x xs f in
      let q = followed before y ys g in
      let v : r.version y ≡ r.version x = q.0 ∙ sym p.0 in
      let at_y : at (y ∷ ys) (r.version x) ≡ Some y = hit y ys (r.version x) (eq-eqb (r.version y) (r.version x) v) in
      let heads : x ≡ y = ap (λ o. unwrap_or o x) (sym (head_at x xs) ∙ (h (r.version x) ∙ at_y)) in
      let g2 : follow r (r.version x) ys ≡ true = subst (λ n. follow r n ys ≡ true) v q.1 in
      let tails : xs ≡ ys = same_follow (r.version x) xs ys p.1 g2 (λ i. tails_by x y xs ys i (r.version x == i) refl v p.1 g2 (h i)) in
      λ i. heads i ∷ tails i

  -- ---- layouts without a gap

  pub led : (x : L) (xs : List L) → is_gapless r (x ∷ xs) ≡ true → (1 ≤ r.version x) × (follow r (r.version x) xs ≡ true)
  led x xs g =
      let p = and_parts (leb 1 (r.version x)) (follow r (r.version x) xs) g in
      (leb-true 1 (r.version x) p.0, p.1)

  pub leads : (x : L) (xs : List L) → 1 ≤ r.version x → follow r (r.version x) xs ≡ true → is_gapless r (x ∷ xs) ≡ true
  leads x xs h f = and_both (leb 1 (r.version x)) (follow r (r.version x) xs) (le-leb 1 (r.version x) h) f

  pub below_oldest : (xs : List L) (i : ℕ) → is_gapless r xs ≡ true → i < first_version r xs → at xs i ≡ None
  below_oldest [] i g h = refl
  below_oldest (x ∷ xs) i g h =
      skip x xs i (ne_eqb (r.version x) i (λ e. omega arith)) ∙ none_below (r.version x) i xs (led x xs g).1 (omega arith)

  pub none_at_0 : (xs : List L) → is_gapless r xs ≡ true → at xs 0 ≡ None
  none_at_0 [] g = refl
  none_at_0 (x ∷ xs) g = let h : 1 ≤ r.version x = (led x xs g).0 in below_oldest (x ∷ xs) 0 g (omega arith)

  pub above_newest : (xs : List L) (i : ℕ) → is_gapless r xs ≡ true → last_version r 0 xs < i → at xs i ≡ None
  above_newest [] i g h = refl
  above_newest (x ∷ xs) i g h =
      let f = (led x xs g).1 in
      let k : r.version x ≤ last_version r (r.version x) xs = last_least (r.version x) xs f in
      skip x xs i (ne_eqb (r.version x) i (λ e. omega arith)) ∙ none_above (r.version x) i xs f h

  pub oldest_least : (xs : List L) → is_gapless r xs ≡ true → first_version r xs ≤ last_version r 0 xs
  oldest_least [] g = omega arith
  oldest_least (x ∷ xs) g = last_least (r.version x) xs (led x xs g).1

  pub inside : (xs : List L) (i : ℕ) → is_gapless r xs ≡ true → 1 ≤ i → first_version r xs ≤ i → i ≤ last_version r 0 xs → Stored xs i
  inside [] i g p h k = let never : ⊥ = omega arith in absurd never
  inside (x ∷ xs) i g p h k =
      within_by x xs i (r.version x == i) refl (λ e. some_within (r.version x) i xs (led x xs g).1 (beyond (r.version x) i h (eqb-false (r.version x) i e)) k)

  -- layouts without a gap that are the same at each version are one list
  no_lower : (x y : L) (xs ys : List L) → is_gapless r (y ∷ ys) ≡ true → ((i : ℕ) → at (x ∷ xs) i ≡ at (y ∷ ys) i) → r.version x < r.version y → ⊥
  no_lower x y xs ys g h k = none_is_not x (sym (below_oldest (y ∷ ys) (r.version x) g k) ∙ (sym (h (r.version x)) ∙ head_at x xs))

  leads_on : (x y : L) (ys : List L) → r.version x ≡ r.version y → 1 ≤ r.version y → follow r (r.version y) ys ≡ true → follow r (pred (r.version x)) (y ∷ ys) ≡ true
  leads_on x y ys e h f = and_both (r.version y == suc (pred (r.version x))) (follow r (r.version y) ys) (eq-eqb (r.version y) (suc (pred (r.version x))) (omega arith)) f

  pub same : (xs ys : List L) → is_gapless r xs ≡ true → is_gapless r ys ≡ true → ((i : ℕ) → at xs i ≡ at ys i) → xs ≡ ys
  same [] [] f g h = refl
  same [] (y ∷ ys) f g h = absurd (none_is_not y (h (r.version y) ∙ head_at y ys))
  same (x ∷ xs) [] f g h = absurd (none_is_not x (sym (h (r.version x)) ∙ head_at x xs))
  same (x ∷ xs) (y ∷ ys) f g h =
      let p = led x xs f in
      let q = led y ys g in
      let v : r.version x ≡ r.version y = not_apart (r.version x) (r.version y) (no_lower x y xs ys g h) (no_lower y x ys xs f (λ i. sym (h i))) in
      same_follow (pred (r.version x)) (x ∷ xs) (y ∷ ys) (leads_on x x xs refl p.0 p.1) (leads_on x y ys v q.0 q.1) h

  -- the first version that is stored is the oldest, and the last the newest
  pub first_is : (xs : List L) (o : ℕ) → is_gapless r xs ≡ true → Stored xs o → ((i : ℕ) → i < o → at xs i ≡ None) → first_version r xs ≡ o
  first_is [] o g s none = absurd (none_is_not s.0 s.1)
  first_is (x ∷ xs) o g s none =
      not_apart (r.version x) o (λ k. none_is_not x (sym (none (r.version x) k) ∙ head_at x xs)) (λ k. none_is_not s.0 (sym (below_oldest (x ∷ xs) o g k) ∙ s.1))

  pub last_is : (xs : List L) (n : ℕ) → is_gapless r xs ≡ true → Stored xs n → ((i : ℕ) → n < i → at xs i ≡ None) → last_version r 0 xs ≡ n
  last_is xs n g s none =
      not_apart (last_version r 0 xs) n
      (λ k. none_is_not s.0 (sym (above_newest xs n g k) ∙ s.1))
      (λ k. let t = inside xs (last_version r 0 xs) g (omega arith) (oldest_least xs g) (omega arith) in
      none_is_not t.0 (sym (none (last_version r 0 xs) k) ∙ t.1))

  -- ---- the layouts from a version on

  at_from_by : (q : ℕ → Bool) (x : L) (xs : List L) (i : ℕ) (b c : Bool) → q (r.version x) ≡ b → (r.version x == i) ≡ c →
      at (filter (λ l. q (r.version l)) xs) i ≡ cond (q i) (at xs i) None → at (filter (λ l. q (r.version l)) (x ∷ xs)) i ≡ cond (q i) (at (x ∷ xs) i) None
  at_from_by q x xs i true true e f more =
      let v : r.version x ≡ i = eqb-true (r.version x) i f in
      let t : q i ≡ true = ap q (sym v) ∙ e in
      rw (e, f, t) refl
  at_from_by q x xs i true false e f more = rw (e, f) more
  at_from_by q x xs i false true e f more =
      let v : r.version x ≡ i = eqb-true (r.version x) i f in
      let t : q i ≡ false = ap q (sym v) ∙ e in
      rw (e, t) (more ∙ rw t refl)
  at_from_by q x xs i false false e f more = rw (e, f) more

  nothing : (b : Bool) → ◌≡◌ {A = Option L} None (cond b None None)
  nothing true = refl
  nothing false = refl

  pub at_filter : (q : ℕ → Bool) (xs : List L) (i : ℕ) → at (filter (λ l. q (r.version l)) xs) i ≡ cond (q i) (at xs i) None
  at_filter q [] i = nothing (q i)
  at_filter q (x ∷ xs) i = at_from_by q x xs i (q (r.version x)) (r.version x == i) refl refl (at_filter q xs i)

  pub at_from : (o : ℕ) (xs : List L) (i : ℕ) → at (from r o xs) i ≡ cond (leb o i) (at xs i) None
  at_from o xs i = at_filter (leb o) xs i

  keep : (o : ℕ) (x : L) (xs : List L) → leb o (r.version x) ≡ true → from r o (x ∷ xs) ≡ x ∷ from r o xs
  keep o x xs e = rw e refl

  leave : (o : ℕ) (x : L) (xs : List L) → leb o (r.version x) ≡ false → from r o (x ∷ xs) ≡ from r o xs
  leave o x xs e = rw e refl

  pub from_all : (before o : ℕ) (xs : List L) → follow r before xs ≡ true → o ≤ suc before → from r o xs ≡ xs
  from_all before o [] f h = refl
  from_all before o (x ∷ xs) f h =
      let p = followed before x xs f in
      let v : r.version x ≡ suc before = p.0 in
      keep o x xs (le-leb o (r.version x) (omega arith)) ∙ ap (λ ys. x ∷ ys) (from_all (r.version x) o xs p.1 (omega arith))

  pub from_none : (before o : ℕ) (xs : List L) → follow r before xs ≡ true → last_version r before xs < o → from r o xs ≡ []
  from_none before o [] f h = refl
  from_none before o (x ∷ xs) f h =
      let p = followed before x xs f in
      let k : r.version x ≤ last_version r (r.version x) xs = last_least (r.version x) xs p.1 in
      leave o x xs (lt_leb o (r.version x) (omega arith)) ∙ from_none (r.version x) o xs p.1 h

  pub all_from : (o : ℕ) (x : L) (xs : List L) → o ≤ r.version x → follow r (r.version x) xs ≡ true → from r o (x ∷ xs) ≡ x ∷ xs
  all_from o x xs h f = keep o x xs (le-leb o (r.version x) h) ∙ ap (λ ys. x ∷ ys) (from_all (r.version x) o xs f (omega arith))

  pub left_out : (o : ℕ) (x : L) (xs : List L) → r.version x < o → from r o (x ∷ xs) ≡ from r o xs
  left_out o x xs h = leave o x xs (lt_leb o (r.version x) h)

  from_by : (before o : ℕ) (x : L) (xs : List L) (b : Bool) → leb o (r.version x) ≡ b → 1 ≤ r.version x → follow r (r.version x) xs ≡ true → is_gapless r (from r o xs) ≡ true → is_gapless r (from r o (x ∷ xs)) ≡ true
  from_by before o x xs true e h f more =
      let k : o ≤ r.version x = leb-true o (r.version x) e in
      let all : from r o (x ∷ xs) ≡ x ∷ xs = keep o x xs e ∙ ap (λ ys. x ∷ ys) (from_all (r.version x) o xs f (omega arith)) in
      ap (is_gapless r) all ∙ leads x xs h f
  from_by before o x xs false e h f more = ap (is_gapless r) (leave o x xs e) ∙ more

  pub gapless_follow : (before o : ℕ) (xs : List L) → follow r before xs ≡ true → is_gapless r (from r o xs) ≡ true
  gapless_follow before o [] f = refl
  gapless_follow before o (x ∷ xs) f =
      let p = followed before x xs f in
      let v : r.version x ≡ suc before = p.0 in
      from_by before o x xs (leb o (r.version x)) refl (omega arith) p.1 (gapless_follow (r.version x) o xs p.1)

  pub gapless_from : (o : ℕ) (xs : List L) → is_gapless r xs ≡ true → is_gapless r (from r o xs) ≡ true
  gapless_from o [] g = refl
  gapless_from o (x ∷ xs) g =
      let p = led x xs g in
      from_by 0 o x xs (leb o (r.version x)) refl p.0 p.1 (gapless_follow (r.version x) o xs p.1)
