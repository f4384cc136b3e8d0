-- What merged views store, and that merging is a join where common versions agree.
use Rattle.std.specs.Prelude.{◌≡◌, ◌≤◌, ◌<◌, ℕ, zero, suc, max, Bool, true, false, cond, ◌==◌, leb, List, [], ◌∷◌, ◌++◌, Option, Some, None, refl}
use Rattle.std.specs.Option.{option_or}
use Rattle.std.proofs.Common.{ap, ap₂, sym, ◌∙◌, arith}
use Rattle.std.proofs.lemmas.Bool.{eq-eqb, leb-true, leb-false, le-leb}
use Rattle.std.proofs.lemmas.List.Elements.{filter-append}
use Rattle.std.proofs.lemmas.List.Folds.{find-append}
use Rattle.crdt_core.specs.EntryLaws.{and_parts, and_both}
use Rattle.layout_trackers.specs.TrackersLaws.{trackers_laws}
use Rattle.view_model.specs.View.{Reading, View, follow, is_gapless, first_version, last_version, from, oldest, newest, merged, Agree}
use Rattle.view_model.proofs.Gapless.{at, Stored, lt_leb, followed, led, leads, below_oldest, none_at_0, above_newest, oldest_least, inside, same, first_is, last_is, at_from, from_none, all_from, left_out, gapless_from}

le_of : {m n : ℕ} → m < suc n → m ≤ n
le_of h = omega arith

max_same : (m n : ℕ) → max m n ≡ max n m
max_same m n = omega arith

max_itself : (m : ℕ) → max m m ≡ m
max_itself m = omega arith

max_thrice : (m n o : ℕ) → max (max m n) o ≡ max m (max n o)
max_thrice m n o = omega arith

module _ {L : Type 0} (r : Reading L) where
  -- ---- no gap opens

  begin_by : (before k : ℕ) (x : L) (xs : List L) (b : Bool) → leb (suc before) (r.version x) ≡ b → k ≤ before → r.version x ≡ suc k → follow r (r.version x) xs ≡ true →
      (r.version x ≤ before → follow r before (from r (suc before) xs) ≡ true) → follow r before (from r (suc before) (x ∷ xs)) ≡ true
  begin_by before k x xs true e h v f more =
      let low : suc before ≤ r.version x = leb-true (suc before) (r.version x) e in
      ap (follow r before) (all_from r (suc before) x xs low f) ∙ and_both (r.version x == suc before) (follow r (r.version x) xs) (eq-eqb (r.version x) (suc before) (omega arith)) f
  begin_by before k x xs false e h v f more =
      let low : r.version x < suc before = leb-false (suc before) (r.version x) e in
      ap (follow r before) (left_out r (suc before) x xs low) ∙ more (omega arith)

  begin_follow : (before k : ℕ) (xs : List L) → k ≤ before → follow r k xs ≡ true → follow r before (from r (suc before) xs) ≡ true
  begin_follow before k [] h f = refl
  begin_follow before k (x ∷ xs) h f =
      let p = followed r k x xs f in
      begin_by before k x xs (leb (suc before) (r.version x)) refl h p.0 p.1 (λ low. begin_follow before (r.version x) xs low p.1)

  begin : (before : ℕ) (ys : List L) → is_gapless r ys ≡ true → first_version r ys ≤ before → follow r before (from r (suc before) ys) ≡ true
  begin before [] g h = refl
  begin before (y ∷ ys) g h =
      ap (follow r before) (left_out r (suc before) y ys (omega arith)) ∙ begin_follow before (r.version y) ys h (led r y ys g).1

  continue_from : (before : ℕ) (xs ys : List L) → follow r before xs ≡ true → is_gapless r ys ≡ true → first_version r ys ≤ last_version r before xs →
      follow r before (xs ++ from r (suc (last_version r before xs)) ys) ≡ true
  continue_from before [] ys f g h = begin before ys g h
  continue_from before (x ∷ xs) ys f g h =
      let p = and_parts (r.version x == suc before) (follow r (r.version x) xs) f in
      and_both (r.version x == suc before) (follow r (r.version x) (xs ++ from r (suc (last_version r (r.version x) xs)) ys)) p.0 (continue_from (r.version x) xs ys p.1 g h)

  meets_by : (o : ℕ) (x : L) (xs ys : List L) (b : Bool) → leb (first_version r ys) (last_version r 0 (x ∷ xs)) ≡ b → first_version r ys ≤ o → is_gapless r (x ∷ xs) ≡ true → is_gapless r ys ≡ true →
      is_gapless r (from r o ((x ∷ xs) ++ from r (suc (last_version r 0 (x ∷ xs))) ys)) ≡ true
  meets_by o x xs ys true e h f g =
      let p = led r x xs f in
      let low : first_version r ys ≤ last_version r (r.version x) xs = leb-true (first_version r ys) (last_version r (r.version x) xs) e in
      gapless_from r o ((x ∷ xs) ++ from r (suc (last_version r (r.version x) xs)) ys)
      (leads r x (xs ++ from r (suc (last_version r (r.version x) xs)) ys) p.0 (continue_from (r.version x) xs ys p.1 g low))
  meets_by o x xs ys false e h f g =
      let n = last_version r (r.version x) xs in
      let p = led r x xs f in
      let high : n < first_version r ys = leb-false (first_version r ys) n e in
      let least : r.version x ≤ n = oldest_least r (x ∷ xs) f in
      let none : from r o (x ∷ xs) ≡ [] = left_out r o x xs (omega arith) ∙ from_none r (r.version x) o xs p.1 (omega arith) in
      let rest = from r o (from r (suc n) ys) in
      let whole : from r o ((x ∷ xs) ++ from r (suc n) ys) ≡ rest = filter-append (λ l. leb o (r.version l)) (x ∷ xs) (from r (suc n) ys) ∙ ap (λ zs. zs ++ rest) none in
      ap (is_gapless r) whole ∙ gapless_from r o (from r (suc n) ys) (gapless_from r (suc n) ys g)

  meets : (o : ℕ) (xs ys : List L) → first_version r ys ≤ o → is_gapless r xs ≡ true → is_gapless r ys ≡ true → is_gapless r (from r o (xs ++ from r (suc (last_version r 0 xs)) ys)) ≡ true
  meets o [] ys h f g = gapless_from r o (from r 1 ys) (gapless_from r 1 ys g)
  meets o (x ∷ xs) ys h f g = meets_by o x xs ys (leb (first_version r ys) (last_version r 0 (x ∷ xs))) refl h f g

  -- merged views have no gap
  pub gapless_merged : (a b : View L) → is_gapless r a.layouts ≡ true → is_gapless r b.layouts ≡ true → is_gapless r (merged r a b).layouts ≡ true
  gapless_merged a b f g = meets (max (oldest r a) (oldest r b)) a.layouts b.layouts (omega arith) f g

  -- ---- what merged views store

  cond_same : {A : Type 0} (b : Bool) (x : A) → cond b x x ≡ x
  cond_same true x = refl
  cond_same false x = refl

  or_stored : (p q : Option L) (x : L) → p ≡ Some x → option_or p q ≡ p
  or_stored None q x e = cc
  or_stored (Some y) q x e = refl

  later_by : (xs ys : List L) (i : ℕ) (b : Bool) → leb (suc (last_version r 0 xs)) i ≡ b → is_gapless r xs ≡ true → first_version r xs ≤ i → 1 ≤ i →
      option_or (at r xs i) (cond (leb (suc (last_version r 0 xs)) i) (at r ys i) None) ≡ option_or (at r xs i) (at r ys i)
  later_by xs ys i true e f h k = rw e refl
  later_by xs ys i false e f h k =
      let s = inside r xs i f k h (le_of (leb-false (suc (last_version r 0 xs)) i e)) in
      or_stored (at r xs i) (cond (leb (suc (last_version r 0 xs)) i) (at r ys i) None) s.0 s.1 ∙ sym (or_stored (at r xs i) (at r ys i) s.0 s.1)

  later : (xs ys : List L) (i : ℕ) → is_gapless r xs ≡ true → is_gapless r ys ≡ true → first_version r xs ≤ i →
      option_or (at r xs i) (cond (leb (suc (last_version r 0 xs)) i) (at r ys i) None) ≡ option_or (at r xs i) (at r ys i)
  later xs ys zero f g h = rw (none_at_0 r ys g) (ap (option_or (at r xs 0)) (cond_same (leb (suc (last_version r 0 xs)) 0) None))
  later xs ys (suc i) f g h = later_by xs ys (suc i) (leb (suc (last_version r 0 xs)) (suc i)) refl f h (omega arith)

  -- the layout of each version from the greater oldest on is that of the one view or of the other
  abbrev pub of_either : View L → View L → ℕ → Option L
  of_either a b i = cond (leb (max (oldest r a) (oldest r b)) i) (option_or (at r a.layouts i) (at r b.layouts i)) None

  merged_by : (a b : View L) (i : ℕ) (t : Bool) → leb (max (oldest r a) (oldest r b)) i ≡ t → is_gapless r a.layouts ≡ true → is_gapless r b.layouts ≡ true →
      cond t (option_or (at r a.layouts i) (cond (leb (suc (newest r a)) i) (at r b.layouts i) None)) None ≡ cond t (option_or (at r a.layouts i) (at r b.layouts i)) None
  merged_by a b i true e f g =
      let h : max (oldest r a) (oldest r b) ≤ i = leb-true (max (oldest r a) (oldest r b)) i e in
      later a.layouts b.layouts i f g (omega arith)
  merged_by a b i false e f g = refl

  pub at_merged : (a b : View L) (i : ℕ) → is_gapless r a.layouts ≡ true → is_gapless r b.layouts ≡ true → at r (merged r a b).layouts i ≡ of_either a b i
  at_merged a b i f g =
      let o = max (oldest r a) (oldest r b) in
      let n = suc (newest r a) in
      at_from r o (a.layouts ++ from r n b.layouts) i
      ∙ (ap (λ p. cond (leb o i) p None) (find-append (λ l. r.version l == i) a.layouts (from r n b.layouts) ∙ ap (option_or (at r a.layouts i)) (at_from r n b.layouts i))
      ∙ merged_by a b i (leb o i) refl f g)

  -- ---- the oldest and the newest version of merged views

  or_right : (p : Option L) (y : L) → (x : L) × (option_or p (Some y) ≡ Some x)
  or_right None y = (y, refl)
  or_right (Some x) y = (x, refl)

  either_stored : (xs ys : List L) (i : ℕ) → (Stored r xs i) → (x : L) × (option_or (at r xs i) (at r ys i) ≡ Some x)
  either_stored xs ys i s = (s.0, or_stored (at r xs i) (at r ys i) s.0 s.1 ∙ s.1)

  other_stored : (xs ys : List L) (i : ℕ) → (Stored r ys i) → (x : L) × (option_or (at r xs i) (at r ys i) ≡ Some x)
  other_stored xs ys i s = let o = or_right (at r xs i) s.0 in (o.0, ap (option_or (at r xs i)) s.1 ∙ o.1)

  stored_in : (a b : View L) (i : ℕ) → is_gapless r a.layouts ≡ true → is_gapless r b.layouts ≡ true → max (oldest r a) (oldest r b) ≤ i → (x : L) × (option_or (at r a.layouts i) (at r b.layouts i) ≡ Some x) → Stored r (merged r a b).layouts i
  stored_in a b i f g h s = (s.0, at_merged a b i f g ∙ (rw (le-leb (max (oldest r a) (oldest r b)) i h) s.1))

  -- a view without a version has the oldest version 0
  none_stored : (xs : List L) → is_gapless r xs ≡ true → first_version r xs ≡ 0 → xs ≡ []
  none_stored [] g e = refl
  none_stored (x ∷ xs) g e = let h : 1 ≤ r.version x = (led r x xs g).0 in let never : ⊥ = omega arith in absurd never

  nothing_new : (a b : View L) → a.layouts ≡ [] → b.layouts ≡ [] → (merged r a b).layouts ≡ []
  nothing_new a b e f = rw (e, f) refl

  stored_at : (xs : List L) (i m : ℕ) → is_gapless r xs ≡ true → i ≡ suc m → first_version r xs ≤ i → i ≤ last_version r 0 xs → Stored r xs (suc m)
  stored_at xs i m f e h k = inside r xs (suc m) f (omega arith) (omega arith) (omega arith)

  oldest_stored : (a b : View L) (m : ℕ) (t : Bool) → leb (oldest r b) (oldest r a) ≡ t → max (oldest r a) (oldest r b) ≡ suc m → is_gapless r a.layouts ≡ true → is_gapless r b.layouts ≡ true →
      (x : L) × (option_or (at r a.layouts (suc m)) (at r b.layouts (suc m)) ≡ Some x)
  oldest_stored a b m true t e f g =
      let h : oldest r b ≤ oldest r a = leb-true (oldest r b) (oldest r a) t in
      either_stored a.layouts b.layouts (suc m) (stored_at a.layouts (oldest r a) m f (omega arith) (omega arith) (oldest_least r a.layouts f))
  oldest_stored a b m false t e f g =
      let h : oldest r a < oldest r b = leb-false (oldest r b) (oldest r a) t in
      other_stored a.layouts b.layouts (suc m) (stored_at b.layouts (oldest r b) m g (omega arith) (omega arith) (oldest_least r b.layouts g))

  newest_stored : (a b : View L) (m : ℕ) (t : Bool) → leb (newest r b) (newest r a) ≡ t → max (newest r a) (newest r b) ≡ suc m → is_gapless r a.layouts ≡ true → is_gapless r b.layouts ≡ true →
      (x : L) × (option_or (at r a.layouts (suc m)) (at r b.layouts (suc m)) ≡ Some x)
  newest_stored a b m true t e f g =
      let h : newest r b ≤ newest r a = leb-true (newest r b) (newest r a) t in
      either_stored a.layouts b.layouts (suc m) (stored_at a.layouts (newest r a) m f (omega arith) (oldest_least r a.layouts f) (omega arith))
  newest_stored a b m false t e f g =
      let h : newest r a < newest r b = leb-false (newest r b) (newest r a) t in
      other_stored a.layouts b.layouts (suc m) (stored_at b.layouts (newest r b) m g (omega arith) (oldest_least r b.layouts g) (omega arith))

  oldest_by : (a b : View L) (m : ℕ) → max (oldest r a) (oldest r b) ≡ m → is_gapless r a.layouts ≡ true → is_gapless r b.layouts ≡ true → first_version r (merged r a b).layouts ≡ m
  oldest_by a b zero e f g =
      ap (first_version r) (nothing_new a b (none_stored a.layouts f (omega arith)) (none_stored b.layouts g (omega arith)))
  oldest_by a b (suc m) e f g =
      first_is r (merged r a b).layouts (suc m) (gapless_merged a b f g)
      (stored_in a b (suc m) f g (omega arith) (oldest_stored a b m (leb (oldest r b) (oldest r a)) refl e f g))
      (λ i h. at_merged a b i f g ∙ rw (lt_leb (max (oldest r a) (oldest r b)) i (omega arith)) refl)

  -- the oldest version of merged views is the greater of both
  pub oldest_merged : (a b : View L) → is_gapless r a.layouts ≡ true → is_gapless r b.layouts ≡ true → oldest r (merged r a b) ≡ max (oldest r a) (oldest r b)
  oldest_merged a b f g = oldest_by a b (max (oldest r a) (oldest r b)) refl f g

  newest_by : (a b : View L) (m : ℕ) → max (newest r a) (newest r b) ≡ m → is_gapless r a.layouts ≡ true → is_gapless r b.layouts ≡ true → last_version r 0 (merged r a b).layouts ≡ m
  newest_by a b zero e f g =
      let p = oldest_least r a.layouts f in
      let q = oldest_least r b.layouts g in
      ap (last_version r 0) (nothing_new a b (none_stored a.layouts f (omega arith)) (none_stored b.layouts g (omega arith)))
  newest_by a b (suc m) e f g =
      let p = oldest_least r a.layouts f in
      let q = oldest_least r b.layouts g in
      last_is r (merged r a b).layouts (suc m) (gapless_merged a b f g)
      (stored_in a b (suc m) f g (omega arith) (newest_stored a b m (leb (newest r b) (newest r a)) refl e f g))
      (λ i h. at_merged a b i f g ∙ (rw (above_newest r a.layouts i f (omega arith), above_newest r b.layouts i g (omega arith)) (cond_same (leb (max (oldest r a) (oldest r b)) i) None)))

  -- and the newest the greater of both
  pub newest_merged : (a b : View L) → is_gapless r a.layouts ≡ true → is_gapless r b.layouts ≡ true → newest r (merged r a b) ≡ max (newest r a) (newest r b)
  newest_merged a b f g = newest_by a b (max (newest r a) (newest r b)) refl f g

  -- ---- a join

  same_views : (a b : View L) → a.layouts ≡ b.layouts → a.trackers ≡ b.trackers → a ≡ b
  same_views a b e f = λ i. record { layouts = e i; trackers = f i }

  or_comm : (p q : Option L) → ((x y : L) → p ≡ Some x → q ≡ Some y → x ≡ y) → option_or p q ≡ option_or q p
  or_comm None None h = refl
  or_comm None (Some y) h = refl
  or_comm (Some x) None h = refl
  or_comm (Some x) (Some y) h = ap Some (h x y refl refl)

  or_assoc : (p q s : Option L) → option_or (option_or p q) s ≡ option_or p (option_or q s)
  or_assoc None q s = refl
  or_assoc (Some x) q s = refl

  or_same : (p : Option L) → option_or p p ≡ p
  or_same None = refl
  or_same (Some x) = refl

  pub merged_comm : (a b : View L) → is_gapless r a.layouts ≡ true → is_gapless r b.layouts ≡ true → Agree r a b → merged r a b ≡ merged r b a
  merged_comm a b f g agree =
      same_views (merged r a b) (merged r b a)
      (same r (merged r a b).layouts (merged r b a).layouts (gapless_merged a b f g) (gapless_merged b a g f)
      (λ i. at_merged a b i f g
      ∙ (ap₂ (λ o p. cond (leb o i) p None) (max_same (oldest r a) (oldest r b)) (or_comm (at r a.layouts i) (at r b.layouts i) (agree i)) ∙ sym (at_merged b a i g f))))
      (trackers_laws.commutative a.trackers b.trackers)

  own_by : (a : View L) (i : ℕ) (t : Bool) → leb (oldest r a) i ≡ t → is_gapless r a.layouts ≡ true → cond t (at r a.layouts i) None ≡ at r a.layouts i
  own_by a i true e f = refl
  own_by a i false e f = sym (below_oldest r a.layouts i f (leb-false (oldest r a) i e))

  pub merged_idem : (a : View L) → is_gapless r a.layouts ≡ true → merged r a a ≡ a
  merged_idem a f =
      same_views (merged r a a) a
      (same r (merged r a a).layouts a.layouts (gapless_merged a a f f) f
      (λ i. at_merged a a i f f
      ∙ (ap₂ (λ o p. cond (leb o i) p None) (max_itself (oldest r a)) (or_same (at r a.layouts i)) ∙ own_by a i (leb (oldest r a) i) refl f)))
      (trackers_laws.idempotent a.trackers)

  thrice_left : (o m i : ℕ) (p q s : Option L) (t : Bool) → leb o i ≡ t → m ≤ o → cond t (option_or (cond (leb m i) (option_or p q) None) s) None ≡ cond t (option_or p (option_or q s)) None
  thrice_left o m i p q s true e h = let k : o ≤ i = leb-true o i e in rw (le-leb m i (omega arith)) (or_assoc p q s)
  thrice_left o m i p q s false e h = refl

  thrice_right : (o m i : ℕ) (p q s : Option L) (t : Bool) → leb o i ≡ t → m ≤ o → cond t (option_or p (cond (leb m i) (option_or q s) None)) None ≡ cond t (option_or p (option_or q s)) None
  thrice_right o m i p q s true e h = let k : o ≤ i = leb-true o i e in rw (le-leb m i (omega arith)) refl
  thrice_right o m i p q s false e h = refl

  abbrev of_three : View L → View L → View L → ℕ → Option L
  of_three a b c i = cond (leb (max (oldest r a) (max (oldest r b) (oldest r c))) i) (option_or (at r a.layouts i) (option_or (at r b.layouts i) (at r c.layouts i))) None

  three_left : (a b c : View L) (i : ℕ) → is_gapless r a.layouts ≡ true → is_gapless r b.layouts ≡ true → is_gapless r c.layouts ≡ true → at r (merged r (merged r a b) c).layouts i ≡ of_three a b c i
  three_left a b c i f g h =
      let o = max (oldest r a) (max (oldest r b) (oldest r c)) in
      at_merged (merged r a b) c i (gapless_merged a b f g) h
      ∙ (ap₂ (λ o p. cond (leb o i) (option_or p (at r c.layouts i)) None) (ap (λ o. max o (oldest r c)) (oldest_merged a b f g) ∙ max_thrice (oldest r a) (oldest r b) (oldest r c)) (at_merged a b i f g)
      ∙ thrice_left o (max (oldest r a) (oldest r b)) i (at r a.layouts i) (at r b.layouts i) (at r c.layouts i) (leb o i) refl (omega arith))

  three_right : (a b c : View L) (i : ℕ) → is_gapless r a.layouts ≡ true → is_gapless r b.layouts ≡ true → is_gapless r c.layouts ≡ true → at r (merged r a (merged r b c)).layouts i ≡ of_three a b c i
  three_right a b c i f g h =
      let o = max (oldest r a) (max (oldest r b) (oldest r c)) in
      at_merged a (merged r b c) i f (gapless_merged b c g h)
      ∙ (ap₂ (λ o p. cond (leb o i) (option_or (at r a.layouts i) p) None) (ap (max (oldest r a)) (oldest_merged b c g h)) (at_merged b c i g h)
      ∙ thrice_right o (max (oldest r b) (oldest r c)) i (at r a.layouts i) (at r b.layouts i) (at r c.layouts i) (leb o i) refl (omega arith))

  pub merged_assoc : (a b c : View L) → is_gapless r a.layouts ≡ true → is_gapless r b.layouts ≡ true → is_gapless r c.layouts ≡ true → merged r (merged r a b) c ≡ merged r a (merged r b c)
  merged_assoc a b c f g h =
      same_views (merged r (merged r a b) c) (merged r a (merged r b c))
      (same r (merged r (merged r a b) c).layouts (merged r a (merged r b c)).layouts (gapless_merged (merged r a b) c (gapless_merged a b f g) h) (gapless_merged a (merged r b c) f (gapless_merged b c g h))
      (λ i. three_left a b c i f g h ∙ sym (three_right a b c i f g h)))
      (trackers_laws.associative a.trackers b.trackers c.trackers)
