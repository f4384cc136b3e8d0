-- The read version, and that it never falls where a view grows.
use Rattle.std.specs.Prelude.{◌≡◌, ◌≤◌, ◌<◌, ℕ, zero, suc, pred, max, Bool, true, false, cond, ◌||◌, ◌==◌, leb, nat_lt, List, [], ◌∷◌, ◌++◌, Option, Some, None, refl}
use Rattle.std.specs.Option.{unwrap_or, option_or}
use Rattle.std.specs.List.{fold, list_all, count_by}
use Rattle.std.proofs.Common.{◌+◌, ap, sym, subst, ◌∙◌, arith}
use Rattle.std.proofs.lemmas.Bool.{eqb-true, eqb-false, eq-eqb, leb-true, leb-false, le-leb, ltb-true, lt-ltb}
use Rattle.std.proofs.lemmas.List.Folds.{find-append}
use Rattle.crdt_core.specs.EntryLaws.{and_parts, and_both}
use Rattle.layout_trackers.specs.declared.trackers.Trackers.{Trackers}
use Rattle.layout_trackers.specs.declared.which.Which.{Which}
use Rattle.layout_trackers.specs.declared.which.Which.TheVariants.{Sync, SyncAck}
use Rattle.layout_trackers.specs.Trackers.{entry, is_reached}
use Rattle.layout_trackers.specs.Entries.{Grows, IsNotAbove}
use Rattle.layout_trackers.proofs.EntriesGrow.{joins_grow, raises_grow, never_falls}
use Rattle.layout_trackers.proofs.Reaching.{reached_by}
use Rattle.view_model.specs.View.{Reading, View, greatest, follow, is_gapless, first_version, last_version, oldest, newest, version_of, have_synced, is_established, is_readable, read_version, merged, appended, with_entry, Agree, GrewFrom}
use Rattle.crdt_core.specs.Members.{two_pass}
use Rattle.view_model.proofs.Gapless.{at, oldest_least}
use Rattle.view_model.proofs.Joins.{at_merged, oldest_merged, newest_merged, merged_comm}

-- ---- the greatest that passes

low_by : (f : ℕ → Bool) (n : ℕ) (b : Bool) → greatest f n ≤ n → cond b (suc n) (greatest f n) ≤ suc n
low_by f n true h = omega arith
low_by f n false h = omega arith

pub greatest_low : (f : ℕ → Bool) (n : ℕ) → greatest f n ≤ n
greatest_low f zero = omega arith
greatest_low f (suc n) = low_by f n (f (suc n)) (greatest_low f n)

before : (i m : ℕ) → i ≤ m → (i ≡ m → ⊥) → suc i ≤ m
before i m h apart = elim (leb m i) as (λ t. leb m i ≡ t → suc i ≤ m) [ true ↦ (λ t. let k : m ≤ i = leb-true m i t in absurd (apart (omega arith))) | false ↦ (λ t. leb-false m i t) ] refl

not_last : (f : ℕ → Bool) (n i : ℕ) → f (suc n) ≡ false → f i ≡ true → i ≤ suc n → (b : Bool) → (i == suc n) ≡ b → i ≤ n
not_last f n i e k h true s = let same : i ≡ suc n = eqb-true i (suc n) s in let never : true ≡ false = sym k ∙ (ap f same ∙ e) in cc
not_last f n i e k h false s = let low : suc i ≤ suc n = before i (suc n) h (eqb-false i (suc n) s) in omega arith

high_by : (f : ℕ → Bool) (n i : ℕ) (b : Bool) → f (suc n) ≡ b → f i ≡ true → i ≤ suc n → (i ≤ n → i ≤ greatest f n) → i ≤ cond b (suc n) (greatest f n)
high_by f n i true e k h more = h
high_by f n i false e k h more = more (not_last f n i e k h (i == suc n) refl)

pub greatest_high : (f : ℕ → Bool) (n i : ℕ) → f i ≡ true → i ≤ n → i ≤ greatest f n
greatest_high f zero i e h = h
greatest_high f (suc n) i e h = high_by f n i (f (suc n)) refl e h (λ k. greatest_high f n i e k)

passes_by : (f : ℕ → Bool) (n : ℕ) (b : Bool) → f (suc n) ≡ b → 1 ≤ cond b (suc n) (greatest f n) → (1 ≤ greatest f n → f (greatest f n) ≡ true) → f (cond b (suc n) (greatest f n)) ≡ true
passes_by f n true e h more = e
passes_by f n false e h more = more h

pub greatest_passes : (f : ℕ → Bool) (n : ℕ) → 1 ≤ greatest f n → f (greatest f n) ≡ true
greatest_passes f zero h = let never : ⊥ = omega arith in absurd never
greatest_passes f (suc n) h = passes_by f n (f (suc n)) refl h (greatest_passes f n)

-- ---- tests that more pass

or_cases : (a b : Bool) → (a || b) ≡ true → (c : Bool) → (a ≡ true → c ≡ true) → (b ≡ true → c ≡ true) → c ≡ true
or_cases true b e c f g = f refl
or_cases false b e c f g = g e

or_second : (a b : Bool) → b ≡ true → (a || b) ≡ true
or_second true b e = refl
or_second false b e = e

or_first : (a b : Bool) → a ≡ true → (a || b) ≡ true
or_first true b e = refl
or_first false b e = cc

one_less : (f g : ℕ → Bool) (x : ℕ) (b : Bool) → f x ≡ b → (f x ≡ true → g x ≡ true) → cond b 1 0 ≤ cond (g x) 1 0
one_less f g x true e h = rw (h e) (omega arith)
one_less f g x false e h = omega arith

sums_less : (a b m n : ℕ) → a ≤ b → m ≤ n → a + m ≤ b + n
sums_less a b m n h k = omega arith

counted_from : (f g : ℕ → Bool) → ((x : ℕ) → f x ≡ true → g x ≡ true) → (xs : List ℕ) (a b : ℕ) → a ≤ b → fold (λ n x. n + cond (f x) 1 0) a xs ≤ fold (λ n x. n + cond (g x) 1 0) b xs
counted_from f g h [] a b k = k
counted_from f g h (x ∷ xs) a b k =
    counted_from f g h xs (a + cond (f x) 1 0) (b + cond (g x) 1 0) (sums_less a b (cond (f x) 1 0) (cond (g x) 1 0) k (one_less f g x (f x) refl (h x)))

counted_less : (f g : ℕ → Bool) → ((x : ℕ) → f x ≡ true → g x ≡ true) → (xs : List ℕ) → count_by f xs ≤ count_by g xs
counted_less f g h xs = counted_from f g h xs 0 0 (omega arith)

two_more : (f g : ℕ → Bool) → ((x : ℕ) → f x ≡ true → g x ≡ true) → (set : List ℕ) → two_pass f set ≡ true → two_pass g set ≡ true
two_more f g h set e =
    let low : 2 ≤ count_by f set = leb-true 2 (count_by f set) e in
    let more : count_by f set ≤ count_by g set = counted_less f g h set in
    le-leb 2 (count_by g set) (omega arith)

all_more : (f g : ℕ → Bool) → ((x : ℕ) → f x ≡ true → g x ≡ true) → (sets : List (List ℕ)) → list_all (two_pass f) sets ≡ true → list_all (two_pass g) sets ≡ true
all_more f g h [] e = refl
all_more f g h (set ∷ sets) e =
    let p = and_parts (two_pass f set) (list_all (two_pass f) sets) e in
    and_both (two_pass g set) (list_all (two_pass g) sets) (two_more f g h set p.0) (all_more f g h sets p.1)

-- ---- entries that grew

-- an entry counts as at least a version that is above the one of a missing entry
synced_by : (o m i : ℕ) (a b : Option ℕ) → o < i → IsNotAbove a b → leb i (unwrap_or a o) ≡ true → leb i (unwrap_or b m) ≡ true
synced_by o m i None b h k e = let low : i ≤ o = leb-true i o e in let never : ⊥ = omega arith in absurd never
synced_by o m i (Some x) None h k e = absurd k
synced_by o m i (Some x) (Some y) h k e = let low : i ≤ x = leb-true i x e in le-leb i y (omega arith)

higher_by : (v x : ℕ) (a b : Option ℕ) → IsNotAbove a b → a ≡ Some x → v ≤ x → (y : ℕ) × (b ≡ Some y) × (v ≤ y)
higher_by v x None b k e h = cc
higher_by v x (Some z) None k e h = absurd k
higher_by v x (Some z) (Some y) k e h = let same : z ≡ x = ap (λ o. unwrap_or o z) e in (y, refl, omega arith)

pub reached_more : (which : Which) (v : ℕ) (a b : Trackers) → Grows a b → is_reached which v a ≡ true → is_reached which v b ≡ true
reached_more which v a b grows e =
    let (node, x, at_node, h) = (reached_by which v a).0 e in
    let (y, there, k) = higher_by v x (entry which node a) (entry which node b) (grows which node) at_node h in
    (reached_by which v b).1 (node, y, there, k)

module _ {L : Type 0} (r : Reading L) where
  -- ---- the read version is what its sentence says

  pub read_known : (v : View L) → read_version r v ≤ newest r v
  read_known v = greatest_low (is_readable r v) (newest r v)

  pub read_greatest : (v : View L) (i : ℕ) → is_readable r v i ≡ true → i ≤ newest r v → i ≤ read_version r v
  read_greatest v i e h = greatest_high (is_readable r v) (newest r v) i e h

  oldest_readable : (v : View L) → is_readable r v (oldest r v) ≡ true
  oldest_readable v = or_first (oldest r v == oldest r v) (is_established r v (oldest r v) || is_reached SyncAck (oldest r v) v.trackers) (eq-eqb (oldest r v) (oldest r v) refl)

  pub read_stored : (v : View L) → is_gapless r v.layouts ≡ true → oldest r v ≤ read_version r v
  read_stored v g = read_greatest v (oldest r v) (oldest_readable v) (oldest_least r v.layouts g)

  readable_by : (v : View L) (n : ℕ) → read_version r v ≡ n → is_gapless r v.layouts ≡ true → is_readable r v n ≡ true
  readable_by v zero e g =
      let low : oldest r v ≤ read_version r v = read_stored v g in
      let o : oldest r v ≡ 0 = omega arith in
      or_first (0 == oldest r v) (is_established r v 0 || is_reached SyncAck 0 v.trackers) (eq-eqb 0 (oldest r v) (sym o))
  readable_by v (suc n) e g = subst (λ i. is_readable r v i ≡ true) e (greatest_passes (is_readable r v) (newest r v) (subst (λ i. 1 ≤ i) (sym e) (omega arith)))

  pub read_readable : (v : View L) → is_gapless r v.layouts ≡ true → is_readable r v (read_version r v) ≡ true
  read_readable v g = readable_by v (read_version r v) refl g

  -- ---- and it never falls

  synced_more : (a b : View L) (i : ℕ) (p q : Option L) → Grows a.trackers b.trackers → oldest r a < i → ((x : L) → p ≡ Some x → q ≡ Some x) → have_synced r a i p ≡ true → have_synced r b i q ≡ true
  synced_more a b i None q grows h there e = cc
  synced_more a b i (Some x) q grows h there e =
      ap (have_synced r b i) (there x refl)
      ∙ all_more (λ node. leb i (version_of r Sync a node)) (λ node. leb i (version_of r Sync b node)) (λ node. synced_by (oldest r a) (oldest r b) i (entry Sync node a.trackers) (entry Sync node b.trackers) h (grows Sync node)) (r.sets x) e

  established_more : (a b : View L) (i : ℕ) → GrewFrom r a b → oldest r b < i → is_established r a i ≡ true → is_established r b i ≡ true
  established_more a b i grew h e =
      let p = and_parts (nat_lt (oldest r a) i) (have_synced r a i (at r a.layouts (pred i))) e in
      let low : oldest r a < i = ltb-true (oldest r a) i p.0 in
      and_both (nat_lt (oldest r b) i) (have_synced r b i (at r b.layouts (pred i))) (lt-ltb (oldest r b) i h)
      (synced_more a b i (at r a.layouts (pred i)) (at r b.layouts (pred i)) grew.entries low (λ x. grew.layouts (pred i) x (omega arith)) p.1)

  still_readable : (a b : View L) (i : ℕ) → GrewFrom r a b → oldest r b < i → is_readable r a i ≡ true → is_readable r b i ≡ true
  still_readable a b i grew h e =
      let grown = grew.oldest_grew in
      let then : Bool = is_established r b i || is_reached SyncAck i b.trackers in
      or_cases (i == oldest r a) (is_established r a i || is_reached SyncAck i a.trackers) e (is_readable r b i)
      (λ o. let same : i ≡ oldest r a = eqb-true i (oldest r a) o in let never : ⊥ = omega arith in absurd never)
      (λ k. or_second (i == oldest r b) then
      (or_cases (is_established r a i) (is_reached SyncAck i a.trackers) k then
      (λ s. or_first (is_established r b i) (is_reached SyncAck i b.trackers) (established_more a b i grew h s))
      (λ s. or_second (is_established r b i) (is_reached SyncAck i b.trackers) (reached_more SyncAck i a.trackers b.trackers grew.entries s))))

  read_by : (a b : View L) (t : Bool) → leb (read_version r a) (oldest r b) ≡ t → is_gapless r a.layouts ≡ true → is_gapless r b.layouts ≡ true → GrewFrom r a b → read_version r a ≤ read_version r b
  read_by a b true e f g grew =
      let low : read_version r a ≤ oldest r b = leb-true (read_version r a) (oldest r b) e in
      let next : oldest r b ≤ read_version r b = read_stored b g in
      omega arith
  read_by a b false e f g grew =
      let high : oldest r b < read_version r a = leb-false (read_version r a) (oldest r b) e in
      let known : read_version r a ≤ newest r a = read_known a in
      let grown = grew.newest_grew in
      read_greatest b (read_version r a) (still_readable a b (read_version r a) grew high (read_readable a f)) (omega arith)

  pub read_grows : (a b : View L) → is_gapless r a.layouts ≡ true → is_gapless r b.layouts ≡ true → GrewFrom r a b → read_version r a ≤ read_version r b
  read_grows a b f g grew = read_by a b (leb (read_version r a) (oldest r b)) refl f g grew

  -- ---- merge, raise and append only grow

  or_kept : (p q : Option L) (x : L) → p ≡ Some x → option_or p q ≡ Some x
  or_kept None q x e = cc
  or_kept (Some y) q x e = e

  pub merged_grew : (a b : View L) → is_gapless r a.layouts ≡ true → is_gapless r b.layouts ≡ true → GrewFrom r a (merged r a b)
  merged_grew a b f g =
      let o = oldest_merged r a b f g in
      let n = newest_merged r a b f g in
      record {
        entries = (joins_grow a.trackers b.trackers).0;
        oldest_grew = omega arith;
        newest_grew = omega arith;
        layouts = λ i x h e. at_merged r a b i f g ∙ (rw (le-leb (max (oldest r a) (oldest r b)) i (omega arith)) (or_kept (at r a.layouts i) (at r b.layouts i) x e));
      }

  pub merged_grew_other : (a b : View L) → is_gapless r a.layouts ≡ true → is_gapless r b.layouts ≡ true → Agree r a b → GrewFrom r b (merged r a b)
  merged_grew_other a b f g agree = subst (GrewFrom r b) (sym (merged_comm r a b f g agree)) (merged_grew b a g f)

  pub raised_grew : (which : Which) (node i : ℕ) (v : View L) → GrewFrom r v (with_entry r which node i v)
  raised_grew which node i v = record {
    entries = raises_grow which node i v.trackers;
    oldest_grew = omega arith;
    newest_grew = omega arith;
    layouts = λ i x h e. e;
  }

  last_of : (before : ℕ) (xs : List L) (l : L) → last_version r before (xs ++ l ∷ []) ≡ r.version l
  last_of before [] l = refl
  last_of before (x ∷ xs) l = last_of (r.version x) xs l

  first_of : (xs : List L) (l : L) → first_version r xs ≤ first_version r (xs ++ l ∷ [])
  first_of [] l = omega arith
  first_of (x ∷ xs) l = omega arith

  follow_on : (before : ℕ) (xs : List L) (l : L) → follow r before xs ≡ true → r.version l ≡ suc (last_version r before xs) → follow r before (xs ++ l ∷ []) ≡ true
  follow_on before [] l f e = and_both (r.version l == suc before) true (eq-eqb (r.version l) (suc before) e) refl
  follow_on before (x ∷ xs) l f e =
      let p = and_parts (r.version x == suc before) (follow r (r.version x) xs) f in
      and_both (r.version x == suc before) (follow r (r.version x) (xs ++ l ∷ [])) p.0 (follow_on (r.version x) xs l p.1 e)

  gapless_on : (xs : List L) (l : L) → is_gapless r xs ≡ true → r.version l ≡ suc (last_version r 0 xs) → is_gapless r (xs ++ l ∷ []) ≡ true
  gapless_on [] l g e = and_both (leb 1 (r.version l)) true (le-leb 1 (r.version l) (omega arith)) refl
  gapless_on (x ∷ xs) l g e =
      let p = and_parts (leb 1 (r.version x)) (follow r (r.version x) xs) g in
      and_both (leb 1 (r.version x)) (follow r (r.version x) (xs ++ l ∷ [])) p.0 (follow_on (r.version x) xs l p.1 e)

  pub gapless_appended : (v : View L) (l : L) → is_gapless r v.layouts ≡ true → r.version l ≡ suc (newest r v) → is_gapless r (appended r v l).layouts ≡ true
  gapless_appended v l g e = gapless_on v.layouts l g e

  pub newest_appended : (v : View L) (l : L) → newest r (appended r v l) ≡ r.version l
  newest_appended v l = last_of 0 v.layouts l

  pub appended_grew : (v : View L) (l : L) → r.version l ≡ suc (newest r v) → GrewFrom r v (appended r v l)
  appended_grew v l e =
      let n = newest_appended v l in
      record {
        entries = never_falls v.trackers;
        oldest_grew = first_of v.layouts l;
        newest_grew = omega arith;
        layouts = λ i x h k. find-append (λ l. r.version l == i) v.layouts (l ∷ []) ∙ or_kept (at r v.layouts i) (at r (l ∷ []) i) x k;
      }
