-- Tests on entries say the same with 0 for a missing one, above the oldest stored version.
use Rattle.std.proofs.Common.{◌≡◌, ℕ, ◌+◌, ◌<◌, ◌≤◌, min, Bool, true, false, cond, ◌&&◌, leb, List, [], ◌∷◌, map, Option, Some, None, refl, sym, ◌∙◌, ap, ap₂, arith, leb-true, le-leb, unwrap_or, fold}
use Rattle.std.specs.List.{list_all}
use Rattle.std.proofs.lemmas.Bool.{false_from_ne_true}
use Rattle.std.proofs.lemmas.Bool.Decides.{leb_tells}
use Rattle.std.proofs.Math.Bool.{and-true}
use Rattle.layout_trackers.specs.declared.which.Which.{Which}
use Rattle.layout_trackers.specs.declared.which.Which.TheVariants.{Sync, SyncAck}
use Rattle.layout_trackers.specs.Trackers.{entry}
use Rattle.layout_trackers.specs.Least.{least, lesser}
use Rattle.view_model.specs.View.{Reading, View, oldest, newest, layout_at, version_of, members_stored, least_of, have_synced, cleaned}
use Rattle.crdt_core.specs.Members.{two_pass, Has}
use Rattle.view_model.proofs.Gapless.{at, at_from}
use Rattle.view_model.proofs.Cleans.{cleaned_from}
use Rattle.control_model.specs.Facts.{entry_of}
use Rattle.version_laws.proofs.OneView.{Gapless, oldest_cleaned}

no_test : (i a : ℕ) → a < i → leb i a ≡ false
no_test i a h = false_from_ne_true (leb i a) (λ e. let le = leb-true i a e in omega arith)

missing_test : (i o : ℕ) (e : Option ℕ) → o < i → leb i (unwrap_or e o) ≡ leb i (unwrap_or e 0)
missing_test i o None h = no_test i o h ∙ sym (no_test i 0 (omega arith))
missing_test i o (Some a) h = refl

-- ---- tests that are the same at each number

count_from : (f g : ℕ → Bool) → ((n : ℕ) → f n ≡ g n) → (xs : List ℕ) (a : ℕ) → fold (λ n x. n + cond (f x) 1 0) a xs ≡ fold (λ n x. n + cond (g x) 1 0) a xs
count_from f g h [] a = refl
count_from f g h (x ∷ xs) a = ap (λ b. fold (λ n x. n + cond (f x) 1 0) (a + cond b 1 0) xs) (h x) ∙ count_from f g h xs (a + cond (g x) 1 0)

two_same : (f g : ℕ → Bool) → ((n : ℕ) → f n ≡ g n) → (set : List ℕ) → two_pass f set ≡ two_pass g set
two_same f g h set = ap (leb 2) (count_from f g h set 0)

all_same : {A : Type 0} (f g : A → Bool) → ((x : A) → f x ≡ g x) → (xs : List A) → list_all f xs ≡ list_all g xs
all_same f g h [] = refl
all_same f g h (x ∷ xs) = ap₂ (λ a b. a && b) (h x) (all_same f g h xs)

-- ---- a test of the least is a test of each

and_same : (a b c : Bool) → ((a && b) && c) ≡ (a && (b && c))
and_same true b c = refl
and_same false b c = refl

min_test : (i a b : ℕ) → leb i (min a b) ≡ (leb i a && leb i b)
min_test i a b = grind (arith, leb_tells)

fold_test : (f : ℕ → ℕ) (i a : ℕ) (xs : List ℕ) → leb i (unwrap_or (fold lesser (Some a) (map f xs)) 0) ≡ (leb i a && list_all (λ n. leb i (f n)) xs)
fold_test f i a [] = sym (and-true (leb i a))
fold_test f i a (x ∷ xs) = fold_test f i (min a (f x)) xs ∙ (ap (λ b. b && list_all (λ n. leb i (f n)) xs) (min_test i a (f x)) ∙ and_same (leb i a) (leb i (f x)) (list_all (λ n. leb i (f n)) xs))

least_test : (f : ℕ → ℕ) (i : ℕ) (xs : List ℕ) (m : ℕ) → Has xs m → leb i (unwrap_or (least (map f xs)) 0) ≡ list_all (λ n. leb i (f n)) xs
least_test f i [] m has = absurd has
least_test f i (x ∷ xs) m has = fold_test f i (f x) xs

module _ {L : Type 0} (R : Reading L) where
  pub missing_as_0 : (v : View L) (k : Which) (n i : ℕ) → oldest R v < i → leb i (version_of R k v n) ≡ leb i (entry_of k v n)
  missing_as_0 v k n i h = missing_test i (oldest R v) (entry k n v.trackers) h

  pub synced_from_0 : (v : View L) (i : ℕ) (l : L) → oldest R v < i → have_synced R v i (Some l) ≡ list_all (two_pass (λ n. leb i (entry_of Sync v n))) (R.sets l)
  synced_from_0 v i l h =
      all_same (two_pass (λ n. leb i (version_of R Sync v n))) (two_pass (λ n. leb i (entry_of Sync v n)))
      (two_same (λ n. leb i (version_of R Sync v n)) (λ n. leb i (entry_of Sync v n)) (λ n. missing_as_0 v Sync n i h)) (R.sets l)

  pub least_from_0 : (v : View L) (k : Which) (i m : ℕ) → oldest R v < i → Has (members_stored R v) m → leb i (least_of R k v) ≡ list_all (λ n. leb i (entry_of k v n)) (members_stored R v)
  least_from_0 v k i m h has =
      least_test (version_of R k v) i (members_stored R v) m has
      ∙ all_same (λ n. leb i (version_of R k v n)) (λ n. leb i (entry_of k v n)) (λ n. missing_as_0 v k n i h) (members_stored R v)

  pub cleaned_at : (v : View L) → Gapless R v → (i : ℕ) → oldest R (cleaned R v) ≤ i → layout_at R (cleaned R v) i ≡ layout_at R v i
  cleaned_at v g i h =
      let k = min (least_of R SyncAck v) (newest R v) in
      let o = oldest_cleaned R v g in
      let top : leb k i ≡ true = le-leb k i (omega arith) in
      ap (λ ls. at R ls i) (cleaned_from R v g) ∙ (at_from R k v.layouts i ∙ ap (λ b. cond b (at R v.layouts i) None) top)
