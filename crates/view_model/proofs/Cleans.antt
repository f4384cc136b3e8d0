-- What a clean leaves.
use Rattle.std.specs.Prelude.{◌≡◌, ◌≤◌, ◌<◌, ℕ, zero, suc, min, Bool, true, false, cond, ◌||◌, ◌==◌, leb, List, [], ◌∷◌, Option, None, refl}
use Rattle.std.specs.List.{filter}
use Rattle.std.proofs.Common.{ap, ap₂, sym, ◌∙◌, arith}
use Rattle.std.proofs.lemmas.Bool.{eqb-true, eqb-false, leb-true, leb-false, le-leb}
use Rattle.std.proofs.Math.Bool.{or-true, or-false}
use Rattle.view_model.specs.View.{Reading, View, follow, is_gapless, last_version, from, newest, least_of, cleaned}
use Rattle.layout_trackers.specs.declared.which.Which.TheVariants.{SyncAck}
use Rattle.view_model.proofs.Gapless.{at, lt_leb, beyond, followed, led, last_least, inside, above_newest, last_is, at_from, gapless_from, oldest_least}

below_both : (v n least : ℕ) (b : Bool) → (v == n) ≡ b → v ≤ n → v < least → b ≡ leb (min least n) v
below_both v n least true e h k = let same : v ≡ n = eqb-true v n e in sym (le-leb (min least n) v (omega arith))
below_both v n least false e h k = let low : v < n = beyond v n h (eqb-false v n e) in sym (lt_leb (min least n) v (omega arith))

keep_by : (v n least : ℕ) (b : Bool) → leb least v ≡ b → v ≤ n → ((v == n) || b) ≡ leb (min least n) v
keep_by v n least true e h = let k : least ≤ v = leb-true least v e in or-true (v == n) ∙ sym (le-leb (min least n) v (omega arith))
keep_by v n least false e h = or-false (v == n) ∙ below_both v n least (v == n) refl h (leb-false least v e)

module _ {L : Type 0} (r : Reading L) where
  kept_follow : (before n least : ℕ) (xs : List L) → follow r before xs ≡ true → last_version r before xs ≤ n → filter (λ l. (r.version l == n) || leb least (r.version l)) xs ≡ from r (min least n) xs
  kept_follow before n least [] f h = refl
  kept_follow before n least (x ∷ xs) f h =
      let p = followed r before x xs f in
      let k : r.version x ≤ last_version r (r.version x) xs = last_least r (r.version x) xs p.1 in
      ap₂ (λ b ys. cond b (x ∷ ys) ys) (keep_by (r.version x) n least (leb least (r.version x)) refl (omega arith)) (kept_follow (r.version x) n least xs p.1 h)

  kept : (n least : ℕ) (xs : List L) → is_gapless r xs ≡ true → last_version r 0 xs ≤ n → filter (λ l. (r.version l == n) || leb least (r.version l)) xs ≡ from r (min least n) xs
  kept n least [] g h = refl
  kept n least (x ∷ xs) g h =
      let p = led r x xs g in
      let k : r.version x ≤ last_version r (r.version x) xs = last_least r (r.version x) xs p.1 in
      ap₂ (λ b ys. cond b (x ∷ ys) ys) (keep_by (r.version x) n least (leb least (r.version x)) refl (omega arith)) (kept_follow (r.version x) n least xs p.1 h)

  -- a clean leaves the versions from the least sync-ack on, or the newest alone
  pub cleaned_from : (v : View L) → is_gapless r v.layouts ≡ true → (cleaned r v).layouts ≡ from r (min (least_of r SyncAck v) (newest r v)) v.layouts
  cleaned_from v g = kept (newest r v) (least_of r SyncAck v) v.layouts g (omega arith)

  pub gapless_cleaned : (v : View L) → is_gapless r v.layouts ≡ true → is_gapless r (cleaned r v).layouts ≡ true
  gapless_cleaned v g = ap (is_gapless r) (cleaned_from v g) ∙ gapless_from r (min (least_of r SyncAck v) (newest r v)) v.layouts g

  at_cleaned : (v : View L) (i : ℕ) → is_gapless r v.layouts ≡ true → at r (cleaned r v).layouts i ≡ cond (leb (min (least_of r SyncAck v) (newest r v)) i) (at r v.layouts i) None
  at_cleaned v i g = ap (λ ls. at r ls i) (cleaned_from v g) ∙ at_from r (min (least_of r SyncAck v) (newest r v)) v.layouts i

  pub newest_kept : (v : View L) → is_gapless r v.layouts ≡ true → at r (cleaned r v).layouts (newest r v) ≡ at r v.layouts (newest r v)
  newest_kept v g = at_cleaned v (newest r v) g ∙ rw (le-leb (min (least_of r SyncAck v) (newest r v)) (newest r v) (omega arith)) refl

  no_layout : (xs : List L) → last_version r 0 xs ≡ 0 → is_gapless r xs ≡ true → xs ≡ []
  no_layout [] e g = refl
  no_layout (x ∷ xs) e g =
      let p = led r x xs g in
      let h : 1 ≤ r.version x = p.0 in
      let k : r.version x ≤ last_version r (r.version x) xs = last_least r (r.version x) xs p.1 in
      let never : ⊥ = omega arith in absurd never

  cond_same : (b : Bool) → ◌≡◌ {A = Option L} (cond b None None) None
  cond_same true = refl
  cond_same false = refl

  none_kept : (v : View L) → newest r v ≡ 0 → is_gapless r v.layouts ≡ true → v.layouts ≡ []
  none_kept v e g = no_layout v.layouts e g

  newest_by : (v : View L) (m : ℕ) → newest r v ≡ m → is_gapless r v.layouts ≡ true → newest r (cleaned r v) ≡ m
  newest_by v zero e g = ap (λ ls. last_version r 0 ls) (cleaned_from v g ∙ ap (from r (min (least_of r SyncAck v) (newest r v))) (none_kept v e g))
  newest_by v (suc m) e g =
      let p = oldest_least r v.layouts g in
      let s = inside r v.layouts (newest r v) g (omega arith) p (omega arith) in
      let there = newest_kept v g ∙ s.1 in
      last_is r (cleaned r v).layouts (suc m) (gapless_cleaned v g) (s.0, ap (at r (cleaned r v).layouts) (sym e) ∙ there)
      (λ i h. at_cleaned v i g ∙ (ap (λ p. cond (leb (min (least_of r SyncAck v) (newest r v)) i) p None) (above_newest r v.layouts i g (omega arith)) ∙ cond_same (leb (min (least_of r SyncAck v) (newest r v)) i)))

  -- a clean never drops the newest version
  pub newest_stays : (v : View L) → is_gapless r v.layouts ≡ true → newest r (cleaned r v) ≡ newest r v
  newest_stays v g = newest_by v (newest r v) refl g
