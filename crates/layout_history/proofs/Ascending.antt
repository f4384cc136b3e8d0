-- Layouts in ascending order of versions: those below a version come first.
use Rattle.std.specs.List.{list_all, count_by}
use Rattle.std.proofs.Common.{◌≡◌, ◌≤◌, ◌<◌, ℕ, suc, Bool, true, false, cond, ◌+◌, leb, nat_lt, List, [], ◌∷◌, ◌++◌, drop, refl, ap, ap₂, sym, ◌∙◌, arith}
use Rattle.std.proofs.lemmas.Bool.{leb-true, leb-false, le-leb, ltb-true, lt-ltb}
use Rattle.std.proofs.lemmas.List.Sums.{sum_by-cons}
use Rattle.crdt_core.specs.EntryLaws.{and_parts, and_both}
use Rattle.layout_roles.specs.declared.layout.Layout.{Layout}
use Rattle.view_model.specs.View.{follow, is_gapless, last_version, from}
use Rattle.view_model.proofs.Gapless.{lt_leb, followed, led}
use Rattle.view_model.specs.Layouts.{reading}
use Rattle.layout_history.specs.Known.{has_members, ascends}

le_ltb : (a b : ℕ) → b ≤ a → nat_lt a b ≡ false
le_ltb a b h = lt_leb (suc a) b (omega arith)

one_more : (n : ℕ) → 1 + n ≡ suc n
one_more n = omega arith

pub from_high : (k v : ℕ) (xs : List Layout) → ascends k xs ≡ true → v ≤ suc k → from reading v xs ≡ xs
from_high k v [] a h = refl
from_high k v (x ∷ xs) a h =
    let p = and_parts (nat_lt k x.version) (ascends x.version xs) a in
    let l : k < x.version = ltb-true k x.version p.0 in
    ap₂ (λ b ys. cond b (x ∷ ys) ys) (le-leb v x.version (omega arith)) (from_high x.version v xs p.1 (omega arith))

counted : (v : ℕ) (x : Layout) (xs : List Layout) → count_by (λ l. nat_lt l.version v) (x ∷ xs) ≡ cond (nat_lt x.version v) 1 0 + count_by (λ l. nat_lt l.version v) xs
counted v x xs = sum_by-cons (λ l. cond (nat_lt l.version v) 1 0) x xs

none_below : (k v : ℕ) (xs : List Layout) → ascends k xs ≡ true → v ≤ suc k → count_by (λ l. nat_lt l.version v) xs ≡ 0
none_below k v [] a h = refl
none_below k v (x ∷ xs) a h =
    let p = and_parts (nat_lt k x.version) (ascends x.version xs) a in
    let l : k < x.version = ltb-true k x.version p.0 in
    counted v x xs ∙ ap₂ (λ b n. cond b 1 0 + n) (le_ltb x.version v (omega arith)) (none_below x.version v xs p.1 (omega arith))

dropped_by : (v : ℕ) (x : Layout) (xs : List Layout) (b : Bool) → leb v x.version ≡ b → ascends x.version xs ≡ true →
    (drop (count_by (λ l. nat_lt l.version v) xs) xs ≡ from reading v xs) → drop (cond (nat_lt x.version v) 1 0 + count_by (λ l. nat_lt l.version v) xs) (x ∷ xs) ≡ cond b (x ∷ from reading v xs) (from reading v xs)
dropped_by v x xs true e a more =
    let h : v ≤ x.version = leb-true v x.version e in
    let count : cond (nat_lt x.version v) 1 0 + count_by (λ l. nat_lt l.version v) xs ≡ 0 = ap₂ (λ b n. cond b 1 0 + n) (le_ltb x.version v h) (none_below x.version v xs a (omega arith)) in
    ap (λ n. drop n (x ∷ xs)) count ∙ ap (λ ys. x ∷ ys) (sym (from_high x.version v xs a (omega arith)))
dropped_by v x xs false e a more =
    let h : x.version < v = leb-false v x.version e in
    let n = count_by (λ l. nat_lt l.version v) xs in
    let count : cond (nat_lt x.version v) 1 0 + n ≡ suc n = ap (λ b. cond b 1 0 + n) (lt-ltb x.version v h) ∙ one_more n in
    ap (λ n. drop n (x ∷ xs)) count ∙ more

-- the layouts below a version are dropped with as many as there are
pub dropped : (k v : ℕ) (xs : List Layout) → ascends k xs ≡ true → drop (count_by (λ l. nat_lt l.version v) xs) xs ≡ from reading v xs
dropped k v [] a = refl
dropped k v (x ∷ xs) a =
    let p = and_parts (nat_lt k x.version) (ascends x.version xs) a in
    ap (λ n. drop n (x ∷ xs)) (counted v x xs) ∙ dropped_by v x xs (leb v x.version) refl p.1 (dropped x.version v xs p.1)

-- layouts without a gap ascend
pub follow_ascends : (before : ℕ) (xs : List Layout) → follow reading before xs ≡ true → ascends before xs ≡ true
follow_ascends before [] f = refl
follow_ascends before (x ∷ xs) f =
    let p = followed reading before x xs f in
    let v : x.version ≡ suc before = p.0 in
    and_both (nat_lt before x.version) (ascends x.version xs) (lt-ltb before x.version (omega arith)) (follow_ascends x.version xs p.1)

pub gapless_ascends : (xs : List Layout) → is_gapless reading xs ≡ true → ascends 0 xs ≡ true
gapless_ascends [] g = refl
gapless_ascends (x ∷ xs) g =
    let p = led reading x xs g in
    let h : 1 ≤ x.version = p.0 in
    and_both (nat_lt 0 x.version) (ascends x.version xs) (lt-ltb 0 x.version (omega arith)) (follow_ascends x.version xs p.1)

pub ascends_on : (before : ℕ) (xs ys : List Layout) → ascends before xs ≡ true → ascends (last_version reading before xs) ys ≡ true → ascends before (xs ++ ys) ≡ true
ascends_on before [] ys a b = b
ascends_on before (x ∷ xs) ys a b =
    let p = and_parts (nat_lt before x.version) (ascends x.version xs) a in
    and_both (nat_lt before x.version) (ascends x.version (xs ++ ys)) p.0 (ascends_on x.version xs ys p.1 b)

above_by : (n : ℕ) (x : Layout) (xs : List Layout) (b : Bool) → leb (suc n) x.version ≡ b → ascends x.version xs ≡ true → ascends n (from reading (suc n) xs) ≡ true → ascends n (cond b (x ∷ from reading (suc n) xs) (from reading (suc n) xs)) ≡ true
above_by n x xs true e a more =
    let h : suc n ≤ x.version = leb-true (suc n) x.version e in
    and_both (nat_lt n x.version) (ascends x.version (from reading (suc n) xs)) (lt-ltb n x.version (omega arith))
    (ap (ascends x.version) (from_high x.version (suc n) xs a (omega arith)) ∙ a)
above_by n x xs false e a more = more

pub ascends_above : (k n : ℕ) (xs : List Layout) → ascends k xs ≡ true → ascends n (from reading (suc n) xs) ≡ true
ascends_above k n [] a = refl
ascends_above k n (x ∷ xs) a =
    let p = and_parts (nat_lt k x.version) (ascends x.version xs) a in
    above_by n x xs (leb (suc n) x.version) refl p.1 (ascends_above x.version n xs p.1)

-- a list, and what another has above it
pub both_ascend : (xs ys : List Layout) → is_gapless reading xs ≡ true → is_gapless reading ys ≡ true → ascends 0 (xs ++ from reading (suc (last_version reading 0 xs)) ys) ≡ true
both_ascend xs ys f g =
    let n = last_version reading 0 xs in
    ascends_on 0 xs (from reading (suc n) ys) (gapless_ascends xs f) (ascends_above 0 n ys (gapless_ascends ys g))

-- ---- each layout has members

inhabited_by : (v : ℕ) (x : Layout) (xs : List Layout) (b : Bool) → has_members x ≡ true → list_all has_members (from reading v xs) ≡ true → list_all has_members (cond b (x ∷ from reading v xs) (from reading v xs)) ≡ true
inhabited_by v x xs true h more = and_both (has_members x) (list_all has_members (from reading v xs)) h more
inhabited_by v x xs false h more = more

pub inhabited_from : (v : ℕ) (xs : List Layout) → list_all has_members xs ≡ true → list_all has_members (from reading v xs) ≡ true
inhabited_from v [] h = refl
inhabited_from v (x ∷ xs) h =
    let p = and_parts (has_members x) (list_all has_members xs) h in
    inhabited_by v x xs (leb v x.version) p.0 (inhabited_from v xs p.1)

pub inhabited_on : (xs ys : List Layout) → list_all has_members xs ≡ true → list_all has_members ys ≡ true → list_all has_members (xs ++ ys) ≡ true
inhabited_on [] ys h k = k
inhabited_on (x ∷ xs) ys h k =
    let p = and_parts (has_members x) (list_all has_members xs) h in
    and_both (has_members x) (list_all has_members (xs ++ ys)) p.0 (inhabited_on xs ys p.1 k)
