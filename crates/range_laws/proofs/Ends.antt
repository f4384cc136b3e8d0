-- Where a window ends: at most where each answer does, and under the position that was asked for.
use Rattle.std.specs.Prelude.{◌≡◌, ℕ, nat_eq, Bool, true, false, not, List, [], ◌∷◌, ◌++◌, length, drop, Option, Some, None, refl}
use Rattle.std.specs.List.{starts_with}
use Rattle.std.proofs.Common.{ap, sym, ◌∙◌}
use Rattle.std.proofs.lemmas.Bool.{eqb-true, not-true}
use Rattle.std.proofs.lemmas.Cmp.{nat_list_cmp_total}
use Rattle.std.specs.declared.cmp.Ordering.{Ordering}
use Rattle.std.specs.declared.cmp.Ordering.TheVariants.{Less, Equal, Greater}
use Rattle.std.specs.Ordering.{is_lt}
use Rattle.crdt_core.specs.LexLaws.{turned}
use Rattle.crdt_core.specs.EntryLaws.{and_parts}
use Rattle.quorum_model.specs.Window.{key_cmp, nearer, is_within}

-- ---- the nearer end

pub not_false : (b : Bool) → b ≡ false → not b ≡ true
not_false b e = ap not e

-- k is at most l, and key at most k
lower_by : (k l key : List ℕ) → is_lt (key_cmp l k) ≡ false → is_lt (key_cmp k key) ≡ false → (o p : Ordering) → key_cmp l key ≡ o → key_cmp l k ≡ p → is_lt (key_cmp l key) ≡ false
lower_by k l key h g Equal p e f = ap is_lt e
lower_by k l key h g Greater p e f = ap is_lt e
lower_by k l key h g Less Less e f = let no : false ≡ true = sym h ∙ ap is_lt f in cc
lower_by k l key h g Less Equal e f = let no : false ≡ true = sym g ∙ ap is_lt (sym (nat_list_cmp_total.congr l k key f) ∙ e) in cc
lower_by k l key h g Less Greater e f = let no : false ≡ true = sym g ∙ ap is_lt (nat_list_cmp_total.trans k l key (turned nat_list_cmp_total l k Greater f) e) in cc

lower : (k l key : List ℕ) → is_lt (key_cmp l k) ≡ false → is_lt (key_cmp k key) ≡ false → is_lt (key_cmp l key) ≡ false
lower k l key h g = lower_by k l key h g (key_cmp l key) (key_cmp l k) refl refl

not_both : (k l : List ℕ) → is_lt (key_cmp k l) ≡ true → (o : Ordering) → key_cmp l k ≡ o → is_lt (key_cmp l k) ≡ false
not_both k l h Less e = let no : false ≡ true = sym (ap is_lt (turned nat_list_cmp_total l k Less e)) ∙ h in cc
not_both k l h Equal e = ap is_lt e
not_both k l h Greater e = ap is_lt e

nearer_by : (k l key : List ℕ) (b : Bool) → is_lt (key_cmp l k) ≡ b → is_within (nearer (Some k) (Some l)) key ≡ true → (is_within (Some k) key ≡ true) × (is_within (Some l) key ≡ true)
nearer_by k l key true e h =
    let at_l : is_within (Some l) key ≡ true = rw e at h in
    let past : is_lt (key_cmp k key) ≡ false = lower l k key (not_both l k e (key_cmp k l) refl) (not-true (is_lt (key_cmp l key)) at_l) in
    (not_false (is_lt (key_cmp k key)) past, at_l)
nearer_by k l key false e h =
    let at_k : is_within (Some k) key ≡ true = rw e at h in
    let past : is_lt (key_cmp l key) ≡ false = lower k l key e (not-true (is_lt (key_cmp k key)) at_k) in
    (at_k, not_false (is_lt (key_cmp l key)) past)

-- what is within the nearer of two ends is within both
pub within_both : (a b : Option (List ℕ)) (key : List ℕ) → is_within (nearer a b) key ≡ true → (is_within a key ≡ true) × (is_within b key ≡ true)
within_both None b key h = (refl, h)
within_both (Some k) None key h = (h, refl)
within_both (Some k) (Some l) key h = nearer_by k l key (is_lt (key_cmp l k)) refl h

-- ---- a key and its position

-- a key that begins with the position is the position and what follows it
pub begins_with : (position prefix key : List ℕ) → starts_with nat_eq key (position ++ prefix) ≡ true → position ++ drop (length position) key ≡ key
begins_with [] prefix key h = refl
begins_with (x ∷ xs) prefix [] h = cc
begins_with (x ∷ xs) prefix (y ∷ ys) h =
    let parts = and_parts (nat_eq x y) (starts_with nat_eq ys (xs ++ prefix)) h in
    λ i. eqb-true x y parts.0 i ∷ begins_with xs prefix ys parts.1 i
