-- Keys that begin with a prefix stand together among keys in order.
use Rattle.std.specs.Prelude.{◌≡◌, ℕ, Bool, true, false, ◌&&◌, nat_eq, List, [], ◌∷◌, Vec, filter, refl}
use Rattle.std.proofs.Common.{ap, sym, ◌∙◌}
use Rattle.std.specs.List.{starts_with, AllByRecursion}
use Rattle.std.specs.List.Sorted.{IsStrictlySortedBy}
use Rattle.std.proofs.lemmas.Map.Keys.{sorted_head, sorted_tail}
use Rattle.std.specs.Map.{keys_of}
use Rattle.std.specs.declared.cmp.Ordering.{Ordering}
use Rattle.std.specs.declared.cmp.Ordering.TheVariants.{Less, Equal, Greater}
use Rattle.std.specs.Ordering.{nat_cmp, is_lt, is_le, ordering_then}
use Rattle.std.specs.Cmp.Lexicographic.{slice_cmp}
use Rattle.std.proofs.lemmas.Bool.{eqb-true, eq-eqb, and_parts}
use Rattle.std.proofs.lemmas.Cmp.{nat_cmp_total, nat_list_cmp_total, tied_itself, tied_back, alike_right}
use Rattle.crdt_core.specs.IdentityLaws.{nat_identical}
use Rattle.crdt_core.specs.LexLaws.{turned}
use Rattle.table_store.specs.declared.shelf.Placed.{Placed}
use Rattle.table_store.specs.Shelf.{begins, is_after, leading, vec_cmp}

-- ---- bytes

le_by : (x y : ℕ) (o : Ordering) → x ≡ y → is_le o ≡ true → is_le (ordering_then (nat_cmp x y) o) ≡ true
le_by x y o e h = rw (sym e, tied_itself nat_cmp_total x) h

-- what begins with the prefix is no smaller than it
pub prefix_le : (prefix key : List ℕ) → starts_with nat_eq key prefix ≡ true → is_le (slice_cmp nat_cmp prefix key) ≡ true
prefix_le [] [] h = refl
prefix_le [] (y ∷ key) h = refl
prefix_le (x ∷ prefix) [] h = cc
prefix_le (x ∷ prefix) (y ∷ key) h =
    let both = and_parts (nat_eq x y) (starts_with nat_eq key prefix) h in
    le_by x y (slice_cmp nat_cmp prefix key) (eqb-true x y both.0) (prefix_le prefix key both.1)

-- between the prefix and a key that begins with it all begin with it
between_by : (x y z : ℕ) (p a b : List ℕ) → x ≡ z → (is_le (slice_cmp nat_cmp p a) ≡ true → slice_cmp nat_cmp a b ≡ Less → starts_with nat_eq a p ≡ true) →
    is_le (ordering_then (nat_cmp x y) (slice_cmp nat_cmp p a)) ≡ true → ordering_then (nat_cmp y z) (slice_cmp nat_cmp a b) ≡ Less → (o : Ordering) → nat_cmp x y ≡ o → (nat_eq x y && starts_with nat_eq a p) ≡ true
between_by x y z p a b e rest low high Less o =
    let back : nat_cmp y z ≡ Greater = ap (nat_cmp y) (sym e) ∙ turned nat_cmp_total x y Less o in
    let wrong : Greater ≡ Less = sym (ap (λ q. ordering_then q (slice_cmp nat_cmp a b)) back) ∙ high in
    cc
between_by x y z p a b e rest low high Equal o =
    let same : x ≡ y = nat_identical x y o in
    let tied : nat_cmp y z ≡ Equal = ap (nat_cmp y) (sym e) ∙ tied_back nat_cmp_total x y o in
    let here : nat_eq x y ≡ true = eq-eqb x y same in
    let later = rest (sym (ap (λ q. is_le (ordering_then q (slice_cmp nat_cmp p a))) o) ∙ low) (sym (ap (λ q. ordering_then q (slice_cmp nat_cmp a b)) tied) ∙ high) in
    rw (here, later) refl
between_by x y z p a b e rest low high Greater o =
    let wrong : false ≡ true = sym (ap (λ q. is_le (ordering_then q (slice_cmp nat_cmp p a))) o) ∙ low in
    cc

pub between_begins : (prefix a b : List ℕ) → is_le (slice_cmp nat_cmp prefix a) ≡ true → slice_cmp nat_cmp a b ≡ Less → starts_with nat_eq b prefix ≡ true → starts_with nat_eq a prefix ≡ true
between_begins [] a b low high h = refl
between_begins (x ∷ p) [] b low high h = cc
between_begins (x ∷ p) (y ∷ a) [] low high h = cc
between_begins (x ∷ p) (y ∷ a) (z ∷ b) low high h =
    let both = and_parts (nat_eq x z) (starts_with nat_eq b p) h in
    between_by x y z p a b (eqb-true x z both.0) (λ l k. between_begins p a b l k both.1) low high (nat_cmp x y) refl

-- ---- where keys of a window begin

included_by : (prefix after key : List ℕ) → slice_cmp nat_cmp after prefix ≡ Less → (o : Ordering) → slice_cmp nat_cmp prefix key ≡ o → is_le (slice_cmp nat_cmp prefix key) ≡ (is_le (slice_cmp nat_cmp prefix key) && is_lt (slice_cmp nat_cmp after key))
included_by prefix after key h Less o = rw (o, nat_list_cmp_total.trans after prefix key h o) refl
included_by prefix after key h Equal o =
    let same : slice_cmp nat_cmp after key ≡ Less = sym (alike_right nat_list_cmp_total prefix key after o) ∙ h in
    rw (o, same) refl
included_by prefix after key h Greater o = rw o refl

pub from_prefix : (prefix after key : List ℕ) → slice_cmp nat_cmp after prefix ≡ Less → is_le (slice_cmp nat_cmp prefix key) ≡ (is_le (slice_cmp nat_cmp prefix key) && is_lt (slice_cmp nat_cmp after key))
from_prefix prefix after key h = included_by prefix after key h (slice_cmp nat_cmp prefix key) refl

before_by : (prefix after key : List ℕ) → slice_cmp nat_cmp after key ≡ Less → (o : Ordering) → slice_cmp nat_cmp after prefix ≡ o → is_lt o ≡ false → is_le (slice_cmp nat_cmp prefix key) ≡ true
before_by prefix after key h Less o past = cc
before_by prefix after key h Equal o past = ap is_le (nat_list_cmp_total.congr prefix after key (tied_back nat_list_cmp_total after prefix o) ∙ h)
before_by prefix after key h Greater o past = ap is_le (nat_list_cmp_total.trans prefix after key (turned nat_list_cmp_total after prefix Greater o) h)

and_false : (b : Bool) → false ≡ (b && false)
and_false true = refl
and_false false = refl

excluded_by : (prefix after key : List ℕ) → is_lt (slice_cmp nat_cmp after prefix) ≡ false → (o : Ordering) → slice_cmp nat_cmp after key ≡ o → is_lt (slice_cmp nat_cmp after key) ≡ (is_le (slice_cmp nat_cmp prefix key) && is_lt (slice_cmp nat_cmp after key))
excluded_by prefix after key h Less o = rw (o, before_by prefix after key o (slice_cmp nat_cmp after prefix) refl h) refl
excluded_by prefix after key h Equal o = rw o (and_false (is_le (slice_cmp nat_cmp prefix key)))
excluded_by prefix after key h Greater o = rw o (and_false (is_le (slice_cmp nat_cmp prefix key)))

pub from_after : (prefix after key : List ℕ) → is_lt (slice_cmp nat_cmp after prefix) ≡ false → is_lt (slice_cmp nat_cmp after key) ≡ (is_le (slice_cmp nat_cmp prefix key) && is_lt (slice_cmp nat_cmp after key))
from_after prefix after key h = excluded_by prefix after key h (slice_cmp nat_cmp after key) refl

-- ---- entries

module _ {R Z : Type 0} (prefix after : List ℕ) where
  -- the key may have the prefix, and is greater than `after`
  abbrev pub is_from : Vec ℕ Z × Placed R → Bool
  is_from e = is_le (slice_cmp nat_cmp prefix e.0.items) && is_lt (slice_cmp nat_cmp after e.0.items)

  late_by : (k e : Vec ℕ Z × Placed R) → is_le (slice_cmp nat_cmp prefix k.0.items) ≡ true → begins prefix k ≡ false → vec_cmp k.0 e.0 ≡ Less → (b : Bool) → begins prefix e ≡ b → b ≡ false
  late_by k e low lacking less true h =
      let has : begins prefix k ≡ true = between_begins prefix k.0.items e.0.items low less h in
      let wrong : true ≡ false = sym has ∙ lacking in
      cc
  late_by k e low lacking less false h = refl

  -- past a key that lacks the prefix no key has it
  none_later : (k : Vec ℕ Z × Placed R) (es : List (Vec ℕ Z × Placed R)) → is_le (slice_cmp nat_cmp prefix k.0.items) ≡ true → begins prefix k ≡ false → AllByRecursion (λ q. vec_cmp k.0 q ≡ Less) (keys_of es) → filter (is_after prefix after) es ≡ []
  none_later k [] low lacking all = refl
  none_later k (e ∷ es) low lacking all =
      let lacks : begins prefix e ≡ false = late_by k e low lacking all.0 (begins prefix e) refl in
      rw lacks (none_later k es low lacking all.1)

  cons_by : (e : Vec ℕ Z × Placed R) (es : List (Vec ℕ Z × Placed R)) → AllByRecursion (λ q. vec_cmp e.0 q ≡ Less) (keys_of es) → filter (is_after prefix after) es ≡ leading (begins prefix) (filter is_from es) →
      (b l a : Bool) → begins prefix e ≡ b → is_le (slice_cmp nat_cmp prefix e.0.items) ≡ l → is_lt (slice_cmp nat_cmp after e.0.items) ≡ a →
      filter (is_after prefix after) (e ∷ es) ≡ leading (begins prefix) (filter is_from (e ∷ es))
  cons_by e es all rest true true true hb hl ha = rw (hb, hl, ha, hb) (ap (λ l. e ∷ l) rest)
  cons_by e es all rest true true false hb hl ha = rw (hb, hl, ha) rest
  cons_by e es all rest true false a hb hl ha = let wrong : false ≡ true = sym hl ∙ prefix_le prefix e.0.items hb in cc
  cons_by e es all rest false true true hb hl ha = rw (hb, hl, ha, hb) (none_later e es hl hb all)
  cons_by e es all rest false true false hb hl ha = rw (hb, hl, ha) rest
  cons_by e es all rest false false a hb hl ha = rw (hb, hl) rest

  -- in keys in order, the window is what begins with the prefix from its start on
  pub window_is : (es : List (Vec ℕ Z × Placed R)) → IsStrictlySortedBy vec_cmp (keys_of es) → filter (is_after prefix after) es ≡ leading (begins prefix) (filter is_from es)
  window_is [] sorted = refl
  window_is (e ∷ es) sorted =
      cons_by e es (sorted_head vec_cmp e.0 (keys_of es) sorted) (window_is es (sorted_tail vec_cmp e.0 (keys_of es) sorted)) (begins prefix e) (is_le (slice_cmp nat_cmp prefix e.0.items)) (is_lt (slice_cmp nat_cmp after e.0.items)) refl refl refl
