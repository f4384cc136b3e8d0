-- The numbers of open collections by the keys of their rows, as collections come, change and go.
use Rattle.std.proofs.Common.{◌≡◌, ◌<◌, ℕ, zero, suc, true, false, ◌==◌, not, cond, Bool, List, [], ◌∷◌, ◌++◌, Option, Some, None, map, Result, Ok, Err, refl, ap, sym, ◌∙◌, arith, eq-eqb, subst}
use Rattle.std.specs.Prelude.{nat_eq, slice_get, slice_set, remove, OnOk, OnErr}
use Rattle.std.specs.Global.{Vec}
use Rattle.std.specs.List.{filter, find}
use Rattle.std.specs.Option.{is_some}
use Rattle.std.specs.Map.{IsKeyTest, AreApart, KeepsOthers, lookup}
use Rattle.std.specs.BTreeMap.{UpdatesBy, is_at}
use Rattle.std.specs.Ordering.{nat_cmp, is_eq, eq_by_cmp}
use Rattle.std.specs.Cmp.{Equal-is}
use Rattle.std.specs.Cmp.Lexicographic.{pointwise, slice_cmp}
use Rattle.std.specs.declared.cmp.Ordering.{Ordering}
use Rattle.std.proofs.lemmas.Bool.{both_ways}
use Rattle.std.proofs.lemmas.Cmp.{nat_list_cmp_total, tied_itself}
use Rattle.std.proofs.lemmas.Map.Text.{is_eq-slice_cmp}
use Rattle.std.proofs.lemmas.Option.{same_Some}
use Rattle.crdt_core.specs.IdentityLaws.{slice_identical, nat_identical}
use Rattle.numbered_list.specs.Numbers.{Rises}
use Rattle.numbered_list.proofs.Numbering.{apart_above, left_of, one_left_out}
use Rattle.gc_model.specs.Collecting.{number_of}
use Rattle.gc_model.specs.declared.collection.Collection.{Collection}
use Rattle.table_gc.specs.Keys.{Keys, numbers_in, numbers_at, Adds, Removes, is_of, AreKeyed}

-- ---- keys

abbrev vec_cmp : Vec ℕ → Vec ℕ → Ordering
vec_cmp x y = slice_cmp nat_cmp x.items y.items

abbrev at : List ℕ → Vec ℕ → Bool
at key = is_at (λ k. slice_cmp nat_cmp key k.items)

pub same_key : (a b : List ℕ) → pointwise nat_eq a b ≡ true → a ≡ b
same_key a b h = slice_identical nat_identical a b ((Equal-is _).0 (is_eq-slice_cmp a b ∙ h))

pub key_itself : (a : List ℕ) → pointwise nat_eq a a ≡ true
key_itself a = sym (is_eq-slice_cmp a a) ∙ ap is_eq (tied_itself nat_list_cmp_total a)

key_test : (key : List ℕ) → IsKeyTest (eq_by_cmp vec_cmp) (at key)
key_test key x y h =
    let one : key ≡ x.items = slice_identical nat_identical key x.items ((Equal-is _).0 h) in
    ap (λ k. is_eq (slice_cmp nat_cmp k y.items)) one

apart_by : (key other : List ℕ) (k : Vec ℕ) → pointwise nat_eq key other ≡ false → at key k ≡ true → (b : Bool) → at other k ≡ b → at other k ≡ false
apart_by key other k apart h true is =
    let one : key ≡ k.items = slice_identical nat_identical key k.items ((Equal-is _).0 h) in
    let two : other ≡ k.items = slice_identical nat_identical other k.items ((Equal-is _).0 is) in
    let same : pointwise nat_eq key other ≡ true = ap (pointwise nat_eq key) (two ∙ sym one) ∙ key_itself key in
    absurd (both_ways (pointwise nat_eq key other) apart same)
apart_by key other k apart h false is = is

are_apart : (key other : List ℕ) → pointwise nat_eq key other ≡ false → AreApart (at key) (at other)
are_apart key other apart k h = apart_by key other k apart h (at other k) refl

module _ (key : List ℕ) (old new : Keys) (w : Option (Vec ℕ)) (updates : UpdatesBy vec_cmp (λ k. slice_cmp nat_cmp key k.items) old new w) where
  after_by : (other : List ℕ) (b : Bool) → pointwise nat_eq key other ≡ b → numbers_at other new ≡ cond b (numbers_in w) (numbers_at other old)
  unfolding KeepsOthers
  after_by other true h = ap (λ k. numbers_at k new) (sym (same_key key other h)) ∙ ap numbers_in updates.1
  after_by other false h = ap numbers_in (updates.3 (at other) (key_test other) (are_apart key other h))

  -- what stands at each key after the one at this key was written
  pub numbers_after : (other : List ℕ) → numbers_at other new ≡ cond (pointwise nat_eq key other) (numbers_in w) (numbers_at other old)
  numbers_after other = after_by other (pointwise nat_eq key other) refl

  changed_by : (f : List ℕ → List ℕ) → numbers_in w ≡ f (numbers_at key old) → (other : List ℕ) (b : Bool) → pointwise nat_eq key other ≡ b → cond b (numbers_in w) (numbers_at other old) ≡ cond b (f (numbers_at other old)) (numbers_at other old)
  changed_by f is other true h = is ∙ ap (λ k. f (numbers_at k old)) (same_key key other h)
  changed_by f is other false h = refl

  -- the same, where it was changed
  pub numbers_changed : (f : List ℕ → List ℕ) → numbers_in w ≡ f (numbers_at key old) → (other : List ℕ) → numbers_at other new ≡ cond (pointwise nat_eq key other) (f (numbers_at other old)) (numbers_at other old)
  numbers_changed f is other = numbers_after other ∙ changed_by f is other (pointwise nat_eq key other) refl

  either_same : (b : Bool) (ns : List ℕ) → cond b ns ns ≡ ns
  either_same true ns = refl
  either_same false ns = refl

  -- the same, where it wasn't
  pub numbers_same : numbers_in w ≡ numbers_at key old → (other : List ℕ) → numbers_at other new ≡ numbers_at other old
  numbers_same is other = numbers_changed (λ ns. ns) is other ∙ either_same (pointwise nat_eq key other) (numbers_at other old)

-- ---- collections

abbrev pub numbers : List ℕ → List Collection → List ℕ
numbers key cs = map number_of (filter (is_of key) cs)

module _ (key : List ℕ) (c : Collection) where
  more_here : is_of key c ≡ true → (cs : List Collection) → numbers key (cs ++ c ∷ []) ≡ numbers key cs ++ c.number ∷ []
  more_here h [] = ap (λ b. map number_of (cond b (c ∷ []) [])) h
  more_here h (x ∷ xs) =
      elim (is_of key x) as (λ b. map number_of (cond b (x ∷ filter (is_of key) (xs ++ c ∷ [])) (filter (is_of key) (xs ++ c ∷ []))) ≡ map number_of (cond b (x ∷ filter (is_of key) xs) (filter (is_of key) xs)) ++ c.number ∷ []) [
        | true ↦ ap (λ ns. x.number ∷ ns) (more_here h xs)
        | false ↦ more_here h xs
      ]

  more_apart : is_of key c ≡ false → (cs : List Collection) → numbers key (cs ++ c ∷ []) ≡ numbers key cs
  more_apart h [] = ap (λ b. map number_of (cond b (c ∷ []) [])) h
  more_apart h (x ∷ xs) =
      elim (is_of key x) as (λ b. map number_of (cond b (x ∷ filter (is_of key) (xs ++ c ∷ [])) (filter (is_of key) (xs ++ c ∷ []))) ≡ map number_of (cond b (x ∷ filter (is_of key) xs) (filter (is_of key) xs))) [
        | true ↦ ap (λ ns. x.number ∷ ns) (more_apart h xs)
        | false ↦ more_apart h xs
      ]

-- one more collection
pub keyed_more : (c : Collection) (cs : List Collection) (old new : Keys) → Adds c.key c.number old new → AreKeyed old cs → AreKeyed new (cs ++ c ∷ [])
keyed_more c cs old new adds are key = adds key ∙ more_by (is_of key c) refl
  where
    more_by : (b : Bool) → is_of key c ≡ b → cond b (numbers_at key old ++ c.number ∷ []) (numbers_at key old) ≡ numbers key (cs ++ c ∷ [])
    more_by true h = ap (λ ns. ns ++ c.number ∷ []) (are key) ∙ sym (more_here key c h cs)
    more_by false h = are key ∙ sym (more_apart key c h cs)

-- without one of the collections
left_by : (key : List ℕ) (n : ℕ) (x : Collection) (xs : List Collection) → numbers key (left_of number_of n xs) ≡ filter (λ m. not (m == n)) (numbers key xs) → (a : Bool) → (x.number == n) ≡ a → (b : Bool) → is_of key x ≡ b →
    numbers key (cond (not (x.number == n)) (x ∷ left_of number_of n xs) (left_of number_of n xs)) ≡ filter (λ m. not (m == n)) (map number_of (cond (is_of key x) (x ∷ filter (is_of key) xs) (filter (is_of key) xs)))
left_by key n x xs rest true h true of-key = rw (h, of-key) (rw h rest)
left_by key n x xs rest true h false of-key = rw (h, of-key) rest
left_by key n x xs rest false h true of-key = rw (h, of-key) (rw h (ap (λ ns. x.number ∷ ns) rest))
left_by key n x xs rest false h false of-key = rw (h, of-key) rest

filter_numbers : (key : List ℕ) (n : ℕ) (cs : List Collection) → numbers key (left_of number_of n cs) ≡ filter (λ m. not (m == n)) (numbers key cs)
filter_numbers key n [] = refl
filter_numbers key n (x ∷ xs) = left_by key n x xs (filter_numbers key n xs) (x.number == n) refl (is_of key x) refl

without_apart : (key : List ℕ) (cs : List Collection) (i : ℕ) (v : Collection) → slice_get cs i ≡ Some v → is_of key v ≡ false → filter (is_of key) (remove cs i) ≡ filter (is_of key) cs
without_apart key [] i v at_i apart = absurd (let no : false ≡ true = ap is_some at_i in cc)
without_apart key (x ∷ xs) zero v at_i apart =
    let here : is_of key x ≡ false = ap (is_of key) (same_Some x v at_i) ∙ apart in
    sym (ap (λ b. cond b (x ∷ filter (is_of key) xs) (filter (is_of key) xs)) here)
without_apart key (x ∷ xs) (suc i) v at_i apart =
    ap (λ rest. cond (is_of key x) (x ∷ rest) rest) (without_apart key xs i v at_i apart)

pub keyed_left : (n i : ℕ) (v : Collection) (cs : List Collection) (old new : Keys) → Rises 0 (map number_of cs) → slice_get cs i ≡ Some v → v.number ≡ n → Removes v.key n old new → AreKeyed old cs → AreKeyed new (left_of number_of n cs)
keyed_left n i v cs old new rises at_i is removes are key = removes key ∙ gone_by (is_of key v) refl
  where
    gone_by : (b : Bool) → is_of key v ≡ b → cond b (filter (λ m. not (m == n)) (numbers_at key old)) (numbers_at key old) ≡ numbers key (left_of number_of n cs)
    gone_by true h = ap (filter (λ m. not (m == n))) (are key) ∙ sym (filter_numbers key n cs)
    gone_by false h = are key ∙ ap (map number_of) (sym (without_apart key cs i v at_i h) ∙ ap (filter (is_of key)) (one_left_out number_of n 0 cs i v rises at_i is))

-- with one in the place of another that has its number and its key
pub keyed_set : (i : ℕ) (v y : Collection) (cs : List Collection) (keys : Keys) → slice_get cs i ≡ Some v → y.number ≡ v.number → y.key ≡ v.key → AreKeyed keys cs → AreKeyed keys (slice_set cs i y)
keyed_set i v y cs keys at_i number-is key-is are key = are key ∙ sym (set_by cs i at_i)
  where
    set_by : (cs : List Collection) (i : ℕ) → slice_get cs i ≡ Some v → numbers key (slice_set cs i y) ≡ numbers key cs
    set_by [] i at_i = absurd (let no : false ≡ true = ap is_some at_i in cc)
    set_by (x ∷ xs) zero at_i =
        let one = same_Some x v at_i in
        let same : is_of key y ≡ is_of key x = ap (λ k. pointwise nat_eq k key) (key-is ∙ ap (λ c. c.key) (sym one)) in
        ap (λ b. map number_of (cond b (y ∷ filter (is_of key) xs) (filter (is_of key) xs))) same
        ∙ elim (is_of key x) as (λ b. map number_of (cond b (y ∷ filter (is_of key) xs) (filter (is_of key) xs)) ≡ map number_of (cond b (x ∷ filter (is_of key) xs) (filter (is_of key) xs))) [
          | true ↦ ap (λ n. n ∷ map number_of (filter (is_of key) xs)) (number-is ∙ ap number_of (sym one))
          | false ↦ refl
        ]
    set_by (x ∷ xs) (suc i) at_i =
        elim (is_of key x) as (λ b. map number_of (cond b (x ∷ filter (is_of key) (slice_set xs i y)) (filter (is_of key) (slice_set xs i y))) ≡ map number_of (cond b (x ∷ filter (is_of key) xs) (filter (is_of key) xs))) [
          | true ↦ ap (λ ns. x.number ∷ ns) (set_by xs i at_i)
          | false ↦ set_by xs i at_i
        ]

-- changed or not, it has its key
pub either_key : {U E : Type 0} (r : Result U E) (f : Collection → Collection) (v y : Collection) → (f v).key ≡ v.key → OnOk r (y ≡ f v) → OnErr r (y ≡ v) → y.key ≡ v.key
either_key (Ok u) f v y same ok err = ap (λ c. c.key) ok ∙ same
either_key (Err e) f v y same ok err = ap (λ c. c.key) err

-- ---- the first collection of a key

above_by : (key : List ℕ) (n low : ℕ) (x : Collection) (xs : List Collection) → low < x.number → (slice_get (numbers key xs) 0 ≡ Some n → x.number < n) → (b : Bool) → slice_get (map number_of (cond b (x ∷ filter (is_of key) xs) (filter (is_of key) xs))) 0 ≡ Some n → low < n
above_by key n low x xs above rest true is = let here : x.number ≡ n = same_Some x.number n is in omega (arith, above, here)
above_by key n low x xs above rest false is = let later = rest is in omega (arith, above, later)

first_above : (key : List ℕ) (n low : ℕ) (cs : List Collection) → Rises low (map number_of cs) → slice_get (numbers key cs) 0 ≡ Some n → low < n
first_above key n low [] rises is = absurd (let no : false ≡ true = ap is_some is in cc)
first_above key n low (x ∷ xs) rises is = above_by key n low x xs rises.0 (first_above key n x.number xs rises.1) (is_of key x) is

keyed_by : (key : List ℕ) (n : ℕ) (x : Collection) (xs : List Collection) → (slice_get (numbers key xs) 0 ≡ Some n → x.number < n) → (slice_get (numbers key xs) 0 ≡ Some n → find (λ c. c.number == n) xs ≡ find (is_of key) xs) →
    (b : Bool) → slice_get (map number_of (cond b (x ∷ filter (is_of key) xs) (filter (is_of key) xs))) 0 ≡ Some n → cond (x.number == n) (Some x) (find (λ c. c.number == n) xs) ≡ cond b (Some x) (find (is_of key) xs)
keyed_by key n x xs above rest true is = ap (λ b. cond b (Some x) (find (λ c. c.number == n) xs)) (eq-eqb x.number n (same_Some x.number n is))
keyed_by key n x xs above rest false is = ap (λ b. cond b (Some x) (find (λ c. c.number == n) xs)) (apart_above x.number n (above is)) ∙ rest is

none_by : (key : List ℕ) (x : Collection) (xs : List Collection) → (slice_get (numbers key xs) 0 ≡ None → find (is_of key) xs ≡ None) → (b : Bool) → slice_get (map number_of (cond b (x ∷ filter (is_of key) xs) (filter (is_of key) xs))) 0 ≡ None → cond b (Some x) (find (is_of key) xs) ≡ None
none_by key x xs rest true is = absurd (let no : true ≡ false = ap is_some is in cc)
none_by key x xs rest false is = rest is

-- a key's first number is that of its first collection
pub first_keyed : (key : List ℕ) (n low : ℕ) (cs : List Collection) → Rises low (map number_of cs) → slice_get (numbers key cs) 0 ≡ Some n → find (λ c. c.number == n) cs ≡ find (is_of key) cs
first_keyed key n low [] rises is = refl
first_keyed key n low (x ∷ xs) rises is = keyed_by key n x xs (first_above key n x.number xs rises.1) (first_keyed key n x.number xs rises.1) (is_of key x) is

-- a key without numbers has no collection
pub none_of : (key : List ℕ) (cs : List Collection) → slice_get (numbers key cs) 0 ≡ None → find (is_of key) cs ≡ None
none_of key [] is = refl
none_of key (x ∷ xs) is = none_by key x xs (none_of key xs) (is_of key x) is
