-- What is done about all object rows is what is done about those that are looked at.
use Rattle.std.specs.Prelude.{◌≡◌, ◌<◌, ℕ, ◌+◌, ◌==◌, ◌&&◌, ◌||◌, nat_eq, nat_lt, Bool, true, false, cond, not, List, [], ◌∷◌, ◌++◌, Option, Some, None, length, map, refl}
use Rattle.std.proofs.Common.{ap, sym, ◌∙◌, subst, arith}
use Rattle.std.specs.List.{AllByRecursion, filter, find}
use Rattle.std.specs.Option.{is_some}
use Rattle.std.specs.Cmp.Lexicographic.{pointwise}
use Rattle.std.proofs.lemmas.Bool.{both_ways}
use Rattle.std.proofs.lemmas.Option.{same_Some}
use Rattle.numbered_list.specs.Numbers.{Rises}
use Rattle.numbered_list.proofs.Numbering.{NoneHas, none_past, apart_above, numbered_more, numbered_left, renumbered}
use Rattle.layout_roles.specs.declared.layout.Layout.{Layout}
use Rattle.gc_model.specs.declared.collection.Collection.{Collection}
use Rattle.gc_model.specs.Collecting.{Open, IsNumbered, number_of, keyed, begun_with, changed, closed, opened, in_second}
use Rattle.table_gc.specs.Keys.{is_of}
use Rattle.table_gc.proofs.Keyed.{same_key}
use Rattle.table_schema.specs.Words.{Words}
use Rattle.cluster_machine.specs.Layouts.{layouts}
use Rattle.cluster_machine.specs.Node.{Post}
use Rattle.wire_messages.specs.declared.message.Message.TheVariants.{Tomb}
use Rattle.cluster_machine.specs.Phases.{bytes_of, is_spelled, to_each}
use Rattle.cluster_machine.specs.Collects.{Progress, collection_pause, is_aged, others, has_bytes, goes_on_with, about, about_all}

-- ---- whether a key has an open collection

abbrev pub has : List ℕ → List Collection → Bool
has key cs = is_some (find (is_of key) cs)

module _ (key : List ℕ) where
  has_more : (c : Collection) → is_of key c ≡ false → (cs : List Collection) → has key (cs ++ c ∷ []) ≡ has key cs
  has_more c apart [] = ap (λ b. is_some (cond b (Some c) None)) apart
  has_more c apart (x ∷ xs) =
      elim (is_of key x) as (λ b. is_some (cond b (Some x) (find (is_of key) (xs ++ c ∷ []))) ≡ is_some (cond b (Some x) (find (is_of key) xs))) [ true ↦ refl | false ↦ has_more c apart xs ]

  has_changed : (f : Collection → Collection) → ((c : Collection) → (f c).key ≡ c.key) → (n : ℕ) (cs : List Collection) → has key (map (λ c. cond (c.number == n) (f c) c) cs) ≡ has key cs
  has_changed f keeps n [] = refl
  has_changed f keeps n (x ∷ xs) =
      let same : is_of key (cond (x.number == n) (f x) x) ≡ is_of key x = elim (x.number == n) as (λ b. is_of key (cond b (f x) x) ≡ is_of key x) [ true ↦ ap (λ k. pointwise nat_eq k key) (keeps x) | false ↦ refl ] in
      ap (λ b. is_some (cond b (Some (cond (x.number == n) (f x) x)) (find (is_of key) (map (λ c. cond (c.number == n) (f c) c) xs)))) same
      ∙ elim (is_of key x) as (λ b. is_some (cond b (Some (cond (x.number == n) (f x) x)) (find (is_of key) (map (λ c. cond (c.number == n) (f c) c) xs))) ≡ is_some (cond b (Some x) (find (is_of key) xs))) [ true ↦ refl | false ↦ has_changed f keeps n xs ]

  left_by : (test : Collection → Bool) (x : Collection) (xs : List Collection) → (is_of key x ≡ true → test x ≡ true) → has key (filter test xs) ≡ has key xs →
      (b : Bool) → is_of key x ≡ b → (t : Bool) → test x ≡ t → has key (cond t (x ∷ filter test xs) (filter test xs)) ≡ is_some (cond b (Some x) (find (is_of key) xs))
  left_by test x xs passes rest true h true t = ap (λ b. is_some (cond b (Some x) (find (is_of key) (filter test xs)))) h
  left_by test x xs passes rest true h false t = absurd (both_ways (test x) t (passes h))
  left_by test x xs passes rest false h true t = ap (λ b. is_some (cond b (Some x) (find (is_of key) (filter test xs)))) h ∙ rest
  left_by test x xs passes rest false h false t = rest

  -- what is left out has another key
  has_left : (test : Collection → Bool) (cs : List Collection) → AllByRecursion (λ c. is_of key c ≡ true → test c ≡ true) cs → has key (filter test cs) ≡ has key cs
  has_left test [] all = refl
  has_left test (x ∷ xs) all = left_by test x xs all.0 (has_left test xs all.1) (is_of key x) refl (test x) refl

-- the collection that a key finds is the only one with its number
none_with : (key : List ℕ) (n : ℕ) (cs : List Collection) → NoneHas number_of n cs → AllByRecursion (λ c. is_of key c ≡ true → not (c.number == n) ≡ true) cs
none_with key n [] none = tt
none_with key n (x ∷ xs) none = ((λ h. ap not none.0), none_with key n xs none.1)

above_by : (q : List ℕ) (low : ℕ) (x : Collection) (xs : List Collection) (c : Collection) → low < x.number → (find (is_of q) xs ≡ Some c → x.number < c.number) → (b : Bool) → cond b (Some x) (find (is_of q) xs) ≡ Some c → low < c.number
above_by q low x xs c above rest true is = let one : x.number ≡ c.number = ap number_of (same_Some x c is) in omega (arith, above, one)
above_by q low x xs c above rest false is = let later = rest is in omega (arith, above, later)

above_found : (q : List ℕ) (low : ℕ) (cs : List Collection) (c : Collection) → Rises low (map number_of cs) → find (is_of q) cs ≡ Some c → low < c.number
above_found q low [] c rises is = let no : None ≡ Some c = is in cc
above_found q low (x ∷ xs) c rises is = above_by q low x xs c rises.0 (above_found q x.number xs c rises.1) (is_of q x) is

abbrev OthersApart : List ℕ → Collection → List Collection → Type 0
OthersApart key c cs = AllByRecursion (λ d. is_of key d ≡ true → not (d.number == c.number) ≡ true) cs

one_by : (q key : List ℕ) (x : Collection) (xs : List Collection) (c : Collection) → Rises x.number (map number_of xs) → pointwise nat_eq q key ≡ false → (find (is_of q) xs ≡ Some c → OthersApart key c xs) →
    (b : Bool) → is_of q x ≡ b → cond b (Some x) (find (is_of q) xs) ≡ Some c → OthersApart key c (x ∷ xs)
one_by q key x xs c rises apart rest true h is =
    let one = same_Some x c is in
    let key-is : q ≡ x.key = sym (same_key x.key q h) in (
      (λ of_key. absurd (both_ways (pointwise nat_eq x.key key) (ap (λ k. pointwise nat_eq k key) (sym key-is) ∙ apart) of_key)),
      subst (λ n. AllByRecursion (λ d. is_of key d ≡ true → not (d.number == n) ≡ true) xs) (ap number_of one) (none_with key x.number xs (none_past number_of x.number x.number xs (omega arith) rises)),
    )
one_by q key x xs c rises apart rest false h is = ((λ of_key. ap not (apart_above x.number c.number (above_found q x.number xs c rises is))), rest is)

only_one : (q key : List ℕ) (low : ℕ) (cs : List Collection) (c : Collection) → Rises low (map number_of cs) → find (is_of q) cs ≡ Some c → pointwise nat_eq q key ≡ false → OthersApart key c cs
only_one q key low [] c rises is apart = tt
only_one q key low (x ∷ xs) c rises is apart = one_by q key x xs c rises.1 apart (λ later. only_one q key x.number xs c rises.1 later apart) (is_of q x) refl is

-- ---- what is done about one row

module _ {R : Type 0} (join : R → R → R) (s : Words R) (id now version : ℕ) where
  -- the collections are numbered, and a key has one where it had one
  pub record Keeps (key : List ℕ) (old new : Open) : Type 0 where
    pub numbered : IsNumbered new.begun new.collections
    pub has_is : has key new.collections ≡ has key old.collections

  same_keeps : (key : List ℕ) (o : Open) → IsNumbered o.begun o.collections → Keeps key o o
  same_keeps key o numbered = record { numbered = numbered; has_is = refl }

  abbrev stepped : R → Progress R Layout → Progress R Layout
  stepped r t = about join s layouts id now version r (keyed (s.key r) t.gc) t

  module _ (key : List ℕ) (r : R) (t : Progress R Layout) (apart : pointwise nat_eq (s.key r) key ≡ false) (numbered : IsNumbered t.gc.begun t.gc.collections) where
    begins_keeps : (posts : List (Post R Layout)) (b : Bool) → Keeps key t.gc (cond b (record { gc = begun_with t.gc (s.key r) (bytes_of s r) id version; posts = posts; begun = t.begun + 1 }) t).gc
    begins_keeps posts true = record {
      numbered = numbered_more number_of t.gc.begun (opened (t.gc.begun + 1) (s.key r) (bytes_of s r) id version) t.gc.collections refl numbered;
      has_is = has_more key (opened (t.gc.begun + 1) (s.key r) (bytes_of s r) id version) apart t.gc.collections;
    }
    begins_keeps posts false = same_keeps key t.gc numbered

    second_keeps : (n : ℕ) (b : Bool) → Keeps key t.gc (cond b (changed in_second n t.gc) t.gc)
    second_keeps n true = record {
      numbered = renumbered number_of t.gc.begun t.gc.collections (changed in_second n t.gc).collections (same_numbers n t.gc.collections) numbered;
      has_is = has_changed key in_second (λ c. refl) n t.gc.collections;
    }
      where
        same_numbers : (n : ℕ) (cs : List Collection) → map number_of (map (λ c. cond (c.number == n) (in_second c) c) cs) ≡ map number_of cs
        same_numbers n [] = refl
        same_numbers n (c ∷ cs) = λ i. (elim (c.number == n) as (λ b. (cond b (in_second c) c).number ≡ c.number) [ true ↦ refl | false ↦ refl ]) i ∷ same_numbers n cs i
    second_keeps n false = same_keeps key t.gc numbered

    waits_keeps : (n : ℕ) (first : Bool) (posts : List (Post R Layout)) (b : Bool) → Keeps key t.gc (cond b t (record t { gc = cond first (changed in_second n t.gc) t.gc; posts = posts })).gc
    waits_keeps n first posts true = same_keeps key t.gc numbered
    waits_keeps n first posts false = second_keeps n first

    goes_keeps : (c : Collection) (o : Option ℕ) → Keeps key t.gc (goes_on_with join s layouts now c o t).gc
    goes_keeps c None = same_keeps key t.gc numbered
    goes_keeps c (Some ready) = waits_keeps c.number (c.round == 1) _ (nat_lt now (ready + collection_pause))

    closes_keeps : (c : Collection) → find (is_of (s.key r)) t.gc.collections ≡ Some c → Keeps key t.gc (closed c.number t.gc)
    closes_keeps c found = record {
      numbered = numbered_left number_of c.number t.gc.begun t.gc.collections numbered;
      has_is = has_left key (λ d. not (d.number == c.number)) t.gc.collections (only_one (s.key r) key 0 t.gc.collections c numbered.rises found apart);
    }

    about_keeps : (o : Option Collection) → keyed (s.key r) t.gc ≡ o → Keeps key t.gc (about join s layouts id now version r o t).gc
    about_keeps None is = begins_keeps _ (is_spelled s r && is_aged now (s.marker r))
    about_keeps (Some c) is =
        elim (has_bytes join s c.row (Some r) && (version == c.newest)) as (λ b. Keeps key t.gc (cond b (goes_on_with join s layouts now c c.ready t) (record t { gc = closed c.number t.gc })).gc) [
          | true ↦ goes_keeps c c.ready
          | false ↦ closes_keeps c is
        ]

    pub stepped_keeps : Keeps key t.gc (stepped r t).gc
    stepped_keeps = about_keeps (keyed (s.key r) t.gc) refl

  -- ---- all rows

  -- no later row has the key of an earlier one
  abbrev pub AllApart : List R → Type 0
  AllApart [] = Unit {0}
  AllApart (r ∷ rs) = AllByRecursion (λ o. pointwise nat_eq (s.key r) (s.key o) ≡ false) rs × AllApart rs

  module _ (gc : Open) where
    -- the row is looked at
    abbrev pub is_looked_at : R → Bool
    is_looked_at r = has (s.key r) gc.collections || is_aged now (s.marker r)

    abbrev HaveSame : Open → List R → Type 0
    HaveSame o rs = AllByRecursion (λ r. has (s.key r) o.collections ≡ has (s.key r) gc.collections) rs

    same_after : (r : R) (t : Progress R Layout) → IsNumbered t.gc.begun t.gc.collections → (rs : List R) → AllByRecursion (λ o. pointwise nat_eq (s.key r) (s.key o) ≡ false) rs → HaveSame t.gc rs → HaveSame (stepped r t).gc rs
    same_after r t numbered [] apart same = tt
    same_after r t numbered (o ∷ rs) apart same = ((stepped_keeps (s.key o) r t apart.0 numbered).has_is ∙ same.0, same_after r t numbered rs apart.1 same.1)

    none_found : (o : Option Collection) → is_some o ≡ false → o ≡ None
    none_found None h = refl
    none_found (Some c) h = cc

    or_parts : (a b : Bool) → (a || b) ≡ false → (a ≡ false) × (b ≡ false)
    or_parts true b h = cc
    or_parts false b h = (refl, h)

    -- a collection of the row begins
    abbrev begins_true : R → Progress R Layout → Progress R Layout
    begins_true r t = record {
      gc = begun_with t.gc (s.key r) (bytes_of s r) id version;
      posts = t.posts ++ to_each (others id) (Tomb (t.gc.begun + 1) 1 (bytes_of s r));
      begun = t.begun + 1;
    }

    -- a row that is not looked at changes nothing
    passed : (r : R) (t : Progress R Layout) → has (s.key r) t.gc.collections ≡ has (s.key r) gc.collections → is_looked_at r ≡ false → stepped r t ≡ t
    passed r t same h =
        let parts = or_parts (has (s.key r) gc.collections) (is_aged now (s.marker r)) h in
        let none : keyed (s.key r) t.gc ≡ None = none_found (keyed (s.key r) t.gc) (same ∙ parts.0) in
        ap (λ o. about join s layouts id now version r o t) none
        ∙ ap (λ b. cond b (begins_true r t) t) (ap (λ b. is_spelled s r && b) parts.1 ∙ no_and (is_spelled s r))
      where
        no_and : (b : Bool) → (b && false) ≡ false
        no_and true = refl
        no_and false = refl

    any_numbered : (r : R) (t : Progress R Layout) → IsNumbered t.gc.begun t.gc.collections → IsNumbered (stepped r t).gc.begun (stepped r t).gc.collections
    any_numbered r t numbered = (stepped_keeps (0 ∷ s.key r) r t (longer (s.key r)) numbered).numbered
      where
        longer : (key : List ℕ) → pointwise nat_eq key (0 ∷ key) ≡ false
        longer key = longer_by (pointwise nat_eq key (0 ∷ key)) refl
          where
            longer_by : (b : Bool) → pointwise nat_eq key (0 ∷ key) ≡ b → b ≡ false
            longer_by true h = let same = ap length (same_key key (0 ∷ key) h) in absurd (omega (arith, same))
            longer_by false h = refl

    looked_by : (r : R) (rs : List R) (t : Progress R Layout) → has (s.key r) t.gc.collections ≡ has (s.key r) gc.collections →
        about_all join s layouts id now version (filter is_looked_at rs) (stepped r t) ≡ about_all join s layouts id now version rs (stepped r t) → about_all join s layouts id now version (filter is_looked_at rs) t ≡ about_all join s layouts id now version rs t →
        (b : Bool) → is_looked_at r ≡ b → about_all join s layouts id now version (cond b (r ∷ filter is_looked_at rs) (filter is_looked_at rs)) t ≡ about_all join s layouts id now version rs (stepped r t)
    looked_by r rs t same after before true h = after
    looked_by r rs t same after before false h = before ∙ ap (about_all join s layouts id now version rs) (sym (passed r t same h))

    pub about_looked : (rs : List R) (t : Progress R Layout) → AllApart rs → IsNumbered t.gc.begun t.gc.collections → HaveSame t.gc rs → about_all join s layouts id now version (filter is_looked_at rs) t ≡ about_all join s layouts id now version rs t
    about_looked [] t apart numbered same = refl
    about_looked (r ∷ rs) t apart numbered same =
        looked_by r rs t same.0 (about_looked rs (stepped r t) apart.1 (any_numbered r t numbered) (same_after r t numbered rs apart.0 same.1)) (about_looked rs t apart.1 numbered same.1) (is_looked_at r) refl

    pub itself : (rs : List R) → HaveSame gc rs
    itself [] = tt
    itself (r ∷ rs) = (refl, itself rs)
