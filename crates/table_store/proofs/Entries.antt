-- Lists of entries by keys: what a key finds, and what is known after one entry changes.
use Rattle.std.specs.Prelude.{◌≡◌, ◌⊎◌, ℕ, ◌+◌, ◌≤◌, ◌&&◌, ◌||◌, Bool, true, false, cond, not, is_some, List, [], ◌∷◌, Option, Some, None, Vec, length, refl}
use Rattle.std.proofs.Common.{ap, sym, ◌∙◌, arith, inl, inr}
use Rattle.std.proofs.lemmas.List.{take_all}
use Rattle.std.proofs.lemmas.Bool.{both_ways}
use Rattle.std.proofs.lemmas.Cmp.{nat_list_cmp_total, tied_itself}
use Rattle.std.specs.Cmp.{Equal-is}
use Rattle.std.specs.BTreeSet.{insert_key}
use Rattle.std.specs.Set.{remove_key}
use Rattle.std.specs.Map.{keys_of, lookup, set_value, remove_entry}
use Rattle.std.specs.BTreeMap.{insert_entry, is_at}
use Rattle.std.specs.declared.cmp.Ordering.{Ordering}
use Rattle.std.specs.declared.cmp.Ordering.TheVariants.{Less, Equal, Greater}
use Rattle.std.specs.Ordering.{nat_cmp, is_eq, match_ordering}
use Rattle.std.specs.Cmp.Lexicographic.{slice_cmp}
use Rattle.crdt_core.specs.IdentityLaws.{slice_identical, nat_identical}
use Rattle.blake2_hash.specs.declared.digest.Hash32.{Hash32}
use Rattle.table_model.specs.Root.{Pair}
use Rattle.std.specs.Global.{Global}
use Rattle.walk_model.specs.Sets.{IsSet, is_key, only_at, only_key, put, removed, with_prefix}
use Rattle.walk_model.proofs.Prefixes.{same_is, same_from, starts, starts_from}
use Rattle.table_store.specs.Index.{AreSame, Entry, has_key, known_pairs, shown_pair}
use Rattle.table_store.specs.Shelf.{vec_cmp}
use Rattle.table_store.proofs.Alike.{counted_both, passing, passing_more}

-- ---- keys

-- whether two keys are one can be asked either way
pub eq_turn : (a b : List ℕ) → is_eq (slice_cmp nat_cmp a b) ≡ false → is_eq (slice_cmp nat_cmp b a) ≡ false
eq_turn a b apart = turn_by (is_eq (slice_cmp nat_cmp b a)) refl
  where
    turn_by : (c : Bool) → is_eq (slice_cmp nat_cmp b a) ≡ c → is_eq (slice_cmp nat_cmp b a) ≡ false
    turn_by true is =
        let one : b ≡ a = slice_identical nat_identical b a ((Equal-is _).0 is) in
        let same : is_eq (slice_cmp nat_cmp a b) ≡ true = ap (λ k. is_eq (slice_cmp nat_cmp a k)) one ∙ ap is_eq (tied_itself nat_list_cmp_total a) in
        absurd (both_ways (is_eq (slice_cmp nat_cmp a b)) apart same)
    turn_by false is = is

module _ {Z : Type 0} where
  -- the entry has this key
  abbrev pub at : List ℕ → Vec ℕ Z → Bool
  at key = is_at (λ k. slice_cmp nat_cmp key k.items)

or_true : (b : Bool) → (b || true) ≡ true
or_true true = refl
or_true false = refl

swap_tests : {X : Type 0} (a b l : Option X) (e k : Bool) → (e ≡ true → k ≡ true → ⊥) → cond e a (cond k b l) ≡ cond k b (cond e a l)
swap_tests a b l true true not = absurd (not refl refl)
swap_tests a b l true false not = refl
swap_tests a b l false true not = refl
swap_tests a b l false false not = refl

twice : {X : Type 0} (v w : X) (l : Option X) (b : Bool) → cond b (Some v) l ≡ cond b (Some v) (cond b (Some w) l)
twice v w l true = refl
twice v w l false = refl

module _ {Z X : Type 0} where
  -- a key is there where it finds something
  pub has_is : (key : List ℕ) (es : List (Vec ℕ Z × X)) → has_key key (keys_of es) ≡ is_some (lookup (at key) es)
  has_is key [] = refl
  has_is key (e ∷ es) =
      elim (at key e.0) as (λ b. (b || has_key key (keys_of es)) ≡ is_some (cond b (Some e.1) (lookup (at key) es))) [ true ↦ refl | false ↦ has_is key es ]

  -- ---- an entry that is put

  not_both : (key : List ℕ) (k : Vec ℕ Z) (e : Vec ℕ Z × X) → vec_cmp k e.0 ≡ Greater → at key e.0 ≡ true → is_eq (slice_cmp nat_cmp key k.items) ≡ true → ⊥
  not_both key k e o at-e at-k =
      let one : key ≡ e.0.items = slice_identical nat_identical key e.0.items ((Equal-is _).0 at-e) in
      let two : key ≡ k.items = slice_identical nat_identical key k.items ((Equal-is _).0 at-k) in
      let same : slice_cmp nat_cmp k.items e.0.items ≡ Equal = ap (λ q. slice_cmp nat_cmp k.items q) (sym one ∙ two) ∙ tied_itself nat_list_cmp_total k.items in
      let wrong : Greater ≡ Equal = sym o ∙ same in
      cc

  put_by : (key : List ℕ) (k : Vec ℕ Z) (v : X) (e : Vec ℕ Z × X) (es : List (Vec ℕ Z × X)) → lookup (at key) (insert_entry vec_cmp es k v) ≡ cond (is_eq (slice_cmp nat_cmp key k.items)) (Some v) (lookup (at key) es) →
      (o : Ordering) → vec_cmp k e.0 ≡ o → lookup (at key) (match_ordering o ((k, v) ∷ e ∷ es) ((e.0, v) ∷ es) (e ∷ insert_entry vec_cmp es k v)) ≡ cond (is_eq (slice_cmp nat_cmp key k.items)) (Some v) (lookup (at key) (e ∷ es))
  put_by key k v e es rest Less o = refl
  put_by key k v e es rest Equal o =
      let one : k.items ≡ e.0.items = slice_identical nat_identical k.items e.0.items o in
      twice v e.1 (lookup (at key) es) (at key e.0)
      ∙ ap (λ q. cond (is_eq (slice_cmp nat_cmp key q)) (Some v) (cond (at key e.0) (Some e.1) (lookup (at key) es))) (sym one)
  put_by key k v e es rest Greater o =
      ap (cond (at key e.0) (Some e.1)) rest
      ∙ swap_tests (Some e.1) (Some v) (lookup (at key) es) (at key e.0) (is_eq (slice_cmp nat_cmp key k.items)) (not_both key k e o)

  pub lookup_put : (key : List ℕ) (k : Vec ℕ Z) (v : X) (es : List (Vec ℕ Z × X)) → lookup (at key) (insert_entry vec_cmp es k v) ≡ cond (is_eq (slice_cmp nat_cmp key k.items)) (Some v) (lookup (at key) es)
  lookup_put key k v [] = refl
  lookup_put key k v (e ∷ es) = put_by key k v e es (lookup_put key k v es) (vec_cmp k e.0) refl

  -- ---- a value that is set

  other_by : (key other : List ℕ) (w : X) (e : Vec ℕ Z × X) (es : List (Vec ℕ Z × X)) → is_eq (slice_cmp nat_cmp key other) ≡ false → lookup (at other) (set_value (at key) es w) ≡ lookup (at other) es →
      (b : Bool) → at key e.0 ≡ b → lookup (at other) (cond b ((e.0, w) ∷ es) (e ∷ set_value (at key) es w)) ≡ lookup (at other) (e ∷ es)
  other_by key other w e es apart rest true h =
      let one : key ≡ e.0.items = slice_identical nat_identical key e.0.items ((Equal-is _).0 h) in
      let not : at other e.0 ≡ false = ap (λ q. is_eq (slice_cmp nat_cmp other q)) (sym one) ∙ eq_turn key other apart in
      ap (λ b. cond b (Some w) (lookup (at other) es)) not ∙ sym (ap (λ b. cond b (Some e.1) (lookup (at other) es)) not)
  other_by key other w e es apart rest false h = ap (cond (at other e.0) (Some e.1)) rest

  pub lookup_other : (key other : List ℕ) (w : X) (es : List (Vec ℕ Z × X)) → is_eq (slice_cmp nat_cmp key other) ≡ false → lookup (at other) (set_value (at key) es w) ≡ lookup (at other) es
  lookup_other key other w [] apart = refl
  lookup_other key other w (e ∷ es) apart = other_by key other w e es apart (lookup_other key other w es apart) (at key e.0) refl

  here_by : (key : List ℕ) (old w : X) (e : Vec ℕ Z × X) (es : List (Vec ℕ Z × X)) → (lookup (at key) es ≡ Some old → lookup (at key) (set_value (at key) es w) ≡ Some w) →
      (b : Bool) → at key e.0 ≡ b → cond b (Some e.1) (lookup (at key) es) ≡ Some old → lookup (at key) (cond b ((e.0, w) ∷ es) (e ∷ set_value (at key) es w)) ≡ Some w
  here_by key old w e es rest true h found = ap (λ b. cond b (Some w) (lookup (at key) es)) h
  here_by key old w e es rest false h found = ap (λ b. cond b (Some e.1) (lookup (at key) (set_value (at key) es w))) h ∙ rest found

-- ---- an entry that goes

module _ {Z X : Type 0} where
  gone_by : (key other : List ℕ) (e : Vec ℕ Z × X) (es : List (Vec ℕ Z × X)) → is_eq (slice_cmp nat_cmp key other) ≡ false → lookup (at other) (remove_entry (at key) es) ≡ lookup (at other) es →
      (b : Bool) → at key e.0 ≡ b → lookup (at other) (cond b es (e ∷ remove_entry (at key) es)) ≡ lookup (at other) (e ∷ es)
  gone_by key other e es apart rest true h =
      let one : key ≡ e.0.items = slice_identical nat_identical key e.0.items ((Equal-is _).0 h) in
      let not : at other e.0 ≡ false = ap (λ q. is_eq (slice_cmp nat_cmp other q)) (sym one) ∙ eq_turn key other apart in
      sym (ap (λ b. cond b (Some e.1) (lookup (at other) es)) not)
  gone_by key other e es apart rest false h = ap (cond (at other e.0) (Some e.1)) rest

  -- other keys find what they found
  pub lookup_left : (key other : List ℕ) (es : List (Vec ℕ Z × X)) → is_eq (slice_cmp nat_cmp key other) ≡ false → lookup (at other) (remove_entry (at key) es) ≡ lookup (at other) es
  lookup_left key other [] apart = refl
  lookup_left key other (e ∷ es) apart = gone_by key other e es apart (lookup_left key other es apart) (at key e.0) refl

-- ---- keys that wait

-- a set of keys with one more
or_false : (b : Bool) → (b || false) ≡ b
or_false true = refl
or_false false = refl

or_turn : (a b : Bool) → (a || b) ≡ (b || a)
or_turn true true = refl
or_turn true false = refl
or_turn false true = refl
or_turn false false = refl

or_again : (a b : Bool) → (a || b) ≡ ((a || b) || a)
or_again true b = refl
or_again false true = refl
or_again false false = refl

or_assoc : (a b c : Bool) → (a || (b || c)) ≡ ((a || b) || c)
or_assoc true b c = refl
or_assoc false b c = refl

module _ {Z : Type 0} where
  one_by : (other : List ℕ) (k x : Vec ℕ Z) (ks : List (Vec ℕ Z)) → has_key other (insert_key vec_cmp ks k) ≡ (has_key other ks || at other k) →
      (o : Ordering) → vec_cmp k x ≡ o → has_key other (match_ordering o (k ∷ x ∷ ks) (x ∷ ks) (x ∷ insert_key vec_cmp ks k)) ≡ (has_key other (x ∷ ks) || at other k)
  one_by other k x ks rest Less o = or_turn (at other k) (has_key other (x ∷ ks))
  one_by other k x ks rest Equal o =
      let one : k.items ≡ x.items = slice_identical nat_identical k.items x.items o in
      or_again (at other x) (has_key other ks) ∙ ap (λ q. (has_key other (x ∷ ks)) || is_eq (slice_cmp nat_cmp other q)) (sym one)
  one_by other k x ks rest Greater o = ap (λ b. at other x || b) rest ∙ or_assoc (at other x) (has_key other ks) (at other k)

  -- a key is among them where it was, or is the new one
  pub has_insert : (other : List ℕ) (k : Vec ℕ Z) (ks : List (Vec ℕ Z)) → has_key other (insert_key vec_cmp ks k) ≡ (has_key other ks || at other k)
  has_insert other k [] = or_false (at other k)
  has_insert other k (x ∷ ks) = one_by other k x ks (has_insert other k ks) (vec_cmp k x) refl

  again_by : (key other : List ℕ) (ks : List (Vec ℕ Z)) → has_key key ks ≡ true → (b : Bool) → is_eq (slice_cmp nat_cmp other key) ≡ b → has_key other ks ≡ (has_key other ks || b)
  again_by key other ks has true h =
      let one : other ≡ key = slice_identical nat_identical other key ((Equal-is _).0 h) in
      let there : has_key other ks ≡ true = ap (λ k. has_key k ks) one ∙ has in
      there ∙ sym (or_true (has_key other ks))
  again_by key other ks has false h = sym (or_false (has_key other ks))

  -- a key that is there adds nothing
  pub has_again : (key other : List ℕ) (ks : List (Vec ℕ Z)) → has_key key ks ≡ true → has_key other ks ≡ (has_key other ks || is_eq (slice_cmp nat_cmp other key))
  has_again key other ks has = again_by key other ks has (is_eq (slice_cmp nat_cmp other key)) refl

  -- without a key the others are there
  less_by : (key other : List ℕ) (x : Vec ℕ Z) (ks : List (Vec ℕ Z)) → is_eq (slice_cmp nat_cmp key other) ≡ false → has_key other (remove_key (at key) ks) ≡ has_key other ks →
      (b : Bool) → at key x ≡ b → has_key other (cond b ks (x ∷ remove_key (at key) ks)) ≡ has_key other (x ∷ ks)
  less_by key other x ks apart rest true h =
      let one : key ≡ x.items = slice_identical nat_identical key x.items ((Equal-is _).0 h) in
      let not : at other x ≡ false = ap (λ q. is_eq (slice_cmp nat_cmp other q)) (sym one) ∙ eq_turn key other apart in
      sym (ap (λ b. b || has_key other ks) not)
  less_by key other x ks apart rest false h = ap (λ b. at other x || b) rest

  pub has_left : (key other : List ℕ) (ks : List (Vec ℕ Z)) → is_eq (slice_cmp nat_cmp key other) ≡ false → has_key other (remove_key (at key) ks) ≡ has_key other ks
  has_left key other [] apart = refl
  has_left key other (x ∷ ks) apart = less_by key other x ks apart (has_left key other ks apart) (at key x) refl

module _ {Z : Type 0} where
  rest_has : (other : List ℕ) (x : Vec ℕ Z) (ks ls : List (Vec ℕ Z)) → (has_key other ks ≡ true → has_key other ls ≡ true) → (b : Bool) → (b || has_key other ks) ≡ true → (b || has_key other ls) ≡ true
  rest_has other x ks ls more true h = refl
  rest_has other x ks ls more false h = more h

  more_by : (other : List ℕ) (k x : Vec ℕ Z) (ks : List (Vec ℕ Z)) → (has_key other ks ≡ true → has_key other (insert_key vec_cmp ks k) ≡ true) → has_key other (x ∷ ks) ≡ true →
      (o : Ordering) → has_key other (match_ordering o (k ∷ x ∷ ks) (x ∷ ks) (x ∷ insert_key vec_cmp ks k)) ≡ true
  more_by other k x ks more h Less = ap (λ b. at other k || b) h ∙ or_true (at other k)
  more_by other k x ks more h Equal = h
  more_by other k x ks more h Greater = rest_has other x ks (insert_key vec_cmp ks k) more (at other x) h

  -- a set of keys has all that it had where one is added
  pub has_more : (other : List ℕ) (k : Vec ℕ Z) (ks : List (Vec ℕ Z)) → has_key other ks ≡ true → has_key other (insert_key vec_cmp ks k) ≡ true
  has_more other k [] h = ap (λ b. at other k || b) h ∙ or_true (at other k)
  has_more other k (x ∷ ks) h = more_by other k x ks (has_more other k ks) h (vec_cmp k x)

  it_by : (k x : Vec ℕ Z) (ks : List (Vec ℕ Z)) → has_key k.items (insert_key vec_cmp ks k) ≡ true → (o : Ordering) → vec_cmp k x ≡ o → has_key k.items (match_ordering o (k ∷ x ∷ ks) (x ∷ ks) (x ∷ insert_key vec_cmp ks k)) ≡ true
  it_by k x ks rest Less o = ap (λ c. is_eq c || has_key k.items (x ∷ ks)) (tied_itself nat_list_cmp_total k.items)
  it_by k x ks rest Equal o = ap (λ c. is_eq c || has_key k.items ks) o
  it_by k x ks rest Greater o = ap (λ c. is_eq c || has_key k.items (insert_key vec_cmp ks k)) o ∙ rest

  -- and the one that is added
  pub has_it : (k : Vec ℕ Z) (ks : List (Vec ℕ Z)) → has_key k.items (insert_key vec_cmp ks k) ≡ true
  has_it k [] = ap (λ c. is_eq c || false) (tied_itself nat_list_cmp_total k.items)
  has_it k (x ∷ ks) = it_by k x ks (has_it k ks) (vec_cmp k x) refl

  -- without the first key the others are there
  pub has_rest : (other : List ℕ) (k : Vec ℕ Z) (all rest : List (Vec ℕ Z)) → all ≡ k ∷ rest → is_eq (slice_cmp nat_cmp k.items other) ≡ false → has_key other all ≡ true → has_key other rest ≡ true
  has_rest other k all rest same apart had =
      sym (ap (λ b. b || has_key other rest) (eq_turn k.items other apart)) ∙ (sym (ap (has_key other) same) ∙ had)

-- ---- what is known

-- how many of the known pairs pass a test
abbrev pub known_count : (Pair → Bool) → List Entry → ℕ
known_count test es = passing test (known_pairs es)

-- one, where the pair is known and passes
abbrev pub one : (Pair → Bool) → Option (Hash32 × Hash32) → ℕ
one test None = 0
one test (Some pair) = cond (test (shown_pair pair)) 1 0

count_cons : (test : Pair → Bool) (e : Entry) (es : List Entry) (o : Option (Hash32 × Hash32)) → e.1 ≡ o → known_count test (e ∷ es) ≡ one test o + known_count test es
count_cons test e es None h = rw h (omega arith)
count_cons test e es (Some pair) h = rw h (passing_more test (shown_pair pair) (known_pairs es))

count_more : (test : Pair → Bool) (e : Entry) (es : List Entry) → known_count test (e ∷ es) ≡ one test e.1 + known_count test es
count_more test e es = count_cons test e es e.1 refl

some_is : {X : Type 0} (a b : X) → Some a ≡ Some b → a ≡ b
some_is a b e = cc

module _ (test : Pair → Bool) (key : List ℕ) where
  rest_by : (e : Entry) (es : List Entry) (old : Option (Hash32 × Hash32)) → (lookup (at key) es ≡ Some old → known_count test es ≡ one test old + known_count test (remove_entry (at key) es)) →
      (b : Bool) → cond b (Some e.1) (lookup (at key) es) ≡ Some old → known_count test (e ∷ es) ≡ one test old + known_count test (cond b es (e ∷ remove_entry (at key) es))
  rest_by e es old rest true h = count_more test e es ∙ ap (λ o. one test o + known_count test es) (some_is e.1 old h)
  rest_by e es old rest false h =
      let here = count_more test e es in
      let there = count_more test e (remove_entry (at key) es) in
      let more = rest h in
      omega (arith, here, there, more)

  -- the pairs of the entry that a key finds, and of the others
  pub count_rest : (es : List Entry) (old : Option (Hash32 × Hash32)) → lookup (at key) es ≡ Some old → known_count test es ≡ one test old + known_count test (remove_entry (at key) es)
  count_rest [] old h = cc
  count_rest (e ∷ es) old h = rest_by e es old (count_rest es old) (at key e.0) h

  set_by : (e : Entry) (es : List Entry) (old w : Option (Hash32 × Hash32)) → (lookup (at key) es ≡ Some old → known_count test (set_value (at key) es w) ≡ one test w + known_count test (remove_entry (at key) es)) →
      (b : Bool) → cond b (Some e.1) (lookup (at key) es) ≡ Some old → known_count test (cond b ((e.0, w) ∷ es) (e ∷ set_value (at key) es w)) ≡ one test w + known_count test (cond b es (e ∷ remove_entry (at key) es))
  set_by e es old w rest true h = count_more test (e.0, w) es
  set_by e es old w rest false h =
      let here = count_more test e (set_value (at key) es w) in
      let there = count_more test e (remove_entry (at key) es) in
      let more = rest h in
      omega (arith, here, there, more)

  -- the same after its pair is set
  pub count_set : (es : List Entry) (old w : Option (Hash32 × Hash32)) → lookup (at key) es ≡ Some old → known_count test (set_value (at key) es w) ≡ one test w + known_count test (remove_entry (at key) es)
  count_set [] old w h = cc
  count_set (e ∷ es) old w h = set_by e es old w (count_set es old w) (at key e.0) h

-- a key that is new, and of which nothing is known, changes nothing that is known
new_by : (k : Vec ℕ Global) (e : Entry) (es : List Entry) → (lookup (at k.items) es ≡ None → known_pairs (insert_entry vec_cmp es k None) ≡ known_pairs es) → (o : Ordering) → vec_cmp k e.0 ≡ o → cond (is_eq o) (Some e.1) (lookup (at k.items) es) ≡ None →
    known_pairs (match_ordering o ((k, None) ∷ e ∷ es) ((e.0, None) ∷ es) (e ∷ insert_entry vec_cmp es k None)) ≡ known_pairs (e ∷ es)
new_by k e es rest Less o h = refl
new_by k e es rest Equal o h = cc
new_by k e es rest Greater o h = more e (insert_entry vec_cmp es k None) es (rest h) e.1 refl
  where
    more : (e : Entry) (xs ys : List Entry) → known_pairs xs ≡ known_pairs ys → (o : Option (Hash32 × Hash32)) → e.1 ≡ o → known_pairs (e ∷ xs) ≡ known_pairs (e ∷ ys)
    more e xs ys same None h = rw h same
    more e xs ys same (Some pair) h = rw h (ap (λ l. shown_pair pair ∷ l) same)

pub known_new : (k : Vec ℕ Global) (es : List Entry) → lookup (at k.items) es ≡ None → known_pairs (insert_entry vec_cmp es k None) ≡ known_pairs es
known_new k [] h = refl
known_new k (e ∷ es) h = new_by k e es (known_new k es) (vec_cmp k e.0) refl h

-- ---- a pair that is put

le_by : (kh : List ℕ) (pair : Pair) (b : Bool) → is_key kh pair ≡ b → cond b 1 0 ≤ cond (starts pair.0 kh) 1 0
le_by kh pair true h =
    let same : kh ≡ pair.0 = same_is kh pair.0 h in
    let begins : starts pair.0 kh ≡ true = ap (λ key. starts pair.0 key) same ∙ starts_itself pair.0 in
    rw begins (omega arith)
  where
    starts_itself : (key : List ℕ) → starts key key ≡ true
    starts_itself key = starts_from key key (take_all (length key) key (omega arith))
le_by kh pair false h = omega arith

le_all : (kh : List ℕ) (held : List Pair) → passing (is_key kh) held ≤ length (with_prefix kh held)
le_all kh [] = omega arith
le_all kh (x ∷ held) =
    let here = passing_more (is_key kh) x held in
    let there = passing_more (λ pair. starts pair.0 kh) x held in
    let first = le_by kh x (is_key kh x) refl in
    let rest = le_all kh held in
    omega (arith, here, there, first, rest)

few_keys : (kh : List ℕ) (held : List Pair) → length kh ≡ 32 → IsSet held → passing (is_key kh) held ≤ 1
few_keys kh held len set = let few = set.apart kh len in let le = le_all kh held in omega (arith, few, le)

none_by : (xs : List Pair) → length xs ≤ 1 → only_key xs ≡ None → length xs ≡ 0
none_by [] le h = refl
none_by (x ∷ []) le h = cc
none_by (x ∷ y ∷ xs) le h = absurd (omega (arith, le))

no_key : (kh : List ℕ) (held : List Pair) → length kh ≡ 32 → IsSet held → only_at kh held ≡ None → passing (is_key kh) held ≡ 0
no_key kh held len set only =
    let none = none_by (with_prefix kh held) (set.apart kh len) only in
    let le = le_all kh held in
    omega (arith, none, le)

other_test : (kh : List ℕ) (test : Pair → Bool) (x : Pair) (n m : ℕ) → n ≡ m → (b : Bool) → ◌≡◌ {A = ℕ} (cond b 1 0) 0 → cond (not b && test x) 1 0 + n ≡ cond (test x) 1 0 + m
other_test kh test x n m same true h = absurd (omega (arith, h))
other_test kh test x n m same false h = ap (λ k. cond (test x) 1 0 + k) same

-- where none has the key hash, all pass the test that it isn't that
all_other : (kh : List ℕ) (test : Pair → Bool) (xs : List Pair) → passing (is_key kh) xs ≡ 0 → passing (λ pair. not (is_key kh pair) && test pair) xs ≡ passing test xs
all_other kh test [] none = refl
all_other kh test (x ∷ xs) none =
    let parts = passing_more (is_key kh) x xs in
    let rest = all_other kh test xs (omega (arith, none, parts)) in
    passing_more (λ pair. not (is_key kh pair) && test pair) x xs
    ∙ (other_test kh test x (passing (λ pair. not (is_key kh pair) && test pair) xs) (passing test xs) rest (is_key kh x) (omega (arith, none, parts))
    ∙ sym (passing_more test x xs))

module _ (kh rh : List ℕ) (held : List Pair) (es : List Entry) (key : List ℕ) (len : length kh ≡ 32) (set : IsSet held) (same : AreSame held (known_pairs es)) where
  -- no other row has the key's hash
  no_other : (old : Option (Hash32 × Hash32)) → lookup (at key) es ≡ Some old → ((pair : Hash32 × Hash32) → old ≡ Some pair → pair.0.0 ≡ kh) → (old ≡ None → only_at kh held ≡ None) → known_count (is_key kh) (remove_entry (at key) es) ≡ 0
  no_other None found is free =
      let none = no_key kh held len set (free refl) in
      let counted = same (is_key kh) in
      let parts = count_rest (is_key kh) key es None found in
      omega (arith, none, counted, parts)
  no_other (Some pair) found is free =
      let few = few_keys kh held len set in
      let counted = same (is_key kh) in
      let parts = count_rest (is_key kh) key es (Some pair) found in
      let here : is_key kh (shown_pair pair) ≡ true = same_from kh pair.0.0 (sym (is pair refl)) in
      let once : one (is_key kh) (Some pair) ≡ 1 = ap (λ b. cond b 1 0) here in
      omega (arith, few, counted, parts, once)

  old_out : (test : Pair → Bool) (old : Option (Hash32 × Hash32)) → ((pair : Hash32 × Hash32) → old ≡ Some pair → pair.0.0 ≡ kh) → one (λ pair. not (is_key kh pair) && test pair) old ≡ 0
  old_out test None is = refl
  old_out test (Some pair) is = ap (λ b. cond (not b && test (shown_pair pair)) 1 0) (same_from kh pair.0.0 (sym (is pair refl)))

  -- the set after the pair is put is what is known after the pair is set
  pub put_same : (old : Option (Hash32 × Hash32)) (x : Hash32 × Hash32) (new : List Entry) → lookup (at key) es ≡ Some old → ((pair : Hash32 × Hash32) → old ≡ Some pair → pair.0.0 ≡ kh) → (old ≡ None → only_at kh held ≡ None) →
      new ≡ set_value (at key) es (Some x) → shown_pair x ≡ (kh, rh) → AreSame (put kh rh held) (known_pairs new)
  put_same old x new found is free set_is shows = λ test.
      let others = no_other old found is free in
      let gone = counted_both (λ pair. not (is_key kh pair)) test held in
      let counted = same (λ pair. not (is_key kh pair) && test pair) in
      let parts = count_rest (λ pair. not (is_key kh pair) && test pair) key es old found in
      let out = old_out test old is in
      let all = all_other kh test (known_pairs (remove_entry (at key) es)) others in
      let after = ap (known_count test) set_is ∙ count_set test key es old (Some x) found in
      let first : cond (test (kh, rh)) 1 0 ≡ one test (Some x) = ap (λ pair. cond (test pair) 1 0) (sym shows) in
      let whole = passing_more test (kh, rh) (removed kh held) in
      omega (arith, gone, counted, parts, out, all, after, first, whole)

  -- the set without the pair is what is known after its key went
  pub removed_same : (pair : Hash32 × Hash32) → lookup (at key) es ≡ Some (Some pair) → pair.0.0 ≡ kh → AreSame (removed kh held) (known_pairs (remove_entry (at key) es))
  removed_same pair found is = λ test.
      let known_is : (other : Hash32 × Hash32) → Some pair ≡ Some other → other.0.0 ≡ kh = λ other same. ap (λ p. p.0.0) (sym (some_is pair other same)) ∙ is in
      let others = no_other (Some pair) found known_is (λ no. no_none no) in
      let gone = counted_both (λ p. not (is_key kh p)) test held in
      let counted = same (λ p. not (is_key kh p) && test p) in
      let parts = count_rest (λ p. not (is_key kh p) && test p) key es (Some pair) found in
      let out = old_out test (Some pair) known_is in
      let all = all_other kh test (known_pairs (remove_entry (at key) es)) others in
      omega (arith, gone, counted, parts, out, all)
    where
      no_none : {P : Type 0} → Some pair ≡ None → P
      no_none h = cc

-- where nothing is known of a key, what is known stays after it went
none_goes : (key : List ℕ) (e : Entry) (es : List Entry) → ((lookup (at key) es ≡ None) ⊎ (lookup (at key) es ≡ Some None) → known_pairs (remove_entry (at key) es) ≡ known_pairs es) → (b : Bool) → at key e.0 ≡ b →
    (cond b (Some e.1) (lookup (at key) es) ≡ None) ⊎ (cond b (Some e.1) (lookup (at key) es) ≡ Some None) → known_pairs (cond b es (e ∷ remove_entry (at key) es)) ≡ known_pairs (e ∷ es)
none_goes key e es rest true h (inl none) = cc
none_goes key e es rest true h (inr none) = let unknown : e.1 ≡ None = some_is e.1 None none in sym (unknown_first e es e.1 refl unknown)
  where
    unknown_first : (e : Entry) (es : List Entry) (o : Option (Hash32 × Hash32)) → e.1 ≡ o → o ≡ None → known_pairs (e ∷ es) ≡ known_pairs es
    unknown_first e es None is none = rw is refl
    unknown_first e es (Some pair) is none = cc
none_goes key e es rest false h none = rest_first e.1 refl
  where
    rest_first : (o : Option (Hash32 × Hash32)) → e.1 ≡ o → known_pairs (e ∷ remove_entry (at key) es) ≡ known_pairs (e ∷ es)
    rest_first None is = rw is (rest none)
    rest_first (Some pair) is = rw is (ap (λ l. shown_pair pair ∷ l) (rest none))

pub known_left : (key : List ℕ) (es : List Entry) → (lookup (at key) es ≡ None) ⊎ (lookup (at key) es ≡ Some None) → known_pairs (remove_entry (at key) es) ≡ known_pairs es
known_left key [] none = refl
known_left key (e ∷ es) none = none_goes key e es (known_left key es) (at key e.0) refl none
