-- A settled trie keeps a set of pairs in whatever order they are listed.
use Rattle.std.specs.Prelude.{◌≡◌, ℕ, ◌+◌, ◌-◌, ◌<◌, ◌≤◌, ◌&&◌, nat_eq, Bool, true, false, cond, List, [], ◌∷◌, ◌++◌, Some, All, length, filter, flat_map, refl}
use Rattle.std.proofs.Common.{ap, sym, ◌∙◌, subst, inl, inr, arith, length-append}
use Rattle.std.proofs.lemmas.List.Elements.{All-nil, All-cons}
use Rattle.std.proofs.lemmas.Bool.{and_parts}
use Rattle.std.specs.Cmp.Lexicographic.{pointwise}
use Rattle.table_model.specs.Root.{Pair, value_of, every_byte}
use Rattle.walk_model.specs.Sets.{IsHash, IsSet, with_prefix}
use Rattle.walk_model.specs.Equal.{Has}
use Rattle.walk_model.proofs.Prefixes.{same_is, same_itself, starts}
use Rattle.walk_model.proofs.Covering.{all_has}
use Rattle.walk_model.proofs.Alike.{alike_at}
use Rattle.merkle_trie.specs.declared.trie.Trie.{Trie}
use Rattle.merkle_trie.specs.Keeping.{Keeps, queued}
use Rattle.merkle_trie.specs.Slots.{entry, leaf, node, slot_at, slot_of}
use Rattle.merkle_trie.specs.declared.change.Change.{Change}
use Rattle.merkle_trie.specs.Stands.{after}
use Rattle.merkle_trie.specs.Trees.{IsTree}
use Rattle.merkle_trie.proofs.Shown.{settled_is}
use Rattle.table_store.specs.Index.{AreSame}

-- ---- members

-- this is the pair
abbrev pub is_pair : Pair → Pair → Bool
is_pair pair other = pointwise nat_eq pair.0 other.0 && pointwise nat_eq pair.1 other.1

pair_is : (pair other : Pair) → is_pair pair other ≡ true → other ≡ pair
pair_is pair other h =
    let both = and_parts (pointwise nat_eq pair.0 other.0) (pointwise nat_eq pair.1 other.1) h in
    λ i. (sym (same_is pair.0 other.0 both.0) i, sym (same_is pair.1 other.1 both.1) i)

pair_itself : (pair : Pair) → is_pair pair pair ≡ true
pair_itself pair = (λ i. same_itself pair.0 i && same_itself pair.1 i)

counts_one : (first pair : Pair) → first ≡ pair → is_pair pair first ≡ true
counts_one first pair e = ap (is_pair pair) e ∙ pair_itself pair

-- how many pass a test
abbrev pub passing : (Pair → Bool) → List Pair → ℕ
passing test xs = length (filter test xs)

pub passing_more : (test : Pair → Bool) (x : Pair) (xs : List Pair) → passing test (x ∷ xs) ≡ cond (test x) 1 0 + passing test xs
passing_more test x xs = elim (test x) as (λ b. length (cond b (x ∷ filter test xs) (filter test xs)) ≡ cond b 1 0 + length (filter test xs)) [ true ↦ omega arith | false ↦ omega arith ]

counted : (pair : Pair) (xs : List Pair) → Has xs pair → 1 ≤ passing (is_pair pair) xs
counted pair [] h = absurd h
counted pair (x ∷ xs) (inl e) =
    let here = passing_more (is_pair pair) x xs in
    let one : ◌≡◌ {A = ℕ} (cond (is_pair pair x) 1 0) 1 = ap (λ b. cond b 1 0) (counts_one x pair e) in
    omega (arith, here, one)
counted pair (x ∷ xs) (inr h) =
    let here = passing_more (is_pair pair) x xs in
    let more = counted pair xs h in
    omega (arith, here, more)

there_by : (pair x : Pair) (xs : List Pair) → (1 ≤ passing (is_pair pair) xs → Has xs pair) → (b : Bool) → is_pair pair x ≡ b → 1 ≤ cond b 1 0 + passing (is_pair pair) xs → Has (x ∷ xs) pair
there_by pair x xs rest true h le = inl (pair_is pair x h)
there_by pair x xs rest false h le = inr (rest (omega (arith, le)))

there : (pair : Pair) (xs : List Pair) → 1 ≤ passing (is_pair pair) xs → Has xs pair
there pair [] le = absurd (omega (arith, le))
there pair (x ∷ xs) le = let here = passing_more (is_pair pair) x xs in there_by pair x xs (there pair xs) (is_pair pair x) refl (omega (arith, here, le))

pub has_same : (xs ys : List Pair) → AreSame xs ys → (pair : Pair) → Has xs pair → Has ys pair
has_same xs ys same pair h = let more = counted pair xs h in let is = same (is_pair pair) in there pair ys (omega (arith, more, is))

back : (xs ys : List Pair) → AreSame xs ys → AreSame ys xs
back xs ys same = λ test. sym (same test)

all_from : (P : Pair → Type 0) (xs : List Pair) → ((pair : Pair) → Has xs pair → P pair) → All P xs
all_from P [] h = All-nil P
all_from P (x ∷ xs) h = All-cons P x xs (h x (inl refl)) (all_from P xs (λ pair g. h pair (inr g)))

-- ---- the set, and its slots

by_test : (f test : Pair → Bool) (x : Pair) (xs : List Pair) (n : ℕ) → passing test (filter f xs) ≡ n → (b : Bool) → passing test (cond b (x ∷ filter f xs) (filter f xs)) ≡ cond (b && test x) 1 0 + n
by_test f test x xs n h true = let here = passing_more test x (filter f xs) in omega (arith, here, h)
by_test f test x xs n h false = omega (arith, h)

-- those of a filter that pass a test pass both
pub counted_both : (f test : Pair → Bool) (xs : List Pair) → passing test (filter f xs) ≡ passing (λ pair. f pair && test pair) xs
counted_both f test [] = refl
counted_both f test (x ∷ xs) = by_test f test x xs (passing (λ pair. f pair && test pair) xs) (counted_both f test xs) (f x) ∙ sym (passing_more (λ pair. f pair && test pair) x xs)

filter_same_tests : (f : Pair → Bool) (xs ys : List Pair) → AreSame xs ys → AreSame (filter f xs) (filter f ys)
filter_same_tests f xs ys same = λ test. counted_both f test xs ∙ (same (λ pair. f pair && test pair) ∙ sym (counted_both f test ys))

pub set_same : (xs ys : List Pair) → AreSame xs ys → IsSet xs → IsSet ys
set_same xs ys same set = record {
  hashes = all_from (λ pair. IsHash pair.0) ys (λ pair h. all_has (λ q. IsHash q.0) xs pair set.hashes (has_same ys xs (back xs ys same) pair h));
  apart = λ key len. let few = set.apart key len in let is = same (λ pair. starts pair.0 key) in omega (arith, few, is);
}

only_one : (x y : Pair) → Has (x ∷ []) y → x ≡ y
only_one x y (inl e) = e
only_one x y (inr h) = absurd h

module _ (hash : List ℕ → List ℕ) where
  slot_by : (left depth : ℕ) (xs ys : List Pair) → length xs ≡ length ys → ((pair : Pair) → Has xs pair → Has ys pair) → value_of hash left depth xs ≡ value_of hash left depth ys → slot_of hash left depth xs ≡ slot_of hash left depth ys
  slot_by left depth [] [] len has value = refl
  slot_by left depth [] (y ∷ ys) len has value = absurd (omega (arith, len))
  slot_by left depth (x ∷ xs) [] len has value = absurd (omega (arith, len))
  slot_by left depth (x ∷ []) (y ∷ []) len has value = let one : y ≡ x = only_one y x (has x (inl refl)) in ap (λ pair. Some (leaf hash pair.0 pair.1)) (sym one)
  slot_by left depth (x ∷ []) (y ∷ z ∷ ys) len has value = absurd (omega (arith, len))
  slot_by left depth (x ∷ w ∷ xs) (y ∷ []) len has value = absurd (omega (arith, len))
  slot_by left depth (x ∷ w ∷ xs) (y ∷ z ∷ ys) len has value = ap (λ v. Some (node hash v)) value

  pub slot_same : (prefix : List ℕ) (xs ys : List Pair) → length prefix ≤ 32 → IsSet xs → IsSet ys → AreSame xs ys → slot_at hash prefix xs ≡ slot_at hash prefix ys
  slot_same prefix xs ys short set their same =
      slot_by (32 - length prefix) (length prefix) (with_prefix prefix xs) (with_prefix prefix ys)
      (same (λ pair. starts pair.0 prefix))
      (has_same (with_prefix prefix xs) (with_prefix prefix ys) (filter_same_tests (λ pair. starts pair.0 prefix) xs ys same))
      (alike_at hash prefix xs ys short set their (has_same xs ys same) (has_same ys xs (back xs ys same)))

  entries_by : (prefix : List ℕ) (xs ys : List Pair) → length prefix < 32 → IsSet xs → IsSet ys → AreSame xs ys → (bytes : List ℕ) →
      flat_map (λ byte. entry byte (slot_at hash (prefix ++ byte ∷ []) xs)) bytes ≡ flat_map (λ byte. entry byte (slot_at hash (prefix ++ byte ∷ []) ys)) bytes
  entries_by prefix xs ys short set their same [] = refl
  entries_by prefix xs ys short set their same (byte ∷ bytes) =
      let len = length-append prefix (byte ∷ []) in
      let here : slot_at hash (prefix ++ byte ∷ []) xs ≡ slot_at hash (prefix ++ byte ∷ []) ys = slot_same (prefix ++ byte ∷ []) xs ys (omega (arith, len, short)) set their same in
      λ i. entry byte (here i) ++ entries_by prefix xs ys short set their same bytes i

  -- ---- the trie

  -- a settled trie keeps the same pairs in another order
  pub keeps_same : {H B : Type 0} (trie : Trie H B) (xs ys : List Pair) → queued trie ≡ 0 → AreSame xs ys → Keeps hash trie xs → Keeps hash trie ys
  keeps_same trie xs ys none same keeps =
      let is : keeps.settled ≡ xs = settled_is trie.queue.items xs keeps.settled none keeps.pairs_are in
      let tree : IsTree hash trie.tree xs = subst (IsTree hash trie.tree) is keeps.tree_is in
      let their : IsSet ys = set_same xs ys same tree.set in
      record {
        settled = ys;
        tree_is = record {
          set = their;
          top_is = tree.top_is ∙ slot_same [] xs ys (omega arith) tree.set their same;
          nodes_are = λ prefix short two.
              let is = same (λ pair. starts pair.0 prefix) in
              tree.nodes_are prefix short (omega (arith, two, is)) ∙ ap Some (entries_by prefix xs ys short tree.set their same every_byte);
        };
        pairs_are = nothing_waits trie.queue.items ys none;
      }
    where
      nothing_waits : (changes : List Change) (pairs : List Pair) → length changes ≡ 0 → pairs ≡ after changes pairs
      nothing_waits [] pairs h = refl
      nothing_waits (change ∷ changes) pairs h = absurd (omega (arith, h))

  -- a settled trie keeps a set
  pub keeps_set : {H B : Type 0} (trie : Trie H B) (xs : List Pair) → queued trie ≡ 0 → Keeps hash trie xs → IsSet xs
  keeps_set trie xs none keeps =
      let is : keeps.settled ≡ xs = settled_is trie.queue.items xs keeps.settled none keeps.pairs_are in
      subst IsSet is keeps.tree_is.set
