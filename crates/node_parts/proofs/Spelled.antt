-- Rows of a partition: that each has a spelling, and that there are some.
use Rattle.std.proofs.Common.{◌≡◌, ◌≤◌, ℕ, ◌==◌, ◌&&◌, ◌||◌, Bool, true, false, not, cond, List, [], ◌∷◌, Option, Some, None, is_none, is_some, IsTrue, map, refl, sym, ap, subst, ◌∙◌, arith}
use Rattle.std.specs.List.{filter, list_all}
use Rattle.std.proofs.lemmas.Bool.Decides.{nat_tests}
use Rattle.std.proofs.lemmas.List.Elements.{All-cons, All-head, All-tail}
use Rattle.blake2_hash.specs.Blake2b.{blake2b}
use Rattle.blake2_hash.specs.declared.digest.Hash32.{Hash32}
use Rattle.layout_roles.specs.declared.layout.Layout.{Layout}
use Rattle.table_schema.specs.Words.{Words, partition_of}
use Rattle.table_schema.specs.Laws.{Laws}
use Rattle.table_model.specs.Rows.{AllProper, rows, rows_in}
use Rattle.table_model.specs.Top.{any_unspelled, pairs_of}
use Rattle.table_model.proofs.RowLaws.{rows_proper}
use Rattle.walk_model.specs.Noting.{has_table}
use Rattle.walk_model.specs.Sets.{children_at}
use Rattle.walk_model.specs.Walking.{Walking, plain, taken, asks, notes}
use Rattle.merkle_sync.specs.declared.walk_end.WalkEnd.{WalkEnd}
use Rattle.merkle_sync.specs.Telling.{Tells}
use Rattle.cluster_machine.specs.Node.{Node}
use Rattle.cluster_machine.specs.Phases.{is_spelled}
use Rattle.cluster_machine.specs.Rounds.{is_empty, has_rows, rows_at, children_here, asked_after, noted_after}
use Rattle.node_parts.specs.declared.contents.Contents.{Contents}
use Rattle.node_parts.specs.Contents.{IsContents}
use Rattle.node_parts.specs.declared.walks.Answer.{Answer}
use Rattle.node_parts.specs.Walks.{has_tables, IsSpelled, LacksSpelling, children_of, GoesOn}

none_or_some : {A : Type 0} (o : Option A) → is_some o ≡ not (is_none o)
none_or_some None = refl
none_or_some (Some a) = refl

both_ways : (a b c : Bool) → c ≡ not b → (not a && not b) ≡ not (a || b)
both_ways true b c e = refl
both_ways false b c e = refl

module _ {R : Type 0} (s : Words R) where
  spelled_are : (rs : List R) → list_all (is_spelled s) rs ≡ not (any_unspelled s rs)
  spelled_are [] = refl
  spelled_are (r ∷ rs) = (λ i. none_or_some (s.spelling r) i && spelled_are rs i) ∙ both_ways (is_none (s.spelling r)) (any_unspelled s rs) (not (any_unspelled s rs)) refl

  one_of_three : (t : ℕ) → 1 ≤ t → t ≤ 3 → ((t == 1) || ((t == 2) || (t == 3))) ≡ true
  one_of_three t low high = grind (arith, nat_tests)

  or_split : (a b c d e f : Bool) → (a || (b || c)) ≡ true → ((a || d) || ((b || e) || (c || f))) ≡ true
  or_split true b c d e f h = refl
  or_split false true c true e f h = refl
  or_split false true c false e f h = refl
  or_split false false true true e f h = refl
  or_split false false true false true f h = refl
  or_split false false true false false f h = refl
  or_split false false false d e f h = cc

  -- rows of three tables
  has_some : (laws_of : (r : R) → IsTrue (s.is_proper r) → (1 ≤ s.table r) × (s.table r ≤ 3)) (rs : List R) → AllProper s rs → has_tables s rs ≡ not (is_empty rs)
  has_some laws_of [] all = refl
  has_some laws_of (r ∷ rs) all =
      let at = laws_of r (All-head (λ y. IsTrue (s.is_proper y)) r rs all) in
      or_split (s.table r == 1) (s.table r == 2) (s.table r == 3) (has_table s 1 rs) (has_table s 2 rs) (has_table s 3 rs) (one_of_three (s.table r) at.0 at.1)

  proper_filter : (test : R → Bool) (rs : List R) → AllProper s rs → AllProper s (filter test rs)
  proper_filter test [] all = all
  proper_filter test (r ∷ rs) all =
      elim (test r) as (λ b. AllProper s (cond b (r ∷ filter test rs) (filter test rs))) [
        | true ↦ All-cons (λ y. IsTrue (s.is_proper y)) r (filter test rs) (All-head (λ y. IsTrue (s.is_proper y)) r rs all) (proper_filter test rs (All-tail (λ y. IsTrue (s.is_proper y)) r rs all))
        | false ↦ proper_filter test rs (All-tail (λ y. IsTrue (s.is_proper y)) r rs all)
      ]

-- a byte with a value that is a hash
abbrev hashed : ℕ × List ℕ → ℕ × Hash32
hashed child = (child.0, record { 0 = child.1 })

-- children with their values as hashes, and back
plain_back : (xs : List (ℕ × Hash32)) → xs ≡ map hashed (map plain xs)
plain_back [] = refl
plain_back (x ∷ xs) = ap (λ l. x ∷ l) (plain_back xs)

module _ {S R : Type 0} {join : R → R → R} {s : Words R} where
  -- the code's partition has rows where the node's has
  pub has_both : (laws : Laws join s) (c : Contents S R) (x : Node R Layout) (p : ℕ) → IsContents join s c x → has_tables s (rows_in s p c.table) ≡ has_rows join s x p
  has_both laws c x p is =
      ap (λ t. has_tables s (rows_in s p t)) is.table
      ∙ has_some s laws.table_is_first_to_third (rows_at join s x p) (proper_filter s (λ r. partition_of s r == p) (rows join s x.accepted) (rows_proper laws x.accepted is.proper))

  pub all_spelled : (c : Contents S R) (p : ℕ) → any_unspelled s (rows_in s p c.table) ≡ false → IsSpelled join s c p
  all_spelled c p e x is = ap (λ t. list_all (is_spelled s) (rows_in s p t)) (sym is.table) ∙ spelled_are s (rows_in s p c.table) ∙ ap not e

  pub some_lacks : (c : Contents S R) (p : ℕ) → IsTrue (any_unspelled s (rows_in s p c.table)) → LacksSpelling join s c p
  some_lacks c p e x is = ap (λ t. list_all (is_spelled s) (rows_in s p t)) (sym is.table) ∙ spelled_are s (rows_in s p c.table) ∙ ap not e

  -- what the trie of some rows tells of an answer, in the words of the model
  pub told_so : (c : Contents S R) (a : Answer) (there : List R) (theirs : List (ℕ × Hash32)) (old new : Walking) (end : WalkEnd) → there ≡ c.table → children_of a ≡ Some theirs →
      Tells (taken a.table a.prefix.now (asks (blake2b 32) a.table a.prefix.now theirs (pairs_of s a.table old.partition there)) (notes (blake2b 32) a.table a.prefix.now theirs (pairs_of s a.table old.partition there)) old)
      (asks (blake2b 32) a.table a.prefix.now theirs (pairs_of s a.table old.partition there)) end new → GoesOn join s c a old new end
  told_so c a there theirs old new end same children told x is =
      let p = old.partition in
      subst (λ o. Tells (taken a.table a.prefix.now (asked_after join s x p a.table a.prefix.now o) (noted_after join s x p a.table a.prefix.now o) old) (asked_after join s x p a.table a.prefix.now o) end new) (sym children)
      (subst (λ rs. Tells (taken a.table a.prefix.now (asks (blake2b 32) a.table a.prefix.now theirs (pairs_of s a.table p rs)) (notes (blake2b 32) a.table a.prefix.now theirs (pairs_of s a.table p rs)) old)
      (asks (blake2b 32) a.table a.prefix.now theirs (pairs_of s a.table p rs)) end new) (same ∙ is.table) told)

  -- what the tries have at a prefix, in the words of the model
  pub children_so : (c : Contents S R) (table p : ℕ) (prefix : List ℕ) (xs : List (ℕ × Hash32)) (x : Node R Layout) → map plain xs ≡ children_at (blake2b 32) prefix (pairs_of s table p c.table) → IsContents join s c x → xs ≡ children_here join s x table p prefix
  children_so c table p prefix xs x are is =
      plain_back xs
      ∙ ap (map hashed) (are ∙ ap (λ t. children_at (blake2b 32) prefix (pairs_of s table p t)) is.table)
