-- Pairs of a trie and the rows that they stand for, where no two strings that are hashed have one digest.
use Rattle.std.specs.Prelude.{◌≡◌, ◌≢◌, ◌≤◌, ◌⊎◌, ℕ, ◌==◌, true, false, cond, List, [], ◌∷◌, ◌++◌, Some, IsTrue, All, filter, map, length, replicate, refl}
use Rattle.std.specs.List.{AllByRecursion}
use Rattle.std.proofs.Common.{ap, sym, subst, ◌∙◌, inl, inr, arith}
use Rattle.std.proofs.lemmas.Bool.{eqb-true, eq-eqb, cases_Bool}
use Rattle.std.proofs.lemmas.Cmp.{tied_itself}
use Rattle.std.proofs.lemmas.List.{take_all}
use Rattle.std.proofs.lemmas.List.Elements.{All-from_recursion}
use Rattle.std.specs.declared.cmp.Ordering.TheVariants.{Less, Equal}
use Rattle.blake2_hash.specs.Blake2b.{blake2b}
use Rattle.blake2_hash.specs.DigestLaws.{digest_length, blake2b_below}
use Rattle.blake2_hash.specs.declared.digest.Hash32.{Hash32}
use Rattle.crdt_core.specs.Members.{Has as HasIn}
use Rattle.table_schema.specs.Words.{Words, partition_of}
use Rattle.table_schema.specs.Laws.{Laws}
use Rattle.table_model.specs.Root.{Pair}
use Rattle.table_model.specs.Rows.{place_cmp, place, row_at, rows, rows_in}
use Rattle.table_model.specs.Top.{pair_of}
use Rattle.table_model.proofs.RowLaws.{place_total, Above, Ascends, rows_ascend}
use Rattle.range_laws.proofs.Fronts.{ascends_filter}
use Rattle.block_laws.proofs.Found.{rows_found}
use Rattle.walk_model.specs.Sets.{with_prefix, value_at, IsHash, IsSet}
use Rattle.walk_model.specs.Equal.{NoClash as ClashFree, inputs_at}
use Rattle.walk_model.specs.Account.{Answer, Noted, UnderOpen, SaysSame as SameThere, SaysDiffer as DiffersThere}
use Rattle.walk_model.specs.Walking.{closed, plain, asks, notes}
use Rattle.walk_model.specs.Sets.{children_at}
use Rattle.walk_model.proofs.Covering.{has_map, one_has, told_same, told_differ}
use Rattle.walk_model.proofs.Prefixes.{starts, starts_is}
use Rattle.cluster_machine.specs.Hashes.{HashesRow, NoClash}
use Rattle.drained_laws.specs.Waiting.{Has as HasOne}
use Rattle.drained_laws.proofs.Waits.{all_has, some_weaker}
use Rattle.change_laws.specs.Handing.{Holds, trie, IsHashed, IsUnder}
use Rattle.change_laws.proofs.Equal.{row_there, in_partition}
use Rattle.change_laws.proofs.Lists.{some_filtered, some_left_over, some_before_map, some_one, all_of_each}

abbrev digest : List ℕ → List ℕ
digest = blake2b 32

is_hash : (bytes : List ℕ) → IsHash (digest bytes)
is_hash bytes = record { len = digest_length bytes; bytes_are = blake2b_below 32 bytes }

whole : (key other : List ℕ) → length key ≡ 32 → length other ≡ 32 → starts other key ≡ true → key ≡ other
whole key other h g e = sym (starts_is other key e) ∙ take_all (length key) other (omega arith)

-- both ways of saying that it is an element
pub has_from : {X : Type 0} (xs : List X) (x : X) → HasOne xs x → HasIn xs x
has_from [] x h = elim h [ ]
has_from (y ∷ ys) x h = elim h [ inl e ↦ inl e | inr r ↦ inr (has_from ys x r) ]

has_back : {X : Type 0} (xs : List X) (x : X) → HasIn xs x → HasOne xs x
has_back [] x h = absurd h
has_back (y ∷ ys) x h = elim h [ inl e ↦ inl e | inr r ↦ inr (has_back ys x r) ]

module _ {R : Type 0} {join : R → R → R} {s : Words R} (laws : Laws join s) (good : R → Type 0) (one : (a b : R) → good a → good b → s.table a ≡ s.table b → s.key a ≡ s.key b → a ≡ b) (H : List ℕ → Type 0) (clear : NoClash H) where
  -- no other row of the table has that key hash
  none_with : (r : R) (rs : List R) (key : List ℕ) → length key ≡ 32 → digest (s.key r) ≡ key → H (s.key r) → Above s (place s r) rs → ((y : R) → HasOne rs y → (s.table y ≡ s.table r) × H (s.key y)) → with_prefix key (map (pair_of s) rs) ≡ []
  none_with r [] key len e h a f = refl
  none_with r (y ∷ rs) key len e h a f = ap (λ b. cond b (pair_of s y ∷ with_prefix key (map (pair_of s) rs)) (with_prefix key (map (pair_of s) rs))) other ∙ none_with r rs key len e h a.1 (λ z g. f z (inr g))
    where
      other : starts (digest (s.key y)) key ≡ false
      other = elim (cases_Bool (starts (digest (s.key y)) key)) [
        | inl t ↦
            let at = f y (inl refl) in
            let same_key : s.key y ≡ s.key r = clear.apart (s.key y) (s.key r) at.1 h (sym (whole key (digest (s.key y)) len (digest_length (s.key y)) t) ∙ sym e) in
            let same : place s y ≡ place s r = λ i. (at.0 i, same_key i) in
            let clash : Equal ≡ Less = sym (tied_itself place_total (place s r)) ∙ (ap (place_cmp (place s r)) (sym same) ∙ a.0) in
            cc
        | inr g ↦ g
      ]

  few : (rs : List R) (table : ℕ) (key : List ℕ) → length key ≡ 32 → Ascends s rs → ((y : R) → HasOne rs y → (s.table y ≡ table) × H (s.key y)) → length (with_prefix key (map (pair_of s) rs)) ≤ 1
  few [] table key len a f = omega arith
  few (r ∷ rs) table key len a f =
      elim (starts (digest (s.key r)) key) as (λ b. starts (digest (s.key r)) key ≡ b → length (cond b (pair_of s r ∷ with_prefix key (map (pair_of s) rs)) (with_prefix key (map (pair_of s) rs))) ≤ 1) [
        | true ↦ (λ t.
            let none = none_with r rs key len (sym (whole key (digest (s.key r)) len (digest_length (s.key r)) t)) (f r (inl refl)).1 a.0 (λ y h. let at = f y (inr h) in (at.0 ∙ sym (f r (inl refl)).0, at.1)) in
            let count : length (with_prefix key (map (pair_of s) rs)) ≡ 0 = ap length none in
            omega (arith, count))
        | false ↦ (λ t. few rs table key len a.1 (λ y h. f y (inr h)))
      ] refl

  -- what stands behind one value of one trie and another clashes nowhere
  clear_at : (ours theirs : List (List ℕ)) → ((x : List ℕ) → HasIn ours x → H x) → ((x : List ℕ) → HasIn theirs x → H x) → ClashFree digest ours theirs
  clear_at ours theirs f g =
      let Apart : List ℕ → List ℕ → Type 0 = λ x y. digest x ≡ digest y → x ≡ y in
      let Some : List ℕ → Type 0 = λ x. digest x ≢ replicate 32 0 in
      let Each : List ℕ → Type 0 = λ x. All (Apart x) theirs in record {
        apart = All-from_recursion Each ours (all_of_each Each ours (λ x h. All-from_recursion (Apart x) theirs (all_of_each (Apart x) theirs (λ y i e. clear.apart x y (f x (has_from ours x h)) (g y (has_from theirs y i)) e))));
        ours_some = All-from_recursion Some ours (all_of_each Some ours (λ x h. clear.some x (f x (has_from ours x h))));
        theirs_some = All-from_recursion Some theirs (all_of_each Some theirs (λ y i. clear.some y (g y (has_from theirs y i))));
      }

  module _ (p table : ℕ) (c : List R) (is : IsHashed join s good H p c) where
    abbrev there : List R
    there = rows join s c

    abbrev pairs : List Pair
    pairs = trie join s good H c table p

    ascends : Ascends s there
    ascends = rows_ascend laws c (All-from_recursion (λ r. IsTrue (s.is_proper r)) c is.good_rows.proper)

    key_hashed : (r : R) → HasOne (rows_in s p there) r → H (s.key r)
    key_hashed r h = is.hashed (s.key r) (inl (one_has (HashesRow s (s.key r)) (rows_in s p there) r (has_from (rows_in s p there) r h) (inl refl)))

    -- a row of the table and partition
    of_table : (r : R) → HasOne (filter (λ r. s.table r == table) (rows_in s p there)) r → (s.table r ≡ table) × HasOne (rows_in s p there) r
    of_table r h =
        let z = some_one (λ y. (y ≡ r) × ((s.table y == table) ≡ true)) (rows_in s p there) (some_left_over (λ y. y ≡ r) (λ y. s.table y == table) (rows_in s p there) h) in
        (sym (ap s.table z.1.1.0) ∙ eqb-true (s.table z.0) table z.1.1.1, subst (HasOne (rows_in s p there)) z.1.1.0 z.1.0)

    pub set_of : IsSet pairs
    set_of = record {
      hashes = All-from_recursion (λ (pair : Pair). IsHash pair.0) pairs (all_hashes (filter (λ r. s.table r == table) (rows_in s p there)));
      apart = λ key len. few (filter (λ r. s.table r == table) (rows_in s p there)) table key len (ascends_filter s (λ r. s.table r == table) (rows_in s p there) (ascends_filter s (λ r. partition_of s r == p) there ascends))
          (λ y h. let o = of_table y h in (o.0, key_hashed y o.1));
    }
      where
        all_hashes : (rs : List R) → AllByRecursion (λ (pair : Pair). IsHash pair.0) (map (pair_of s) rs)
        all_hashes [] = tt
        all_hashes (r ∷ rs) = (is_hash (s.key r), all_hashes rs)

    inputs_hashed : (prefix x : List ℕ) → HasIn (inputs_at digest prefix pairs) x → H x
    inputs_hashed prefix x h = is.hashed x (inr (table, (prefix, h)))

    among : (r : R) → Holds join s good r c → partition_of s r ≡ p → HasOne (rows_in s p there) r
    among r h e = in_partition laws c is.good_rows.proper p r (row_there laws c is.good_rows.proper (s.table r) (s.key r) r h).0 e

    -- a row has its pair
    pair_at : (r : R) → Holds join s good r c → partition_of s r ≡ p → s.table r ≡ table → HasIn pairs (digest (s.key r), (pair_of s r).1)
    pair_at r h e f =
        has_map (pair_of s) (filter (λ r. s.table r == table) (rows_in s p there)) r
        (has_from (filter (λ r. s.table r == table) (rows_in s p there)) r
        (some_filtered (λ y. y ≡ r) (λ y. s.table y == table) (rows_in s p there)
        (some_weaker (λ y. y ≡ r) (λ y. (y ≡ r) × ((s.table y == table) ≡ true)) (λ y same. (same, eq-eqb (s.table y) table (ap s.table same ∙ f))) (rows_in s p there) (among r h e))))

    -- a pair with a row's key hash is that of the row
    holds_from : (r : R) (row : List ℕ) → good r → H (s.key r) → s.table r ≡ table → HasIn pairs (digest (s.key r), row) → Holds join s good r c
    holds_from r row is_good known f h =
        let rs = filter (λ r. s.table r == table) (rows_in s p there) in
        let z = some_one (λ y. pair_of s y ≡ (digest (s.key r), row)) rs (some_before_map (λ pair. pair ≡ (digest (s.key r), row)) (pair_of s) rs (has_back pairs (digest (s.key r), row) h)) in
        let o = of_table z.0 z.1.0 in
        let same_key : s.key z.0 ≡ s.key r = clear.apart (s.key z.0) (s.key r) (key_hashed z.0 o.1) known (ap (λ (x : Pair). x.0) z.1.1) in
        let inside : HasOne there z.0 = (let y = some_one (λ y. (y ≡ z.0) × ((partition_of s y == p) ≡ true)) there (some_left_over (λ y. y ≡ z.0) (λ y. partition_of s y == p) there o.1) in subst (HasOne there) y.1.1.0 y.1.0) in
        let at : Holds join s good z.0 c = all_has (λ r. row_at join s c (s.table r) (s.key r) ≡ Some r) there z.0 (rows_found laws c is.good_rows.proper) inside in
        let its_good = (is.good_rows.each (s.table z.0) (s.key z.0) z.0 at).0 in
        subst (λ y. Holds join s good y c) (one z.0 r its_good is_good (o.0 ∙ sym f) same_key) at

  -- ---- answers

  module _ (p table : ℕ) (prefix : List ℕ) (ours theirs : List R) (is : IsHashed join s good H p ours) (their : IsHashed join s good H p theirs) (r : R) (under : IsUnder join s good H p table prefix r) (mine : Holds join s good r ours) where
    abbrev a : Answer
    a = record { table = table; own = trie join s good H ours table p; theirs = trie join s good H theirs table p }

    shown : (row : List ℕ) → HasIn (trie join s good H theirs table p) (digest (s.key r), row) → Holds join s good r theirs
    shown row h = holds_from p table theirs their r row under.good_one (key_hashed p table ours is r (among p table ours is r mine under.of_part)) under.of_table h

    -- where both values are one, the other has the row
    pub same_shows : value_at digest prefix (trie join s good H ours table p) ≡ value_at digest prefix (trie join s good H theirs table p) → Holds join s good r theirs
    same_shows values =
        let says : SameThere digest prefix a = record {
          own_set = set_of p table ours is;
          their_set = set_of p table theirs their;
          values = values;
          clear = clear_at (inputs_at digest prefix a.own) (inputs_at digest prefix a.theirs) (inputs_hashed p table ours is prefix) (inputs_hashed p table theirs their prefix);
        } in
        elim (told_same digest digest_length a table prefix [] [] refl says (digest (s.key r)) ((pair_of s r).1, pair_at p table ours is r mine under.of_part under.of_table) under.short under.begins) [
          | inl shows ↦ shown shows.1.0 shows.1.1.1
          | inr rest ↦ elim rest [ inl none ↦ absurd none | inr none ↦ absurd none ]
        ]

    -- what the other tells shows the row, or notes its key, or leads to a longer prefix
    pub differ_shows : (children : List (ℕ × Hash32)) → map plain children ≡ children_at digest prefix (trie join s good H theirs table p) →
        Holds join s good r theirs ⊎ (Noted (notes digest table prefix children (trie join s good H ours table p)) table (digest (s.key r)) ⊎ UnderOpen (closed table prefix (map (λ p. (table, p)) (asks digest table prefix children (trie join s good H ours table p)))) table (digest (s.key r)))
    differ_shows children are =
        let says : DiffersThere digest prefix children a = record {
          their_set = set_of p table theirs their;
          children_are = are;
          clear = λ byte low. clear_at (inputs_at digest (prefix ++ byte ∷ []) a.own) (inputs_at digest (prefix ++ byte ∷ []) a.theirs) (inputs_hashed p table ours is (prefix ++ byte ∷ [])) (inputs_hashed p table theirs their (prefix ++ byte ∷ []));
        } in
        elim (told_differ digest digest_length a table prefix children refl (set_of p table ours is) says (digest (s.key r)) ((pair_of s r).1, pair_at p table ours is r mine under.of_part under.of_table) under.short under.begins) [
          | inl shows ↦ inl (shown shows.1.0 shows.1.1.1)
          | inr rest ↦ inr rest
        ]
