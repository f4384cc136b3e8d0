-- Pairs of a trie and the rows that they stand for, where no two strings that are hashed have one digest.
use Rattle.std.specs.Prelude.{◌≡◌, ◌≢◌, ◌≤◌, ◌⊎◌, ℕ, ◌==◌, Bool, true, false, cond, List, [], ◌∷◌, Option, Some, None, is_some, IsTrue, All, filter, map, length, replicate, refl}
use Rattle.std.specs.Option.{unwrap_or}
use Rattle.std.specs.List.{AllByRecursion, list_all}
use Rattle.std.proofs.Common.{ap, sym, subst, ◌∙◌, inl, inr, arith}
use Rattle.std.proofs.lemmas.Bool.{eqb-true, eq-eqb, cases_Bool}
use Rattle.std.proofs.lemmas.Cmp.{tied_itself}
use Rattle.std.proofs.lemmas.List.{take_all}
use Rattle.std.proofs.lemmas.List.Elements.{All-from_recursion}
use Rattle.std.specs.declared.cmp.Ordering.TheVariants.{Less, Equal}
use Rattle.blake2_hash.specs.Blake2b.{blake2b}
use Rattle.blake2_hash.specs.DigestLaws.{digest_length, blake2b_below}
use Rattle.crdt_core.specs.EntryLaws.{and_parts}
use Rattle.crdt_core.specs.Laws.{JoinLaws}
use Rattle.crdt_core.specs.Members.{Has}
use Rattle.crdt_core.specs.Order.{option_join}
use Rattle.table_schema.specs.Words.{Words, partition_of}
use Rattle.table_schema.specs.Laws.{Laws}
use Rattle.table_model.specs.Root.{Pair}
use Rattle.table_model.specs.Rows.{place_cmp, place, rows, rows_in}
use Rattle.table_model.specs.Top.{pair_of}
use Rattle.table_model.proofs.RowLaws.{place_total, Above, Ascends, rows_ascend}
use Rattle.range_laws.proofs.Fronts.{ascends_filter}
use Rattle.walk_model.specs.Sets.{with_prefix, IsHash, IsSet}
use Rattle.walk_model.specs.Equal.{NoClash as ClashFree, inputs_at}
use Rattle.walk_model.specs.Account.{Shows}
use Rattle.walk_model.proofs.Covering.{has_map, kept_in, one_has}
use Rattle.walk_model.proofs.Prefixes.{starts, starts_is}
use Rattle.cluster_machine.specs.Phases.{is_spelled}
use Rattle.cluster_machine.specs.Hashes.{HashesRow, NoClash}
use Rattle.machine_reads.specs.Places.{Place, keys, place_of, at_place}
use Rattle.machine_reads.specs.Hashed.{trie, AreHashed}
use Rattle.machine_reads.proofs.Placed.{keys_laws, rows_proper, rows_at_place}

abbrev digest : List ℕ → List ℕ
digest = blake2b 32

-- ---- lists

pub filtered : {A : Type 0} (f : A → Bool) (xs : List A) (x : A) → Has (filter f xs) x → Has xs x × (f x ≡ true)
filtered f [] x h = absurd h
filtered f (y ∷ xs) x h =
    elim (f y) as (λ b. f y ≡ b → Has (cond b (y ∷ filter f xs) (filter f xs)) x → ((y ≡ x) ⊎ Has xs x) × (f x ≡ true)) [
      | true ↦ (λ e g. elim g [ inl same ↦ (inl same, subst (λ z. f z ≡ true) same e) | inr more ↦ (let rest = filtered f xs x more in (inr rest.0, rest.1)) ])
      | false ↦ (λ e g. let rest = filtered f xs x g in (inr rest.0, rest.1))
    ] refl h

pub mapped : {A B : Type 0} (f : A → B) (xs : List A) (z : B) → Has (map f xs) z → (x : A) × (Has xs x × (f x ≡ z))
mapped f [] z h = absurd h
mapped f (x ∷ xs) z (inl e) = (x, (inl refl, e))
mapped f (x ∷ xs) z (inr h) = let rest = mapped f xs z h in (rest.0, (inr rest.1.0, rest.1.1))

pub all_passed : {A : Type 0} (f : A → Bool) (xs : List A) (x : A) → list_all f xs ≡ true → Has xs x → f x ≡ true
all_passed f [] x a h = absurd h
all_passed f (y ∷ xs) x a h =
    let parts = and_parts (f y) (list_all f xs) a in
    elim h [ inl e ↦ subst (λ z. f z ≡ true) e parts.0 | inr more ↦ all_passed f xs x parts.1 more ]

all_from : {A : Type 0} (P : A → Type 0) (xs : List A) → ((x : A) → Has xs x → P x) → AllByRecursion P xs
all_from P [] f = tt
all_from P (x ∷ xs) f = (f x (inl refl), all_from P xs (λ y h. f y (inr h)))

has_of : {A : Type 0} (P : A → Type 0) (xs : List A) (x : A) → AllByRecursion P xs → Has xs x → P x
has_of P [] x a h = absurd h
has_of P (y ∷ xs) x a (inl e) = subst P e a.0
has_of P (y ∷ xs) x a (inr h) = has_of P xs x a.1 h

some_of : {A : Type 0} (a b : A) → Some a ≡ Some b → a ≡ b
some_of a b e = ap (λ o. unwrap_or o a) e

-- ---- rows at their places

module _ {R : Type 0} {join : R → R → R} {s : Words R} (joins_well : JoinLaws join) (laws : Laws join s) where
  abbrev placed_by : List R → Place → R → Bool → Option R
  placed_by xs q x b = cond b (option_join join (at_place s join xs q) (Some x)) (at_place s join xs q)

  -- a row above a place is at another
  not_there : (k : ℕ × List ℕ) (x : R) (q : Place) → place_cmp k (place s x) ≡ Less → q.1 ≡ k → keys.is_same (place_of s x) q ≡ false
  not_there k x q less e = elim (cases_Bool (keys.is_same (place_of s x) q)) [
    | inl t ↦
        let same : place s x ≡ k = ap (λ (z : Place). z.1) (keys_laws.identical (place_of s x) q t) ∙ e in
        let clash : Equal ≡ Less = sym (tied_itself place_total k) ∙ (ap (place_cmp k) (sym same) ∙ less) in
        cc
    | inr f ↦ f
  ]

  none_at : (k : ℕ × List ℕ) (xs : List R) (q : Place) → Above s k xs → q.1 ≡ k → at_place s join xs q ≡ None
  none_at k [] q a e = refl
  none_at k (x ∷ xs) q a e = ap (placed_by xs q x) (not_there k x q a.0 e) ∙ none_at k xs q a.1 e

  above_has : (k : ℕ × List ℕ) (xs : List R) (r : R) → Above s k xs → Has xs r → place_cmp k (place s r) ≡ Less
  above_has k [] r a h = absurd h
  above_has k (x ∷ xs) r a (inl e) = subst (λ z. place_cmp k (place s z) ≡ Less) e a.0
  above_has k (x ∷ xs) r a (inr h) = above_has k xs r a.1 h

  -- each of the rows in order is found at its place
  found_own : (xs : List R) (r : R) → Ascends s xs → Has xs r → at_place s join xs (place_of s r) ≡ Some r
  found_own [] r a h = absurd h
  found_own (x ∷ xs) r a (inl e) =
      subst (λ z. at_place s join (x ∷ xs) (place_of s z) ≡ Some z) e
      (ap (placed_by xs (place_of s x) x) (keys_laws.itself (place_of s x)) ∙ ap (λ o. option_join join o (Some x)) (none_at (place s x) xs (place_of s x) a.0 refl))
  found_own (x ∷ xs) r a (inr h) = ap (placed_by xs (place_of s r) x) apart ∙ found_own xs r a.1 h
    where
      apart : keys.is_same (place_of s x) (place_of s r) ≡ false
      apart = elim (cases_Bool (keys.is_same (place_of s x) (place_of s r))) [
        | inl t ↦
            let same : place s x ≡ place s r = ap (λ (z : Place). z.1) (keys_laws.identical (place_of s x) (place_of s r) t) in
            let clash : Equal ≡ Less = sym (tied_itself place_total (place s x)) ∙ (ap (place_cmp (place s x)) same ∙ above_has (place s x) xs r a.0 h) in
            cc
        | inr f ↦ f
      ]

  -- what is at a place is one of the rows in order
  found_from : (xs : List R) (q : Place) (y : R) → Ascends s xs → at_place s join xs q ≡ Some y → Has xs y × (place_of s y ≡ q)
  found_from [] q y a e = cc
  found_from (x ∷ xs) q y a e =
      elim (keys.is_same (place_of s x) q) as (λ b. keys.is_same (place_of s x) q ≡ b → placed_by xs q x b ≡ Some y → ((x ≡ y) ⊎ Has xs y) × (place_of s y ≡ q)) [
        | true ↦ (λ t f.
            let here : place_of s x ≡ q = keys_laws.identical (place_of s x) q t in
            let none : at_place s join xs q ≡ None = none_at (place s x) xs q a.0 (sym (ap (λ (z : Place). z.1) here)) in
            let same : x ≡ y = some_of x y (sym (ap (λ o. option_join join o (Some x)) none) ∙ f) in
            (inl same, subst (λ z. place_of s z ≡ q) same here))
        | false ↦ (λ t f. let rest = found_from xs q y a.1 f in (inr rest.0, rest.1))
      ] refl e

  -- what is at a place of a partition is a proper row of it
  pub among_rows : (c : List R) (p : ℕ) (q : Place) (z : R) → AllByRecursion (λ r. IsTrue (s.is_proper r)) c → q.0 ≡ p → at_place s join c q ≡ Some z → Has (rows_in s p (rows join s c)) z × ((place_of s z ≡ q) × IsTrue (s.is_proper z))
  among_rows c p q z proper part e =
      let there = rows join s c in
      let from = found_from there q z (rows_ascend laws c (All-from_recursion (λ r. IsTrue (s.is_proper r)) c proper)) (rows_at_place joins_well laws c q proper ∙ e) in
      let here : partition_of s z ≡ p = ap (λ (x : Place). x.0) from.1 ∙ part in
      (kept_in (λ r. partition_of s r == p) there z from.0 (eq-eqb (partition_of s z) p here), (from.1, has_of (λ r. IsTrue (s.is_proper r)) there z (rows_proper joins_well laws c proper) from.0))

  -- a row of a partition is found among those of it that pass
  pub picked : (c : List R) (p : ℕ) (test : R → Bool) (q : Place) (z : R) → AllByRecursion (λ r. IsTrue (s.is_proper r)) c → q.0 ≡ p → at_place s join c q ≡ Some z → ((place_of s z ≡ q) → test z ≡ true) →
      at_place s join (filter test (rows_in s p (rows join s c))) q ≡ Some z
  picked c p test q z proper part e passes =
      let there = rows join s c in
      let up = rows_ascend laws c (All-from_recursion (λ r. IsTrue (s.is_proper r)) c proper) in
      let from = found_from there q z up (rows_at_place joins_well laws c q proper ∙ e) in
      let here : partition_of s z ≡ p = ap (λ (x : Place). x.0) from.1 ∙ part in
      let inside = kept_in test (rows_in s p there) z (kept_in (λ r. partition_of s r == p) there z from.0 (eq-eqb (partition_of s z) p here)) (passes from.1) in
      ap (at_place s join (filter test (rows_in s p there))) (sym from.1)
      ∙ found_own (filter test (rows_in s p there)) z (ascends_filter s test (rows_in s p there) (ascends_filter s (λ r. partition_of s r == p) there up)) inside

  -- ---- sets of pairs

  is_hash : (bytes : List ℕ) → IsHash (digest bytes)
  is_hash bytes = record { len = digest_length bytes; bytes_are = blake2b_below 32 bytes }

  whole : (key other : List ℕ) → length key ≡ 32 → length other ≡ 32 → starts other key ≡ true → key ≡ other
  whole key other h g e = sym (starts_is other key e) ∙ take_all (length key) other (omega arith)

  module _ (H : List ℕ → Type 0) (clear : NoClash H) where
    -- no other row of the table has that key hash
    none_with : (r : R) (rs : List R) (key : List ℕ) → length key ≡ 32 → digest (s.key r) ≡ key → H (s.key r) → Above s (place s r) rs → ((y : R) → Has rs y → (s.table y ≡ s.table r) × H (s.key y)) → with_prefix key (map (pair_of s) rs) ≡ []
    none_with r [] key len e h a f = refl
    none_with r (y ∷ rs) key len e h a f = ap (λ b. cond b (pair_of s y ∷ with_prefix key (map (pair_of s) rs)) (with_prefix key (map (pair_of s) rs))) other ∙ none_with r rs key len e h a.1 (λ z g. f z (inr g))
      where
        other : starts (digest (s.key y)) key ≡ false
        other = elim (cases_Bool (starts (digest (s.key y)) key)) [
          | inl t ↦
              let at = f y (inl refl) in
              let same_key : s.key y ≡ s.key r = clear.apart (s.key y) (s.key r) at.1 h (sym (whole key (digest (s.key y)) len (digest_length (s.key y)) t) ∙ sym e) in
              let same : place s y ≡ place s r = λ i. (at.0 i, same_key i) in
              let clash : Equal ≡ Less = sym (tied_itself place_total (place s r)) ∙ (ap (place_cmp (place s r)) (sym same) ∙ a.0) in
              cc
          | inr g ↦ g
        ]

    few : (rs : List R) (table : ℕ) (key : List ℕ) → length key ≡ 32 → Ascends s rs → ((y : R) → Has rs y → (s.table y ≡ table) × H (s.key y)) → length (with_prefix key (map (pair_of s) rs)) ≤ 1
    few [] table key len a f = omega arith
    few (r ∷ rs) table key len a f =
        elim (starts (digest (s.key r)) key) as (λ b. starts (digest (s.key r)) key ≡ b → length (cond b (pair_of s r ∷ with_prefix key (map (pair_of s) rs)) (with_prefix key (map (pair_of s) rs))) ≤ 1) [
          | true ↦ (λ t.
              let none = none_with r rs key len (sym (whole key (digest (s.key r)) len (digest_length (s.key r)) t)) (f r (inl refl)).1 a.0 (λ y h. let at = f y (inr h) in (at.0 ∙ sym (f r (inl refl)).0, at.1)) in
              let count : length (with_prefix key (map (pair_of s) rs)) ≡ 0 = ap length none in
              omega (arith, count))
          | false ↦ (λ t. few rs table key len a.1 (λ y h. f y (inr h)))
        ] refl

    -- what stands behind one value of one trie and another clashes nowhere
    pub clear_at : (ours theirs : List (List ℕ)) → ((x : List ℕ) → Has ours x → H x) → ((x : List ℕ) → Has theirs x → H x) → ClashFree digest ours theirs
    clear_at ours theirs f g =
        let Apart : List ℕ → List ℕ → Type 0 = λ x y. digest x ≡ digest y → x ≡ y in
        let Some : List ℕ → Type 0 = λ x. digest x ≢ replicate 32 0 in
        let Each : List ℕ → Type 0 = λ x. All (Apart x) theirs in record {
          apart = All-from_recursion Each ours (all_from Each ours (λ x h. All-from_recursion (Apart x) theirs (all_from (Apart x) theirs (λ y i e. clear.apart x y (f x h) (g y i) e))));
          ours_some = All-from_recursion Some ours (all_from Some ours (λ x h. clear.some x (f x h)));
          theirs_some = All-from_recursion Some theirs (all_from Some theirs (λ y i. clear.some y (g y i)));
        }

    module _ (p table : ℕ) (c : List R) (is : AreHashed join s H c p) where
      abbrev there : List R
      there = rows join s c

      abbrev of_table : R → Bool
      of_table r = s.table r == table

      abbrev of_part : R → Bool
      of_part r = partition_of s r == p

      ascends : Ascends s there
      ascends = rows_ascend laws c (All-from_recursion (λ r. IsTrue (s.is_proper r)) c is.proper)

      key_hashed : (r : R) → Has (filter of_part there) r → H (s.key r)
      key_hashed r h = is.hashed (s.key r) (inl (one_has (HashesRow s (s.key r)) (filter of_part there) r h (inl refl)))

      pub set_of : IsSet (trie join s H c table p)
      set_of = record {
        hashes = All-from_recursion _ _ (all_hashes (filter of_table (filter of_part there)));
        apart = λ key len. few (filter of_table (filter of_part there)) table key len (ascends_filter s of_table (filter of_part there) (ascends_filter s of_part there ascends))
            (λ y h. let one = filtered of_table (filter of_part there) y h in (eqb-true (s.table y) table one.1, key_hashed y one.0));
      }
        where
          all_hashes : (rs : List R) → AllByRecursion (λ (pair : Pair). IsHash pair.0) (map (pair_of s) rs)
          all_hashes [] = tt
          all_hashes (r ∷ rs) = (is_hash (s.key r), all_hashes rs)

      pub inputs_hashed : (prefix x : List ℕ) → Has (inputs_at digest prefix (trie join s H c table p)) x → H x
      inputs_hashed prefix x h = is.hashed x (inr (table, (prefix, h)))

      -- the key of what is at a place is hashed
      pub key_at : (q : Place) (y : R) → q.0 ≡ p → at_place s join c q ≡ Some y → H q.1.1
      key_at q y part e =
          let from = found_from there q y ascends (rows_at_place joins_well laws c q is.proper ∙ e) in
          let here : partition_of s y ≡ p = ap (λ (z : Place). z.0) from.1 ∙ part in
          subst H (ap (λ (z : Place). z.1.1) from.1) (key_hashed y (kept_in of_part there y from.0 (eq-eqb (partition_of s y) p here)))

      -- what is at a place has its pair
      pub pair_at : (q : Place) (y : R) → q.0 ≡ p → q.1.0 ≡ table → at_place s join c q ≡ Some y → Has (trie join s H c table p) (digest q.1.1, (pair_of s y).1)
      pair_at q y part tab e =
          let from = found_from there q y ascends (rows_at_place joins_well laws c q is.proper ∙ e) in
          let here : partition_of s y ≡ p = ap (λ (z : Place). z.0) from.1 ∙ part in
          let there_table : s.table y ≡ table = ap (λ (z : Place). z.1.0) from.1 ∙ tab in
          let key : s.key y ≡ q.1.1 = ap (λ (z : Place). z.1.1) from.1 in
          subst (λ (k : List ℕ). Has (trie join s H c table p) (digest k, (pair_of s y).1)) key
          (has_map (pair_of s) (filter of_table (filter of_part there)) y
          (kept_in of_table (filter of_part there) y (kept_in of_part there y from.0 (eq-eqb (partition_of s y) p here)) (eq-eqb (s.table y) table there_table)))

      -- a row that has these bytes, at the place
      pub record Behind (q : Place) (row : List ℕ) : Type 0 where
        pub found : R
        pub is_there : at_place s join c q ≡ Some found
        pub bytes : List ℕ
        pub spelled : s.spelling found ≡ Some bytes
        pub hashed : H bytes
        pub digest_is : digest bytes ≡ row

      bytes_of_spelled : (o : Option (List ℕ)) → is_some o ≡ true → (bytes : List ℕ) × (o ≡ Some bytes)
      bytes_of_spelled None e = cc
      bytes_of_spelled (Some bytes) e = (bytes, refl)

      -- behind a pair with a hashed key stands a row
      pub row_behind : (q : Place) (row : List ℕ) → q.0 ≡ p → q.1.0 ≡ table → H q.1.1 → Has (trie join s H c table p) (digest q.1.1, row) → Behind q row
      row_behind q row part tab known h =
          let from = mapped (pair_of s) (filter of_table (filter of_part there)) (digest q.1.1, row) h in
          let z = from.0 in
          let one = filtered of_table (filter of_part there) z from.1.0 in
          let two = filtered of_part there z one.0 in
          let same_key : s.key z ≡ q.1.1 = clear.apart (s.key z) q.1.1 (key_hashed z one.0) known (ap (λ (x : Pair). x.0) from.1.1) in
          let t : s.table z ≡ q.1.0 = eqb-true (s.table z) table one.1 ∙ sym tab in
          let pt : partition_of s z ≡ q.0 = eqb-true (partition_of s z) p two.1 ∙ sym part in
          let here : place_of s z ≡ q = λ i. (pt i, (t i, same_key i)) in
          let spelled = bytes_of_spelled (s.spelling z) (all_passed (is_spelled s) (filter of_part there) z is.spelled one.0) in
          record {
            found = z;
            is_there = ap (at_place s join c) (sym here) ∙ (sym (rows_at_place joins_well laws c (place_of s z) is.proper) ∙ found_own there z ascends two.0);
            bytes = spelled.0;
            spelled = spelled.1;
            hashed = is.hashed spelled.0 (inl (one_has (HashesRow s spelled.0) (filter of_part there) z one.0 (inr spelled.1)));
            digest_is = ap (λ o. digest (unwrap_or o [])) (sym spelled.1) ∙ ap (λ (x : Pair). x.1) from.1.1;
          }

    -- a pair that both have shows that both have one row
    pub shown_same : (p table : ℕ) (ours theirs : List R) (is : AreHashed join s H ours p) (their : AreHashed join s H theirs p) (q : Place) (y : R) → q.0 ≡ p → q.1.0 ≡ table → at_place s join ours q ≡ Some y →
        Shows table (digest q.1.1) (record { table = table; own = trie join s H ours table p; theirs = trie join s H theirs table p }) → at_place s join theirs q ≡ Some y
    shown_same p table ours theirs is their q y part tab e shown =
        let known = key_at p table ours is q y part e in
        let a = row_behind p table ours is q shown.1.0 part tab known shown.1.1.0 in
        let b = row_behind p table theirs their q shown.1.0 part tab known shown.1.1.1 in
        let bytes : b.bytes ≡ a.bytes = clear.apart b.bytes a.bytes b.hashed a.hashed (b.digest_is ∙ sym a.digest_is) in
        let one : Some b.found ≡ Some a.found = sym ((laws.reads_back b.found b.bytes).1 b.spelled) ∙ (ap s.read bytes ∙ (laws.reads_back a.found a.bytes).1 a.spelled) in
        b.is_there ∙ (one ∙ (sym a.is_there ∙ e))
