-- What the tries of a table have of its rows, after rows or the index change.
use Rattle.std.specs.Prelude.{◌≡◌, ◌⊎◌, ℕ, ◌==◌, Bool, true, false, cond, not, is_some, List, [], ◌∷◌, Option, Some, None, Vec, filter, option_map, unwrap_or, refl}
use Rattle.std.proofs.Common.{ap, sym, ◌∙◌, subst, inl, inr}
use Rattle.std.proofs.lemmas.Bool.{eqb-true, both_ways}
use Rattle.std.proofs.lemmas.Map.Keys.{sorted_head, sorted_tail}
use Rattle.std.specs.List.{list_all}
use Rattle.std.specs.List.Sorted.{IsStrictlySortedBy}
use Rattle.std.specs.Map.{keys_of}
use Rattle.std.specs.BTreeMap.{BTreeMap, get}
use Rattle.std.specs.declared.cmp.Ordering.{Ordering}
use Rattle.std.specs.declared.cmp.Ordering.TheVariants.{Less, Equal, Greater}
use Rattle.std.specs.Ordering.{nat_cmp, is_eq}
use Rattle.std.specs.Cmp.{Equal-is}
use Rattle.std.proofs.lemmas.Cmp.{nat_cmp_total, nat_list_cmp_total, tied_itself}
use Rattle.std.specs.Cmp.Lexicographic.{slice_cmp}
use Rattle.crdt_core.specs.IdentityLaws.{slice_identical, nat_identical}
use Rattle.blake2_hash.specs.Blake2b.{blake2b}
use Rattle.blake2_hash.specs.declared.digest.Hash32.{Hash32}
use Rattle.table_schema.specs.Words.{Words}
use Rattle.table_store.specs.declared.shelf.Placed.{Placed}
use Rattle.table_store.specs.declared.index.Part.{Part}
use Rattle.table_store.specs.Index.{Grows, Key, IsKept, IsKeptIn, has_key, entries_in, keys_under, pair_at, shown_pair, waits_in}
use Rattle.table_store.specs.Shelf.{given, in_partition, is_indexed, placed_at, row_in, vec_cmp}
use Rattle.table_store.specs.Settled.{AllFit, Fits, IsFollowed, IsTaken}
use Rattle.table_store.proofs.Entries.{eq_turn}
use Rattle.table_store.proofs.Partitions.{Above, indexed_found, none_at}

-- ---- rows before and after

module _ {R : Type 0} where
  -- a row that is found in a partition has a place there
  given_from : (p : ℕ) (placed : Placed R) (row : R) (b : Bool) → (placed.partition == p) ≡ b → cond b (Some placed.row) None ≡ Some row → placed.partition ≡ p
  given_from p placed row true h is = eqb-true placed.partition p h
  given_from p placed row false h is = cc

module _ {R Z : Type 0} where
  indexed_at : (index : BTreeMap ℕ Part) (p : ℕ) (key : List ℕ) (es : List (Vec ℕ Z × Placed R)) (row : R) (o : Option (Placed R)) → placed_at key es ≡ o → given p o ≡ Some row → list_all (is_indexed index) es ≡ true → has_key key (keys_under index p) ≡ true
  indexed_at index p key es row None is found all = cc
  indexed_at index p key es row (Some placed) is found all =
      let one = given_from p placed row (placed.partition == p) refl found in
      ap (λ q. has_key key (keys_under index q)) (sym one) ∙ indexed_found index key placed es all is

  -- the index has the key of a row
  pub row_indexed : (index : BTreeMap ℕ Part) (p : ℕ) (key : List ℕ) (es : List (Vec ℕ Z × Placed R)) (row : R) → list_all (is_indexed index) es ≡ true → row_in p key es ≡ Some row → has_key key (keys_under index p) ≡ true
  row_indexed index p key es row all found = indexed_at index p key es row (placed_at key es) refl found all

  -- what a key finds among rows that changed: the same, or a row that waits
  pub record IsAnew (index : BTreeMap ℕ Part) (p : ℕ) (key : List ℕ) (old new : List (Vec ℕ Z × Placed R)) : Type 0 where
    pub has : has_key key (keys_under index p) ≡ true
    pub waits : waits_in key (get nat_cmp index p) ≡ true
    pub stays : is_some (row_in p key old) ≡ true → is_some (row_in p key new) ≡ true

  abbrev pub Steps : BTreeMap ℕ Part → List (Vec ℕ Z × Placed R) → List (Vec ℕ Z × Placed R) → Type 0
  Steps index old new = (p : ℕ) (key : List ℕ) → (row_in p key new ≡ row_in p key old) ⊎ IsAnew index p key old new

  pub no_steps : (index : BTreeMap ℕ Part) (old new : List (Vec ℕ Z × Placed R)) → new ≡ old → Steps index old new
  no_steps index old new same = λ p key. inl (ap (row_in p key) same)

  module _ (index : BTreeMap ℕ Part) (p : ℕ) (key : List ℕ) (v : Placed R) (old new : List (Vec ℕ Z × Placed R))
      (others : (other : List ℕ) → is_eq (slice_cmp nat_cmp key other) ≡ false → placed_at other new ≡ placed_at other old)
      (here : placed_at key new ≡ Some v) (place : v.partition ≡ p)
      (was : (w : Placed R) → placed_at key old ≡ Some w → w.partition ≡ p)
      (has : has_key key (keys_under index p) ≡ true) (waiting : waits_in key (get nat_cmp index p) ≡ true) where
    not_there : (q : ℕ) (w : Placed R) → w.partition ≡ p → (p == q) ≡ false → given q (Some w) ≡ None
    not_there q w one apart = ap (λ b. cond b (Some w.row) None) (ap (λ r. r == q) one ∙ apart)

    old_not : (q : ℕ) → (p == q) ≡ false → (o : Option (Placed R)) → placed_at key old ≡ o → given q o ≡ None
    old_not q apart None is = refl
    old_not q apart (Some w) is = not_there q w (was w is) apart

    new_there : (q : ℕ) → (p == q) ≡ true → is_some (row_in q key new) ≡ true
    new_there q same = ap (λ o. is_some (given q o)) here ∙ ap (λ b. is_some (cond b (Some v.row) None)) (ap (λ r. r == q) place ∙ same)

    at_key : (q : ℕ) (b : Bool) → (p == q) ≡ b → (row_in q key new ≡ row_in q key old) ⊎ IsAnew index q key old new
    at_key q true same =
        let one : p ≡ q = eqb-true p q same in
        inr (record {
          has = ap (λ r. has_key key (keys_under index r)) (sym one) ∙ has;
          waits = ap (λ r. waits_in key (get nat_cmp index r)) (sym one) ∙ waiting;
          stays = λ there. new_there q same;
        })
    at_key q false apart = inl (ap (given q) here ∙ (not_there q v place apart ∙ sym (old_not q apart (placed_at key old) refl)))

    by_key : (q : ℕ) (other : List ℕ) (b : Bool) → is_eq (slice_cmp nat_cmp key other) ≡ b → (row_in q other new ≡ row_in q other old) ⊎ IsAnew index q other old new
    by_key q other true same =
        let one : key ≡ other = slice_identical nat_identical key other ((Equal-is _).0 same) in
        subst (λ k. (row_in q k new ≡ row_in q k old) ⊎ IsAnew index q k old new) one (at_key q (p == q) refl)
    by_key q other false apart = inl (ap (given q) (others other apart))

    -- a row of partition p is put at a key
    pub steps_put : Steps index old new
    steps_put q other = by_key q other (is_eq (slice_cmp nat_cmp key other)) refl

cmp_ne : (p q : ℕ) → is_eq (nat_cmp p q) ≡ false → (b : Bool) → (p == q) ≡ b → b ≡ false
cmp_ne p q apart true h = let same : is_eq (nat_cmp p q) ≡ true = ap (λ r. is_eq (nat_cmp p r)) (sym (eqb-true p q h)) ∙ ap is_eq (tied_itself nat_cmp_total p) in absurd (both_ways (is_eq (nat_cmp p q)) apart same)
cmp_ne p q apart false h = refl

-- ---- tries after rows changed

module _ {R Z : Type 0} (s : Words R) where
  module _ (index later : BTreeMap ℕ Part) (old new : List (Vec ℕ Z × Placed R))
      (indexed : (p : ℕ) (key : List ℕ) (row : R) → row_in p key old ≡ Some row → has_key key (keys_under index p) ≡ true)
      (grows : (p : ℕ) (part : Part) → get nat_cmp later p ≡ Some part → Grows (get nat_cmp index p) part)
      (steps : Steps later old new) (fit : AllFit s index old) where
    module _ (p : ℕ) (part : Part) (found : get nat_cmp later p ≡ Some part) where
      grown : Grows (get nat_cmp index p) part
      grown = grows p part found

      kept_by : (o : Option Part) → get nat_cmp index p ≡ o → (IsKeptIn o → IsKept part.trie part.pairs.entries) → IsKept part.trie part.pairs.entries
      kept_by None is more = more tt
      kept_by (Some was) is more = more (fit p was is).kept

      followed_by : (key : List ℕ) (row : R) (o : Option Part) → get nat_cmp index p ≡ o → Grows o part → has_key key (keys_of (entries_in o)) ≡ true → row_in p key old ≡ Some row → IsFollowed s part key row
      followed_by key row None is grown had there = cc
      followed_by key row (Some was) is grown had there =
          elim ((fit p was is).rows_are key row there) [
            | inl waited ↦ inl (grown.waiting key waited)
            | inr taken ↦ inr (subst (IsTaken s key row) (sym (grown.extends.pairs key)) taken)
          ]

      keys_by : (key : List ℕ) (row : R) → row_in p key new ≡ Some row → (row_in p key new ≡ row_in p key old) ⊎ IsAnew later p key old new → has_key key (keys_of part.pairs.entries) ≡ true
      keys_by key row there (inl same) = grown.extends.keys key (indexed p key row (sym same ∙ there))
      keys_by key row there (inr anew) = ap (λ o. has_key key (keys_of (entries_in o))) (sym found) ∙ anew.has

      rows_by : (key : List ℕ) (row : R) → row_in p key new ≡ Some row → (row_in p key new ≡ row_in p key old) ⊎ IsAnew later p key old new → IsFollowed s part key row
      rows_by key row there (inl same) = followed_by key row (get nat_cmp index p) refl grown (indexed p key row (sym same ∙ there)) (sym same ∙ there)
      rows_by key row there (inr anew) = inl (ap (waits_in key) (sym found) ∙ anew.waits)

      pairs_old : (key : List ℕ) (pair : Hash32 × Hash32) (o : Option Part) → get nat_cmp index p ≡ o → pair_at key (entries_in o) ≡ Some pair → (is_some (row_in p key old) ≡ true) × (pair.0.0 ≡ blake2b 32 key)
      pairs_old key pair None is known = cc
      pairs_old key pair (Some was) is known = (fit p was is).pairs_are key pair known

      stays_by : (key : List ℕ) → is_some (row_in p key old) ≡ true → (row_in p key new ≡ row_in p key old) ⊎ IsAnew later p key old new → is_some (row_in p key new) ≡ true
      stays_by key there (inl same) = ap is_some same ∙ there
      stays_by key there (inr anew) = anew.stays there

      fits_part : Fits s p new part
      fits_part = record {
        kept = kept_by (get nat_cmp index p) refl grown.kept;
        keys_are = λ key row there. keys_by key row there (steps p key);
        rows_are = λ key row there. rows_by key row there (steps p key);
        pairs_are = λ key pair known.
            let was = pairs_old key pair (get nat_cmp index p) refl (sym (grown.extends.pairs key) ∙ known) in
            (stays_by key was.0 (steps p key), was.1);
      }

    -- where the index grew, and each row that changed waits, the tries fit
    pub fit_after : AllFit s later new
    fit_after p part found = fits_part p part found

  -- ---- tries of one partition

  module _ (p : ℕ) (rows : List (Vec ℕ Z × Placed R)) where
    -- nothing but the slots of the trie changed
    pub fits_same : (was is : Part) → is.pairs.entries ≡ was.pairs.entries → is.waiting.keys ≡ was.waiting.keys → IsKept is.trie is.pairs.entries → Fits s p rows was → Fits s p rows is
    fits_same was is pairs waiting kept fits = record {
      kept = kept;
      keys_are = λ key row there. ap (λ es. has_key key (keys_of es)) pairs ∙ fits.keys_are key row there;
      rows_are = λ key row there.
          elim (fits.rows_are key row there) [
            | inl waited ↦ inl (ap (has_key key) waiting ∙ waited)
            | inr taken ↦ inr (subst (λ es. IsTaken s key row (pair_at key es)) (sym pairs) taken)
          ];
      pairs_are = λ key pair known. fits.pairs_are key pair (ap (pair_at key) (sym pairs) ∙ known);
    }

    module _ (was is : Part) (key : List ℕ) (kept : IsKept is.trie is.pairs.entries) (keys : keys_of is.pairs.entries ≡ keys_of was.pairs.entries)
        (others : (other : List ℕ) → is_eq (slice_cmp nat_cmp key other) ≡ false → pair_at other is.pairs.entries ≡ pair_at other was.pairs.entries)
        (waiting : (other : List ℕ) → is_eq (slice_cmp nat_cmp key other) ≡ false → has_key other was.waiting.keys ≡ true → has_key other is.waiting.keys ≡ true)
        (here : (row : R) → row_in p key rows ≡ Some row → IsTaken s key row (pair_at key is.pairs.entries))
        (nothing : row_in p key rows ≡ None → pair_at key is.pairs.entries ≡ pair_at key was.pairs.entries) (fits : Fits s p rows was) where
      rows_by_key : (other : List ℕ) (row : R) → row_in p other rows ≡ Some row → (b : Bool) → is_eq (slice_cmp nat_cmp key other) ≡ b → IsFollowed s is other row
      rows_by_key other row there true same =
          let one : key ≡ other = slice_identical nat_identical key other ((Equal-is _).0 same) in
          subst (λ k. IsFollowed s is k row) one (inr (here row (ap (λ k. row_in p k rows) one ∙ there)))
      rows_by_key other row there false apart =
          elim (fits.rows_are other row there) [
            | inl waited ↦ inl (waiting other apart waited)
            | inr taken ↦ inr (subst (IsTaken s other row) (sym (others other apart)) taken)
          ]

      hash_of : (row : R) (pair : Hash32 × Hash32) (o : Option (Hash32 × Hash32)) → IsTaken s key row o → o ≡ Some pair → pair.0.0 ≡ blake2b 32 key
      hash_of row pair o taken is =
          let shown : Some (shown_pair pair) ≡ Some (blake2b 32 key, blake2b 32 (unwrap_or (s.spelling row) [])) = sym (ap (option_map shown_pair) is) ∙ taken.pair_is in
          ap (λ q. q.0) (some_is (shown_pair pair) (blake2b 32 key, blake2b 32 (unwrap_or (s.spelling row) [])) shown)
        where
          some_is : {X : Type 0} (a b : X) → Some a ≡ Some b → a ≡ b
          some_is a b e = cc

      pairs_at_key : (pair : Hash32 × Hash32) (o : Option R) → row_in p key rows ≡ o → pair_at key is.pairs.entries ≡ Some pair → (is_some (row_in p key rows) ≡ true) × (pair.0.0 ≡ blake2b 32 key)
      pairs_at_key pair None there known = fits.pairs_are key pair (sym (nothing there) ∙ known)
      pairs_at_key pair (Some row) there known = (ap is_some there, hash_of row pair (pair_at key is.pairs.entries) (here row there) known)

      pairs_by_key : (other : List ℕ) (pair : Hash32 × Hash32) → pair_at other is.pairs.entries ≡ Some pair → (b : Bool) → is_eq (slice_cmp nat_cmp key other) ≡ b → (is_some (row_in p other rows) ≡ true) × (pair.0.0 ≡ blake2b 32 other)
      pairs_by_key other pair known true same =
          let one : key ≡ other = slice_identical nat_identical key other ((Equal-is _).0 same) in
          subst (λ k. (is_some (row_in p k rows) ≡ true) × (pair.0.0 ≡ blake2b 32 k)) one
          (pairs_at_key pair (row_in p key rows) refl (ap (λ k. pair_at k is.pairs.entries) one ∙ known))
      pairs_by_key other pair known false apart = fits.pairs_are other pair (sym (others other apart) ∙ known)

      -- the row at a key was taken in, where there is one
      pub fits_taken : Fits s p rows is
      fits_taken = record {
        kept = kept;
        keys_are = λ other row there. ap (has_key other) keys ∙ fits.keys_are other row there;
        rows_are = λ other row there. rows_by_key other row there (is_eq (slice_cmp nat_cmp key other)) refl;
        pairs_are = λ other pair known. pairs_by_key other pair known (is_eq (slice_cmp nat_cmp key other)) refl;
      }

  -- ---- tries after a partition was dropped

  module _ (p q : ℕ) (apart : (p == q) ≡ false) where
    above_left : (key : List ℕ) (es : List (Vec ℕ Z × Placed R)) → Above key (keys_of es) → Above key (keys_of (filter (λ e. not (in_partition p e)) es))
    above_left key [] all = tt
    above_left key (e ∷ es) all =
        elim (in_partition p e) as (λ b. Above key (keys_of (cond (not b) (e ∷ filter (λ d. not (in_partition p d)) es) (filter (λ d. not (in_partition p d)) es)))) [
          | true ↦ above_left key es all.1
          | false ↦ (all.0, above_left key es all.1)
        ]

    gone_not : (e : Vec ℕ Z × Placed R) → in_partition p e ≡ true → in_partition q e ≡ false
    gone_not e h = ap (λ r. r == q) (eqb-true e.1.partition p h) ∙ apart

    left_other : (key : List ℕ) (e : Vec ℕ Z × Placed R) (es : List (Vec ℕ Z × Placed R)) → row_in q key (filter (λ d. not (in_partition p d)) es) ≡ row_in q key es → (b : Bool) →
        given q (cond b (Some e.1) (placed_at key (filter (λ d. not (in_partition p d)) es))) ≡ given q (cond b (Some e.1) (placed_at key es))
    left_other key e es rest true = refl
    left_other key e es rest false = rest

    left_gone : (key : List ℕ) (e : Vec ℕ Z × Placed R) (es : List (Vec ℕ Z × Placed R)) → Above e.0.items (keys_of es) → in_partition p e ≡ true → row_in q key (filter (λ d. not (in_partition p d)) es) ≡ row_in q key es →
        (o : Ordering) → slice_cmp nat_cmp key e.0.items ≡ o → row_in q key (filter (λ d. not (in_partition p d)) es) ≡ given q (cond (is_eq o) (Some e.1) (placed_at key es))
    left_gone key e es above h rest Less o = rest
    left_gone key e es above h rest Greater o = rest
    left_gone key e es above h rest Equal o =
        let one : key ≡ e.0.items = slice_identical nat_identical key e.0.items o in
        let none : placed_at key (filter (λ d. not (in_partition p d)) es) ≡ None = none_at key (filter (λ d. not (in_partition p d)) es) (subst (λ k. Above k (keys_of (filter (λ d. not (in_partition p d)) es))) (sym one) (above_left e.0.items es above)) in
        ap (given q) none ∙ sym (ap (λ b. cond b (Some e.1.row) None) (gone_not e h))

    left_by : (key : List ℕ) (e : Vec ℕ Z × Placed R) (es : List (Vec ℕ Z × Placed R)) → Above e.0.items (keys_of es) → row_in q key (filter (λ d. not (in_partition p d)) es) ≡ row_in q key es → (b : Bool) → in_partition p e ≡ b →
        row_in q key (cond (not b) (e ∷ filter (λ d. not (in_partition p d)) es) (filter (λ d. not (in_partition p d)) es)) ≡ row_in q key (e ∷ es)
    left_by key e es above rest true h = left_gone key e es above h rest (slice_cmp nat_cmp key e.0.items) refl
    left_by key e es above rest false h = left_other key e es rest (is_eq (slice_cmp nat_cmp key e.0.items))

    -- the rows of another partition are those that were there
    left_rows : (key : List ℕ) (es : List (Vec ℕ Z × Placed R)) → IsStrictlySortedBy vec_cmp (keys_of es) → row_in q key (filter (λ e. not (in_partition p e)) es) ≡ row_in q key es
    left_rows key [] sorted = refl
    left_rows key (e ∷ es) sorted =
        left_by key e es (sorted_head vec_cmp e.0 (keys_of es) sorted) (left_rows key es (sorted_tail vec_cmp e.0 (keys_of es) sorted)) (in_partition p e) refl

    fits_rows : (old new : List (Vec ℕ Z × Placed R)) (part : Part) → ((key : List ℕ) → row_in q key new ≡ row_in q key old) → Fits s q old part → Fits s q new part
    fits_rows old new part same fits = record {
      kept = fits.kept;
      keys_are = λ key row there. fits.keys_are key row (sym (same key) ∙ there);
      rows_are = λ key row there. fits.rows_are key row (sym (same key) ∙ there);
      pairs_are = λ key pair known. let was = fits.pairs_are key pair known in (ap is_some (same key) ∙ was.0, was.1);
    }

  module _ (index later : BTreeMap ℕ Part) (p : ℕ) (es : List (Vec ℕ Z × Placed R)) (sorted : IsStrictlySortedBy vec_cmp (keys_of es))
      (gone : (q : ℕ) → get nat_cmp later q ≡ cond (is_eq (nat_cmp p q)) None (get nat_cmp index q)) (fit : AllFit s index es) where
    without_by : (q : ℕ) (part : Part) (b : Bool) → is_eq (nat_cmp p q) ≡ b → cond b None (get nat_cmp index q) ≡ Some part → Fits s q (filter (λ e. not (in_partition p e)) es) part
    without_by q part true h found = cc
    without_by q part false h found =
        fits_rows p q (cmp_ne p q h (p == q) refl) es (filter (λ e. not (in_partition p e)) es) part (λ key. left_rows p q (cmp_ne p q h (p == q) refl) key es sorted) (fit q part found)

    -- the other partitions' tries fit the rows that are left
    pub fit_without : AllFit s later (filter (λ e. not (in_partition p e)) es)
    fit_without q part found = without_by q part (is_eq (nat_cmp p q)) refl (sym (gone q) ∙ found)

-- ---- a row that is put

module _ {R : Type 0} (s : Words R) (index later : BTreeMap ℕ Part) (es new : List (Key × Placed R)) (indexed : list_all (is_indexed index) es ≡ true)
    (grows : (p : ℕ) (part : Part) → get nat_cmp later p ≡ Some part → Grows (get nat_cmp index p) part) where
  had : (p : ℕ) (key : List ℕ) (row : R) → row_in p key es ≡ Some row → has_key key (keys_under index p) ≡ true
  had p key row there = row_indexed index p key es row indexed there

  -- where the rows stay, all fits on
  pub fits_on : new ≡ es → AllFit s index es → AllFit s later new
  fits_on same fit = fit_after s index later es new had grows (no_steps later es new same) fit

  -- where a row is put at a key, and waits there
  pub fits_put : (key : List ℕ) (v : Placed R) → ((other : List ℕ) → placed_at other new ≡ cond (is_eq (slice_cmp nat_cmp other key)) (Some v) (placed_at other es)) →
      ((w : Placed R) → placed_at key es ≡ Some w → w.partition ≡ v.partition) → has_key key (keys_under later v.partition) ≡ true → waits_in key (get nat_cmp later v.partition) ≡ true → AllFit s index es → AllFit s later new
  fits_put key v updates was has waiting fit =
      fit_after s index later es new had grows
      (steps_put later v.partition key v es new
      (λ other apart. updates other ∙ ap (λ b. cond b (Some v) (placed_at other es)) (eq_turn key other apart))
      (updates key ∙ ap (λ o. cond (is_eq o) (Some v) (placed_at key es)) (tied_itself nat_list_cmp_total key))
      refl was has waiting)
      fit
