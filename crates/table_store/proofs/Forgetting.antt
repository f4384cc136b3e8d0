-- What the tries of a table have of its rows after the row at a key went.
use Rattle.std.specs.Prelude.{◌≡◌, ◌⊎◌, ℕ, ◌==◌, ◌&&◌, Bool, true, false, cond, not, is_some, List, [], ◌∷◌, Option, Some, None, Vec, filter, length, refl}
use Rattle.std.proofs.Common.{ap, sym, ◌∙◌, subst, inl, inr, arith}
use Rattle.std.proofs.lemmas.Bool.{eqb-true, both_ways, and_parts}
use Rattle.std.proofs.lemmas.Cmp.{nat_cmp_total, tied_itself}
use Rattle.std.proofs.lemmas.Map.Keys.{sorted_head, sorted_tail}
use Rattle.std.specs.List.{list_all}
use Rattle.std.specs.List.Sorted.{IsStrictlySortedBy}
use Rattle.std.specs.Map.{keys_of, lookup, remove_entry}
use Rattle.std.specs.BTreeMap.{BTreeMap, get, is_at}
use Rattle.std.specs.Ordering.{nat_cmp, is_eq}
use Rattle.std.specs.Cmp.{Equal-is}
use Rattle.std.specs.Cmp.Lexicographic.{slice_cmp}
use Rattle.crdt_core.specs.IdentityLaws.{slice_identical, nat_identical}
use Rattle.blake2_hash.specs.Blake2b.{blake2b}
use Rattle.blake2_hash.specs.DigestLaws.{length-blake2b}
use Rattle.blake2_hash.specs.declared.digest.Hash32.{Hash32}
use Rattle.table_schema.specs.Words.{Words}
use Rattle.table_model.specs.Root.{Pair}
use Rattle.walk_model.specs.Sets.{removed}
use Rattle.merkle_trie.specs.declared.trie.Trie.{Trie}
use Rattle.merkle_trie.specs.Keeping.{Keeps, queued}
use Rattle.table_store.specs.declared.shelf.Placed.{Placed}
use Rattle.table_store.specs.declared.index.Part.{Part}
use Rattle.table_store.specs.Index.{Entry, Forgets, ForgetsAt, IsKept, Stays, StaysAt, Turns, TurnsAt, entries_in, has_key, keys_under, known, pair_at}
use Rattle.table_store.specs.Shelf.{given, is_indexed, placed_at, row_in, vec_cmp, without_key}
use Rattle.table_store.specs.Settled.{AllFit, Fits, IsFollowed, IsTaken}
use Rattle.table_store.proofs.Alike.{keeps_set}
use Rattle.table_store.proofs.Entries.{at, known_left, lookup_left, removed_same}
use Rattle.table_store.proofs.Partitions.{Above}
use Rattle.table_store.proofs.Fitting.{fits_same}

-- ---- rows without the one at a key

above_same : {Z : Type 0} (a b : List ℕ) (keys : List (Vec ℕ Z)) → a ≡ b → Above b keys → Above a keys
above_same a b keys e all = subst (λ key. Above key keys) (sym e) all

module _ {R Z : Type 0} where
  all_stay : (key : List ℕ) (es : List (Vec ℕ Z × Placed R)) → Above key (keys_of es) → filter (λ e. not (at key e.0)) es ≡ es
  all_stay key [] all = refl
  all_stay key (e ∷ es) all =
      ap (λ o. cond (not (is_eq o)) (e ∷ filter (λ d. not (at key d.0)) es) (filter (λ d. not (at key d.0)) es)) all.0 ∙ ap (λ l. e ∷ l) (all_stay key es all.1)

  without_by : (key : List ℕ) (e : Vec ℕ Z × Placed R) (es : List (Vec ℕ Z × Placed R)) → Above e.0.items (keys_of es) → without_key key es ≡ filter (λ d. not (at key d.0)) es →
      (b : Bool) → at key e.0 ≡ b → cond b es (e ∷ without_key key es) ≡ cond (not b) (e ∷ filter (λ d. not (at key d.0)) es) (filter (λ d. not (at key d.0)) es)
  without_by key e es above rest true h =
      let one : key ≡ e.0.items = slice_identical nat_identical key e.0.items ((Equal-is _).0 h) in
      sym (all_stay key es (above_same key e.0.items (keys_of es) one above))
  without_by key e es above rest false h = ap (λ l. e ∷ l) rest

  -- all but the row at a key, as a filter
  pub without_is : (key : List ℕ) (es : List (Vec ℕ Z × Placed R)) → IsStrictlySortedBy vec_cmp (keys_of es) → without_key key es ≡ filter (λ e. not (at key e.0)) es
  without_is key [] sorted = refl
  without_is key (e ∷ es) sorted = without_by key e es (sorted_head vec_cmp e.0 (keys_of es) sorted) (without_is key es (sorted_tail vec_cmp e.0 (keys_of es) sorted)) (at key e.0) refl

  none_stays : (key : List ℕ) (e : Vec ℕ Z × Placed R) (es : List (Vec ℕ Z × Placed R)) → (placed_at key es ≡ None → without_key key es ≡ es) → (b : Bool) → cond b (Some e.1) (placed_at key es) ≡ None → cond b es (e ∷ without_key key es) ≡ e ∷ es
  none_stays key e es rest true none = cc
  none_stays key e es rest false none = ap (λ l. e ∷ l) (rest none)

  -- where none stands at the key all stay
  pub without_none : (key : List ℕ) (es : List (Vec ℕ Z × Placed R)) → placed_at key es ≡ None → without_key key es ≡ es
  without_none key [] none = refl
  without_none key (e ∷ es) none = none_stays key e es (without_none key es) (at key e.0) none

  filtered_by : (key : List ℕ) (e : Vec ℕ Z × Placed R) (es : List (Vec ℕ Z × Placed R)) → placed_at key (filter (λ d. not (at key d.0)) es) ≡ None → (b : Bool) → at key e.0 ≡ b →
      placed_at key (cond (not b) (e ∷ filter (λ d. not (at key d.0)) es) (filter (λ d. not (at key d.0)) es)) ≡ None
  filtered_by key e es rest true h = rest
  filtered_by key e es rest false h = ap (λ b. cond b (Some e.1) (placed_at key (filter (λ d. not (at key d.0)) es))) h ∙ rest

  filtered_out : (key : List ℕ) (es : List (Vec ℕ Z × Placed R)) → placed_at key (filter (λ e. not (at key e.0)) es) ≡ None
  filtered_out key [] = refl
  filtered_out key (e ∷ es) = filtered_by key e es (filtered_out key es) (at key e.0) refl

  -- other keys find what they found, and this one finds nothing
  pub record IsWithout (key : List ℕ) (old new : List (Vec ℕ Z × Placed R)) : Type 0 where
    pub others : (other : List ℕ) → is_eq (slice_cmp nat_cmp key other) ≡ false → placed_at other new ≡ placed_at other old
    pub gone : placed_at key new ≡ None

  pub is_without : (key : List ℕ) (old new : List (Vec ℕ Z × Placed R)) → IsStrictlySortedBy vec_cmp (keys_of old) → new ≡ without_key key old → IsWithout key old new
  is_without key old new sorted is = record {
    others = λ other apart. ap (placed_at other) is ∙ lookup_left key other old apart;
    gone = ap (placed_at key) (is ∙ without_is key old sorted) ∙ filtered_out key old;
  }

-- ---- what a trie keeps

module _ {H B : Type 0} (trie mid later : Trie H B) (key : List ℕ) (es : List Entry) (settled : queued mid ≡ 0)
    (on : (held : List Pair) → Keeps (blake2b 32) trie held → Keeps (blake2b 32) mid held)
    (told : (pair : Hash32 × Hash32) → pair_at key es ≡ Some pair → pair.0.0 ≡ blake2b 32 key) (kept : IsKept trie es) where
  none_by : (o : Option (Option (Hash32 × Hash32))) → lookup (at key) es ≡ o → known o ≡ None → (lookup (at key) es ≡ None) ⊎ (lookup (at key) es ≡ Some None)
  none_by None is none = inl is
  none_by (Some None) is none = inr is
  none_by (Some (Some pair)) is none = cc

  some_by : (pair : Hash32 × Hash32) (o : Option (Option (Hash32 × Hash32))) → lookup (at key) es ≡ o → known o ≡ Some pair → lookup (at key) es ≡ Some (Some pair)
  some_by pair None is some = cc
  some_by pair (Some o) is some = is ∙ ap Some some

  kept_by : (o : Option (Hash32 × Hash32)) → pair_at key es ≡ o → ((pair : Hash32 × Hash32) → o ≡ Some pair → (held : List Pair) → Keeps (blake2b 32) mid held → Keeps (blake2b 32) later (removed pair.0.0 held)) → (o ≡ None → later ≡ mid) → IsKept later (remove_entry (at key) es)
  kept_by None is removes nothing = record {
    held = kept.held;
    keeps = subst (λ t. Keeps (blake2b 32) t kept.held) (sym (nothing refl)) (on kept.held kept.keeps);
    same = λ test. kept.same test ∙ ap (λ pairs. length (filter test pairs)) (sym (known_left key es (none_by (lookup (at key) es) refl is)));
  }
  kept_by (Some pair) is removes nothing = record {
    held = removed pair.0.0 kept.held;
    keeps = removes pair refl kept.held (on kept.held kept.keeps);
    same = removed_same pair.0.0 [] kept.held es key (ap length (told pair is) ∙ length-blake2b 32 key (omega arith)) (keeps_set (blake2b 32) mid kept.held settled (on kept.held kept.keeps)) kept.same pair (some_by pair (lookup (at key) es) refl is) refl;
  }

  -- a trie that let the pair of a key go keeps those of the others
  pub kept_forgotten : (o : Option (Hash32 × Hash32)) → o ≡ pair_at key es → ((pair : Hash32 × Hash32) → o ≡ Some pair → (held : List Pair) → Keeps (blake2b 32) mid held → Keeps (blake2b 32) later (removed pair.0.0 held)) → (o ≡ None → later ≡ mid) → IsKept later (remove_entry (at key) es)
  kept_forgotten o is removes nothing = kept_by o (sym is) removes nothing

-- ---- tries

module _ {R Z : Type 0} (s : Words R) (key : List ℕ) (old new : List (Vec ℕ Z × Placed R)) (without : IsWithout key old new) where
  same_row : (p : ℕ) (other : List ℕ) → is_eq (slice_cmp nat_cmp key other) ≡ false → row_in p other new ≡ row_in p other old
  same_row p other apart = ap (given p) (without.others other apart)

  no_row : (p : ℕ) (other : List ℕ) (row : R) → is_eq (slice_cmp nat_cmp key other) ≡ true → row_in p other new ≡ Some row → ⊥
  no_row p other row same there =
      let one : key ≡ other = slice_identical nat_identical key other ((Equal-is _).0 same) in
      let none : None ≡ Some row = sym (ap (given p) without.gone) ∙ (ap (λ k. row_in p k new) one ∙ there) in
      cc

  module _ (p : ℕ) (was is : Part) (f : Forgets key was is) (fits : Fits s p old was) where
    keys_by : (other : List ℕ) (row : R) → row_in p other new ≡ Some row → (b : Bool) → is_eq (slice_cmp nat_cmp key other) ≡ b → has_key other (keys_of is.pairs.entries) ≡ true
    keys_by other row there true h = absurd (no_row p other row h there)
    keys_by other row there false h = f.keys other h ∙ fits.keys_are other row (sym (same_row p other h) ∙ there)

    rows_by : (other : List ℕ) (row : R) → row_in p other new ≡ Some row → (b : Bool) → is_eq (slice_cmp nat_cmp key other) ≡ b → IsFollowed s is other row
    rows_by other row there true h = absurd (no_row p other row h there)
    rows_by other row there false h =
        elim (fits.rows_are other row (sym (same_row p other h) ∙ there)) [
          | inl waited ↦ inl (f.waiting other h ∙ waited)
          | inr taken ↦ inr (subst (IsTaken s other row) (sym (f.pairs other h)) taken)
        ]

    pairs_by : (other : List ℕ) (pair : Hash32 × Hash32) → pair_at other is.pairs.entries ≡ Some pair → (b : Bool) → is_eq (slice_cmp nat_cmp key other) ≡ b → (is_some (row_in p other new) ≡ true) × (pair.0.0 ≡ blake2b 32 other)
    pairs_by other pair known true h =
        let one : key ≡ other = slice_identical nat_identical key other ((Equal-is _).0 h) in
        let none : None ≡ Some pair = sym f.gone ∙ (ap (λ k. pair_at k is.pairs.entries) one ∙ known) in
        absurd (no_none none)
      where
        no_none : None ≡ Some pair → ⊥
        no_none h = cc
    pairs_by other pair known false h =
        let had = fits.pairs_are other pair (sym (f.pairs other h) ∙ known) in
        (ap is_some (same_row p other h) ∙ had.0, had.1)

    -- the partition of the row that went
    fits_forgotten : Fits s p new is
    fits_forgotten = record {
      kept = f.kept (λ pair known. (fits.pairs_are key pair known).1) fits.kept;
      keys_are = λ other row there. keys_by other row there (is_eq (slice_cmp nat_cmp key other)) refl;
      rows_are = λ other row there. rows_by other row there (is_eq (slice_cmp nat_cmp key other)) refl;
      pairs_are = λ other pair known. pairs_by other pair known (is_eq (slice_cmp nat_cmp key other)) refl;
    }

  module _ (q : ℕ) (part : Part) (nothing : row_in q key old ≡ None) (fits : Fits s q old part) where
    same_by : (other : List ℕ) (b : Bool) → is_eq (slice_cmp nat_cmp key other) ≡ b → row_in q other new ≡ row_in q other old
    same_by other true h =
        let one : key ≡ other = slice_identical nat_identical key other ((Equal-is _).0 h) in
        ap (λ k. row_in q k new) (sym one) ∙ (ap (given q) without.gone ∙ (sym nothing ∙ ap (λ k. row_in q k old) one))
    same_by other false h = same_row q other h

    same : (other : List ℕ) → row_in q other new ≡ row_in q other old
    same other = same_by other (is_eq (slice_cmp nat_cmp key other)) refl

    -- another partition
    fits_other : Fits s q new part
    fits_other = record {
      kept = fits.kept;
      keys_are = λ other row there. fits.keys_are other row (sym (same other) ∙ there);
      rows_are = λ other row there. fits.rows_are other row (sym (same other) ∙ there);
      pairs_are = λ other pair known. let had = fits.pairs_are other pair known in (ap is_some (same other) ∙ had.0, had.1);
    }

  module _ (placed : Placed R) (found : placed_at key old ≡ Some placed) (index later : BTreeMap ℕ Part) (forgets : ForgetsAt placed.partition key index later) (fit : AllFit s index old) where
    here_by : (part : Part) (was is : Option Part) → get nat_cmp index placed.partition ≡ was → get nat_cmp later placed.partition ≡ is → Turns (Forgets key) was is → is ≡ Some part → Fits s placed.partition new part
    here_by part None is before after turns there = let wrong : None ≡ Some part = sym turns ∙ there in cc
    here_by part (Some was) None before after turns there = absurd turns
    here_by part (Some was) (Some is) before after turns there =
        let one : is ≡ part = some_is is part there in
        subst (Fits s placed.partition new) one (fits_forgotten placed.partition was is turns (fit placed.partition was before))
      where
        some_is : {X : Type 0} (a b : X) → Some a ≡ Some b → a ≡ b
        some_is a b e = cc

    apart_ne : (q : ℕ) → is_eq (nat_cmp placed.partition q) ≡ false → (b : Bool) → (placed.partition == q) ≡ b → b ≡ false
    apart_ne q apart true h = let same : is_eq (nat_cmp placed.partition q) ≡ true = ap (λ r. is_eq (nat_cmp placed.partition r)) (sym (eqb-true placed.partition q h)) ∙ ap is_eq (tied_itself nat_cmp_total placed.partition) in absurd (both_ways (is_eq (nat_cmp placed.partition q)) apart same)
    apart_ne q apart false h = refl

    none_there : (q : ℕ) → is_eq (nat_cmp placed.partition q) ≡ false → row_in q key old ≡ None
    none_there q apart = ap (given q) found ∙ ap (λ b. cond b (Some placed.row) None) (apart_ne q apart (placed.partition == q) refl)

    fit_by : (q : ℕ) (part : Part) → get nat_cmp later q ≡ Some part → (b : Bool) → is_eq (nat_cmp placed.partition q) ≡ b → Fits s q new part
    fit_by q part there true h =
        let one : placed.partition ≡ q = nat_identical placed.partition q ((Equal-is _).0 h) in
        subst (λ r. Fits s r new part) one
        (here_by part (get nat_cmp index placed.partition) (get nat_cmp later placed.partition) refl refl forgets.here (ap (get nat_cmp later) one ∙ there))
    fit_by q part there false h = fits_other q part (none_there q h) (fit q part (sym (forgets.others q h) ∙ there))

    -- the tries fit the rows that are left
    pub fit_forgotten : AllFit s later new
    fit_forgotten q part there = fit_by q part there (is_eq (nat_cmp placed.partition q)) refl

-- ---- one partition changed

module _ {After : Part → Part → Type 0} (index later : BTreeMap ℕ Part) (p : ℕ) where
  pub turns_at : (was is : Part) → get nat_cmp index p ≡ Some was → ((q : ℕ) → get nat_cmp later q ≡ cond (is_at (nat_cmp p) q) (Some is) (get nat_cmp index q)) → After was is → TurnsAt After p index later
  turns_at was is there puts after = record {
    here = subst (λ o. Turns After o (get nat_cmp later p)) (sym there) (subst (Turns After (Some was)) (sym (puts p ∙ ap (λ o. cond (is_eq o) (Some is) (get nat_cmp index p)) (tied_itself nat_cmp_total p))) after);
    others = λ q apart. puts q ∙ ap (λ b. cond b (Some is) (get nat_cmp index q)) apart;
  }

  pub turns_none : get nat_cmp index p ≡ None → later ≡ index → TurnsAt After p index later
  turns_none none same = record {
    here = subst (λ o. Turns After o (get nat_cmp later p)) (sym none) (ap (λ m. get nat_cmp m p) same ∙ none);
    others = λ q apart. ap (λ m. get nat_cmp m q) same;
  }

-- ---- where there was no room

module _ {R Z : Type 0} (s : Words R) (p : ℕ) (rows : List (Vec ℕ Z × Placed R)) (index later : BTreeMap ℕ Part) (stays : StaysAt p index later) where
  stay_here : (part : Part) (was is : Option Part) → get nat_cmp index p ≡ was → get nat_cmp later p ≡ is → Turns Stays was is → is ≡ Some part → AllFit s index rows → Fits s p rows part
  stay_here part None is before after turns there fit = let wrong : None ≡ Some part = sym turns ∙ there in cc
  stay_here part (Some was) None before after turns there fit = absurd turns
  stay_here part (Some was) (Some is) before after turns there fit =
      let one : is ≡ part = some_is is part there in
      let fits = fit p was before in
      subst (Fits s p rows) one (fits_same s p rows was is turns.pairs turns.waiting (turns.kept fits.kept) fits)
    where
      some_is : {X : Type 0} (a b : X) → Some a ≡ Some b → a ≡ b
      some_is a b e = cc

  stay_by : (q : ℕ) (part : Part) → get nat_cmp later q ≡ Some part → AllFit s index rows → (b : Bool) → is_eq (nat_cmp p q) ≡ b → Fits s q rows part
  stay_by q part there fit true h =
      let one : p ≡ q = nat_identical p q ((Equal-is _).0 h) in
      subst (λ r. Fits s r rows part) one (stay_here part (get nat_cmp index p) (get nat_cmp later p) refl refl stays.here (ap (get nat_cmp later) one ∙ there) fit)
  stay_by q part there fit false h = fit q part (sym (stays.others q h) ∙ there)

  pub fit_stays : AllFit s index rows → AllFit s later rows
  fit_stays fit q part there = stay_by q part there fit (is_eq (nat_cmp p q)) refl

-- ---- the index has the keys of the rows

module _ {After : Part → Part → Type 0} (index later : BTreeMap ℕ Part) (p : ℕ) (key other : List ℕ)
    (keeps : (was is : Part) → After was is → has_key other (keys_of is.pairs.entries) ≡ has_key other (keys_of was.pairs.entries)) where
  under_here : (was is : Option Part) → Turns After was is → has_key other (keys_of (entries_in is)) ≡ has_key other (keys_of (entries_in was))
  under_here None is turns = ap (λ o. has_key other (keys_of (entries_in o))) turns
  under_here (Some was) None turns = absurd turns
  under_here (Some was) (Some is) turns = keeps was is turns

  under_by : Turns After (get nat_cmp index p) (get nat_cmp later p) → ((q : ℕ) → is_eq (nat_cmp p q) ≡ false → get nat_cmp later q ≡ get nat_cmp index q) → (q : ℕ) (b : Bool) → is_eq (nat_cmp p q) ≡ b → has_key other (keys_under later q) ≡ has_key other (keys_under index q)
  under_by here others q true h =
      let one : p ≡ q = nat_identical p q ((Equal-is _).0 h) in
      subst (λ r. has_key other (keys_under later r) ≡ has_key other (keys_under index r)) one (under_here (get nat_cmp index p) (get nat_cmp later p) here)
  under_by here others q false h = ap (λ o. has_key other (keys_of (entries_in o))) (others q h)

-- where the trie of a partition alone changed
pub stays_under : (index later : BTreeMap ℕ Part) (p : ℕ) → StaysAt p index later → (q : ℕ) (other : List ℕ) → has_key other (keys_under index q) ≡ true → has_key other (keys_under later q) ≡ true
stays_under index later p stays q other had =
    under_by {After = Stays} index later p other other (λ was is same. ap (λ es. has_key other (keys_of es)) same.pairs) stays.here stays.others q (is_eq (nat_cmp p q)) refl ∙ had

module _ (index later : BTreeMap ℕ Part) (p : ℕ) (key : List ℕ) (forgets : ForgetsAt p key index later) where
  left_under : (q : ℕ) (other : List ℕ) → is_eq (slice_cmp nat_cmp key other) ≡ false → has_key other (keys_under later q) ≡ has_key other (keys_under index q)
  left_under q other apart = under_by {After = Forgets key} index later p key other (λ was is f. f.keys other apart) forgets.here forgets.others q (is_eq (nat_cmp p q)) refl

module _ {R Z : Type 0} (index later : BTreeMap ℕ Part) (p : ℕ) (key : List ℕ) (forgets : ForgetsAt p key index later) where
  left_by : (e : Vec ℕ Z × Placed R) (rest : List (Vec ℕ Z × Placed R)) → is_indexed index e ≡ true → list_all (is_indexed later) rest ≡ true → (b : Bool) → at key e.0 ≡ b → list_all (is_indexed later) (cond (not b) (e ∷ rest) rest) ≡ true
  left_by e rest here all true h = all
  left_by e rest here all false h = (λ i. (left_under index later p key forgets e.1.partition e.0.items h ∙ here) i && all i)

  left_all : (es : List (Vec ℕ Z × Placed R)) → list_all (is_indexed index) es ≡ true → list_all (is_indexed later) (filter (λ e. not (at key e.0)) es) ≡ true
  left_all [] all = refl
  left_all (e ∷ es) all =
      let both = and_parts (is_indexed index e) (list_all (is_indexed index) es) all in
      left_by e (filter (λ d. not (at key d.0)) es) both.0 (left_all es both.1) (at key e.0) refl

  -- the index has the keys of the rows that are left
  pub indexed_left : (es : List (Vec ℕ Z × Placed R)) → IsStrictlySortedBy vec_cmp (keys_of es) → list_all (is_indexed index) es ≡ true → list_all (is_indexed later) (without_key key es) ≡ true
  indexed_left es sorted all = ap (list_all (is_indexed later)) (without_is key es sorted) ∙ left_all es all
