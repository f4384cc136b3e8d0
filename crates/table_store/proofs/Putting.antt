-- What a trie keeps after a row's pair is put, and what there is of a partition then.
use Rattle.std.specs.Prelude.{◌≡◌, ℕ, ◌<◌, Bool, true, false, cond, is_none, is_some, List, [], ◌∷◌, Option, Some, None, Vec, IfSome, IsSome, length, slice_get, option_map, unwrap_or, refl}
use Rattle.std.proofs.Common.{ap, sym, ◌∙◌, subst, arith}
use Rattle.std.proofs.lemmas.Bool.{both_ways}
use Rattle.std.proofs.lemmas.Cmp.{nat_cmp_total, tied_itself}
use Rattle.std.specs.Map.{keys_of, lookup, set_value}
use Rattle.std.specs.BTreeMap.{BTreeMap, get, is_at}
use Rattle.std.specs.Ordering.{nat_cmp, is_eq}
use Rattle.std.specs.Cmp.{Equal-is}
use Rattle.crdt_core.specs.IdentityLaws.{nat_identical}
use Rattle.blake2_hash.specs.Blake2b.{blake2b}
use Rattle.blake2_hash.specs.DigestLaws.{length-blake2b}
use Rattle.blake2_hash.specs.declared.digest.Hash32.{Hash32}
use Rattle.table_schema.specs.Words.{Words}
use Rattle.table_model.specs.Root.{Pair}
use Rattle.walk_model.specs.Sets.{only_at, put}
use Rattle.merkle_trie.specs.declared.trie.Trie.{Trie}
use Rattle.merkle_trie.specs.Keeping.{Keeps, IsUnchanged, queued}
use Rattle.merkle_trie.specs.Stands.{after}
use Rattle.merkle_trie.specs.Trees.{IsTree}
use Rattle.table_store.specs.declared.shelf.Placed.{Placed}
use Rattle.table_store.specs.declared.index.Part.{Part}
use Rattle.table_store.specs.Index.{Entry, IsKept, entries_in, has_key, keys_under, known, pair_at, shown_pair}
use Rattle.table_store.specs.Settled.{AllFit, Fits, IsSettled, IsSettledAt, IsTaken}
use Rattle.table_store.proofs.Alike.{keeps_set}
use Rattle.table_store.proofs.Entries.{at, has_is, put_same}

some_is : {X : Type 0} (a b : X) → Some a ≡ Some b → a ≡ b
some_is a b e = cc

module _ {H B : Type 0} (old new : Trie H B) where
  -- the same pairs, where the trie keeps what it kept
  pub kept_on : (es : List Entry) → ((held : List Pair) → Keeps (blake2b 32) old held → Keeps (blake2b 32) new held) → IsKept old es → IsKept new es
  kept_on es on kept = record { held = kept.held; keeps = on kept.held kept.keeps; same = kept.same }

  -- an unchanged trie keeps what it kept
  pub unchanged_keeps : IsUnchanged old new → (held : List Pair) → Keeps (blake2b 32) old held → Keeps (blake2b 32) new held
  unchanged_keeps same held keeps = record {
    settled = keeps.settled;
    tree_is = subst (λ tree. IsTree (blake2b 32) tree keeps.settled) (sym same.0) keeps.tree_is;
    pairs_are = keeps.pairs_are ∙ ap (λ changes. after changes keeps.settled) (sym same.1);
  }

  put_by : (es later : List Entry) (key rh : List ℕ) (was : Option (Hash32 × Hash32)) → lookup (at key) es ≡ Some was → ((pair : Hash32 × Hash32) → was ≡ Some pair → pair.0.0 ≡ blake2b 32 key) →
      (was ≡ None → (held : List Pair) → Keeps (blake2b 32) old held → only_at (blake2b 32 key) held ≡ None) → queued old ≡ 0 →
      ((held : List Pair) → Keeps (blake2b 32) old held → Keeps (blake2b 32) new (put (blake2b 32 key) rh held)) →
      (is : Option (Hash32 × Hash32)) → later ≡ set_value (at key) es is → option_map shown_pair is ≡ Some (blake2b 32 key, rh) → IsKept old es → IsKept new later
  put_by es later key rh was found known free none puts None set_is shows kept = cc
  put_by es later key rh was found known free none puts (Some x) set_is shows kept = record {
    held = put (blake2b 32 key) rh kept.held;
    keeps = puts kept.held kept.keeps;
    same = put_same (blake2b 32 key) rh kept.held es key (length-blake2b 32 key (omega arith)) (keeps_set (blake2b 32) old kept.held none kept.keeps) kept.same was x later found known
        (λ no. free no kept.held kept.keeps) set_is (some_is (shown_pair x) (blake2b 32 key, rh) shows);
  }

  -- a pair is put for the row at a key, in the place of what is known of it
  pub kept_put : (es later : List Entry) (key rh : List ℕ) (was is : Option (Hash32 × Hash32)) → lookup (at key) es ≡ Some was → ((pair : Hash32 × Hash32) → pair_at key es ≡ Some pair → pair.0.0 ≡ blake2b 32 key) →
      (was ≡ None → (held : List Pair) → Keeps (blake2b 32) old held → only_at (blake2b 32 key) held ≡ None) → queued old ≡ 0 →
      ((held : List Pair) → Keeps (blake2b 32) old held → Keeps (blake2b 32) new (put (blake2b 32 key) rh held)) →
      later ≡ set_value (at key) es is → option_map shown_pair is ≡ Some (blake2b 32 key, rh) → IsKept old es → IsKept new later
  kept_put es later key rh was is found told free none puts set_is shows kept =
      put_by es later key rh was found (λ pair same. told pair (ap known found ∙ same)) free none puts is set_is shows kept

-- the row at a key, as the trie has it then
pub taken_is : {R : Type 0} (s : Words R) (key bytes rh : List ℕ) (row : R) (pair is : Option (Hash32 × Hash32)) → s.spelling row ≡ Some bytes → rh ≡ blake2b 32 bytes → pair ≡ is → option_map shown_pair is ≡ Some (blake2b 32 key, rh) → IsTaken s key row pair
taken_is s key bytes rh row pair is spelled hashed same shows = record {
  written = ap is_none spelled;
  pair_is = ap (option_map shown_pair) same ∙ (shows ∙ (λ i. Some (blake2b 32 key, (hashed ∙ ap (λ o. blake2b 32 (unwrap_or o [])) (sym spelled)) i)));
}

-- a key that is there finds something
pub not_lost : (key : List ℕ) (es : List Entry) → has_key key (keys_of es) ≡ true → lookup (at key) es ≡ None → ⊥
not_lost key es has none = let lost : is_some (lookup (at key) es) ≡ false = ap is_some none in both_ways (is_some (lookup (at key) es)) lost (sym (has_is key es) ∙ has)

-- what is popped is the first key
pub popped : {K : Type 0} (all rest : List K) (key : K) (r : Option K) → slice_get all 0 ≡ Some key → IfSome r (λ k. all ≡ k ∷ rest) → (0 < length all → IsSome r) → all ≡ key ∷ rest
popped [] rest key r first removal some = cc
popped (x ∷ xs) rest key None first removal some = let there = some (omega arith) in cc
popped (x ∷ xs) rest key (Some k) first removal some =
    let one : x ≡ key = some_is x key first in
    let others : xs ≡ rest = cc in
    λ i. one i ∷ others i

-- ---- the index after a partition was settled

module _ (index later : BTreeMap ℕ Part) (p : ℕ) (was is : Part) (there : get nat_cmp index p ≡ Some was) (puts : (q : ℕ) → get nat_cmp later q ≡ cond (is_at (nat_cmp p) q) (Some is) (get nat_cmp index q)) where
  module _ {R Z : Type 0} (s : Words R) (rows : List (Vec ℕ Z × Placed R)) (fits : Fits s p rows is) (all : AllFit s index rows) where
    fit_by : (q : ℕ) (part : Part) (b : Bool) → is_eq (nat_cmp p q) ≡ b → cond b (Some is) (get nat_cmp index q) ≡ Some part → Fits s q rows part
    fit_by q part true h found =
        let one : p ≡ q = nat_identical p q ((Equal-is _).0 h) in
        subst (λ r. Fits s r rows part) one (subst (Fits s p rows) (some_is is part found) fits)
    fit_by q part false h found = all q part found

    -- where what is put fits, all fits
    pub fit_one : AllFit s later rows
    fit_one q part found = fit_by q part (is_eq (nat_cmp p q)) refl (sym (puts q) ∙ found)

  -- and where nothing of it waits, nothing of the partition does
  pub settled_one : IsSettled is → IsSettledAt later p
  settled_one settled part found =
      let here : get nat_cmp later p ≡ Some is = puts p ∙ ap (λ o. cond (is_eq o) (Some is) (get nat_cmp index p)) (tied_itself nat_cmp_total p) in
      subst IsSettled (some_is is part (sym here ∙ found)) settled

  keys_by : (q : ℕ) (b : Bool) → is_eq (nat_cmp p q) ≡ b → keys_of is.pairs.entries ≡ keys_of was.pairs.entries → keys_of (entries_in (cond b (Some is) (get nat_cmp index q))) ≡ keys_under index q
  keys_by q true h same =
      let one : p ≡ q = nat_identical p q ((Equal-is _).0 h) in
      same ∙ ap (λ o. keys_of (entries_in o)) (sym there ∙ ap (get nat_cmp index) one)
  keys_by q false h same = refl
