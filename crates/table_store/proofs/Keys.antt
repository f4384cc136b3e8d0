-- The keys of each partition, after a key is added, and after a partition goes.
use Rattle.std.specs.Prelude.{◌≡◌, ℕ, Bool, true, false, cond, IsTrue, is_some, List, [], Option, Some, None, refl}
use Rattle.std.proofs.Common.{ap, sym, ◌∙◌, subst}
use Rattle.std.specs.Map.{keys_of, lookup}
use Rattle.std.specs.BTreeMap.{BTreeMap, get, insert_entry, is_at}
use Rattle.std.specs.Ordering.{nat_cmp, is_eq}
use Rattle.std.specs.Cmp.Lexicographic.{slice_cmp}
use Rattle.std.specs.declared.cmp.Ordering.{Ordering}
use Rattle.std.specs.declared.cmp.Ordering.TheVariants.{Less, Equal, Greater}
use Rattle.std.specs.Cmp.{Equal-is}
use Rattle.std.proofs.lemmas.Cmp.{nat_cmp_total, nat_list_cmp_total, tied_itself}
use Rattle.crdt_core.specs.IdentityLaws.{slice_identical, nat_identical}
use Rattle.blake2_hash.specs.declared.digest.Hash32.{Hash32}
use Rattle.table_store.specs.declared.index.Part.{Part}
use Rattle.table_store.specs.Index.{Entry, Extends, Grows, Key, entries_in, has_key, keys_under, known, known_pairs}
use Rattle.table_store.proofs.Entries.{at, has_is, known_new, lookup_put}
use Rattle.table_store.specs.Shelf.{vec_cmp}

ne_by : (a b : ℕ) → (a ≡ b → ⊥) → (o : Ordering) → nat_cmp a b ≡ o → is_eq o ≡ false
ne_by a b h Less e = refl
ne_by a b h Equal e = absurd (h (nat_identical a b e))
ne_by a b h Greater e = refl

pub ne_cmp : (a b : ℕ) → (a ≡ b → ⊥) → is_eq (nat_cmp a b) ≡ false
ne_cmp a b h = ne_by a b h (nat_cmp a b) refl

-- ---- what there is of a partition

pub extends_itself : (es : List Entry) → Extends es es
extends_itself es = record { keys = λ key had. had; pairs = λ key. refl; known_are = refl }

pub not_found : {X : Type 0} (o : Option X) → is_some o ≡ false → o ≡ None
not_found None h = refl
not_found (Some x) h = cc

-- a key is added of which nothing is known
pub extends_new : (old new : List Entry) (k : Key) → lookup (at k.items) old ≡ None → new ≡ insert_entry vec_cmp old k None → Extends old new
extends_new old new k none put = record {
  keys = λ key had. has_is key new ∙ (ap is_some (found key) ∙ stays (lookup (at key) old) (sym (has_is key old) ∙ had) (is_eq (slice_cmp nat_cmp key k.items)));
  pairs = λ key. ap known (found key) ∙ unknown key (is_eq (slice_cmp nat_cmp key k.items)) refl;
  known_are = ap known_pairs put ∙ known_new k old none;
}
  where
    found : (key : List ℕ) → lookup (at key) new ≡ cond (is_eq (slice_cmp nat_cmp key k.items)) (Some None) (lookup (at key) old)
    found key = ap (lookup (at key)) put ∙ lookup_put key k None old

    stays : (o : Option (Option (Hash32 × Hash32))) → is_some o ≡ true → (b : Bool) → is_some (cond b (Some None) o) ≡ true
    stays o h true = refl
    stays o h false = h

    unknown : (key : List ℕ) (b : Bool) → is_eq (slice_cmp nat_cmp key k.items) ≡ b → known (cond b (Some None) (lookup (at key) old)) ≡ known (lookup (at key) old)
    unknown key true same =
        let one : key ≡ k.items = slice_identical nat_identical key k.items ((Equal-is _).0 same) in
        sym (ap known (ap (λ x. lookup (at x) old) one ∙ none))
    unknown key false apart = refl

-- the key that was added is there
pub has_new : (old new : List Entry) (k : Key) (key : List ℕ) → k.items ≡ key → new ≡ insert_entry vec_cmp old k None → has_key key (keys_of new) ≡ true
has_new old new k key same put =
    ap (λ x. has_key x (keys_of new)) (sym same)
    ∙ (has_is k.items new
    ∙ (ap is_some (ap (lookup (at k.items)) put ∙ lookup_put k.items k None old)
    ∙ ap (λ o. is_some (cond (is_eq o) (Some None) (lookup (at k.items) old))) (tied_itself nat_list_cmp_total k.items)))

grown_itself : (part : Part) → Grows (Some part) part
grown_itself part = record {
  extends = extends_itself part.pairs.entries;
  waiting = λ key was. was;
  kept = λ kept. kept;
}

module _ (old new : BTreeMap ℕ Part) (p : ℕ) (is : Part) (put : (q : ℕ) → get nat_cmp new q ≡ cond (is_at (nat_cmp p) q) (Some is) (get nat_cmp old q)) where
  -- the partition has what was put
  pub put_here : get nat_cmp new p ≡ Some is
  put_here = put p ∙ ap (λ o. cond (is_eq o) (Some is) (get nat_cmp old p)) (tied_itself nat_cmp_total p)

  module _ (was : Option Part) (there : get nat_cmp old p ≡ was) (grows : Grows was is) where
    grown_by : (q : ℕ) (part : Part) (b : Bool) → is_eq (nat_cmp p q) ≡ b → cond b (Some is) (get nat_cmp old q) ≡ Some part → Grows (get nat_cmp old q) part
    grown_by q part true h found =
        let one : p ≡ q = nat_identical p q ((Equal-is _).0 h) in
        let old-is : was ≡ get nat_cmp old q = sym there ∙ ap (get nat_cmp old) one in
        let new-is : is ≡ part = cc in
        subst (λ o. Grows o part) old-is (subst (Grows was) new-is grows)
    grown_by q part false h found = rw found (grown_itself part)

    -- what was put has grown, and the others are as they were
    pub grown_put : (q : ℕ) (part : Part) → get nat_cmp new q ≡ Some part → Grows (get nat_cmp old q) part
    grown_put q part found = grown_by q part (is_eq (nat_cmp p q)) refl (sym (put q) ∙ found)

    more_by : (q : ℕ) (key : List ℕ) → has_key key (keys_under old q) ≡ true → (b : Bool) → is_eq (nat_cmp p q) ≡ b → has_key key (keys_of (entries_in (cond b (Some is) (get nat_cmp old q)))) ≡ true
    more_by q key had true h =
        let one : p ≡ q = nat_identical p q ((Equal-is _).0 h) in
        grows.extends.keys key (ap (λ o. has_key key (keys_of (entries_in o))) (sym there) ∙ (ap (λ r. has_key key (keys_under old r)) one ∙ had))
    more_by q key had false h = had

    -- each partition has all keys that it had
    pub put_more : (q : ℕ) (key : List ℕ) → IsTrue (has_key key (keys_under old q)) → IsTrue (has_key key (keys_under new q))
    put_more q key had = ap (λ found. has_key key (keys_of (entries_in found))) (put q) ∙ more_by q key had (is_eq (nat_cmp p q)) refl

-- an index without a partition has what it had of the others
pub removed_others : (old new : BTreeMap ℕ Part) (p : ℕ) → ((q : ℕ) → get nat_cmp new q ≡ cond (is_at (nat_cmp p) q) None (get nat_cmp old q)) →
    (q : ℕ) → is_eq (nat_cmp p q) ≡ false → keys_under new q ≡ keys_under old q
removed_others old new p is q apart = ap (λ o. keys_of (entries_in o)) (is q ∙ ap (λ b. cond b None (get nat_cmp old q)) apart)
