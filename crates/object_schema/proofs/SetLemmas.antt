-- Sets of values as loops make them.
use Rattle.std.proofs.Common.{◌≡◌, List, [], ◌∷◌, ◌++◌, map, refl, sym, ap, ◌∙◌}
use Rattle.std.specs.declared.cmp.Ordering.{Ordering}
use Rattle.std.specs.declared.cmp.Ordering.TheVariants.{Less, Equal, Greater}
use Rattle.std.specs.declared.cmp.Ord as ord
use Rattle.std.specs.declared.cmp.PartialEq as partial_eq
use Rattle.std.specs.declared.cmp.PartialOrd as partial_ord
use Rattle.std.specs.Cmp.{IsTotalOrder}
use Rattle.blake2_hash.specs.declared.digest.Hash32.{Hash32}
use Rattle.crdt_core.specs.declared.map.Map.{Map}
use Rattle.crdt_core.specs.declared.max.Max.{Max}
use Rattle.crdt_core.specs.declared.flag.Bool.{Bool as Flag}
use Rattle.crdt_core.specs.declared.deletable.Deletable.TheVariants.{Present, Deleted}
use Rattle.crdt_rows.specs.declared.object_row.ObjectRow.{ObjectRow}
use Rattle.crdt_rows.specs.declared.version_row.VersionRow.{VersionRow}
use Rattle.crdt_rows.specs.declared.version_row.Part.{Part}
use Rattle.crdt_rows.specs.declared.version_row.BlockRef.{BlockRef}
use Rattle.crdt_rows.specs.declared.any_row.AnyRow.{AnyRow}
use Rattle.row_codec.specs.Built.{BlockMap}
use Rattle.crdt_core.specs.Entries.{merged}
use Rattle.crdt_core.specs.Map.{map_entries, map_join, map_single}
use Rattle.crdt_core.specs.MapLaws.{map_join-entries}
use Rattle.crdt_rows.specs.declared.version.Version.{Version}
use Rattle.crdt_rows.specs.declared.state.State.{State}
use Rattle.blake2_hash.specs.Hash.{hash_cmp}
use Rattle.crdt_rows.specs.Version.{version_cmp}
use Rattle.object_schema.specs.declared.hashes.BlockName.{BlockName}
use Rattle.object_schema.specs.Names.{name_cmp}
use Rattle.object_schema.specs.Sets.{keys_of}
use Rattle.object_schema.specs.Triggers.{with_value, with_values, in_order, versions_that, is_lost, is_newly_aborted, given_up, deleted_version, released, deleted_reference}
use Rattle.crdt_core.proofs.Tails.{merged_nil}

module _ {K V : Type 0} (R : K → K → Ordering) (j : V → V → V) (k : K) (v : V) where
  keys_by : (e : K × V) (es : List (K × V)) (r : Ordering) → R e.0 k ≡ r → map (λ x. x.0) (merged R j es ((k, v) ∷ [])) ≡ with_value R k (map (λ x. x.0) es) → map (λ x. x.0) (merged R j (e ∷ es) ((k, v) ∷ [])) ≡ with_value R k (e.0 ∷ map (λ x. x.0) es)
  keys_by e es Less p h = rw p (ap (λ (ks : List K). e.0 ∷ ks) h)
  keys_by e es Equal p h = rw p (ap (λ (fs : List (K × V)). e.0 ∷ map (λ x. x.0) fs) (merged_nil R j es))
  keys_by e es Greater p h = rw p refl

  keys_merged : (es : List (K × V)) → map (λ x. x.0) (merged R j es ((k, v) ∷ [])) ≡ with_value R k (map (λ x. x.0) es)
  keys_merged [] = refl
  keys_merged (e ∷ es) = keys_by e es (R e.0 k) refl (keys_merged es)

-- a key that is joined in is put among the keys
pub keys_joined : {K V : Type 0} {o : ord.Ghosts K} {p : partial_eq.Ghosts K} {q : partial_ord.Ghosts K} → IsTotalOrder o.cmp → (j : V → V → V) (m n : Map K V o p q) (k : K) (v : V) → n ≡ map_join j m (map_single k v) → keys_of n ≡ with_value o.cmp k (keys_of m)
keys_joined {o = o} total j m n k v e = ap keys_of e ∙ (ap (map (λ x. x.0)) (map_join-entries total j m (map_single k v)) ∙ keys_merged o.cmp j k v (map_entries m))

module _ {K : Type 0} (R : K → K → Ordering) where
  pub with_values-append : (xs ks ls : List K) → with_values R xs (ks ++ ls) ≡ with_values R (with_values R xs ks) ls
  with_values-append xs [] ls = refl
  with_values-append xs (k ∷ ks) ls = with_values-append (with_value R k xs) ks ls

-- what is made of the keys
pub map_keys : {K V Y : Type 0} (f : K → Y) (es : List (K × V)) → map (λ e. f e.0) es ≡ map f (map (λ e. e.0) es)
map_keys {Y = Y} f [] = refl
map_keys {Y = Y} f (e ∷ es) = ap (λ (ys : List Y). f e.0 ∷ ys) (map_keys f es)

-- ---- names of blocks are ordered as their hashes

named_by : (n x : BlockName) (xs : List BlockName) (r : Ordering) → name_cmp x n ≡ r → map (λ b. b.0) (with_value name_cmp n xs) ≡ with_value hash_cmp n.0 (map (λ b. b.0) xs) → map (λ b. b.0) (with_value name_cmp n (x ∷ xs)) ≡ with_value hash_cmp n.0 (x.0 ∷ map (λ b. b.0) xs)
named_by n x xs Less p h = rw p (ap (λ (hs : List Hash32). x.0 ∷ hs) h)
named_by n x xs Equal p h = rw p refl
named_by n x xs Greater p h = rw p refl

named_value : (n : BlockName) (xs : List BlockName) → map (λ b. b.0) (with_value name_cmp n xs) ≡ with_value hash_cmp n.0 (map (λ b. b.0) xs)
named_value n [] = refl
named_value n (x ∷ xs) = named_by n x xs (name_cmp x n) refl (named_value n xs)

pub named_values : (xs ns : List BlockName) → map (λ b. b.0) (with_values name_cmp xs ns) ≡ with_values hash_cmp (map (λ b. b.0) xs) (map (λ b. b.0) ns)
named_values xs [] = refl
named_values xs (n ∷ ns) = named_values (with_value name_cmp n xs) ns ∙ ap (λ (hs : List Hash32). with_values hash_cmp hs (map (λ b. b.0) ns)) (named_value n xs)

-- ---- the rows that are made

map_after : {X Y Z : Type 0} (g : Y → Z) (f : X → Y) (xs : List X) → map g (map f xs) ≡ map (λ x. g (f x)) xs
map_after {Z = Z} g f [] = refl
map_after {Z = Z} g f (x ∷ xs) = ap (λ (zs : List Z). g (f x) ∷ zs) (map_after g f xs)

-- the versions that one row lost, and then those that are newly aborted in the other
pub versions_made : (old new : ObjectRow) (rows : List AnyRow) (start entries : List (Version × Flag)) (first : List Version) (slice : List (Version × Flag)) (old_slice new_slice : List (Version × Max State))
    → start ≡ [] → old_slice ≡ map_entries old.versions → new_slice ≡ map_entries new.versions → slice ≡ entries
    → first ≡ with_values version_cmp (map (λ e. e.0) start) (versions_that (is_lost new) old_slice)
    → map (λ e. e.0) entries ≡ with_values version_cmp first (versions_that (is_newly_aborted old) new_slice)
    → rows ≡ map (λ (e : Version × Flag). deleted_version e.0) slice
    → rows ≡ map deleted_version (given_up old new)
versions_made old new rows start entries first slice old_slice new_slice none olds news same lost aborted made =
    let lost_are : first ≡ with_values version_cmp [] (versions_that (is_lost new) (map_entries old.versions)) = lost ∙ λ i. with_values version_cmp (map (λ e. e.0) (none i)) (versions_that (is_lost new) (olds i)) in
    let keys : map (λ e. e.0) entries ≡ given_up old new =
    aborted
    ∙ ((λ i. with_values version_cmp (lost_are i) (versions_that (is_newly_aborted old) (news i)))
    ∙ sym (with_values-append version_cmp [] (versions_that (is_lost new) (map_entries old.versions)) (versions_that (is_newly_aborted old) (map_entries new.versions)))) in
    made ∙ (ap (map (λ (e : Version × Flag). deleted_version e.0)) same ∙ (map_keys deleted_version entries ∙ ap (map deleted_version) keys))

-- the different blocks of a row that becomes deleted
pub references_made : (old new : VersionRow) (blocks : BlockMap) (rows : List AnyRow) (entries slice : List (BlockName × Flag)) (block_slice : List (Part × Max BlockRef))
    → old.blocks ≡ Present blocks → new.blocks ≡ Deleted → block_slice ≡ map_entries blocks → slice ≡ entries
    → map (λ e. e.0) entries ≡ in_order name_cmp (map (λ e. record { 0 = e.1.0.hash }) block_slice)
    → rows ≡ map (λ (e : BlockName × Flag). deleted_reference old.id e.0.0) slice
    → rows ≡ map (deleted_reference old.id) (released old new)
references_made old new blocks rows entries slice block_slice held gone blocks_are same names made =
    let name : Part × Max BlockRef → BlockName = λ e. record { 0 = e.1.0.hash } in
    let hashes : map (λ b. b.0) (map (λ e. e.0) entries) ≡ in_order hash_cmp (map (λ e. e.1.0.hash) (map_entries blocks)) =
    ap (map (λ b. b.0)) names
    ∙ (named_values [] (map name block_slice)
    ∙ (ap (in_order hash_cmp) (map_after (λ b. b.0) name block_slice) ∙ ap (λ (es : List (Part × Max BlockRef)). in_order hash_cmp (map (λ e. e.1.0.hash) es)) blocks_are)) in
    let released_are : released old new ≡ in_order hash_cmp (map (λ e. e.1.0.hash) (map_entries blocks)) = rw (gone, held) refl in
    made
    ∙ (ap (map (λ (e : BlockName × Flag). deleted_reference old.id e.0.0)) same
    ∙ (map_keys (λ (n : BlockName). deleted_reference old.id n.0) entries
    ∙ (sym (map_after (deleted_reference old.id) (λ b. b.0) (map (λ e. e.0) entries))
    ∙ ap (map (deleted_reference old.id)) (hashes ∙ sym released_are))))
