-- Rows that `==` doesn't tell apart are one.
use Rattle.std.proofs.Common.{◌≡◌, ℕ, ◌==◌, ◌&&◌, Bool, true, false, [], ◌∷◌, ap}
use Rattle.std.specs.Cmp.{Equal-is, booleans_Decides}
use Rattle.std.specs.Cmp.Lexicographic.{pointwise}
use Rattle.std.proofs.lemmas.Bool.{and_parts, eqb-true}
use Rattle.std.proofs.lemmas.Slice.Eq.{bytes_eq-Decides}
use Rattle.blake2_hash.specs.contracts.digest.Hash32PartialEq.TheImpl.{ghosts as hash}
use Rattle.crdt_core.specs.declared.deletable.Deletable.{Deletable}
use Rattle.crdt_core.specs.declared.deletable.Deletable.TheVariants.{Present, Deleted}
use Rattle.crdt_core.specs.declared.map.Map.{Map}
use Rattle.crdt_core.specs.declared.max.Max.{Max}
use Rattle.crdt_core.specs.Map.{map_entries}
use Rattle.crdt_core.specs.MapLaws.{same_map}
use Rattle.crdt_rows.specs.declared.any_row.AnyRow.TheVariants.{Object, Version, Ref}
use Rattle.crdt_rows.specs.declared.version_row.BlockRef.{BlockRef}
use Rattle.crdt_rows.specs.declared.version_row.Part.{Part}
use Rattle.crdt_rows.specs.declared.version_row.VersionRow.{VersionRow}
use Rattle.crdt_rows.specs.contracts.any_row.AnyRowPartialEq.TheImpl.{ghosts as any_row}
use Rattle.crdt_rows.specs.contracts.object_row.ObjectRowPartialEq.TheImpl.{ghosts as object_row}
use Rattle.crdt_rows.specs.contracts.ref_row.RefRowPartialEq.TheImpl.{ghosts as ref_row}
use Rattle.crdt_rows.specs.contracts.state.StatePartialEq.TheImpl.{ghosts as state}
use Rattle.crdt_rows.specs.contracts.version.VersionPartialEq.TheImpl.{ghosts as name}
use Rattle.crdt_rows.specs.contracts.version_row.BlockRefPartialEq.TheImpl.{ghosts as block}
use Rattle.crdt_rows.specs.contracts.version_row.PartPartialEq.TheImpl.{ghosts as place}
use Rattle.crdt_rows.specs.contracts.version_row.VersionRowPartialEq.TheImpl.{ghosts as version_row}
use Rattle.crdt_rows.specs.ObjectRowLaws.{same_row}
use Rattle.crdt_rows.specs.State.{state_cmp}
use Rattle.crdt_rows.specs.StateLaws.{state_identical}

-- the test passes equal values alone
abbrev pub Tells : {X : Type 0} → (X → X → Bool) → Type 0
Tells {X} same = (a b : X) → same a b ≡ true → a ≡ b

names_told : Tells name.eq
names_told a b e =
    let parts = and_parts (a.ts == b.ts) (a.id == b.id) e in
    let ts = eqb-true a.ts b.ts parts.0 in
    let id = eqb-true a.id b.id parts.1 in
    λ i. record { ts = ts i; id = id i }

states_told : Tells state.eq
states_told a b e = state_identical a b ((Equal-is (state_cmp a b)).0 e)

hashes_told : Tells hash.eq
hashes_told a b e = let bytes = (bytes_eq-Decides a.0 b.0).0 e in λ i. record { 0 = bytes i }

places_told : Tells place.eq
places_told a b e =
    let parts = and_parts (a.part == b.part) (a.offset == b.offset) e in
    let part = eqb-true a.part b.part parts.0 in
    let offset = eqb-true a.offset b.offset parts.1 in
    λ i. record { part = part i; offset = offset i }

blocks_told : Tells block.eq
blocks_told a b e =
    let parts = and_parts (hash.eq a.hash b.hash) (a.size == b.size) e in
    let hash = hashes_told a.hash b.hash parts.0 in
    let size = eqb-true a.size b.size parts.1 in
    λ i. record { hash = hash i; size = size i }

module _ {K V : Type 0} {E : K → K → Bool} {F : V → V → Bool} (keys : Tells E) (values : Tells F) where
  abbrev same_entry : K × Max V → K × Max V → Bool
  same_entry p q = E p.0 q.0 && F p.1.0 q.1.0

  entries_told : Tells (pointwise same_entry)
  entries_told [] [] e = λ i. []
  entries_told [] (y ∷ ys) e = let no : false ≡ true = e in cc
  entries_told (x ∷ xs) [] e = let no : false ≡ true = e in cc
  entries_told (x ∷ xs) (y ∷ ys) e =
      let parts = and_parts (same_entry x y) (pointwise same_entry xs ys) e in
      let first = and_parts (E x.0 y.0) (F x.1.0 y.1.0) parts.0 in
      λ i. (keys x.0 y.0 first.0 i, record { 0 = values x.1.0 y.1.0 first.1 i }) ∷ entries_told xs ys parts.1 i

objects_told : Tells object_row.eq
objects_told a b e =
    let parts = and_parts _ _ e in
    let more = and_parts _ _ parts.1 in
    same_row a b (hashes_told a.bucket b.bucket parts.0) ((bytes_eq-Decides a.key b.key).0 more.0) (same_map _ _ (entries_told names_told states_told (map_entries a.versions) (map_entries b.versions) more.1))

versions_told : Tells version_row.eq
versions_told a b e = told a.id b.id a.blocks b.blocks e
  where
    told : (m n : ℕ) (x y : Deletable (Map Part (Max BlockRef) _ _ _)) → (let v : VersionRow = record { id = m; blocks = x } in let w : VersionRow = record { id = n; blocks = y } in version_row.eq v w ≡ true → v ≡ w)
    told m n (Present x) (Present y) e =
        let parts = and_parts _ _ e in
        let id = eqb-true m n parts.0 in
        let blocks = same_map x y (entries_told places_told blocks_told (map_entries x) (map_entries y) parts.1) in
        λ i. record { id = id i; blocks = Present (blocks i) }
    told m n (Present x) Deleted e = let no : false ≡ true = (and_parts (m == n) false e).1 in cc
    told m n Deleted (Present y) e = let no : false ≡ true = (and_parts (m == n) false e).1 in cc
    told m n Deleted Deleted e = let id = eqb-true m n (and_parts _ _ e).0 in λ i. record { id = id i; blocks = Deleted }

refs_told : Tells ref_row.eq
refs_told a b e =
    let parts = and_parts _ _ e in
    let more = and_parts _ _ parts.1 in
    let hash = hashes_told a.hash b.hash parts.0 in
    let id = eqb-true a.id b.id more.0 in
    let flag = (booleans_Decides a.deleted.0 b.deleted.0).0 more.1 in
    λ i. record { hash = hash i; id = id i; deleted = record { 0 = flag i } }

pub rows_told : Tells any_row.eq
rows_told (Object a) (Object b) e = ap Object (objects_told a b e)
rows_told (Object a) (Version b) e = let no : false ≡ true = e in cc
rows_told (Object a) (Ref b) e = let no : false ≡ true = e in cc
rows_told (Version a) (Object b) e = let no : false ≡ true = e in cc
rows_told (Version a) (Version b) e = ap Version (versions_told a b e)
rows_told (Version a) (Ref b) e = let no : false ≡ true = e in cc
rows_told (Ref a) (Object b) e = let no : false ≡ true = e in cc
rows_told (Ref a) (Version b) e = let no : false ≡ true = e in cc
rows_told (Ref a) (Ref b) e = ap Ref (refs_told a b e)
