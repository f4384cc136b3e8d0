-- Rows of versions with low numbers merge to such rows, and call for such rows.
use Rattle.std.proofs.Common.{◌≡◌, ◌≤◌, ℕ, List, [], ◌∷◌, map, refl, sym, ◌∙◌, inl, inr}
use Rattle.std.specs.Prelude.{⊤}
use Rattle.std.specs.List.{AllByRecursion, Contains}
use Rattle.std.proofs.lemmas.List.Elements.{All-nil, All-contains, All-from_recursion}
use Rattle.blake2_hash.specs.declared.digest.Hash32.{Hash32}
use Rattle.crdt_rows.specs.declared.version.Version.{Version}
use Rattle.crdt_rows.specs.declared.state.State.{State}
use Rattle.crdt_rows.specs.declared.state.State.TheVariants.{Aborted}
use Rattle.crdt_rows.specs.declared.object_row.ObjectRow.{ObjectRow}
use Rattle.crdt_rows.specs.declared.ref_row.RefRow.{RefRow}
use Rattle.crdt_rows.specs.declared.any_row.AnyRow.{AnyRow}
use Rattle.crdt_rows.specs.declared.any_row.AnyRow.TheVariants as rows
use Rattle.crdt_rows.specs.AnyRow.{any_join}
use Rattle.crdt_rows.specs.Facts.{HasState}
use Rattle.crdt_rows.specs.ObjectRow.{object_join, state_at}
use Rattle.crdt_rows.specs.RefRow.{ref_row_join}
use Rattle.crdt_rows.specs.VersionRow.{version_row_join}
use Rattle.crdt_rows.proofs.ObjectJoin.{join-state}
use Rattle.row_codec.specs.Spelling.{eight}
use Rattle.table_schema.specs.Laws.{Same}
use Rattle.object_schema.specs.Laws.{schema_laws, key_parts}
use Rattle.object_schema.specs.Schema.{words}
use Rattle.object_schema.specs.Triggers.{deleted_version, deleted_reference, given_up, released, triggered}
use Rattle.object_origins.proofs.Given.{all_given}
use Rattle.machine_origins.proofs.ByOrigin.{IsInherited}
use Rattle.store_laws.proofs.Objects.{tied_keys, unless_older, one_of}

-- the number is spelled as one up to this
pub record IsUpTo (top n : ℕ) : Type 0 where
  pub number : ℕ
  pub low : number ≤ top
  pub spelled : eight n ≡ eight number

module _ (top : ℕ) where
  -- the row is of versions with such numbers
  abbrev pub IsLow : AnyRow → Type 0
  IsLow (rows.Object r) = (v : Version) (s : State) → HasState r v s → v.id ≤ top
  IsLow (rows.Version r) = IsUpTo top r.id
  IsLow (rows.Ref r) = IsUpTo top r.id

  as_spelled : (m n : ℕ) → eight n ≡ eight m → IsUpTo top m → IsUpTo top n
  as_spelled m n same low = record { number = low.number; low = low.low; spelled = same ∙ low.spelled }

  objects_merged : (a b : ObjectRow) → Same words (rows.Object a) (rows.Object b) → IsLow (rows.Object a) → IsLow (rows.Object b) → IsLow (rows.Object (object_join a b))
  objects_merged a b same p q v s e = elim (one_of (state_at a v) (state_at b v) s (unless_older _ _ s (sym (join-state a b (tied_keys a b same) v) ∙ e))) [ inl x ↦ p v s x | inr y ↦ q v s y ]

  refs_merged : (a b : RefRow) → Same words (rows.Ref a) (rows.Ref b) → eight (ref_row_join a b).id ≡ eight a.id
  refs_merged a b same =
      let joined = schema_laws.position_is_32_bytes (rows.Ref (ref_row_join a b)) (schema_laws.joined_is_proper (rows.Ref a) (rows.Ref b) same) in
      (key_parts (ref_row_join a b).hash a.hash (eight (ref_row_join a b).id) (eight a.id) joined (schema_laws.position_is_32_bytes (rows.Ref a) same.first_proper) (schema_laws.joined_key (rows.Ref a) (rows.Ref b) same)).1

  low_joined : (a b : AnyRow) → Same words a b → IsLow a → IsLow b → IsLow (any_join a b)
  low_joined (rows.Object a) (rows.Object b) same p q = objects_merged a b same p q
  low_joined (rows.Object a) (rows.Version b) same p q = q
  low_joined (rows.Object a) (rows.Ref b) same p q = q
  low_joined (rows.Version a) (rows.Object b) same p q = p
  low_joined (rows.Version a) (rows.Version b) same p q = as_spelled a.id (version_row_join a b).id (schema_laws.joined_key (rows.Version a) (rows.Version b) same) p
  low_joined (rows.Version a) (rows.Ref b) same p q = q
  low_joined (rows.Ref a) (rows.Object b) same p q = p
  low_joined (rows.Ref a) (rows.Version b) same p q = p
  low_joined (rows.Ref a) (rows.Ref b) same p q = as_spelled a.id (ref_row_join a b).id (refs_merged a b same) p

  low_mapped : {X : Type 0} (f : X → AnyRow) (P : X → Type 0) → ((x : X) → P x → IsLow (f x)) → (xs : List X) → AllByRecursion P xs → (row : AnyRow) → Contains (map f xs) row → IsLow row
  low_mapped f P each xs all row c = All-contains IsLow (map f xs) row (All-from_recursion IsLow (map f xs) (along xs all)) c
    where
      along : (xs : List _) → AllByRecursion P xs → AllByRecursion IsLow (map f xs)
      along [] all = tt
      along (x ∷ xs) all = (each x all.0, along xs all.1)

  none_called : (row : AnyRow) → Contains [] row → IsLow row
  none_called row c = All-contains IsLow [] row (All-nil IsLow) c

  low_called : (old new row : AnyRow) → IsLow old → IsLow new → Contains (triggered old new) row → IsLow row
  low_called (rows.Object a) (rows.Object b) row p q c =
      low_mapped deleted_version (λ (v : Version). v.id ≤ top) (λ v low. record { number = v.id; low = low; spelled = refl }) (given_up a b)
      (all_given a b (λ (v : Version). v.id ≤ top) (λ v is. p v is.state is.was) (λ v is. q v Aborted is)) row c
  low_called (rows.Version a) (rows.Version b) row p q c = low_mapped (deleted_reference a.id) (λ (h : Hash32). ⊤) (λ h any. p) (released a b) (any (released a b)) row c
    where
      any : (hs : List Hash32) → AllByRecursion (λ (h : Hash32). ⊤) hs
      any [] = tt
      any (h ∷ hs) = (tt, any hs)
  low_called (rows.Ref a) (rows.Ref b) row p q c = none_called row c
  low_called (rows.Object a) (rows.Version b) row p q c = none_called row c
  low_called (rows.Object a) (rows.Ref b) row p q c = none_called row c
  low_called (rows.Version a) (rows.Object b) row p q c = none_called row c
  low_called (rows.Version a) (rows.Ref b) row p q c = none_called row c
  low_called (rows.Ref a) (rows.Object b) row p q c = none_called row c
  low_called (rows.Ref a) (rows.Version b) row p q c = none_called row c

  pub low_inherited : IsInherited any_join words IsLow
  low_inherited = record { joined = low_joined; called_for = low_called }
