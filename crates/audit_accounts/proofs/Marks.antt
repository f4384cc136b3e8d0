-- The delete markers that rows have alone are versions that were drawn, so they have numbers of the code.
use Rattle.std.proofs.Common.{◌≡◌, ◌<◌, ◌^◌, ℕ, Option, Some, None, List, [], ◌∷◌, refl, ap, subst, ◌∙◌, arith}
use Rattle.std.specs.Prelude.{option_map}
use Rattle.std.specs.Cmp.{tied_itself}
use Rattle.std.specs.List.{AllByRecursion}
use Rattle.crdt_core.specs.Entries.{value_at}
use Rattle.crdt_core.specs.Map.{map_entries}
use Rattle.crdt_core.specs.Members.{Has}
use Rattle.crdt_core.specs.declared.max.Max.{Max}
use Rattle.crdt_rows.specs.declared.version.Version.{Version}
use Rattle.crdt_rows.specs.declared.body.Body.TheVariants.{Marker, Inline, Blocks}
use Rattle.crdt_rows.specs.declared.state.State.{State}
use Rattle.crdt_rows.specs.declared.state.State.TheVariants.{Uploading, Aborted, Complete}
use Rattle.crdt_rows.specs.declared.object_row.ObjectRow.{ObjectRow}
use Rattle.crdt_rows.specs.declared.any_row.AnyRow.{AnyRow}
use Rattle.crdt_rows.specs.declared.any_row.AnyRow.TheVariants as rows
use Rattle.crdt_rows.specs.AnyRow.{any_join}
use Rattle.crdt_rows.specs.Facts.{HasState}
use Rattle.crdt_rows.specs.FieldLaws.{version_total}
use Rattle.crdt_rows.specs.Version.{version_cmp}
use Rattle.object_schema.specs.Schema.{only_marker, words}
use Rattle.table_model.specs.Rows.{row_at}
use Rattle.machine_origins.proofs.Good.{IsGood, IsFound, row_found}
use Rattle.object_origins.proofs.Shown.{Facts}
use Rattle.limit_rows.specs.Fitting.{Drawn, AreWithin, RowFits}
use Rattle.limit_rows.proofs.Handed.{fits_rules}
use Rattle.audit_accounts.proofs.Nodes.{MarkNamed}

-- a version with numbers of the code
abbrev IsSmall : Version → Type 0
IsSmall x = (x.ts < 2 ^ 64) × (x.id < 2 ^ 64)

-- the version of one entry, where that is a delete marker
abbrev marker_is : Version → State → Option (ℕ × ℕ)
marker_is x s = elim s [ Complete Marker ↦ Some (x.ts, x.id) | _ ↦ None ]

state_named : (x : Version) (s : State) → IsSmall x → MarkNamed (marker_is x s)
state_named x Uploading small = tt
state_named x Aborted small = tt
state_named x (Complete Marker) small = small
state_named x (Complete (Inline meta bytes)) small = tt
state_named x (Complete (Blocks meta first)) small = tt

-- each version that the row has is small
one_named : (r : ObjectRow) → ((x : Version) (s : State) → HasState r x s → IsSmall x) → (es : List (Version × Max State)) → map_entries r.versions ≡ es → MarkNamed (only_marker es)
one_named r small [] e = tt
one_named r small (x ∷ y ∷ es) e = tt
one_named r small (x ∷ []) e =
    let there : HasState r x.0 x.1.0 = ap (λ (es : List (Version × Max State)). option_map (λ (s : Max State). s.0) (value_at version_cmp x.0 es)) e ∙ (rw (tied_itself version_total x.0) refl) in
    state_named x.0 x.1.0 (small x.0 x.1.0 there)

module _ (facts : Facts) (t : ℕ) (v : Drawn) (within : AreWithin t v) where
  drawn_small : (x : Version) → Has v.versions x → IsSmall x
  drawn_small x has = let low = within.versions_fit x has in let few = within.few in (omega (arith, low, few), omega (arith, low, few))

  row_named : (r : AnyRow) → RowFits v r → MarkNamed (words.marker r)
  row_named (rows.Object r) fits = one_named r (λ x s there. drawn_small x (fits.1 x s there).0) (map_entries r.versions) refl
  row_named (rows.Version r) fits = tt
  row_named (rows.Ref r) fits = tt

  found_named : (table : ℕ) (key : List ℕ) (o : Option AnyRow) → IsFound words (RowFits v) table key o → (r : AnyRow) → o ≡ Some r → MarkNamed (words.marker r)
  found_named table key None found r e = absurd cc
  found_named table key (Some x) found r e = (let same : x ≡ r = cc in row_named r (subst (RowFits v) same found.good.has))

  -- so are those of a node's rows
  pub marks_named : (contents : List AnyRow) → AllByRecursion (IsGood words (RowFits v)) contents → (table : ℕ) (key : List ℕ) (r : AnyRow) → row_at any_join words contents table key ≡ Some r → MarkNamed (words.marker r)
  marks_named contents good table key r e = found_named table key (row_at any_join words contents table key) (row_found (fits_rules facts t v within) contents table key good) r e
