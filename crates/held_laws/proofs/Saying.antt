-- Each row of an object says something, and of versions that were drawn alone.
use Rattle.std.proofs.Common.{◌≡◌, cond, ◌||◌, Option, Some, None, refl, ap₂, subst, ◌∙◌}
use Rattle.std.specs.Prelude.{⊤}
use Rattle.crdt_core.specs.Lex.{larger}
use Rattle.crdt_core.specs.Order.{option_join}
use Rattle.crdt_rows.specs.declared.version.Version.{Version}
use Rattle.crdt_rows.specs.declared.state.State.{State}
use Rattle.crdt_rows.specs.declared.state.State.TheVariants.{Complete}
use Rattle.crdt_rows.specs.declared.object_row.ObjectRow.{ObjectRow}
use Rattle.crdt_rows.specs.declared.any_row.AnyRow.{AnyRow}
use Rattle.crdt_rows.specs.declared.any_row.AnyRow.TheVariants as rows
use Rattle.crdt_rows.specs.AnyRow.{any_join}
use Rattle.crdt_rows.specs.Facts.{HasState, IsNewest}
use Rattle.crdt_rows.specs.Newest.{later, is_older}
use Rattle.crdt_rows.specs.ObjectRow.{object_join, newest, state_at}
use Rattle.crdt_rows.specs.State.{state_cmp}
use Rattle.crdt_rows.specs.Version.{version_cmp}
use Rattle.crdt_rows.proofs.ObjectJoin.{join-state, join-newest}
use Rattle.table_schema.specs.Laws.{Same}
use Rattle.object_schema.specs.Schema.{words}
use Rattle.machine_origins.proofs.ByOrigin.{IsInherited}
use Rattle.store_laws.proofs.Objects.{tied_keys, called_other}
use Rattle.crdt_rows.proofs.ObjectFacts.{newest_is}

-- an object's row says something
abbrev pub SaysSome : AnyRow → Type 0
SaysSome (rows.Object r) = (v : Version) × (s : State) × HasState r v s
SaysSome other = ⊤

-- one of two states, where there is one
joined_some : (x y : Option State) (s : State) → x ≡ Some s → (t : State) × (option_join (larger state_cmp) x y ≡ Some t)
joined_some None y s e = absurd (cc)
joined_some (Some a) None s e = (a, refl)
joined_some (Some a) (Some b) s e = (larger state_cmp a b, refl)

-- a row with a complete version says so
newest_there : (r : ObjectRow) (n : Version) → newest r ≡ Some n → SaysSome (rows.Object r)
newest_there r n e = let is : IsNewest (HasState r) (Some n) = subst (IsNewest (HasState r)) e (newest_is r) in (n, Complete is.0.0, is.0.1)

module _ (a b : ObjectRow) (same : Same words (rows.Object a) (rows.Object b)) (p : SaysSome (rows.Object a)) where
  newer : newest (object_join a b) ≡ later version_cmp (newest a) (newest b)
  newer = join-newest a b (tied_keys a b same)

  some_by : (x y : Option Version) → newest a ≡ x → newest b ≡ y → SaysSome (rows.Object (object_join a b))
  some_by (Some n) None e f = newest_there (object_join a b) n (newer ∙ ap₂ (later version_cmp) e f)
  some_by (Some n) (Some m) e f = newest_there (object_join a b) (larger version_cmp n m) (newer ∙ ap₂ (later version_cmp) e f)
  some_by None (Some m) e f = newest_there (object_join a b) m (newer ∙ ap₂ (later version_cmp) e f)
  some_by None None e f =
      let v : Version = p.0 in
      let found = joined_some (state_at a v) (state_at b v) p.1 p.2 in
      (v, found.0, join-state a b (tied_keys a b same) v ∙ (ap₂ (λ (x y : Option Version). cond (is_older version_cmp v x || is_older version_cmp v y) None (option_join (larger state_cmp) (state_at a v) (state_at b v))) e f ∙ found.1))

  merged_says : SaysSome (rows.Object (object_join a b))
  merged_says = some_by (newest a) (newest b) refl refl

some_joined : (a b : AnyRow) → Same words a b → SaysSome a → SaysSome b → SaysSome (any_join a b)
some_joined (rows.Object a) (rows.Object b) same p q = merged_says a b same p
some_joined (rows.Object a) (rows.Version b) same p q = tt
some_joined (rows.Object a) (rows.Ref b) same p q = tt
some_joined (rows.Version a) (rows.Object b) same p q = tt
some_joined (rows.Version a) (rows.Version b) same p q = tt
some_joined (rows.Version a) (rows.Ref b) same p q = tt
some_joined (rows.Ref a) (rows.Object b) same p q = tt
some_joined (rows.Ref a) (rows.Version b) same p q = tt
some_joined (rows.Ref a) (rows.Ref b) same p q = tt

-- a row of another table says nothing
others_too : (row : AnyRow) → (words.table row ≡ 1 → ⊥) → SaysSome row
others_too (rows.Object r) other = absurd (other refl)
others_too (rows.Version r) other = tt
others_too (rows.Ref r) other = tt

pub some_inherited : IsInherited any_join words SaysSome
some_inherited = record { joined = some_joined; called_for = λ old new row p q c. others_too row (called_other old new row c) }
