-- What a change of an object's row gives up, no less and no more: the versions that it lost, and those that are aborted since.
use Rattle.std.proofs.Common.{◌≡◌, Bool, true, false, cond, not, Option, Some, None, option_map, List, [], ◌∷◌, ◌++◌, map, filter, refl, sym, ap, ◌∙◌, subst}
use Rattle.std.specs.Prelude.{◌&&◌, is_none}
use Rattle.std.specs.List.{AllByRecursion}
use Rattle.crdt_core.specs.declared.max.Max.{Max}
use Rattle.crdt_core.specs.Entries.{value_at}
use Rattle.crdt_core.specs.EntryLaws.{and_parts}
use Rattle.crdt_core.specs.Map.{map_entries}
use Rattle.crdt_core.proofs.Each.{all_append, all_weaker}
use Rattle.crdt_rows.specs.declared.version.Version.{Version}
use Rattle.crdt_rows.specs.declared.state.State.{State}
use Rattle.crdt_rows.specs.declared.state.State.TheVariants.{Uploading, Aborted, Complete}
use Rattle.crdt_rows.specs.declared.object_row.ObjectRow.{ObjectRow}
use Rattle.crdt_rows.specs.declared.any_row.AnyRow.{AnyRow}
use Rattle.crdt_rows.specs.declared.any_row.AnyRow.TheVariants as rows
use Rattle.crdt_rows.specs.Facts.{HasState}
use Rattle.crdt_rows.specs.FieldLaws.{version_total, version_identical}
use Rattle.crdt_rows.specs.ObjectRow.{state_at}
use Rattle.crdt_rows.specs.Version.{version_cmp}
use Rattle.object_schema.specs.Schema.{words}
use Rattle.object_schema.specs.Triggers.{has_blocks, is_aborted, is_lost, is_newly_aborted, versions_that, given_up, deleted_version}
use Rattle.object_origins.proofs.Given.{all_in_order, entries_found}
use Rattle.drained_laws.specs.Waiting.{Has}
use Rattle.drained_laws.proofs.Drained.{filter_has}
use Rattle.drained_laws.proofs.Waits.{some_right, all_mapped}
use Rattle.plain_laws.proofs.InOrder.{mapped, each_in_order}
use Rattle.plain_laws.proofs.Past.{entry_there}

abbrev Entry : Type 0
Entry = Version × Max State

-- the row's entries are what it says
entries_say : (r : ObjectRow) → AllByRecursion (λ (e : Entry). HasState r e.0 e.1.0) (map_entries r.versions)
entries_say r =
    all_weaker (λ (e : Entry). value_at version_cmp e.0 (map_entries r.versions) ≡ Some e.1) (λ (e : Entry). HasState r e.0 e.1.0) (λ e at. ap (option_map (λ (s : Max State). s.0)) at) (map_entries r.versions)
    (entries_found version_total (map_entries r.versions) r.versions.ascending)

-- the versions of entries that pass
passing : (test : Entry → Bool) (P : Entry → Type 0) (Q : Version → Type 0) (es : List Entry) → ((e : Entry) → P e → test e ≡ true → Q e.0) → AllByRecursion P es → AllByRecursion Q (versions_that test es)
passing test P Q [] f all = tt
passing test P Q (e ∷ es) f all =
    elim (test e) as (λ b. test e ≡ b → AllByRecursion Q (map (λ (x : Entry). x.0) (cond b (e ∷ filter test es) (filter test es)))) [
      | true ↦ λ is. (f e all.0 is, passing test P Q es f all.1)
      | false ↦ λ is. passing test P Q es f all.1
    ] refl

none_is : (o : Option State) → is_none o ≡ true → o ≡ None
none_is None h = refl
none_is (Some x) h = absurd (cc)

aborted_is : (x : State) → is_aborted (Some x) ≡ true → x ≡ Aborted
aborted_is Uploading h = absurd (cc)
aborted_is Aborted h = refl
aborted_is (Complete b) h = absurd (cc)

not_true : (b : Bool) → not b ≡ true → b ≡ false
not_true true h = absurd (cc)
not_true false h = refl

module _ (old new : ObjectRow) where
  -- a version is given up that was there and may have blocks, and that isn't there any more; or that is aborted and wasn't
  pub all_lost : (Q : Version → Type 0) → ((v : Version) (s : State) → HasState old v s → has_blocks s ≡ true → state_at new v ≡ None → Q v) → ((v : Version) → HasState new v Aborted → is_aborted (state_at old v) ≡ false → Q v) → AllByRecursion Q (given_up old new)
  all_lost Q is_out begins =
      let lost = versions_that (is_lost new) (map_entries old.versions) in
      let newly = versions_that (is_newly_aborted old) (map_entries new.versions) in
      all_in_order version_cmp Q (lost ++ newly)
      (all_append Q lost newly
      (passing (is_lost new) (λ (e : Entry). HasState old e.0 e.1.0) Q (map_entries old.versions)
      (λ e is h. (let parts = and_parts (has_blocks e.1.0) (is_none (state_at new e.0)) h in is_out e.0 e.1.0 is parts.0 (none_is (state_at new e.0) parts.1)))
      (entries_say old))
      (passing (is_newly_aborted old) (λ (e : Entry). HasState new e.0 e.1.0) Q (map_entries new.versions)
      (λ e is h.
      (let parts = and_parts (is_aborted (Some e.1.0)) (not (is_aborted (state_at old e.0))) h in begins e.0 (subst (HasState new e.0) (aborted_is e.1.0 parts.0) is) (not_true (is_aborted (state_at old e.0)) parts.1)))
      (entries_say new)))

  -- so the rows that the change calls for
  pub all_called : (P : AnyRow → Type 0) → ((v : Version) (s : State) → HasState old v s → has_blocks s ≡ true → state_at new v ≡ None → P (deleted_version v)) → ((v : Version) → HasState new v Aborted → is_aborted (state_at old v) ≡ false → P (deleted_version v)) →
      AllByRecursion P (words.triggered (rows.Object old) (rows.Object new))
  all_called P is_out begins = all_mapped deleted_version (λ (v : Version). P (deleted_version v)) P (λ v h. h) (given_up old new) (all_lost (λ (v : Version). P (deleted_version v)) is_out begins)

  -- one that is aborted and wasn't is given up
  pub aborted_called : (v : Version) → HasState new v Aborted → is_aborted (state_at old v) ≡ false → Has (words.triggered (rows.Object old) (rows.Object new)) (deleted_version v)
  aborted_called v is other =
      let lost = versions_that (is_lost new) (map_entries old.versions) in
      let es : List Entry = map_entries new.versions in
      let e : Entry = (v, record { 0 = Aborted }) in
      let there : Has (versions_that (is_newly_aborted old) es) v = mapped (λ (x : Entry). x.0) (filter (is_newly_aborted old) es) e (filter_has (is_newly_aborted old) es e (ap not other) (entry_there new v Aborted is)) in
      mapped deleted_version (given_up old new) v (each_in_order version_cmp version_identical (lost ++ versions_that (is_newly_aborted old) es) v (some_right (λ u. u ≡ v) lost (versions_that (is_newly_aborted old) es) there))

-- where nothing may be called for nothing is
no_row : (rs : List AnyRow) → AllByRecursion (λ (r : AnyRow). ⊥) rs → rs ≡ []
no_row [] all = refl
no_row (r ∷ rs) all = absurd all.0

pub none_called : (old new : ObjectRow) → ((v : Version) (s : State) → HasState old v s → state_at new v ≡ None → ⊥) → ((v : Version) → HasState new v Aborted → is_aborted (state_at old v) ≡ false → ⊥) → words.triggered (rows.Object old) (rows.Object new) ≡ []
none_called old new is_out begins = no_row (words.triggered (rows.Object old) (rows.Object new)) (all_called old new (λ (r : AnyRow). ⊥) (λ v s was blocks out. is_out v s was out) begins)

-- a row that stays as it is calls for nothing
pub same_none : (a : ObjectRow) → words.triggered (rows.Object a) (rows.Object a) ≡ []
same_none a =
    none_called a a (λ v s was out. (let wrong : None ≡ Some s = sym out ∙ was in cc))
    (λ v is other. (let wrong : true ≡ false = sym (ap (λ (o : Option State). is_aborted o) is) ∙ other in cc))
