-- Changes, one by one.
use Rattle.std.proofs.Common.{◌≡◌, ℕ, suc, ◌+◌, ◌<◌, nat_le, true, false, ◌&&◌, List, [], ◌∷◌, ◌++◌, Option, Some, None, is_some, option_and_then, Result, Ok, length, drop, get_or, refl, sym, ap, ◌∙◌, subst}
use Rattle.std.specs.List.{list_all}
use Rattle.std.proofs.lemmas.List.{map-append}
use Rattle.toml.specs.Data.{Members, as_table}
use Rattle.toml.specs.View.{view, items_view}
use Rattle.toml.specs.declared.value.Value.{Value}
use Rattle.layout_text.specs.declared.config.FieldName.{FieldName}
use Rattle.layout_text.specs.declared.config.ConfigFault.{ConfigFault}
use Rattle.layout_text.specs.declared.change.Change.{Change}
use Rattle.layout_text.specs.Values.{keep_if, tables_of}
use Rattle.layout_text.specs.Settings.{◌>>=◌, faulted, IsFaultOf}
use Rattle.layout_text.specs.Changes.{Coming, change_limit, few, change_in, changes_of, coming_of, comings_of}
use Rattle.layout_text.proofs.Tables.{is_table, tables_some, both}
use Rattle.layout_text.proofs.Roles.{next_node, fault_first, faulted_ok}

-- there are as many tables as values
as_many : (values : List Value) (tables : List Members) → tables_of (items_view values) ≡ Some tables → length tables ≡ length values
as_many [] tables h = let none : [] ≡ tables = cc in ap (λ (ts : List Members). length ts) (sym none)
as_many (value ∷ values) tables h =
    let found = both (as_table (view value)) (tables_of (items_view values)) tables h in
    ap (λ (ts : List Members). length ts) found.4 ∙ ap suc (as_many values found.1 found.3)

few_some : (values : List Value) (tables : Option (List Members)) → ((ts : List Members) → tables ≡ Some ts → length ts ≡ length values) → is_some (option_and_then few tables) ≡ (nat_le (length values) change_limit && is_some tables)
few_some values None same = elim (nat_le (length values) change_limit) as (λ b. false ≡ (b && false)) [ true ↦ refl | false ↦ refl ]
few_some values (Some ts) same = rw (same ts refl) (elim (nat_le (length values) change_limit) as (λ b. is_some (keep_if b ts) ≡ (b && true)) [ true ↦ refl | false ↦ refl ])

few_same : (values : List Value) (tables : Option (List Members)) → ((ts : List Members) → tables ≡ Some ts → length ts ≡ length values) → nat_le (length values) change_limit ≡ true → option_and_then few tables ≡ tables
few_same values None same low = refl
few_same values (Some ts) same low = rw (same ts refl, low) refl

-- tables that aren't too many are there where each value is one and the values aren't too many
pub few_tables : (values : List Value) → is_some (option_and_then few (tables_of (items_view values))) ≡ (nat_le (length values) change_limit && list_all is_table values)
few_tables values = few_some values (tables_of (items_view values)) (as_many values) ∙ ap (λ b. nat_le (length values) change_limit && b) (sym (tables_some values))

-- and they are all
pub few_are_all : (values : List Value) → nat_le (length values) change_limit ≡ true → option_and_then few (tables_of (items_view values)) ≡ tables_of (items_view values)
few_are_all values low = few_same values (tables_of (items_view values)) (as_many values) low

-- one change more
pub one_more : (changes : List Change) (change : Change) → comings_of (changes ++ change ∷ []) ≡ comings_of changes ++ coming_of change ∷ []
one_more changes change = rw map-append refl

module _ (values : List Value) (i : ℕ) (value : Value) (table : Members) (inside : i < length values) (is : value ≡ get_or values i value) (tab : as_table (view value) ≡ Some table) (greatest before : ℕ) (changes : List Coming) (tables rest : List Members) (left : tables_of (items_view (drop i values)) ≡ Some rest) (same : changes_of greatest 0 [] tables ≡ changes_of greatest before changes rest) where
  here : (later : List Members) → rest ≡ table ∷ later → changes_of greatest 0 [] tables ≡ change_in greatest before table >>= (λ c. changes_of greatest c.after (changes ++ c ∷ []) later)
  here later split = same ∙ ap (changes_of greatest before changes) split

  pub fault_here : (fault : ConfigFault) → IsFaultOf (faulted (change_in greatest before table)) fault → IsFaultOf (faulted (changes_of greatest 0 [] tables)) fault
  fault_here fault h =
      let next = next_node values i value table inside is tab rest left in
      subst (λ (r : Result (List Coming) FieldName). IsFaultOf (faulted r) fault) (sym (here next.0 next.1))
      (fault_first (change_in greatest before table) (λ c. changes_of greatest c.after (changes ++ c ∷ []) next.0) fault h)

  pub change_here : (c : Coming) → faulted (change_in greatest before table) ≡ Ok c →
      (later : List Members) × (tables_of (items_view (drop (i + 1) values)) ≡ Some later) × (changes_of greatest 0 [] tables ≡ changes_of greatest c.after (changes ++ c ∷ []) later)
  change_here c h =
      let next = next_node values i value table inside is tab rest left in
      (next.0, next.2, here next.0 next.1 ∙ ap (λ (r : Result Coming FieldName). r >>= (λ c. changes_of greatest c.after (changes ++ c ∷ []) next.0)) (faulted_ok (change_in greatest before table) c h))
