-- The old sets, run by run.
use Rattle.std.proofs.Common.{◌≡◌, ℕ, zero, suc, ◌+◌, ◌<◌, true, IsTrue, List, [], ◌∷◌, ◌++◌, Option, Some, None, Ok, Err, option_and_then, length, drop, get_or, replicate, refl, sym, ap, ◌∙◌}
use Rattle.std.specs.List.{list_all}
use Rattle.std.proofs.lemmas.Bool.{and_from}
use Rattle.std.proofs.lemmas.List.{drop_more}
use Rattle.std.proofs.lemmas.List.Folds.{list_all-append}
use Rattle.std.specs.Option.{ok_or}
use Rattle.toml.specs.Data.{Members, as_table}
use Rattle.toml.specs.Parse.{parse_document}
use Rattle.toml.specs.View.{view, items_view}
use Rattle.toml.specs.declared.value.Value.{Value}
use Rattle.layout_roles.specs.Fits.{NodeSet}
use Rattle.layout_roles.specs.Zones.{set_ascends}
use Rattle.layout_text.specs.declared.old.OldRun.{OldRun}
use Rattle.layout_text.specs.declared.config.FieldName.TheVariants as field
use Rattle.layout_text.specs.declared.config.ConfigFault.TheVariants.{NotToml}
use Rattle.layout_text.specs.Settings.{◌>>=◌, Settings, needed, faulted, settings_in, said}
use Rattle.layout_text.specs.Old.{nodes_of, run_from, sets_of, old_in, said_old}

-- only three nodes are a set
pub only_three : (values : List Value) → (length values ≡ 3 → ⊥) → None ≡ nodes_of (items_view values)
only_three [] other = refl
only_three (a ∷ []) other = refl
only_three (a ∷ b ∷ []) other = refl
only_three (a ∷ b ∷ c ∷ []) other = absurd (other refl)
only_three (a ∷ b ∷ c ∷ d ∷ rest) other = refl

all_same : (n : ℕ) (set : NodeSet) → IsTrue (set_ascends set) → list_all set_ascends (replicate n set) ≡ true
all_same zero set h = refl
all_same (suc n) set h = and_from (set_ascends set) (list_all set_ascends (replicate n set)) h (all_same n set h)

-- the sets of a run more still ascend
pub ascending_more : (sets : List NodeSet) (run : OldRun) → IsTrue (list_all set_ascends sets) → IsTrue (set_ascends run.set) → IsTrue (list_all set_ascends (sets ++ replicate run.count run.set))
ascending_more sets run before h =
    list_all-append set_ascends sets (replicate run.count run.set)
    ∙ and_from (list_all set_ascends sets) (list_all set_ascends (replicate run.count run.set)) before (all_same run.count run.set h)

-- the tables after the next one, with its run
pub rest_more : (values : List Value) (i : ℕ) (value : Value) (sets : List NodeSet) (run : OldRun) (whole : Option (List NodeSet)) → i < length values → value ≡ get_or values i value →
    option_and_then (run_from (length sets)) (as_table (view value)) ≡ Some run → sets_of sets (items_view (drop i values)) ≡ whole →
    sets_of (sets ++ replicate run.count run.set) (items_view (drop (i + 1) values)) ≡ whole
rest_more values i value sets run whole inside is found before =
    let here : drop i values ≡ value ∷ drop (i + 1) values = drop_more values i value inside ∙ ap (λ (v : Value). v ∷ drop (i + 1) values) (sym is) in
    let next : sets_of sets (items_view (value ∷ drop (i + 1) values)) ≡ sets_of (sets ++ replicate run.count run.set) (items_view (drop (i + 1) values)) =
    ap (λ (r : Option OldRun). option_and_then (λ run. sets_of (sets ++ replicate run.count run.set) (items_view (drop (i + 1) values))) r) found in
    sym next ∙ sym (ap (λ (vs : List Value). sets_of sets (items_view vs)) here) ∙ before

-- a text of settings is a document
pub is_document : (greatest : ℕ) (input : List ℕ) (settings : Settings) → said greatest input ≡ Ok settings → said_old input ≡ Err NotToml → ⊥
unfolding said said_old
is_document greatest input settings h k = by (parse_document input) h k
  where
    other : (found : Option (List NodeSet)) → faulted (needed field.Old found) ≡ Err NotToml → ⊥
    other None k = cc
    other (Some sets) k = cc

    by : (document : Option Members) → (ok_or document NotToml >>= (λ root. faulted (settings_in greatest root))) ≡ Ok settings → (ok_or document NotToml >>= (λ root. faulted (needed field.Old (old_in root)))) ≡ Err NotToml → ⊥
    by None h k = cc
    by (Some root) h k = other (old_in root) k
