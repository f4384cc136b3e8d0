-- What the first entry of a row says of the newest complete version.
use Rattle.std.proofs.Common.{◌≡◌, ◌≤◌, ◌-◌, length, take, drop, not, arith, true, false, cond, List, [], ◌∷◌, Option, Some, None, unwrap_or, slice_get, refl, ap, sym, ◌∙◌}
use Rattle.std.specs.List.{list_any}
use Rattle.std.proofs.lemmas.List.{take_all}
use Rattle.std.specs.Cmp.{tied_itself}
use Rattle.crdt_core.specs.declared.max.Max.{Max}
use Rattle.crdt_core.specs.Entries.{is_ascending, value_at}
use Rattle.crdt_rows.specs.declared.version.Version.{Version}
use Rattle.crdt_rows.specs.Version.{version_cmp}
use Rattle.crdt_rows.specs.FieldLaws.{version_total}
use Rattle.crdt_rows.specs.Versions.{newest_version, is_settled_row}
use Rattle.crdt_rows.specs.State.{is_complete}
use Rattle.crdt_rows.proofs.NewestKeys.{newest_first, settled_any}
use Rattle.crdt_rows.specs.declared.body.Body.{Body}
use Rattle.crdt_rows.specs.declared.state.State.{State}
use Rattle.crdt_rows.specs.declared.state.State.TheVariants.{Uploading, Aborted, Complete}

-- the version of an entry that is complete
abbrev pub own_version : Version × Max State → Option Version
own_version e = cond (is_complete e.1.0) (Some e.0) None

incomplete : (s : State) → ((b : Body) → s ≡ Complete b → ⊥) → is_complete s ≡ false
incomplete Uploading h = refl
incomplete Aborted h = refl
incomplete (Complete b) h = absurd (h b refl)

pub own_incomplete : (v : Version) (s : Max State) → ((b : Body) → s.0 ≡ Complete b → ⊥) → own_version (v, s) ≡ None
own_incomplete v s h = rw (incomplete s.0 h) refl

pub newest_by_first : (es : List (Version × Max State)) (x : Version × Max State) → is_ascending version_cmp es ≡ true → is_settled_row es ≡ true → Some x ≡ slice_get es 0 → newest_version es ≡ own_version x
newest_by_first [] x s t g = let no : Some x ≡ None = g in cc
newest_by_first (e ∷ es) x s t g = newest_first version_total (λ v. is_complete v.0) e es s t ∙ ap own_version (ap (λ f. unwrap_or f e) (sym g))

pub newest_without : (es : List (Version × Max State)) → None ≡ slice_get es 0 → newest_version es ≡ None
newest_without [] g = refl
newest_without (e ∷ es) g = let no : None ≡ Some e = g in cc

pub state_of_first : (es : List (Version × Max State)) (x : Version × Max State) → Some x ≡ slice_get es 0 → value_at version_cmp x.0 es ≡ Some x.1
state_of_first [] x g = let no : Some x ≡ None = g in cc
state_of_first (e ∷ es) x g =
    let mine : x ≡ e = ap (λ f. unwrap_or f e) g in
    rw (mine, tied_itself version_total e.0) refl

-- entries are settled where none after the first is complete
pub settled_rest : (es : List (Version × Max State)) → is_ascending version_cmp es ≡ true → 1 ≤ length es → is_settled_row es ≡ not (list_any (λ e. is_complete e.1.0) (take (length es - 1) (drop 1 es)))
settled_rest [] s h = absurd (omega (arith, h))
settled_rest (e ∷ es) s h =
    let rest : take (length (e ∷ es) - 1) es ≡ es = take_all (length (e ∷ es) - 1) es (omega arith) in
    settled_any version_total (λ v. is_complete v.0) e es s ∙ ap (λ fs. not (list_any (λ f. is_complete f.1.0) fs)) (sym rest)
