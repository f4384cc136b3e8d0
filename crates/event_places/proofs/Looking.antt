-- The event at a line and of a name, by the place of the line.
use Rattle.std.proofs.Common.{◌≡◌, ◌<◌, ◌≤◌, ℕ, zero, suc, Bool, true, false, ◌&&◌, ◌==◌, cond, List, [], ◌∷◌, length, get_or, Option, Some, None, refl, sym, ap, subst, ◌∙◌, arith, ne_eqb, eq-eqb}
use Rattle.std.specs.Prelude.{slice_get, if◌then◌else◌, IfSome}
use Rattle.std.specs.Option.{is_some}
use Rattle.std.proofs.lemmas.Option.{same_Some}
use Rattle.history_model.specs.Record.{same_bytes}
use Rattle.store_model.specs.declared.event.Event.{Event}
use Rattle.store_model.specs.declared.event.Numbered.{Numbered}
use Rattle.text_model.specs.Grammar.{name_of}
use Rattle.audit_model.specs.Heard.{event_at, AscendFrom}
use Rattle.event_places.proofs.Searching.{NoneIn}

skipped : (a b : Bool) (x y : Option Event) → a ≡ false → (if a && b then x else y) ≡ y
skipped a b x y e = rw e refl

taken : (a b : Bool) (x y : Option Event) → a ≡ true → y ≡ None → (if a && b then x else y) ≡ cond b x None
taken a b x y e none = rw (e, none) refl

-- no event is found where none stands in the line
pub not_there : (es : List Numbered) (line : ℕ) (name : List ℕ) → NoneIn line es → event_at es line name ≡ None
not_there [] line name none = refl
not_there (e ∷ es) line name none = skipped (e.line == line) (same_bytes (name_of e.event) name) (Some e.event) (event_at es line name) none.0 ∙ not_there es line name none.1

past : (low line : ℕ) (es : List Numbered) → line ≤ low → AscendFrom low es → NoneIn line es
past low line [] le up = tt
past low line (e ∷ es) le up = (ne_eqb e.line line (λ same. omega (arith, up.0)), past e.line line es (omega (arith, up.0)) up.1)

above : (low line : ℕ) (es : List Numbered) (i : ℕ) (e : Numbered) → AscendFrom low es → slice_get es i ≡ Some e → e.line ≡ line → low < line
above low line [] i e up at is = absurd (let no : false ≡ true = ap is_some at in cc)
above low line (x ∷ xs) zero e up at is =
    let here : x.line ≡ line = ap (λ (n : Numbered). n.line) (same_Some x e at) ∙ is in omega (arith, up.0, here)
above low line (x ∷ xs) (suc i) e up at is =
    let later = above x.line line xs i e up.1 at is in omega (arith, up.0, later)

-- the event at the place of its line is found where it has the name, and no other is
pub at_place : (low line : ℕ) (name : List ℕ) (es : List Numbered) (i : ℕ) (e : Numbered) → AscendFrom low es → slice_get es i ≡ Some e → e.line ≡ line → event_at es line name ≡ cond (same_bytes (name_of e.event) name) (Some e.event) None
at_place low line name [] i e up at is = absurd (let no : false ≡ true = ap is_some at in cc)
at_place low line name (x ∷ xs) zero e up at is =
    let same : x ≡ e = same_Some x e at in
    let here : x.line ≡ line = ap (λ (n : Numbered). n.line) same ∙ is in
    taken (x.line == line) (same_bytes (name_of x.event) name) (Some x.event) (event_at xs line name) (eq-eqb x.line line here) (not_there xs line name (past x.line line xs (omega (arith, here)) up.1))
    ∙ ap (λ (n : Numbered). cond (same_bytes (name_of n.event) name) (Some n.event) None) same
at_place low line name (x ∷ xs) (suc i) e up at is =
    let later = above x.line line xs i e up.1 at is in
    skipped (x.line == line) (same_bytes (name_of x.event) name) (Some x.event) (event_at xs line name) (ne_eqb x.line line (λ same. omega (arith, later))) ∙ at_place x.line line name xs i e up.1 at is

got : (es : List Numbered) (i : ℕ) (e : Numbered) → i < length es → e ≡ get_or es i e → slice_get es i ≡ Some e
got [] i e inside is = absurd (omega arith)
got (x ∷ xs) zero e inside is = ap (λ (n : Numbered). Some n) (sym is)
got (x ∷ xs) (suc i) e inside is = got xs i e (omega arith) is

-- the same of the event that is read at the place
pub read_place : (line : ℕ) (name : List ℕ) (es : List Numbered) (i : ℕ) (e : Numbered) → AscendFrom 0 es → i < length es → e ≡ get_or es i e → IfSome (slice_get es i) (λ (x : Numbered). x.line ≡ line) →
    cond (same_bytes (name_of e.event) name) (Some e.event) None ≡ event_at es line name
read_place line name es i e up inside is found =
    let there = got es i e inside is in
    sym (at_place 0 line name es i e up there (subst (λ (o : Option Numbered). IfSome o (λ (x : Numbered). x.line ≡ line)) there found))
