-- Whether some node's entry is at least a version, as a search of the entries.
use Rattle.std.specs.Prelude.{◌≡◌, ◌≤◌, ◌<◌, ◌↔◌, ◌||◌, ℕ, leb, Bool, true, false, List, [], ◌∷◌, Option, Some, None, option_map, refl}
use Rattle.std.specs.List.{list_any}
use Rattle.std.specs.Ordering.{nat_cmp}
use Rattle.std.specs.declared.cmp.Ordering.{Ordering}
use Rattle.std.specs.declared.cmp.Ordering.TheVariants.{Less, Equal, Greater}
use Rattle.std.specs.Cmp.{nat_cmp_total, nat_cmp_is, tied_itself}
use Rattle.std.proofs.lemmas.Cmp.{ranked}
use Rattle.std.proofs.Common.{ap, sym, subst, ◌∙◌, arith}
use Rattle.std.proofs.lemmas.Bool.{leb-true, le-leb}
use Rattle.std.specs.Option.{unwrap_or}
use Rattle.crdt_core.specs.Lex.{by_order}
use Rattle.crdt_core.specs.Map.{map_get}
use Rattle.crdt_core.specs.declared.max.Max.{Max}
use Rattle.crdt_core.specs.EntryLaws.{less_is, and_parts}
use Rattle.crdt_core.specs.Entries.{is_ascending, is_below, value_at}
use Rattle.layout_trackers.specs.declared.trackers.Trackers.{Trackers}
use Rattle.layout_trackers.specs.declared.which.Which.{Which}
use Rattle.layout_trackers.specs.Trackers.{tracker, is_reached}
use Rattle.layout_trackers.specs.Entries.{Reached}

-- nodes with their versions
abbrev pub Entries : Type 0
Entries = List (ℕ × Max ℕ)

-- a key that entries have is above one that is below the first
above_by : (k low first : ℕ) (v : Max ℕ) (r : Ordering) (rest : Option (Max ℕ)) (found : Max ℕ) → nat_cmp k first ≡ r → low < first → by_order r None (Some v) rest ≡ Some found → low < k
above_by k low first v Less rest found o l e = cc
above_by k low first v Equal rest found o l e = let h : k ≡ first = ranked k first Equal (sym o) in omega arith
above_by k low first v Greater rest found o l e = let h : first < k = ranked k first Greater (sym o) in omega arith

above_first : (k low : ℕ) (es : Entries) (r : Max ℕ) → is_below nat_cmp low es ≡ true → value_at nat_cmp k es ≡ Some r → low < k
above_first k low [] r below e = cc
above_first k low (f ∷ es) r below e =
    above_by k low f.0 f.1 (nat_cmp k f.0) (value_at nat_cmp k es) r refl (ranked low f.0 Less (sym (less_is (nat_cmp low f.0) below))) e

-- some node has an entry of at least this version among entries
abbrev pub SomeEntry : ℕ → Entries → Type 0
SomeEntry v es = (node : ℕ) × (r : Max ℕ) × (value_at nat_cmp node es ≡ Some r) × (v ≤ r.0)

after : (v : ℕ) (e : ℕ × Max ℕ) (es : Entries) → is_below nat_cmp e.0 es ≡ true → SomeEntry v es → SomeEntry v (e ∷ es)
after v e es below (node, r, at, h) =
    let above : e.0 < node = above_first node e.0 es r below at in
    let o : nat_cmp node e.0 ≡ Greater = sym (nat_cmp_is node e.0 Greater above) in
    (node, r, (rw o at), h)

here : (v : ℕ) (e : ℕ × Max ℕ) (es : Entries) → v ≤ e.1.0 → SomeEntry v (e ∷ es)
here v e es h = (e.0, e.1, (rw (tied_itself nat_cmp_total e.0) refl), h)

found_by : (v : ℕ) (e : ℕ × Max ℕ) (es : Entries) (b : Bool) → leb v e.1.0 ≡ b → is_below nat_cmp e.0 es ≡ true → (list_any (λ e. leb v e.1.0) es ≡ true → SomeEntry v es) → (b || list_any (λ e. leb v e.1.0) es) ≡ true → SomeEntry v (e ∷ es)
found_by v e es true t below rest h = here v e es (leb-true v e.1.0 t)
found_by v e es false t below rest h = after v e es below (rest h)

found : (v : ℕ) (es : Entries) → is_ascending nat_cmp es ≡ true → list_any (λ e. leb v e.1.0) es ≡ true → SomeEntry v es
found v [] order h = cc
found v (e ∷ es) order h =
    let parts = and_parts (is_below nat_cmp e.0 es) (is_ascending nat_cmp es) order in
    found_by v e es (leb v e.1.0) refl parts.0 (found v es parts.1) h

or_right : (a b : Bool) → b ≡ true → (a || b) ≡ true
or_right true b e = refl
or_right false b e = e

told_here : (v : ℕ) (first r : Max ℕ) (rest : Bool) → Some first ≡ Some r → v ≤ r.0 → (leb v first.0 || rest) ≡ true
told_here v first r rest e h =
    let same : first ≡ r = ap (λ o. unwrap_or o r) e in
    let t : leb v first.0 ≡ true = ap (λ (m : Max ℕ). leb v m.0) same ∙ le-leb v r.0 h in
    rw t refl

told_by : (v : ℕ) (first r : Max ℕ) (o : Ordering) (there : Option (Max ℕ)) (rest : Bool) → by_order o None (Some first) there ≡ Some r → v ≤ r.0 → (there ≡ Some r → rest ≡ true) → (leb v first.0 || rest) ≡ true
told_by v first r Less there rest e h more = cc
told_by v first r Equal there rest e h more = told_here v first r rest e h
told_by v first r Greater there rest e h more = or_right (leb v first.0) rest (more e)

told : (v node : ℕ) (es : Entries) (r : Max ℕ) → value_at nat_cmp node es ≡ Some r → v ≤ r.0 → list_any (λ e. leb v e.1.0) es ≡ true
told v node [] r e h = cc
told v node (f ∷ es) r e h =
    told_by v f.1 r (nat_cmp node f.0) (value_at nat_cmp node es) (list_any (λ e. leb v e.1.0) es) e h (λ there. told v node es r there h)

-- the version of an entry
versions_of : (o : Option (Max ℕ)) (x : ℕ) → option_map (λ v. v.0) o ≡ Some x → (r : Max ℕ) × (o ≡ Some r) × (r.0 ≡ x)
versions_of None x e = cc
versions_of (Some r) x e = (r, refl, ap (λ o. unwrap_or o x) e)

-- the search finds one exactly where a node has one
pub reached_by : (which : Which) (v : ℕ) (t : Trackers) → is_reached which v t ≡ true ↔ Reached which v t
reached_by which v t = (
  (λ h. let (node, r, at, le) = found v (tracker which t).entries (tracker which t).ascending h in
      (node, r.0, ap (option_map (λ v. v.0)) at, le)),
  (λ (node, x, at, le). let (r, there, is) = versions_of (map_get (tracker which t) node) x at in
      told v node (tracker which t).entries r there (subst (λ n. v ≤ n) (sym is) le)),
)
