-- Keys of rows with nothing but a delete marker, gathered from what is noted.
use Rattle.std.specs.Prelude.{◌≡◌, ℕ, ◌==◌, ◌&&◌, ◌||◌, ◌<◌, leb, Bool, true, false, cond, not, is_some, List, [], ◌∷◌, Option, Some, None, Vec, refl}
use Rattle.std.proofs.Common.{ap, sym, ◌∙◌, arith}
use Rattle.std.proofs.lemmas.Bool.{leb-true}
use Rattle.std.proofs.lemmas.Cmp.{ranked}
use Rattle.std.proofs.Math.Bool.{or-false}
use Rattle.std.specs.List.{list_any}
use Rattle.std.specs.Map.{lookup}
use Rattle.std.specs.BTreeMap.{is_at}
use Rattle.std.specs.BTreeMap.Range.{entries_between}
use Rattle.std.specs.BTreeSet.{BTreeSet}
use Rattle.std.specs.Ordering.{nat_cmp, is_eq, is_lt}
use Rattle.std.specs.Cmp.{Equal-is}
use Rattle.std.specs.Cmp.Lexicographic.{slice_cmp}
use Rattle.std.specs.declared.cmp.Ordering.{Ordering}
use Rattle.std.specs.declared.cmp.Ordering.TheVariants.{Less, Equal, Greater}
use Rattle.std.specs.declared.ops.Bound.TheVariants.{Included, Unbounded}
use Rattle.crdt_core.specs.IdentityLaws.{slice_identical, nat_identical}
use Rattle.table_schema.specs.Words.{Words}
use Rattle.table_store.specs.declared.shelf.Placed.{Placed}
use Rattle.table_store.specs.Index.{Key, has_key}
use Rattle.table_store.specs.Shelf.{placed_at, shelf_find}
use Rattle.table_store.specs.Markers.{Markers, AllMarked, has_key_in, is_by, is_marked, is_marked_at, only_at}

-- ---- one key

same_there : (test : List ℕ → Bool) (key other : List ℕ) (v : Bool) → test key ≡ v → (b : Bool) → is_eq (slice_cmp nat_cmp other key) ≡ b → (b && test other) ≡ (b && v)
same_there test key other v is true h = ap test (slice_identical nat_identical other key ((Equal-is _).0 h)) ∙ is
same_there test key other v is false h = refl

only_is : (test : List ℕ → Bool) (key other : List ℕ) (v : Bool) → test key ≡ v → only_at key test other ≡ (is_eq (slice_cmp nat_cmp other key) && v)
only_is test key other v is = same_there test key other v is (is_eq (slice_cmp nat_cmp other key)) refl

never : (b : Bool) → (b && false) ≡ false
never true = refl
never false = refl

always : (b : Bool) → (b && true) ≡ b
always true = refl
always false = refl

-- a key that doesn't pass
pub adds_none : (test : List ℕ → Bool) (key other : List ℕ) (had : Bool) → test key ≡ false → had ≡ (had || only_at key test other)
adds_none test key other had is =
    sym (ap (λ b. had || b) (only_is test key other false is ∙ never (is_eq (slice_cmp nat_cmp other key))) ∙ or-false had)

-- a key that does
pub adds_it : (test : List ℕ → Bool) (key other : List ℕ) (had : Bool) → test key ≡ true → (had || is_eq (slice_cmp nat_cmp other key)) ≡ (had || only_at key test other)
adds_it test key other had is =
    sym (ap (λ b. had || b) (only_is test key other true is ∙ always (is_eq (slice_cmp nat_cmp other key))))

-- ---- a walk

-- one step of it: `here` is looked at, `rest` is to come
pub walk_on : (had here rest test : Bool) → ((had || (here && test)) || (rest && test)) ≡ (had || ((here || rest) && test))
walk_on true here rest test = refl
walk_on false true true true = refl
walk_on false true true false = refl
walk_on false true false true = refl
walk_on false true false false = refl
walk_on false false rest test = refl

-- nothing is to come
pub walked_all : (had test : Bool) → (had || (false && test)) ≡ had
walked_all had test = or-false had

-- ---- what is noted within a limit

abbrev pub noted_in : List ℕ → List (ℕ × BTreeSet Key) → Bool
noted_in key es = list_any (λ e. has_key key e.1.keys) es

within_by : (limit ts : ℕ) → leb ts limit ≡ true → (o : Ordering) → o ≡ nat_cmp limit ts → not (is_lt o) ≡ true
within_by limit ts low Less is =
    let above : limit < ts = ranked limit ts Less is in
    let within = leb-true ts limit low in
    absurd (omega (arith, above, within))
within_by limit ts low Equal is = refl
within_by limit ts low Greater is = refl

or_true : (b : Bool) → (b || true) ≡ true
or_true true = refl
or_true false = refl

later : (limit : ℕ) (key : List ℕ) (e : ℕ × BTreeSet Key) (es : List (ℕ × BTreeSet Key)) (b : Bool) → noted_in key (entries_between nat_cmp Unbounded (Included limit) es) ≡ true →
    noted_in key (cond b (e ∷ entries_between nat_cmp Unbounded (Included limit) es) (entries_between nat_cmp Unbounded (Included limit) es)) ≡ true
later limit key e es true h = ap (λ b. has_key key e.1.keys || b) h ∙ or_true (has_key key e.1.keys)
later limit key e es false h = h

here_by : (limit ts : ℕ) (key : List ℕ) → leb ts limit ≡ true → (e : ℕ × BTreeSet Key) (es : List (ℕ × BTreeSet Key)) → (has_key_in key (lookup (is_at (nat_cmp ts)) es) ≡ true → noted_in key (entries_between nat_cmp Unbounded (Included limit) es) ≡ true) →
    (b : Bool) → is_eq (nat_cmp ts e.0) ≡ b → has_key_in key (cond b (Some e.1) (lookup (is_at (nat_cmp ts)) es)) ≡ true → noted_in key (entries_between nat_cmp Unbounded (Included limit) (e ∷ es)) ≡ true
here_by limit ts key low e es rest true h has =
    let one : ts ≡ e.0 = nat_identical ts e.0 ((Equal-is _).0 h) in
    let within = within_by limit e.0 (ap (λ t. leb t limit) (sym one) ∙ low) (nat_cmp limit e.0) refl in
    ap (λ b. noted_in key (cond b (e ∷ entries_between nat_cmp Unbounded (Included limit) es) (entries_between nat_cmp Unbounded (Included limit) es))) within
    ∙ ap (λ b. b || noted_in key (entries_between nat_cmp Unbounded (Included limit) es)) has
here_by limit ts key low e es rest false h has = later limit key e es (not (is_lt (nat_cmp limit e.0))) (rest has)

pub noted_within : (limit ts : ℕ) (key : List ℕ) → leb ts limit ≡ true → (es : List (ℕ × BTreeSet Key)) → has_key_in key (lookup (is_at (nat_cmp ts)) es) ≡ true →
    noted_in key (entries_between nat_cmp Unbounded (Included limit) es) ≡ true
noted_within limit ts key low [] has = has
noted_within limit ts key low (e ∷ es) has = here_by limit ts key low e es (noted_within limit ts key low es) (is_eq (nat_cmp ts e.0)) refl has

-- ---- rows

some_is : {X : Type 0} (a b : X) → Some a ≡ Some b → a ≡ b
some_is a b h = cc

module _ {R Z : Type 0} (s : Words R) where
  -- the row at a key, placed
  abbrev Place : List ℕ → List (Vec ℕ Z × Placed R) → R → Type 0
  Place key rows row = (placed : Placed R) × (placed_at key rows ≡ Some placed) × (placed.row ≡ row)

  at_place : (key : List ℕ) (e : Vec ℕ Z × Placed R) (es : List (Vec ℕ Z × Placed R)) (row : R) → (shelf_find key es ≡ Some row → Place key es row) → (b : Bool) → cond b (Some e.1.row) (shelf_find key es) ≡ Some row →
      (placed : Placed R) × (cond b (Some e.1) (placed_at key es) ≡ Some placed) × (placed.row ≡ row)
  at_place key e es row rest true is = (e.1, refl, some_is e.1.row row is)
  at_place key e es row rest false is = rest is

  place_by : (key : List ℕ) (rows : List (Vec ℕ Z × Placed R)) (row : R) → shelf_find key rows ≡ Some row → Place key rows row
  place_by key [] row is = absurd (let no : false ≡ true = ap is_some is in cc)
  place_by key (e ∷ es) row is = at_place key e es row (place_by key es row) (is_eq (slice_cmp nat_cmp key e.0.items)) is

  module _ (limit : ℕ) (markers : Markers) (rows : List (Vec ℕ Z × Placed R)) (all : AllMarked s markers rows) where
    noted_by : (key : List ℕ) (row : R) → shelf_find key rows ≡ Some row → (o : Option (ℕ × ℕ)) → s.marker row ≡ o → is_by limit o ≡ true →
        noted_in key (entries_between nat_cmp Unbounded (Included limit) markers.entries) ≡ true
    noted_by key row found None marker low = absurd (let no : false ≡ true = low in cc)
    noted_by key row found (Some version) marker low =
        let placed = place_by key rows row found in
        noted_within limit version.0 key low markers.entries (all key placed.0 version placed.1 (ap s.marker placed.2 ∙ marker))

    marked_by : (key : List ℕ) (o : Option R) → shelf_find key rows ≡ o → is_marked s limit o ≡ true → noted_in key (entries_between nat_cmp Unbounded (Included limit) markers.entries) ≡ true
    marked_by key None found marked = absurd (let no : false ≡ true = marked in cc)
    marked_by key (Some row) found marked = noted_by key row found (s.marker row) refl marked

    both_by : (key : List ℕ) (b : Bool) → is_marked_at s limit rows key ≡ b → (noted_in key (entries_between nat_cmp Unbounded (Included limit) markers.entries) && b) ≡ b
    both_by key true h = ap (λ n. n && true) (marked_by key (shelf_find key rows) refl h)
    both_by key false h = never (noted_in key (entries_between nat_cmp Unbounded (Included limit) markers.entries))

    -- among what is noted within the limit are the keys of all rows with such a marker
    pub all_noted : (key : List ℕ) → (noted_in key (entries_between nat_cmp Unbounded (Included limit) markers.entries) && is_marked_at s limit rows key) ≡ is_marked_at s limit rows key
    all_noted key = both_by key (is_marked_at s limit rows key) refl
