-- One element more of what loops have added up.
use Rattle.std.proofs.Common.{◌≡◌, ℕ, ◌+◌, ◌<◌, ◌≤◌, max, Bool, true, false, cond, ◌&&◌, ◌==◌, nat_lt, List, [], ◌∷◌, ◌++◌, map, length, get_or, take, refl, sym, ap, ◌∙◌, subst, arith, ltb-false}
use Rattle.std.specs.Prelude.{ℤ}
use Rattle.std.specs.List.{sum_by, filter, flat_map, All, range_with_len, enumerate_from}
use Rattle.std.proofs.lemmas.Bool.{cond-true, cond-false, and_from, eq-eqb}
use Rattle.std.proofs.lemmas.List.Folds.{list_any_at}
use Rattle.std.proofs.lemmas.List.{take_more, map-append, take_all}
use Rattle.std.proofs.lemmas.List.Elements.{filter-append, All-nil, All-cons, All-append, All-head, All-tail}
use Rattle.std.proofs.lemmas.Grind.{flat_map-append}
use Rattle.std.proofs.lemmas.List.Sums.{sum_by-cons, sum_by-append}
use Rattle.std.proofs.lemmas.List.FromFn.{map-range_with_len_more, get_or-enumerate_from, length-enumerate_from}
use Rattle.std.proofs.lemmas.List.Recursion.{max_push}
use Rattle.layout_roles.specs.declared.role.Role.{Role}
use Rattle.layout_roles.specs.Zones.{zones, storage_nodes, is_storage}
use Rattle.layout_roles.specs.declared.vertex.Vertex.{Vertex}
use Rattle.layout_roles.specs.declared.vertex.Vertex.TheVariants.{Zone}
use Rattle.layout_roles.specs.Fits.{NodeSet, load, room}
use Rattle.layout_moves.specs.Auction.{is_over}
use Rattle.layout_moves.specs.Prices.{dearest}
use Rattle.layout_moves.specs.Moves.{Potentials}
use Rattle.layout_moves.specs.Listing.{with_potential}

-- ---- the dearest

pub dearest_more_yes : (asks : ℕ → ℕ) (test : ℕ → Bool) (nodes : List ℕ) (i d : ℕ) → i < length nodes → test (get_or nodes i d) ≡ true →
    dearest asks (filter test (take (i + 1) nodes)) ≡ max (dearest asks (filter test (take i nodes))) (asks (get_or nodes i d))
dearest_more_yes asks test nodes i d h t =
    let x = get_or nodes i d in
    ap (λ (xs : List ℕ). dearest asks (filter test xs)) (take_more nodes i d h)
    ∙ ap (dearest asks) (filter-append test (take i nodes) (x ∷ []) ∙ ap (λ (ys : List ℕ). filter test (take i nodes) ++ ys) (cond-true (test x) (x ∷ []) [] t))
    ∙ max_push (dearest asks) asks refl (λ _ _. refl) (filter test (take i nodes)) x

pub dearest_more_no : (asks : ℕ → ℕ) (test : ℕ → Bool) (nodes : List ℕ) (i d : ℕ) → i < length nodes → test (get_or nodes i d) ≡ false →
    dearest asks (filter test (take (i + 1) nodes)) ≡ dearest asks (filter test (take i nodes))
dearest_more_no asks test nodes i d h t =
    let x = get_or nodes i d in
    ap (λ (xs : List ℕ). dearest asks (filter test xs)) (take_more nodes i d h)
    ∙ ap (dearest asks) (filter-append test (take i nodes) (x ∷ []) ∙ ap (λ (ys : List ℕ). filter test (take i nodes) ++ ys) (cond-false (test x) (x ∷ []) [] t) ∙ append_nil (filter test (take i nodes)))
  where
    append_nil : (xs : List ℕ) → xs ++ [] ≡ xs
    append_nil [] = refl
    append_nil (x ∷ xs) = ap (λ ys. x ∷ ys) (append_nil xs)

-- ---- ranges

pub range_push : (a n : ℕ) → range_with_len a (n + 1) ≡ range_with_len a n ++ (a + n) ∷ []
range_push a n = sym (same (range_with_len a (n + 1))) ∙ map-range_with_len_more (λ m. m) a n (a + n) refl ∙ ap (λ (xs : List ℕ). xs ++ (a + n) ∷ []) (same (range_with_len a n))
  where
    same : (xs : List ℕ) → map (λ m. m) xs ≡ xs
    same [] = refl
    same (x ∷ xs) = ap (λ ys. x ∷ ys) (same xs)

pub sum_push : (f : ℕ → ℕ) (n : ℕ) → sum_by f (range_with_len 0 (n + 1)) ≡ sum_by f (range_with_len 0 n) + f n
sum_push f n =
    let e : 0 + n ≡ n = omega arith in
    let r = ap (λ (xs : List ℕ). sum_by f xs) (range_push 0 n ∙ ap (λ m. range_with_len 0 n ++ m ∷ []) e) in
    let a = sum_by-append f (range_with_len 0 n) (n ∷ []) in
    let b = sum_by-cons f n [] in
    omega arith

pub parts_push : {X : Type 0} (f : ℕ → List X) (n : ℕ) → flat_map f (range_with_len 0 (n + 1)) ≡ flat_map f (range_with_len 0 n) ++ f n
parts_push {X} f n =
    let e : 0 + n ≡ n = omega arith in
    ap (flat_map f) (range_push 0 n ∙ ap (λ m. range_with_len 0 n ++ m ∷ []) e) ∙ flat_map-append f (range_with_len 0 n) (n ∷ []) ∙ ap (λ (xs : List X). flat_map f (range_with_len 0 n) ++ xs) (append_nil (f n))
  where
    append_nil : (xs : List X) → xs ++ [] ≡ xs
    append_nil [] = refl
    append_nil (x ∷ xs) = ap (λ ys. x ∷ ys) (append_nil xs)

-- ---- zones by number

pub zone_entry : (potential : Potentials) (roles : List Role) (p i : ℕ) → i < length (zones roles) →
    map (λ zone. with_potential potential (Zone p zone.0)) (take (i + 1) (enumerate_from 0 (zones roles)))
    ≡ map (λ zone. with_potential potential (Zone p zone.0)) (take i (enumerate_from 0 (zones roles))) ++ with_potential potential (Zone p i) ∷ []
zone_entry potential roles p i h =
    let zs = enumerate_from 0 (zones roles) in
    let entry : ℕ × List Role → Vertex × ℤ = λ zone. with_potential potential (Zone p zone.0) in
    let n : 0 + i ≡ i = omega arith in
    let at : get_or zs i (i, []) ≡ (0 + i, get_or (zones roles) i []) = get_or-enumerate_from 0 (zones roles) i (i, []) h in
    ap (map entry) (take_more zs i (i, []) (omega (arith, length-enumerate_from 0 (zones roles))))
    ∙ map-append entry (take i zs) (get_or zs i (i, []) ∷ [])
    ∙ ap (λ (z : ℕ × List Role). map entry (take i zs) ++ entry z ∷ []) at
    ∙ ap (λ m. map entry (take i zs) ++ with_potential potential (Zone p m) ∷ []) n

pub all_entries : (potential : Potentials) (roles : List Role) (p i : ℕ) → length (zones roles) ≤ i →
    map (λ zone. with_potential potential (Zone p zone.0)) (take i (enumerate_from 0 (zones roles))) ≡ map (λ zone. with_potential potential (Zone p zone.0)) (enumerate_from 0 (zones roles))
all_entries potential roles p i h =
    ap (map (λ (zone : ℕ × List Role). with_potential potential (Zone p zone.0))) (take_all i (enumerate_from 0 (zones roles)) (omega (arith, length-enumerate_from 0 (zones roles))))

-- ---- conditions on storage nodes

storage_by : (P : Role → Type 0) (role : Role) (rs : List Role) (b : Bool) → (b ≡ true → P role) → All P rs → All P (cond b (role ∷ rs) rs)
storage_by P role rs true first rest = All-cons P role rs (first refl) rest
storage_by P role rs false first rest = rest

pub all_storage : (P : Role → Type 0) (roles : List Role) → All (λ role. is_storage role ≡ true → P role) roles → All P (storage_nodes roles)
all_storage P [] all = All-nil P
all_storage P (role ∷ rs) all =
    storage_by P role (filter is_storage rs) (is_storage role) (All-head (λ role. is_storage role ≡ true → P role) role rs all) (all_storage P rs (All-tail (λ role. is_storage role ≡ true → P role) role rs all))

pub all_more : {X : Type 0} (P : X → Type 0) (xs : List X) (i : ℕ) (x : X) → i < length xs → x ≡ get_or xs i x → All P (take i xs) → P x → All P (take (i + 1) xs)
all_more P xs i x h e all px =
    subst (All P) (sym (take_more xs i x h)) (All-append P (take i xs) (get_or xs i x ∷ []) all (All-cons P (get_or xs i x) [] (subst P e px) (All-nil P)))

-- a storage node that isn't too full, and one that is
pub not_full : (a : Bool) (room load : ℕ) → (a && nat_lt room load) ≡ false → a ≡ true → load ≤ room
not_full true room load e t = ltb-false room load e
not_full false room load e t = cc

pub over_here : (roles : List Role) (size : ℕ) (sets : List NodeSet) (i : ℕ) (role : Role) → i < length roles → role ≡ get_or roles i role → (is_storage role && nat_lt (room size role) (load sets role.node)) ≡ true → is_over roles size sets role.node ≡ true
over_here roles size sets i role h e full =
    let test : Role → Bool = λ other. (is_storage other && nat_lt (room size other) (load sets other.node)) && (other.node == role.node) in
    let here : test role ≡ true = and_from (is_storage role && nat_lt (room size role) (load sets role.node)) (role.node == role.node) full (eq-eqb role.node role.node refl) in
    list_any_at test roles i role h (subst (λ other. test other ≡ true) e here)
