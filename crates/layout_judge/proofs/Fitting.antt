-- The tests decide what it is for an assignment to fit.
use Rattle.std.proofs.Common.{◌≡◌, ℕ, ◌≤◌, Bool, true, false, cond, not, ◌&&◌, ◌||◌, ◌==◌, nat_eq, nat_le, IsTrue, List, [], ◌∷◌, length, refl, sym, ap, ◌∙◌}
use Rattle.std.specs.Bool.{Decides}
use Rattle.std.specs.List.{list_all, All, IsDistinct}
use Rattle.std.proofs.lemmas.Bool.Decides.{Decides-like, Decides-and, Decides-by_and, Decides-eqb}
use Rattle.std.proofs.lemmas.Bool.{and_parts, and_from, not-true, leb-true, le-leb}
use Rattle.layout_roles.specs.declared.role.Role.{Role}
use Rattle.layout_roles.specs.Zones.{is_storage, storage_nodes}
use Rattle.layout_roles.specs.Fits.{NodeSet, is_storage_node, IsThree, zones_of, load, room, partitions, Fits}
use Rattle.layout_judge.proofs.Counted.{any_filter}
use Rattle.layout_judge.specs.Tests.{is_stored, are_apart, is_three, is_spread, has_room, passes}

apart_is : (set : NodeSet) → are_apart set ≡ true → (length set ≡ 3) × IsDistinct nat_eq set
unfolding IsDistinct
apart_is [] h = cc
apart_is (a ∷ []) h = cc
apart_is (a ∷ b ∷ []) h = cc
apart_is (a ∷ b ∷ c ∷ []) h =
    let p = and_parts (not (nat_eq a b)) _ h in
    let q = and_parts (not (nat_eq a c)) (not (nat_eq b c)) p.1 in
    (refl, ((not-true (nat_eq a b) p.0, (not-true (nat_eq a c) q.0, tt)), ((not-true (nat_eq b c) q.1, tt), (tt, tt))))
apart_is (a ∷ b ∷ c ∷ d ∷ rest) h = cc

not_from : (b : Bool) → b ≡ false → not b ≡ true
not_from true e = cc
not_from false e = refl

is_apart : (set : NodeSet) → length set ≡ 3 → IsDistinct nat_eq set → are_apart set ≡ true
unfolding IsDistinct
is_apart [] l h = cc
is_apart (a ∷ []) l h = cc
is_apart (a ∷ b ∷ []) l h = cc
is_apart (a ∷ b ∷ c ∷ []) l h = and_from _ _ (not_from (nat_eq a b) h.0.0) (and_from _ _ (not_from (nat_eq a c) h.0.1.0) (not_from (nat_eq b c) h.1.0.0))
is_apart (a ∷ b ∷ c ∷ d ∷ rest) l h = cc

itself : (b : Bool) → Decides b (b ≡ true)
itself b = (λ e. e, λ e. e)

le_decides : (a b : ℕ) → Decides (nat_le a b) (a ≤ b)
le_decides a b = (leb-true a b, le-leb a b)

all_decides : {X : Type 0} (p : X → Bool) (P : X → Type 0) → ((x : X) → Decides (p x) (P x)) → (xs : List X) → Decides (list_all p xs) (All P xs)
all_decides p P each xs = Decides-by_and p P (list_all p) each refl (λ x ys. refl) xs

-- gateways have no copies
kept_by : (b low c : Bool) (p : Role → Bool) (x : Role) (ys : List Role) → p x ≡ low → c ≡ list_all p ys → ((not b || low) && c) ≡ list_all p (cond b (x ∷ ys) ys)
kept_by true low c p x ys e h = ap (λ t. low && t) h ∙ ap (λ t. t && list_all p ys) (sym e)
kept_by false low c p x ys e h = h

kept : (size : ℕ) (sets : List NodeSet) (xs : List Role) → list_all (has_room size sets) xs ≡ list_all (λ role. nat_le (load sets role.node) (room size role)) (storage_nodes xs)
kept size sets [] = refl
kept size sets (x ∷ xs) =
    kept_by (is_storage x) (nat_le (load sets x.node) (room size x)) (list_all (has_room size sets) xs) (λ role. nat_le (load sets role.node) (room size role)) x (storage_nodes xs) refl (kept size sets xs)

module _ (roles : List Role) where
  stored_decides : (node : ℕ) → Decides (is_stored roles node) (IsTrue (is_storage_node roles node))
  stored_decides node = let same = any_filter is_storage (λ role. role.node == node) roles in (λ t. same ∙ t, λ t. sym same ∙ t)

  three_decides : (set : NodeSet) → Decides (is_three roles set) (IsThree roles set)
  three_decides set =
      Decides-like (is_three roles set)
      (λ both. let apart = apart_is set both.0 in record { three = apart.0; different = apart.1; stored = both.1 })
      (λ three. (is_apart set three.three three.different, three.stored))
      (Decides-and (are_apart set) (list_all (is_stored roles) set) (itself (are_apart set)) (all_decides (is_stored roles) (λ node. IsTrue (is_storage_node roles node)) stored_decides set))

  spread_decides : (r : ℕ) (set : NodeSet) → Decides (is_spread roles r set) (IsThree roles set × (r ≤ length (zones_of roles set)))
  spread_decides r set = Decides-and (is_three roles set) (nat_le r (length (zones_of roles set))) (three_decides set) (le_decides r (length (zones_of roles set)))

  room_decides : (size : ℕ) (sets : List NodeSet) → Decides (list_all (has_room size sets) roles) (All (λ role. load sets role.node ≤ room size role) (storage_nodes roles))
  room_decides size sets = (
    λ t. (all_decides (λ role. nat_le (load sets role.node) (room size role)) (λ role. load sets role.node ≤ room size role) (λ role. le_decides (load sets role.node) (room size role)) (storage_nodes roles)).0 (sym (kept size sets roles) ∙ t),
    λ all. kept size sets roles ∙ (all_decides (λ role. nat_le (load sets role.node) (room size role)) (λ role. load sets role.node ≤ room size role) (λ role. le_decides (load sets role.node) (room size role)) (storage_nodes roles)).1 all,
  )

  pub fits_decides : (r size : ℕ) (sets : List NodeSet) → Decides (passes roles r size sets) (Fits roles r size sets)
  unfolding partitions
  fits_decides r size sets =
      Decides-like (passes roles r size sets)
      (λ h. record { whole = h.0; threes = λ k d lt. (h.1.0 k d lt).0; spread = λ k d lt. (h.1.0 k d lt).1; within = h.1.1 })
      (λ fit. (fit.whole, ((λ k d lt. (fit.threes k d lt, fit.spread k d lt)), fit.within)))
      (Decides-and (nat_eq (length sets) 256) _ (Decides-eqb (length sets) 256)
      (Decides-and (list_all (is_spread roles r) sets) (list_all (has_room size sets) roles)
      (all_decides (is_spread roles r) (λ set. IsThree roles set × (r ≤ length (zones_of roles set))) (spread_decides r) sets) (room_decides size sets)))
