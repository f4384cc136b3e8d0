-- What the end of the auction shows.
use Rattle.std.proofs.Common.{◌≡◌, ℕ, ◌+◌, ◌-◌, ◌/◌, ◌%◌, ◌<◌, ◌≤◌, nat_lt, IsTrue, List, map, refl, sym, ap, ◌∙◌, subst, arith}
use Rattle.std.specs.Prelude.{ℤ, pos, ◌≤ℤ◌}
use Rattle.std.proofs.lemmas.Int.{ints}
use Rattle.std.specs.List.{list_all, All}
use Rattle.layout_roles.specs.declared.role.Role.{Role}
use Rattle.layout_roles.specs.Zones.{nodes_ascend, is_numbered, storage_nodes}
use Rattle.layout_roles.specs.Fits.{NodeSet, load, room, Fits, set_at}
use Rattle.layout_roles.specs.declared.vertex.Vertex.{Vertex}
use Rattle.layout_moves.specs.Moves.{moves, bound, potentials}
use Rattle.layout_moves.specs.Prices.{asked, dearest, potential}
use Rattle.layout_moves.specs.Listing.{listing}
use Rattle.layout_moves.specs.Auction.{IsPriced}
use Rattle.layout_moves.proofs.Weak.{at_most}
use Rattle.layout_moves.proofs.Certificate.{bound_is}
use Rattle.layout_moves.proofs.Listed.{agrees}
use Rattle.layout_moves.proofs.Rounded.{rounded, settled_from}
use Rattle.layout_moves.proofs.Running.{fits_from}

pub record Ended (roles : List Role) (r size : ℕ) (old sets : List NodeSet) (prices exact : List ℕ) (shift top : ℕ) : Type 0 where
  pub priced : IsPriced roles r size old sets prices
  pub within : All (λ role. load sets role.node ≤ room size role) (storage_nodes roles)
  pub small : shift < 66
  pub clear : IsTrue (list_all (λ price. nat_lt 0 ((price + shift) % 66)) prices)
  pub exact_is : exact ≡ map (λ price. (price + shift) / 66) prices
  pub topped : (p : ℕ) → p < 256 → dearest (asked 1 (set_at old p) exact) (set_at sets p) ≤ top

pub ended_fits : (roles : List Role) (r size : ℕ) (old sets : List NodeSet) (prices : List ℕ) → 1 ≤ r → r ≤ 3 → IsTrue (nodes_ascend roles) → IsPriced roles r size old sets prices →
    All (λ role. load sets role.node ≤ room size role) (storage_nodes roles) → Fits roles r size sets
ended_fits roles r size old sets prices low great ascend priced within = fits_from roles r size sets low great ascend priced.whole priced.bases within

pub ended_bound : (roles : List Role) (r size : ℕ) (old sets : List NodeSet) (prices exact : List ℕ) (shift top : ℕ) (list : List (Vertex × ℤ)) → 1 ≤ r → r ≤ 3 → IsTrue (nodes_ascend roles) → IsTrue (list_all is_numbered roles) →
    Ended roles r size old sets prices exact shift top → list ≡ listing 256 (potential roles (4 - r) old sets exact top) roles → bound roles r size old (potentials list) ≡ pos (moves old sets)
ended_bound roles r size old sets prices exact shift top list low great ascend numbered ended e =
    let topped : (p : ℕ) → p < 256 → dearest (asked 1 (set_at old p) (rounded prices shift)) (set_at sets p) ≤ top =
    subst (λ (xs : List ℕ). (p : ℕ) → p < 256 → dearest (asked 1 (set_at old p) xs) (set_at sets p) ≤ top) ended.exact_is ended.topped in
    let settled = settled_from roles r size old sets prices shift top numbered ended.priced ended.small ended.clear topped in
    let fits = ended_fits roles r size old sets prices low great ascend ended.priced ended.within in
    let whole = bound_is roles r size old sets (rounded prices shift) top (potentials (listing 256 (potential roles (4 - r) old sets (rounded prices shift) top) roles)) low great ascend fits settled
    (agrees 256 (potential roles (4 - r) old sets (rounded prices shift) top) roles refl) in
    let list_is : list ≡ listing 256 (potential roles (4 - r) old sets (rounded prices shift) top) roles = e ∙ ap (λ (xs : List ℕ). listing 256 (potential roles (4 - r) old sets xs top) roles) ended.exact_is in
    subst (λ (xs : List (Vertex × ℤ)). bound roles r size old (potentials xs) ≡ pos (moves old sets)) (sym list_is) whole

-- no assignment moves fewer than a bound says
pub fewest_from : (roles : List Role) (r size : ℕ) (old other : List NodeSet) (list : List (Vertex × ℤ)) (m : ℕ) → 1 ≤ r → r ≤ 3 → IsTrue (nodes_ascend roles) → bound roles r size old (potentials list) ≡ pos m → Fits roles r size other → m ≤ moves old other
fewest_from roles r size old other list m low great ascend e fits =
    down m (moves old other) (subst (λ z. z ≤ℤ pos (moves old other)) e (at_most roles r size old other (potentials list) ascend low great refl fits))
  where
    down : (a b : ℕ) → pos a ≤ℤ pos b → a ≤ b
    down a b h = omega (arith, ints)
