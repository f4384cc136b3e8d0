-- The cheapest of what nodes ask.
use Rattle.std.specs.Prelude.{◌≡◌, ℕ, ◌+◌, ◌<◌, ◌≤◌, Bool, IsTrue, Option, Some, None, IfSome, List}
use Rattle.layout_roles.specs.declared.role.Role.{Role}
use Rattle.layout_roles.specs.Fits.{NodeSet, has_node, set_at}
use Rattle.layout_moves.specs.Prices.{may_take, asked}
use Rattle.layout_moves.specs.declared.offers.Offer.{Offer}
use Rattle.layout_moves.specs.declared.bids.Bid.{Bid}

-- there is an offer, of this price at most
abbrev pub AtMost : Option Offer → ℕ → Type 0
AtMost None most = ⊥
AtMost (Some offer) most = offer.price ≤ most

-- the offer of a node that passes the test and asks least, none where no node passes
pub record IsCheapest (test : ℕ → Bool) (asks : ℕ → ℕ) (best : Option Offer) : Type 0 where
  pub least : (node : ℕ) → IsTrue (test node) → AtMost best (asks node)
  pub made : IfSome best (λ offer. IsTrue (test offer.node) × (offer.price ≡ asks offer.node))

-- a copy of a partition could go from one node to another, where the first asks more by so much
abbrev pub Needs : ℕ → List (List Role) → ℕ → List NodeSet → List NodeSet → List ℕ → ℕ → ℕ → ℕ → ℕ → Type 0
Needs fee zones each old sets prices out p node rise =
    IsTrue (has_node out (set_at sets p)) × IsTrue (may_take each (set_at sets p) out zones node) × (asked fee (set_at old p) prices out + rise ≡ asked fee (set_at old p) prices node + 1)

-- there is a bid, with a rise that is enough for this move at most
abbrev pub RisesAtMost : Option Bid → ℕ → ℕ → Type 0
RisesAtMost None low high = ⊥
RisesAtMost (Some bid) low high = low + bid.rise ≤ high + 1

-- of so many partitions, the move from a node that takes the least rise of its price, none where no copy can move
pub record IsLeastBid (fee : ℕ) (zones : List (List Role)) (each : ℕ) (old sets : List NodeSet) (prices : List ℕ) (out count : ℕ) (best : Option Bid) : Type 0 where
  pub least : (p : ℕ) → p < count → IsTrue (has_node out (set_at sets p)) → (node : ℕ) → IsTrue (may_take each (set_at sets p) out zones node) →
      RisesAtMost best (asked fee (set_at old p) prices out) (asked fee (set_at old p) prices node)
  pub made : IfSome best (λ bid. (bid.partition < count) × Needs fee zones each old sets prices out bid.partition bid.node bid.rise)
