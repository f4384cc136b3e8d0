use Rattle.std.proofs.Common.{◌-◌, ℕ, ◌≡◌, ◌<◌, ◌≤◌, ◌*◌, ◌^◌}
use Rattle.layout_roles.specs.Fits.{SomeFits, NoneFits}
use Rattle.layout_size.proofs.search.greatest_size.Given as goal

-- the greatest size lies between the two
abbrev pub invariant-loop-low : goal.invariant-loop-low
invariant-loop-low l =
    (l.network.roles ≡ l.fn.network.roles) × (l.network.r ≡ l.fn.network.r) × (0 < l.low) × (l.low ≤ l.high) × (l.high * 12 < 2 ^ 64) ×
    SomeFits l.fn.network.roles.list l.fn.network.r l.low × ((size : ℕ) → l.high < size → NoneFits l.fn.network.roles.list l.fn.network.r size)

abbrev pub decreases-loop-low : goal.decreases-loop-low
decreases-loop-low l = l.high - l.low
