use Rattle.std.proofs.Common.{ℕ, Bool, ◌||◌, ◌&&◌, not, take}
use Rattle.layout_roles.specs.Fits.{has_node}
use Rattle.layout_moves.specs.Prices.{lies, asked}
use Rattle.layout_moves.specs.Offers.{IsCheapest}
use Rattle.layout_moves.proofs.offers.with_zone.Given as goal

abbrev pub invariant-loop-role : goal.invariant-loop-role
invariant-loop-role l =
    (test : ℕ → Bool) → IsCheapest test (asked l.fee l.old l.prices) l.fn.start →
    IsCheapest (λ node. test node || (lies (take l.role-index l.zone) node && not (has_node node l.set))) (asked l.fee l.old l.prices) l.best
