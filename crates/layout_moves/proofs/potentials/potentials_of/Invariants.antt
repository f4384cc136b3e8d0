use Rattle.std.proofs.Common.{◌≡◌}
use Rattle.std.specs.List.{flat_map, range_with_len}
use Rattle.layout_moves.specs.Prices.{potential}
use Rattle.layout_moves.specs.Listing.{partition_listing}
use Rattle.layout_moves.proofs.potentials.potentials_of.Given as goal

abbrev pub invariant-loop-p : goal.invariant-loop-p
invariant-loop-p l = l.list ≡ flat_map (partition_listing (potential l.roles.list l.each l.old l.sets l.prices l.top) l.roles.list) (range_with_len 0 l.p)
