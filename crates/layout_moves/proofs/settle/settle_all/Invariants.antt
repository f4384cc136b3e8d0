use Rattle.std.proofs.Common.{ℕ, ◌≡◌, ◌<◌, IsTrue, length}
use Rattle.std.specs.List.{All, list_all}
use Rattle.layout_roles.specs.Zones.{set_ascends}
use Rattle.layout_roles.specs.Fits.{set_at}
use Rattle.layout_moves.specs.Prices.{IsBase, IsCheap, asked}
use Rattle.layout_moves.proofs.settle.settle_all.Given as goal

abbrev pub invariant-loop-p : goal.invariant-loop-p
invariant-loop-p l = record {
  whole : length l.sets ≡ length l.initial.sets;
  bases : All (IsBase l.roles.list l.each) l.sets;
  ascending : IsTrue (list_all set_ascends l.sets);
  cheap : (p : ℕ) → p < l.p → IsCheap 1 l.each l.groups (asked l.fee (set_at l.old p) l.prices) (set_at l.sets p);
}
