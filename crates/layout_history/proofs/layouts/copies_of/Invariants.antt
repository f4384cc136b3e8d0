use Rattle.std.proofs.Common.{◌≡◌, take}
use Rattle.layout_history.proofs.layouts.copies_of.Given as goal

-- the copies so far
abbrev pub invariant-loop-layout : goal.invariant-loop-layout
invariant-loop-layout l = l.copies ≡ take l.layout-index l.layouts
