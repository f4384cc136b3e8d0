use Rattle.std.proofs.Common.{◌≡◌, suc, take}
use Rattle.view_model.specs.View.{from}
use Rattle.view_model.specs.Layouts.{reading}
use Rattle.layout_history.proofs.layouts.copies_above.Given as goal

-- the copies so far
abbrev pub invariant-loop-layout : goal.invariant-loop-layout
invariant-loop-layout l = l.copies ≡ from reading (suc l.version) (take l.layout-index l.layouts)
