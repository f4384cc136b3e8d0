use Rattle.std.proofs.Common.{◌≡◌}
use Rattle.view_model.specs.View.{greatest, is_readable, read_version}
use Rattle.view_model.specs.Layouts.{reading}
use Rattle.layout_history.specs.Views.{known}
use Rattle.layout_history.proofs.view.View.read_version.Given as goal

abbrev pub decreases-loop-v : goal.decreases-loop-v
decreases-loop-v l = l.v

-- no greater version may be read
abbrev pub invariant-loop-v : goal.invariant-loop-v
invariant-loop-v l = read_version reading (known l.self) ≡ greatest (is_readable reading (known l.self)) l.v
