use Rattle.std.proofs.Common.{◌<◌, length, ap, ◌∙◌, arith}
use Rattle.layout_roles.specs.declared.layout.Layout.{Layout}
use Rattle.view_model.specs.View.{last_version}
use Rattle.view_model.specs.Layouts.{reading}
use Rattle.layout_history.proofs.Views.{last_at}
use Rattle.layout_history.proofs.view.View.newest.Goals as goal

pub returns-in-len1-up : goal.returns-in-len1-up
returns-in-len1-up c =
    let xs = c.as_slice.result.now in
    let some : 0 < length xs = omega (arith, c.in-len1-up.len_at_least) in
    ap (λ (l : Layout). l.version) c.last-item.is ∙ (last_at xs c.last-item.result 0 some ∙ ap (last_version reading 0) c.as_slice.ensures)
