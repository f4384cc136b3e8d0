use Rattle.std.proofs.Common.{ap, ◌∙◌}
use Rattle.std.specs.Option.{is_some, option_and_then}
use Rattle.view_model.specs.Layouts.{reading}
use Rattle.layout_history.specs.Known.{kind_of}
use Rattle.layout_history.specs.Views.{known}
use Rattle.view_model.specs.View.{newest, layout_at}
use Rattle.node_parts.proofs.SetReading.{is_member_of}
use Rattle.node_parts.proofs.sets.is_member.Goals as goal

pub returns : goal.returns
returns c =
    let view = known c.args.view.now in
    c.is_some.ensures
    ∙ ap is_some (c.role.ensures ∙ ap (λ v. option_and_then (λ l. kind_of l c.args.node) (layout_at reading view v)) c.newest.ensures)
    ∙ is_member_of (layout_at reading view (newest reading view)) c.args.node
