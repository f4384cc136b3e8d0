-- What a view in memory knows.
use Rattle.layout_roles.specs.declared.layout.Layout.{Layout}
use Rattle.view_model.specs.View as model
use Rattle.layout_history.specs.declared.view.View.{View}

-- the view of the model that a view in memory is
abbrev pub known : View → model.View Layout
known v = record { layouts = v.layouts; trackers = v.trackers }
