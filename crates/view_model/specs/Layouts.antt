-- What a view reads off a layout of the code.
use Rattle.std.specs.Prelude.{map}
use Rattle.layout_roles.specs.declared.layout.Layout.{Layout}
use Rattle.view_model.specs.View.{Reading}

-- the members of a layout are the nodes that have a role in it
abbrev pub reading : Reading Layout
reading = record {
  version = λ l. l.version;
  members = λ l. map (λ role. role.node) l.roles.list;
  sets = λ l. l.sets.sets;
}
