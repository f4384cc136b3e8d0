use Rattle.std.specs.List.{list_all}
use Rattle.std.proofs.Common.{leb, ap, ◌∙◌}
use Rattle.layout_trackers.specs.declared.which.Which.TheVariants.{Sync}
use Rattle.layout_trackers.specs.Trackers.{counts}
use Rattle.crdt_core.specs.Members.{two_pass}
use Rattle.layout_history.specs.Views.{known}
use Rattle.layout_history.proofs.Views.{established_is}
use Rattle.layout_history.proofs.view.View.established.Goals as goal

pub returns-in-Some : goal.returns-in-Some
returns-in-Some c =
    let o = c.oldest-oldest.result in
    established_is (known c.args.self.now) c.args.v o c.in-Some.layout.now c.all_synced.result c.oldest-oldest.ensures c.if-v-oldest.false c.in-Some.ensures
    (c.all_synced.ensures ∙ ap (list_all (two_pass (λ node. leb c.args.v (counts o Sync c.args.self.now.trackers node)))) c.as_slice.ensures)
