use Rattle.table_store.proofs.Marking.{rest_others}
use Rattle.table_store.proofs.shelf.unmark_row.Goals as goal

pub returns-in-Some : goal.returns-in-Some
returns-in-Some g c = rest_others c.in-Some.version.0 c.args.key.now c.args.markers.now c.unmark.new.markers c.unmark.ensures
