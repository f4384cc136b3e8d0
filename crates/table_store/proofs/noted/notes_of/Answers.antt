use Rattle.std.specs.BTreeSet.{IsFromIterResult}
use Rattle.std.proofs.lemmas.Iterator.{YieldsList-from_slice}
use Rattle.std.proofs.lemmas.Iterator.Adapters.{fact_from_collect}
use Rattle.std.proofs.lemmas.Iterator.Consumers.{YieldsList-from_copied}
use Rattle.std.proofs.lemmas.Result.{IfOk-at_ok}
use Rattle.table_store.specs.Notes.{note_cmp}
use Rattle.table_store.proofs.NotedRows.{are_notes}
use Rattle.table_store.proofs.noted.notes_of.Goals as goal

pub returns-clause-are : goal.returns-clause-are
returns-clause-are c =
    let road = YieldsList-from_copied (YieldsList-from_slice c.args.noted.now cc) in
    let got = fact_from_collect (IsFromIterResult note_cmp) c.collect.result c.collect.ensures.ran road in
    are_notes c.args.noted.now c.in_ok-notes.notes (IfOk-at_ok (IsFromIterResult note_cmp c.args.noted.now) c.in_ok-notes.was got)
