use Rattle.std.proofs.Common.{◌∙◌, ◌+◌, ap, sym, subst, List, drop}
use Rattle.std.specs.List.{filter_map}
use Rattle.s3_model.specs.declared.page.Entry.{Entry}
use Rattle.s3_model.specs.Page.{entry_of, entries_of}
use Rattle.s3_list.specs.SoFar.{IsSoFar}
use Rattle.s3_list.proofs.Shown.{next_comes}
use Rattle.s3_list.proofs.pages.page.Goals as goal
use Rattle.s3_list.proofs.pages.page.Goals.{in-Some+in_ok-show+else-not-branch, in_default}

pub returns-then-not-branch-clause-page : goal.returns-then-not-branch-clause-page
returns-then-not-branch-clause-page c =
    let come = filter_map (entry_of c.args.ask.now) (drop (c.loop-row.row-index + 1) c.args.rows.now) in
    let entry = c.in_ok-entry.ensures.entry ∙ ap (entry_of c.args.ask.now) c.get.ensures in
    let so = next_comes c.args.ask.now c.args.rows.now (entries_of c.args.ask.now c.args.rows.now) c.loop-row.entries c.loop-row.row-index c.row-item.result _ c.loop-row-test.true c.row-item.is (sym c.in-Some.is ∙ entry) c.loop-row.invariant in
    rw c.if-not-branch.true at (c.in_ok-show.ensures.shows (entries_of c.args.ask.now c.args.rows.now) come so)

pub loop-row-preserved : goal.loop-row-preserved
loop-row-preserved c =
    let all = entries_of c.args.ask.now c.args.rows.now in
    let come = filter_map (entry_of c.args.ask.now) (drop (c.loop-row.row-index + 1) c.args.rows.now) in
    let entry = c.in_ok-entry.ensures.entry ∙ ap (entry_of c.args.ask.now) c.get.ensures in
    let P : List Entry → Type 0 = λ es. IsSoFar c.args.ask.now.max all es come in
    elim c.match-branch-2.branch [
      | in-Some+in_ok-show+else-not-branch w ↦ subst P (sym w.entries-is) (rw w.if-not-branch.false at (w.in_ok-show.ensures.shows all come (next_comes c.args.ask.now c.args.rows.now all c.loop-row.entries c.loop-row.row-index c.row-item.result _ c.loop-row-test.true c.row-item.is (sym w.in-Some.is ∙ entry) c.loop-row.invariant)))
      | in_default w ↦ subst P (sym w.entries-is) (next_comes c.args.ask.now c.args.rows.now all c.loop-row.entries c.loop-row.row-index c.row-item.result _ c.loop-row-test.true c.row-item.is (sym w.in_default.is ∙ entry) c.loop-row.invariant)
    ]
