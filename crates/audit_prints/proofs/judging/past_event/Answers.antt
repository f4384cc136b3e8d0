use Rattle.std.proofs.Common.{◌≡◌, ap, sym, subst, ◌∙◌}
use Rattle.std.specs.Prelude.{option_map}
use Rattle.audit_model.specs.Heard.{event_at}
use Rattle.audit_prints.specs.declared.prints.Found.TheVariants as found
use Rattle.audit_prints.specs.Stages.{staged_of}
use Rattle.audit_prints.specs.Judged.{GoesOn}
use Rattle.audit_prints.proofs.Walks.{lent_allowed, found_so, goes_by, goes_lawful}
use Rattle.audit_prints.proofs.judging.past_event.Goals.{in-Nothing, in-Lawful+in_ok-push-in-Lawful}
use Rattle.audit_prints.proofs.judging.past_event.Goals as goal

pub staged_after-requires : goal.staged_after-requires
staged_after-requires c =
    lent_allowed c.args.events.now c.args.line c.args.name.now c.event_at-event.result c.requires.allowed (c.event_at-event.ensures ∙ ap (event_at c.args.events.now c.args.line) c.as_slice.ensures)

pub returns-clause-on : goal.returns-clause-on
returns-clause-on c =
    let s = staged_of c.args.stage in
    let line = c.args.line in
    let told = c.args.told.now in
    let saids = c.args.saids.now in
    let o = option_map (λ e. e.now) c.event_at-event.result in
    let e = event_at c.args.events.now line c.args.name.now in
    let same : o ≡ e = c.event_at-event.ensures ∙ ap (event_at c.args.events.now line) c.as_slice.ensures in
    elim c.match-branch-2.branch [
      | in-Nothing w ↦
          let none = found_so s line told saids o e c.in_ok-layout_after.field-0 found.Nothing same w.in-Nothing.is c.in_ok-layout_after.ensures.found in
          subst (GoesOn s line e told saids c.args.sheets.now) (sym w.sheets-is) (goes_by s line e told saids c.args.sheets.now none)
      | in-Lawful+in_ok-push-in-Lawful w ↦
          let shown = w.in-Lawful.shown in
          let lawful = found_so s line told saids o e c.in_ok-layout_after.field-0 (found.Lawful shown) same w.in-Lawful.is c.in_ok-layout_after.ensures.found in
          goes_lawful s line e told saids shown c.args.sheets.now c.match-branch-2.sheets lawful (w.sheets-is ∙ w.in_ok-push-in-Lawful.ensures.ok)
    ]
