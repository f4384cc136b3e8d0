use Rattle.std.proofs.Common.{◌-◌, length, take, drop, List, ap, subst}
use Rattle.std.specs.Prelude.{option_map}
use Rattle.std.proofs.lemmas.List.{take_rest}
use Rattle.cluster_machine.specs.declared.applied.Applied.{Applied}
use Rattle.audit_model.specs.declared.said.Said.{Said}
use Rattle.audit_model.specs.Printed.{printed, IsLawful}
use Rattle.audit_prints.specs.Sheets.{Shows}
use Rattle.audit_prints.specs.Stages.{staged_of}
use Rattle.audit_prints.proofs.Parts.{found_lawful}
use Rattle.audit_prints.proofs.Given.{some_found}
use Rattle.audit_prints.proofs.prints.layout_after.Goals as goal

pub returns-in-Some-2-clause-found : goal.returns-in-Some-2-clause-found
returns-in-Some-2-clause-found c k line =
    let s = staged_of c.args.stage.now in
    let lines = c.args.saids.now in
    let size = c.in-Some-size_after.size in
    let lawful = some_found (λ (_ : Applied). IsLawful s (printed s.roles size (take (length lines - 1) (drop 1 lines)))) c.in_ok-shown.field-0 c.in-Some-2.shown c.in-Some-2.is c.in_ok-shown.ensures.lawful in
    let shows = some_found (Shows s (printed s.roles size (take (length lines - 1) (drop 1 lines)))) c.in_ok-shown.field-0 c.in-Some-2.shown c.in-Some-2.is c.in_ok-shown.ensures.shown in
    found_lawful s k line (option_map (λ e. e.now) c.args.event) c.in-Some.event.now c.args.told.now lines c.size_after.result size
    (ap (option_map (λ e. e.now)) c.in-Some.is) c.size_after.ensures.size c.in-Some-size_after.is c.in-Some-2.shown
    (subst (λ (xs : List Said). IsLawful s (printed s.roles size xs)) (take_rest lines 1) lawful)
    (subst (λ (xs : List Said). Shows s (printed s.roles size xs) c.in-Some-2.shown) (take_rest lines 1) shows)
