use Rattle.std.proofs.Common.{◌∙◌, sym, ap, subst, Ok}
use Rattle.layout_text.specs.Settings.{settings_of}
use Rattle.layout_text.specs.Changes.{comings_of}
use Rattle.serve_run.specs.Plan.{AreInOrder}
use Rattle.serve_run.specs.Stop.{IsOfText}
use Rattle.serve_run.proofs.Input.{handed_on}
use Rattle.serve_run.proofs.Planned.{text_of_roles, text_of_comings, as_few}
use Rattle.serve_run.proofs.plan.plan_of_text.Goals as goal

pub returns-in_err-access-clause-causes : goal.returns-in_err-access-clause-causes
returns-in_err-access-clause-causes c =
    handed_on (IsOfText c.args.text.now) c.from_residual-in_err-access.result c.in_err-access.field-0.0 c.from_residual-in_err-access.ensures.1
    (c.in_err-access.ensures.causes (comings_of c.in_ok-comings.comings) c.in_ok-comings.ensures.says)

pub returns-in_err-certified-clause-causes : goal.returns-in_err-certified-clause-causes
returns-in_err-certified-clause-causes c =
    let settings = settings_of c.in_ok-config.config in
    handed_on (IsOfText c.args.text.now) c.from_residual-in_err-certified.result c.in_err-certified.field-0.0 c.from_residual-in_err-certified.ensures.1
    (text_of_roles c.args.text.now settings (comings_of c.in_ok-comings.comings) c.in_ok-access.access c.utf8.text c.in_ok-config.ensures.says c.in_ok-comings.ensures.says c.in_ok-access.ensures.allows c.in_err-certified.field-0.0 c.in_err-certified.ensures.causes)

pub returns-in_err-changes-clause-causes : goal.returns-in_err-changes-clause-causes
returns-in_err-changes-clause-causes c =
    let settings = settings_of c.in_ok-config.config in
    let computed = c.in_ok-certified.ensures.computed in
    handed_on (IsOfText c.args.text.now) c.from_residual-in_err-changes.result c.in_err-changes.field-0.0 c.from_residual-in_err-changes.ensures.1
    (text_of_comings c.args.text.now settings (comings_of c.in_ok-comings.comings) c.in_ok-access.access c.utf8.text c.in_ok-config.ensures.says c.in_ok-comings.ensures.says c.in_ok-access.ensures.allows
    c.in_ok-certified.certified computed.0 computed.1 c.in_err-changes.field-0.0 c.in_err-changes.ensures.causes)

pub returns-clause-plan : goal.returns-clause-plan
returns-clause-plan c = record {
  greatest = c.in_ok-certified.ensures.greatest;
  sized = c.in_ok-config.ensures.sized;
  ordered = subst (λ names. AreInOrder names c.in_ok-names.names) c.list.ensures c.in_ok-names.ensures.in_order;
  few = as_few c.in_ok-changes.changes c.in_ok-comings.comings c.in_ok-changes.ensures.same c.in_ok-comings.ensures.of_server.1;
  computed = c.in_ok-changes.ensures.computed;
}

pub returns-clause-said : goal.returns-clause-said
returns-clause-said c = record {
  is_text = c.utf8.text;
  says = c.in_ok-config.ensures.says;
  changes = c.in_ok-comings.ensures.says ∙ ap Ok (sym c.in_ok-changes.ensures.same);
  allows = c.in_ok-access.ensures.allows;
  enough = c.in_ok-certified.ensures.computed.0;
  layout = c.in_ok-certified.ensures.computed.1;
  layouts = c.in_ok-changes.ensures.computed;
}
