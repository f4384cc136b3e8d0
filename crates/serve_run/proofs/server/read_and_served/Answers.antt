use Rattle.std.proofs.Common.{refl, Ok}
use Rattle.serve_run.specs.Told.{told}
use Rattle.serve_run.specs.Answer.{served, unread}
use Rattle.serve_run.proofs.Ending.{unserved, ends_early, wants_on, wants_none, read_before, read_on, link_handed}
use Rattle.serve_run.proofs.server.read_and_served.Goals as goal

pub returns-in_err-text-clause-ends : goal.returns-in_err-text-clause-ends
returns-in_err-text-clause-ends g c = λ g'.
    let input = g.I.Source.left c.args.input.now in
    let t = told (g.C.Clock.times c.args.clock.now) (g.C.Clock.times c.served.new.clock) (g.L.Link.coming c.args.link.now) (g.L.Link.coming c.served.new.link) (g.L.Link.past c.args.link.now) (g.L.Link.past c.served.new.link) in
    ends_early g' c.args.server.count input t c.from_residual-in_err-text.result c.in_err-text.field-0.0 c.from_residual-in_err-text.ensures.1
    (unserved g' c.args.server.count input t c.in_ok-plan.plan c.in_ok-plan.ensures.read c.in_err-text.field-0.0 (c.in_err-text.ensures.how g'))

pub returns-clause-ends : goal.returns-clause-ends
returns-clause-ends g c = λ g'. served c.in_ok-plan.plan c.in_ok-plan.ensures.read (c.in_ok-text.ensures.how g') refl

pub returns-in_err-plan-clause-read_told : goal.returns-in_err-plan-clause-read_told
returns-in_err-plan-clause-read_told g c = read_on c.in_err-plan.field-0.0 c.from_residual.result _ c.from_residual.ensures.1 c.in_err-plan.ensures.told

pub returns-in_err-text-clause-read_told : goal.returns-in_err-text-clause-read_told
returns-in_err-text-clause-read_told g c = read_before c.in_ok-plan.plan c.from_residual-in_err-text.result _ c.in_ok-plan.ensures.told

pub returns-clause-read_told : goal.returns-clause-read_told
returns-clause-read_told g c = read_before c.in_ok-plan.plan (Ok c.in_ok-text.text) _ c.in_ok-plan.ensures.told

pub returns-in_err-plan-clause-wants : goal.returns-in_err-plan-clause-wants
returns-in_err-plan-clause-wants g c = λ g' e. unread refl

pub returns-in_err-text-clause-wants : goal.returns-in_err-text-clause-wants
returns-in_err-text-clause-wants g c = λ g' e.
    let t = told (g.C.Clock.times c.args.clock.now) (g.C.Clock.times c.served.new.clock) (g.L.Link.coming c.args.link.now) (g.L.Link.coming c.served.new.link) (g.L.Link.past c.args.link.now) (g.L.Link.past c.served.new.link) in
    wants_on g' (g.I.Source.left c.args.input.now) t c.in_ok-plan.plan c.in_ok-plan.ensures.read c.from_residual-in_err-text.result c.in_err-text.field-0.0 c.from_residual-in_err-text.ensures.1 (c.in_err-text.ensures.how g') e

pub returns-clause-wants : goal.returns-clause-wants
returns-clause-wants g c = λ g' e.
    let t = told (g.C.Clock.times c.args.clock.now) (g.C.Clock.times c.served.new.clock) (g.L.Link.coming c.args.link.now) (g.L.Link.coming c.served.new.link) (g.L.Link.past c.args.link.now) (g.L.Link.past c.served.new.link) in
    wants_none g' (g.I.Source.left c.args.input.now) t c.in_ok-text.text e

pub returns-in_err-text-clause-link_told : goal.returns-in_err-text-clause-link_told
returns-in_err-text-clause-link_told g c = link_handed c.in_err-text.field-0.0 c.from_residual-in_err-text.result _ c.from_residual-in_err-text.ensures.1 c.in_err-text.ensures.told
