use Rattle.std.proofs.Common.{Option, Some, sym, ap, ◌∙◌, subst}
use Rattle.lab_outside.specs.Connection.{OnPresent}
use Rattle.flow_model.specs.declared.flow.FlowEnd.{FlowEnd}
use Rattle.serve_model.specs.Talk.{given_text, closes_of}
use Rattle.serve_loop.specs.Gets.{with_given}
use Rattle.serve_loop.specs.Giving.{ToldAll, EndsWith, answer_at}
use Rattle.serve_loop.proofs.Ending.{rest_on}
use Rattle.serve_loop.proofs.giving.end_begun.Goals as goal

pub returns-in-Some-Found-clause-ends : goal.returns-in-Some-Found-clause-ends
returns-in-Some-Found-clause-ends g c = λ range so_far begun start asked told at.
    let r = c.args.request.now in
    let o = g.L.Link.present c.args.link.now in
    let n = g.L.Link.present c.end_object.new.link in
    let P : Option FlowEnd → Type 0 = λ end. ToldAll so_far begun end → (let a = answer_at r (with_given so_far end) in OnPresent (EndsWith (given_text r a begun) (closes_of r a) c.end_object.result) start n) in
    subst P (sym (c.in-Some-Found.is ∙ ap Some c.in-Some-Found.field-0-is))
    (λ told. rest_on r range asked begun so_far c.in-Some-Found.field-0-0 c.in-Some-Found.field-0-1 c.in-Some-Found.body c.args.portion c.end_object.result start o n told at (λ given w. c.end_object.ensures.ends range given start w)) told
