use Rattle.std.proofs.Common.{Ok, false, subst}
use Rattle.lab_outside.specs.Connection.{OnPresent}
use Rattle.lab_outside.proofs.Present.{on_present, on_present_then}
use Rattle.serve_model.specs.Serving.{Says}
use Rattle.serve_model.specs.Talk.{text_of, given_text, closes_of}
use Rattle.serve_loop.specs.declared.giving.Progress.{Progress}
use Rattle.serve_loop.specs.declared.giving.Progress.TheVariants.{Failed}
use Rattle.serve_loop.specs.Gets.{with_given}
use Rattle.serve_loop.specs.Giving.{IsAt, EndsWith, says, answer_at}
use Rattle.serve_loop.proofs.Ending.{unwritten_ends, failed_ends}
use Rattle.serve_loop.proofs.giving.end_answer.Goals as goal

pub returns-in-Waiting-clause-ends : goal.returns-in-Waiting-clause-ends
returns-in-Waiting-clause-ends g c = λ range so_far begun start asked told at.
    let r = c.args.request.now in
    let a = answer_at r (with_given so_far c.args.end) in
    on_present_then (IsAt r range c.args.progress so_far) (Says (text_of r (answer_at r c.args.end)) (closes_of r (answer_at r c.args.end)) c.answer_at_end.result) (EndsWith (given_text r a begun) (closes_of r a) c.answer_at_end.result)
    start (g.L.Link.present c.args.link.now) (g.L.Link.present c.answer_at_end.new.link)
    (λ x y z is s. says (unwritten_ends r range asked begun c.answer_at_end.result c.args.progress so_far c.args.end x y z c.in-Waiting.is told is s)) at c.answer_at_end.ensures.says

pub returns-in-Writing-clause-ends : goal.returns-in-Writing-clause-ends
returns-in-Writing-clause-ends g c = λ range so_far begun start asked told at.
    let P : Progress → Type 0 = λ x. OnPresent (IsAt c.args.request.now range x so_far) start (g.L.Link.present c.args.link.now) in
    c.end_begun.ensures.ends range so_far begun start asked told (subst P c.in-Writing.is at)

pub returns-in-Failed-clause-ends : goal.returns-in-Failed-clause-ends
returns-in-Failed-clause-ends g c = λ range so_far begun start asked told at.
    let r = c.args.request.now in
    let a = answer_at r (with_given so_far c.args.end) in
    let o = g.L.Link.present c.args.link.now in
    let P : Progress → Type 0 = λ x. OnPresent (IsAt r range x so_far) start o in
    on_present (IsAt r range Failed so_far) (EndsWith (given_text r a begun) (closes_of r a) (Ok false)) start o
    (λ x y is. says (failed_ends r range asked begun so_far c.args.end x y told is)) (subst P c.in-Failed.is at)
