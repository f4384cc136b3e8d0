use Rattle.std.proofs.Common.{true, false, Some, refl, ap, subst, ◌∙◌}
use Rattle.merkle_sync.specs.declared.walk_end.WalkEnd.TheVariants.{Same, Ask, Push}
use Rattle.node_parts.specs.Sends.{Asks, Pushes}
use Rattle.node_parts.specs.Walks.{TakesAnswer, LacksSpelling}
use Rattle.node_parts.proofs.Answering.{walks_idle, walks_told, cannot_send}
use Rattle.node_parts.proofs.Faults.{passed_on}
use Rattle.node_parts.proofs.sender.Sender.walk_on.Goals as goal

pub returns-in_err-ask_each-in-Some-Ask-clause-causes : goal.returns-in_err-ask_each-in-Some-Ask-clause-causes
returns-in_err-ask_each-in-Some-Ask-clause-causes g c =
    let join = g.S.Row.Crdt.join in
    let words = g.S.Schema.words in
    let contents = c.args.contents.now in
    let takes = subst (TakesAnswer join words contents c.args.walks.now c.take_answer.new.self c.args.answer) (c.in-Some-Ask.is ∙ ap Some c.in-Some-Ask.field-0-is) c.in_ok-take_answer.ensures.takes in
    passed_on c.from_residual-in_err-ask_each-in-Some-Ask.result c.in_err-ask_each-in-Some-Ask.field-0.0 c.from_residual-in_err-ask_each-in-Some-Ask.ensures.1 c.in_err-ask_each-in-Some-Ask.ensures.causes
    (λ lacks. cannot_send join words c.args.self contents c.args.walks.now c.take_answer.new.self c.args.answer (Ask c.in-Some-Ask.prefixes) takes
    (subst (λ z. LacksSpelling join words z c.args.answer.p) c.in_ok-take_answer.ensures.unchanged lacks))

pub returns-in_err-push-in-Some-Push-clause-causes : goal.returns-in_err-push-in-Some-Push-clause-causes
returns-in_err-push-in-Some-Push-clause-causes g c =
    let join = g.S.Row.Crdt.join in
    let words = g.S.Schema.words in
    let contents = c.args.contents.now in
    let takes = subst (TakesAnswer join words contents c.args.walks.now c.take_answer.new.self c.args.answer) (c.in-Some-Push.is ∙ ap Some c.in-Some-Push.field-0-is) c.in_ok-take_answer.ensures.takes in
    passed_on c.from_residual-in_err-push-in-Some-Push.result c.in_err-push-in-Some-Push.field-0.0 c.from_residual-in_err-push-in-Some-Push.ensures.1 c.in_err-push-in-Some-Push.ensures.causes
    (λ lacks. cannot_send join words c.args.self contents c.args.walks.now c.take_answer.new.self c.args.answer (Push c.in-Some-Push.noted) takes
    (subst (λ z. LacksSpelling join words z c.args.answer.p) c.in_ok-take_answer.ensures.unchanged lacks))

pub returns-in-None-clause-walks : goal.returns-in-None-clause-walks
returns-in-None-clause-walks g c =
    let join = g.S.Row.Crdt.join in
    let words = g.S.Schema.words in
    walks_idle join words c.args.self c.args.contents.now c.args.walks.now c.take_answer.new.self c.args.answer c.args.out.now.items
    (subst (TakesAnswer join words c.args.contents.now c.args.walks.now c.take_answer.new.self c.args.answer) c.in-None.is c.in_ok-take_answer.ensures.takes)

pub returns-in-Some-Same-clause-walks : goal.returns-in-Some-Same-clause-walks
returns-in-Some-Same-clause-walks g c =
    let join = g.S.Row.Crdt.join in
    let words = g.S.Schema.words in
    walks_told join words c.args.self c.args.contents.now c.args.walks.now c.take_answer.new.self c.args.answer c.args.out.now.items c.args.out.now.items true Same
    (subst (TakesAnswer join words c.args.contents.now c.args.walks.now c.take_answer.new.self c.args.answer) (c.in-Some-Same.is ∙ ap Some c.in-Some-Same.field-0-is) c.in_ok-take_answer.ensures.takes) (refl, refl)

pub returns-in_ok-ask_each-in-Some-Ask-clause-walks : goal.returns-in_ok-ask_each-in-Some-Ask-clause-walks
returns-in_ok-ask_each-in-Some-Ask-clause-walks g c =
    let join = g.S.Row.Crdt.join in
    let words = g.S.Schema.words in
    let a = c.args.answer in
    let prefixes = c.in-Some-Ask.prefixes in
    walks_told join words c.args.self c.args.contents.now c.args.walks.now c.take_answer.new.self a c.args.out.now.items c.ask_each.new.out.items false (Ask prefixes)
    (subst (TakesAnswer join words c.args.contents.now c.args.walks.now c.take_answer.new.self a) (c.in-Some-Ask.is ∙ ap Some c.in-Some-Ask.field-0-is) c.in_ok-take_answer.ensures.takes) (
      refl,
      subst (Asks join words c.args.self c.args.contents.now c.args.out.now.items c.ask_each.new.out.items a.from a.p a.table) c.as_slice.ensures.value
          (subst (λ z. Asks join words c.args.self z c.args.out.now.items c.ask_each.new.out.items a.from a.p a.table c.as_slice.result.now) c.in_ok-take_answer.ensures.unchanged c.in_ok-ask_each-in-Some-Ask.ensures.asks),
    )

pub returns-in_ok-push-in-Some-Push-clause-walks : goal.returns-in_ok-push-in-Some-Push-clause-walks
returns-in_ok-push-in-Some-Push-clause-walks g c =
    let join = g.S.Row.Crdt.join in
    let words = g.S.Schema.words in
    let a = c.args.answer in
    let noted = c.in-Some-Push.noted in
    walks_told join words c.args.self c.args.contents.now c.args.walks.now c.take_answer.new.self a c.args.out.now.items c.push.new.out.items false (Push noted)
    (subst (TakesAnswer join words c.args.contents.now c.args.walks.now c.take_answer.new.self a) (c.in-Some-Push.is ∙ ap Some c.in-Some-Push.field-0-is) c.in_ok-take_answer.ensures.takes) (
      refl,
      subst (Pushes join words c.args.self c.args.contents.now c.args.out.now.items c.push.new.out.items a.from a.p) c.as_slice-in-Some-Push.ensures.value
          (subst (λ z. Pushes join words c.args.self z c.args.out.now.items c.push.new.out.items a.from a.p c.as_slice-in-Some-Push.result.now) c.in_ok-take_answer.ensures.unchanged c.in_ok-push-in-Some-Push.ensures.pushes),
    )
