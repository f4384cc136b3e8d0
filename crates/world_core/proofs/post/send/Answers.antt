use Rattle.std.proofs.Common.{◌≡◌, suc, [], ◌∷◌, ◌++◌, sym, ap, ◌∙◌, subst, arith}
use Rattle.std.proofs.lemmas.List.{append_assoc, append-nil, length-append}
use Rattle.node_parts.proofs.Faults.{passed_on}
use Rattle.world_core.specs.Parts.{AreSent}
use Rattle.world_core.proofs.PostsSent.{taken, sends_none, sends_more, cannot_send, told_more}
use Rattle.world_core.proofs.post.send.Goals as goal

pub loop-envelope-init : goal.loop-envelope-init
loop-envelope-init g c = record {
  rest = c.into_iter-envelope-iterator.ensures.into_iter_gives.0;
  sent = sends_none g.S.Schema.words c.args.post.now;
  told = sym (append-nil c.args.lines.now);
  many = omega arith;
}

pub loop-envelope-preserved : goal.loop-envelope-preserved
loop-envelope-preserved g c =
    let i = c.loop-envelope.invariant in
    let done = c.loop-envelope.yielded in
    let e = c.in-Some.envelope in
    record {
      rest = append_assoc done (e ∷ []) c.next.new.self.rest.items ∙ ap (done ++◌) (sym c.in-Some.ensures.steps.0) ∙ i.rest;
      sent = sends_more g.S.Schema.words c.args.post.now c.loop-envelope.post c.put.new.post done e i.sent c.in_ok-put.ensures.sent;
      told = told_more c.args.lines.now c.loop-envelope.lines c.put.new.lines (suc c.args.post.now.sent) (suc c.loop-envelope.post.sent) done e i.told c.in_ok-put.ensures.told (omega arith);
      many = omega (arith, length-append done (e ∷ []), c.in_ok-put.ensures.more);
    }

pub returns-in_err-put-clause-causes : goal.returns-in_err-put-clause-causes
returns-in_err-put-clause-causes g c =
    let i = c.loop-envelope.invariant in
    passed_on c.from_residual.result c.in_err-put.field-0.0 c.from_residual.ensures.1 c.in_err-put.ensures.causes
    (cannot_send g.S.Schema.words c.args.post.now c.loop-envelope.post c.loop-envelope.yielded c.in-Some.envelope c.next.new.self.rest.items c.args.envelopes.items i.sent (ap (c.loop-envelope.yielded ++◌) (sym c.in-Some.ensures.steps.0) ∙ i.rest))

pub returns-clause-sent : goal.returns-clause-sent
returns-clause-sent g c messages marks sent p are =
    let i = c.loop-envelope.invariant in
    let all : c.args.envelopes.items ≡ c.loop-envelope.yielded = taken _ _ _ i.rest (sym c.loop-envelope.envelope-iterator.rest.ok.0 ∙ c.in-None.ensures.steps.0) in
    i.sent messages marks sent p (subst (λ es. AreSent es sent) all are)

pub returns-clause-told : goal.returns-clause-told
returns-clause-told g c messages marks p =
    let i = c.loop-envelope.invariant in
    let all : c.args.envelopes.items ≡ c.loop-envelope.yielded = taken _ _ _ i.rest (sym c.loop-envelope.envelope-iterator.rest.ok.0 ∙ c.in-None.ensures.steps.0) in
    rw (p.sent, all) i.told
