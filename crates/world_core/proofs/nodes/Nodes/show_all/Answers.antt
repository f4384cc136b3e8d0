use Rattle.std.proofs.Common.{◌≡◌, ◌++◌, ◌∷◌, [], sym, subst, ap, ◌∙◌, refl}
use Rattle.std.proofs.lemmas.List.{append_assoc}
use Rattle.world_core.specs.Nodes.{AreNodes, given_to}
use Rattle.world_core.proofs.PostsSent.{taken}
use Rattle.world_core.proofs.WorldsInstall.{names, others_more, shown_more}
use Rattle.world_core.proofs.nodes.Nodes.show_all.Goals as goal

pub loop-one-init : goal.loop-one-init
loop-one-init g c = record { rest = c.into_iter-one-iterator.ensures.into_iter_gives.0; others = λ m free. refl; shown = λ first one are once xs nodes. nodes }

pub loop-one-preserved : goal.loop-one-preserved
loop-one-preserved g c =
    let i = c.loop-one.invariant in
    let done = c.loop-one.yielded in
    let one = c.in-Some.one in
    let rest : (done ++ one ∷ []) ++ c.next.new.self.rest.items ≡ c.args.all.items = append_assoc done (one ∷ []) c.next.new.self.rest.items ∙ (ap (done ++◌) (sym c.in-Some.ensures.steps.0) ∙ i.rest) in
    record {
      rest = rest;
      others = others_more c.args.self.now c.loop-one.self c.show.new.self done one i.others c.show.ensures.others;
      shown = λ first is are once. shown_more g.S.Row.Crdt.join g.S.Schema.words c.args.self.now c.loop-one.self c.show.new.self done one c.next.new.self.rest.items c.args.all.items first rest are once i.others (i.shown first is are once) (c.show.ensures.shown first is);
    }

pub returns : goal.returns
returns g c first is are once xs nodes =
    let i = c.loop-one.invariant in
    let all : c.args.all.items ≡ c.loop-one.yielded = taken _ _ _ i.rest (sym c.loop-one.one-iterator.rest.ok.0 ∙ c.in-None.ensures.steps.0) in
    subst (λ ps. AreNodes g.S.Row.Crdt.join g.S.Schema.words c.loop-one.self (given_to (names ps) first xs)) (sym all) (i.shown first is are once xs nodes)
