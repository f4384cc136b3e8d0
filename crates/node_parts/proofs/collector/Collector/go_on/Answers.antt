use Rattle.std.proofs.Common.{sym, subst, ◌∙◌}
use Rattle.std.proofs.lemmas.Result.{on_ok_weaker}
use Rattle.cluster_machine.specs.Phases.{to_each}
use Rattle.wire_messages.specs.declared.message.Message.TheVariants.{Tomb}
use Rattle.node_parts.specs.Collects.{IsOpen}
use Rattle.node_parts.specs.Posts.{Posts}
use Rattle.node_parts.proofs.GoesOn.{asks_again, asks_second, ready_for, waits_on}
use Rattle.node_parts.proofs.Posting.{posts_none}
use Rattle.node_parts.proofs.collector.Collector.go_on.Goals as goal

pub to_second-requires : goal.to_second-requires
to_second-requires g c = record { ready = λ first. ready_for c.args.number c.args.round c.in-Some.ready c.args.row c.args.gc.now (subst (λ r. IsOpen c.args.number c.args.round r c.args.row c.args.gc.now) c.in-Some.is c.requires.there) first }

pub returns-in_default-clause-goes_on : goal.returns-in_default-clause-goes_on
returns-in_default-clause-goes_on g c = on_ok_weaker c.ask.result (λ asks o found.
    asks_again g.S.Row.Crdt.join g.S.Schema.words c.args.self c.args.number c.args.round c.args.ready c.args.row c.args.gc.now c.requires.there o found c.args.out.now.items c.ask.new.out.items c.in_default.is
    (subst (λ ns. Posts c.args.self.node c.args.out.now.items c.ask.new.out.items (to_each ns (Tomb c.args.number 1 c.args.row))) (c.as_slice.ensures.value ∙ c.in_ok-missing.ensures.nodes) asks)) c.ask.ensures.asks

pub returns-then-waits-clause-goes_on : goal.returns-then-waits-clause-goes_on
returns-then-waits-clause-goes_on g c o found =
    waits_on g.S.Row.Crdt.join g.S.Schema.words c.args.self c.args.number c.args.round c.args.ready c.args.row c.args.gc.now c.requires.there o found c.args.out.now.items c.in-Some.ready c.in-Some.is (sym c.waits.ensures ∙ c.if-waits.true) (posts_none c.args.self.node c.args.out.now.items)

pub returns-clause-goes_on : goal.returns-clause-goes_on
returns-clause-goes_on g c = on_ok_weaker c.ask-2.result (λ asks o found.
    asks_second g.S.Row.Crdt.join g.S.Schema.words c.args.self c.args.number c.args.round c.args.ready c.args.row c.args.gc.now c.requires.there o found c.args.out.now.items c.ask-2.new.out.items c.in-Some.ready c.in-Some.is (sym c.waits.ensures ∙ c.if-waits.false)
    c.to_second.new.gc c.in_ok-to_second.ensures.ok
    (subst (λ ns. Posts c.args.self.node c.args.out.now.items c.ask-2.new.out.items (to_each ns (Tomb c.args.number 2 c.args.row))) (c.as_slice-2.ensures.value ∙ c.in_ok-missing-2.ensures.nodes) asks)) c.ask-2.ensures.asks
