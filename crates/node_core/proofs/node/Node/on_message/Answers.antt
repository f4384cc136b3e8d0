use Rattle.std.proofs.Common.{None, sym, subst}
use Rattle.cluster_machine.specs.Receives.{takes}
use Rattle.cluster_machine.specs.Layouts.{layouts}
use Rattle.node_core.specs.Stands.{Done}
use Rattle.node_core.proofs.DropNone.{IsOther, has_none, passed_over}
use Rattle.node_core.proofs.node.Node.on_message.Goals as goal

pub returns-in_ok-take_store-in-Store-clause-hears : goal.returns-in_ok-take_store-in-Store-clause-hears
returns-in_ok-take_store-in-Store-clause-hears g c id x is =
    let join = g.S.Row.Crdt.join in
    let s = g.S.Schema.words in
    rw (c.in-Store.is, c.drops_none-in-Store.ensures)
    (subst (λ rows. Done join s c.take_store.new.self id c.args.out.now.items c.take_store.new.out.items None (takes join s layouts id c.args.now x c.args.from c.in-Store.tag c.in-Store.newest c.in-Store.p rows))
    c.as_slice-in-Store.ensures (c.in_ok-take_store-in-Store.ensures.takes id x is))

pub returns-in_ok-given-in-Stored-clause-hears : goal.returns-in_ok-given-in-Stored-clause-hears
returns-in_ok-given-in-Stored-clause-hears g c = rw (c.in-Stored.is, c.drops_none-in-Stored.ensures) (c.in_ok-given-in-Stored.ensures.confirms c.args.out.now.items)

-- ---- messages that make a node drop no row

pub returns-in_ok-give_row-in-Get-clause-dropped : goal.returns-in_ok-give_row-in-Get-clause-dropped
returns-in_ok-give_row-in-Get-clause-dropped g c id x is =
    has_none g.S.Row.Crdt.join g.S.Schema.words id c.args.now x c.args.from c.args.message.now c.drops_none.result _ c.drops_none.ensures (subst IsOther (sym c.in-Get.is) tt)

pub returns-in_ok-given-in-Row-clause-dropped : goal.returns-in_ok-given-in-Row-clause-dropped
returns-in_ok-given-in-Row-clause-dropped g c id x is =
    has_none g.S.Row.Crdt.join g.S.Schema.words id c.args.now x c.args.from c.args.message.now c.drops_none-in-Row.result _ c.drops_none-in-Row.ensures (subst IsOther (sym c.in-Row.is) tt)

pub returns-in_ok-give_rows-in-Range-clause-dropped : goal.returns-in_ok-give_rows-in-Range-clause-dropped
returns-in_ok-give_rows-in-Range-clause-dropped g c id x is =
    has_none g.S.Row.Crdt.join g.S.Schema.words id c.args.now x c.args.from c.args.message.now c.drops_none-in-Range.result _ c.drops_none-in-Range.ensures (subst IsOther (sym c.in-Range.is) tt)

pub returns-in_ok-given-in-Rows-clause-dropped : goal.returns-in_ok-given-in-Rows-clause-dropped
returns-in_ok-given-in-Rows-clause-dropped g c id x is =
    has_none g.S.Row.Crdt.join g.S.Schema.words id c.args.now x c.args.from c.args.message.now c.drops_none-in-Rows.result _ c.drops_none-in-Rows.ensures (subst IsOther (sym c.in-Rows.is) tt)

pub returns-in_ok-take_store-in-Store-clause-dropped : goal.returns-in_ok-take_store-in-Store-clause-dropped
returns-in_ok-take_store-in-Store-clause-dropped g c id x is =
    has_none g.S.Row.Crdt.join g.S.Schema.words id c.args.now x c.args.from c.args.message.now c.drops_none-in-Store.result _ c.drops_none-in-Store.ensures (subst IsOther (sym c.in-Store.is) tt)

pub returns-in_ok-given-in-Stored-clause-dropped : goal.returns-in_ok-given-in-Stored-clause-dropped
returns-in_ok-given-in-Stored-clause-dropped g c id x is =
    has_none g.S.Row.Crdt.join g.S.Schema.words id c.args.now x c.args.from c.args.message.now c.drops_none-in-Stored.result _ c.drops_none-in-Stored.ensures (subst IsOther (sym c.in-Stored.is) tt)

pub returns-in_ok-take_walk-in-Walk-clause-dropped : goal.returns-in_ok-take_walk-in-Walk-clause-dropped
returns-in_ok-take_walk-in-Walk-clause-dropped g c id x is =
    has_none g.S.Row.Crdt.join g.S.Schema.words id c.args.now x c.args.from c.args.message.now c.drops_none-in-Walk.result _ c.drops_none-in-Walk.ensures (subst IsOther (sym c.in-Walk.is) tt)

pub returns-in_ok-take_answer-in-Same-clause-dropped : goal.returns-in_ok-take_answer-in-Same-clause-dropped
returns-in_ok-take_answer-in-Same-clause-dropped g c id x is =
    has_none g.S.Row.Crdt.join g.S.Schema.words id c.args.now x c.args.from c.args.message.now c.drops_none-in-Same.result _ c.drops_none-in-Same.ensures (subst IsOther (sym c.in-Same.is) tt)

pub returns-in_ok-take_answer-in-Differ-clause-dropped : goal.returns-in_ok-take_answer-in-Differ-clause-dropped
returns-in_ok-take_answer-in-Differ-clause-dropped g c id x is =
    has_none g.S.Row.Crdt.join g.S.Schema.words id c.args.now x c.args.from c.args.message.now c.drops_none-in-Differ.result _ c.drops_none-in-Differ.ensures (subst IsOther (sym c.in-Differ.is) tt)

pub returns-in_ok-give_block-in-BlockGet-clause-dropped : goal.returns-in_ok-give_block-in-BlockGet-clause-dropped
returns-in_ok-give_block-in-BlockGet-clause-dropped g c id x is =
    has_none g.S.Row.Crdt.join g.S.Schema.words id c.args.now x c.args.from c.args.message.now c.drops_none-in-BlockGet.result _ c.drops_none-in-BlockGet.ensures (subst IsOther (sym c.in-BlockGet.is) tt)

pub returns-in_ok-given-in-Block-clause-dropped : goal.returns-in_ok-given-in-Block-clause-dropped
returns-in_ok-given-in-Block-clause-dropped g c id x is =
    has_none g.S.Row.Crdt.join g.S.Schema.words id c.args.now x c.args.from c.args.message.now c.drops_none-in-Block.result _ c.drops_none-in-Block.ensures (subst IsOther (sym c.in-Block.is) tt)

pub returns-in_ok-take_tomb-in-Tomb-clause-dropped : goal.returns-in_ok-take_tomb-in-Tomb-clause-dropped
returns-in_ok-take_tomb-in-Tomb-clause-dropped g c id x is =
    has_none g.S.Row.Crdt.join g.S.Schema.words id c.args.now x c.args.from c.args.message.now c.drops_none-in-Tomb.result _ c.drops_none-in-Tomb.ensures (subst IsOther (sym c.in-Tomb.is) tt)

pub returns-in-Behind-clause-dropped : goal.returns-in-Behind-clause-dropped
returns-in-Behind-clause-dropped g c id x is =
    has_none g.S.Row.Crdt.join g.S.Schema.words id c.args.now x c.args.from c.args.message.now c.drops_none-in-Behind.result _ c.drops_none-in-Behind.ensures (passed_over c.args.message.now c.in-Behind.is)

-- ---- messages that may

pub returns-in_ok-dropped-in-Tombed-clause-hears : goal.returns-in_ok-dropped-in-Tombed-clause-hears
returns-in_ok-dropped-in-Tombed-clause-hears g c = rw c.in-Tombed.is c.in_ok-dropped-in-Tombed.ensures.comes.0

pub returns-in_ok-dropped-in-Tombed-clause-dropped : goal.returns-in_ok-dropped-in-Tombed-clause-dropped
returns-in_ok-dropped-in-Tombed-clause-dropped g c = rw c.in-Tombed.is c.in_ok-dropped-in-Tombed.ensures.comes.1

pub returns-in_ok-dropped-in-Forget-clause-hears : goal.returns-in_ok-dropped-in-Forget-clause-hears
returns-in_ok-dropped-in-Forget-clause-hears g c = rw c.in-Forget.is (c.in_ok-dropped-in-Forget.ensures.forgets c.args.out.now.items).0

pub returns-in_ok-dropped-in-Forget-clause-dropped : goal.returns-in_ok-dropped-in-Forget-clause-dropped
returns-in_ok-dropped-in-Forget-clause-dropped g c = rw c.in-Forget.is (c.in_ok-dropped-in-Forget.ensures.forgets c.args.out.now.items).1
