use Rattle.std.proofs.Common.{◌∙◌, sym, arith}
use Rattle.node_parts.proofs.MovedParts.{at_first, not_ours, no_rows, with_rows, at_last}
use Rattle.node_parts.proofs.sender.Sender.moved.Goals.{then-contains+then-has_rows+in_ok-push, else-contains, else-contains-via-then-contains+else-has_rows, else-contains-via-else-contains}
use Rattle.node_parts.proofs.sender.Sender.moved.Goals as goal

pub loop-partition-init : goal.loop-partition-init
loop-partition-init g c = at_first g.S.Row.Crdt.join g.S.Schema.words c.args.self c.args.contents.now c.args.here.now c.args.there.now c.new-parts.result.items c.new-parts.ensures.items

pub loop-partition-preserved : goal.loop-partition-preserved
loop-partition-preserved g c =
    let join = g.S.Row.Crdt.join in
    let words = g.S.Schema.words in
    let from = c.args.self in
    let contents = c.args.contents.now in
    let here = c.args.here.now in
    let there = c.args.there.now in
    let parts = c.loop-partition.parts.items in
    let p = c.loop-partition.partition in
    let set = c.set.result in
    let among = sym c.contains.ensures.value in
    elim c.if-contains.branch [
      | then-contains+then-has_rows+in_ok-push w ↦
          rw w.parts-is
          (rw w.in_ok-push.ensures.items
          (with_rows join words g.met.S.Schema.laws from contents here there parts p set w.set-then-has_rows.result c.set.ensures (among ∙ w.if-contains.true) (sym w.has_rows.ensures ∙ w.if-has_rows.true) w.set-then-has_rows.ensures c.loop-partition.invariant))
      | else-contains w ↦
          rw w.parts-is
          (elim w.else-contains.branch [
            | else-contains-via-then-contains+else-has_rows w' ↦ no_rows join words g.met.S.Schema.laws from contents here there parts p set c.set.ensures (among ∙ w'.if-contains.true) (sym w'.has_rows.ensures ∙ w'.if-has_rows.false) c.loop-partition.invariant
            | else-contains-via-else-contains w' ↦ not_ours join words from contents here there parts p set c.set.ensures (among ∙ w'.if-contains.false) c.loop-partition.invariant
          ])
    ]

pub returns-clause-are : goal.returns-clause-are
returns-clause-are g c =
    at_last g.S.Row.Crdt.join g.S.Schema.words c.args.self c.args.contents.now c.args.here.now c.args.there.now c.loop-partition.parts.items c.loop-partition.partition
    (omega (arith, c.args.here.now.sets.whole, c.loop-partition-test.false)) c.loop-partition.invariant
