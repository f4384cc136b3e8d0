use Rattle.std.proofs.Common.{sym, ◌∙◌, arith}
use Rattle.layout_moves.specs.Prices.{lies, asked}
use Rattle.layout_moves.proofs.Adding.{dearest_more_yes, dearest_more_no}
use Rattle.layout_moves.proofs.potentials.dearest_in.Goals as goal
use Rattle.layout_moves.proofs.potentials.dearest_in.Goals.{then-lies_in, else-lies_in}

pub loop-node-preserved : goal.loop-node-preserved
loop-node-preserved c =
    let asks = asked 1 c.args.old.now c.args.prices.now in
    let zone = c.args.zone.now in
    let set = c.args.set.now in
    let i = c.loop-node.node-index in
    elim c.if-lies_in.branch [
      | then-lies_in w ↦
          let more = dearest_more_yes asks (lies zone) set i 0 (omega arith) (sym c.lies_in.ensures ∙ w.if-lies_in.true) in
          record { dearest = omega arith; small = omega arith }
      | else-lies_in w ↦
          let more = dearest_more_no asks (lies zone) set i 0 (omega arith) (sym c.lies_in.ensures ∙ w.if-lies_in.false) in
          record { dearest = omega arith; small = omega arith }
    ]
