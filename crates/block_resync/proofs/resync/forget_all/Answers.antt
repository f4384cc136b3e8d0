use Rattle.std.proofs.Common.{ap, ◌∙◌, arith}
use Rattle.std.specs.Prelude.{slice_set}
use Rattle.std.proofs.lemmas.Grind.{common_steps}
use Rattle.std.proofs.lemmas.List.Edits.{map_over_more}
use Rattle.block_resync.specs.Outbox.{item_forgot}
use Rattle.numbered_list.proofs.Numbering.{read_at}
use Rattle.block_resync.proofs.resync.forget_all.Goals as goal

pub loop-i-preserved : goal.loop-i-preserved
loop-i-preserved c =
    let v = c.at_mut-item.result.now in
    record {
      len = grind (arith, common_steps);
      items =
          ap (λ nodes. slice_set c.loop-i.items c.loop-i.i (record { number = v.number; row = v.row; partition = v.partition; confirmed = nodes })) c.truncate.ensures
          ∙ map_over_more item_forgot c.args.items.now c.loop-i.items c.loop-i.i v (omega arith) c.loop-i.invariant.items (read_at c.loop-i.items c.loop-i.i v c.at_mut-item.ensures.value);
    }
