use Rattle.std.proofs.Common.{◌≡◌, ◌<◌, List, Some, IfSome, slice_get, length, get_or, option_map, sym, ap, ◌∙◌, subst}
use Rattle.block_resync.specs.Outbox.{number_of}
use Rattle.block_resync.specs.declared.item.Item.{Item}
use Rattle.numbered_list.proofs.Numbering.{NoneHas}
use Rattle.table_schema.specs.Words.{partition_of}
use Rattle.cluster_machine.specs.Node.{Item as Waiting}
use Rattle.node_parts.proofs.Confirming.{partition_there}
use Rattle.node_parts.proofs.Waiting.{item_absent}
use Rattle.node_parts.proofs.contents.Contents.waiting.Goals as goal

pub returns-in-Some-clause-is : goal.returns-in-Some-clause-is
returns-in-Some-clause-is g c x h =
    let n = c.args.number in
    let place = c.in-Some.place in
    let d = c.index-items-place.result in
    ap (λ (l : List Item). Some (get_or l place d).partition) c.items-items.ensures.items
    ∙ partition_there g.S.Schema.words c.args.self.now.outbox x.items n place d c.items-items.ensures.numbered h.items
    (subst (λ (l : List Item). place < length l) c.items-items.ensures.items c.in-Some.ensures.in_range)
    (subst (λ (l : List Item). IfSome (slice_get l place) (λ (x : Item). x.number ≡ n)) c.items-items.ensures.items c.in-Some.ensures.found)

pub returns-in-None-clause-is : goal.returns-in-None-clause-is
returns-in-None-clause-is g c x h =
    let words = g.S.Schema.words in
    let n = c.args.number in
    let none : NoneHas number_of n c.args.self.now.outbox.items = subst (NoneHas number_of n) c.items-items.ensures.items c.in-None.ensures.absent in
    sym (ap (option_map (λ (m : Waiting g.row.S-Row.Denot). partition_of words m.row)) (item_absent words n c.args.self.now.outbox.items x.items none h.items))
