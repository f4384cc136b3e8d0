use Rattle.std.proofs.Common.{◌≡◌, [], ◌∷◌, ◌++◌, List, None, flat_map, length, get_or, sym, ap, ◌∙◌, subst, arith}
use Rattle.std.proofs.lemmas.List.{take_all}
use Rattle.std.specs.List.{AllZip}
use Rattle.block_resync.specs.declared.item.Item.{Item}
use Rattle.view_model.specs.Layouts.{reading}
use Rattle.view_model.specs.View.{newest}
use Rattle.cluster_machine.specs.Layouts.{stored_sets, layouts}
use Rattle.cluster_machine.specs.Phases.{nodes_of}
use Rattle.cluster_machine.specs.Acts.{item_posts}
use Rattle.node_parts.specs.Contents.{IsItem}
use Rattle.node_parts.specs.Posts.{Posts}
use Rattle.node_parts.proofs.Posting.{posts_none}
use Rattle.node_parts.proofs.SendingItems.{zip_length, sent_with}
use Rattle.node_parts.proofs.contents.Contents.send_waiting.Goals as goal

pub loop-item-init : goal.loop-item-init
loop-item-init g c x same h = posts_none c.args.node c.args.out.now.items

pub loop-item-preserved : goal.loop-item-preserved
loop-item-preserved g c x same h =
    let words = g.S.Schema.words in
    let items = c.items-items.result.now in
    let i = c.loop-item.item-index in
    let d = c.item-item.result in
    let p = d.partition in
    let zipped : AllZip (IsItem words) items x.items = subst (λ (l : List Item). AllZip (IsItem words) l x.items) (sym c.items-items.ensures.items) h.items in
    let place : p ≡ (get_or items i d).partition = ap (λ (k : Item). k.partition) c.item-item.is in
    let nodes : c.as_slice-in-loop-item.result.now ≡ nodes_of (stored_sets layouts x.view p) =
    c.as_slice-in-loop-item.ensures.value ∙ (c.in_ok-nodes.ensures.are ∙ ap nodes_of (c.as_slice.ensures.value ∙ (c.in_ok-sets.ensures.are ∙ ap (λ v. stored_sets layouts v p) same))) in
    let row : c.in_ok-copy.field-0 ≡ (get_or items i d).row = c.in_ok-copy.ensures.same ∙ ap (λ (k : Item). k.row) c.item-item.is in
    let stored : c.push.new.self ≡ ((get_or items i d).row, None) ∷ [] = c.in_ok-push.ensures.ok ∙ (λ j. c.new-rows.ensures j ++ (row j, None) ∷ []) in
    sent_with g.S.Row.Crdt.join words items x.items i d zipped c.loop-item-test.true c.args.node c.args.out.now.items c.loop-item.out.items c.send_each.new.out.items x.view p d.number c.newest.result c.as_slice-in-loop-item.result.now c.push.new.self
    (c.loop-item.invariant x same h) place nodes (ap (λ (k : Item). k.number) c.item-item.is) (c.newest.ensures ∙ ap (newest reading) same) stored c.in_ok-send_each.ensures.sent

pub returns-clause-sent : goal.returns-clause-sent
returns-clause-sent g c x same h =
    let words = g.S.Schema.words in
    let i = c.loop-item.item-index in
    let count : length c.items-items.result.now ≡ length x.items = ap (λ (l : List Item). length l) c.items-items.ensures.items ∙ zip_length (IsItem words) c.args.self.now.outbox.items x.items h.items in
    subst (λ ms. Posts c.args.node c.args.out.now.items c.loop-item.out.items (flat_map (item_posts g.S.Row.Crdt.join words layouts x.view) ms)) (take_all i x.items (omega (arith, count, c.loop-item-test.false))) (c.loop-item.invariant x same h)
