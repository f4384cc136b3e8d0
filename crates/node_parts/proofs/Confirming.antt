-- Contents in which a node confirms an item.
use Rattle.std.proofs.Common.{◌≡◌, ◌<◌, ℕ, zero, suc, Bool, if◌then◌else◌, List, [], ◌∷◌, Some, None, option_map, IfSome, slice_get, get_or, length, sym, ap, ◌∙◌, subst, arith}
use Rattle.std.specs.List.{AllZip}
use Rattle.block_resync.specs.Outbox.{Outbox, IsNumbered, confirmed, dropped, is_done as code_done}
use Rattle.block_resync.specs.declared.item.Item.{Item}
use Rattle.layout_roles.specs.declared.layout.Layout.{Layout}
use Rattle.view_model.specs.View.{View}
use Rattle.table_schema.specs.Words.{Words, partition_of}
use Rattle.cluster_machine.specs.Node.{Node, Item as Waiting}
use Rattle.cluster_machine.specs.Layouts.{stored_sets, layouts}
use Rattle.cluster_machine.specs.Receives.{item_came}
use Rattle.node_parts.specs.declared.contents.Contents.{Contents}
use Rattle.node_parts.specs.Contents.{AreBlocks, IsItem, IsContents, item_at}
use Rattle.node_parts.proofs.Waiting.{item_found, confirms, came_to_none, items_after, count_after}

module _ {S R : Type 0} (join : R → R → R) (s : Words R) (v : View Layout) (node number : ℕ) (c : Contents S R) (x : Node R Layout) (same : v ≡ x.view) (h : IsContents join s c x) where
  pub confirmed_one : (d : Contents S R) (mid : Outbox) (p : ℕ) (sets : List (List ℕ)) (done : Bool) → IsNumbered c.outbox.pushed c.outbox.items → Some p ≡ option_map (λ (m : Waiting R). partition_of s m.row) (item_at x.items number) →
      sets ≡ stored_sets layouts v p → mid ≡ confirmed c.outbox number node → done ≡ code_done mid number sets → d.outbox ≡ (if done then dropped mid number else mid) → d.table ≡ c.table → d.blocks ≡ c.blocks →
      IsContents join s d (record x { items = item_came join s layouts x.view node number x.items })
  confirmed_one d mid p sets done numbered at are told is out table blocks =
      let zipped = confirms node number sets join s x.view p (are ∙ ap (λ w. stored_sets layouts w p) same) 0 c.outbox.items x.items numbered.rises h.items at in
      record {
        proper = h.proper;
        table = table ∙ h.table;
        items = subst (λ (l : List Item). AllZip (IsItem s) l (item_came join s layouts x.view node number x.items)) (sym (items_after node number sets c.outbox mid d.outbox done told is out)) zipped;
        queued = count_after node number sets c.outbox mid d.outbox done told out ∙ h.queued;
        blocks = subst (λ k. AreBlocks join s k x.accepted x.blocks x.notes) (sym blocks) h.blocks;
      }

  pub confirmed_none : None ≡ option_map (λ (m : Waiting R). partition_of s m.row) (item_at x.items number) → IsContents join s c (record x { items = item_came join s layouts x.view node number x.items })
  confirmed_none none = record {
    proper = h.proper;
    table = h.table;
    items = subst (AllZip (IsItem s) c.outbox.items) (sym (came_to_none node number [] join s x.view x.items none)) h.items;
    queued = h.queued;
    blocks = h.blocks;
  }

number_at : (n : ℕ) (items : List Item) (i : ℕ) (d : Item) → i < length items → IfSome (slice_get items i) (λ x. x.number ≡ n) → (get_or items i d).number ≡ n
number_at n [] i d lt h = absurd (omega arith)
number_at n (x ∷ xs) zero d lt h = h
number_at n (x ∷ xs) (suc i) d lt h = number_at n xs i d (omega arith) h

-- the partition at the place of the number is that of the item with the number
pub partition_there : {R : Type 0} (s : Words R) (o : Outbox) (ms : List (Waiting R)) (n i : ℕ) (d : Item) → IsNumbered o.pushed o.items → AllZip (IsItem s) o.items ms → i < length o.items → IfSome (slice_get o.items i) (λ x. x.number ≡ n) →
    Some (get_or o.items i d).partition ≡ option_map (λ (m : Waiting R). partition_of s m.row) (item_at ms n)
partition_there s o ms n i d numbered zipped lt at = item_found s n 0 o.items ms i d numbered.rises zipped lt (number_at n o.items i d lt at)
