use Rattle.std.proofs.Common.{◌≡◌, ◌-◌, ◌≤◌, length, filter, not, refl, sym, ap, ◌∙◌, subst, arith}
use Rattle.std.specs.List.{AllByRecursion}
use Rattle.block_store.specs.Contents.{Contents as Kept, live_count, idle_notes}
use Rattle.block_resync.specs.Outbox.{due_of}
use Rattle.cluster_machine.specs.Acts.{is_due, stays}
use Rattle.node_parts.specs.Contents.{AreBlocks}
use Rattle.node_parts.specs.References.{deleted_all}
use Rattle.node_parts.proofs.Deleting.{due_idle, fewer_blocks, blocks_without_due, counts_due}
use Rattle.node_parts.proofs.contents.Contents.delete_due.Goals as goal

pub delete_all-requires : goal.delete_all-requires
delete_all-requires g c =
    let old = c.args.self.now.blocks in
    record { idle = subst (AllByRecursion (λ h. live_count old h ≡ 0)) (sym (c.as_slice.ensures.value ∙ c.in_ok-due.ensures.hashes)) (due_idle old c.args.now) }

pub overflow_sub-result : goal.overflow_sub-result
overflow_sub-result g c =
    let old = c.args.self.now.blocks in
    let fewer : length c.delete_all.new.blocks.blocks ≤ length old.blocks = subst (λ (k : Kept). length k.blocks ≤ length old.blocks) (sym c.delete_all.ensures) (fewer_blocks c.as_slice.result.now old c.len-before.ensures.in_order) in
    omega (arith, fewer, c.len.ensures.len, c.len-before.ensures.len)

pub returns-clause-deletes : goal.returns-clause-deletes
returns-clause-deletes g c x h =
    let old = c.args.self.now.blocks in
    let now = c.args.now in
    let join = g.S.Row.Crdt.join in
    let words = g.S.Schema.words in
    let is : c.delete_all.new.blocks ≡ deleted_all old (due_of now (idle_notes old)) = c.delete_all.ensures ∙ ap (deleted_all old) (c.as_slice.ensures.value ∙ c.in_ok-due.ensures.hashes) in
    record {
      contents = record {
        proper = h.proper;
        table = h.table;
        items = h.items;
        queued = h.queued;
        blocks = subst (λ k. AreBlocks join words k x.accepted (filter (stays join words now x) x.blocks) (filter (λ n. not (is_due join words now x n.hash)) x.notes)) (sym is) (blocks_without_due join words old x now c.len-before.ensures.in_order h.blocks);
      };
      rest = record { view = refl; calls = refl; round = refl; rounds = refl; mending = refl; lasting = refl; gc = refl };
    }

pub returns-clause-count : goal.returns-clause-count
returns-clause-count g c x h =
    let old = c.args.self.now.blocks in
    let now = c.args.now in
    let is : c.delete_all.new.blocks ≡ deleted_all old (due_of now (idle_notes old)) = c.delete_all.ensures ∙ ap (deleted_all old) (c.as_slice.ensures.value ∙ c.in_ok-due.ensures.hashes) in
    (λ i. c.len-before.ensures.len i - (c.len.ensures.len ∙ ap (λ (k : Kept). length k.blocks) is) i)
    ∙ counts_due g.S.Row.Crdt.join g.S.Schema.words old x now c.len-before.ensures.in_order h.blocks
