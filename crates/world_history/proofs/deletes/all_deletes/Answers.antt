use Rattle.std.proofs.Common.{◌≡◌, length, subst, arith}
use Rattle.world_history.specs.Table.{delete_at}
use Rattle.world_history.proofs.Table.{AddedUp, added_sorted}
use Rattle.world_history.proofs.deletes.all_deletes.Goals as goal

pub returns-clause-told : goal.returns-clause-told
returns-clause-told c =
    let h = c.args.index.now.records.now in
    let all : c.loop-place.place ≡ length h = omega arith in
    added_sorted (delete_at h) (length h) c.loop-place.rows.items c.sort_unstable.new.self.items (subst (λ n. AddedUp (delete_at h) n c.loop-place.rows.items) all c.loop-place.invariant) c.sort_unstable.ensures.permutation c.sort_unstable.ensures.sorted
