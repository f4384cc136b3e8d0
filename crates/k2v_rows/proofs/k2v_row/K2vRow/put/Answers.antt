use Rattle.std.proofs.Common.{◌≡◌, ◌∙◌}
use Rattle.crdt_core.specs.Map.{map_entries, map_single}
use Rattle.k2v_rows.specs.Token.{entries_join, raised}
use Rattle.k2v_rows.specs.Row.{item_key, written}
use Rattle.k2v_rows.specs.RowLaws.{same_row}
use Rattle.k2v_rows.proofs.Tokens.{written_is}
use Rattle.k2v_rows.proofs.k2v_row.K2vRow.put.Goals as goal

-- what the token saw is discarded, and then the value is joined in
pub returns-clause-put : goal.returns-clause-put
returns-clause-put c =
    let old = c.args.self.now in
    let discards : c.raise_all.new.entries ≡ raised old.entries (map_entries c.args.token.now) =
    c.in_ok-raise_all.ensures.raised ∙ (λ i. raised (c.in_ok-entries.ensures.same i) (c.as_slice.ensures i)) in
    let write : c.in_ok-write.write ≡ written c.args.time c.args.value =
    written_is c.in_ok-write.write c.args.time c.args.value c.in_ok-write.ensures.discard c.in_ok-write.ensures.values in
    let whole = c.in_ok-join_at.ensures.joined ∙ (λ i. entries_join (discards i) (map_single c.args.node (write i))) in
    same_row _ _ (λ i. (item_key old, whole i))
