use Rattle.std.proofs.Common.{ap, ◌∙◌}
use Rattle.std.specs.Ordering.{nat_cmp}
use Rattle.crdt_core.specs.Entries.{is_ascending}
use Rattle.k2v_rows.proofs.Tokens.{token_more}
use Rattle.k2v_rows.proofs.k2v_row.K2vRow.token.Goals as goal

-- the next node's time goes to the end
pub loop-entry-preserved : goal.loop-entry-preserved
loop-entry-preserved c =
    token_more c.loop-entry.token c.join_at.new.self c.as_slice-entry-items.result.now c.loop-entry.entry-index c.entry-item.result (record { 0 = c.greatest_time.result })
    (ap (is_ascending nat_cmp) c.as_slice-entry-items.ensures ∙ c.args.self.now.entries.ascending)
    c.loop-entry-test.true c.entry-item.is (λ i. record { 0 = c.greatest_time.ensures i }) c.loop-entry.invariant c.in_ok-join_at.ensures.joined
