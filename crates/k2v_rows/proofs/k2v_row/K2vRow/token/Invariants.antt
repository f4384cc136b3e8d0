use Rattle.std.proofs.Common.{◌≡◌, take}
use Rattle.crdt_core.specs.Map.{map_entries}
use Rattle.k2v_rows.specs.Token.{token_entries}
use Rattle.k2v_rows.proofs.k2v_row.K2vRow.token.Given as goal

-- the token of the nodes so far
abbrev pub invariant-loop-entry : goal.invariant-loop-entry
invariant-loop-entry l = map_entries l.token ≡ token_entries (take l.entry-index l.entry-items)
