use Rattle.std.proofs.Common.{◌≡◌, drop}
use Rattle.k2v_rows.specs.Token.{raised}
use Rattle.k2v_rows.proofs.k2v_row.raise_all.Given as goal

-- what is raised, and then the rest, is all
abbrev pub invariant-loop-seen : goal.invariant-loop-seen
invariant-loop-seen l = raised l.entries (drop l.seen-index l.token) ≡ raised l.initial.entries l.token
