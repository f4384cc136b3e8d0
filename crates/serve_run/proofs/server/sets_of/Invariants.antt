use Rattle.std.proofs.Common.{◌≡◌, ◌++◌, drop, map}
use Rattle.serve_cluster.specs.declared.change.Change.{Change}
use Rattle.serve_run.proofs.server.sets_of.Given as goal

-- the sets of the changes that are left stand behind those so far
abbrev pub invariant-loop-change : goal.invariant-loop-change
invariant-loop-change l = l.sets ++ map (λ (change : Change). change.shown.certified.sets) (drop l.change-index l.changes) ≡ map (λ (change : Change). change.shown.certified.sets) l.changes
