use Rattle.std.proofs.Common.{◌≡◌, ◌++◌, drop, map}
use Rattle.sig_request.proofs.texts.owned.Given as goal

abbrev pub invariant-loop-slice : goal.invariant-loop-slice
invariant-loop-slice l = l.texts ++ map (λ slice. slice.now) (drop l.slice-index l.slices) ≡ map (λ slice. slice.now) l.slices
