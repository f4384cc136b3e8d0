use Rattle.std.proofs.Common.{◌≡◌, ◌++◌, drop, map}
use Rattle.sig_request.specs.Query.{parameter_of}
use Rattle.sig_request.proofs.query.spelled.Given as goal

abbrev pub invariant-loop-word : goal.invariant-loop-word
invariant-loop-word l = l.parameters ++ map parameter_of (drop l.word-index l.words) ≡ map parameter_of l.words
