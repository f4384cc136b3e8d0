use Rattle.std.proofs.Common.{◌≡◌, ◌++◌, drop, map}
use Rattle.sig_request.specs.Query.{parameter_text}
use Rattle.sig_request.proofs.query.parameter_texts.Given as goal

abbrev pub invariant-loop-parameter : goal.invariant-loop-parameter
invariant-loop-parameter l = l.texts ++ map parameter_text (drop l.parameter-index l.parameters) ≡ map parameter_text l.parameters
