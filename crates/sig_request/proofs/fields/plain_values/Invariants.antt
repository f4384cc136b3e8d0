use Rattle.std.proofs.Common.{◌≡◌, ◌++◌, drop, map}
use Rattle.sig_request.specs.Fields.{plain_value}
use Rattle.sig_request.proofs.fields.plain_values.Given as goal

abbrev pub invariant-loop-value : goal.invariant-loop-value
invariant-loop-value l = l.texts ++ map plain_value (drop l.value-index l.values) ≡ map plain_value l.values
