use Rattle.std.proofs.Common.{◌≡◌, ◌++◌, drop}
use Rattle.sig_request.specs.Fields.{values_of}
use Rattle.sig_request.proofs.fields.values_of.Given as goal

abbrev pub invariant-loop-field : goal.invariant-loop-field
invariant-loop-field l = l.values ++ values_of l.name (drop l.field-index l.fields) ≡ values_of l.name l.fields
