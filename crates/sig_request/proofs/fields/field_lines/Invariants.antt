use Rattle.std.proofs.Common.{◌≡◌, ◌++◌, drop}
use Rattle.sig_request.specs.Fields.{field_lines}
use Rattle.sig_request.proofs.fields.field_lines.Given as goal

abbrev pub invariant-loop-name : goal.invariant-loop-name
invariant-loop-name l = l.text ++ field_lines l.fields (drop l.name-index l.names) ≡ field_lines l.fields l.names
