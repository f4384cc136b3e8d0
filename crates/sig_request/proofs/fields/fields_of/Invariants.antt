use Rattle.std.proofs.Common.{◌≡◌, ◌++◌, drop, map}
use Rattle.sig_request.specs.Fields.{field_of}
use Rattle.sig_request.proofs.fields.fields_of.Given as goal

abbrev pub invariant-loop-name : goal.invariant-loop-name
invariant-loop-name l = l.fields ++ map field_of (drop l.name-index l.head.headers) ≡ map field_of l.head.headers
