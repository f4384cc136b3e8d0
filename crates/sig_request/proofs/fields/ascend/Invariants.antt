use Rattle.std.proofs.Common.{◌≡◌, [], drop}
use Rattle.sig_request.specs.Fields.{ascend_after}
use Rattle.sig_request.proofs.fields.ascend.Given as goal

abbrev pub invariant-loop-name : goal.invariant-loop-name
invariant-loop-name l = ascend_after l.last (drop l.name-index l.names) ≡ ascend_after [] l.names
