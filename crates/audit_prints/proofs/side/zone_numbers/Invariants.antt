use Rattle.std.proofs.Common.{◌≡◌, take}
use Rattle.audit_prints.specs.Sides.{zone_numbers}
use Rattle.audit_prints.proofs.side.zone_numbers.Given as goal

abbrev pub invariant-loop-name : goal.invariant-loop-name
invariant-loop-name l = l.numbers ≡ zone_numbers l.names (take l.name-index l.zones)
