use Rattle.std.proofs.Common.{◌≡◌, ◌++◌, take, flat_map}
use Rattle.chart_page.specs.Escaped.{escaped_byte}
use Rattle.chart_page.proofs.pieces.escape.Given as goal

abbrev pub invariant-loop-byte : goal.invariant-loop-byte
invariant-loop-byte l = l.page ≡ l.fn.page ++ flat_map escaped_byte (take l.byte-index l.bytes)
