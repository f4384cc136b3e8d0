use Rattle.std.proofs.Common.{◌≡◌, drop}
use Rattle.std.specs.Cmp.Lexicographic.{slice_cmp}
use Rattle.crdt_rows.specs.Fields.{header_cmp}
use Rattle.crdt_rows.proofs.body.cmp_each.Given as goal

-- the headers before the place are equal
abbrev pub invariant-loop-i : goal.invariant-loop-i
invariant-loop-i l = slice_cmp header_cmp l.a l.b ≡ slice_cmp header_cmp (drop l.i l.a) (drop l.i l.b)
