-- The order of what writes leave.
use Rattle.std.specs.declared.cmp.Ordering.{Ordering}
use Rattle.std.specs.declared.cmp.Ordering.TheVariants.{Less, Equal, Greater}
use Rattle.std.specs.Ordering.{nat_cmp}
use Rattle.std.specs.Cmp.Lexicographic.{slice_cmp}
use Rattle.k2v_rows.specs.declared.value.K2vValue.{K2vValue}
use Rattle.k2v_rows.specs.declared.value.K2vValue.TheVariants.{Deleted, Value}

-- Deleted is the least, and two values compare byte by byte
abbrev pub value_cmp : K2vValue → K2vValue → Ordering
value_cmp Deleted Deleted = Equal
value_cmp Deleted (Value b) = Less
value_cmp (Value a) Deleted = Greater
value_cmp (Value a) (Value b) = slice_cmp nat_cmp a b
