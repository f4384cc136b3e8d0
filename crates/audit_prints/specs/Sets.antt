-- How the sets of partitions are read from lines, one line after another.
use Rattle.std.specs.Prelude.{◌≡◌, Bool, nat_lt, IsTrue, length, List, ◌∷◌, ◌++◌}
use Rattle.std.specs.List.{list_any}
use Rattle.layout_roles.specs.Fits.{NodeSet}
use Rattle.audit_model.specs.declared.said.Said.{Said}
use Rattle.audit_model.specs.Printed.{sets_from}
use Rattle.audit_prints.specs.declared.sets.Went.{Went}
use Rattle.audit_prints.specs.declared.sets.Went.TheVariants.{On, Over, High}

-- a node's number has more than a byte
abbrev pub has_high : NodeSet → Bool
has_high set = list_any (nat_lt 255) set

-- these sets, and those of the partitions after them that lines give
abbrev pub with_lines : List NodeSet → List Said → List NodeSet
with_lines sets saids = sets ++ sets_from (length sets) saids

-- after one line more: it gave sets, or is passed over; or no more sets are given; or one that was given has such a number
abbrev pub WentSo : Went → List NodeSet → List NodeSet → Said → List Said → Type 0
WentSo On old new said rest = with_lines old (said ∷ rest) ≡ with_lines new rest
WentSo Over old new said rest = with_lines old (said ∷ rest) ≡ new
WentSo High old new said rest = IsTrue (list_any has_high (with_lines old (said ∷ rest)))
