-- A round's partitions, each with the marks of its set.
use Rattle.std.specs.Prelude.{ℕ, ◌==◌, not, if◌then◌else◌, List, map, count_by}
use Rattle.std.specs.List.{filter}
use Rattle.std.specs.Map.{values_of}
use Rattle.std.specs.BTreeMap.{BTreeMap}
use Rattle.quorum_tally.specs.declared.marks.Marks.{Marks}
use Rattle.quorum_tally.specs.Marks.{marks_after, three, has_two}

-- the nodes of a set that haven't confirmed
abbrev pub missing_of : Marks → List ℕ
missing_of s = map (λ m. m.node) (filter (λ m. not m.is_confirmed) (three s))

-- partitions with the marks of their sets
abbrev pub Entries : Type 0
Entries = List (ℕ × Marks)

-- the entries after a node confirmed the partition p
abbrev pub entries_after : ℕ → ℕ → Entries → Entries
entries_after p node es = map (λ e. (e.0, (if p == e.0 then marks_after node e.1 else e.1))) es

-- how many of the sets lack two confirmations
abbrev pub lacking_of : Entries → ℕ
lacking_of es = count_by (λ s. not (has_two s)) (values_of es)

-- how many partitions of a map lack two confirmations
abbrev pub lacking_in : BTreeMap ℕ Marks → ℕ
lacking_in m = lacking_of m.entries
