-- When the partitions of a round are confirmed, and which nodes are waited for.
use Rattle.std.specs.Prelude.{ℕ, Bool, not, if◌then◌else◌, ◌==◌, ◌&&◌, List, [], ◌∷◌, length}
use Rattle.std.specs.List.{filter, list_all, list_any}
use Rattle.std.specs.Ordering.{nat_cmp}
use Rattle.std.specs.BTreeMap.{insert_entry}
use Rattle.quorum_model.specs.Quorum.{is_among, two_of}

-- the nodes of the set that aren't among these
abbrev pub missing : List ℕ → List ℕ → List ℕ
missing set nodes = filter (λ n. not (is_among n nodes)) set

-- partitions with their sets, put in order: of a partition that comes twice the later set stands
abbrev pub ordered_after : List (ℕ × List ℕ) → List (ℕ × List ℕ) → List (ℕ × List ℕ)
ordered_after made [] = made
ordered_after made (part ∷ parts) = ordered_after (insert_entry nat_cmp made part.0 part.1) parts

-- the sets in order of partitions
abbrev pub by_partition : List (ℕ × List ℕ) → List (ℕ × List ℕ)
by_partition parts = ordered_after [] parts

-- the nodes that were told for the partition p
abbrev pub told_for : ℕ → List (ℕ × ℕ) → List ℕ
told_for p [] = []
told_for p (t ∷ ts) = if t.0 == p then t.1 ∷ told_for p ts else told_for p ts

-- the nodes that have confirmed the partition p: the round's own node, and those that were told for it
abbrev pub confirmed : ℕ → List (ℕ × ℕ) → ℕ → List ℕ
confirmed own told p = own ∷ told_for p told

-- two of the nodes of each partition have confirmed it
abbrev pub is_complete : List (ℕ × List ℕ) → ℕ → List (ℕ × ℕ) → Bool
is_complete parts own told = list_all (λ part. two_of part.1 (confirmed own told part.0)) parts

-- each partition that some node hasn't confirmed, with these nodes
abbrev pub open_parts : List (ℕ × List ℕ) → ℕ → List (ℕ × ℕ) → List (ℕ × List ℕ)
open_parts [] own told = []
open_parts (part ∷ parts) own told =
    let left = missing part.1 (confirmed own told part.0) in
    let rest = open_parts parts own told in
    if length left == 0 then rest else (part.0, left) ∷ rest

-- p is one of the partitions, and the node is in its set
abbrev pub is_asked : List (ℕ × List ℕ) → ℕ → ℕ → Bool
is_asked parts p node = list_any (λ part. (p == part.0) && is_among node part.1) parts
