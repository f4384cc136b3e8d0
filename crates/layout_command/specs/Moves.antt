-- What `layout --moves` answers: the layout of a greatest assignment that moves the fewest copies, and the potentials that show it.
use Rattle.std.specs.Prelude.{◌≡◌, ℕ, ◌≤◌, ℤ, pos, nat_eq, map, List, [], ◌∷◌, ◌++◌, flat_map, codes, IsUtf8, Ok, Err}
use Rattle.std.specs.Fmt.{signed_decimal}
use Rattle.std.specs.List.{filter, range_with_len}
use Rattle.std.specs.Cmp.Lexicographic.{pointwise}
use Rattle.lab_outside.specs.declared.exit.Status.{Status}
use Rattle.lab_outside.specs.declared.exit.Status.TheVariants.{Done, Refused}
use Rattle.layout_roles.specs.declared.role.Role.{Role}
use Rattle.layout_roles.specs.declared.vertex.Vertex.{Vertex}
use Rattle.layout_roles.specs.declared.vertex.Vertex.TheVariants.{Source, Node, Sink}
use Rattle.layout_roles.specs.declared.certified.Certified.{Certified}
use Rattle.layout_roles.specs.Fits.{NodeSet, Fits}
use Rattle.layout_roles.specs.Network.{vertices}
use Rattle.layout_roles.specs.Runs.{runs, run_lines}
use Rattle.layout_roles.specs.Text.{word, number, line, is_in_partition, layout_text}
use Rattle.layout_moves.specs.Moves.{moves, bound, potentials}
use Rattle.layout_text.specs.declared.config.FieldName.{FieldName}
use Rattle.layout_text.specs.declared.config.ConfigFault.TheVariants.{Field}
use Rattle.layout_text.specs.Settings.{Settings, said}
use Rattle.layout_text.specs.Old.{said_old}
use Rattle.layout_command.specs.Answer.{greatest_node, field_line, AreEnough, IsLayout, IsLaidOut, IsAnswer}

-- a vertex, and its potential
abbrev pub Entry : Type 0
Entry = Vertex × ℤ

-- a whole number in decimal after one space, with `-` before one below 0
abbrev pub whole : ℤ → List ℕ
whole n = word (signed_decimal n)

-- `moves K`
unfoldable pub moves_line : ℕ → List ℕ
moves_line count = line (codes "moves" ++ number count)

-- the potentials of a partition's vertices, in their order there: up, down, and the zones by name
abbrev pub partition_words : List Entry → ℕ → List ℕ
partition_words entries p = flat_map (λ entry. whole entry.1) (filter (λ entry. is_in_partition p entry.0) entries)

-- `q FIRST LAST` and the potentials
abbrev pub partition_line : ℕ → ℕ → List ℕ → List ℕ
partition_line first last words = line (codes "q" ++ number first ++ number last ++ words)

-- a line for each longest run of partitions with equal potentials
unfoldable pub partition_lines : List Entry → List ℕ
partition_lines entries = run_lines partition_line 0 (runs (pointwise nat_eq) (map (partition_words entries) (range_with_len 0 256)))

-- the potential of a node
abbrev pub node_word : Entry → List ℕ
node_word (Node n, potential) = whole potential
node_word _ = []

-- `qn` and the nodes' potentials, in their order there: ascending by node
unfoldable pub node_line : List Entry → List ℕ
node_line entries = line (codes "qn" ++ flat_map node_word entries)

-- the potential of the sink
abbrev pub sink_word : Entry → List ℕ
sink_word (Sink, potential) = whole potential
sink_word _ = []

-- `qs` and the sink's potential
unfoldable pub sink_line : List Entry → List ℕ
sink_line entries = line (codes "qs" ++ flat_map sink_word entries)

-- the lines of all potentials
unfoldable pub potential_lines : List Entry → List ℕ
potential_lines entries = partition_lines entries ++ node_line entries ++ sink_line entries

-- the text of the layout, the number of moves, and the potentials
abbrev pub moves_text : List Role → Certified → ℕ → List Entry → List ℕ
moves_text roles certified count entries = layout_text roles certified ++ moves_line count ++ potential_lines entries

-- these sets move so many copies, and no assignment that fits the size moves fewer, as the potentials of all vertices but the source show: their bound is that number
pub record AreFewest (roles : List Role) (r size : ℕ) (old sets : List NodeSet) (count : ℕ) (entries : List Entry) : Type 0 where
  pub counted : count ≡ moves old sets
  pub fewest : (others : List NodeSet) → Fits roles r size others → count ≤ moves old others
  pub shown : bound roles r size old (potentials entries) ≡ pos count
  pub listed : Source ∷ map (λ entry. entry.0) entries ≡ vertices roles

-- what is stated for settings and old sets: the reason of `layout` where it is refused, and else a layout of the greatest partition size that moves the fewest copies
pub data IsMoved (settings : Settings) (old : List NodeSet) (status : Status) (text : List ℕ) : Type 0 where
  not_laid_out : IsLaidOut settings Refused text → status ≡ Refused → IsMoved settings old status text
  moved : (certified : Certified) (count : ℕ) (entries : List Entry) → AreEnough settings → IsLayout settings certified →
      AreFewest settings.roles certified.r certified.size old certified.sets.sets count entries →
      status ≡ Done → text ≡ moves_text settings.roles certified count entries → IsMoved settings old status text

-- no settings are said
abbrev pub SaysNone : List ℕ → Type 0
SaysNone input = (settings : Settings) → IsUtf8 input → said greatest_node input ≡ Ok settings → ⊥

-- what is stated for an input: what `layout` answers where no settings are said, then the bad field of the old sets, then the layout
pub data IsMovesAnswer (input : List ℕ) (status : Status) (text : List ℕ) : Type 0 where
  no_settings : SaysNone input → IsAnswer input status text → IsMovesAnswer input status text
  bad_old : (settings : Settings) (name : FieldName) → IsUtf8 input → said greatest_node input ≡ Ok settings → said_old input ≡ Err (Field name) →
      status ≡ Refused → text ≡ field_line name → IsMovesAnswer input status text
  laid_out : (settings : Settings) (old : List NodeSet) → IsUtf8 input → said greatest_node input ≡ Ok settings → said_old input ≡ Ok old →
      IsMoved settings old status text → IsMovesAnswer input status text
