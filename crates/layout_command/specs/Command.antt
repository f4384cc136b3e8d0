-- What `layout` does with its input and output.
use Rattle.std.specs.Prelude.{◌≡◌, ◌⊎◌, ℕ, ⊤, IsUtf8, List, Option, IfSome, Ok}
use Rattle.lab_outside.specs.declared.ports.Source as source
use Rattle.lab_outside.specs.declared.ports.Sink as sink
use Rattle.lab_outside.specs.declared.exit.Status.{Status}
use Rattle.lab_outside.specs.declared.exit.Status.TheVariants.{Done, Refused, Memory}
use Rattle.lab_outside.specs.Rose.{Rose}
use Rattle.lab_outside.specs.Bytes.{Wrote}
use Rattle.lab_main.specs.Input.{OrTooLong, OfInput}
use Rattle.lab_main.specs.Edges.{IsUnlinked, Edges, IsAnswered}
use Rattle.layout_roles.specs.declared.certified.Certified.{Certified}
use Rattle.layout_roles.specs.Fits.{NodeSet}
use Rattle.layout_roles.specs.Text.{layout_text}
use Rattle.layout_text.specs.Settings.{Settings, said}
use Rattle.layout_text.specs.Old.{said_old}
use Rattle.layout_command.specs.declared.command.Goal.{Goal}
use Rattle.layout_command.specs.declared.command.Goal.TheVariants.{Size, Moves}
use Rattle.layout_command.specs.Answer.{greatest_node, AreEnough, IsLayout, IsAnswer}
use Rattle.layout_command.specs.Moves.{Entry, moves_text, AreFewest, IsMovesAnswer}

-- what is stated for the bytes of a configuration
abbrev pub IsReply : Goal → List ℕ → Status → List ℕ → Type 0
IsReply Size bytes is text = IsAnswer bytes is text
IsReply Moves bytes is text = IsMovesAnswer bytes is text

-- what was written for this input is the text of a layout of its nodes: an assignment of the greatest partition size, and the cut that shows that no greater one has any
pub record IsPrinted (input : List ℕ) (old new : Option (List ℕ)) : Type 0 where
  pub settings : Settings
  pub certified : Certified
  pub is_text : IsUtf8 input
  pub says : said greatest_node input ≡ Ok settings
  pub enough : AreEnough settings
  pub layout : IsLayout settings certified
  pub wrote : Wrote old new (layout_text settings.roles certified)

-- what was written for this input is the text of such a layout that moves the fewest copies from the old sets of the input, with their number and the potentials that show it
pub record IsPrintedMoves (input : List ℕ) (old new : Option (List ℕ)) : Type 0 where
  pub settings : Settings
  pub sets : List NodeSet
  pub certified : Certified
  pub count : ℕ
  pub entries : List Entry
  pub is_text : IsUtf8 input
  pub says : said greatest_node input ≡ Ok settings
  pub says_old : said_old input ≡ Ok sets
  pub enough : AreEnough settings
  pub layout : IsLayout settings certified
  pub fewest : AreFewest settings.roles certified.r certified.size sets certified.sets.sets count entries
  pub wrote : Wrote old new (moves_text settings.roles certified count entries)

-- what Done says
abbrev pub IsPrintedFor : Goal → List ℕ → Option (List ℕ) → Option (List ℕ) → Type 0
IsPrintedFor Size input old new = IsPrinted input old new
IsPrintedFor Moves input old new = IsPrintedMoves input old new

-- the statuses that go with a layout's text, or with the line that says why there is none
abbrev pub IsOfLayout : Status → Type 0
IsOfLayout Done = ⊤
IsOfLayout Refused = ⊤
IsOfLayout _ = ⊥

-- what `layout` does: input and output are as is said of every command; after Done what was written is a layout of the greatest partition size with its cut, or one with the fewest moves; and where no count of faults rose, the status and the whole text that are stated come, which is one status, or memory was wanting
pub record LaysOut {I O : Type 0} (i : source.Ghosts I) (o : sink.Ghosts O) (goal : Goal) (result : Status) (input input' : I) (output output' : O) : Type 0 where
  pub edges : Edges i o (OfInput (IsReply goal) (i.left input)) result input input' output output'
  pub done : result ≡ Done → IfSome (i.left input) (λ bytes. IsPrintedFor goal bytes (o.written output) (o.written output'))
  pub statuses : IsUnlinked result
  pub answered : IsAnswered i o (OfInput (IsReply goal) (i.left input)) result input input' output output'
  pub complete : IfSome (i.left input) (λ bytes. (is : Status) (text : List ℕ) → OrTooLong (IsReply goal) bytes is text →
      (Rose (i.faults input) (i.faults input') → ⊥) → (Rose (o.faults output) (o.faults output') → ⊥) → (result ≡ is) ⊎ (result ≡ Memory))
