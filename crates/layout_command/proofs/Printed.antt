-- What Done says, and how the command ends.
use Rattle.std.proofs.Common.{◌≡◌, ℕ, ◌⊎◌, Option, List, sym, ◌∙◌, subst, Ok}
use Rattle.std.specs.Prelude.{IsUtf8}
use Rattle.lab_outside.specs.declared.ports.Source as source
use Rattle.lab_outside.specs.declared.ports.Sink as sink
use Rattle.lab_outside.specs.declared.exit.Status.{Status}
use Rattle.lab_outside.specs.declared.exit.Status.TheVariants.{Done, Refused, Usage, ReadFault, WriteFault, LinkFault, Memory as MemoryStatus, Limit}
use Rattle.lab_outside.specs.Rose.{Rose}
use Rattle.lab_outside.specs.Bytes.{Wrote}
use Rattle.lab_main.specs.Ends.{Ends, said as said_whole, cut_off}
use Rattle.lab_main.specs.Input.{OfInput}
use Rattle.lab_main.specs.Edges.{IsUnlinked, Edges}
use Rattle.lab_main.proofs.Edges.{is_answered}
use Rattle.lab_main.proofs.Stating.{of_done, completes}
use Rattle.layout_roles.specs.Fits.{NodeSet}
use Rattle.layout_text.specs.Settings.{Settings, said as said_in}
use Rattle.layout_text.specs.Old.{said_old}
use Rattle.layout_command.specs.declared.command.Goal.{Goal}
use Rattle.layout_command.specs.declared.command.Goal.TheVariants.{Size, Moves}
use Rattle.layout_command.specs.Answer.{greatest_node, IsLaidOut, few_nodes, few_zones, none, layout, IsAnswer, not_text, not_toml, bad_field, laid_out}
use Rattle.layout_command.specs.Moves.{IsMoved, not_laid_out, moved as moved_by, SaysNone, IsMovesAnswer, no_settings, bad_old, laid_out as lays_moves}
use Rattle.layout_command.specs.Command.{IsReply, IsPrinted, IsPrintedMoves, IsPrintedFor, IsOfLayout, LaysOut}

-- what Done of a layout says
module _ (input : List ℕ) (old new : Option (List ℕ)) (text : List ℕ) (wrote : Wrote old new text) where
  settled : (settings : Settings) → IsUtf8 input → said_in greatest_node input ≡ Ok settings → IsLaidOut settings Done text → IsPrinted input old new
  settled settings u says (few_nodes few e w) = cc
  settled settings u says (few_zones all less e w) = cc
  settled settings u says (none cut all is e w) = cc
  settled settings u says (layout certified all is e w) =
      record { settings = settings; certified = certified; is_text = u; says = says; enough = all; layout = is; wrote = subst (Wrote old new) w wrote }

  printed : IsAnswer input Done text → IsPrinted input old new
  printed (not_text h e w) = cc
  printed (not_toml u h e w) = cc
  printed (bad_field name u h e w) = cc
  printed (laid_out settings u h e) = settled settings u h e

  fewest : (settings : Settings) (sets : List NodeSet) → IsUtf8 input → said_in greatest_node input ≡ Ok settings → said_old input ≡ Ok sets → IsMoved settings sets Done text → IsPrintedMoves input old new
  fewest settings sets u says says_old (not_laid_out h e) = cc
  fewest settings sets u says says_old (moved_by certified count entries all is few e w) =
      record {
        settings = settings;
        sets = sets;
        certified = certified;
        count = count;
        entries = entries;
        is_text = u;
        says = says;
        says_old = says_old;
        enough = all;
        layout = is;
        fewest = few;
        wrote = subst (Wrote old new) w wrote;
      }

  no_layout : SaysNone input → IsAnswer input Done text → ⊥
  no_layout never (not_text h e w) = cc
  no_layout never (not_toml u h e w) = cc
  no_layout never (bad_field name u h e w) = cc
  no_layout never (laid_out settings u h e) = never settings u h

  moves_printed : IsMovesAnswer input Done text → IsPrintedMoves input old new
  moves_printed (no_settings never h) = absurd (no_layout never h)
  moves_printed (bad_old settings name u h k e w) = cc
  moves_printed (lays_moves settings sets u h k e) = fewest settings sets u h k e

-- a layout's status is Done or Refused
laid_of_layout : (settings : Settings) (status : Status) (text : List ℕ) → IsLaidOut settings status text → IsOfLayout status
laid_of_layout settings status text (few_nodes few e w) = subst IsOfLayout (sym e) tt
laid_of_layout settings status text (few_zones all less e w) = subst IsOfLayout (sym e) tt
laid_of_layout settings status text (none cut all is e w) = subst IsOfLayout (sym e) tt
laid_of_layout settings status text (layout certified all is e w) = subst IsOfLayout (sym e) tt

answer_of_layout : (input : List ℕ) (status : Status) (text : List ℕ) → IsAnswer input status text → IsOfLayout status
answer_of_layout input status text (not_text h e w) = subst IsOfLayout (sym e) tt
answer_of_layout input status text (not_toml u h e w) = subst IsOfLayout (sym e) tt
answer_of_layout input status text (bad_field name u h e w) = subst IsOfLayout (sym e) tt
answer_of_layout input status text (laid_out settings u h e) = laid_of_layout settings status text e

moved_of_layout : (settings : Settings) (sets : List NodeSet) (status : Status) (text : List ℕ) → IsMoved settings sets status text → IsOfLayout status
moved_of_layout settings sets status text (not_laid_out h e) = subst IsOfLayout (sym e) tt
moved_of_layout settings sets status text (moved_by certified count entries all is few e w) = subst IsOfLayout (sym e) tt

moves_of_layout : (input : List ℕ) (status : Status) (text : List ℕ) → IsMovesAnswer input status text → IsOfLayout status
moves_of_layout input status text (no_settings never h) = answer_of_layout input status text h
moves_of_layout input status text (bad_old settings name u h k e w) = subst IsOfLayout (sym e) tt
moves_of_layout input status text (lays_moves settings sets u h k e) = moved_of_layout settings sets status text e

-- what is answered has such a status
pub reply_of_layout : (goal : Goal) (input : List ℕ) (status : Status) (text : List ℕ) → IsReply goal input status text → IsOfLayout status
reply_of_layout Size input status text h = answer_of_layout input status text h
reply_of_layout Moves input status text h = moves_of_layout input status text h

pub no_write_fault : (status : Status) → IsOfLayout status → status ≡ WriteFault → ⊥
no_write_fault status h e = subst IsOfLayout e h

-- the statuses with which a text that is answered ends
module _ (goal : Goal) (input : List ℕ) (is : Status) (text said_text : List ℕ) (result : Status) (old new : Option (List ℕ)) (faults risen : ℕ) (stated : IsReply goal input is text) where
  of_is : IsOfLayout is → (P : Status → Type 0) → P Done → P Refused → P is
  of_is h P done refused = by_status is h
    where
      by_status : (s : Status) → IsOfLayout s → P s
      by_status Done k = done
      by_status Refused k = refused
      by_status Usage k = absurd k
      by_status ReadFault k = absurd k
      by_status WriteFault k = absurd k
      by_status LinkFault k = absurd k
      by_status MemoryStatus k = absurd k
      by_status Limit k = absurd k

  pub said_statuses : Ends is said_text result old new faults risen → IsUnlinked result
  said_statuses (said_whole e wrote) = subst IsUnlinked (sym e) (of_is (reply_of_layout goal input is text stated) IsUnlinked tt tt)
  said_statuses (cut_off e rose wrote) = subst IsUnlinked (sym e) tt

  pub said_no_read : Ends is said_text result old new faults risen → result ≡ ReadFault → ⊥
  said_no_read (said_whole e wrote) k = subst IsOfLayout (sym e ∙ k) (reply_of_layout goal input is text stated)
  said_no_read (cut_off e rose wrote) k = let no : WriteFault ≡ ReadFault = sym e ∙ k in cc

-- the text is that of a layout
print_for : (goal : Goal) (old new : Option (List ℕ)) (input text : List ℕ) → IsReply goal input Done text → Wrote old new text → IsPrintedFor goal input old new
print_for Size old new input text stated wrote = printed input old new text wrote stated
print_for Moves old new input text stated wrote = moves_printed input old new text wrote stated

-- one status is stated for a layout, whichever sets are chosen
abbrev pub OneStatus : Type 0
OneStatus = (input : List ℕ) (first second : Status) (text other : List ℕ) → IsAnswer input first text → IsAnswer input second other → first ≡ second

-- and for one with the fewest moves
abbrev pub OneMovesStatus : Type 0
OneMovesStatus = (input : List ℕ) (first second : Status) (text other : List ℕ) → IsMovesAnswer input first text → IsMovesAnswer input second other → first ≡ second

one_for : OneStatus → OneMovesStatus → (goal : Goal) (input : List ℕ) (first second : Status) (text other : List ℕ) → IsReply goal input first text → IsReply goal input second other → first ≡ second
one_for one moves Size input first second text other h k = one input first second text other h k
one_for one moves Moves input first second text other h k = moves input first second text other h k

no_link : (result : Status) → IsUnlinked result → result ≡ LinkFault → ⊥
no_link result h e = subst IsUnlinked e h

-- all that is said of the command
module _ {I O : Type 0} (i : source.Ghosts I) (o : sink.Ghosts O) (goal : Goal) (result : Status) (input input' : I) (output output' : O) where
  pub lays_out : OneStatus → OneMovesStatus → Edges i o (OfInput (IsReply goal) (i.left input)) result input input' output output' → IsUnlinked result → LaysOut i o goal result input input' output output'
  lays_out one moves edges statuses =
      let answered = is_answered i o (OfInput (IsReply goal) (i.left input)) input input' output output' result edges (no_link result statuses) in
      record {
        edges = edges;
        done = of_done (IsReply goal) (λ bytes. IsPrintedFor goal bytes (o.written output) (o.written output')) (o.written output) (o.written output') (print_for goal (o.written output) (o.written output')) (i.left input) result edges.writes.whole;
        statuses = statuses;
        answered = answered;
        complete = completes (IsReply goal) (λ bytes s t. s ≡ t) (λ bytes s t e. e) (one_for one moves goal) result (o.written output) (o.written output') (Rose (i.faults input) (i.faults input') → ⊥) (Rose (o.faults output) (o.faults output') → ⊥) (i.left input) answered;
      }
