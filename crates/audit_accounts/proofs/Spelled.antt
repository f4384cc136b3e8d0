-- The text of a run is the words of what its lines say, those of layouts too.
use Rattle.std.proofs.Common.{◌≡◌, ℕ, Option, Some, None, List, [], ◌∷◌, ◌++◌, flat_map, length, refl, ap, sym, ◌∙◌}
use Rattle.std.specs.List.{AllByRecursion, range_with_len}
use Rattle.std.proofs.lemmas.List.{append-nil}
use Rattle.std.proofs.lemmas.Grind.{flat_map-append}
use Rattle.layout_roles.specs.Text.{layout_text}
use Rattle.crdt_rows.specs.AnyRow.{any_join}
use Rattle.object_schema.specs.Schema.{words}
use Rattle.cluster_machine.specs.declared.applied.Applied.{Applied}
use Rattle.cluster_machine.specs.declared.line.Line.{Line}
use Rattle.cluster_machine.specs.declared.line.Line.TheVariants as line
use Rattle.cluster_machine.specs.Layouts.{layouts}
use Rattle.cluster_machine.specs.World.{NodeLine, node_line}
use Rattle.store_model.specs.declared.event.Numbered.{Numbered}
use Rattle.store_model.specs.Run.{World, State, Outcome, start}
use Rattle.store_model.specs.Events.{Turn, outcome_of, run}
use Rattle.text_model.specs.Transcript.{line_text, event_text, turns_text, shown_text, line_at, end_line, tail_text, transcript}
use Rattle.audit_model.specs.declared.said.Said.{Said}
use Rattle.audit_model.specs.declared.said.Said.TheVariants as said
use Rattle.audit_laws.specs.Told.{said_text, saids_text, event_said, node_said}
use Rattle.audit_laws.proofs.Spelled.{event_line, line_says, node_says, end_says}
use Rattle.audit_sheets.specs.Sheets.{sheet_said, IsOrderly}
use Rattle.audit_accounts.specs.Saying.{IsTold, IsOrderlyLine, TellOrderly, says_all, event_says_all, turns_say_all, shown_said, nodes_said, tail_said, transcript_says}
use Rattle.audit_accounts.proofs.Turns.{AreTold}

-- the text of a layout is the words of what its lines say
abbrev pub SheetsAreSpelled : Type 0
SheetsAreSpelled = (shown : Applied) → IsOrderly shown → layout_text shown.roles.list shown.certified ≡ saids_text (sheet_said shown)

module _ (sheets : SheetsAreSpelled) where
  line_spelled : (l : Line Applied) → IsTold l → IsOrderlyLine l → line_text l ≡ saids_text (says_all l)
  line_spelled (line.Layout shown) told orderly = sheets shown orderly
  line_spelled (line.Got m) told orderly = line_says (line.Got m) told
  line_spelled (line.Sent m k a b) told orderly = line_says (line.Sent m k a b) told
  line_spelled (line.Synced n v) told orderly = line_says (line.Synced n v) told
  line_spelled (line.Dropped n ts id) told orderly = line_says (line.Dropped n ts id) told
  line_spelled (line.Done q w version size md5) told orderly = line_says (line.Done q w version size md5) told
  line_spelled (line.Listed q keys) told orderly = line_says (line.Listed q keys) told
  line_spelled (line.Ended q w) told orderly = line_says (line.Ended q w) told

  lines_spelled : (ls : List (Line Applied)) → AllByRecursion IsTold ls → AllByRecursion IsOrderlyLine ls → flat_map line_text ls ≡ saids_text (flat_map says_all ls)
  lines_spelled [] told orderly = refl
  lines_spelled (l ∷ ls) told orderly =
      (ap (λ t. t ++ flat_map line_text ls) (line_spelled l told.0 orderly.0) ∙ ap (λ t. saids_text (says_all l) ++ t) (lines_spelled ls told.1 orderly.1)) ∙ sym (flat_map-append said_text (says_all l) (flat_map says_all ls))

  event_spelled : (e : Numbered) (o : Outcome) → AllByRecursion IsTold o.lines → AllByRecursion IsOrderlyLine o.lines → event_text e o ≡ saids_text (event_says_all e o)
  event_spelled e o told orderly = ap (λ t. t ++ flat_map line_text o.lines) (event_line e o) ∙ ap (λ t. said_text (event_said e o) ++ t) (lines_spelled o.lines told orderly)

  turns_spelled : (s : State) (ts : List Turn) → AreTold s ts → TellOrderly s ts → turns_text s ts ≡ saids_text (turns_say_all s ts)
  turns_spelled s [] told orderly = refl
  turns_spelled s (t ∷ ts) told orderly =
      let o : Outcome = outcome_of s t in
      (ap (λ x. x ++ turns_text o.state ts) (event_spelled t.numbered o told.0 orderly.0) ∙ ap (λ x. saids_text (event_says_all t.numbered o) ++ x) (turns_spelled o.state ts told.1 orderly.1))
      ∙ sym (flat_map-append said_text (event_says_all t.numbered o) (turns_say_all o.state ts))

shown_spelled : (o : Option NodeLine) → shown_text o ≡ saids_text (shown_said o)
shown_spelled None = refl
shown_spelled (Some n) = node_says n ∙ sym (append-nil (said_text (node_said n)))

nodes_spelled : (w : World) (ns : List ℕ) → flat_map (line_at w) ns ≡ saids_text (flat_map (λ n. shown_said (node_line any_join words layouts w n)) ns)
nodes_spelled w [] = refl
nodes_spelled w (n ∷ ns) =
    (ap (λ t. t ++ flat_map (line_at w) ns) (shown_spelled (node_line any_join words layouts w n)) ∙ ap (λ t. saids_text (shown_said (node_line any_join words layouts w n)) ++ t) (nodes_spelled w ns))
    ∙ sym (flat_map-append said_text (shown_said (node_line any_join words layouts w n)) (flat_map (λ m. shown_said (node_line any_join words layouts w m)) ns))

tail_spelled : (n : ℕ) (s : State) → tail_text n s ≡ saids_text (tail_said n s)
tail_spelled n s =
    let end : Said = said.End n (length s.world.requests) (length s.world.messages) in
    (ap (λ t. t ++ end_line n (length s.world.requests) (length s.world.messages)) (nodes_spelled s.world (range_with_len 1 16))
    ∙ ap (λ t. saids_text (nodes_said s.world) ++ t) (end_says n (length s.world.requests) (length s.world.messages) ∙ sym (append-nil (said_text end))))
    ∙ sym (flat_map-append said_text (nodes_said s.world) (end ∷ []))

-- the whole transcript is
pub transcript_spelled : SheetsAreSpelled → (ts : List Turn) → AreTold start ts → TellOrderly start ts → transcript ts ≡ saids_text (transcript_says ts)
transcript_spelled sheets ts told orderly =
    let last : State = run start ts in
    (ap (λ x. x ++ tail_text (length ts) last) (turns_spelled sheets start ts told orderly) ∙ ap (λ x. saids_text (turns_say_all start ts) ++ x) (tail_spelled (length ts) last))
    ∙ sym (flat_map-append said_text (turns_say_all start ts) (tail_said (length ts) last))
