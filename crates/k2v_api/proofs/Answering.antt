-- What Done says, and all that is said of the command.
use Rattle.std.proofs.Common.{◌≡◌, ℕ, inl, inr, Option, List, sym, ◌∙◌, subst}
use Rattle.lab_outside.specs.declared.ports.Source as source
use Rattle.lab_outside.specs.declared.ports.Sink as sink
use Rattle.lab_outside.specs.declared.exit.Status.{Status}
use Rattle.lab_outside.specs.declared.exit.Status.TheVariants.{Done, Refused, LinkFault, Limit}
use Rattle.lab_outside.specs.Rose.{Rose}
use Rattle.lab_outside.specs.Bytes.{Wrote}
use Rattle.lab_main.specs.Edges.{IsUnlinked, Edges}
use Rattle.lab_main.specs.Input.{OfInput}
use Rattle.lab_main.proofs.Edges.{is_answered}
use Rattle.lab_main.proofs.Stating.{of_done, completes}
use Rattle.k2v_model.specs.Acts.{Act}
use Rattle.k2v_text.specs.declared.event.NumberedItemEvent.{NumberedItemEvent}
use Rattle.k2v_text.specs.Events.{Turn}
use Rattle.k2v_text.specs.Played.{acts_of, events_of, ArePlayed}
use Rattle.k2v_text.specs.Schedule.{Reading, schedule, bad_line as first_bad, too_many, reading, IsSchedule}
use Rattle.k2v_text.specs.Transcript.{transcript}
use Rattle.k2v_replay.specs.Moments.{IsMoment, KeepsItems}
use Rattle.k2v_replay.specs.Replay.{IsReplay, whole, sent}
use Rattle.k2v_api.specs.Answer.{IsAnswer, bad_line, many_events, replayed, IsOfReplay, Agree}
use Rattle.k2v_api.specs.Command.{IsTranscribed, ReplaysItems}

-- a text is a schedule, has a bad line or too many events, and no two of these
one_reading : (r : Reading) (events : List NumberedItemEvent) (n : ℕ) → r ≡ schedule events → r ≡ first_bad n → ⊥
one_reading r events n h k = cc

none_too_many : (r : Reading) (events : List NumberedItemEvent) → r ≡ schedule events → r ≡ too_many → ⊥
none_too_many r events h k = cc

bad_before : (r : Reading) (n : ℕ) → r ≡ first_bad n → r ≡ too_many → ⊥
bad_before r n h k = cc

-- a replay ends with Done or Limit
of_replay : (events : List NumberedItemEvent) (status : Status) (text : List ℕ) → IsReplay events status text → IsOfReplay status
of_replay events status text (whole turns are played e w) = subst IsOfReplay (sym e) tt
of_replay events status text (sent before stops e w) = subst IsOfReplay (sym e) tt

-- one status is stated, but for what a replay's layouts decide
statuses_agree : (input : List ℕ) (s t : Status) (a b : List ℕ) → IsAnswer input s a → IsAnswer input t b → Agree input s t
statuses_agree input s t a b (bad_line n bad e w) (bad_line m worse d v) = inl (e ∙ sym d)
statuses_agree input s t a b (bad_line n bad e w) (many_events many d v) = absurd (bad_before (reading input) n bad many)
statuses_agree input s t a b (bad_line n bad e w) (replayed others spell too) = absurd (one_reading (reading input) others n spell bad)
statuses_agree input s t a b (many_events many e w) (bad_line m worse d v) = absurd (bad_before (reading input) m worse many)
statuses_agree input s t a b (many_events many e w) (many_events over d v) = inl (e ∙ sym d)
statuses_agree input s t a b (many_events many e w) (replayed others spell too) = absurd (none_too_many (reading input) others spell many)
statuses_agree input s t a b (replayed events spells stated) (bad_line m worse d v) = absurd (one_reading (reading input) events m spells worse)
statuses_agree input s t a b (replayed events spells stated) (many_events many d v) = absurd (none_too_many (reading input) events spells many)
statuses_agree input s t a b (replayed events spells stated) (replayed others spell too) =
    inr (record { events = events; spells = spells; answered = of_replay events s a stated; stated = of_replay others t b too })

-- what is owed holds at each moment of turns that were played
abbrev pub AllKeep : Type 0
AllKeep = (turns : List Turn) → ArePlayed turns → (moment : List Act) → IsMoment (acts_of turns) moment → KeepsItems moment

-- the text is the transcript of the events that the input spells
record IsOfTurns (input text : List ℕ) : Type 0 where
  turns : List Turn
  schedule : IsSchedule input (events_of turns)
  played : ArePlayed turns
  is_text : text ≡ transcript turns

of_turns : (input text : List ℕ) (events : List NumberedItemEvent) → IsSchedule input events → IsReplay events Done text → IsOfTurns input text
of_turns input text events spells (whole turns are played e w) = record { turns = turns; schedule = subst (IsSchedule input) (sym are) spells; played = played; is_text = w }
of_turns input text events spells (sent before stops e w) = let no : Done ≡ Limit = e in cc

-- what Done of a replay says
done_of_turns : (input text : List ℕ) → IsAnswer input Done text → IsOfTurns input text
done_of_turns input text (bad_line n bad e w) = let no : Done ≡ Refused = e in cc
done_of_turns input text (many_events many e w) = let no : Done ≡ Limit = e in cc
done_of_turns input text (replayed events spells stated) = of_turns input text events spells stated

done_says : AllKeep → (old new : Option (List ℕ)) (input text : List ℕ) → IsAnswer input Done text → Wrote old new text → IsTranscribed input old new
done_says kept old new input text stated wrote =
    let done = done_of_turns input text stated in
    record {
      turns = done.turns;
      schedule = done.schedule;
      played = done.played;
      wrote = subst (Wrote old new) done.is_text wrote;
      owed = kept done.turns done.played;
    }

no_link : (result : Status) → IsUnlinked result → result ≡ LinkFault → ⊥
no_link result h e = subst IsUnlinked e h

-- all that is said of the command
module _ {I O : Type 0} (i : source.Ghosts I) (o : sink.Ghosts O) (result : Status) (input input' : I) (output output' : O) where
  pub replays : AllKeep → Edges i o (OfInput IsAnswer (i.left input)) result input input' output output' → IsUnlinked result → ReplaysItems i o result input input' output output'
  replays kept edges statuses =
      let answered = is_answered i o (OfInput IsAnswer (i.left input)) input input' output output' result edges (no_link result statuses) in
      record {
        edges = edges;
        done = of_done IsAnswer (λ bytes. IsTranscribed bytes (o.written output) (o.written output')) (o.written output) (o.written output') (done_says kept (o.written output) (o.written output')) (i.left input) result edges.writes.whole;
        statuses = statuses;
        answered = answered;
        complete = completes IsAnswer Agree (λ bytes s t e. inl e) statuses_agree result (o.written output) (o.written output') (Rose (i.faults input) (i.faults input') → ⊥) (Rose (o.faults output) (o.faults output') → ⊥) (i.left input) answered;
      }
