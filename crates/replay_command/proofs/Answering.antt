-- One status is stated, but for a replay's layouts; and what Done says.
use Rattle.std.proofs.Common.{◌≡◌, ℕ, ◌⊎◌, inl, inr, Option, List, [], ◌++◌, length, sym, ap, ◌∙◌, subst, append-nil}
use Rattle.lab_outside.specs.declared.ports.Source as source
use Rattle.lab_outside.specs.declared.ports.Sink as sink
use Rattle.lab_outside.specs.declared.exit.Status.{Status}
use Rattle.lab_outside.specs.declared.exit.Status.TheVariants.{Done, Refused, LinkFault, Limit}
use Rattle.lab_outside.specs.Rose.{Rose}
use Rattle.lab_outside.specs.Bytes.{Wrote}
use Rattle.lab_main.specs.Input.{OfInput}
use Rattle.lab_main.specs.Edges.{IsUnlinked, Edges}
use Rattle.lab_main.proofs.Edges.{is_answered}
use Rattle.lab_main.proofs.Stating.{of_done, completes}
use Rattle.store_model.specs.declared.event.Numbered.{Numbered}
use Rattle.store_model.specs.Run.{start}
use Rattle.store_model.specs.Events.{Turn, acts_of, events_of, run}
use Rattle.store_model.specs.Moments.{between, AtEachMoment}
use Rattle.store_model.specs.Fresh.{NoClash}
use Rattle.text_model.specs.Reading.{Reading, schedule, bad_line as first_bad, too_many, reading, IsSchedule}
use Rattle.text_model.specs.Transcript.{turns_text, transcript}
use Rattle.text_model.specs.Played.{ArePlayed}
use Rattle.replay_run.specs.declared.account.Account.{Account}
use Rattle.replay_run.specs.declared.account.Account.TheVariants.{Transcript, Checked, Summary}
use Rattle.replay_run.specs.Account.{closing, IsText}
use Rattle.replay_run.specs.Replay.{IsReplay, whole, sent}
use Rattle.limit_laws.proofs.Fit.{turns_fit}
use Rattle.replay_run.proofs.Limits.{all_allowed}
use Rattle.replay_run.proofs.Checked.{line_is_fresh}
use Rattle.store_anchors.specs.Promises.{WalksAreClear, KeepsPromises, EveryRunKeepsPromises}
use Rattle.prompt_laws.specs.Times.{CollectsInTime, IsPromptIfTimely}
use Rattle.prompt_laws.proofs.Safely.{TimelyTurnsArePrompt, collects_safely}
use Rattle.replay_command.specs.Answer.{IsAnswer, bad_line, many_events, replayed, IsOfReplay, Agree}
use Rattle.replay_command.specs.Replay.{checked_transcript, IsWhole, Replays}
use Rattle.replay_command.proofs.Stating.{EveryFits}

-- a text is a schedule, has a bad line or too many events, and no two of these
one_reading : (r : Reading) (events : List Numbered) (n : ℕ) → r ≡ schedule events → r ≡ first_bad n → ⊥
one_reading r events n h k = cc

none_too_many : (r : Reading) (events : List Numbered) → r ≡ schedule events → r ≡ too_many → ⊥
none_too_many r events h k = cc

bad_before : (r : Reading) (n : ℕ) → r ≡ first_bad n → r ≡ too_many → ⊥
bad_before r n h k = cc

-- a replay ends with Done or Limit
of_replay : (account : Account) (events : List Numbered) (status : Status) (text : List ℕ) → IsReplay account events status text → IsOfReplay status
of_replay account events status text (whole turns are played e w) = subst IsOfReplay (sym e) tt
of_replay account events status text (sent before stops e w) = subst IsOfReplay (sym e) tt

-- one status is stated, but for what a replay's layouts decide
statuses_agree : (account : Account) (input : List ℕ) (s t : Status) (a b : List ℕ) → IsAnswer account input s a → IsAnswer account input t b → Agree input s t
statuses_agree account input s t a b (bad_line n bad e w) (bad_line m worse d v) = inl (e ∙ sym d)
statuses_agree account input s t a b (bad_line n bad e w) (many_events many d v) = absurd (bad_before (reading input) n bad many)
statuses_agree account input s t a b (bad_line n bad e w) (replayed others spell too) = absurd (one_reading (reading input) others n spell bad)
statuses_agree account input s t a b (many_events many e w) (bad_line m worse d v) = absurd (bad_before (reading input) m worse many)
statuses_agree account input s t a b (many_events many e w) (many_events over d v) = inl (e ∙ sym d)
statuses_agree account input s t a b (many_events many e w) (replayed others spell too) = absurd (none_too_many (reading input) others spell many)
statuses_agree account input s t a b (replayed events spells stated) (bad_line m worse d v) = absurd (one_reading (reading input) events m spells worse)
statuses_agree account input s t a b (replayed events spells stated) (many_events many d v) = absurd (none_too_many (reading input) events spells many)
statuses_agree account input s t a b (replayed events spells stated) (replayed others spell too) =
    inr (record { events = events; spells = spells; answered = of_replay account events s a stated; stated = of_replay account others t b too })

-- what is promised holds at each moment of turns that were played
played_promises : EveryRunKeepsPromises → (turns : List Turn) → ArePlayed turns → AtEachMoment KeepsPromises (acts_of turns)
played_promises kept turns played = kept (acts_of turns) played.lawful (turns_fit start turns played.go_on)

-- and turns of a schedule that were played are prompt if they are timely
played_prompt : EveryFits → TimelyTurnsArePrompt → (input : List ℕ) (turns : List Turn) → IsSchedule input (events_of turns) → ArePlayed turns → IsPromptIfTimely (acts_of turns)
played_prompt fits timely input turns spells played = timely turns (all_allowed turns (fits input (events_of turns) spells).allowed) played.lawful

-- the text is the whole account of what the input spells
record IsOfTurns (account : Account) (input text : List ℕ) : Type 0 where
  turns : List Turn
  schedule : IsSchedule input (events_of turns)
  played : ArePlayed turns
  is_text : IsText account turns text

of_turns : (account : Account) (input text : List ℕ) (events : List Numbered) → IsSchedule input events → IsReplay account events Done text → IsOfTurns account input text
of_turns account input text events spells (whole turns are played e w) = record { turns = turns; schedule = subst (IsSchedule input) (sym are) spells; played = played; is_text = w }
of_turns account input text events spells (sent before stops e w) = let no : Done ≡ Limit = e in cc

-- what Done of a replay says
done_of_turns : (account : Account) (input text : List ℕ) → IsAnswer account input Done text → IsOfTurns account input text
done_of_turns account input text (bad_line n bad e w) = let no : Done ≡ Refused = e in cc
done_of_turns account input text (many_events many e w) = let no : Done ≡ Limit = e in cc
done_of_turns account input text (replayed events spells stated) = of_turns account input text events spells stated

-- without a check it is the transcript
plain_text : (turns : List Turn) (text : List ℕ) → IsText Transcript turns text → text ≡ transcript turns
plain_text turns text h = h.text_is ∙ ap (λ t. turns_text start turns ++ t) (h.ends.text_is ∙ ap (λ line. closing (length turns) (run start turns) line) h.ends.is_line)

-- and where all reads are fresh, with a check that says so
check_is_fresh : (turns : List Turn) (text : List ℕ) → KeepsPromises (acts_of turns) → IsPromptIfTimely (acts_of turns) → IsText Checked turns text →
    WalksAreClear (acts_of turns) → CollectsInTime (acts_of turns) → NoClash (run start turns).buckets → text ≡ checked_transcript turns
check_is_fresh turns text kept prompt h clear in_time apart =
    let safely = collects_safely (acts_of turns) prompt in_time in
    h.text_is ∙ ap (λ t. turns_text start turns ++ t) (h.ends.text_is ∙ ap (λ line. closing (length turns) (run start turns) line) (line_is_fresh (run start turns).history h.ends.line (kept.recorded clear safely apart) h.ends.is_line))

-- all of it
module _ (kept : EveryRunKeepsPromises) (fits : EveryFits) (timely : TimelyTurnsArePrompt) (old new : Option (List ℕ)) (input text : List ℕ) where
  at_last : (turns : List Turn) → ArePlayed turns → KeepsPromises (acts_of turns)
  at_last turns played = played_promises kept turns played (acts_of turns) (between (acts_of turns) [] (sym (append-nil (acts_of turns))))

  prompt_if_timely : (account : Account) (done : IsOfTurns account input text) → IsPromptIfTimely (acts_of done.turns)
  prompt_if_timely account done = played_prompt fits timely input done.turns done.schedule done.played

  of_account : (account : Account) → IsOfTurns account input text → Wrote old new text → IsWhole account input old new
  of_account Transcript done wrote = record {
    turns = done.turns;
    schedule = done.schedule;
    played = done.played;
    wrote = subst (Wrote old new) (plain_text done.turns text done.is_text) wrote;
    promises = played_promises kept done.turns done.played;
    prompt = prompt_if_timely Transcript done;
  }
  of_account Checked done wrote = record {
    turns = done.turns;
    schedule = done.schedule;
    played = done.played;
    text = text;
    is_text = done.is_text;
    is_fresh = check_is_fresh done.turns text (at_last done.turns done.played) (prompt_if_timely Checked done) done.is_text;
    wrote = wrote;
    promises = played_promises kept done.turns done.played;
    prompt = prompt_if_timely Checked done;
  }
  of_account (Summary count seed) done wrote = record {
    turns = done.turns;
    schedule = done.schedule;
    played = done.played;
    text = text;
    is_text = done.is_text;
    wrote = wrote;
    promises = played_promises kept done.turns done.played;
    prompt = prompt_if_timely (Summary count seed) done;
  }

-- the text is the whole account
done_says : EveryRunKeepsPromises → EveryFits → TimelyTurnsArePrompt → (account : Account) (old new : Option (List ℕ)) (input text : List ℕ) → IsAnswer account input Done text → Wrote old new text → IsWhole account input old new
done_says kept fits timely account old new input text stated wrote = of_account kept fits timely old new input text account (done_of_turns account input text stated) wrote

no_link : (result : Status) → IsUnlinked result → result ≡ LinkFault → ⊥
no_link result h e = subst IsUnlinked e h

-- all that is said of the command
module _ {I O : Type 0} (i : source.Ghosts I) (o : sink.Ghosts O) (account : Account) (result : Status) (input input' : I) (output output' : O) where
  pub replays : EveryRunKeepsPromises → EveryFits → TimelyTurnsArePrompt → Edges i o (OfInput (IsAnswer account) (i.left input)) result input input' output output' → IsUnlinked result → Replays i o account result input input' output output'
  replays kept fits timely edges statuses =
      let answered = is_answered i o (OfInput (IsAnswer account) (i.left input)) input input' output output' result edges (no_link result statuses) in
      record {
        edges = edges;
        done = of_done (IsAnswer account) (λ bytes. IsWhole account bytes (o.written output) (o.written output')) (o.written output) (o.written output') (done_says kept fits timely account (o.written output) (o.written output')) (i.left input) result edges.writes.whole;
        statuses = statuses;
        answered = answered;
        complete = completes (IsAnswer account) Agree (λ bytes s t e. inl e) (statuses_agree account) result (o.written output) (o.written output') (Rose (i.faults input) (i.faults input') → ⊥) (Rose (o.faults output) (o.faults output') → ⊥) (i.left input) answered;
      }
