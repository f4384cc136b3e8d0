-- How the calls of a replay end.
use Rattle.std.proofs.Common.{◌≡◌, ℕ, ◌≤◌, ◌⊎◌, Option, Result, Ok, Err, IfErr, List, [], ◌++◌, refl, sym, ◌∙◌, subst, append_assoc, inl, inr}
use Rattle.std.specs.Result.{IsErrAnd}
use Rattle.lab_outside.specs.declared.ports.Sink as sink
use Rattle.lab_outside.specs.declared.exit.Status.{Status}
use Rattle.lab_outside.specs.declared.exit.Status.TheVariants.{Done, Refused, ReadFault, WriteFault, Memory as MemoryStatus, Limit}
use Rattle.lab_outside.specs.Rose.{Rose}
use Rattle.lab_outside.specs.Bytes.{Wrote}
use Rattle.lab_outside.proofs.Bytes.{wrote_none, wrote_more, wrote_prefix_more}
use Rattle.lab_outside.proofs.Rose.{rose_before, rose_after}
use Rattle.lab_main.specs.Ends.{said, cut_off}
use Rattle.lab_main.specs.Edges.{IsStated, IsUnlinked, Answers, Begins, nothing, begun, Writes}
use Rattle.lab_main.proofs.Edges.{last_answers, last_begins, whole_writes}
use Rattle.lab_main.proofs.Writing.{wrote_nothing}
use Rattle.store_model.specs.declared.event.Numbered.{Numbered}
use Rattle.store_model.specs.Events.{Turn}
use Rattle.text_model.specs.Reading.{IsSchedule, IsFirstBadLine, HasTooManyEvents}
use Rattle.text_model.specs.Played.{AreScheduled}
use Rattle.replay_run.specs.declared.account.Account.{Account}
use Rattle.replay_run.specs.Account.{front}
use Rattle.replay_run.specs.declared.stop.ReplayStop.{ReplayStop}
use Rattle.replay_run.specs.declared.stop.ReplayStop.TheVariants as halt
use Rattle.replay_run.specs.Replay.{sent_line, AreFirst, ReplayLacksRoom, whole, GoesFurther}
use Rattle.replay_run.specs.Stop.{IsPart, of_turns, of_all, IsWhole, Halts as RunHalts}
use Rattle.replay_command.specs.declared.stop.Stop.{Stop}
use Rattle.replay_command.specs.declared.stop.Stop.TheVariants.{Write, Memory, TooManyEvents, BadLine, Number, Sent}
use Rattle.replay_command.specs.Answer.{events_line, bad_line_text, IsAnswer, bad_line, many_events, replayed}
use Rattle.replay_command.specs.Stop.{status_of, said_of, stop_of_replay, Halts, IsNearly, IsOfSchedule, Says, ended, unsaid}
use Rattle.replay_command.proofs.Stating.{EveryFits}

-- the text is no schedule, and nothing was written
no_schedule : (account : Account) (input : List ℕ) (old : Option (List ℕ)) (stop : Stop) → IsOfSchedule stop → ((n : ℕ) → stop ≡ BadLine n → IsFirstBadLine input n) → (stop ≡ TooManyEvents → HasTooManyEvents input) → Halts account input stop old old
no_schedule account input old Memory of_schedule bad many = nothing (wrote_none old)
no_schedule account input old TooManyEvents of_schedule bad many = record { front = []; wrote = wrote_none old; stated = many_events (many refl) refl refl }
no_schedule account input old (BadLine n) of_schedule bad many = record { front = []; wrote = wrote_none old; stated = bad_line n (bad n refl) refl refl }
no_schedule account input old Write of_schedule bad many = absurd of_schedule
no_schedule account input old Number of_schedule bad many = absurd of_schedule
no_schedule account input old Sent of_schedule bad many = absurd of_schedule

pub schedule_halts : {A : Type 0} (account : Account) (input : List ℕ) (old : Option (List ℕ)) (stop : Stop) → IsOfSchedule stop → ((n : ℕ) → stop ≡ BadLine n → IsFirstBadLine input n) → (stop ≡ TooManyEvents → HasTooManyEvents input) →
    (r : Result A Stop) → IsErrAnd r (λ e. e ≡ stop) → IfErr r (λ stop. Halts account input stop old old)
schedule_halts account input old stop of_schedule bad many (Ok x) is = tt
schedule_halts account input old stop of_schedule bad many (Err e) is = subst (λ (s : Stop). Halts account input s old old) (sym is) (no_schedule account input old stop of_schedule bad many)

-- no replay of a schedule lacks room
abbrev NoneLacks : Type 0
NoneLacks = (events : List Numbered) → AreScheduled events → ReplayLacksRoom events → ⊥

-- what is written of the first events begins what is stated of all
abbrev AllGoFurther : Type 0
AllGoFurther = (account : Account) (events : List Numbered) (turns : List Turn) → AreScheduled events → AreFirst events turns → GoesFurther account events turns

-- what was written for the events of a schedule
module _ (fits : EveryFits) (account : Account) (input : List ℕ) (events : List Numbered) (spells : IsSchedule input events) (old new : Option (List ℕ)) where
  of_part : AllGoFurther → IsPart account events old new → Begins (IsAnswer account input) old new
  of_part further (of_turns turns first wrote) =
      let g = further account events turns (fits input events spells) first in
      begun g.status (front account turns ++ g.rest) (replayed events spells g.stated) (wrote_prefix_more old new (front account turns) g.rest wrote)
  of_part further (of_all turns are played text is wrote) = begun Done text (replayed events spells (whole turns are played refl is)) wrote

  run_halted : AllGoFurther → NoneLacks → (stop : ReplayStop) → RunHalts account events stop old new → Halts account input (stop_of_replay stop) old new
  run_halted further room halt.Write h = of_part further h
  run_halted further room halt.Memory h = of_part further h
  run_halted further room halt.Number h = room events (fits input events spells) h.1
  run_halted further room halt.Sent h = record { front = h.before; wrote = h.wrote; stated = replayed events spells h.stated }

  pub write_halts : {A : Type 0} → AllGoFurther → NoneLacks → (r : Result A Stop) (stop : ReplayStop) → IsErrAnd r (λ e. e ≡ stop_of_replay stop) → RunHalts account events stop old new → IfErr r (λ stop. Halts account input stop old new)
  write_halts further room (Ok x) stop is h = tt
  write_halts further room (Err e) stop is h = subst (λ (s : Stop). Halts account input s old new) (sym is) (run_halted further room stop h)

  pub write_done : IsWhole account events old new → Answers (IsAnswer account input) Done old new
  write_done h = record { text = h.text; stated = replayed events spells (whole h.turns h.events_are h.played refl h.is_text); wrote = h.wrote }

-- nothing more was written
kept : (Stated : Status → List ℕ → Type 0) (old mid new : Option (List ℕ)) → Begins Stated old mid → Wrote mid new [] → Begins Stated old new
kept Stated old mid new (nothing wrote) k = nothing (wrote_more old mid new [] [] wrote k)
kept Stated old mid new (begun is text stated wrote) k = begun is text stated (record {
  front = wrote.front ++ [];
  rest = wrote.rest;
  whole = append_assoc wrote.front [] wrote.rest ∙ wrote.whole;
  wrote = wrote_more old mid new wrote.front [] wrote.wrote k;
})

-- nothing more is said
module _ (status result : Status) (mid new : Option (List ℕ)) (faults risen : ℕ) where
  silent_wrote : Says status [] result mid new faults risen → Wrote mid new []
  silent_wrote (ended (said is wrote)) = wrote
  silent_wrote (ended (cut_off is rose wrote)) = wrote_nothing mid new wrote
  silent_wrote (unsaid is wrote) = wrote

  silent_unstated : Says status [] result mid new faults risen → (IsStated status → ⊥) → IsStated result → ⊥
  silent_unstated (ended (said is wrote)) never stated = never (subst IsStated is stated)
  silent_unstated (ended (cut_off is rose wrote)) never stated = subst IsStated is stated
  silent_unstated (unsaid is wrote) never stated = subst IsStated is stated

-- the last text of a replay that gave up
module _ (account : Account) (input : List ℕ) (status result : Status) (last : List ℕ) (old mid new : Option (List ℕ)) (faults risen : ℕ) (near : IsNearly account input status last old mid) where
  nearly_said : Says status last result mid new faults risen → IsStated result → Answers (IsAnswer account input) result old new
  nearly_said (ended h) stated = last_answers (IsAnswer account input) status near.front last result old mid new faults risen near.stated near.wrote h stated
  nearly_said (unsaid is wrote) stated = absurd (subst IsStated is stated)

  nearly_begins : Says status last result mid new faults risen → Begins (IsAnswer account input) old new
  nearly_begins (ended h) = last_begins (IsAnswer account input) status near.front last result old mid new faults risen near.stated near.wrote h
  nearly_begins (unsaid is wrote) = begun status (near.front ++ last) near.stated (record {
    front = near.front ++ [];
    rest = last;
    whole = append_assoc near.front [] last;
    wrote = wrote_more old mid new near.front [] near.wrote wrote;
  })

module _ (account : Account) (input : List ℕ) (result : Status) (old mid new : Option (List ℕ)) (faults risen : ℕ) where
  stopped_answers : (stop : Stop) → Halts account input stop old mid → Says (status_of stop) (said_of stop) result mid new faults risen → IsStated result → Answers (IsAnswer account input) result old new
  stopped_answers Write h says stated = absurd (silent_unstated WriteFault result mid new faults risen says (λ x. x) stated)
  stopped_answers Memory h says stated = absurd (silent_unstated MemoryStatus result mid new faults risen says (λ x. x) stated)
  stopped_answers TooManyEvents h says stated = nearly_said account input Limit result events_line old mid new faults risen h says stated
  stopped_answers (BadLine n) h says stated = nearly_said account input Refused result (bad_line_text n) old mid new faults risen h says stated
  stopped_answers Number h says stated = absurd h
  stopped_answers Sent h says stated = nearly_said account input Limit result sent_line old mid new faults risen h says stated

  stopped_begins : (stop : Stop) → Halts account input stop old mid → Says (status_of stop) (said_of stop) result mid new faults risen → Begins (IsAnswer account input) old new
  stopped_begins Write h says = kept (IsAnswer account input) old mid new h (silent_wrote WriteFault result mid new faults risen says)
  stopped_begins Memory h says = kept (IsAnswer account input) old mid new h (silent_wrote MemoryStatus result mid new faults risen says)
  stopped_begins TooManyEvents h says = nearly_begins account input Limit result events_line old mid new faults risen h says
  stopped_begins (BadLine n) h says = nearly_begins account input Refused result (bad_line_text n) old mid new faults risen h says
  stopped_begins Number h says = absurd h
  stopped_begins Sent h says = nearly_begins account input Limit result sent_line old mid new faults risen h says

write_alone : (stop : Stop) → status_of stop ≡ WriteFault → stop ≡ Write
write_alone Write e = refl
write_alone Memory e = cc
write_alone TooManyEvents e = cc
write_alone (BadLine n) e = cc
write_alone Number e = cc
write_alone Sent e = cc

halted_fault : (stop : Stop) (result : Status) (mid new : Option (List ℕ)) (before faults risen : ℕ) → Says (status_of stop) (said_of stop) result mid new faults risen → (stop ≡ Write → Rose before faults) →
    before ≤ faults → faults ≤ risen → result ≡ WriteFault → Rose before risen
halted_fault stop result mid new before faults risen (ended (said is wrote)) rose low high e = rose_before before faults risen (rose (write_alone stop (sym is ∙ e))) high
halted_fault stop result mid new before faults risen (ended (cut_off is later wrote)) rose low high e = rose_after before faults risen low later
halted_fault stop result mid new before faults risen (unsaid is wrote) rose low high e = let no : MemoryStatus ≡ WriteFault = sym is ∙ e in cc

-- what was written of a replay that ended or gave up
module _ {O : Type 0} (o : sink.Ghosts O) (account : Account) (input : List ℕ) (old mid new : O) where
  pub done_writes : Answers (IsAnswer account input) Done (o.written old) (o.written new) → o.faults new ≡ o.faults old → Writes o (IsAnswer account input) Done old new
  done_writes h same = whole_writes o (IsAnswer account input) Done old new h (λ e. let no : Done ≡ WriteFault = e in cc) same

  pub halted_writes : (stop : Stop) (result : Status) → Halts account input stop (o.written old) (o.written mid) → Says (status_of stop) (said_of stop) result (o.written mid) (o.written new) (o.faults mid) (o.faults new) → (stop ≡ Write → Rose (o.faults old) (o.faults mid)) →
      o.faults old ≤ o.faults mid → o.faults mid ≤ o.faults new → (result ≡ WriteFault) ⊎ (o.faults new ≡ o.faults old) → Writes o (IsAnswer account input) result old new
  halted_writes stop result h says rose low high told = record {
    whole = stopped_answers account input result (o.written old) (o.written mid) (o.written new) (o.faults mid) (o.faults new) stop h says;
    begins = stopped_begins account input result (o.written old) (o.written mid) (o.written new) (o.faults mid) (o.faults new) stop h says;
    fault = halted_fault stop result (o.written mid) (o.written new) (o.faults old) (o.faults mid) (o.faults new) says rose low high;
    told = told;
  }

-- where a failed write is told before and after, it is told
pub told_both : {A : Type 0} (stop : Stop) (result : Status) (before faults risen : ℕ) → ((◌≡◌ {A = Result A Stop} (Err stop) (Err Write)) ⊎ (faults ≡ before)) → (stop ≡ Write → result ≡ WriteFault) → (result ≡ WriteFault) ⊎ (risen ≡ faults) → (result ≡ WriteFault) ⊎ (risen ≡ before)
told_both stop result before faults risen (inl e) write later = let is : stop ≡ Write = cc in inl (write is)
told_both stop result before faults risen (inr same) write (inl e) = inl e
told_both stop result before faults risen (inr same) write (inr also) = inr (also ∙ same)

-- the statuses with which it ends
by_stop : (P : Status → Type 0) → P WriteFault → P MemoryStatus → P Limit → P Refused → (stop : Stop) → P (status_of stop)
by_stop P w m l r Write = w
by_stop P w m l r Memory = m
by_stop P w m l r TooManyEvents = l
by_stop P w m l r (BadLine n) = r
by_stop P w m l r Number = l
by_stop P w m l r Sent = l

pub stop_statuses : (stop : Stop) (result : Status) (mid new : Option (List ℕ)) (faults risen : ℕ) → Says (status_of stop) (said_of stop) result mid new faults risen → IsUnlinked result
stop_statuses stop result mid new faults risen (ended (said is wrote)) = subst IsUnlinked (sym is) (by_stop IsUnlinked tt tt tt tt stop)
stop_statuses stop result mid new faults risen (ended (cut_off is rose wrote)) = subst IsUnlinked (sym is) tt
stop_statuses stop result mid new faults risen (unsaid is wrote) = subst IsUnlinked (sym is) tt

-- none of them is that of a failed read
abbrev IsOther : Status → Type 0
IsOther status = status ≡ ReadFault → ⊥

pub stop_no_read : (stop : Stop) (result : Status) (mid new : Option (List ℕ)) (faults risen : ℕ) → Says (status_of stop) (said_of stop) result mid new faults risen → result ≡ ReadFault → ⊥
stop_no_read stop result mid new faults risen (ended (said is wrote)) e = by_stop IsOther (λ k. cc) (λ k. cc) (λ k. cc) (λ k. cc) stop (sym is ∙ e)
stop_no_read stop result mid new faults risen (ended (cut_off is rose wrote)) e = let no : WriteFault ≡ ReadFault = sym is ∙ e in cc
stop_no_read stop result mid new faults risen (unsaid is wrote) e = let no : MemoryStatus ≡ ReadFault = sym is ∙ e in cc
