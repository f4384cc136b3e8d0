-- What is written of a workload.
use Rattle.std.proofs.Common.{◌≡◌, ◌≤◌, ◌⊎◌, ℕ, Option, Result, Ok, Err, IfErr, List, [], ◌++◌, length, append-nil, inl, inr, refl, sym, ap, ◌∙◌, subst}
use Rattle.std.specs.Result.{IsErrAnd}
use Rattle.crdt_core.specs.declared.memory.Memory.{Memory as Why}
use Rattle.crdt_core.specs.declared.memory.Memory.TheVariants.{Want}
use Rattle.lab_outside.specs.declared.ports.Sink as sink
use Rattle.lab_outside.specs.declared.exit.Status.{Status}
use Rattle.lab_outside.specs.declared.exit.Status.TheVariants.{Done, Refused, Usage, ReadFault, WriteFault, LinkFault, Memory as MemoryStatus, Limit}
use Rattle.lab_outside.specs.Rose.{Rose}
use Rattle.lab_outside.proofs.Rose.{rose_after}
use Rattle.lab_main.specs.Ends.{Ends}
use Rattle.lab_main.specs.Edges.{IsStated, Answers, Begins, nothing, begun, Writes}
use Rattle.lab_main.proofs.Writing.{wrote_nothing}
use Rattle.lab_main.proofs.Edges.{last_answers, last_begins, ends_fault, whole_writes}
use Rattle.store_model.specs.Run.{start}
use Rattle.store_model.specs.Moments.{IsMoment, between, AtEachMoment}
use Rattle.store_anchors.specs.Promises.{WalksAreClear, KeepsPromises, EveryRunKeepsPromises}
use Rattle.store_model.specs.declared.event.Numbered.{Numbered}
use Rattle.store_model.specs.Events.{Turn, acts_of, events_of, run}
use Rattle.store_model.specs.Fresh.{NoClash}
use Rattle.text_model.specs.Played.{ArePlayed, AreScheduled}
use Rattle.replay_run.specs.declared.account.Account.{Account}
use Rattle.replay_run.specs.declared.account.Account.TheVariants.{Summary}
use Rattle.replay_run.specs.declared.stop.ReplayStop.{ReplayStop}
use Rattle.replay_run.specs.declared.stop.ReplayStop.TheVariants.{Write, Memory, Number, Sent}
use Rattle.replay_run.specs.Account.{IsText, summary_lines, closing}
use Rattle.replay_run.specs.Replay.{sent_line, ReplayLacksRoom, IsReplay, whole, sent}
use Rattle.replay_run.specs.Stop.{IsPart, of_turns as part_of_turns, of_all, IsWhole, Halts, stop_of_memory}
use Rattle.limit_laws.proofs.Fit.{turns_fit}
use Rattle.replay_run.proofs.Causes.{wanting}
use Rattle.replay_run.proofs.Running.{part_none}
use Rattle.replay_run.proofs.Checked.{line_is_fresh}
use Rattle.workload.specs.Schedule.{schedule}
use Rattle.workload.proofs.Allowed.{schedule_is_within}
use Rattle.workload_run.proofs.Collecting.{collects_safely}
use Rattle.workload_run.specs.Answer.{IsAnswer, IsOfWorkload, fresh_summary, IsSummarized, Summarizes}

module _ {O : Type 0} (o : sink.Ghosts O) (count seed : ℕ) (old mid new : O) where
  -- the whole summary was written
  pub summary_writes : IsWhole (Summary count seed) (schedule count seed) (o.written old) (o.written new) → o.faults new ≡ o.faults old → Writes o (IsAnswer count seed) Done old new
  summary_writes h same =
      whole_writes o (IsAnswer count seed) Done old new (record { text = h.text; stated = whole h.turns h.events_are h.played refl h.is_text; wrote = h.wrote }) (λ e. let no : Done ≡ WriteFault = e in cc) same

  part_begins : IsPart (Summary count seed) (schedule count seed) (o.written old) (o.written mid) → Begins (IsAnswer count seed) (o.written old) (o.written mid)
  part_begins (part_of_turns turns first wrote) = nothing (wrote_nothing (o.written old) (o.written mid) wrote)
  part_begins (of_all turns are played text is wrote) = begun Done text (whole turns are played refl is) wrote

  -- nothing more is said
  silent : (result is : Status) → result ≡ is → (IsStated is → ⊥) → new ≡ mid → IsPart (Summary count seed) (schedule count seed) (o.written old) (o.written mid) → (result ≡ WriteFault → Rose (o.faults old) (o.faults mid)) →
      (result ≡ WriteFault) ⊎ (o.faults new ≡ o.faults old) → Writes o (IsAnswer count seed) result old new
  silent result is e never same part rose told = record {
    whole = λ s. absurd (never (subst IsStated e s));
    begins = subst (λ (x : O). Begins (IsAnswer count seed) (o.written old) (o.written x)) (sym same) (part_begins part);
    fault = λ f. subst (λ (x : O). Rose (o.faults old) (o.faults x)) (sym same) (rose f);
    told = told;
  }

  -- how a replay that gave up was told
  module _ (result : Status) (low : o.faults old ≤ o.faults mid) (told : (result ≡ WriteFault) ⊎ (o.faults new ≡ o.faults old)) where
    pub halted_writes : (stop : ReplayStop) → Halts (Summary count seed) (schedule count seed) stop (o.written old) (o.written mid) → (stop ≡ Number → ⊥) → (stop ≡ Write → Rose (o.faults old) (o.faults mid)) →
        (stop ≡ Sent → Ends Limit sent_line result (o.written mid) (o.written new) (o.faults mid) (o.faults new)) → (stop ≡ Write → (result ≡ WriteFault) × (new ≡ mid)) → (stop ≡ Memory → (result ≡ MemoryStatus) × (new ≡ mid)) →
        Writes o (IsAnswer count seed) result old new
    halted_writes Write h never rose ends write memory = let w = write refl in silent result WriteFault w.0 (λ s. s) w.1 h (λ f. rose refl) told
    halted_writes Memory h never rose ends write memory =
        let m = memory refl in silent result MemoryStatus m.0 (λ s. s) m.1 h (λ f. let no : MemoryStatus ≡ WriteFault = sym m.0 ∙ f in cc) told
    halted_writes Number h never rose ends write memory = absurd (never refl)
    halted_writes Sent h never rose ends write memory =
        let k = ends refl in
        record {
          whole = last_answers (IsAnswer count seed) Limit h.before sent_line result (o.written old) (o.written mid) (o.written new) (o.faults mid) (o.faults new) h.stated h.wrote k;
          begins = last_begins (IsAnswer count seed) Limit h.before sent_line result (o.written old) (o.written mid) (o.written new) (o.faults mid) (o.faults new) h.stated h.wrote k;
          fault = λ f. rose_after (o.faults old) (o.faults mid) (o.faults new) low (ends_fault Limit sent_line result (o.written mid) (o.written new) (o.faults mid) (o.faults new) (λ e. let no : Limit ≡ WriteFault = e in cc) k f);
          told = told;
        }

-- where a failed write is told before and after, it is told
pub told_both : {A : Type 0} (stop : ReplayStop) (result : Status) (before faults risen : ℕ) (Same : Type 0) → ((◌≡◌ {A = Result A ReplayStop} (Err stop) (Err Write)) ⊎ (faults ≡ before)) → (stop ≡ Write → (result ≡ WriteFault) × Same) → (result ≡ WriteFault) ⊎ (risen ≡ faults) →
    (result ≡ WriteFault) ⊎ (risen ≡ before)
told_both stop result before faults risen Same (inl e) write later = let is : stop ≡ Write = cc in inl (write is).0
told_both stop result before faults risen Same (inr same) write (inl e) = inl e
told_both stop result before faults risen Same (inr same) write (inr also) = inr (also ∙ same)

-- the text is all that is written of the events
record IsOfTurns (account : Account) (events : List Numbered) (text : List ℕ) : Type 0 where
  turns : List Turn
  events_are : events_of turns ≡ events
  played : ArePlayed turns
  is_text : IsText account turns text

of_turns : (account : Account) (events : List Numbered) (text : List ℕ) → IsReplay account events Done text → IsOfTurns account events text
of_turns account events text (whole turns are played e w) = record { turns = turns; events_are = are; played = played; is_text = w }
of_turns account events text (sent before stops e w) = cc

-- what Done says
module _ (always : EveryRunKeepsPromises) (count seed : ℕ) (old new : Option (List ℕ)) where
  kept : (turns : List Turn) → ArePlayed turns → AtEachMoment KeepsPromises (acts_of turns)
  kept turns played = always (acts_of turns) played.lawful (turns_fit start turns played.go_on)

  at_last : (turns : List Turn) → IsMoment (acts_of turns) (acts_of turns)
  at_last turns = between (acts_of turns) [] (sym (append-nil (acts_of turns)))

  summary_is_fresh : (turns : List Turn) (text : List ℕ) → events_of turns ≡ schedule count seed → ArePlayed turns → IsText (Summary count seed) turns text → WalksAreClear (acts_of turns) → NoClash (run start turns).buckets → text ≡ fresh_summary count seed turns
  summary_is_fresh turns text scheduled played h clear apart =
      h.text_is ∙ h.ends.text_is
      ∙ ap (λ line. summary_lines count seed (run start turns) ++ closing (length turns) (run start turns) line) (line_is_fresh (run start turns).history h.ends.line ((kept turns played (acts_of turns) (at_last turns)).recorded clear (collects_safely turns count seed scheduled) apart) h.ends.is_line)

  done_summarizes : Answers (IsAnswer count seed) Done old new → IsSummarized count seed old new
  done_summarizes h =
      let done = of_turns (Summary count seed) (schedule count seed) h.text h.stated in
      record {
        turns = done.turns;
        schedule_is = done.events_are;
        played = done.played;
        text = h.text;
        is_text = done.is_text;
        is_fresh = summary_is_fresh done.turns h.text done.events_are done.played done.is_text;
        wrote = h.wrote;
        promises = kept done.turns done.played;
      }

-- nothing was written yet where the schedule could not be made
pub none_halts : {T : Type 0} (account : Account) (events : List Numbered) (old : Option (List ℕ)) (r : Result T ReplayStop) (why : Why) → IsErrAnd r (λ x. x ≡ stop_of_memory why) → why ≡ Want → IfErr r (λ stop. Halts account events stop old old)
none_halts account events old r why is want = wanting r why (λ stop. Halts account events stop old old) is (part_none account old events) want

-- a workload's replay never lacks room
pub never_number : ((events : List Numbered) → AreScheduled events → ReplayLacksRoom events → ⊥) → (count seed : ℕ) → count ≤ 100000 → {T : Type 0} (account : Account) (old new : Option (List ℕ)) (r : Result T ReplayStop) (events : List Numbered) → events ≡ schedule count seed →
    IfErr r (λ stop. Halts account events stop old new) → r ≡ Err Number → ⊥
never_number room count seed few account old new (Ok x) events is h e = cc
never_number room count seed few account old new (Err stop) events is h e =
    let same : stop ≡ Number = cc in
    room events (subst AreScheduled (sym is) (schedule_is_within count seed few)) (subst (λ (s : ReplayStop). Halts account events s old new) same h).1

-- all that is said of the command
module _ {O : Type 0} (o : sink.Ghosts O) (always : EveryRunKeepsPromises) (count seed : ℕ) (old new : O) where
  answered_by : (result : Status) → Writes o (IsAnswer count seed) result old new → IsOfWorkload result → (Rose (o.faults old) (o.faults new) → ⊥) → Answers (IsAnswer count seed) result (o.written old) (o.written new) ⊎ (result ≡ MemoryStatus)
  answered_by Done h of_workload none = inl (h.whole tt)
  answered_by Limit h of_workload none = inl (h.whole tt)
  answered_by MemoryStatus h of_workload none = inr refl
  answered_by WriteFault h of_workload none = absurd (none (h.fault refl))
  answered_by Refused h of_workload none = absurd of_workload
  answered_by Usage h of_workload none = absurd of_workload
  answered_by ReadFault h of_workload none = absurd of_workload
  answered_by LinkFault h of_workload none = absurd of_workload

  pub summarizes : (result : Status) → Writes o (IsAnswer count seed) result old new → IsOfWorkload result → Summarizes o count seed result old new
  summarizes result h of_workload = record {
    writes = h;
    done = λ e. let P : Status → Type 0 = λ s. IsStated s → Answers (IsAnswer count seed) s (o.written old) (o.written new) in done_summarizes always count seed (o.written old) (o.written new) (subst P e h.whole tt);
    statuses = of_workload;
    answered = answered_by result h of_workload;
  }
