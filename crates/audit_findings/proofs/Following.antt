-- The run that a text's prints give is followed turn by turn: at its end, at the first difference or where the limit is passed something is found.
use Rattle.std.proofs.Common.{◌≡◌, ◌≤◌, ◌<◌, ◌⊎◌, inl, inr, ℕ, suc, Some, List, [], ◌∷◌, ◌++◌, length, refl, sym, ap, subst, ◌∙◌, append_assoc, append-nil, length-append, arith}
use Rattle.std.specs.List.{AllByRecursion}
use Rattle.history_model.specs.declared.record.Record.{Record}
use Rattle.history_model.specs.Fresh.{Fresh}
use Rattle.history_model.specs.Pairs.{pair_count}
use Rattle.object_schema.specs.Schema.{words}
use Rattle.cluster_machine.specs.World.{sent_bytes}
use Rattle.cluster_machine.specs.Choices.{Decision}
use Rattle.store_model.specs.declared.event.Event.{Event}
use Rattle.store_model.specs.declared.event.Event.TheVariants.{Trio, Block, Bucket, Role, Redundancy, Apply, Tick, Skew, Put, Get, Head, Delete, Copy, List as Keys, Deliver, Lose, Drain, Expire, Restart, Gossip, Ack, Sync, SyncAck, Clean, Work, Repair, Collect}
use Rattle.store_model.specs.declared.event.Numbered.{Numbered}
use Rattle.store_model.specs.Run.{State, start}
use Rattle.store_model.specs.Acts.{IsLawfulAct}
use Rattle.store_model.specs.Events.{Turn, act_of, outcome, outcome_of, after, events_of, run}
use Rattle.text_model.specs.Grammar.{lines_of, IsAllowed}
use Rattle.text_model.specs.Played.{Step, steps_of, HasSent, GoesOn, AllGoOn, ArePlayed, AreScheduled, AreAllowed}
use Rattle.text_model.specs.Transcript.{event_text, turns_text, tail_text, transcript}
use Rattle.audit_model.specs.declared.said.Said.{Said}
use Rattle.audit_model.specs.Heard.{AreReadable}
use Rattle.audit_model.specs.Printed.{Print, all_prints, print_at, IsLawfulPrint}
use Rattle.audit_model.specs.Audit.{IsGiven, AreGiven, ArePrinted, AreFirstPrinted, DifferFirst, Finding, Finds, differs, too_much, ok, other_text, other_before, past_limit, all_well}
use Rattle.audit_runs.specs.Alike.{DifferInCut, DifferInCuts}
use Rattle.audit_findings.proofs.Ends.{turns_whole}
use Rattle.audit_findings.proofs.Limit.{sent_alike}
use Rattle.audit_findings.specs.Next.{turned, Chosen, Passes}
use Rattle.audit_findings.proofs.Lines.{Lines, Begins, on, off, begins, Compared, same, other, compared, further}

-- ---- what is known of runs

-- turns given so have a replay beside them
abbrev pub HaveBeside : Type 0
HaveBeside = (events : List Numbered) (saids : List Said) (turns : List Turn) → AreScheduled events → AllByRecursion IsLawfulPrint (all_prints events saids) → AreFirstPrinted events (all_prints events saids) turns →
    (others : List Turn) × (DifferInCuts turns others × ArePlayed others)

-- the next event can be given what the prints say
abbrev pub CanChoose : Type 0
CanChoose = (events : List Numbered) (saids : List Said) (others : List Turn) (e : Numbered) → AreScheduled events → AllByRecursion IsLawfulPrint (all_prints events saids) → ArePlayed others → AreAllowed others → IsAllowed e.event →
    Chosen (all_prints events saids) (run start others) e

-- a lawful turn goes on or passes the limit
abbrev pub GoOrPass : Type 0
GoOrPass = (others : List Turn) (next : Turn) → ArePlayed others → AreAllowed others → length others < 100000 → IsAllowed next.numbered.event → IsLawfulAct (run start others) (act_of next.numbered.event next.choice) →
    AllByRecursion GoesOn (steps_of (run start others) next.numbered.event next.choice) ⊎ Passes (steps_of (run start others) next.numbered.event next.choice)

-- turns that differ in cuts lead to one state, and go on together
pub record CutsChangeNone : Type 0 where
  pub events : (turns others : List Turn) → DifferInCuts turns others → events_of turns ≡ events_of others
  pub end : (s : State) (turns others : List Turn) → DifferInCuts turns others → run s turns ≡ run s others
  pub go_on : (s : State) (turns others : List Turn) → DifferInCuts turns others → AllGoOn s turns → AllGoOn s others

-- ---- one more turn

snoc_text : (s : State) (ts : List Turn) (t : Turn) → turns_text s (ts ++ t ∷ []) ≡ turns_text s ts ++ event_text t.numbered (outcome_of (run s ts) t)
snoc_text s [] t = append-nil (event_text t.numbered (outcome_of s t))
snoc_text s (u ∷ us) t =
    let here : List ℕ = event_text u.numbered (outcome_of s u) in
    ap (λ x. here ++ x) (snoc_text (after s u) us t) ∙ sym (append_assoc here (turns_text (after s u) us) (event_text t.numbered (outcome_of (run (after s u) us) t)))

snoc_given : (ps : List Print) (s : State) (ts : List Turn) (t : Turn) → AreGiven ps s ts → IsGiven (run s ts) t (print_at ps t.numbered.line) → AreGiven ps s (ts ++ t ∷ [])
snoc_given ps s [] t h k = (k, tt)
snoc_given ps s (u ∷ us) t h k = (h.0, snoc_given ps (after s u) us t h.1 k)

snoc_go : (s : State) (ts : List Turn) (t : Turn) → AllGoOn s ts → AllByRecursion GoesOn (steps_of (run s ts) t.numbered.event t.choice) → AllGoOn s (ts ++ t ∷ [])
snoc_go s [] t h k = (k, tt)
snoc_go s (u ∷ us) t h k = (h.0, snoc_go (after s u) us t h.1 k)

snoc_events : (ts : List Turn) (t : Turn) (later : List Numbered) → events_of ts ++ t.numbered ∷ later ≡ events_of (ts ++ t ∷ []) ++ later
snoc_events [] t later = refl
snoc_events (u ∷ us) t later = ap (λ x. u.numbered ∷ x) (snoc_events us t later)

length_events : (ts : List Turn) → length (events_of ts) ≡ length ts
length_events [] = refl
length_events (t ∷ ts) = ap suc (length_events ts)

allowed_turns : (ts : List Turn) (later : List Numbered) → AllByRecursion (λ (e : Numbered). IsAllowed e.event) (events_of ts ++ later) → AreAllowed ts
allowed_turns [] later h = tt
allowed_turns (t ∷ ts) later h = (h.0, allowed_turns ts later h.1)

allowed_next : (es later : List Numbered) (e : Numbered) → AllByRecursion (λ (x : Numbered). IsAllowed x.event) (es ++ e ∷ later) → IsAllowed e.event
allowed_next [] later e h = h.0
allowed_next (x ∷ es) later e h = allowed_next es later e h.1

-- ---- the limit, with another cut

only_one : (one last : Step) (first rest : List Step) → one ∷ [] ≡ first ++ last ∷ rest → one ≡ last
only_one one last [] rest e = cc
only_one one last (x ∷ []) rest e = cc
only_one one last (x ∷ y ∷ first) rest e = cc

passes_alike : (s : State) (e : Event) (c d : Decision) → Passes (steps_of s e c) → Passes (steps_of s e d)
passes_alike s (Apply n) c d p =
    let one : Step = record { from = s; outcome = outcome s (Apply n) c } in
    let is : one ≡ p.last = only_one one p.last p.first p.rest p.steps_are in
    let sent : HasSent (outcome s (Apply n) c).state p.bytes = subst (λ (x : Step). HasSent x.outcome.state p.bytes) (sym is) p.sent in
    record {
      first = [];
      last = record { from = s; outcome = outcome s (Apply n) d };
      rest = [];
      steps_are = refl;
      first_go_on = tt;
      bytes = p.bytes;
      sent = subst (λ m. sent_bytes words m ≡ Some p.bytes) (sent_alike s n c d) sent;
      beyond = p.beyond;
    }
passes_alike s Trio c d p = p
passes_alike s (Block size) c d p = p
passes_alike s (Bucket name) c d p = p
passes_alike s (Role n role) c d p = p
passes_alike s (Redundancy wanted) c d p = p
passes_alike s (Tick ms) c d p = p
passes_alike s (Skew n ms) c d p = p
passes_alike s (Put n bucket key size fill) c d p = p
passes_alike s (Get n bucket key) c d p = p
passes_alike s (Head n bucket key) c d p = p
passes_alike s (Delete n bucket key) c d p = p
passes_alike s (Copy n from_bucket from_key bucket key) c d p = p
passes_alike s (Keys n bucket prefix) c d p = p
passes_alike s (Deliver m) c d p = p
passes_alike s (Lose m) c d p = p
passes_alike s (Drain n) c d p = p
passes_alike s (Expire q) c d p = p
passes_alike s (Restart n) c d p = p
passes_alike s (Gossip from to) c d p = p
passes_alike s (Ack n) c d p = p
passes_alike s (Sync n) c d p = p
passes_alike s (SyncAck n) c d p = p
passes_alike s (Clean n) c d p = p
passes_alike s (Work n) c d p = p
passes_alike s (Repair n) c d p = p
passes_alike s (Collect n) c d p = p

-- ---- the whole run

module _ (beside : HaveBeside) (choose : CanChoose) (goes : GoOrPass) (cuts : CutsChangeNone) (events : List Numbered) (text : List ℕ) (saids : List Said) (history : List Record)
    (scheduled : AreScheduled events) (readable : AreReadable events (lines_of text) saids history) (fresh : Fresh history) (lawful : AllByRecursion IsLawfulPrint (all_prints events saids)) where
  abbrev ps : List Print
  ps = all_prints events saids

  -- something is found
  abbrev pub SomeFinding : Type 0
  SomeFinding = (f : Finding) × Finds events text f

  abbrev lines_told : List Turn → Lines
  lines_told ts = lines_of (turns_text start ts)

  -- the text goes on behind the lines of these turns
  record Reached (before : List Turn) (later : List Numbered) : Type 0 where
    given : AreGiven ps start before
    go_on : AllGoOn start before
    whole : events ≡ events_of before ++ later
    more : Lines
    told : lines_of text ≡ lines_told before ++ more

  at_end : (before : List Turn) → Reached before [] → SomeFinding
  at_end before r = by_tail (compared r.more tail)
    where
      tail : Lines
      tail = lines_of (tail_text (length before) (run start before))

      whole_text : lines_of (transcript before) ≡ lines_told before ++ tail
      whole_text = turns_whole start before (tail_text (length before) (run start before))

      printed : ArePrinted events ps before
      printed = record { events_are = sym (r.whole ∙ append-nil (events_of before)); given = r.given; go_on = r.go_on }

      by_tail : Compared r.more tail → SomeFinding
      by_tail (same is) = (ok (pair_count history), all_well saids history before readable fresh lawful printed (r.told ∙ (ap (λ x. lines_told before ++ x) is ∙ sym whole_text)))
      by_tail (other j d) =
          let f = further (lines_told before) r.more tail j d in
          (differs f.0, other_text saids history before f.0 readable fresh lawful printed (subst (λ x. DifferFirst (lines_of text) x f.0) (sym whole_text) (subst (λ x. DifferFirst x (lines_told before ++ tail) f.0) (sym r.told) f.1.0)))

  -- the next turn
  record Next (before : List Turn) (e : Numbered) : Type 0 where
    choice : Decision
    given : IsGiven (run start before) (turned e choice) (print_at ps e.line)
    ends : AllByRecursion GoesOn (steps_of (run start before) e.event choice) ⊎ Passes (steps_of (run start before) e.event choice)

  next_of : (before : List Turn) (e : Numbered) (later : List Numbered) → Reached before (e ∷ later) → Next before e
  next_of before e later r =
      let first : AreFirstPrinted events ps before = record { given = r.given; go_on = r.go_on; later = e ∷ later; whole = r.whole } in
      let b = beside events saids before scheduled lawful first in
      let others : List Turn = b.0 in
      let state : run start others ≡ run start before = sym (cuts.end start before others b.1.0) in
      let names : events_of before ≡ events_of others = cuts.events before others b.1.0 in
      let all : AllByRecursion (λ (x : Numbered). IsAllowed x.event) (events_of others ++ e ∷ later) = subst (λ x. AllByRecursion (λ (y : Numbered). IsAllowed y.event) (x ++ e ∷ later)) names (subst (AllByRecursion (λ (y : Numbered). IsAllowed y.event)) r.whole scheduled.allowed) in
      let allowed : AreAllowed others = allowed_turns others (e ∷ later) all in
      let here : IsAllowed e.event = allowed_next (events_of others) later e all in
      let few : length others < 100000 = fewer others (ap length r.whole ∙ ap (λ x. length (x ++ e ∷ later)) names) in
      let c : Chosen ps (run start others) e = choose events saids others e scheduled lawful b.1.1 allowed here in
      let ends = goes others (turned e c.beside) b.1.1 allowed few here c.lawful in
      record {
        choice = c.choice;
        given = subst (λ (s : State). IsGiven s (turned e c.choice) (print_at ps e.line)) state c.given;
        ends = subst (λ (s : State). AllByRecursion GoesOn (steps_of s e.event c.choice) ⊎ Passes (steps_of s e.event c.choice)) state (with_cut (run start others) c.beside c.choice c.differ ends);
      }
    where
      fewer : (others : List Turn) → length events ≡ length (events_of others ++ e ∷ later) → length others < 100000
      fewer others count =
          let parts = length-append (events_of others) (e ∷ later) in
          let turns = length_events others in
          let most = scheduled.few in
          omega arith

      with_cut : (s : State) (c d : Decision) → DifferInCut c d → AllByRecursion GoesOn (steps_of s e.event c) ⊎ Passes (steps_of s e.event c) → AllByRecursion GoesOn (steps_of s e.event d) ⊎ Passes (steps_of s e.event d)
      with_cut s c d differ (inl h) = inl (cuts.go_on s (turned e c ∷ []) (turned e d ∷ []) (refl, differ, tt) (h, tt)).0
      with_cut s c d differ (inr p) = inr (passes_alike s e.event c d p)

  -- how it goes on
  data StepOn (before : List Turn) (e : Numbered) (later : List Numbered) : Type 0 where
    found : SomeFinding → StepOn before e later
    goes_on : (c : Decision) → Reached (before ++ turned e c ∷ []) later → StepOn before e later

  step_on : (before : List Turn) (e : Numbered) (later : List Numbered) → Reached before (e ∷ later) → StepOn before e later
  step_on before e later r = by_end (next_of before e later r)
    where
      passed : (n : Next before e) → Passes (steps_of (run start before) e.event n.choice) → SomeFinding
      passed n p = (
        too_much,
        past_limit saids history before r.more readable fresh lawful
            (record {
              given = r.given;
              go_on = r.go_on;
              next = turned e n.choice;
              later = later;
              whole = r.whole;
              next_given = n.given;
              first = p.first;
              last = p.last;
              rest = p.rest;
              steps = p.steps_are;
              first_go_on = p.first_go_on;
              bytes = p.bytes;
              sent = p.sent;
              beyond = p.beyond;
            })
            r.told,
      )

      own : Decision → Lines
      own c = lines_of (event_text e (outcome_of (run start before) (turned e c)))

      told_next : (c : Decision) → lines_told (before ++ turned e c ∷ []) ≡ lines_told before ++ own c
      told_next c = ap lines_of (snoc_text start before (turned e c)) ∙ turns_whole start before (event_text e (outcome_of (run start before) (turned e c)))

      by_text : (n : Next before e) → AllByRecursion GoesOn (steps_of (run start before) e.event n.choice) → Begins r.more (own n.choice) → StepOn before e later
      by_text n h (on rest is) =
          let t : Turn = turned e n.choice in
          goes_on n.choice (record {
            given = snoc_given ps start before t r.given n.given;
            go_on = snoc_go start before t r.go_on h;
            whole = r.whole ∙ snoc_events before t later;
            more = rest;
            told = r.told ∙ (ap (λ x. lines_told before ++ x) is ∙ (sym (append_assoc (lines_told before) (own n.choice) rest) ∙ ap (λ x. x ++ rest) (sym (told_next n.choice))));
          })
      by_text n h (off j d le) =
          let t : Turn = turned e n.choice in
          let f = further (lines_told before) r.more (own n.choice) j d in
          let first : AreFirstPrinted events ps (before ++ t ∷ []) = record { given = snoc_given ps start before t r.given n.given; go_on = snoc_go start before t r.go_on h; later = later; whole = r.whole ∙ snoc_events before t later } in
          found (
            differs f.0,
            other_before saids history (before ++ t ∷ []) f.0 readable fresh lawful first
                (subst (λ x. DifferFirst (lines_of text) x f.0) (sym (told_next n.choice)) (subst (λ x. DifferFirst x (lines_told before ++ own n.choice) f.0) (sym r.told) f.1.0))
                (subst (λ x. f.0 ≤ length x) (sym (told_next n.choice)) (f.1.1 le)),
          )

      by_end : Next before e → StepOn before e later
      by_end n = by_way n.ends
        where
          by_way : AllByRecursion GoesOn (steps_of (run start before) e.event n.choice) ⊎ Passes (steps_of (run start before) e.event n.choice) → StepOn before e later
          by_way (inl h) = by_text n h (begins r.more (own n.choice))
          by_way (inr p) = found (passed n p)

  follow : (later : List Numbered) (before : List Turn) → Reached before later → SomeFinding
  follow [] before r = at_end before r
  follow (e ∷ es) before r = by_step (step_on before e es r) (λ c. follow es (before ++ turned e c ∷ []))
    where
      by_step : StepOn before e es → ((c : Decision) → Reached (before ++ turned e c ∷ []) es → SomeFinding) → SomeFinding
      by_step (found f) more = f
      by_step (goes_on c next) more = more c next

  -- from the beginning
  pub run_found : SomeFinding
  run_found = follow events [] (record { given = tt; go_on = tt; whole = refl; more = lines_of text; told = refl })
