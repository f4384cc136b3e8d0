-- What is found of a run that is given the layouts of a transcript is one.
use Rattle.std.proofs.Common.{◌≡◌, ◌≤◌, ℕ, suc, List, [], ◌∷◌, ◌++◌, length, refl, sym, ap, subst, ◌∙◌, append_assoc, append-nil}
use Rattle.std.specs.List.{AllByRecursion}
use Rattle.history_model.specs.declared.record.Record.{Record}
use Rattle.history_model.specs.Pairs.{pair_count}
use Rattle.store_model.specs.declared.event.Numbered.{Numbered}
use Rattle.store_model.specs.Run.{State, start}
use Rattle.store_model.specs.Events.{Turn, after, events_of, run}
use Rattle.text_model.specs.Grammar.{lines_of}
use Rattle.text_model.specs.Played.{GoesOn, steps_of, AllGoOn}
use Rattle.text_model.specs.Transcript.{turns_text, tail_text}
use Rattle.audit_model.specs.declared.said.Said.{Said}
use Rattle.audit_model.specs.Audit.{AreGiven, IsCutOff, DifferFirst, Finding, differs, too_much, ok}
use Rattle.store_model.specs.declared.event.Event.TheVariants.{Apply}
use Rattle.audit_model.specs.Printed.{Print, all_prints, print_at}
use Rattle.audit_findings.specs.Alone.{IsWhole}
use Rattle.audit_findings.proofs.Parts.{Lines, within_front, within_missing, never_differ}
use Rattle.audit_findings.proofs.Ends.{both_whole, turns_whole}
use Rattle.audit_findings.proofs.Meets.{PrintsFix, OneAnswer, IsUnfit, head_text, head_whole}
use Rattle.audit_findings.proofs.Compare.{Leads, Fork, Meeting, leads, lags, forks, compare}
use Rattle.audit_findings.proofs.Limit.{not_both_ways}

-- in one line two texts differ first
abbrev pub OneDifference : Type 0
OneDifference = (a b : Lines) (k j : ℕ) → DifferFirst a b k → DifferFirst a b j → k ≡ j

-- ---- lists of events

none_of : (a b : List Numbered) → [] ≡ a ++ b → (a ≡ []) × (b ≡ [])
none_of [] b e = (refl, sym e)
none_of (x ∷ a) b e = cc

none_more : (a b c : List Numbered) → a ≡ (a ++ b) ++ c → (b ≡ []) × (c ≡ [])
none_more [] b c e = none_of b c e
none_more (x ∷ a) b c e = let later : a ≡ (a ++ b) ++ c = cc in none_more a b c later

no_turns : (ts : List Turn) → events_of ts ≡ [] → ts ≡ []
no_turns [] e = refl
no_turns (t ∷ ts) e = cc

length_events : (ts : List Turn) → length (events_of ts) ≡ length ts
length_events [] = refl
length_events (t ∷ ts) = ap suc (length_events ts)

next_is_one : (a b c : List Numbered) (e f : Numbered) → (a ++ e ∷ b) ≡ a ++ f ∷ c → e ≡ f
next_is_one [] b c e f is = cc
next_is_one (x ∷ a) b c e f is = let later : (a ++ e ∷ b) ≡ a ++ f ∷ c = cc in next_is_one a b c e f later

events_both : (ts us : List Turn) → events_of (ts ++ us) ≡ events_of ts ++ events_of us
events_both [] us = refl
events_both (t ∷ ts) us = ap (λ x. t.numbered ∷ x) (events_both ts us)

given_first : (ps : List Print) (s : State) (ts us : List Turn) → AreGiven ps s (ts ++ us) → AreGiven ps s ts
given_first ps s [] us h = tt
given_first ps s (t ∷ ts) us h = (h.0, given_first ps (after s t) ts us h.1)

go_first : (s : State) (ts us : List Turn) → AllGoOn s (ts ++ us) → AllGoOn s ts
go_first s [] us h = tt
go_first s (t ∷ ts) us h = (h.0, go_first (after s t) ts us h.1)

-- a text that has the lines of turns, and then those of an apply that is accepted with a size, prints a layout for it, of what is staged
abbrev pub FitsStaged : List Numbered → List Said → Lines → Type 0
FitsStaged events saids lines = (before : List Turn) (next : Numbered) (node version size : ℕ) (rest : List Numbered) (more : Lines) → next.event ≡ Apply node →
    AreGiven (all_prints events saids) start before → AllGoOn start before → events ≡ events_of before ++ next ∷ rest → IsUnfit (run start before) (print_at (all_prints events saids) next.line) →
    lines ≡ lines_of (turns_text start before ++ head_text next version size) ++ more → ⊥

module _ (events : List Numbered) (saids : List Said) (history : List Record) (text : Lines) where
  -- the lines of turns
  abbrev pub lines_told : List Turn → Lines
  lines_told ts = lines_of (turns_text start ts)

  -- the lines behind them
  abbrev pub lines_behind : List Turn → Lines
  lines_behind ts = lines_of (tail_text (length ts) (run start ts))

  -- what is found where the run goes as far as these turns
  pub data Found (ts : List Turn) : Finding → Type 0 where
    within : (k : ℕ) (later : List Numbered) → events ≡ events_of ts ++ later → DifferFirst text (lines_told ts) k → k ≤ length (lines_told ts) → Found ts (differs k)
    behind : (k : ℕ) → events ≡ events_of ts → DifferFirst text (lines_told ts ++ lines_behind ts) k → Found ts (differs k)
    passed : (more : Lines) → IsCutOff events (all_prints events saids) ts → text ≡ lines_told ts ++ more → Found ts too_much
    whole : (pairs : ℕ) → pairs ≡ pair_count history → events ≡ events_of ts → text ≡ lines_told ts ++ lines_behind ts → Found ts (ok pairs)

  -- the events that are still to come
  later_of : {f : Finding} (ts : List Turn) → Found ts f → (later : List Numbered) × (events ≡ events_of ts ++ later)
  later_of ts (within k later is differ le) = (later, is)
  later_of ts (behind k is differ) = ([], is ∙ sym (append-nil (events_of ts)))
  later_of ts (passed more cut same) = (cut.next.numbered ∷ cut.later, cut.whole)
  later_of ts (whole pairs count is same) = ([], is ∙ sym (append-nil (events_of ts)))

  module _ (one_difference : OneDifference) where
    -- ---- two runs that part where the transcript doesn't follow

    -- it differs first from what begins with this
    data AtFront (front : Lines) : Finding → Type 0 where
      at : (k : ℕ) → DifferFirst text (front ++ []) k → AtFront front (differs k)

    module _ (front : Lines) (missing : (more : Lines) → text ≡ front ++ more → ⊥) where
      before : (k : ℕ) (all rest : Lines) → all ≡ front ++ rest → DifferFirst text all k → DifferFirst text (front ++ []) k
      before k all rest is d =
          let here : DifferFirst text (front ++ rest) k = subst (λ x. DifferFirst text x k) is d in
          within_front text front rest [] k here (within_missing text front rest k missing here)

      at_front : {f : Finding} (ts : List Turn) (rest : Lines) → lines_told ts ≡ front ++ rest → Found ts f → AtFront front f
      at_front ts rest is (within k later e differ le) = at k (before k (lines_told ts) rest is differ)
      at_front ts rest is (behind k e differ) = at k (before k (lines_told ts ++ lines_behind ts) (rest ++ lines_behind ts) (ap (λ x. x ++ lines_behind ts) is ∙ append_assoc front rest (lines_behind ts)) differ)
      at_front ts rest is (passed more cut same) = absurd (missing (rest ++ more) (same ∙ (ap (λ x. x ++ more) is ∙ append_assoc front rest more)))
      at_front ts rest is (whole pairs count e same) = absurd (missing (rest ++ lines_behind ts) (same ∙ (ap (λ x. x ++ lines_behind ts) is ∙ append_assoc front rest (lines_behind ts))))

    one_front : {f g : Finding} (front : Lines) → AtFront front f → AtFront front g → f ≡ g
    one_front front (at k d) (at j e) = ap differs (one_difference text (front ++ []) k j d e)

    -- the text hasn't what both begin with
    forks_one : {f g : Finding} (ts us : List Turn) (p : Fork (all_prints events saids) start ts us) →
        ((more : Lines) → text ≡ lines_of (turns_text start p.before ++ head_text p.next.numbered p.version p.size) ++ more → ⊥) → Found ts f → Found us g → f ≡ g
    forks_one ts us p missing a b =
        let common : List ℕ = turns_text start p.before ++ head_text p.next.numbered p.version p.size in
        let front : Lines = lines_of common in
        let all : IsWhole common = both_whole (turns_text start p.before) (head_text p.next.numbered p.version p.size) (turns_whole start p.before) (head_whole p.next.numbered p.version p.size) in
        one_front front (at_front front missing ts (lines_of p.rest_a) (ap lines_of p.a_is ∙ all p.rest_a) a) (at_front front missing us (lines_of p.rest_b) (ap lines_of p.b_is ∙ all p.rest_b) b)

    -- ---- two runs that go as far

    -- a difference within the lines of turns, whatever follows them
    ahead : (ts : List Turn) (k : ℕ) → DifferFirst text (lines_told ts) k → k ≤ length (lines_told ts) → (more : Lines) → DifferFirst text (lines_told ts ++ more) k
    ahead ts k d le more = within_front text (lines_told ts) [] more k (subst (λ x. DifferFirst text x k) (sym (append-nil (lines_told ts))) d) le

    record AreLevel (ts us : List Turn) : Type 0 where
      told : lines_told us ≡ lines_told ts
      after : lines_behind us ≡ lines_behind ts
      events_are : events_of us ≡ events_of ts

    level_of : (ts us : List Turn) (l : Leads start ts us) → l.rest ≡ [] → AreLevel ts us
    level_of ts us l none =
        let same : events_of us ≡ events_of ts = l.events_are ∙ (ap (λ x. events_of ts ++ events_of x) none ∙ append-nil (events_of ts)) in
        let count : length us ≡ length ts = sym (length_events us) ∙ (ap length same ∙ length_events ts) in
        let state : run start us ≡ run start ts = l.state ∙ ap (λ x. run (run start ts) x) none in
        record {
          told = ap lines_of (l.text ∙ (ap (λ x. turns_text start ts ++ turns_text (run start ts) x) none ∙ append-nil (turns_text start ts)));
          after = λ i. lines_of (tail_text (count i) (state i));
          events_are = same;
        }

    turned : (ts us : List Turn) → AreLevel ts us → AreLevel us ts
    turned ts us l = record { told = sym l.told; after = sym l.after; events_are = sym l.events_are }

    -- no event is left where none is
    none_left : {A : Type 0} (ts us : List Turn) → AreLevel ts us → events ≡ events_of ts → (e : Numbered) (later : List Numbered) → events ≡ events_of us ++ e ∷ later → A
    none_left ts us l is e later cut =
        let short : events_of us ≡ (events_of us ++ []) ++ e ∷ later = l.events_are ∙ (sym is ∙ (cut ∙ ap (λ x. x ++ e ∷ later) (sym (append-nil (events_of us))))) in
        let none : e ∷ later ≡ [] = (none_more (events_of us) [] (e ∷ later) short).1 in
        cc

    all_told : (ts us : List Turn) → AreLevel ts us → lines_told us ++ lines_behind us ≡ lines_told ts ++ lines_behind ts
    all_told ts us l = λ i. l.told i ++ l.after i

    level_one : {f g : Finding} (ts us : List Turn) → AreLevel ts us → Found ts f → Found us g → f ≡ g
    level_one ts us l (within k later is d le) (within j after also e ge) = ap differs (one_difference text (lines_told ts) k j d (subst (λ x. DifferFirst text x j) l.told e))
    level_one ts us l (within k later is d le) (behind j also e) = ap differs (one_difference text (lines_told ts ++ lines_behind ts) k j (ahead ts k d le (lines_behind ts)) (subst (λ x. DifferFirst text x j) (all_told ts us l) e))
    level_one ts us l (within k later is d le) (passed more cut same) = absurd (never_differ text (lines_told ts ++ more) k (same ∙ ap (λ x. x ++ more) l.told) (ahead ts k d le more))
    level_one ts us l (within k later is d le) (whole pairs count also same) = absurd (never_differ text (lines_told ts ++ lines_behind ts) k (same ∙ all_told ts us l) (ahead ts k d le (lines_behind ts)))
    level_one ts us l (behind k is d) (within j later also e ge) = ap differs (one_difference text (lines_told us ++ lines_behind us) k j (subst (λ x. DifferFirst text x k) (sym (all_told ts us l)) d) (ahead us j e ge (lines_behind us)))
    level_one ts us l (behind k is d) (behind j also e) = ap differs (one_difference text (lines_told ts ++ lines_behind ts) k j d (subst (λ x. DifferFirst text x j) (all_told ts us l) e))
    level_one ts us l (behind k is d) (passed more cut same) = none_left ts us l is cut.next.numbered cut.later cut.whole
    level_one ts us l (behind k is d) (whole pairs count also same) = absurd (never_differ text (lines_told ts ++ lines_behind ts) k (same ∙ all_told ts us l) d)
    level_one ts us l (passed more cut same) (within j later also e ge) = absurd (never_differ text (lines_told us ++ more) j (same ∙ ap (λ x. x ++ more) (sym l.told)) (ahead us j e ge more))
    level_one ts us l (passed more cut same) (behind j also e) = none_left us ts (turned ts us l) also cut.next.numbered cut.later cut.whole
    level_one ts us l (passed more cut same) (passed other cuts too) = refl
    level_one ts us l (passed more cut same) (whole pairs count also told) = none_left us ts (turned ts us l) also cut.next.numbered cut.later cut.whole
    level_one ts us l (whole pairs count is same) (within j later also e ge) = absurd (never_differ text (lines_told us ++ lines_behind us) j (same ∙ sym (all_told ts us l)) (ahead us j e ge (lines_behind us)))
    level_one ts us l (whole pairs count is same) (behind j also e) = absurd (never_differ text (lines_told us ++ lines_behind us) j (same ∙ sym (all_told ts us l)) e)
    level_one ts us l (whole pairs count is same) (passed more cut told) = none_left ts us l is cut.next.numbered cut.later cut.whole
    level_one ts us l (whole pairs count is same) (whole others counts also told) = ap ok (count ∙ sym counts)

    -- ---- two runs of which one goes further

    -- a run goes no further than its last event
    ends : (ts us : List Turn) (l : Leads start ts us) → events ≡ events_of ts → (later : List Numbered) → events ≡ events_of us ++ later → l.rest ≡ []
    ends ts us l is later also = no_turns l.rest (none_more (events_of ts) (events_of l.rest) later (sym is ∙ (also ∙ ap (λ x. x ++ later) l.events_are))).0

    -- nor than where the limit is passed
    stops : (ts us : List Turn) (l : Leads start ts us) → IsCutOff events (all_prints events saids) ts → (later : List Numbered) → events ≡ events_of us ++ later → l.rest ≡ []
    stops ts us l cut later also = by_rest l.rest l.events_are l.go_on
      where
        by_rest : (rest : List Turn) → events_of us ≡ events_of ts ++ events_of rest → AllGoOn (run start ts) rest → rest ≡ []
        by_rest [] are on = refl
        by_rest (v ∷ vs) are on =
            let both : (events_of ts ++ v.numbered ∷ (events_of vs ++ later)) ≡ events_of ts ++ cut.next.numbered ∷ cut.later =
            sym (append_assoc (events_of ts) (v.numbered ∷ events_of vs) later) ∙ (ap (λ x. x ++ later) (sym are) ∙ (sym also ∙ cut.whole)) in
            let same : v.numbered ≡ cut.next.numbered = next_is_one (events_of ts) (events_of vs ++ later) cut.later v.numbered cut.next.numbered both in
            absurd (not_both_ways (run start ts) cut.next.numbered.event cut.next.choice v.choice
            (record { first = cut.first; last = cut.last; rest = cut.rest; steps_are = cut.steps; bytes = cut.bytes; sent = cut.sent; beyond = cut.beyond })
            (subst (λ (x : Numbered). AllByRecursion GoesOn (steps_of (run start ts) x.event v.choice)) same on.0))

    leads_one : {f g : Finding} (ts us : List Turn) → Leads start ts us → Found ts f → Found us g → f ≡ g
    leads_one ts us l (within k later is d le) b = further k d le b
      where
        rest : Lines
        rest = lines_of (turns_text (run start ts) l.rest)

        told : lines_told us ≡ lines_told ts ++ rest
        told = ap lines_of l.text ∙ turns_whole start ts (turns_text (run start ts) l.rest)

        told_with : (more : Lines) → lines_told us ++ more ≡ lines_told ts ++ (rest ++ more)
        told_with more = ap (λ x. x ++ more) told ∙ append_assoc (lines_told ts) rest more

        further : {g : Finding} (k : ℕ) → DifferFirst text (lines_told ts) k → k ≤ length (lines_told ts) → Found us g → differs k ≡ g
        further k d le (within j after also e ge) = ap differs (one_difference text (lines_told ts ++ rest) k j (ahead ts k d le rest) (subst (λ x. DifferFirst text x j) told e))
        further k d le (behind j also e) = ap differs (one_difference text (lines_told ts ++ (rest ++ lines_behind us)) k j (ahead ts k d le (rest ++ lines_behind us)) (subst (λ x. DifferFirst text x j) (told_with (lines_behind us)) e))
        further k d le (passed more cut same) = absurd (never_differ text (lines_told ts ++ (rest ++ more)) k (same ∙ told_with more) (ahead ts k d le (rest ++ more)))
        further k d le (whole pairs count also same) = absurd (never_differ text (lines_told ts ++ (rest ++ lines_behind us)) k (same ∙ told_with (lines_behind us)) (ahead ts k d le (rest ++ lines_behind us)))
    leads_one ts us l (behind k is d) b = let later = later_of us b in level_one ts us (level_of ts us l (ends ts us l is later.0 later.1)) (behind k is d) b
    leads_one ts us l (passed more cut same) b = let later = later_of us b in level_one ts us (level_of ts us l (stops ts us l cut later.0 later.1)) (passed more cut same) b
    leads_one ts us l (whole pairs count is same) b = let later = later_of us b in level_one ts us (level_of ts us l (ends ts us l is later.0 later.1)) (whole pairs count is same) b

    -- ---- any two

    module _ (fix : PrintsFix) (answer : OneAnswer) (fits : FitsStaged events saids text) where
      met_one : {f g : Finding} (ts us : List Turn) → AreGiven (all_prints events saids) start ts → AllGoOn start ts → Meeting (all_prints events saids) start ts us → Found ts f → Found us g → f ≡ g
      met_one ts us given_ts on_ts (leads l) a b = leads_one ts us l a b
      met_one ts us given_ts on_ts (lags l) a b = sym (leads_one us ts l b a)
      met_one ts us given_ts on_ts (forks p) a b =
          let next : Numbered = p.next.numbered in
          let behind_them : List Turn = p.next ∷ p.rest in
          let later = later_of ts a in
          let rest : List Numbered = events_of p.rest ++ later.0 in
          let are : events ≡ events_of p.before ++ next ∷ rest =
          later.1 ∙ (ap (λ x. x ++ later.0) (ap events_of p.ts_are ∙ events_both p.before behind_them) ∙ append_assoc (events_of p.before) (next ∷ events_of p.rest) later.0) in
          let given_before = given_first (all_prints events saids) start p.before behind_them (subst (AreGiven (all_prints events saids) start) p.ts_are given_ts) in
          let on_before = go_first start p.before behind_them (subst (AllGoOn start) p.ts_are on_ts) in
          forks_one ts us p (λ more is. fits p.before next p.node p.version p.size rest more p.is_apply given_before on_before are p.unfit is) a b

      pub runs_one : {f g : Finding} (ts us : List Turn) → AreGiven (all_prints events saids) start ts → AreGiven (all_prints events saids) start us → AllGoOn start ts → AllGoOn start us → Found ts f → Found us g → f ≡ g
      runs_one ts us given_ts given_us on_ts on_us a b =
          let xs = later_of ts a in
          let ys = later_of us b in
          met_one ts us given_ts on_ts (compare fix answer (all_prints events saids) start ts us xs.0 ys.0 (sym xs.1 ∙ ys.1) given_ts given_us on_ts on_us) a b
