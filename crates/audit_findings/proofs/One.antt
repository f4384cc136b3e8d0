-- Of a schedule and a text one thing is found.
use Rattle.std.proofs.Common.{◌≡◌, ◌<◌, ◌^◌, ℕ, Some, List, [], ◌∷◌, ◌++◌, length, refl, sym, ap, subst, ◌∙◌, append_assoc}
use Rattle.std.specs.List.{AllByRecursion}
use Rattle.history_model.specs.declared.record.Record.{Record}
use Rattle.history_model.specs.Fresh.{Fresh}
use Rattle.history_model.specs.Pairs.{pair_count}
use Rattle.stale_model.specs.Stale.{IsFirstStale}
use Rattle.store_model.specs.declared.event.Event.TheVariants.{Apply}
use Rattle.store_model.specs.declared.event.Numbered.{Numbered}
use Rattle.store_model.specs.Run.{start}
use Rattle.store_model.specs.Events.{Turn, run}
use Rattle.text_model.specs.Grammar.{lines_of}
use Rattle.text_model.specs.Reading.{IsSchedule}
use Rattle.text_model.specs.Played.{AllGoOn}
use Rattle.text_model.specs.Transcript.{turns_text, tail_text, transcript}
use Rattle.audit_model.specs.declared.said.Said.{Said}
use Rattle.audit_model.specs.Heard.{AreReadable, IsUnreadable}
use Rattle.audit_model.specs.Printed.{Print, print_at, all_prints, IsLawfulPrint, IsUnlawful}
use Rattle.audit_model.specs.Audit.{staged_in, AreGiven, ArePrinted, AreFirstPrinted, IsCutOff, DifferFirst, Finding, unreadable, stale, unlawful, Finds, not_read, not_fresh, not_lawful, other_text, other_before, past_limit, all_well}
use Rattle.audit_runs.specs.First.{AreToldFirst, BeginsWithLayout, ok_line, size_words}
use Rattle.audit_findings.proofs.Parts.{Lines}
use Rattle.audit_findings.proofs.Ends.{turns_whole}
use Rattle.audit_findings.proofs.Meets.{PrintsFix, OneAnswer, IsUnfit, head_text, head_lines}
use Rattle.audit_findings.proofs.Runs.{OneDifference, FitsStaged, Found, within, behind, passed, whole, runs_one}

-- what holds of all of these doesn't hold of all but one
one_fails : (before : List Print) (one : Print) (later : List Print) → AllByRecursion IsLawfulPrint (before ++ one ∷ later) → (IsLawfulPrint one → ⊥) → ⊥
one_fails [] one later h fails = fails h.0
one_fails (p ∷ before) one later h fails = one_fails before one later h.1 fails

not_all_lawful : (ps : List Print) (k : ℕ) → AllByRecursion IsLawfulPrint ps → IsUnlawful ps k → ⊥
not_all_lawful ps k h u = one_fails u.before u.one u.later (subst (AllByRecursion IsLawfulPrint) u.whole h) u.unlawful

not_fresh_and_stale : (h : List Record) (q : ℕ) → Fresh h → IsFirstStale h q → ⊥
not_fresh_and_stale h q fresh s =
    let one = s.one in
    one.stale (fresh s.began s.finished one.kind one.bucket one.own one.answer (record { request = q; reads = one.reads; began = one.began; finished = one.finished }))

-- what a text alone tells is one
pub record TellsOne (events : List Numbered) (lines : Lines) : Type 0 where
  pub account : (saids others : List Said) (h k : List Record) → AreReadable events lines saids h → AreReadable events lines others k → (saids ≡ others) × (h ≡ k)
  pub not_both : (saids : List Said) (h : List Record) (k : ℕ) → AreReadable events lines saids h → IsUnreadable events lines k → ⊥
  pub line : (k j : ℕ) → IsUnreadable events lines k → IsUnreadable events lines j → k ≡ j
  pub one_stale : (history : List Record) (q other : ℕ) → IsFirstStale history q → IsFirstStale history other → q ≡ other
  pub one_unlawful : (prints : List Print) (k j : ℕ) → IsUnlawful prints k → IsUnlawful prints j → k ≡ j
  pub one_difference : OneDifference

-- where the next lines are those with which an apply tells a layout, one is printed for it, of what is staged
abbrev pub Agrees : Type 0
Agrees = (input text : List ℕ) (events : List Numbered) (saids : List Said) (turns : List Turn) → (told : AreToldFirst input text events saids turns) → (next : Numbered) (rest : List Numbered) →
    told.first.later ≡ next ∷ rest → (n version size : ℕ) → next.event ≡ Apply n → BeginsWithLayout told.more next version size →
    (p : Print) × ((print_at (all_prints events saids) next.line ≡ Some p) × (p.staged ≡ staged_in (run start turns)))

-- what is known of runs
pub record Premises (input : List ℕ) (events : List Numbered) : Type 0 where
  pub fix : PrintsFix
  pub answer : OneAnswer
  pub agrees : Agrees
  pub schedule : IsSchedule input events
  pub short : length input < 2 ^ 64

-- the lines of turns, and then of an apply that is accepted with a size
lines_split : (before : List Turn) (next : Numbered) (node version size : ℕ) (more : Lines) → next.event ≡ Apply node →
    lines_of (turns_text start before ++ head_text next version size) ++ more ≡ lines_of (turns_text start before) ++ (ok_line next version ∷ size_words size ∷ more)
lines_split before next node version size more is =
    let told : Lines = lines_of (turns_text start before) in
    ap (λ x. x ++ more) (turns_whole start before (head_text next version size) ∙ ap (λ x. told ++ x) (head_lines next node version size is)) ∙ append_assoc told (ok_line next version ∷ size_words size ∷ []) more

module _ (events : List Numbered) (text : List ℕ) (tells : TellsOne events (lines_of text)) where
  of_unread : {g : Finding} (k : ℕ) → IsUnreadable events (lines_of text) k → Finds events text g → unreadable k ≡ g
  of_unread k u (not_read j v) = ap unreadable (tells.line k j u v)
  of_unread k u (not_fresh saids h q readable s) = absurd (tells.not_both saids h k readable u)
  of_unread k u (not_lawful saids h j readable fresh l) = absurd (tells.not_both saids h k readable u)
  of_unread k u (other_text saids h turns j readable fresh lawful printed differ) = absurd (tells.not_both saids h k readable u)
  of_unread k u (other_before saids h turns j readable fresh lawful printed differ le) = absurd (tells.not_both saids h k readable u)
  of_unread k u (past_limit saids h before more readable fresh lawful cut same) = absurd (tells.not_both saids h k readable u)
  of_unread k u (all_well saids h turns readable fresh lawful printed same) = absurd (tells.not_both saids h k readable u)

  module _ (saids : List Said) (h : List Record) (readable : AreReadable events (lines_of text) saids h) where
    -- another account is this one
    moved : (P : List Said → List Record → Type 0) (others : List Said) (k : List Record) → AreReadable events (lines_of text) others k → P others k → P saids h
    moved P others k also p =
        let same = tells.account others saids k h also readable in
        subst (λ x. P x h) same.0 (subst (P others) same.1 p)

    of_stale : {g : Finding} (q : ℕ) → IsFirstStale h q → Finds events text g → stale q ≡ g
    of_stale q s (not_read j v) = absurd (tells.not_both saids h j readable v)
    of_stale q s (not_fresh others k p also t) = ap stale (tells.one_stale h q p s (moved (λ x y. IsFirstStale y p) others k also t))
    of_stale q s (not_lawful others k j also fresh l) = absurd (not_fresh_and_stale h q (moved (λ x y. Fresh y) others k also fresh) s)
    of_stale q s (other_text others k turns j also fresh lawful printed differ) = absurd (not_fresh_and_stale h q (moved (λ x y. Fresh y) others k also fresh) s)
    of_stale q s (other_before others k turns j also fresh lawful printed differ le) = absurd (not_fresh_and_stale h q (moved (λ x y. Fresh y) others k also fresh) s)
    of_stale q s (past_limit others k before more also fresh lawful cut same) = absurd (not_fresh_and_stale h q (moved (λ x y. Fresh y) others k also fresh) s)
    of_stale q s (all_well others k turns also fresh lawful printed same) = absurd (not_fresh_and_stale h q (moved (λ x y. Fresh y) others k also fresh) s)

    module _ (fresh : Fresh h) where
      abbrev ps : List Print
      ps = all_prints events saids

      stays_lawful : (others : List Said) (k : List Record) → AreReadable events (lines_of text) others k → AllByRecursion IsLawfulPrint (all_prints events others) → AllByRecursion IsLawfulPrint ps
      stays_lawful others k also lawful = moved (λ x y. AllByRecursion IsLawfulPrint (all_prints events x)) others k also lawful

      stays_unlawful : (others : List Said) (k : List Record) → AreReadable events (lines_of text) others k → (j : ℕ) → IsUnlawful (all_prints events others) j → IsUnlawful ps j
      stays_unlawful others k also j l = moved (λ x y. IsUnlawful (all_prints events x) j) others k also l

      of_unlawful : {g : Finding} (i : ℕ) → IsUnlawful ps i → Finds events text g → unlawful i ≡ g
      of_unlawful i l (not_read j v) = absurd (tells.not_both saids h j readable v)
      of_unlawful i l (not_fresh others k q also s) = absurd (not_fresh_and_stale h q fresh (moved (λ x y. IsFirstStale y q) others k also s))
      of_unlawful i l (not_lawful others k j also fresh_too m) = ap unlawful (tells.one_unlawful ps i j l (stays_unlawful others k also j m))
      of_unlawful i l (other_text others k turns j also fresh_too lawful printed differ) = absurd (not_all_lawful ps i (stays_lawful others k also lawful) l)
      of_unlawful i l (other_before others k turns j also fresh_too lawful printed differ le) = absurd (not_all_lawful ps i (stays_lawful others k also lawful) l)
      of_unlawful i l (past_limit others k before more also fresh_too lawful cut same) = absurd (not_all_lawful ps i (stays_lawful others k also lawful) l)
      of_unlawful i l (all_well others k turns also fresh_too lawful printed same) = absurd (not_all_lawful ps i (stays_lawful others k also lawful) l)

      -- what is found of a run, as far as it goes
      record Course (f : Finding) : Type 0 where
        turns : List Turn
        given : AreGiven ps start turns
        go_on : AllGoOn start turns
        found : Found events saids h (lines_of text) turns f

      -- the lines of a transcript
      told : (turns : List Turn) → lines_of (transcript turns) ≡ lines_of (turns_text start turns) ++ lines_of (tail_text (length turns) (run start turns))
      told turns = turns_whole start turns (tail_text (length turns) (run start turns))

      module _ (lawful : AllByRecursion IsLawfulPrint ps) where
        course : {f : Finding} → Finds events text f → Course f
        course (not_read j v) = absurd (tells.not_both saids h j readable v)
        course (not_fresh others k q also s) = absurd (not_fresh_and_stale h q fresh (moved (λ x y. IsFirstStale y q) others k also s))
        course (not_lawful others k j also fresh_too m) = absurd (not_all_lawful ps j lawful (stays_unlawful others k also j m))
        course (other_text others k turns j also fresh_too lawful_too printed differ) =
            let here : ArePrinted events ps turns = moved (λ x y. ArePrinted events (all_prints events x) turns) others k also printed in
            record { turns = turns; given = here.given; go_on = here.go_on; found = behind j (sym here.events_are) (subst (λ x. DifferFirst (lines_of text) x j) (told turns) differ) }
        course (other_before others k turns j also fresh_too lawful_too printed differ le) =
            let here : AreFirstPrinted events ps turns = moved (λ x y. AreFirstPrinted events (all_prints events x) turns) others k also printed in
            record { turns = turns; given = here.given; go_on = here.go_on; found = within j here.later here.whole differ le }
        course (past_limit others k before more also fresh_too lawful_too cut same) =
            let here : IsCutOff events ps before = moved (λ x y. IsCutOff events (all_prints events x) before) others k also cut in
            record { turns = before; given = here.given; go_on = here.go_on; found = passed more here same }
        course (all_well others k turns also fresh_too lawful_too printed same) =
            let here : ArePrinted events ps turns = moved (λ x y. ArePrinted events (all_prints events x) turns) others k also printed in
            let history : k ≡ h = (tells.account others saids k h also readable).1 in
            record { turns = turns; given = here.given; go_on = here.go_on; found = whole (pair_count k) (ap pair_count history) (sym here.events_are) (same ∙ told turns) }

        fits : (input : List ℕ) → Premises input events → FitsStaged events saids (lines_of text)
        fits input p before next node version size rest more is_apply given on are unfit is =
            let told : AreToldFirst input text events saids before = record {
              schedule = p.schedule;
              short = p.short;
              history = h;
              readable = readable;
              lawful = lawful;
              first = record { given = given; go_on = on; later = next ∷ rest; whole = are };
              more = ok_line next version ∷ size_words size ∷ more;
              same_lines = is ∙ lines_split before next node version size more is_apply;
            } in
            let found = p.agrees input text events saids before told next rest refl node version size is_apply (record { after = more; lines_are = refl }) in
            let no : IsUnfit (run start before) (Some found.0) = subst (IsUnfit (run start before)) found.1.0 unfit in
            no found.1.1

        of_run : (input : List ℕ) → Premises input events → {f g : Finding} → Finds events text f → Finds events text g → f ≡ g
        of_run input p a b =
            let one = course a in
            let other = course b in
            runs_one events saids h (lines_of text) tells.one_difference p.fix p.answer (fits input p) one.turns other.turns one.given other.given one.go_on other.go_on one.found other.found

  module _ (input : List ℕ) (p : Premises input events) where
    pub finds_one : {f g : Finding} → Finds events text f → Finds events text g → f ≡ g
    finds_one (not_read k u) b = of_unread k u b
    finds_one (not_fresh saids h q readable s) b = of_stale saids h readable q s b
    finds_one (not_lawful saids h k readable fresh l) b = of_unlawful saids h readable fresh k l b
    finds_one (other_text saids h turns k readable fresh lawful printed differ) b =
        of_run saids h readable fresh lawful input p (other_text saids h turns k readable fresh lawful printed differ) b
    finds_one (other_before saids h turns k readable fresh lawful printed differ le) b =
        of_run saids h readable fresh lawful input p (other_before saids h turns k readable fresh lawful printed differ le) b
    finds_one (past_limit saids h before more readable fresh lawful cut same) b =
        of_run saids h readable fresh lawful input p (past_limit saids h before more readable fresh lawful cut same) b
    finds_one (all_well saids h turns readable fresh lawful printed same) b =
        of_run saids h readable fresh lawful input p (all_well saids h turns readable fresh lawful printed same) b
