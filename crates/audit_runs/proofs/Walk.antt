-- Over turns whose own lines come first in a text: what their lines print, and what is said from there on.
use Rattle.std.proofs.Common.{◌≡◌, ◌<◌, ◌≤◌, ◌+◌, ℕ, suc, ◌==◌, length, Option, Some, List, [], ◌∷◌, ◌++◌, refl, sym, ap, subst, ◌∙◌, append_assoc, arith, eq-eqb}
use Rattle.std.specs.Prelude.{flat_map}
use Rattle.std.specs.List.{AllByRecursion}
use Rattle.std.proofs.lemmas.List.{length-append}
use Rattle.cluster_machine.specs.declared.step.Words.TheVariants.{One}
use Rattle.store_model.specs.declared.event.Event.{Event}
use Rattle.store_model.specs.declared.event.Event.TheVariants.{Apply}
use Rattle.store_model.specs.declared.event.Numbered.{Numbered}
use Rattle.store_model.specs.Run.{State, Outcome}
use Rattle.store_model.specs.Events.{Turn, outcome_of, after, events_of, run}
use Rattle.text_model.specs.Grammar.{lines_of, name_of}
use Rattle.text_model.specs.Transcript.{line_text, turns_text}
use Rattle.audit_model.specs.declared.said.Told.{Told}
use Rattle.audit_model.specs.declared.said.Told.TheVariants.{Accepted}
use Rattle.audit_model.specs.declared.said.Said.{Said}
use Rattle.audit_model.specs.declared.said.Said.TheVariants as said
use Rattle.audit_model.specs.Heard.{event_at, AscendFrom}
use Rattle.audit_model.specs.Printed.{Staged, Print, printed, stages_if, print_of, prints, print_at}
use Rattle.audit_model.specs.Audit.{staged_in}
use Rattle.audit_runs.specs.Told.{TellsEvent}
use Rattle.audit_runs.specs.Whole.{AreNumbered, IsOtherLines}
use Rattle.audit_runs.proofs.Prints.{IsFrom, all_both, all_more, print_of_is}
use Rattle.audit_runs.proofs.Staging.{EventsStage, IsFound, skip_others, if_so, pass_over, stage_told}
use Rattle.audit_runs.proofs.Lines.{each_lines}
use Rattle.audit_runs.proofs.Texts.{SayAll, own_line, event_then, TellOthers, turn_tells}

-- line k of a text comes next, of which this is said from there on: what it prints, and the prints before, for lines of the schedule up to this one, are all prints
pub record IsAt (events : List Numbered) (ps : List Print) (s : State) (line k : ℕ) (saids : List Said) : Type 0 where
  pub before : List Print
  pub early : AllByRecursion (λ (p : Print). p.line ≤ line) before
  pub prints_are : ps ≡ before ++ prints events (staged_in s) k saids

-- the line of the last of these events
abbrev pub last_line : ℕ → List Turn → ℕ
last_line line [] = line
last_line line (t ∷ ts) = last_line t.numbered.line ts

pub ascend_past : (line : ℕ) (ts : List Turn) (es : List Numbered) → AscendFrom line (events_of ts ++ es) → AscendFrom (last_line line ts) es
ascend_past line [] es h = h
ascend_past line (t ∷ ts) es h = ascend_past t.numbered.line ts es h.1

module _ (events : List Numbered) (ps : List Print) where
  -- a print for a later line isn't among those before
  pub past_early : (s : State) (line k : ℕ) (saids : List Said) (later : ℕ) → line < later → IsAt events ps s line k saids → print_at ps later ≡ print_at (prints events (staged_in s) k saids) later
  past_early s line k saids later up at =
      ap (λ x. print_at x later) at.prints_are
      ∙ pass_over later at.before (prints events (staged_in s) k saids) (all_more (λ (p : Print). p.line ≤ line) (λ (p : Print). p.line ≡ later → ⊥) at.before (λ p le is. omega arith) at.early)

  -- where an apply's line comes next, and a size behind it, this is the print for its line
  pub own_print : (s : State) (line k : ℕ) (saids : List Said) (later n one size : ℕ) (name : List ℕ) (more : List Said) → line < later → event_at events later name ≡ Some (Apply n) →
      saids ≡ said.Event later name (Accepted (One one)) ∷ said.Size size ∷ more → IsAt events ps s line k saids →
      print_at ps later ≡ Some (record { place = suc k; line = later; staged = staged_in s; printed = printed (staged_in s).roles size more })
  own_print s line k saids later n one size name more up found are at =
      let st : Staged = staged_in s in
      let told : Told = Accepted (One one) in
      let rest : List Said = said.Size size ∷ more in
      let own : Print = record { place = suc k; line = later; staged = st; printed = printed st.roles size more } in
      let after_it : Option Event → List Print = λ o. prints events (stages_if st o told) (suc k) rest in
      past_early s line k saids later up at
      ∙ (ap (λ x. print_at (prints events st k x) later) are
      ∙ (ap (λ o. print_at (print_of st k later o told rest ++ after_it o) later) found
      ∙ if_so (later == later) (Some own) (print_at (after_it (Some (Apply n))) later) (eq-eqb later later refl)))

module _ (stage : EventsStage) (events : List Numbered) (ps : List Print) where
  -- past the lines of a turn
  pass_prints : (s : State) (t : Turn) (line k : ℕ) (saids first more : List Said) → line < t.numbered.line → IsFound events t.numbered → saids ≡ first ++ more → TellsEvent t.numbered (outcome_of s t) first → IsAt events ps s line k saids →
      IsAt events ps (after s t) t.numbered.line (k + length first) more
  pass_prints s t line k saids first more up found are d at =
      let st : Staged = staged_in s in
      let here : ℕ = t.numbered.line in
      let name : List ℕ = name_of t.numbered.event in
      let next : State = after s t in
      let behind : List Said = d.others ++ more in
      let saids_are : saids ≡ said.Event here name d.told ∷ behind = are ∙ ap (λ x. x ++ more) d.saids_are in
      let staged : stages_if st (event_at events here name) d.told ≡ staged_in next =
      ap (λ o. stages_if st o d.told) found ∙ stage_told st t.numbered.event (outcome_of s t).refused d.told d.answers ∙ sym (stage s t) in
      let own : List Print = print_of st k here (event_at events here name) d.told behind in
      let many : length first ≡ suc (length d.others) = ap length d.saids_are in
      let count : suc k + length d.others ≡ k + length first = omega arith in
      record {
        before = at.before ++ own;
        early = all_both (λ (p : Print). p.line ≤ here) at.before own
            (all_more (λ (p : Print). p.line ≤ line) (λ (p : Print). p.line ≤ here) at.before (λ p le. omega arith) at.early)
            (all_more (IsFrom st here) (λ (p : Print). p.line ≤ here) own (λ p from. let is = from.line_is in omega arith) (print_of_is st k here (event_at events here name) d.told behind));
        prints_are = at.prints_are
            ∙ (ap (λ x. at.before ++ prints events st k x) saids_are
            ∙ (sym (append_assoc at.before own (prints events (stages_if st (event_at events here name) d.told) (suc k) behind))
            ∙ ap (λ x. (at.before ++ own) ++ x) (ap (λ x. prints events x (suc k) behind) staged ∙ (skip_others events (staged_in next) (suc k) d.others more d.are_other ∙ ap (λ j. prints events (staged_in next) j more) count))));
      }

  -- what is said behind the lines of turns
  pub record IsWalked (s : State) (ts : List Turn) (line k : ℕ) (lines : List (List ℕ)) (saids : List Said) : Type 0 where
    pub first : List Said
    pub more : List Said
    pub saids_are : saids ≡ first ++ more
    pub says : SayAll lines more
    pub place : ℕ
    pub place_is : place ≡ k + length first
    pub at : IsAt events ps (run s ts) (last_line line ts) place more

  both_counted : (k j : ℕ) (first rest : List Said) → j ≡ (k + length first) + length rest → j ≡ k + length (first ++ rest)
  both_counted k j first rest h = let n : length (first ++ rest) ≡ length first + length rest = length-append first rest in omega arith

  pub walked : (s : State) (ts : List Turn) (line k : ℕ) (lines : List (List ℕ)) (saids : List Said) → AscendFrom line (events_of ts) → AllByRecursion (IsFound events) (events_of ts) → AreNumbered (events_of ts) → TellOthers s ts →
      IsAt events ps s line k saids → SayAll (lines_of (turns_text s ts) ++ lines) saids → IsWalked s ts line k lines saids
  walked s [] line k lines saids up found small other at say = record { first = []; more = saids; saids_are = refl; says = say; place = k; place_is = omega arith; at = at }
  walked s (t ∷ ts) line k lines saids up found small other at say =
      let o : Outcome = outcome_of s t in
      let body : List ℕ = flat_map line_text o.lines in
      let h : IsOtherLines body = each_lines line_text o.lines other.0 in
      let own : List ℕ = own_line t.numbered o.refused o.words in
      let later : List (List ℕ) = lines_of (turns_text o.state ts) in
      let is : lines_of (turns_text s (t ∷ ts)) ++ lines ≡ own ∷ (h.lines ++ (later ++ lines)) =
      ap (λ ls. ls ++ lines) (event_then t.numbered o.refused o.words body (turns_text o.state ts) h) ∙ ap (λ ls. own ∷ ls) (append_assoc h.lines later lines) in
      let p = turn_tells t o (later ++ lines) saids small.0 h (subst (λ ls. SayAll ls saids) is say) in
      let first : List Said = p.0 in
      let rest : IsWalked o.state ts t.numbered.line (k + length first) lines p.1.0 =
      walked o.state ts t.numbered.line (k + length first) lines p.1.0 up.1 found.1 small.1 other.1 (pass_prints s t line k saids first p.1.0 up.0 found.0 p.1.1.0 p.1.1.1.0 at) p.1.1.1.1 in
      record {
        first = first ++ rest.first;
        more = rest.more;
        saids_are = p.1.1.0 ∙ (ap (λ x. first ++ x) rest.saids_are ∙ sym (append_assoc first rest.first rest.more));
        says = rest.says;
        place = rest.place;
        place_is = both_counted k rest.place first rest.first rest.place_is;
        at = rest.at;
      }
