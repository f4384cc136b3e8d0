-- Which layout a transcript prints for the next event, where its first lines are those of the turns before.
use Rattle.std.proofs.Common.{◌≡◌, ◌<◌, ◌≤◌, ◌+◌, ◌^◌, ℕ, suc, length, Some, List, [], ◌∷◌, ◌++◌, refl, sym, ap, subst, ◌∙◌, arith}
use Rattle.std.specs.Prelude.{IfSome}
use Rattle.std.specs.List.{AllByRecursion}
use Rattle.std.proofs.lemmas.List.{length-append}
use Rattle.store_model.specs.declared.event.Event.TheVariants.{Apply}
use Rattle.store_model.specs.declared.event.Numbered.{Numbered}
use Rattle.store_model.specs.Run.{State, start}
use Rattle.store_model.specs.Events.{Turn, events_of, run}
use Rattle.text_model.specs.Grammar.{lines_of, name_of}
use Rattle.text_model.specs.Transcript.{turns_text}
use Rattle.audit_model.specs.declared.said.Said.{Said}
use Rattle.audit_model.specs.declared.said.Said.TheVariants as said
use Rattle.audit_model.specs.Heard.{event_at, AscendFrom, nothing_heard}
use Rattle.audit_model.specs.Printed.{Staged, Print, printed, print_of, stages_if, prints, print_at, all_prints}
use Rattle.audit_model.specs.Audit.{staged_in}
use Rattle.audit_runs.specs.Whole.{AreNumbered, TellUnbroken}
use Rattle.audit_runs.specs.First.{AreToldFirst, IsPrintedNext, BeginsWithLayout}
use Rattle.audit_runs.proofs.Prints.{IsBehind, all_both, all_more, print_is_behind, print_at_is}
use Rattle.audit_runs.proofs.Staging.{EventsStage, IsFound, all_found}
use Rattle.audit_runs.proofs.Texts.{AreWhole, SayAll, all_say, tell_others}
use Rattle.audit_runs.proofs.Heads.{SaysLayout, two_said}
use Rattle.audit_runs.proofs.Walk.{IsAt, last_line, ascend_past, past_early, own_print, walked}

-- ---- events in two parts

first_of : (P : Numbered → Type 0) (es fs : List Numbered) → AllByRecursion P (es ++ fs) → AllByRecursion P es
first_of P [] fs h = tt
first_of P (e ∷ es) fs h = (h.0, first_of P es fs h.1)

rest_of : (P : Numbered → Type 0) (es fs : List Numbered) → AllByRecursion P (es ++ fs) → AllByRecursion P fs
rest_of P [] fs h = h
rest_of P (e ∷ es) fs h = rest_of P es fs h.1

ascend_first : (line : ℕ) (es fs : List Numbered) → AscendFrom line (es ++ fs) → AscendFrom line es
ascend_first line [] fs h = tt
ascend_first line (e ∷ es) fs h = (h.0, ascend_first e.line es fs h.1)

-- ---- places of prints

-- a print that stands right behind line k was printed when this was staged
abbrev IsPast : Staged → ℕ → Print → Type 0
IsPast st k p = (suc k ≤ p.place) × (p.place ≡ suc k → p.staged ≡ st)

past_later : (st other : Staged) (k : ℕ) (p : Print) → IsPast other (suc k) p → IsPast st k p
past_later st other k p h = let low = h.0 in (omega arith, λ is. absurd (omega (arith, is)))

past_behind : (st : Staged) (k line : ℕ) (p : Print) → IsBehind st k line p → IsPast st k p
past_behind st k line p h = let is = h.place_is in (omega arith, λ same. h.from.staged)

past_all : (st other : Staged) (k : ℕ) (qs : List Print) → AllByRecursion (IsPast other (suc k)) qs → AllByRecursion (IsPast st k) qs
past_all st other k qs h = all_more (IsPast other (suc k)) (IsPast st k) qs (past_later st other k) h

all_past : (events : List Numbered) (st : Staged) (k : ℕ) (saids : List Said) → AllByRecursion (IsPast st k) (prints events st k saids)
all_past events st k [] = tt
all_past events st k (said.Event line name told ∷ saids) =
    let e = event_at events line name in
    let next : Staged = stages_if st e told in
    all_both (IsPast st k) (print_of st k line e told saids) (prints events next (suc k) saids)
    (all_more (IsBehind st k line) (IsPast st k) (print_of st k line e told saids) (past_behind st k line) (print_is_behind st k line e told saids))
    (past_all st next k (prints events next (suc k) saids) (all_past events next (suc k) saids))
all_past events st k (said.Size size ∷ saids) = past_all st st k (prints events st (suc k) saids) (all_past events st (suc k) saids)
all_past events st k (said.Redundancy r ∷ saids) = past_all st st k (prints events st (suc k) saids) (all_past events st (suc k) saids)
all_past events st k (said.Sets first last set ∷ saids) = past_all st st k (prints events st (suc k) saids) (all_past events st (suc k) saids)
all_past events st k (said.Cut size weight ∷ saids) = past_all st st k (prints events st (suc k) saids) (all_past events st (suc k) saids)
all_past events st k (said.Side first last up down zones ∷ saids) = past_all st st k (prints events st (suc k) saids) (all_past events st (suc k) saids)
all_past events st k (said.Nodes nodes ∷ saids) = past_all st st k (prints events st (suc k) saids) (all_past events st (suc k) saids)
all_past events st k (said.Got m ∷ saids) = past_all st st k (prints events st (suc k) saids) (all_past events st (suc k) saids)
all_past events st k (said.Sent m kind from to ∷ saids) = past_all st st k (prints events st (suc k) saids) (all_past events st (suc k) saids)
all_past events st k (said.Synced n v ∷ saids) = past_all st st k (prints events st (suc k) saids) (all_past events st (suc k) saids)
all_past events st k (said.Dropped n v ∷ saids) = past_all st st k (prints events st (suc k) saids) (all_past events st (suc k) saids)
all_past events st k (said.Done q word answer ∷ saids) = past_all st st k (prints events st (suc k) saids) (all_past events st (suc k) saids)
all_past events st k (said.Listed q count ∷ saids) = past_all st st k (prints events st (suc k) saids) (all_past events st (suc k) saids)
all_past events st k (said.Key key version size ∷ saids) = past_all st st k (prints events st (suc k) saids) (all_past events st (suc k) saids)
all_past events st k (said.Ended q word ∷ saids) = past_all st st k (prints events st (suc k) saids) (all_past events st (suc k) saids)
all_past events st k (said.Node n rows blocks top ∷ saids) = past_all st st k (prints events st (suc k) saids) (all_past events st (suc k) saids)
all_past events st k (said.Fresh pairs ∷ saids) = past_all st st k (prints events st (suc k) saids) (all_past events st (suc k) saids)
all_past events st k (said.End of_events requests messages ∷ saids) = past_all st st k (prints events st (suc k) saids) (all_past events st (suc k) saids)

-- ---- counts

say_count : (lines : List (List ℕ)) (saids : List Said) → SayAll lines saids → length lines ≡ length saids
say_count [] [] h = refl
say_count [] (s ∷ saids) h = absurd h
say_count (line ∷ lines) [] h = absurd h
say_count (line ∷ lines) (s ∷ saids) h = ap suc (say_count lines saids h.1)

-- ---- the next event

module _ (stage : EventsStage) (whole : AreWhole) (events : List Numbered) (up : AscendFrom 0 events) (numbered : AreNumbered events) where
  module _ (input text : List ℕ) (saids : List Said) (turns : List Turn) (unbroken : TellUnbroken start turns) (told : AreToldFirst input text events saids turns) where
    abbrev ps : List Print
    ps = all_prints events saids

    abbrev own_lines : List (List ℕ)
    own_lines = lines_of (turns_text start turns)

    abbrev end : State
    end = run start turns

    -- where the next line is, and what it says
    record IsNext : Type 0 where
      pub said_next : List Said
      pub says : SayAll told.more said_next
      pub at : IsAt events ps end (last_line 0 turns) (suc (length own_lines)) said_next

    counted : (a b c d : ℕ) → a + b ≡ c + d → b ≡ d → c ≡ a
    counted a b c d all rest = omega arith

    comes_next : IsNext
    comes_next =
        let es : List Numbered = events_of turns in
        let say : SayAll (own_lines ++ told.more) saids = subst (λ ls. SayAll ls saids) told.same_lines (all_say events nothing_heard told.readable.last (lines_of text) saids told.readable.hears) in
        let w = walked stage events ps start turns 0 1 told.more saids
        (ascend_first 0 es told.first.later (subst (AscendFrom 0) told.first.whole up))
        (first_of (IsFound events) es told.first.later (subst (AllByRecursion (IsFound events)) told.first.whole (all_found 0 events up)))
        (first_of (λ (e : Numbered). e.line < 2 ^ 64) es told.first.later (subst AreNumbered told.first.whole numbered))
        (tell_others whole start turns unbroken) (record { before = []; early = tt; prints_are = refl }) say in
        let all : length own_lines + length told.more ≡ length w.first + length w.more =
        sym (length-append own_lines told.more) ∙ (say_count (own_lines ++ told.more) saids say ∙ (ap length w.saids_are ∙ length-append w.first w.more)) in
        let count : length w.first ≡ length own_lines = counted (length own_lines) (length told.more) (length w.first) (length w.more) all (say_count told.more w.more w.says) in
        let is = w.place_is in
        let place : w.place ≡ suc (length own_lines) = omega arith in
        record { said_next = w.more; says = w.says; at = subst (λ k. IsAt events ps end (last_line 0 turns) k w.more) place w.at }

    module _ (next : Numbered) (rest : List Numbered) (later : told.first.later ≡ next ∷ rest) where
      next_whole : events ≡ events_of turns ++ next ∷ rest
      next_whole = told.first.whole ∙ ap (λ x. events_of turns ++ x) later

      next_up : last_line 0 turns < next.line
      next_up = (ascend_past 0 turns (next ∷ rest) (subst (AscendFrom 0) next_whole up)).0

      -- a print that stands behind the next line is of what is staged
      pub staged_next : (p : Print) → print_at ps next.line ≡ Some p → IsPrintedNext turns p → p.staged ≡ staged_in end
      staged_next p found place =
          let n = comes_next in
          let k : ℕ = suc (length own_lines) in
          let past : List Print = prints events (staged_in end) k n.said_next in
          let is : print_at past next.line ≡ Some p = sym (past_early events ps end (last_line 0 turns) k n.said_next next.line next_up n.at) ∙ found in
          let mine : IsPast (staged_in end) k p =
          subst (λ o. IfSome o (IsPast (staged_in end) k)) is (print_at_is (IsPast (staged_in end) k) past next.line (all_past events (staged_in end) k n.said_next)) in
          mine.1 place

      -- where the next lines are those with which an apply tells a layout, this is the layout that is printed for it
      pub printed_next : (n version size : ℕ) → next.event ≡ Apply n → BeginsWithLayout told.more next version size →
          (p : Print) × ((print_at ps next.line ≡ Some p) × (p.staged ≡ staged_in end))
      printed_next n version size event_is begins =
          let m = comes_next in
          let k : ℕ = suc (length own_lines) in
          let name : List ℕ = name_of next.event in
          let found : event_at events next.line name ≡ Some (Apply n) =
          (rest_of (IsFound events) (events_of turns) (next ∷ rest) (subst (AllByRecursion (IsFound events)) next_whole (all_found 0 events up))).0 ∙ ap Some event_is in
          let small : next.line < 2 ^ 64 = (rest_of (λ (e : Numbered). e.line < 2 ^ 64) (events_of turns) (next ∷ rest) (subst AreNumbered next_whole numbered)).0 in
          let says : SaysLayout next m.said_next = two_said next version size begins.after m.said_next small (subst (λ ls. SayAll ls m.said_next) begins.lines_are m.says) in (
            record { place = suc k; line = next.line; staged = staged_in end; printed = printed (staged_in end).roles says.two says.more },
            (own_print events ps end (last_line 0 turns) k m.said_next next.line n says.one says.two name says.more next_up found says.saids_are m.at, refl),
          )
