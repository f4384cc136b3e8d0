-- For each input an answer is stated.
use Rattle.std.proofs.Common.{◌≡◌, ℕ, zero, suc, ◌+◌, ◌<◌, ◌≤◌, Bool, true, false, ◌==◌, Option, Some, None, ◌⊎◌, inl, inr, List, length, take, drop, refl, arith, position}
use Rattle.std.specs.Cmp.Lexicographic.{pointwise, same_text, other_text}
use Rattle.std.proofs.lemmas.Bool.{cases_lt}
use Rattle.lab_outside.specs.declared.exit.Status.{Status}
use Rattle.lab_outside.specs.declared.exit.Status.TheVariants.{Refused, Limit}
use Rattle.lab_main.proofs.Stating.{some_or_too_long}
use Rattle.lab_main.specs.Input.{OrTooLong}
use Rattle.store_model.specs.declared.event.Numbered.{Numbered}
use Rattle.text_model.specs.Reading.{IsSchedule, IsFirstBadLine, HasTooManyEvents}
use Rattle.audit_model.specs.Audit.{Finding, Finds}
use Rattle.replay_command.specs.Answer.{events_line, bad_line_text}
use Rattle.audit_run.specs.Parts.{mark, AreParts}
use Rattle.audit_run.specs.Scanned.{IsScanned, IsMark}
use Rattle.audit_run.specs.Answer.{finding_line, finding_status, no_transcript_line, IsJudged, IsOfParts, bad_line, many_events, judged, IsAnswer}
use Rattle.audit_run.proofs.Marks.{is_feed, at_first, none_at_end, at_last, past_last, at_mark, goes_on}
use Rattle.audit_run.proofs.Parted.{is_cut}

-- ---- each input has parts

is_mark_or_not : (t : List ℕ) → (t ≡ mark) ⊎ (t ≡ mark → ⊥)
is_mark_or_not t = by_test (pointwise (λ (a b : ℕ). a == b) t mark) refl
  where
    by_test : (b : Bool) → b ≡ pointwise (λ (a b : ℕ). a == b) t mark → (t ≡ mark) ⊎ (t ≡ mark → ⊥)
    by_test true e = inl (same_text t mark e)
    by_test false e = inr (other_text t mark e)

-- the search, as long as there are lines left
module _ (text : List ℕ) where
  abbrev Found : Type 0
  Found = (o : Option (ℕ × ℕ)) × IsMark text o

  -- one line, and the search behind it
  by_line : (n place : ℕ) (h : IsScanned text place) → length text ≤ suc n + place → place < length text → ((next : ℕ) → IsScanned text next → length text ≤ n + next → Found) →
      (o : Option ℕ) → o ≡ position is_feed (drop place text) → Found
  by_line n place h le more again None e = elim (is_mark_or_not (drop place text)) [
    | inl is ↦ (Some (place, length text), at_last text place h e more is)
    | inr not ↦ (None, past_last text place h e more not)
  ]
  by_line n place h le more again (Some end) e = elim (is_mark_or_not (take end (drop place text))) [
    | inl is ↦ (Some (place, place + end + 1), at_mark text place h end e is)
    | inr not ↦ again (place + end + 1) (goes_on text place h end e not) (omega arith)
  ]

  search : (n place : ℕ) → IsScanned text place → length text ≤ n + place → Found
  search zero place h le = (None, none_at_end text place h (omega arith))
  search (suc n) place h le = elim (cases_lt place (length text)) [
    | inl more ↦ by_line n place h le more (λ next k l. search n next k l) (position is_feed (drop place text)) refl
    | inr end ↦ (None, none_at_end text place h end)
  ]

  found : Found
  found = search (length text) 0 (at_first text) (omega arith)

parts_of : (input : List ℕ) (o : Option (ℕ × ℕ)) → IsMark input o → (schedule : List ℕ) × ((transcript : Option (List ℕ)) × AreParts input schedule transcript)
parts_of input None h = (input, (None, (refl, h)))
parts_of input (Some p) h = (take p.0 input, (Some (drop p.1 input), is_cut input p.0 p.1 h.0 h.2))

-- ---- and each schedule with a transcript a finding

abbrev Reads : List ℕ → Type 0
Reads input = ((events : List Numbered) × IsSchedule input events) ⊎ (((n : ℕ) × IsFirstBadLine input n) ⊎ HasTooManyEvents input)

abbrev SomeFinding : Type 0
SomeFinding = (input text : List ℕ) (events : List Numbered) → IsSchedule input events → (f : Finding) × Finds events text f

module _ (some : SomeFinding) (schedule : List ℕ) where
  judges : (transcript : Option (List ℕ)) (events : List Numbered) → IsSchedule schedule events → (is : Status) × ((text : List ℕ) × IsJudged events transcript is text)
  judges None events spells = (Refused, (no_transcript_line, (refl, refl)))
  judges (Some lines) events spells =
      let f = some schedule lines events spells in (finding_status f.0, (finding_line f.0, record { finding = f.0; finds = f.1; status_is = refl; text_is = refl }))

  of_reading : (transcript : Option (List ℕ)) → Reads schedule → (is : Status) × ((text : List ℕ) × IsOfParts schedule transcript is text)
  of_reading transcript (inl h) = let j = judges transcript h.0 h.1 in (j.0, (j.1.0, judged h.0 h.1 j.1.1))
  of_reading transcript (inr (inl h)) = (Refused, (bad_line_text h.0, bad_line h.0 h.1 refl refl))
  of_reading transcript (inr (inr h)) = (Limit, (events_line, many_events h refl refl))

is_stated : ((input : List ℕ) → Reads input) → SomeFinding → (input : List ℕ) → (is : Status) × ((text : List ℕ) × IsAnswer input is text)
is_stated reads some input =
    let m = found input in
    let p = parts_of input m.0 m.1 in
    let a = of_reading some p.0 p.1.0 (reads p.0) in
    (a.0, (a.1.0, record { schedule = p.0; transcript = p.1.0; parts = p.1.1; stated = a.1.1 }))

pub some_stated : ((input : List ℕ) → Reads input) → SomeFinding → (input : List ℕ) → (is : Status) × ((text : List ℕ) × OrTooLong IsAnswer input is text)
some_stated reads some input = some_or_too_long IsAnswer (is_stated reads some) input
