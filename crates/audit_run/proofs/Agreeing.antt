-- One status and one line are stated for an input.
use Rattle.std.proofs.Common.{◌≡◌, ℕ, suc, ◌+◌, ◌<◌, ◌≤◌, ◌^◌, true, false, ◌==◌, if◌then◌else◌, ◌⊎◌, inl, inr, Option, Some, None, IfSome, List, [], ◌∷◌, ◌++◌, length, refl, sym, ap, ◌∙◌, subst, arith}
use Rattle.std.specs.Prelude.{⊤}
use Rattle.lab_outside.specs.declared.exit.Status.{Status}
use Rattle.lab_outside.specs.declared.exit.Status.TheVariants.{Memory as MemoryStatus}
use Rattle.lab_main.specs.Limits.{input_limit}
use Rattle.lab_main.specs.Input.{OrTooLong, too_long, within, OfInput}
use Rattle.lab_main.specs.Edges.{Answers}
use Rattle.store_model.specs.declared.event.Numbered.{Numbered}
use Rattle.text_model.specs.Grammar.{lines_of, onto_first}
use Rattle.text_model.specs.Reading.{Reading, schedule, bad_line as first_bad, too_many, reading, reading_from, events_limit, IsSchedule}
use Rattle.store_model.specs.Run.{start}
use Rattle.text_model.specs.Transcript.{turns_text, transcript}
use Rattle.audit_model.specs.Heard.{AreReadable, IsUnreadable}
use Rattle.audit_model.specs.Audit.{Finding, DifferFirst, Finds, not_read, not_fresh, not_lawful, other_text, other_before, past_limit, all_well}
use Rattle.audit_run.specs.Parts.{mark, HaveNoMark, AreParts}
use Rattle.audit_run.specs.Answer.{finding_status, IsJudged, IsOfParts, bad_line, many_events, judged, IsAnswer}

-- ---- the lines tell the parts

-- the lines before the first mark are told by all lines
one_front : (a b later more : List (List ℕ)) → HaveNoMark a → HaveNoMark b → a ++ mark ∷ later ≡ b ++ mark ∷ more → (a ≡ b) × (later ≡ more)
one_front [] [] later more h k e = let p : later ≡ more = cc in (refl, p)
one_front [] (y ∷ ys) later more h k e = let p : mark ≡ y = cc in absurd (k.0 (sym p))
one_front (x ∷ xs) [] later more h k e = let p : x ≡ mark = cc in absurd (h.0 p)
one_front (x ∷ xs) (y ∷ ys) later more h k e =
    let p : x ≡ y = cc in
    let q : xs ++ mark ∷ later ≡ ys ++ mark ∷ more = cc in
    let rest = one_front xs ys later more h.1 k.1 q in
    ((λ i. p i ∷ rest.0 i), rest.1)

no_mark_in : (a later : List (List ℕ)) → HaveNoMark (a ++ mark ∷ later) → ⊥
no_mark_in [] later h = h.0 refl
no_mark_in (x ∷ xs) later h = no_mark_in xs later h.1

-- no transcript in both, or two of the same lines
abbrev HaveSameLines : Option (List ℕ) → Option (List ℕ) → Type 0
HaveSameLines None None = ⊤
HaveSameLines (Some a) (Some b) = lines_of a ≡ lines_of b
HaveSameLines a b = ⊥

one_parting : (input a b : List ℕ) (t u : Option (List ℕ)) → AreParts input a t → AreParts input b u → (lines_of a ≡ lines_of b) × HaveSameLines t u
one_parting input a b None None h k = (h.0 ∙ sym k.0, tt)
one_parting input a b None (Some y) h k = absurd (no_mark_in (lines_of b) (lines_of y) (subst HaveNoMark k.lines_are h.1))
one_parting input a b (Some x) None h k = absurd (no_mark_in (lines_of a) (lines_of x) (subst HaveNoMark h.lines_are k.1))
one_parting input a b (Some x) (Some y) h k = one_front (lines_of a) (lines_of b) (lines_of x) (lines_of y) h.first k.first (sym h.lines_are ∙ k.lines_are)

-- ---- how long the schedule is

-- how many bytes lines have, each with a line feed
abbrev weight : List (List ℕ) → ℕ
weight [] = 0
weight (l ∷ ls) = suc (length l + weight ls)

weight_both : (a b : List (List ℕ)) → weight (a ++ b) ≡ weight a + weight b
weight_both [] b = let none : weight b ≡ 0 + weight b = omega arith in none
weight_both (l ∷ ls) b = let more : weight (ls ++ b) ≡ weight ls + weight b = weight_both ls b in let all : suc (length l + weight (ls ++ b)) ≡ suc (length l + weight ls) + weight b = omega arith in all

onto_low : (b n : ℕ) (ls : List (List ℕ)) → n ≤ weight ls → suc n ≤ weight (onto_first b ls)
onto_low b n [] h = let none : n ≤ 0 = h in let all : suc n ≤ 2 = omega arith in all
onto_low b n (l ∷ ls) h = let some : n ≤ suc (length l + weight ls) = h in let all : suc n ≤ suc (suc (length l) + weight ls) = omega arith in all

onto_high : (b n : ℕ) (ls : List (List ℕ)) → weight ls ≤ suc n → weight (onto_first b ls) ≤ suc (suc n)
onto_high b n [] h = let all : 2 ≤ suc (suc n) = omega arith in all
onto_high b n (l ∷ ls) h = let some : suc (length l + weight ls) ≤ suc n = h in let all : suc (suc (length l) + weight ls) ≤ suc (suc n) = omega arith in all

weight_low : (t : List ℕ) → length t ≤ weight (lines_of t)
weight_low [] = let none : 0 ≤ 0 = omega arith in none
weight_low (b ∷ bs) =
    let more : length bs ≤ weight (lines_of bs) = weight_low bs in
    elim (b == 10) as (λ t. suc (length bs) ≤ weight (if t then [] ∷ lines_of bs else onto_first b (lines_of bs))) [
      | true ↦ let all : suc (length bs) ≤ suc (0 + weight (lines_of bs)) = omega arith in all
      | false ↦ onto_low b (length bs) (lines_of bs) more
    ]

weight_high : (t : List ℕ) → weight (lines_of t) ≤ suc (length t)
weight_high [] = let none : 0 ≤ 1 = omega arith in none
weight_high (b ∷ bs) =
    let more : weight (lines_of bs) ≤ suc (length bs) = weight_high bs in
    elim (b == 10) as (λ t. weight (if t then [] ∷ lines_of bs else onto_first b (lines_of bs)) ≤ suc (suc (length bs))) [
      | true ↦ let all : suc (0 + weight (lines_of bs)) ≤ suc (suc (length bs)) = omega arith in all
      | false ↦ onto_high b (length bs) (lines_of bs) more
    ]

pub front_short : (input a : List ℕ) (t : Option (List ℕ)) → AreParts input a t → length a ≤ suc (length input)
front_short input a None h = let low = weight_low a in let high = weight_high input in let same : weight (lines_of a) ≡ weight (lines_of input) = ap weight h.0 in omega arith
front_short input a (Some x) h =
    let low = weight_low a in
    let high = weight_high input in
    let same : weight (lines_of input) ≡ weight (lines_of a) + weight (mark ∷ lines_of x) = ap weight h.lines_are ∙ weight_both (lines_of a) (mark ∷ lines_of x) in
    omega arith

-- ---- one finding

-- what is found of a transcript is found of one with the same lines
module _ (events : List Numbered) (x y : List ℕ) (e : lines_of x ≡ lines_of y) where
  pub same_finds : {f : Finding} → Finds events x f → Finds events y f
  same_finds (not_read k is) = not_read k (subst (λ ls. IsUnreadable events ls k) e is)
  same_finds (not_fresh saids h q readable is) = not_fresh saids h q (subst (λ ls. AreReadable events ls saids h) e readable) is
  same_finds (not_lawful saids h k readable fresh is) = not_lawful saids h k (subst (λ ls. AreReadable events ls saids h) e readable) fresh is
  same_finds (other_text saids h turns k readable fresh lawful printed differ) =
      other_text saids h turns k (subst (λ ls. AreReadable events ls saids h) e readable) fresh lawful printed (subst (λ ls. DifferFirst ls (lines_of (transcript turns)) k) e differ)
  same_finds (other_before saids h turns k readable fresh lawful printed differ inside) =
      other_before saids h turns k (subst (λ ls. AreReadable events ls saids h) e readable) fresh lawful printed (subst (λ ls. DifferFirst ls (lines_of (turns_text start turns)) k) e differ) inside
  same_finds (past_limit saids h before more readable fresh lawful cut same) =
      past_limit saids h before more (subst (λ ls. AreReadable events ls saids h) e readable) fresh lawful cut (sym e ∙ same)
  same_finds (all_well saids h turns readable fresh lawful printed same) =
      all_well saids h turns (subst (λ ls. AreReadable events ls saids h) e readable) fresh lawful printed (sym e ∙ same)

-- each transcript of a schedule has one finding
abbrev pub OneFinding : Type 0
OneFinding = (input text : List ℕ) (events : List Numbered) (f g : Finding) → IsSchedule input events → length input < 2 ^ 64 → Finds events text f → Finds events text g → f ≡ g

one_schedule : (r : Reading) (events others : List Numbered) → r ≡ schedule events → r ≡ schedule others → events ≡ others
one_schedule r events others h k = cc

one_reading : (r : Reading) (events : List Numbered) (n : ℕ) → r ≡ schedule events → r ≡ first_bad n → ⊥
one_reading r events n h k = cc

none_too_many : (r : Reading) (events : List Numbered) → r ≡ schedule events → r ≡ too_many → ⊥
none_too_many r events h k = cc

bad_before : (r : Reading) (n : ℕ) → r ≡ first_bad n → r ≡ too_many → ⊥
bad_before r n h k = cc

module _ (one : OneFinding) where
  one_found : (input : List ℕ) (events : List Numbered) (t u : Option (List ℕ)) (s r : Status) (a b : List ℕ) → IsSchedule input events → length input < 2 ^ 64 → HaveSameLines t u → IsJudged events t s a → IsJudged events u r b → s ≡ r
  one_found input events None None s r a b spells short same h k = h.0 ∙ sym k.0
  one_found input events None (Some y) s r a b spells short same h k = absurd same
  one_found input events (Some x) None s r a b spells short same h k = absurd same
  one_found input events (Some x) (Some y) s r a b spells short same h k =
      h.status_is ∙ (ap finding_status (one input y events h.finding k.finding spells short (same_finds events x y same h.finds) k.finds) ∙ sym k.status_is)

  module _ (a b : List ℕ) (t u : Option (List ℕ)) (front : lines_of a ≡ lines_of b) (behind : HaveSameLines t u) (short : length a < 2 ^ 64) where
    back : reading b ≡ reading a
    back = ap (reading_from 1 events_limit) (sym front)

    one_of_parts : (s r : Status) (x y : List ℕ) → IsOfParts a t s x → IsOfParts b u r y → s ≡ r
    one_of_parts s r x y (bad_line n bad e w) (bad_line m worse d v) = e ∙ sym d
    one_of_parts s r x y (bad_line n bad e w) (many_events many d v) = absurd (bad_before (reading a) n bad (sym back ∙ many))
    one_of_parts s r x y (bad_line n bad e w) (judged others spell k) = absurd (one_reading (reading a) others n (sym back ∙ spell) bad)
    one_of_parts s r x y (many_events many e w) (bad_line m worse d v) = absurd (bad_before (reading a) m (sym back ∙ worse) many)
    one_of_parts s r x y (many_events many e w) (many_events over d v) = e ∙ sym d
    one_of_parts s r x y (many_events many e w) (judged others spell k) = absurd (none_too_many (reading a) others (sym back ∙ spell) many)
    one_of_parts s r x y (judged events spells h) (bad_line m worse d v) = absurd (one_reading (reading a) events m spells (sym back ∙ worse))
    one_of_parts s r x y (judged events spells h) (many_events many d v) = absurd (none_too_many (reading a) events spells (sym back ∙ many))
    one_of_parts s r x y (judged events spells h) (judged others spell k) =
        let same : others ≡ events = one_schedule (reading a) others events (sym back ∙ spell) spells in
        one_found a events t u s r x y spells short behind h (subst (λ es. IsJudged es u r y) same k)

  one_answer : (input : List ℕ) → length input ≤ input_limit → (s r : Status) (x y : List ℕ) → IsAnswer input s x → IsAnswer input r y → s ≡ r
  one_answer input le s r x y h k =
      let same = one_parting input h.schedule k.schedule h.transcript k.transcript h.parts k.parts in
      let short = front_short input h.schedule h.transcript h.parts in
      one_of_parts h.schedule k.schedule h.transcript k.transcript same.0 same.1 (omega arith) s r x y h.stated k.stated

  one_in_limits : (input : List ℕ) (s r : Status) (x y : List ℕ) → OrTooLong IsAnswer input s x → OrTooLong IsAnswer input r y → s ≡ r
  one_in_limits input s r x y (too_long long e w) (too_long more d v) = e ∙ sym d
  one_in_limits input s r x y (too_long long e w) (within short k) = absurd (omega arith)
  one_in_limits input s r x y (within short h) (too_long long e w) = absurd (omega arith)
  one_in_limits input s r x y (within short h) (within also k) = one_answer input short s r x y h k

  -- where an answer came that is stated, it is the one that is stated
  pub one_came : (left : Option (List ℕ)) (result : Status) (old new : Option (List ℕ)) (Reads Writes : Type 0) → (Reads → Writes → Answers (OfInput IsAnswer left) result old new ⊎ (result ≡ MemoryStatus)) →
      IfSome left (λ bytes. (is : Status) (text : List ℕ) → OrTooLong IsAnswer bytes is text → Reads → Writes → (result ≡ is) ⊎ (result ≡ MemoryStatus))
  one_came None result old new Reads Writes answered = tt
  one_came (Some bytes) result old new Reads Writes answered = λ is text stated r w. came is text stated (answered r w)
    where
      came : (is : Status) (text : List ℕ) → OrTooLong IsAnswer bytes is text → Answers (OfInput IsAnswer (Some bytes)) result old new ⊎ (result ≡ MemoryStatus) → (result ≡ is) ⊎ (result ≡ MemoryStatus)
      came is text stated (inl h) = inl (one_in_limits bytes result is h.text text h.stated stated)
      came is text stated (inr want) = inr want
