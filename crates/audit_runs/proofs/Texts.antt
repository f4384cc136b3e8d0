-- What the lines of a run's text say, read back: of each event in its turn whether it was accepted.
use Rattle.std.proofs.Common.{◌≡◌, ℕ, ◌<◌, ◌^◌, Bool, true, false, not, ◌==◌, Option, Some, None, List, [], ◌∷◌, ◌++◌, refl, sym, ap, subst, ◌∙◌, append_assoc, append-nil, arith, bytes_eq}
use Rattle.std.specs.Prelude.{⊤, codes, decimal, flat_map}
use Rattle.std.specs.List.{AllByRecursion, All, list_all, slice_split, join_with_byte}
use Rattle.std.proofs.lemmas.Bool.{and_parts}
use Rattle.std.proofs.lemmas.Fmt.{decimal_injective}
use Rattle.std.proofs.lemmas.List.Elements.{All-nil, All-cons}
use Rattle.std.proofs.lemmas.List.Splits.{slice_split_none, slice_split_at}
use Rattle.layout_roles.specs.declared.cut.Cut.{Cut}
use Rattle.layout_roles.specs.Text.{word, number}
use Rattle.cluster_machine.specs.declared.applied.Applied.{Applied}
use Rattle.cluster_machine.specs.declared.line.Line.{Line}
use Rattle.cluster_machine.specs.declared.step.Refusal.{Refusal}
use Rattle.cluster_machine.specs.declared.step.Refusal.TheVariants.{VersionTaken, VersionLimit, NotMember, NoSuchBucket, NoSuchMessage, Lost, NoSuchRequest, AlreadyEnded, TooFewNodes, TooFewZones, NoAssignment}
use Rattle.cluster_machine.specs.declared.step.Words.{Words}
use Rattle.cluster_machine.specs.declared.step.Words.TheVariants.{Empty, One, Idle, Two}
use Rattle.store_model.specs.declared.event.Event.{Event}
use Rattle.store_model.specs.declared.event.Event.TheVariants as event
use Rattle.store_model.specs.declared.event.Numbered.{Numbered}
use Rattle.store_model.specs.Run.{State, Outcome}
use Rattle.store_model.specs.Events.{Turn, outcome_of, events_of}
use Rattle.text_model.specs.Grammar.{lines_of, name_of, first_word}
use Rattle.text_model.specs.Reading.{is_number}
use Rattle.text_model.specs.Words.{is_space, words_in}
use Rattle.text_model.specs.Transcript.{line_text, refusal_text, words_text, answer_text, event_text, turns_text}
use Rattle.audit_model.specs.declared.said.Told.{Told}
use Rattle.audit_model.specs.declared.said.Told.TheVariants.{Accepted, Refused}
use Rattle.audit_model.specs.declared.said.Said.{Said}
use Rattle.audit_model.specs.declared.said.Said.TheVariants as said
use Rattle.audit_model.specs.Lines.{words_of, told_words, IsInRange, Says}
use Rattle.audit_model.specs.Heard.{Heard, Hears}
use Rattle.audit_model.proofs.Read.{decimal_is_number}
use Rattle.audit_model.proofs.Unique.{words_read}
use Rattle.audit_runs.specs.Told.{IsOther, IsAnswerTo, TellsEvent, TellTurns}
use Rattle.audit_runs.specs.Whole.{is_unbroken, IsOtherLine, IsOtherLines, AreNumbered, IsUnbroken, TellUnbroken}
use Rattle.audit_runs.proofs.Lines.{Free, free_both, decimal_free, first_line, other_lines, each_lines}

-- ---- lines that aren't those of events

-- a line of an event begins with a digit
number_first : (w rest : List ℕ) → is_number w ≡ true → is_number (w ++ rest) ≡ true
number_first [] rest h = cc
number_first (b ∷ bs) rest h = h

is_other : (line : List ℕ) (s : Said) → IsOtherLine line → Says line s → IsOther s
is_other line (said.Event n name told) other says =
    let number : is_number line ≡ true =
    ap is_number says.spelled ∙ number_first (decimal n) (32 ∷ join_with_byte 32 (name ∷ told_words told)) (decimal_is_number n says.in_range.0.0) in
    let no_number = other.no_number in
    absurd (let no : false ≡ true = sym no_number ∙ number in cc)
is_other line (said.Size size) other says = tt
is_other line (said.Redundancy r) other says = tt
is_other line (said.Sets first last set) other says = tt
is_other line (said.Cut size weight) other says = tt
is_other line (said.Side first last up down zones) other says = tt
is_other line (said.Nodes nodes) other says = tt
is_other line (said.Got m) other says = tt
is_other line (said.Sent m kind from to) other says = tt
is_other line (said.Synced n v) other says = tt
is_other line (said.Dropped n v) other says = tt
is_other line (said.Done q word answer) other says = tt
is_other line (said.Listed q count) other says = tt
is_other line (said.Key key version size) other says = tt
is_other line (said.Ended q word) other says = tt
is_other line (said.Node n rows blocks top) other says = tt
is_other line (said.Fresh pairs) other says = tt
is_other line (said.End of_events requests messages) other says = tt

-- ---- an event's own line

-- the name of an event has neither a space nor a line feed
name_free : (e : Event) → Free 32 (name_of e) × Free 10 (name_of e)
name_free event.Trio = (refl, refl)
name_free (event.Block size) = (refl, refl)
name_free (event.Bucket name) = (refl, refl)
name_free (event.Role n role) = (refl, refl)
name_free (event.Redundancy wanted) = (refl, refl)
name_free (event.Apply n) = (refl, refl)
name_free (event.Tick ms) = (refl, refl)
name_free (event.Skew n ms) = (refl, refl)
name_free (event.Put n bucket key size fill) = (refl, refl)
name_free (event.Get n bucket key) = (refl, refl)
name_free (event.Head n bucket key) = (refl, refl)
name_free (event.Delete n bucket key) = (refl, refl)
name_free (event.Copy n from_bucket from_key bucket key) = (refl, refl)
name_free (event.List n bucket prefix) = (refl, refl)
name_free (event.Deliver m) = (refl, refl)
name_free (event.Lose m) = (refl, refl)
name_free (event.Drain n) = (refl, refl)
name_free (event.Expire q) = (refl, refl)
name_free (event.Restart n) = (refl, refl)
name_free (event.Gossip from to) = (refl, refl)
name_free (event.Ack n) = (refl, refl)
name_free (event.Sync n) = (refl, refl)
name_free (event.SyncAck n) = (refl, refl)
name_free (event.Clean n) = (refl, refl)
name_free (event.Work n) = (refl, refl)
name_free (event.Repair n) = (refl, refl)
name_free (event.Collect n) = (refl, refl)

pub no_spaces : (w : List ℕ) → Free 32 w → All (λ b. is_space b ≡ false) w
no_spaces [] h = All-nil (λ b. is_space b ≡ false)
no_spaces (b ∷ bs) h =
    let parts = and_parts (not (b == 32)) (list_all (λ x. not (x == 32)) bs) h in
    All-cons (λ b. is_space b ≡ false) b bs (turned (b == 32) parts.0) (no_spaces bs parts.1)
  where
    turned : (t : Bool) → not t ≡ true → t ≡ false
    turned true e = cc
    turned false e = refl

-- the word that says whether it was accepted
abbrev answer_word : Option (Refusal Cut) → List ℕ
answer_word None = codes "ok"
answer_word (Some r) = codes "refused"

answer_words_in : (r : Option (Refusal Cut)) (words : Words) → (more : List (List ℕ)) × (words_in (answer_text r words) ≡ answer_word r ∷ more)
answer_words_in None Empty = ([], slice_split_none (λ b. is_space b) (codes "ok") (no_spaces (codes "ok") refl))
answer_words_in None (One n) = (slice_split (λ b. is_space b) (decimal n), slice_split_at (λ b. is_space b) (codes "ok") 32 (decimal n) (no_spaces (codes "ok") refl) refl)
answer_words_in None (Idle read least) =
    (slice_split (λ b. is_space b) (codes "idle" ++ number read ++ number least), slice_split_at (λ b. is_space b) (codes "ok") 32 (codes "idle" ++ number read ++ number least) (no_spaces (codes "ok") refl) refl)
answer_words_in None (Two a b) = (slice_split (λ b. is_space b) (decimal a ++ number b), slice_split_at (λ b. is_space b) (codes "ok") 32 (decimal a ++ number b) (no_spaces (codes "ok") refl) refl)
answer_words_in (Some r) words = (slice_split (λ b. is_space b) (refusal_text r), slice_split_at (λ b. is_space b) (codes "refused") 32 (refusal_text r) (no_spaces (codes "refused") refl) refl)

-- the line without its line feed
abbrev pub own_line : Numbered → Option (Refusal Cut) → Words → List ℕ
own_line e r words = decimal e.line ++ word (name_of e.event) ++ word (answer_text r words)

own_words : (e : Numbered) (r : Option (Refusal Cut)) (words : Words) → (more : List (List ℕ)) × (words_in (own_line e r words) ≡ decimal e.line ∷ name_of e.event ∷ answer_word r ∷ more)
own_words e r words =
    let name : List ℕ = name_of e.event in
    let answer : List ℕ = answer_text r words in
    let answers = answer_words_in r words in (
      answers.0,
      ap words_in (append_assoc (decimal e.line) (word name) (word answer))
          ∙ (slice_split_at (λ b. is_space b) (decimal e.line) 32 (name ++ word answer) (no_spaces (decimal e.line) (decimal_free 32 e.line (omega arith))) refl
          ∙ ap (λ ws. decimal e.line ∷ ws) (slice_split_at (λ b. is_space b) name 32 answer (no_spaces name (name_free e.event).0) refl ∙ ap (λ ws. name ∷ ws) answers.1)),
    )

-- of an event that answers a number
pub one_words : (e : Numbered) (n : ℕ) → words_in (own_line e None (One n)) ≡ decimal e.line ∷ name_of e.event ∷ codes "ok" ∷ decimal n ∷ []
unfolding own_words answer_words_in
one_words e n =
    (own_words e None (One n)).1
    ∙ ap (λ ws. decimal e.line ∷ name_of e.event ∷ codes "ok" ∷ ws) (slice_split_none (λ b. is_space b) (decimal n) (no_spaces (decimal n) (decimal_free 32 n (omega arith))))

-- what says these words is what the event answered
abbrev SaysOf : Numbered → Option (Refusal Cut) → Said → Type 0
SaysOf e r s = (told : Told) × ((s ≡ said.Event e.line (name_of e.event) told) × IsAnswerTo r told)

answer_is : (r : Option (Refusal Cut)) (told : Told) (ws : List (List ℕ)) (more : List (List ℕ)) → ws ≡ told_words told → bytes_eq (first_word ws) (answer_word r) ≡ true → IsAnswerTo r told
answer_is None (Accepted words) ws more is same = tt
answer_is None (Refused other) ws more is same = absurd (let no : bytes_eq (first_word (told_words (Refused other))) (codes "ok") ≡ true = ap (λ x. bytes_eq (first_word x) (codes "ok")) (sym is) ∙ same in let is_false : false ≡ true = no in cc)
answer_is (Some r) (Refused other) ws more is same = tt
answer_is (Some r) (Accepted words) ws more is same = absurd (let no : bytes_eq (first_word (told_words (Accepted words))) (codes "refused") ≡ true = ap (λ x. bytes_eq (first_word x) (codes "refused")) (sym is) ∙ same in let is_false : false ≡ true = no in cc)

abbrev pub behind_first : List (List ℕ) → List (List ℕ)
behind_first [] = []
behind_first (w ∷ ws) = ws

itself : (r : Option (Refusal Cut)) → bytes_eq (answer_word r) (answer_word r) ≡ true
itself None = refl
itself (Some r) = refl

says_own : (e : Numbered) (r : Option (Refusal Cut)) (more : List (List ℕ)) (s : Said) → e.line < 2 ^ 64 → IsInRange s → words_of s ≡ decimal e.line ∷ name_of e.event ∷ answer_word r ∷ more → SaysOf e r s
says_own e r more (said.Event n name told) small h is =
    let line : n ≡ e.line = decimal_injective n e.line h.0.0 small (ap first_word is) in
    let same : name ≡ name_of e.event = ap (λ ws. first_word (behind_first ws)) is in
    let rest : told_words told ≡ answer_word r ∷ more = ap (λ ws. behind_first (behind_first ws)) is in
    (told, ((λ i. said.Event (line i) (same i) told), answer_is r told (answer_word r ∷ more) more (sym rest) (itself r)))
says_own e r more (said.Size size) small h is = absurd (let no : false ≡ true = ap (λ ws. is_number (first_word ws)) is ∙ decimal_is_number e.line small in cc)
says_own e r more (said.Redundancy zones) small h is = absurd (let no : false ≡ true = ap (λ ws. is_number (first_word ws)) is ∙ decimal_is_number e.line small in cc)
says_own e r more (said.Sets first last set) small h is = absurd (let no : false ≡ true = ap (λ ws. is_number (first_word ws)) is ∙ decimal_is_number e.line small in cc)
says_own e r more (said.Cut size weight) small h is = absurd (let no : false ≡ true = ap (λ ws. is_number (first_word ws)) is ∙ decimal_is_number e.line small in cc)
says_own e r more (said.Side first last up down zones) small h is = absurd (let no : false ≡ true = ap (λ ws. is_number (first_word ws)) is ∙ decimal_is_number e.line small in cc)
says_own e r more (said.Nodes nodes) small h is = absurd (let no : false ≡ true = ap (λ ws. is_number (first_word ws)) is ∙ decimal_is_number e.line small in cc)
says_own e r more (said.Got m) small h is = absurd (let no : false ≡ true = ap (λ ws. is_number (first_word ws)) is ∙ decimal_is_number e.line small in cc)
says_own e r more (said.Sent m kind from to) small h is = absurd (let no : false ≡ true = ap (λ ws. is_number (first_word ws)) is ∙ decimal_is_number e.line small in cc)
says_own e r more (said.Synced n v) small h is = absurd (let no : false ≡ true = ap (λ ws. is_number (first_word ws)) is ∙ decimal_is_number e.line small in cc)
says_own e r more (said.Dropped n v) small h is = absurd (let no : false ≡ true = ap (λ ws. is_number (first_word ws)) is ∙ decimal_is_number e.line small in cc)
says_own e r more (said.Done q word answer) small h is = absurd (let no : false ≡ true = ap (λ ws. is_number (first_word ws)) is ∙ decimal_is_number e.line small in cc)
says_own e r more (said.Listed q count) small h is = absurd (let no : false ≡ true = ap (λ ws. is_number (first_word ws)) is ∙ decimal_is_number e.line small in cc)
says_own e r more (said.Key key version size) small h is = absurd (let no : false ≡ true = ap (λ ws. is_number (first_word ws)) is ∙ decimal_is_number e.line small in cc)
says_own e r more (said.Ended q word) small h is = absurd (let no : false ≡ true = ap (λ ws. is_number (first_word ws)) is ∙ decimal_is_number e.line small in cc)
says_own e r more (said.Node n rows blocks top) small h is = absurd (let no : false ≡ true = ap (λ ws. is_number (first_word ws)) is ∙ decimal_is_number e.line small in cc)
says_own e r more (said.Fresh pairs) small h is = absurd (let no : false ≡ true = ap (λ ws. is_number (first_word ws)) is ∙ decimal_is_number e.line small in cc)
says_own e r more (said.End of_events requests messages) small h is = absurd (let no : false ≡ true = ap (λ ws. is_number (first_word ws)) is ∙ decimal_is_number e.line small in cc)

pub own_says : (e : Numbered) (r : Option (Refusal Cut)) (words : Words) (s : Said) → e.line < 2 ^ 64 → Says (own_line e r words) s → SaysOf e r s
own_says e r words s small says =
    let own = own_words e r words in
    says_own e r own.0 s small says.in_range (sym (words_read s says.in_range) ∙ (ap words_in (sym says.spelled) ∙ own.1))

refusal_unbroken : (r : Refusal Cut) → Free 10 (refusal_text r)
refusal_unbroken (VersionTaken v) = free_both 10 (codes "VersionTaken") (number v) refl (decimal_free 10 v (omega arith))
refusal_unbroken VersionLimit = refl
refusal_unbroken NotMember = refl
refusal_unbroken NoSuchBucket = refl
refusal_unbroken NoSuchMessage = refl
refusal_unbroken Lost = refl
refusal_unbroken NoSuchRequest = refl
refusal_unbroken AlreadyEnded = refl
refusal_unbroken (TooFewNodes nodes) = free_both 10 (codes "TooFewNodes") (number nodes) refl (decimal_free 10 nodes (omega arith))
refusal_unbroken (TooFewZones zones r) = free_both 10 (codes "TooFewZones" ++ number zones) (number r) (free_both 10 (codes "TooFewZones") (number zones) refl (decimal_free 10 zones (omega arith))) (decimal_free 10 r (omega arith))
refusal_unbroken (NoAssignment cut) = free_both 10 (codes "NoAssignment") (number cut.weight) refl (decimal_free 10 cut.weight (omega arith))

words_unbroken : (words : Words) → Free 10 (words_text words)
words_unbroken Empty = refl
words_unbroken (One n) = decimal_free 10 n (omega arith)
words_unbroken (Idle read least) =
    free_both 10 (word (codes "idle") ++ number read) (number least) (free_both 10 (word (codes "idle")) (number read) refl (decimal_free 10 read (omega arith))) (decimal_free 10 least (omega arith))
words_unbroken (Two a b) = free_both 10 (number a) (number b) (decimal_free 10 a (omega arith)) (decimal_free 10 b (omega arith))

answer_unbroken : (r : Option (Refusal Cut)) (words : Words) → Free 10 (answer_text r words)
answer_unbroken None words = free_both 10 (codes "ok") (words_text words) refl (words_unbroken words)
answer_unbroken (Some r) words = free_both 10 (codes "refused") (word (refusal_text r)) refl (refusal_unbroken r)

own_unbroken : (e : Numbered) (r : Option (Refusal Cut)) (words : Words) → is_unbroken (own_line e r words) ≡ true
own_unbroken e r words =
    free_both 10 (decimal e.line ++ word (name_of e.event)) (word (answer_text r words))
    (free_both 10 (decimal e.line) (word (name_of e.event)) (decimal_free 10 e.line (omega arith)) (name_free e.event).1) (answer_unbroken r words)

-- ---- lines one by one

-- each line says this
abbrev pub SayAll : List (List ℕ) → List Said → Type 0
SayAll [] [] = ⊤
SayAll (line ∷ lines) (s ∷ saids) = Says line s × SayAll lines saids
SayAll lines saids = ⊥

pub all_say : (events : List Numbered) (h last : Heard) (lines : List (List ℕ)) (saids : List Said) → Hears events h lines saids last → SayAll lines saids
all_say events h last [] [] heard = tt
all_say events h last [] (s ∷ saids) heard = elim heard [ ]
all_say events h last (line ∷ lines) [] heard = elim heard [ ]
all_say events h last (line ∷ lines) (s ∷ saids) (Hears.line_first _ n _ _ _ _ _ says is more) = (says, all_say events n last lines saids more)

-- what the first lines say, and what the others do
abbrev Parts : List (List ℕ) → List (List ℕ) → List Said → Type 0
Parts lines rest saids = (first : List Said) × ((more : List Said) × ((saids ≡ first ++ more) × (SayAll lines first × SayAll rest more)))

say_parts : (lines rest : List (List ℕ)) (saids : List Said) → SayAll (lines ++ rest) saids → Parts lines rest saids
say_parts [] rest saids h = ([], (saids, (refl, (tt, h))))
say_parts (line ∷ lines) rest [] h = absurd h
say_parts (line ∷ lines) rest (s ∷ saids) h =
    let p = say_parts lines rest saids h.1 in
    (s ∷ p.0, (p.1.0, (ap (λ ss. s ∷ ss) p.1.1.0, ((h.0, p.1.1.1.0), p.1.1.1.1))))

others_are : (lines : List (List ℕ)) (saids : List Said) → AllByRecursion IsOtherLine lines → SayAll lines saids → AllByRecursion IsOther saids
others_are [] [] other h = tt
others_are [] (s ∷ saids) other h = absurd h
others_are (line ∷ lines) [] other h = absurd h
others_are (line ∷ lines) (s ∷ saids) other h = (is_other line s other.0 h.0, others_are lines saids other.1 h.1)

-- a text of other lines, and what follows it
lines_then : (text rest : List ℕ) → (h : IsOtherLines text) → lines_of (text ++ rest) ≡ h.lines ++ lines_of rest
lines_then text rest h = ap (λ t. lines_of (t ++ rest)) h.text_is ∙ other_lines h.lines rest h.are_other

-- the lines of an event, and what follows them
pub event_then : (e : Numbered) (r : Option (Refusal Cut)) (words : Words) (body rest : List ℕ) → (h : IsOtherLines body) →
    lines_of (((own_line e r words ++ 10 ∷ []) ++ body) ++ rest) ≡ own_line e r words ∷ (h.lines ++ lines_of rest)
event_then e r words body rest h =
    let own : List ℕ = own_line e r words in
    ap lines_of (append_assoc (own ++ 10 ∷ []) body rest ∙ append_assoc own (10 ∷ []) (body ++ rest))
    ∙ (first_line own (body ++ rest) (own_unbroken e r words) ∙ ap (λ ls. own ∷ ls) (lines_then body rest h))

-- beside each event's own line a run tells such lines alone
abbrev pub TellOthers : State → List Turn → Type 0
TellOthers s [] = ⊤
TellOthers s (t ∷ ts) = AllByRecursion (λ l. IsOtherLines (line_text l)) (outcome_of s t).lines × TellOthers (outcome_of s t).state ts

-- lines without a line feed within are such lines
abbrev pub AreWhole : Type 0
AreWhole = (l : Line Applied) → IsUnbroken l → IsOtherLines (line_text l)

each_whole : AreWhole → (ls : List (Line Applied)) → AllByRecursion IsUnbroken ls → AllByRecursion (λ l. IsOtherLines (line_text l)) ls
each_whole whole [] h = tt
each_whole whole (l ∷ ls) h = (whole l h.0, each_whole whole ls h.1)

pub tell_others : AreWhole → (s : State) (ts : List Turn) → TellUnbroken s ts → TellOthers s ts
tell_others whole s [] h = tt
tell_others whole s (t ∷ ts) h = (each_whole whole (outcome_of s t).lines h.0, tell_others whole (outcome_of s t).state ts h.1)

-- what is said first by lines that begin with those of an event
pub turn_tells : (t : Turn) (o : Outcome) (rest : List (List ℕ)) (saids : List Said) → t.numbered.line < 2 ^ 64 → (h : IsOtherLines (flat_map line_text o.lines)) →
    SayAll (own_line t.numbered o.refused o.words ∷ (h.lines ++ rest)) saids → (first : List Said) × ((more : List Said) × ((saids ≡ first ++ more) × (TellsEvent t.numbered o first × SayAll rest more)))
turn_tells t o rest [] small h say = absurd say
turn_tells t o rest (s ∷ saids) small h say =
    let own = own_says t.numbered o.refused o.words s small say.0 in
    let p = say_parts h.lines rest saids say.1 in (
      s ∷ p.0,
      (
        p.1.0,
        (
          ap (λ ss. s ∷ ss) p.1.1.0,
          (
            record { told = own.0; others = p.0; saids_are = ap (λ x. x ∷ p.0) own.1.0; answers = own.1.1; are_other = others_are h.lines p.0 h.are_other p.1.1.1.0 },
            p.1.1.1.1,
          ),
        ),
      ),
    )

module _ (tail : List ℕ) (ends : IsOtherLines tail) where
  pub text_tells : (s : State) (ts : List Turn) (saids : List Said) → AreNumbered (events_of ts) → TellOthers s ts → SayAll (lines_of (turns_text s ts ++ tail)) saids → TellTurns s ts saids
  text_tells s [] saids small other say =
      let is : lines_of tail ≡ ends.lines = ap lines_of (sym (append-nil tail)) ∙ (lines_then tail [] ends ∙ append-nil ends.lines) in
      others_are ends.lines saids ends.are_other (subst (λ ls. SayAll ls saids) is say)
  text_tells s (t ∷ ts) saids small other say =
      let o : Outcome = outcome_of s t in
      let body : List ℕ = flat_map line_text o.lines in
      let h : IsOtherLines body = each_lines line_text o.lines other.0 in
      let later : List ℕ = turns_text o.state ts in
      let is : lines_of (turns_text s (t ∷ ts) ++ tail) ≡ own_line t.numbered o.refused o.words ∷ (h.lines ++ lines_of (later ++ tail)) =
      ap lines_of (append_assoc (event_text t.numbered o) later tail) ∙ event_then t.numbered o.refused o.words body (later ++ tail) h in
      let p = turn_tells t o (lines_of (later ++ tail)) saids small.0 h (subst (λ ls. SayAll ls saids) is say) in
      (p.0, (p.1.0, (p.1.1.0, (p.1.1.1.0, text_tells o.state ts p.1.0 small.1 other.1 p.1.1.1.1))))
