-- What lines say was staged, where they say of each event whether it was accepted.
use Rattle.std.proofs.Common.{◌≡◌, ◌<◌, ◌≤◌, ◌+◌, ℕ, suc, length, Bool, true, false, ◌==◌, ◌&&◌, if◌then◌else◌, Option, Some, None, List, [], ◌∷◌, ◌++◌, refl, sym, ap, subst, ◌∙◌, append_assoc, append-nil, arith, ne_eqb, eq-eqb}
use Rattle.std.proofs.lemmas.Bool.{and_from}
use Rattle.std.specs.List.{AllByRecursion}
use Rattle.layout_roles.specs.declared.cut.Cut.{Cut}
use Rattle.cluster_machine.specs.declared.step.Refusal.{Refusal}
use Rattle.history_model.specs.Record.{same_bytes}
use Rattle.store_model.specs.declared.event.Event.{Event}
use Rattle.store_model.specs.declared.event.Numbered.{Numbered}
use Rattle.store_model.specs.Run.{State, start}
use Rattle.store_model.specs.Events.{Turn, outcome_of, after, events_of}
use Rattle.text_model.specs.Grammar.{name_of}
use Rattle.audit_model.specs.declared.said.Told.{Told}
use Rattle.audit_model.specs.declared.said.Told.TheVariants.{Accepted, Refused}
use Rattle.audit_model.specs.declared.said.Said.{Said}
use Rattle.audit_model.specs.declared.said.Said.TheVariants as said
use Rattle.audit_model.specs.Heard.{event_at, AscendFrom}
use Rattle.audit_model.specs.Printed.{Staged, Print, stages_if, print_of, prints, print_at, all_prints}
use Rattle.audit_model.specs.Audit.{staged_in}
use Rattle.audit_runs.specs.Alike.{IsStagedSo, AreStagedSo}
use Rattle.audit_runs.specs.Told.{stages_by, IsOther, IsAnswerTo, TellsEvent, TellTurns}
use Rattle.audit_runs.proofs.Prints.{IsFrom, all_both, all_more, print_of_is}

-- what is staged after an event
abbrev pub EventsStage : Type 0
EventsStage = (s : State) (t : Turn) → staged_in (after s t) ≡ stages_by (staged_in s) t.numbered.event (outcome_of s t).refused

-- the layouts that lines print belong to turns, in their order: each to its turn's line, of what is staged there
abbrev AreOfTurns : State → List Turn → List Print → Type 0
AreOfTurns s [] ps = ps ≡ []
AreOfTurns s (t ∷ ts) ps = (first : List Print) × ((rest : List Print) × ((ps ≡ first ++ rest) × (AllByRecursion (IsFrom (staged_in s) t.numbered.line) first × AreOfTurns (after s t) ts rest)))

no_more : (k : ℕ) → k ≡ k + 0
no_more k = omega arith

one_more : (k n : ℕ) → suc k + n ≡ k + suc n
one_more k n = omega arith

-- other lines print nothing by themselves
pub skip_others : (events : List Numbered) (st : Staged) (k : ℕ) (others rest : List Said) → AllByRecursion IsOther others → prints events st k (others ++ rest) ≡ prints events st (k + length others) rest
skip_others events st k [] rest h = ap (λ j. prints events st j rest) (no_more k)
skip_others events st k (said.Event line name told ∷ others) rest h = absurd h.0
skip_others events st k (said.Size size ∷ others) rest h = skip_others events st (suc k) others rest h.1 ∙ ap (λ j. prints events st j rest) (one_more k (length others))
skip_others events st k (said.Redundancy r ∷ others) rest h = skip_others events st (suc k) others rest h.1 ∙ ap (λ j. prints events st j rest) (one_more k (length others))
skip_others events st k (said.Sets first last set ∷ others) rest h = skip_others events st (suc k) others rest h.1 ∙ ap (λ j. prints events st j rest) (one_more k (length others))
skip_others events st k (said.Cut size weight ∷ others) rest h = skip_others events st (suc k) others rest h.1 ∙ ap (λ j. prints events st j rest) (one_more k (length others))
skip_others events st k (said.Side first last up down zones ∷ others) rest h = skip_others events st (suc k) others rest h.1 ∙ ap (λ j. prints events st j rest) (one_more k (length others))
skip_others events st k (said.Nodes nodes ∷ others) rest h = skip_others events st (suc k) others rest h.1 ∙ ap (λ j. prints events st j rest) (one_more k (length others))
skip_others events st k (said.Got m ∷ others) rest h = skip_others events st (suc k) others rest h.1 ∙ ap (λ j. prints events st j rest) (one_more k (length others))
skip_others events st k (said.Sent m kind from to ∷ others) rest h = skip_others events st (suc k) others rest h.1 ∙ ap (λ j. prints events st j rest) (one_more k (length others))
skip_others events st k (said.Synced n v ∷ others) rest h = skip_others events st (suc k) others rest h.1 ∙ ap (λ j. prints events st j rest) (one_more k (length others))
skip_others events st k (said.Dropped n v ∷ others) rest h = skip_others events st (suc k) others rest h.1 ∙ ap (λ j. prints events st j rest) (one_more k (length others))
skip_others events st k (said.Done q word answer ∷ others) rest h = skip_others events st (suc k) others rest h.1 ∙ ap (λ j. prints events st j rest) (one_more k (length others))
skip_others events st k (said.Listed q count ∷ others) rest h = skip_others events st (suc k) others rest h.1 ∙ ap (λ j. prints events st j rest) (one_more k (length others))
skip_others events st k (said.Key key version size ∷ others) rest h = skip_others events st (suc k) others rest h.1 ∙ ap (λ j. prints events st j rest) (one_more k (length others))
skip_others events st k (said.Ended q word ∷ others) rest h = skip_others events st (suc k) others rest h.1 ∙ ap (λ j. prints events st j rest) (one_more k (length others))
skip_others events st k (said.Node n rows blocks top ∷ others) rest h = skip_others events st (suc k) others rest h.1 ∙ ap (λ j. prints events st j rest) (one_more k (length others))
skip_others events st k (said.Fresh pairs ∷ others) rest h = skip_others events st (suc k) others rest h.1 ∙ ap (λ j. prints events st j rest) (one_more k (length others))
skip_others events st k (said.End of_events requests messages ∷ others) rest h = skip_others events st (suc k) others rest h.1 ∙ ap (λ j. prints events st j rest) (one_more k (length others))

pub if_so : {A : Type 0} (b : Bool) (x y : A) → b ≡ true → (if b then x else y) ≡ x
if_so true x y is = refl
if_so false x y is = cc

if_not : {A : Type 0} (b : Bool) (x y : A) → b ≡ false → (if b then x else y) ≡ y
if_not true x y is = cc
if_not false x y is = refl

same_self : (bytes : List ℕ) → same_bytes bytes bytes ≡ true
same_self [] = refl
same_self (b ∷ bs) = and_from (b == b) (same_bytes bs bs) (eq-eqb b b refl) (same_self bs)

and_not : (a b : Bool) → a ≡ false → (a && b) ≡ false
and_not true b is = cc
and_not false b is = refl

-- events that ascend stand in later lines
pub all_later : (line : ℕ) (es : List Numbered) → AscendFrom line es → (low : ℕ) → low ≤ line → AllByRecursion (λ (e : Numbered). low < e.line) es
all_later line [] up low le = tt
all_later line (e ∷ es) up low le = let here = up.0 in (omega arith, all_later e.line es up.1 low (omega arith))

-- the event is found by its line and its name
abbrev pub IsFound : List Numbered → Numbered → Type 0
IsFound events e = event_at events e.line (name_of e.event) ≡ Some e.event

found_behind : (e : Numbered) (events es : List Numbered) → AllByRecursion (IsFound events) es → AllByRecursion (λ (f : Numbered). e.line < f.line) es → AllByRecursion (IsFound (e ∷ events)) es
found_behind e events [] h later = tt
found_behind e events (f ∷ fs) h later =
    let lt = later.0 in
    let other : (e.line == f.line) ≡ false = ne_eqb e.line f.line (λ is. omega arith) in (
      if_not ((e.line == f.line) && same_bytes (name_of e.event) (name_of f.event)) (Some e.event) (event_at events f.line (name_of f.event)) (and_not (e.line == f.line) (same_bytes (name_of e.event) (name_of f.event)) other) ∙ h.0,
      found_behind e events fs h.1 later.1,
    )

pub all_found : (line : ℕ) (events : List Numbered) → AscendFrom line events → AllByRecursion (IsFound events) events
all_found line [] up = tt
all_found line (e ∷ es) up = (
  if_so ((e.line == e.line) && same_bytes (name_of e.event) (name_of e.event)) (Some e.event) (event_at es e.line (name_of e.event))
      (and_from (e.line == e.line) (same_bytes (name_of e.event) (name_of e.event)) (eq-eqb e.line e.line refl) (same_self (name_of e.event))),
  found_behind e es es (all_found e.line es up.1) (all_later e.line es up.1 e.line (omega arith)),
)

pub stage_told : (st : Staged) (e : Event) (r : Option (Refusal Cut)) (told : Told) → IsAnswerTo r told → stages_if st (Some e) told ≡ stages_by st e r
stage_told st e None (Accepted words) h = refl
stage_told st e None (Refused refusal) h = absurd h
stage_told st e (Some r) (Accepted words) h = absurd h
stage_told st e (Some r) (Refused refusal) h = refl

module _ (stage : EventsStage) (events : List Numbered) where
  of_turns : (s : State) (ts : List Turn) (saids : List Said) (k : ℕ) → AllByRecursion (IsFound events) (events_of ts) → TellTurns s ts saids → AreOfTurns s ts (prints events (staged_in s) k saids)
  of_turns s [] saids k known h = ap (λ x. prints events (staged_in s) k x) (sym (append-nil saids)) ∙ skip_others events (staged_in s) k saids [] h
  of_turns s (t ∷ ts) saids k known h =
      let st : Staged = staged_in s in
      let rest : List Said = h.1.0 in
      let d : TellsEvent t.numbered (outcome_of s t) h.0 = h.1.1.1.0 in
      let line : ℕ = t.numbered.line in
      let name : List ℕ = name_of t.numbered.event in
      let next : State = after s t in
      let whole : saids ≡ said.Event line name d.told ∷ (d.others ++ rest) = h.1.1.0 ∙ ap (λ x. x ++ rest) d.saids_are in
      let staged : stages_if st (event_at events line name) d.told ≡ staged_in next =
      ap (λ o. stages_if st o d.told) known.0 ∙ stage_told st t.numbered.event (outcome_of s t).refused d.told d.answers ∙ sym (stage s t) in
      let skip = skip_others events (staged_in next) (suc k) d.others rest d.are_other in
      let first : List Print = print_of st k line (event_at events line name) d.told (d.others ++ rest) in (
        first,
        (
          prints events (staged_in next) (suc k + length d.others) rest,
          (
            ap (λ x. prints events st k x) whole ∙ ap (λ ps. first ++ ps) (ap (λ x. prints events x (suc k) (d.others ++ rest)) staged ∙ skip),
            (print_of_is st k line (event_at events line name) d.told (d.others ++ rest), of_turns next ts rest (suc k + length d.others) known.1 h.1.1.1.1),
          ),
        ),
      )

-- a print for another line is none for this one
pub pass_over : (line : ℕ) (ps qs : List Print) → AllByRecursion (λ (p : Print). p.line ≡ line → ⊥) ps → print_at (ps ++ qs) line ≡ print_at qs line
pass_over line [] qs h = refl
pass_over line (p ∷ ps) qs h = if_not (p.line == line) (Some p) (print_at (ps ++ qs) line) (ne_eqb p.line line h.0) ∙ pass_over line ps qs h.1

-- prints of later turns are none of this line
none_later : (line above : ℕ) (s : State) (ts : List Turn) (ps : List Print) → line ≤ above → AscendFrom above (events_of ts) → AreOfTurns s ts ps → print_at ps line ≡ None
none_later line above s [] ps le up h = ap (λ x. print_at x line) h
none_later line above s (t ∷ ts) ps le up h =
    let here = up.0 in
    ap (λ x. print_at x line) h.1.1.0
    ∙ (pass_over line h.0 h.1.0 (all_more (IsFrom (staged_in s) t.numbered.line) (λ (p : Print). p.line ≡ line → ⊥) h.0 (λ p from is. let at = from.line_is in omega arith) h.1.1.1.0)
    ∙ none_later line t.numbered.line (after s t) ts h.1.0 (omega arith) up.1 h.1.1.1.1)

-- the one of this turn's is of what is staged here
own_print : (s : State) (line : ℕ) (first rest : List Print) → AllByRecursion (IsFrom (staged_in s) line) first → print_at rest line ≡ None → IsStagedSo s (print_at (first ++ rest) line)
own_print s line [] rest from none = subst (IsStagedSo s) (sym none) tt
own_print s line (p ∷ ps) rest from none =
    subst (IsStagedSo s) (sym (if_so (p.line == line) (Some p) (print_at (ps ++ rest) line) (eq-eqb p.line line from.0.line_is))) from.0.staged

staged_so : (before : List Print) (line : ℕ) (s : State) (ts : List Turn) (ps : List Print) → AscendFrom line (events_of ts) → AllByRecursion (λ (p : Print). p.line ≤ line) before → AreOfTurns s ts ps →
    AreStagedSo (before ++ ps) s ts
staged_so before line s [] ps up early h = tt
staged_so before line s (t ∷ ts) ps up early h =
    let here = up.0 in
    let at : ℕ = t.numbered.line in
    let first : List Print = h.0 in
    let rest : List Print = h.1.0 in
    let own = own_print s at first rest h.1.1.1.0 (none_later at at (after s t) ts rest (omega arith) up.1 h.1.1.1.1) in
    let passed = pass_over at before (first ++ rest) (all_more (λ (p : Print). p.line ≤ line) (λ (p : Print). p.line ≡ at → ⊥) before (λ p le is. omega arith) early) in
    let all : List Print = before ++ (first ++ rest) in
    let later : AreStagedSo ((before ++ first) ++ rest) (after s t) ts =
    staged_so (before ++ first) at (after s t) ts rest up.1
    (all_both (λ (p : Print). p.line ≤ at) before first (all_more (λ (p : Print). p.line ≤ line) (λ (p : Print). p.line ≤ at) before (λ p le. omega arith) early)
    (all_more (IsFrom (staged_in s) at) (λ (p : Print). p.line ≤ at) first (λ p from. let is = from.line_is in omega arith) h.1.1.1.0)) h.1.1.1.1 in
    subst (λ (x : List Print). AreStagedSo (before ++ x) s (t ∷ ts)) (sym h.1.1.0)
    (subst (IsStagedSo s) (sym passed) own, subst (λ (x : List Print). AreStagedSo x (after s t) ts) (append_assoc before first rest) later)

pub said_so : EventsStage → (turns : List Turn) (saids : List Said) (line : ℕ) → AscendFrom line (events_of turns) → TellTurns start turns saids → AreStagedSo (all_prints (events_of turns) saids) start turns
said_so stage turns saids line up h =
    let events : List Numbered = events_of turns in
    staged_so [] line start turns (all_prints events saids) up tt (of_turns stage events start turns saids 1 (all_found line events up) h)
