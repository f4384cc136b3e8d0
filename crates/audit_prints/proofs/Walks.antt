-- The walk over the lines of a transcript: what was judged so far, and the layouts that the rest prints.
use Rattle.std.proofs.Common.{◌≡◌, ◌<◌, ◌≤◌, ℕ, suc, ◌+◌, ◌==◌, ◌&&◌, if◌then◌else◌, true, false, length, drop, get_or, Option, Some, None, List, [], ◌∷◌, ◌++◌, refl, sym, ap, subst, ◌∙◌, arith, append_assoc, append-nil}
use Rattle.std.specs.Prelude.{IfSome, option_map}
use Rattle.std.specs.Borrow.{Bor}
use Rattle.std.specs.List.{AllByRecursion}
use Rattle.std.proofs.lemmas.List.{drop_more, drop_all}
use Rattle.cluster_machine.specs.declared.applied.Applied.{Applied}
use Rattle.history_model.specs.Record.{same_bytes}
use Rattle.store_model.specs.declared.event.Event.{Event}
use Rattle.store_model.specs.declared.event.Numbered.{Numbered}
use Rattle.text_model.specs.Grammar.{IsAllowed, name_of}
use Rattle.audit_model.specs.declared.said.Told.{Told}
use Rattle.audit_model.specs.declared.said.Said.{Said}
use Rattle.audit_model.specs.declared.said.Said.TheVariants as said
use Rattle.audit_model.specs.Heard.{event_at}
use Rattle.audit_model.specs.Printed.{Staged, Print, nothing_staged, stages_if, print_of, prints, all_prints, IsLawfulPrint}
use Rattle.audit_prints.specs.declared.sheet.Sheet.{Sheet}
use Rattle.audit_prints.specs.declared.sheet.Judged.TheVariants as judged
use Rattle.audit_prints.specs.declared.prints.Found.{Found}
use Rattle.audit_prints.specs.declared.prints.Found.TheVariants as found
use Rattle.audit_prints.specs.Sheets.{IsSheetOf, AreSheetsOf, AreJudged}
use Rattle.audit_prints.specs.Judged.{IsFound, GoesOn}

-- ---- one event's line

sheets_more : (ps : List Print) (p : Print) (sheets : List Sheet) (sheet : Sheet) → AreSheetsOf ps sheets → IsSheetOf p sheet → AreSheetsOf (ps ++ p ∷ []) (sheets ++ sheet ∷ [])
sheets_more [] p [] sheet are is = (is, tt)
sheets_more [] p (other ∷ sheets) sheet are is = absurd are
sheets_more (q ∷ ps) p [] sheet are is = absurd are
sheets_more (q ∷ ps) p (other ∷ sheets) sheet are is = (are.0, sheets_more ps p sheets sheet are.1 is)

lawful_more : (ps : List Print) (p : Print) → AllByRecursion IsLawfulPrint ps → IsLawfulPrint p → AllByRecursion IsLawfulPrint (ps ++ p ∷ [])
lawful_more [] p all is = (is, tt)
lawful_more (q ∷ ps) p all is = (all.0, lawful_more ps p all.1 is)

module _ (s : Staged) (line : ℕ) (e : Option Event) (told : Told) (saids : List Said) where
  -- nothing is printed
  pub goes_by : (old : List Sheet) → ((k : ℕ) → IsFound s k line (print_of s k line e told saids) found.Nothing) → GoesOn s line e told saids old old
  goes_by old is k before are = by (print_of s k line e told saids) (is k)
    where
      by : (ps : List Print) → IsFound s k line ps found.Nothing → AreJudged (before ++ ps) (judged.Lawful old)
      by [] h = subst (λ (ps : List Print). AreJudged ps (judged.Lawful old)) (sym (append-nil before)) are
      by (p ∷ []) h = absurd h
      by (p ∷ q ∷ ps) h = absurd h

  -- what is printed is lawful, and gets a sheet
  pub goes_lawful : (shown : Applied) (old new : List Sheet) → ((k : ℕ) → IsFound s k line (print_of s k line e told saids) (found.Lawful shown)) →
      new ≡ old ++ record { line = line; wanted = s.wanted; shown = shown } ∷ [] → GoesOn s line e told saids old new
  goes_lawful shown old new is new_is k before are = by (print_of s k line e told saids) (is k)
    where
      by : (ps : List Print) → IsFound s k line ps (found.Lawful shown) → AreJudged (before ++ ps) (judged.Lawful new)
      by [] h = absurd h
      by (p ∷ []) h =
          let sheet : Sheet = record { line = line; wanted = s.wanted; shown = shown } in
          let sheet_is : IsSheetOf p sheet = record { line = sym h.0.line_is; wanted = ap (λ (x : Staged). x.wanted) (sym h.0.staged); shown = h.1.1 } in
          (lawful_more before p are.0 h.1.0, subst (AreSheetsOf (before ++ p ∷ [])) (sym new_is) (sheets_more before p old sheet are.1 sheet_is))
      by (p ∷ q ∷ ps) h = absurd h

-- an event that is found is one of the schedule
event_allowed : (events : List Numbered) (line : ℕ) (name : List ℕ) → AllByRecursion (λ (e : Numbered). IsAllowed e.event) events → IfSome (event_at events line name) IsAllowed
event_allowed [] line name all = tt
event_allowed (e ∷ es) line name all =
    elim ((e.line == line) && same_bytes (name_of e.event) name) as (λ b. IfSome (if b then Some e.event else event_at es line name) IsAllowed) [
      | true ↦ all.0
      | false ↦ event_allowed es line name all.1
    ]

-- the same where it is lent
pub lent_allowed : (events : List Numbered) (line : ℕ) (name : List ℕ) (o : Option (Bor Event)) → AllByRecursion (λ (e : Numbered). IsAllowed e.event) events → option_map (λ (e : Bor Event). e.now) o ≡ event_at events line name →
    IfSome o (λ (e : Bor Event). IsAllowed e.now)
lent_allowed events line name o all is = by o (subst (λ (x : Option Event). IfSome x IsAllowed) (sym is) (event_allowed events line name all))
  where
    by : (x : Option (Bor Event)) → IfSome (option_map (λ (e : Bor Event). e.now) x) IsAllowed → IfSome x (λ (e : Bor Event). IsAllowed e.now)
    by None h = tt
    by (Some e) h = h

-- what was found is found of this event
pub found_so : (s : Staged) (line : ℕ) (told : Told) (saids : List Said) (o e : Option Event) (f g : Found) → o ≡ e → f ≡ g → ((k at : ℕ) → IsFound s k at (print_of s k at o told saids) f) →
    (k : ℕ) → IsFound s k line (print_of s k line e told saids) g
found_so s line told saids o e f g same is h k =
    subst (IsFound s k line (print_of s k line e told saids)) is (subst (λ (x : Option Event). IsFound s k line (print_of s k line x told saids) f) same (h k line))

-- ---- all lines

-- the lines before place i print layouts that are lawful, of which these are the sheets, and stage this
pub record IsWalked (events : List Numbered) (saids : List Said) (i : ℕ) (s : Staged) (sheets : List Sheet) : Type 0 where
  pub before : List Print
  pub whole : all_prints events saids ≡ before ++ prints events s (suc i) (drop i saids)
  pub are : AreJudged before (judged.Lawful sheets)

module _ (events : List Numbered) (saids : List Said) where
  pub begun : (s : Staged) → s ≡ nothing_staged → IsWalked events saids 0 s []
  begun s is = record { before = []; whole = ap (λ (x : Staged). prints events x 1 saids) (sym is); are = (tt, tt) }

  -- past an event's line
  pub event_on : (i : ℕ) (s next : Staged) (old new : List Sheet) (line : ℕ) (name : List ℕ) (told : Told) → i < length saids → said.Event line name told ≡ get_or saids i (said.Event line name told) →
      IsWalked events saids i s old → GoesOn s line (event_at events line name) told (drop (i + 1) saids) old new → next ≡ stages_if s (event_at events line name) told → IsWalked events saids (i + 1) next new
  event_on i s next old new line name told inside is walked on staged =
      let e = event_at events line name in
      let rest = drop (i + 1) saids in
      let here : drop i saids ≡ said.Event line name told ∷ rest = drop_more saids i (said.Event line name told) inside ∙ ap (λ (x : Said). x ∷ rest) (sym is) in
      let first = print_of s (suc i) line e told rest in
      let place : suc (suc i) ≡ suc (i + 1) = omega arith in
      record {
        before = walked.before ++ first;
        whole =
            walked.whole ∙ ap (λ xs. walked.before ++ prints events s (suc i) xs) here
            ∙ sym (append_assoc walked.before first (prints events (stages_if s e told) (suc (suc i)) rest))
            ∙ (λ j. (walked.before ++ first) ++ prints events (sym staged j) (place j) rest);
        are = on (suc i) walked.before walked.are;
      }

  -- no other line prints a layout by itself
  passed : (s : Staged) (k : ℕ) (x : Said) (rest : List Said) → ((line : ℕ) (name : List ℕ) (told : Told) → x ≡ said.Event line name told → ⊥) → prints events s k (x ∷ rest) ≡ prints events s (suc k) rest
  passed s k (said.Event line name told) rest other = absurd (other line name told refl)
  passed s k (said.Size size) rest other = refl
  passed s k (said.Redundancy r) rest other = refl
  passed s k (said.Sets first last set) rest other = refl
  passed s k (said.Cut size weight) rest other = refl
  passed s k (said.Side first last up down zones) rest other = refl
  passed s k (said.Nodes nodes) rest other = refl
  passed s k (said.Got m) rest other = refl
  passed s k (said.Sent m kind from to) rest other = refl
  passed s k (said.Synced n v) rest other = refl
  passed s k (said.Dropped n v) rest other = refl
  passed s k (said.Done q word answer) rest other = refl
  passed s k (said.Listed q count) rest other = refl
  passed s k (said.Key key version size) rest other = refl
  passed s k (said.Ended q word) rest other = refl
  passed s k (said.Node n rows blocks top) rest other = refl
  passed s k (said.Fresh pairs) rest other = refl
  passed s k (said.End of_events requests messages) rest other = refl

  pub line_on : (i : ℕ) (s : Staged) (sheets : List Sheet) (x : Said) → i < length saids → x ≡ get_or saids i x → ((line : ℕ) (name : List ℕ) (told : Told) → x ≡ said.Event line name told → ⊥) →
      IsWalked events saids i s sheets → IsWalked events saids (i + 1) s sheets
  line_on i s sheets x inside is other walked =
      let rest = drop (i + 1) saids in
      let here : drop i saids ≡ x ∷ rest = drop_more saids i x inside ∙ ap (λ (y : Said). y ∷ rest) (sym is) in
      let place : suc (suc i) ≡ suc (i + 1) = omega arith in
      record {
        before = walked.before;
        whole = walked.whole ∙ ap (λ xs. walked.before ++ prints events s (suc i) xs) here ∙ ap (λ ps. walked.before ++ ps) (passed s (suc i) x rest other ∙ ap (λ n. prints events s n rest) place);
        are = walked.are;
      }

  -- at the end
  pub ended : (i : ℕ) (s : Staged) (sheets : List Sheet) → length saids ≤ i → IsWalked events saids i s sheets → AreJudged (all_prints events saids) (judged.Lawful sheets)
  ended i s sheets end walked =
      let whole : all_prints events saids ≡ walked.before =
      walked.whole ∙ ap (λ xs. walked.before ++ prints events s (suc i) xs) (drop_all i saids end) ∙ append-nil walked.before in
      subst (λ (ps : List Print). AreJudged ps (judged.Lawful sheets)) (sym whole) walked.are
