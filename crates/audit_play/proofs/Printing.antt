-- What is given of sheets is what is printed: the sheet for a line is the print's for it, and each is of the greatest partition size.
use Rattle.std.proofs.Common.{◌≡◌, ℕ, suc, true, false, cond, ◌==◌, if◌then◌else◌, IsTrue, Option, Some, None, List, [], ◌∷◌, refl, sym, ap, subst, ◌∙◌}
use Rattle.std.specs.Prelude.{⊤, IfSome}
use Rattle.std.specs.List.{AllByRecursion}
use Rattle.layout_roles.specs.Zones.{nodes_ascend}
use Rattle.layout_roles.specs.Fits.{IsGreatest}
use Rattle.layout_roles.specs.Certificates.{IsRedundancy, zones_wanted}
use Rattle.cluster_machine.specs.declared.applied.Applied.{Applied}
use Rattle.cluster_machine.specs.declared.step.Refusal.TheVariants.{VersionLimit}
use Rattle.cluster_machine.specs.Choices.{Decision}
use Rattle.cluster_machine.specs.Step.{given, none_given}
use Rattle.cluster_machine.specs.Worlds.{newest_at, comes_to_layout}
use Rattle.change_model.specs.Given.{layout_of, given_at}
use Rattle.store_model.specs.declared.event.Event.{Event}
use Rattle.store_model.specs.declared.event.Event.TheVariants.{Trio, Block, Bucket, Role, Redundancy, Apply, Tick, Skew, Put, Get, Head, Delete, Copy, List as Keys, Deliver, Lose, Drain, Expire, Restart, Gossip, Ack, Sync, SyncAck, Clean, Work, Repair, Collect}
use Rattle.store_model.specs.declared.event.Numbered.{Numbered}
use Rattle.store_model.specs.Run.{State}
use Rattle.store_model.specs.Acts.{IsLawfulAct}
use Rattle.store_model.specs.Events.{act_of}
use Rattle.text_model.specs.Played.{steps_of}
use Rattle.audit_model.specs.Printed.{Staged, Printed, IsLawful, IsLawfulPrint, IsOfPrint, Print, print_at}
use Rattle.audit_model.specs.Audit.{staged_in, IsOfPrinted, IsGiven, as_printed, as_computed}
use Rattle.replay_run.specs.Turning.{turn}
use Rattle.audit_prints.specs.declared.sheet.Sheet.{Sheet}
use Rattle.audit_prints.specs.Sheets.{IsShownOf, IsSheetOf, AreSheetsOf}
use Rattle.audit_play.specs.Staged.{is_of}
use Rattle.audit_play.specs.Sheets.{IsGreatestShown, IsGreatestSheet, sheet_at, node_of, shown_for, shown_at, given_for, IsGivenSheet}
use Rattle.audit_play.proofs.Staging.{is_staged, not_staged}

-- ---- the sheet for a line

-- a sheet is of what is printed, or there are neither
abbrev pub IsSheetFor : Option Print → Option Sheet → Type 0
IsSheetFor None None = ⊤
IsSheetFor (Some p) (Some sheet) = IsSheetOf p sheet
IsSheetFor p sheet = ⊥

pub sheet_is : (ps : List Print) (ss : List Sheet) (line : ℕ) → AreSheetsOf ps ss → IsSheetFor (print_at ps line) (sheet_at ss line)
sheet_is [] [] line h = tt
sheet_is [] (s ∷ ss) line h = absurd h
sheet_is (p ∷ ps) [] line h = absurd h
sheet_is (p ∷ ps) (s ∷ ss) line h =
    subst (λ n. IsSheetFor (if p.line == line then Some p else print_at ps line) (if n == line then Some s else sheet_at ss line)) (sym h.0.line)
    (elim (p.line == line) as (λ b. IsSheetFor (if b then Some p else print_at ps line) (if b then Some s else sheet_at ss line)) [
      | true ↦ h.0
      | false ↦ sheet_is ps ss line h.1
    ])

-- ---- the greatest size

-- a lawful print is of the greatest partition size
abbrev pub PrintsAreGreatest : Type 0
PrintsAreGreatest = (s : Staged) (p : Printed) → IsTrue (nodes_ascend s.roles) → IsRedundancy s.wanted → IsLawful s p → IsGreatest s.roles (zones_wanted s.wanted s.roles) p.size p.sets

module _ (greatest : PrintsAreGreatest) where
  shown_greatest : (p : Print) (shown : Applied) → IsShownOf p shown → IsLawfulPrint p → IsRedundancy p.staged.wanted →
      IsGreatest shown.roles.list shown.certified.r shown.certified.size shown.certified.sets.sets
  shown_greatest p shown is lawful wanted =
      let ascend : IsTrue (nodes_ascend p.staged.roles) = subst (λ roles. IsTrue (nodes_ascend roles)) is.roles shown.roles.ascending in
      subst (λ x. IsGreatest shown.roles.list shown.certified.r shown.certified.size x) (sym is.sets)
      (subst (λ x. IsGreatest shown.roles.list shown.certified.r x p.printed.sets) (sym is.size)
      (subst (λ x. IsGreatest shown.roles.list x p.printed.size p.printed.sets) (sym is.redundancy)
      (subst (λ x. IsGreatest x (zones_wanted p.staged.wanted p.staged.roles) p.printed.size p.printed.sets) (sym is.roles) (greatest p.staged p.printed ascend wanted lawful))))

  pub sheets_greatest : (ps : List Print) (ss : List Sheet) → AreSheetsOf ps ss → AllByRecursion IsLawfulPrint ps → AllByRecursion (λ (p : Print). IsRedundancy p.staged.wanted) ps → AllByRecursion IsGreatestSheet ss
  sheets_greatest [] [] h lawful wanted = tt
  sheets_greatest [] (s ∷ ss) h lawful wanted = absurd h
  sheets_greatest (p ∷ ps) [] h lawful wanted = absurd h
  sheets_greatest (p ∷ ps) (s ∷ ss) h lawful wanted = (shown_greatest p s.shown h.0.shown lawful.0 wanted.0, sheets_greatest ps ss h.1 lawful.1 wanted.1)

-- what is at hand for an apply is of the greatest size
given_greatest : (ss : List Sheet) (s : Staged) (e : Numbered) → AllByRecursion IsGreatestSheet ss →
    IfSome (given_for ss s e) (λ g. IsGreatestShown g.1)
given_greatest ss s e all = at_node (node_of e.event) (shown_for s (sheet_at ss e.line)) (shown_so (sheet_at ss e.line) (found ss e.line all))
  where
    found : (ss : List Sheet) (line : ℕ) → AllByRecursion IsGreatestSheet ss → IfSome (sheet_at ss line) IsGreatestSheet
    found [] line h = tt
    found (x ∷ xs) line h = elim (x.line == line) as (λ b. IfSome (if b then Some x else sheet_at xs line) IsGreatestSheet) [ true ↦ h.0 | false ↦ found xs line h.1 ]

    shown_so : (o : Option Sheet) → IfSome o IsGreatestSheet → IfSome (shown_for s o) IsGreatestShown
    shown_so None h = tt
    shown_so (Some x) h = elim (is_of s x) as (λ b. IfSome (if b then Some x.shown else None) IsGreatestShown) [ true ↦ h | false ↦ tt ]

    at_node : (n : Option ℕ) (o : Option Applied) → IfSome o IsGreatestShown → IfSome (shown_at n o) (λ g. IsGreatestShown g.1)
    at_node None o h = tt
    at_node (Some n) None h = tt
    at_node (Some n) (Some x) h = h

pub greatest_of : (ss : List Sheet) (s : Staged) (e : Numbered) (node : ℕ) (shown : Applied) → AllByRecursion IsGreatestSheet ss → Some (node, shown) ≡ given_for ss s e → IsGreatestShown shown
greatest_of ss s e node shown all is = subst (λ o. IfSome o (λ g. IsGreatestShown g.1)) (sym is) (given_greatest ss s e all)

-- ---- what an event is given

-- an event that is given something as a sheet says is given something as the print says, of which the same comes
pub record IsAsPrinted (s : State) (e : Event) (choice : Decision) (line : ℕ) (p : Option Print) : Type 0 where
  pub other : Decision
  pub is_given : IsGiven s (turn (record { line = line; event = e }) other) p
  pub same : act_of e choice ≡ act_of e other
  pub same_steps : steps_of s e choice ≡ steps_of s e other

-- what is shown of a printed layout is so with the layout of any version that has its sets
abbrev pub AreOfPrints : Type 0
AreOfPrints = (p : Print) (shown : Applied) → IsShownOf p shown → (version : ℕ) → IsOfPrint p.staged.roles p.staged.wanted version p.printed (layout_of version shown) shown

-- what an apply is given of it
of_print : AreOfPrints → (s : State) (n : ℕ) (p : Print) (shown : Applied) → IsShownOf p shown → p.staged ≡ staged_in s → IsOfPrinted s (Apply n) (given_at s.world n shown) p
of_print shows s n p shown is so =
    let w = s.world in
    let next = suc (newest_at w n) in
    elim (comes_to_layout w n) as (λ b. comes_to_layout w n ≡ b → IsOfPrinted s (Apply n) (cond b (given (layout_of next shown) shown) (none_given VersionLimit)) p) [
      | true ↦ λ e. subst (λ b. cond b (IsOfPrint w.roles w.redundancy next p.printed (layout_of next shown) shown) ⊥) (sym e) (subst (λ (x : Staged). IsOfPrint x.roles x.wanted next p.printed (layout_of next shown) shown) so (shows p shown is next))
      | false ↦ λ e. subst (λ b. cond b ⊥ ⊤) (sym e) tt
    ] refl

unprinted : (s : State) (e : Event) (choice : Decision) (line : ℕ) → IsLawfulAct s (act_of e choice) → IsAsPrinted s e choice line None
unprinted s e choice line h = record { other = choice; is_given = h; same = refl; same_steps = refl }

-- what is printed isn't of what is staged
misfit : (s : State) (e : Event) (choice : Decision) (line : ℕ) (p : Print) → (p.staged ≡ staged_in s → ⊥) → IsLawfulAct s (act_of e choice) → IsAsPrinted s e choice line (Some p)
misfit s e choice line p not h = record { other = choice; is_given = as_computed not h; same = refl; same_steps = refl }

abbrev nothing_given : Decision
nothing_given = none_given VersionLimit

-- what is printed is of what is staged: an apply is given it, and another event nothing
fit : AreOfPrints → (s : State) (e : Event) (choice : Decision) (line : ℕ) (p : Print) (shown : Applied) → IsShownOf p shown → p.staged ≡ staged_in s → IsGivenSheet s e choice (shown_at (node_of e) (Some shown)) →
    IsAsPrinted s e choice line (Some p)
fit shows s (Apply n) choice line p shown is so h = record {
  other = choice;
  is_given = as_printed so (subst (λ c. IsOfPrinted s (Apply n) c p) (sym h) (of_print shows s n p shown is so));
  same = refl;
  same_steps = refl;
}
fit shows s Trio choice line p shown is so h = record { other = nothing_given; is_given = as_printed so tt; same = refl; same_steps = refl }
fit shows s (Block size) choice line p shown is so h = record { other = nothing_given; is_given = as_printed so tt; same = refl; same_steps = refl }
fit shows s (Bucket name) choice line p shown is so h = record { other = nothing_given; is_given = as_printed so tt; same = refl; same_steps = refl }
fit shows s (Role n role) choice line p shown is so h = record { other = nothing_given; is_given = as_printed so tt; same = refl; same_steps = refl }
fit shows s (Redundancy wanted) choice line p shown is so h = record { other = nothing_given; is_given = as_printed so tt; same = refl; same_steps = refl }
fit shows s (Tick ms) choice line p shown is so h = record { other = nothing_given; is_given = as_printed so tt; same = refl; same_steps = refl }
fit shows s (Skew n ms) choice line p shown is so h = record { other = nothing_given; is_given = as_printed so tt; same = refl; same_steps = refl }
fit shows s (Put n bucket key size fill) choice line p shown is so h = record { other = nothing_given; is_given = as_printed so tt; same = refl; same_steps = refl }
fit shows s (Get n bucket key) choice line p shown is so h = record { other = nothing_given; is_given = as_printed so tt; same = refl; same_steps = refl }
fit shows s (Head n bucket key) choice line p shown is so h = record { other = nothing_given; is_given = as_printed so tt; same = refl; same_steps = refl }
fit shows s (Delete n bucket key) choice line p shown is so h = record { other = nothing_given; is_given = as_printed so tt; same = refl; same_steps = refl }
fit shows s (Copy n from_bucket from_key bucket key) choice line p shown is so h = record { other = nothing_given; is_given = as_printed so tt; same = refl; same_steps = refl }
fit shows s (Keys n bucket prefix) choice line p shown is so h = record { other = nothing_given; is_given = as_printed so tt; same = refl; same_steps = refl }
fit shows s (Deliver m) choice line p shown is so h = record { other = nothing_given; is_given = as_printed so tt; same = refl; same_steps = refl }
fit shows s (Lose m) choice line p shown is so h = record { other = nothing_given; is_given = as_printed so tt; same = refl; same_steps = refl }
fit shows s (Drain n) choice line p shown is so h = record { other = nothing_given; is_given = as_printed so tt; same = refl; same_steps = refl }
fit shows s (Expire q) choice line p shown is so h = record { other = nothing_given; is_given = as_printed so tt; same = refl; same_steps = refl }
fit shows s (Restart n) choice line p shown is so h = record { other = nothing_given; is_given = as_printed so tt; same = refl; same_steps = refl }
fit shows s (Gossip from to) choice line p shown is so h = record { other = nothing_given; is_given = as_printed so tt; same = refl; same_steps = refl }
fit shows s (Ack n) choice line p shown is so h = record { other = nothing_given; is_given = as_printed so tt; same = refl; same_steps = refl }
fit shows s (Sync n) choice line p shown is so h = record { other = nothing_given; is_given = as_printed so tt; same = refl; same_steps = refl }
fit shows s (SyncAck n) choice line p shown is so h = record { other = nothing_given; is_given = as_printed so tt; same = refl; same_steps = refl }
fit shows s (Clean n) choice line p shown is so h = record { other = nothing_given; is_given = as_printed so tt; same = refl; same_steps = refl }
fit shows s (Work n) choice line p shown is so h = record { other = nothing_given; is_given = as_printed so tt; same = refl; same_steps = refl }
fit shows s (Repair n) choice line p shown is so h = record { other = nothing_given; is_given = as_printed so tt; same = refl; same_steps = refl }
fit shows s (Collect n) choice line p shown is so h = record { other = nothing_given; is_given = as_printed so tt; same = refl; same_steps = refl }

nothing_shown : (o : Option ℕ) → shown_at o None ≡ None
nothing_shown None = refl
nothing_shown (Some n) = refl

-- the layout is given back what is staged
staged_so : (s : State) (p : Print) (sheet : Sheet) → IsSheetOf p sheet → (sheet.shown.roles.list ≡ s.world.roles) × (sheet.wanted ≡ s.world.redundancy) → p.staged ≡ staged_in s
staged_so s p sheet is h =
    let roles : p.staged.roles ≡ s.world.roles = sym is.shown.roles ∙ h.0 in
    let wanted : p.staged.wanted ≡ s.world.redundancy = sym is.wanted ∙ h.1 in
    λ i. record { roles = roles i; wanted = wanted i }

pub as_printed_so : AreOfPrints → (s : State) (e : Event) (choice : Decision) (line : ℕ) (p : Option Print) (o : Option Sheet) → IsSheetFor p o → IsGivenSheet s e choice (shown_at (node_of e) (shown_for (staged_in s) o)) →
    IsAsPrinted s e choice line p
as_printed_so shows s e choice line None None is h = unprinted s e choice line (subst (IsGivenSheet s e choice) (nothing_shown (node_of e)) h)
as_printed_so shows s e choice line None (Some sheet) is h = absurd is
as_printed_so shows s e choice line (Some p) None is h = absurd is
as_printed_so shows s e choice line (Some p) (Some sheet) is h =
    elim (is_of (staged_in s) sheet) as (λ b. is_of (staged_in s) sheet ≡ b → IsGivenSheet s e choice (shown_at (node_of e) (if b then Some sheet.shown else None)) → IsAsPrinted s e choice line (Some p)) [
      | true ↦ λ yes k. fit shows s e choice line p sheet.shown is.shown (staged_so s p sheet is (is_staged (staged_in s) sheet yes)) k
      | false ↦ λ never k.
          misfit s e choice line p (λ so. not_staged (staged_in s) sheet never (is.shown.roles ∙ ap (λ (x : Staged). x.roles) so) (is.wanted ∙ ap (λ (x : Staged). x.wanted) so))
          (subst (IsGivenSheet s e choice) (nothing_shown (node_of e)) k)
    ] refl h
