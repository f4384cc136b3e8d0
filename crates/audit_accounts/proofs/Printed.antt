-- Turns that are given the lawful layouts which lines print, each cut shown in order, print them in order.
use Rattle.std.proofs.Common.{◌≡◌, ◌<◌, ◌≤◌, ◌+◌, ◌^◌, ℕ, suc, true, false, cond, IsTrue, Option, Some, None, List, [], ◌∷◌, sym, ap, ◌∙◌, subst, arith, leb-true}
use Rattle.std.specs.Prelude.{IfSome}
use Rattle.std.specs.List.{AllByRecursion, filter, list_all}
use Rattle.std.proofs.lemmas.Bool.{and_parts}
use Rattle.layout_roles.specs.declared.layout.Layout.{Layout}
use Rattle.layout_roles.specs.declared.role.Role.{Role}
use Rattle.layout_roles.specs.Certificates.{IsRedundancy}
use Rattle.layout_roles.specs.Cuts.{Side}
use Rattle.layout_roles.specs.Names.{is_zone_name}
use Rattle.layout_roles.specs.Network.{vertices}
use Rattle.layout_roles.specs.Zones.{is_numbered, zone_names}
use Rattle.side_model.specs.Sides.{set_of}
use Rattle.cluster_machine.specs.declared.applied.Applied.{Applied}
use Rattle.cluster_machine.specs.Choices.{Decision, IsBest}
use Rattle.cluster_machine.specs.Step.{given, none_given}
use Rattle.cluster_machine.specs.Worlds.{newest_at, comes_to_layout}
use Rattle.store_model.specs.declared.event.Event.TheVariants.{Apply}
use Rattle.store_model.specs.Run.{State}
use Rattle.store_model.specs.Events.{Turn, after}
use Rattle.text_model.specs.Played.{AreAllowed}
use Rattle.audit_model.specs.Lines.{IsNumber}
use Rattle.audit_model.specs.Printed.{Staged, Print, Printed, IsLawful, IsLawfulPrint, IsOfPrint, print_at}
use Rattle.audit_model.specs.Audit.{staged_in, IsOfPrinted, IsGivenFor, IsGiven, AreGiven}
use Rattle.audit_runs.specs.Alike.{AreSameButCut}
use Rattle.audit_runs.proofs.Prints.{print_at_is}
use Rattle.audit_sheets.specs.Sheets.{nodes_on, IsSet, IsOrderly, IsRanked, AreInRange, IsStagedInRange}
use Rattle.audit_sheets.proofs.Computed.{parts_in_order, ranked}
use Rattle.audit_sheets.proofs.Runs.{all_weaker}
use Rattle.audit_accounts.specs.Saying.{IsOrderlyLine, TellOrderly}
use Rattle.audit_runs.proofs.Telling.{GivenTells}
use Rattle.audit_accounts.proofs.Orderly.{ComputedAreOrderly, EventsStage, StagesInRange, ApplyGives, AppliesGive, lawful_gives, next_staged, given_orderly_so}

-- a lawful layout that is given as it was printed is one that is computed, with another cut perhaps
abbrev pub PrintsAreComputed : Type 0
PrintsAreComputed = (s : Staged) (p : Printed) (version : ℕ) (l : Layout) (shown : Applied) → IsRedundancy s.wanted → IsLawful s p → IsOfPrint s.roles s.wanted version p l shown →
    (best : Applied) × (AreSameButCut shown best × IsBest s.roles s.wanted version l best)

low_nodes : (roles : List Role) → list_all is_numbered roles ≡ true → AllByRecursion (λ role. role.node ≤ 64) roles
low_nodes [] h = tt
low_nodes (role ∷ roles) h = let both = and_parts (is_numbered role) (list_all is_numbered roles) h in (leb-true role.node 64 both.0, low_nodes roles both.1)

module _ (prints : PrintsAreComputed) (computed : ComputedAreOrderly) where
  printed_orderly : (s : Staged) (p : Printed) (version : ℕ) (l : Layout) (shown : Applied) → IsStagedInRange s → IsLawful s p → IsOfPrint s.roles s.wanted version p l shown → IsOrderly shown
  printed_orderly s p version l shown staged lawful of =
      let found = prints s p version l shown staged.wanted lawful of in
      let best : Applied = found.0 in
      let same : AreSameButCut shown best = found.1.0 in
      let is : IsBest s.roles s.wanted version l best = found.1.1 in
      let mine : List Role = shown.roles.list in
      let c = shown.certified in
      let b = best.certified in
      let o : IsOrderly best = computed s.roles s.wanted version l best staged.wanted is (subst AreInRange (sym is.shown_roles) staged.roles) in
      let set : Side = set_of p.side in
      let listed : c.cut.side ≡ filter set (vertices mine) = of.cut_side ∙ ap (λ rs. filter set (vertices rs)) (sym of.shown_roles) in
      let ordered : IsRanked c.cut.side = ranked set mine c.cut.side lawful.cut.source lawful.cut.sink listed (low_nodes mine shown.roles.numbered) in
      let one : c.size ≡ b.size = same.size in
      let its : c.size ≡ p.size = of.size.1 in
      let sized : c.cut.size ≡ p.size + 1 = of.cut_size in
      let above : b.cut.size ≡ b.size + 1 = is.certified.cut.sized in
      let below : b.cut.size < 2 ^ 64 = o.cut.0 in
      let light : c.cut.weight < 768 = subst (λ n. n < 768) (sym of.cut_weight) lawful.light in
      record {
        size = subst IsNumber (sym one) o.size;
        redundancy = subst (λ r. (1 ≤ r) × (r ≤ 3)) (sym same.redundancy) o.redundancy;
        sets = subst (AllByRecursion IsSet) (sym same.sets) o.sets;
        cut = (omega arith, (omega arith, tt));
        parts = parts_in_order set mine c.cut.side lawful.cut.source lawful.cut.sink listed;
        nodes = all_weaker (λ n. n ≤ 64) IsNumber (λ n h. omega arith) (nodes_on c.cut.side) ordered.few;
        names = subst (λ rs. IsTrue (list_all is_zone_name (zone_names rs))) (sym same.roles) o.names;
      }

  of_print : (s : State) (n : ℕ) (c : Decision) (p : Print) → IsStagedInRange (staged_in s) → IsLawful (staged_in s) p.printed → IsOfPrinted s (Apply n) c p → GivenTells IsOrderlyLine c
  of_print s n (none_given r) p staged lawful of = tt
  of_print s n (given l shown) p staged lawful of =
      let w = s.world in
      elim (comes_to_layout w n) as (λ b. cond b (IsOfPrint w.roles w.redundancy (suc (newest_at w n)) p.printed l shown) ⊥ → IsOrderly shown) [
        | true ↦ printed_orderly (staged_in s) p.printed (suc (newest_at w n)) l shown staged lawful
        | false ↦ λ none. absurd none
      ] of

  print_gives : (s : State) (t : Turn) (p : Print) → IsStagedInRange (staged_in s) → IsLawfulPrint p → IsGivenFor s t p → ApplyGives t.numbered.event t.choice
  print_gives s t p staged lawful (IsGivenFor.as_printed same of) =
      λ n is. of_print s n t.choice p staged (subst (λ st. IsLawful st p.printed) same lawful) (subst (λ e. IsOfPrinted s e t.choice p) is of)
  print_gives s t p staged lawful (IsGivenFor.as_computed other act) = lawful_gives computed s t.numbered.event t.choice staged act

  one_gives : (s : State) (t : Turn) (o : Option Print) → IsStagedInRange (staged_in s) → IfSome o IsLawfulPrint → IsGiven s t o → ApplyGives t.numbered.event t.choice
  one_gives s t None staged lawful h = lawful_gives computed s t.numbered.event t.choice staged h
  one_gives s t (Some p) staged lawful h = print_gives s t p staged lawful h

  module _ (stage : EventsStage) (more : StagesInRange) (ps : List Print) (lawful : AllByRecursion IsLawfulPrint ps) where
    given_give : (s : State) (ts : List Turn) → AreGiven ps s ts → AreAllowed ts → IsStagedInRange (staged_in s) → AppliesGive ts
    given_give s [] h allowed staged = tt
    given_give s (t ∷ ts) h allowed staged = (
      one_gives s t (print_at ps t.numbered.line) staged (print_at_is IsLawfulPrint ps t.numbered.line lawful) h.0,
      given_give (after s t) ts h.1 allowed.1 (next_staged stage more s t allowed.0 staged),
    )

    pub printed_turns_orderly : (s : State) (ts : List Turn) → AreGiven ps s ts → AreAllowed ts → IsStagedInRange (staged_in s) → TellOrderly s ts
    printed_turns_orderly s ts h allowed staged = given_orderly_so s ts (given_give s ts h allowed staged)
