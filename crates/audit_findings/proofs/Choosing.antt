-- The next event of a run can be given what the prints say.
use Rattle.std.proofs.Common.{◌≡◌, ◌+◌, inl, inr, ℕ, suc, Bool, true, false, cond, nat_eq, Option, Some, None, List, [], ◌∷◌, length, refl, sym, subst}
use Rattle.std.specs.Prelude.{⊤, IfSome}
use Rattle.std.specs.List.{AllByRecursion, IsDistinct, filter, list_all}
use Rattle.std.proofs.lemmas.Bool.{and_from}
use Rattle.std.proofs.lemmas.List.Elements.{recursion_from_All}
use Rattle.layout_roles.specs.declared.role.Role.{Role}
use Rattle.layout_roles.specs.declared.roles.Roles.{Roles}
use Rattle.layout_roles.specs.declared.assignment.Assignment.{Assignment}
use Rattle.layout_roles.specs.declared.layout.Layout.{Layout}
use Rattle.layout_roles.specs.Zones.{set_ascends}
use Rattle.layout_roles.specs.Fits.{partitions, NodeSet, IsThree}
use Rattle.layout_roles.specs.Network.{network, vertices}
use Rattle.layout_roles.specs.Cuts.{weight}
use Rattle.layout_roles.specs.Certificates.{IsRedundancy, zones_wanted}
use Rattle.side_model.specs.Sides.{set_of}
use Rattle.cluster_machine.specs.declared.applied.Applied.{Applied}
use Rattle.cluster_machine.specs.declared.step.Refusal.TheVariants.{VersionLimit}
use Rattle.cluster_machine.specs.Choices.{Decision, IsBest, IsComputed, IsNone}
use Rattle.cluster_machine.specs.Step.{given, none_given}
use Rattle.cluster_machine.specs.Worlds.{newest_at, comes_to_layout}
use Rattle.store_model.specs.declared.event.Event.{Event}
use Rattle.store_model.specs.declared.event.Event.TheVariants.{Trio, Block, Bucket, Role as Stage, Redundancy as Spread, Apply, Tick, Skew, Put, Get, Head, Delete, Copy, List as Keys, Deliver, Lose, Drain, Expire, Restart, Gossip, Ack, Sync, SyncAck, Clean, Work, Repair, Collect}
use Rattle.store_model.specs.declared.event.Numbered.{Numbered}
use Rattle.store_model.specs.Run.{State, start}
use Rattle.store_model.specs.Acts.{IsLawfulAct}
use Rattle.store_model.specs.Events.{Turn, act_of, after, run}
use Rattle.store_model.specs.Turns.{AreLawful}
use Rattle.text_model.specs.Grammar.{IsAllowed}
use Rattle.text_model.specs.Played.{ArePlayed}
use Rattle.replay_run.proofs.Lawful.{IsFine, start_fine, after_fine, event_lawful}
use Rattle.replay_run.proofs.Meant.{allowed_is_meant}
use Rattle.audit_model.specs.declared.said.Said.{Said}
use Rattle.audit_model.specs.Printed.{Staged, Printed, Print, IsLawful, IsLawfulPrint, IsOfPrint, print_at, all_prints}
use Rattle.audit_model.specs.Audit.{staged_in, as_printed, as_computed, IsGiven}
use Rattle.audit_runs.specs.Alike.{AreSameButCut, DifferInCut}
use Rattle.audit_runs.proofs.Prints.{print_at_is, both_of}
use Rattle.audit_findings.specs.Next.{turned, Chosen}
use Rattle.layout_judge.proofs.Orders.{order_ascends}
use Rattle.audit_findings.proofs.Sets.{IsOrdered, AreOrdered, IsOrderedPrint, all_ordered}
use Rattle.audit_findings.proofs.Staged.{OneOrNot, one_staged}

-- a layout that is given as it was printed is one that is computed
abbrev pub PrintsAreComputed : Type 0
PrintsAreComputed = (s : Staged) (p : Printed) (version : ℕ) (l : Layout) (shown : Applied) → IsRedundancy s.wanted → IsLawful s p →
    IsOfPrint s.roles s.wanted version p l shown → (best : Applied) × (AreSameButCut shown best × IsBest s.roles s.wanted version l best)

-- ---- the printed layout

set_rises : (roles : List Role) (set : NodeSet) → IsOrdered set → IsThree roles set → set_ascends set ≡ true
set_rises roles set h three = subst (λ x. set_ascends x ≡ true) (sym h.is) (order_ascends h.first h.second h.third (subst (IsDistinct nat_eq) h.is three.different))

sets_rise : (roles : List Role) (sets : List NodeSet) → AreOrdered sets → AllByRecursion (IsThree roles) sets → list_all set_ascends sets ≡ true
sets_rise roles [] h k = refl
sets_rise roles (x ∷ xs) h k = and_from (set_ascends x) (list_all set_ascends xs) (set_rises roles x h.0 k.0) (sets_rise roles xs h.1 k.1)

module _ (s : State) (fine : IsFine s) (p : Printed) (lawful : IsLawful (staged_in s) p) (ordered : AreOrdered p.sets) (version : ℕ) where
  abbrev r : ℕ
  r = zones_wanted s.world.redundancy s.world.roles

  roles_of : Roles
  roles_of = record { list = s.world.roles; ascending = fine.staged.ascend; numbered = fine.staged.numbered }

  count : length p.sets ≡ 256
  unfolding partitions
  count = lawful.fits.whole

  sets_of : Assignment
  sets_of = record { sets = p.sets; whole = count; ascending = sets_rise s.world.roles p.sets ordered (recursion_from_All (IsThree s.world.roles) p.sets lawful.fits.threes) }

  abbrev layout_of : Layout
  layout_of = record { version = version; roles = roles_of; r = r; size = p.size; sets = sets_of }

  abbrev shown_of : Applied
  shown_of = record {
    certified = record { r = r; size = p.size; sets = sets_of; cut = record { size = p.size + 1; weight = weight (network s.world.roles r (p.size + 1)) (set_of p.side); side = filter (set_of p.side) (vertices s.world.roles) } };
    roles = roles_of;
  }

  is_of_print : IsOfPrint s.world.roles s.world.redundancy version p layout_of shown_of
  unfolding roles_of sets_of
  is_of_print = record {
    version_is = refl;
    roles_are = refl;
    shown_roles = refl;
    redundancy = refl;
    shown_redundancy = refl;
    size = (refl, refl);
    sets = (refl, refl);
    cut_size = refl;
    cut_weight = refl;
    cut_side = refl;
  }

-- ---- what the event is given

differ_in_none : (c : Decision) → DifferInCut c c
differ_in_none (given l shown) = (refl, record { roles = refl; redundancy = refl; size = refl; sets = refl })
differ_in_none (none_given refusal) = refl

other_cut : (a b : Applied) → AreSameButCut a b → AreSameButCut b a
other_cut a b h = record { roles = sym h.roles; redundancy = sym h.redundancy; size = sym h.size; sets = sym h.sets }

-- what an event is given for this print, or none
record ChosenFor (s : State) (e : Numbered) (o : Option Print) : Type 0 where
  choice : Decision
  beside : Decision
  given_so : IsGiven s (turned e choice) o
  differ : DifferInCut beside choice
  lawful : IsLawfulAct s (act_of e.event beside)

module _ (computed : PrintsAreComputed) (s : State) (fine : IsFine s) where
  -- with a layout printed for what is staged
  printed_choice : (line : ℕ) (e : Event) (p : Print) → p.staged ≡ staged_in s → IsLawfulPrint p → IsOrderedPrint p → (c : Decision) → IsLawfulAct s (act_of e c) → ChosenFor s (record { line = line; event = e }) (Some p)
  printed_choice line (Apply n) p so lawful ordered c h = by_test (comes_to_layout s.world n) refl
    where
      version : ℕ
      version = suc (newest_at s.world n)

      lawful_here : IsLawful (staged_in s) p.printed
      lawful_here = subst (λ (x : Staged). IsLawful x p.printed) so lawful

      by_test : (b : Bool) → comes_to_layout s.world n ≡ b → ChosenFor s (record { line = line; event = Apply n }) (Some p)
      by_test true is =
          let l : Layout = layout_of s fine p.printed lawful_here ordered version in
          let shown : Applied = shown_of s fine p.printed lawful_here ordered version in
          let of : IsOfPrint s.world.roles s.world.redundancy version p.printed l shown = is_of_print s fine p.printed lawful_here ordered version in
          let best = computed (staged_in s) p.printed version l shown fine.staged.wanted_in lawful_here of in
          record {
            choice = given l shown;
            beside = given l best.0;
            given_so = as_printed so (subst (λ b. cond b (IsOfPrint s.world.roles s.world.redundancy version p.printed l shown) ⊥) (sym is) of);
            differ = (refl, other_cut shown best.0 best.1.0);
            lawful = (tt, tt, subst (λ b. cond b (IsComputed s.world.roles s.world.redundancy version (given l best.0)) (IsNone (given l best.0))) (sym is) best.1.1);
          }
      by_test false is = record {
        choice = none_given VersionLimit;
        beside = none_given VersionLimit;
        given_so = as_printed so (subst (λ b. cond b ⊥ ⊤) (sym is) tt);
        differ = refl;
        lawful = (tt, tt, subst (λ b. cond b (IsComputed s.world.roles s.world.redundancy version (none_given VersionLimit)) (IsNone (none_given VersionLimit))) (sym is) tt);
      }
  printed_choice line Trio p so lawful ordered c h = record { choice = none_given VersionLimit; beside = none_given VersionLimit; given_so = as_printed so tt; differ = refl; lawful = h }
  printed_choice line (Block size) p so lawful ordered c h = record { choice = none_given VersionLimit; beside = none_given VersionLimit; given_so = as_printed so tt; differ = refl; lawful = h }
  printed_choice line (Bucket name) p so lawful ordered c h = record { choice = none_given VersionLimit; beside = none_given VersionLimit; given_so = as_printed so tt; differ = refl; lawful = h }
  printed_choice line (Stage m role) p so lawful ordered c h = record { choice = none_given VersionLimit; beside = none_given VersionLimit; given_so = as_printed so tt; differ = refl; lawful = h }
  printed_choice line (Spread wanted) p so lawful ordered c h = record { choice = none_given VersionLimit; beside = none_given VersionLimit; given_so = as_printed so tt; differ = refl; lawful = h }
  printed_choice line (Tick ms) p so lawful ordered c h = record { choice = none_given VersionLimit; beside = none_given VersionLimit; given_so = as_printed so tt; differ = refl; lawful = h }
  printed_choice line (Skew m ms) p so lawful ordered c h = record { choice = none_given VersionLimit; beside = none_given VersionLimit; given_so = as_printed so tt; differ = refl; lawful = h }
  printed_choice line (Put m bucket key size fill) p so lawful ordered c h = record { choice = none_given VersionLimit; beside = none_given VersionLimit; given_so = as_printed so tt; differ = refl; lawful = h }
  printed_choice line (Get m bucket key) p so lawful ordered c h = record { choice = none_given VersionLimit; beside = none_given VersionLimit; given_so = as_printed so tt; differ = refl; lawful = h }
  printed_choice line (Head m bucket key) p so lawful ordered c h = record { choice = none_given VersionLimit; beside = none_given VersionLimit; given_so = as_printed so tt; differ = refl; lawful = h }
  printed_choice line (Delete m bucket key) p so lawful ordered c h = record { choice = none_given VersionLimit; beside = none_given VersionLimit; given_so = as_printed so tt; differ = refl; lawful = h }
  printed_choice line (Copy m from_bucket from_key bucket key) p so lawful ordered c h = record { choice = none_given VersionLimit; beside = none_given VersionLimit; given_so = as_printed so tt; differ = refl; lawful = h }
  printed_choice line (Keys m bucket prefix) p so lawful ordered c h = record { choice = none_given VersionLimit; beside = none_given VersionLimit; given_so = as_printed so tt; differ = refl; lawful = h }
  printed_choice line (Deliver m) p so lawful ordered c h = record { choice = none_given VersionLimit; beside = none_given VersionLimit; given_so = as_printed so tt; differ = refl; lawful = h }
  printed_choice line (Lose m) p so lawful ordered c h = record { choice = none_given VersionLimit; beside = none_given VersionLimit; given_so = as_printed so tt; differ = refl; lawful = h }
  printed_choice line (Drain m) p so lawful ordered c h = record { choice = none_given VersionLimit; beside = none_given VersionLimit; given_so = as_printed so tt; differ = refl; lawful = h }
  printed_choice line (Expire q) p so lawful ordered c h = record { choice = none_given VersionLimit; beside = none_given VersionLimit; given_so = as_printed so tt; differ = refl; lawful = h }
  printed_choice line (Restart m) p so lawful ordered c h = record { choice = none_given VersionLimit; beside = none_given VersionLimit; given_so = as_printed so tt; differ = refl; lawful = h }
  printed_choice line (Gossip from to) p so lawful ordered c h = record { choice = none_given VersionLimit; beside = none_given VersionLimit; given_so = as_printed so tt; differ = refl; lawful = h }
  printed_choice line (Ack m) p so lawful ordered c h = record { choice = none_given VersionLimit; beside = none_given VersionLimit; given_so = as_printed so tt; differ = refl; lawful = h }
  printed_choice line (Sync m) p so lawful ordered c h = record { choice = none_given VersionLimit; beside = none_given VersionLimit; given_so = as_printed so tt; differ = refl; lawful = h }
  printed_choice line (SyncAck m) p so lawful ordered c h = record { choice = none_given VersionLimit; beside = none_given VersionLimit; given_so = as_printed so tt; differ = refl; lawful = h }
  printed_choice line (Clean m) p so lawful ordered c h = record { choice = none_given VersionLimit; beside = none_given VersionLimit; given_so = as_printed so tt; differ = refl; lawful = h }
  printed_choice line (Work m) p so lawful ordered c h = record { choice = none_given VersionLimit; beside = none_given VersionLimit; given_so = as_printed so tt; differ = refl; lawful = h }
  printed_choice line (Repair m) p so lawful ordered c h = record { choice = none_given VersionLimit; beside = none_given VersionLimit; given_so = as_printed so tt; differ = refl; lawful = h }
  printed_choice line (Collect m) p so lawful ordered c h = record { choice = none_given VersionLimit; beside = none_given VersionLimit; given_so = as_printed so tt; differ = refl; lawful = h }

  chosen_for : (e : Numbered) (o : Option Print) → IsAllowed e.event → IfSome o (λ p. IsLawfulPrint p × IsOrderedPrint p) → ChosenFor s e o
  chosen_for e None allowed known =
      let c = event_lawful s e.event (allowed_is_meant e.event allowed) fine in
      record { choice = c.0; beside = c.0; given_so = c.1; differ = differ_in_none c.0; lawful = c.1 }
  chosen_for e (Some p) allowed known = by_staged (event_lawful s e.event (allowed_is_meant e.event allowed) fine) (one_staged p.staged (staged_in s))
    where
      by_staged : (c : Decision) × IsLawfulAct s (act_of e.event c) → OneOrNot p.staged (staged_in s) → ChosenFor s e (Some p)
      by_staged c (inl so) = printed_choice e.line e.event p so known.0 known.1 c.0 c.1
      by_staged c (inr other) = record { choice = c.0; beside = c.0; given_so = as_computed other c.1; differ = differ_in_none c.0; lawful = c.1 }

run_fine : (s : State) (ts : List Turn) → IsFine s → AreLawful s ts → IsFine (run s ts)
run_fine s [] fine h = fine
run_fine s (t ∷ ts) fine h = run_fine (after s t) ts (after_fine s t h.0 fine) h.1

pub next_chosen : PrintsAreComputed → (events : List Numbered) (saids : List Said) (others : List Turn) (e : Numbered) → AllByRecursion IsLawfulPrint (all_prints events saids) → ArePlayed others → IsAllowed e.event →
    Chosen (all_prints events saids) (run start others) e
next_chosen computed events saids others e lawful played allowed =
    let ps : List Print = all_prints events saids in
    let s : State = run start others in
    let known = print_at_is (λ (p : Print). IsLawfulPrint p × IsOrderedPrint p) ps e.line (both_of IsLawfulPrint IsOrderedPrint ps lawful (all_ordered events saids)) in
    let c = chosen_for computed s (run_fine start others start_fine played.lawful) e (print_at ps e.line) allowed known in
    record { choice = c.choice; beside = c.beside; given = c.given_so; differ = c.differ; lawful = c.lawful }
