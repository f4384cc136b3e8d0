-- One printed layout is one that can be given, so runs that are given the same prints are one run.
use Rattle.std.proofs.Common.{◌≡◌, ℕ, suc, Bool, true, false, not, ◌&&◌, leb, cond, Option, Some, None, List, [], ◌∷◌, ◌++◌, length, refl, sym, ap, subst, ◌∙◌}
use Rattle.std.specs.Prelude.{⊤}
use mathlib.Core.Bool.{Bool-set}
use mathlib.Core.HLevel.{is_prop→PathP}
use native.Mathlib.Nat.{ℕ_set}
use Rattle.std.specs.List.{list_all}
use Rattle.layout_roles.specs.declared.role.Role.{Role}
use Rattle.layout_roles.specs.declared.roles.Roles.{Roles}
use Rattle.layout_roles.specs.declared.redundancy.Redundancy.{Redundancy}
use Rattle.layout_roles.specs.declared.assignment.Assignment.{Assignment}
use Rattle.layout_roles.specs.declared.layout.Layout.{Layout}
use Rattle.layout_roles.specs.Zones.{nodes_ascend, is_numbered, set_ascends}
use Rattle.crdt_rows.specs.declared.any_row.AnyRow.{AnyRow}
use Rattle.crdt_rows.specs.AnyRow.{any_join}
use Rattle.object_schema.specs.Schema.{words}
use Rattle.cluster_machine.specs.declared.applied.Applied.{Applied}
use Rattle.cluster_machine.specs.declared.step.Step.TheVariants as step
use Rattle.cluster_machine.specs.Choices.{Decision}
use Rattle.cluster_machine.specs.Layouts.{layouts}
use Rattle.cluster_machine.specs.Step.{most_versions, given, none_given, applied}
use Rattle.cluster_machine.specs.World.{is_member_at}
use Rattle.cluster_machine.specs.Worlds.{Done as Effect, newest_at, comes_to_layout, does}
use Rattle.store_model.specs.declared.event.Event.{Event}
use Rattle.store_model.specs.declared.event.Event.TheVariants.{Trio, Block, Bucket, Role as Stage, Redundancy as Spread, Apply, Tick, Skew, Put, Get, Head, Delete, Copy, List as Keys, Deliver, Lose, Drain, Expire, Restart, Gossip, Ack, Sync, SyncAck, Clean, Work, Repair, Collect}
use Rattle.store_model.specs.declared.event.Numbered.{Numbered}
use Rattle.store_model.specs.Run.{World, Moving, State}
use Rattle.store_model.specs.Events.{Turn, outcome, outcome_of, after, events_of, run}
use Rattle.text_model.specs.Grammar.{name_of}
use Rattle.text_model.specs.Transcript.{told_text, event_text, turns_text}
use Rattle.audit_model.specs.Printed.{Printed, Print, IsOfPrint, print_at}
use Rattle.audit_model.specs.Audit.{staged_in, IsOfPrinted, IsGivenFor, as_printed, as_computed, IsGiven, AreGiven}
use Rattle.audit_runs.specs.Fixed.{HasPrint, HavePrints}

same_roles : (a b : Roles) → a.list ≡ b.list → a ≡ b
same_roles a b e = λ i. record {
  list = e i;
  ascending = is_prop→PathP (λ t. nodes_ascend (e t) ≡ true) (λ t. Bool-set (nodes_ascend (e t)) true) a.ascending b.ascending i;
  numbered = is_prop→PathP (λ t. list_all is_numbered (e t) ≡ true) (λ t. Bool-set (list_all is_numbered (e t)) true) a.numbered b.numbered i;
}

same_sets : (a b : Assignment) → a.sets ≡ b.sets → a ≡ b
same_sets a b e = λ i. record {
  sets = e i;
  whole = is_prop→PathP (λ t. length (e t) ≡ 256) (λ t. ℕ_set (length (e t)) 256) a.whole b.whole i;
  ascending = is_prop→PathP (λ t. list_all set_ascends (e t) ≡ true) (λ t. Bool-set (list_all set_ascends (e t)) true) a.ascending b.ascending i;
}

module _ (roles : List Role) (wanted : Redundancy) (version : ℕ) (p : Printed) (l m : Layout) (a b : Applied) (h : IsOfPrint roles wanted version p l a) (k : IsOfPrint roles wanted version p m b) where
  one_layout : l ≡ m
  one_layout = λ i. record {
    version = (h.version_is ∙ sym k.version_is) i;
    roles = same_roles l.roles m.roles (h.roles_are ∙ sym k.roles_are) i;
    r = (h.redundancy ∙ sym k.redundancy) i;
    size = (h.size.0 ∙ sym k.size.0) i;
    sets = same_sets l.sets m.sets (h.sets.0 ∙ sym k.sets.0) i;
  }

  one_shown : a ≡ b
  one_shown = λ i. record {
    certified = record {
      r = (h.shown_redundancy ∙ (h.redundancy ∙ sym (k.shown_redundancy ∙ k.redundancy))) i;
      size = (h.size.1 ∙ sym k.size.1) i;
      sets = same_sets a.certified.sets b.certified.sets (h.sets.1 ∙ sym k.sets.1) i;
      cut = record { size = (h.cut_size ∙ sym k.cut_size) i; weight = (h.cut_weight ∙ sym k.cut_weight) i; side = (h.cut_side ∙ sym k.cut_side) i };
    };
    roles = same_roles a.roles b.roles (h.shown_roles ∙ sym k.shown_roles) i;
  }

  pub one_choice : (l ≡ m) × (a ≡ b)
  one_choice = (one_layout, one_shown)

-- what is refused before a layout is computed is so whatever is given
refused_alike : (x y z : Bool) (a b c d e : Effect AnyRow) → (not x && (not y && not z)) ≡ false → cond x a (cond y b (cond z c d)) ≡ cond x a (cond y b (cond z c e))
refused_alike true y z a b c d e h = refl
refused_alike false true z a b c d e h = refl
refused_alike false false true a b c d e h = refl
refused_alike false false false a b c d e h = cc

-- an apply that is given this
abbrev applies : ℕ → Decision → Moving
applies n c = record { step = step.Apply n; choice = c }

module _ (s : State) (n : ℕ) where
  early : (c d : Decision) → comes_to_layout s.world n ≡ false → does any_join words s.world (applies n c) ≡ does any_join words s.world (applies n d)
  early c d h =
      let w : World = s.world in
      refused_alike (leb 1 w.applied && not (is_member_at layouts w n)) (leb (suc (newest_at w n)) w.applied) (leb most_versions w.applied) _ _ _ _ _ h

  effect_fixed : (c d : Decision) (p : Print) → IsOfPrinted s (Apply n) c p → IsOfPrinted s (Apply n) d p → does any_join words s.world (applies n c) ≡ does any_join words s.world (applies n d)
  effect_fixed (given l a) (given m b) p h k =
      let w : World = s.world in
      elim (comes_to_layout w n) as
      (λ t. cond t (IsOfPrint w.roles w.redundancy (suc (newest_at w n)) p.printed l a) ⊥ → cond t (IsOfPrint w.roles w.redundancy (suc (newest_at w n)) p.printed m b) ⊥ →
      does any_join words w (applies n (given l a)) ≡ does any_join words w (applies n (given m b))) [
        | true ↦ λ x y. let one = one_choice w.roles w.redundancy (suc (newest_at w n)) p.printed l m a b x y in (λ i. does any_join words w (applies n (given (one.0 i) (one.1 i))))
        | false ↦ λ x y. absurd x
      ] h k
  effect_fixed (given l a) (none_given q) p h k =
      let w : World = s.world in
      elim (comes_to_layout w n) as
      (λ t. cond t (IsOfPrint w.roles w.redundancy (suc (newest_at w n)) p.printed l a) ⊥ → cond t ⊥ ⊤ → does any_join words w (applies n (given l a)) ≡ does any_join words w (applies n (none_given q))) [
        | true ↦ λ x y. absurd y
        | false ↦ λ x y. absurd x
      ] h k
  effect_fixed (none_given r) (given m b) p h k =
      let w : World = s.world in
      elim (comes_to_layout w n) as
      (λ t. cond t ⊥ ⊤ → cond t (IsOfPrint w.roles w.redundancy (suc (newest_at w n)) p.printed m b) ⊥ → does any_join words w (applies n (none_given r)) ≡ does any_join words w (applies n (given m b))) [
        | true ↦ λ x y. absurd x
        | false ↦ λ x y. absurd y
      ] h k
  effect_fixed (none_given r) (none_given q) p h k =
      elim (comes_to_layout s.world n) as
      (λ t. comes_to_layout s.world n ≡ t → cond t ⊥ ⊤ → does any_join words s.world (applies n (none_given r)) ≡ does any_join words s.world (applies n (none_given q))) [
        | true ↦ λ is x. absurd x
        | false ↦ λ is x. early (none_given r) (none_given q) is
      ] refl h

-- an event that is given this or that leads to one state, and tells one text
record IsFixed (s : State) (e : Event) (c d : Decision) : Type 0 where
  state : (outcome s e c).state ≡ (outcome s e d).state
  told : (line : ℕ) (name : List ℕ) →
      told_text line name (outcome s e c).refused (outcome s e c).words (outcome s e c).lines ≡ told_text line name (outcome s e d).refused (outcome s e d).words (outcome s e d).lines

by_effect : (s : State) (n : ℕ) (c d : Decision) → does any_join words s.world (applies n c) ≡ does any_join words s.world (applies n d) → IsFixed s (Apply n) c d
by_effect s n c d same = record {
  state = ap (λ (x : Effect AnyRow). record s { world = applied s.world x; history = s.history ++ [] }) same;
  told = λ line name. ap (λ (x : Effect AnyRow). told_text line name x.refused x.words x.tells) same;
}

-- the turn of an event that is given this
abbrev turned : Numbered → Decision → Turn
turned e c = record { numbered = e; choice = c }

-- a layout that is printed for what is staged is given
as_staged : (s : State) (t : Turn) (p : Print) → p.staged ≡ staged_in s → IsGivenFor s t p → IsOfPrinted s t.numbered.event t.choice p
as_staged s t p so (as_printed same is) = is
as_staged s t p so (as_computed other is) = absurd (other so)

apply_fixed : (s : State) (line n : ℕ) (c d : Decision) (p : Print) → (let e : Numbered = record { line = line; event = Apply n } in IsGivenFor s (turned e c) p → IsGivenFor s (turned e d) p → HasPrint s (Apply n) (Some p) → IsFixed s (Apply n) c d)
apply_fixed s line n c d p h k has =
    let e : Numbered = record { line = line; event = Apply n } in
    elim (comes_to_layout s.world n) as (λ b. comes_to_layout s.world n ≡ b → IsFixed s (Apply n) c d) [
      | true ↦ λ comes. by_effect s n c d (effect_fixed s n c d p (as_staged s (turned e c) p (has comes) h) (as_staged s (turned e d) p (has comes) k))
      | false ↦ λ early_on. by_effect s n c d (early s n c d early_on)
    ] refl

event_fixed : (s : State) (line : ℕ) (e : Event) (c d : Decision) (o : Option Print) → IsGiven s (turned (record { line = line; event = e }) c) o → IsGiven s (turned (record { line = line; event = e }) d) o → HasPrint s e o → IsFixed s e c d
event_fixed s line (Apply n) c d None h k has = by_effect s n c d (early s n c d has)
event_fixed s line (Apply n) c d (Some p) h k has = apply_fixed s line n c d p h k has
event_fixed s line Trio c d o h k has = record { state = refl; told = λ line name. refl }
event_fixed s line (Block size) c d o h k has = record { state = refl; told = λ line name. refl }
event_fixed s line (Bucket name) c d o h k has = record { state = refl; told = λ line name. refl }
event_fixed s line (Stage n role) c d o h k has = record { state = refl; told = λ line name. refl }
event_fixed s line (Spread wanted) c d o h k has = record { state = refl; told = λ line name. refl }
event_fixed s line (Tick ms) c d o h k has = record { state = refl; told = λ line name. refl }
event_fixed s line (Skew n ms) c d o h k has = record { state = refl; told = λ line name. refl }
event_fixed s line (Put n bucket key size fill) c d o h k has = record { state = refl; told = λ line name. refl }
event_fixed s line (Get n bucket key) c d o h k has = record { state = refl; told = λ line name. refl }
event_fixed s line (Head n bucket key) c d o h k has = record { state = refl; told = λ line name. refl }
event_fixed s line (Delete n bucket key) c d o h k has = record { state = refl; told = λ line name. refl }
event_fixed s line (Copy n from_bucket from_key bucket key) c d o h k has = record { state = refl; told = λ line name. refl }
event_fixed s line (Keys n bucket prefix) c d o h k has = record { state = refl; told = λ line name. refl }
event_fixed s line (Deliver m) c d o h k has = record { state = refl; told = λ line name. refl }
event_fixed s line (Lose m) c d o h k has = record { state = refl; told = λ line name. refl }
event_fixed s line (Drain n) c d o h k has = record { state = refl; told = λ line name. refl }
event_fixed s line (Expire q) c d o h k has = record { state = refl; told = λ line name. refl }
event_fixed s line (Restart n) c d o h k has = record { state = refl; told = λ line name. refl }
event_fixed s line (Gossip from to) c d o h k has = record { state = refl; told = λ line name. refl }
event_fixed s line (Ack n) c d o h k has = record { state = refl; told = λ line name. refl }
event_fixed s line (Sync n) c d o h k has = record { state = refl; told = λ line name. refl }
event_fixed s line (SyncAck n) c d o h k has = record { state = refl; told = λ line name. refl }
event_fixed s line (Clean n) c d o h k has = record { state = refl; told = λ line name. refl }
event_fixed s line (Work n) c d o h k has = record { state = refl; told = λ line name. refl }
event_fixed s line (Repair n) c d o h k has = record { state = refl; told = λ line name. refl }
event_fixed s line (Collect n) c d o h k has = record { state = refl; told = λ line name. refl }

module _ (ps : List Print) where
  turn_fixed : (s : State) (t u : Turn) → t.numbered ≡ u.numbered → IsGiven s t (print_at ps t.numbered.line) → IsGiven s u (print_at ps u.numbered.line) → HasPrint s t.numbered.event (print_at ps t.numbered.line) →
      (after s t ≡ after s u) × (event_text t.numbered (outcome_of s t) ≡ event_text u.numbered (outcome_of s u))
  turn_fixed s t u same h k has =
      let e : Numbered = t.numbered in
      let k' : IsGiven s (turned e u.choice) (print_at ps e.line) = subst (λ (x : Numbered). IsGiven s (turned x u.choice) (print_at ps x.line)) (sym same) k in
      let fixed : IsFixed s e.event t.choice u.choice = event_fixed s e.line e.event t.choice u.choice (print_at ps e.line) h k' has in
      subst (λ (x : Numbered). (after s t ≡ after s (turned x u.choice)) × (event_text e (outcome_of s t) ≡ event_text x (outcome_of s (turned x u.choice)))) same
      (fixed.state, fixed.told e.line (name_of e.event))

  pub runs_fixed : (s : State) (turns others : List Turn) → events_of turns ≡ events_of others → AreGiven ps s turns → AreGiven ps s others → HavePrints ps s turns →
      (run s turns ≡ run s others) × (turns_text s turns ≡ turns_text s others)
  runs_fixed s [] [] same h k has = (refl, refl)
  runs_fixed s [] (u ∷ us) same h k has = cc
  runs_fixed s (t ∷ ts) [] same h k has = cc
  runs_fixed s (t ∷ ts) (u ∷ us) same h k has =
      let first : t.numbered ≡ u.numbered = cc in
      let later : events_of ts ≡ events_of us = cc in
      let here = turn_fixed s t u first h.0 k.0 has.0 in
      let rest = runs_fixed (after s t) ts us later h.1 (subst (λ (x : State). AreGiven ps x us) (sym here.0) k.1) has.1 in
      (rest.0 ∙ ap (λ (x : State). run x us) here.0, (λ i. here.1 i ++ rest.1 i) ∙ ap (λ (x : State). event_text u.numbered (outcome_of s u) ++ turns_text x us) here.0)
