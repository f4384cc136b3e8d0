-- How the greatest read version rises.
use Rattle.std.proofs.Common.{◌≡◌, ℕ, zero, suc, pred, ◌<◌, ◌≤◌, List, Some, sym, ◌∙◌, subst, inl, inr, arith, le_trans}
use Rattle.layout_trackers.specs.declared.which.Which.TheVariants.{Sync, SyncAck}
use Rattle.view_model.specs.View.{Reading, View, oldest, newest, layout_at}
use Rattle.control_model.specs.Layouts.{IsMember}
use Rattle.control_model.specs.World.{Round, World, Change, next, view_of, layout_of}
use Rattle.control_model.specs.Steps.{round_of}
use Rattle.crdt_core.specs.Members.{Has}
use Rattle.control_model.specs.Facts.{TwoOf, entry_of, read_of}
use Rattle.version_laws.proofs.Tests.{two_weaker}
use Rattle.version_laws.proofs.OneView.{read_high, WhyRead, why_read, established_two, some_member}
use Rattle.version_laws.proofs.WholeViews.{IsWhole, IsWholeChange, whole_next}
use Rattle.version_laws.proofs.Paced.{Reaches, IsPaced, IsPacedChange, all_reach, passed_before, syncack_before, began_before, paced_next}

pred_less : (v a b : ℕ) → pred v ≤ a → a < b → v ≤ b
pred_less zero a b h k = omega arith
pred_less (suc v) a b h k = omega arith

pred_exact : (v a b : ℕ) → pred v ≤ a → a < b → v ≤ b → b ≤ v → 2 ≤ b → suc a ≡ b
pred_exact zero a b h k l m real = absurd (omega arith)
pred_exact (suc v) a b h k l m real = omega arith

pred_le : (a b : ℕ) → a ≤ b → pred a ≤ b
pred_le zero b h = h
pred_le (suc a) b h = omega arith

pred_real : (a : ℕ) → 2 ≤ a → 1 ≤ pred a
pred_real zero h = absurd (omega arith)
pred_real (suc a) h = omega arith

pred_lt : (a b : ℕ) → a ≡ b → 2 ≤ a → pred a < b
pred_lt zero b e h = absurd (omega arith)
pred_lt (suc a) b e h = omega arith

pred_no : (a b : ℕ) → pred a < b → b < a → ⊥
pred_no zero b h k = omega arith
pred_no (suc a) b h k = omega arith

-- no node read version i before
module _ {L : Type 0} (R : Reading L) (parts : ℕ) (some : 1 ≤ parts) (w : World L) (c : Change L) (s : IsWhole R parts w) (hc : IsWholeChange R parts w c) (p : IsPaced R w) (h : IsPacedChange R w c) (n : ℕ) (real : 2 ≤ read_of R (next w c) n) (rises : (m : ℕ) → read_of R w m < read_of R (next w c) n) where
  abbrev New : World L
  New = next w c

  abbrev V : View L
  V = view_of New n

  abbrev Top : ℕ
  Top = read_of R New n

  new : IsWhole R parts New
  new = whole_next R parts w c s hc

  paced : IsPaced R New
  paced = paced_next R parts w c s hc p h

  -- a round that began before went no further
  no_further : (t : Round) → Has w.began t → t.version ≤ Top
  no_further t began =
      let reached = (p.rounds t began).reached in
      let less = rises reached.0 in
      let at = reached.1 in
      pred_less t.version (read_of R w reached.0) Top at less

  exact : (t : Round) → Has w.began t → Top ≤ t.version → (m : ℕ) × (suc (read_of R w m) ≡ Top)
  exact t began a =
      let reached = (p.rounds t began).reached in
      let at = reached.1 in
      let less = rises reached.0 in
      let high = no_further t began in
      (reached.0, pred_exact t.version (read_of R w reached.0) Top at less high a real)

  pub by_one : (m : ℕ) × (suc (read_of R w m) ≡ Top)
  by_one = by (all_reach R parts w c s hc p h n)
    where
      by : Reaches R w Top → (m : ℕ) × (suc (read_of R w m) ≡ Top)
      by (Reaches.low a) = absurd (omega arith)
      by (Reaches.read m a) = let less = rises m in absurd (omega arith)
      by (Reaches.by_round t began a) = exact t began a

  -- a node whose own entry is at least the version read has completed a round to just that version
  completed : (x : ℕ) → Top ≤ entry_of Sync (view_of New x) x → Has New.completed (round_of x Top)
  completed x at =
      elim (paced.synced x) [
        | inl e ↦ absurd (omega arith)
        | inr has ↦
            let e = entry_of Sync (view_of New x) x in
            let high = no_further (round_of x e) (began_before R parts w c s hc p h (round_of x e) has) in
            let same : e ≡ Top = omega arith in
            subst (λ t. Has New.completed (round_of x t)) same has
      ]

  within : pred Top ≤ newest R V
  within = let high = read_high R V in pred_le Top (newest R V) high

  -- the version is not read because those before it were dropped
  not_oldest : Top ≡ oldest R V → ⊥
  not_oldest e =
      let l = new.lawful (pred Top) (pred_real Top real) (le_trans within (new.views n).under) in
      let m = some_member R parts some (pred Top) l.0 l.2 in
      let mem = subst (λ l. IsMember R m.0 l) (sym l.1) m.1 in
      let before = passed_before R parts w c s hc p h n (pred Top) m.0 (pred_lt Top (oldest R V) e real) mem in
      let less = rises m.0 in
      pred_no Top (read_of R w m.0) before less

  pub two_completed : (l : L) → layout_of New (pred Top) ≡ Some l → (set : List ℕ) → Has (R.sets l) set → TwoOf (λ x. Has New.completed (round_of x Top)) set
  two_completed l at set has = by (why_read R V (new.views n).gapless)
    where
      by : WhyRead R V → TwoOf (λ x. Has New.completed (round_of x Top)) set
      by (WhyRead.is_oldest e) = absurd (not_oldest e)
      by (WhyRead.acked x a) =
          let known = (new.views n).known SyncAck x in
          let before = syncack_before R parts w c s hc p h x in
          let less = rises x in
          absurd (omega arith)
      by (WhyRead.synced more e) =
          let stored : layout_at R V (pred Top) ≡ Some l = (new.views n).agrees (pred Top) (pred_more Top (oldest R V) more) within ∙ at in
          two_weaker (λ x. Top ≤ entry_of Sync V x) (λ x. Has New.completed (round_of x Top))
          (λ x a. completed x (le_trans a ((new.views n).known Sync x)))
          set (established_two R V Top l e stored set has)
        where
          pred_more : (a b : ℕ) → b < a → b ≤ pred a
          pred_more zero b h = absurd (omega arith)
          pred_more (suc a) b h = omega arith
