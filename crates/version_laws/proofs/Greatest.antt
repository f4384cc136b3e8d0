-- There is a greatest read version.
use Rattle.std.proofs.Common.{◌≡◌, ℕ, suc, ◌≤◌, max, ◌&&◌, ◌==◌, List, [], ◌∷◌, Option, Some, None, IsTrue, slice_get, sym, ◌∙◌, ap, subst, inl, inr, ◌⊎◌, arith, eqb-true, le_refl, le_trans}
use Rattle.std.proofs.lemmas.Bool.{cases_lt, cases_Bool, and_parts, cond_both, cond-true, false≢true}
use Rattle.view_model.specs.View.{Reading, View, read_version, appended}
use Rattle.control_model.specs.Layouts.{is_lawful}
use Rattle.control_model.specs.World.{Node, World, Change, next, nothing, empty, view_of}
use Rattle.control_model.specs.Steps.{Step, applies, installs, comes, completes, is_current, may_begin, change, step}
use Rattle.control_model.specs.Facts.{Greatest, IsRead, read_of}
use Rattle.version_laws.proofs.OneView.{read_high, read_below}
use Rattle.version_laws.proofs.WholeViews.{IsWhole, IsWholeChange, at_each, grows, whole_next}
use Rattle.version_laws.proofs.WholeSteps.{whole_change, first_top}

module _ {L : Type 0} (R : Reading L) (parts : ℕ) where
  -- one node changes, or what changes reads at most version 1
  abbrev Narrow : World L → Change L → Type 0
  Narrow w c = ((n : ℕ) → IsTrue (c.who n) → read_version R (c.node n).view ≤ 1) ⊎ ((m : ℕ) × ((n : ℕ) → IsTrue (c.who n) → n ≡ m))

  module _ (w : World L) (c : Change L) (s : IsWhole R parts w) (hc : IsWholeChange R parts w c) (g : Greatest R w) where
    abbrev New : World L
    New = next w c

    more : (m : ℕ) → read_of R w m ≤ read_of R New m
    more m = read_below R (view_of w m) (view_of New m) (s.views m).gapless ((whole_next R parts w c s hc).views m).gapless ((grows R parts w c hc).views m)

    still_reached : (e : ℕ) → IsRead R w e → IsRead R New e
    still_reached e h = (h.0, le_trans h.1 (more h.0))

    keeps_reached : (g.version ≤ 1) ⊎ IsRead R w g.version → (g.version ≤ 1) ⊎ IsRead R New g.version
    keeps_reached (inl a) = inl a
    keeps_reached (inr a) = inr (still_reached g.version a)

    low_next : ((n : ℕ) → IsTrue (c.who n) → read_version R (c.node n).view ≤ 1) → Greatest R New
    low_next low = record {
      version = max g.version 1;
      above = at_each w c (λ n x. read_version R x.view ≤ max g.version 1) (λ n e. let a = low n e in omega arith) (λ n. let a = g.above n in omega arith);
      reached = elim (cases_lt 1 g.version) [
        | inl real ↦ elim g.reached [ inl a ↦ absurd (omega arith) | inr a ↦ inr (still_reached (max g.version 1) (a.0, let b = a.1 in omega arith)) ]
        | inr one ↦ inl (omega arith)
      ];
    }

    one_next : (m : ℕ) → ((n : ℕ) → IsTrue (c.who n) → n ≡ m) → Greatest R New
    one_next m only_m =
        elim (cases_Bool (c.who m)) [
          | inl who ↦
              let i = read_version R (c.node m).view in
              let same : view_of New m ≡ (c.node m).view = ap (λ (x : Node L). x.view) (cond-true (c.who m) (c.node m) (w.nodes m) who) in
              elim (cases_lt g.version i) [
                | inl rises ↦ record {
                  version = i;
                  above = at_each w c (λ n x. read_version R x.view ≤ i) (λ n e. subst (λ k. read_version R (c.node k).view ≤ i) (sym (only_m n e)) (le_refl i)) (λ n. let a = g.above n in omega arith);
                  reached = inr (m, subst (λ (v : View L). i ≤ read_version R v) (sym same) (le_refl i));
                }
                | inr stays ↦ record {
                  version = g.version;
                  above = at_each w c (λ n x. read_version R x.view ≤ g.version) (λ n e. subst (λ k. read_version R (c.node k).view ≤ g.version) (sym (only_m n e)) stays) g.above;
                  reached = keeps_reached g.reached;
                }
              ]
          | inr no_one ↦ record {
            version = g.version;
            above = at_each w c (λ n x. read_version R x.view ≤ g.version) (λ n e. absurd (false≢true (sym no_one ∙ subst (λ k. IsTrue (c.who k)) (only_m n e) e))) g.above;
            reached = keeps_reached g.reached;
          }
        ]

    greatest_next : Narrow w c → Greatest R New
    greatest_next (inl low) = low_next low
    greatest_next (inr one) = one_next one.0 one.1

  none_narrow : (w : World L) (sends : List (View L)) → Narrow w (record (nothing w) { sends = sends })
  none_narrow w sends = inr (0, λ n e. absurd (false≢true e))

  narrow : (w : World L) (e : Step L) → IsWhole R parts w → Narrow w (change R parts w e)
  narrow w (Step.Install who l) s = cond_both ((w.top == 0) && is_lawful R parts 1 l) (installs R w who l) (nothing w) (Narrow w)
      (λ t. let both = and_parts (w.top == 0) (is_lawful R parts 1 l) t in
      inl (λ n e. let high = read_high R (appended R (view_of w n) l) in let top = first_top R parts w s who l both.1 (eqb-true w.top 0 both.0) n in omega arith))
      (λ _. none_narrow w [])
  narrow w (Step.Apply n l) s = cond_both _ (applies R w n l (appended R (view_of w n) l)) (nothing w) (Narrow w)
      (λ t. inr (n, λ m e. eqb-true m n e)) (λ _. none_narrow w [])
  narrow w (Step.Gossip n) s = none_narrow w (view_of w n ∷ [])
  narrow w (Step.Deliver n k) s = by (slice_get w.sent k)
    where
      by : (o : Option (View L)) → Narrow w (comes R w n o)
      by None = none_narrow w []
      by (Some v) = inr (n, λ m e. eqb-true m n e)
  narrow w (Step.RaiseAck n) s = inr (n, λ m e. eqb-true m n e)
  narrow w (Step.RaiseSyncAck n) s = inr (n, λ m e. eqb-true m n e)
  narrow w (Step.Clean n) s = inr (n, λ m e. eqb-true m n e)
  narrow w (Step.Begin n) s = cond_both (is_current R (view_of w n) n) _ (nothing w) (Narrow w)
      (λ t. inr (n, λ m e. eqb-true m n e)) (λ _. none_narrow w [])
  narrow w (Step.End n q) s = inr (n, λ m e. eqb-true m n e)
  narrow w (Step.BeginRound n) s = cond_both (may_begin R (w.nodes n) n (suc (read_of R w n))) _ (nothing w) (Narrow w)
      (λ t. inr (n, λ m e. eqb-true m n e)) (λ _. none_narrow w [])
  narrow w (Step.Complete n) s = by (w.nodes n).round
    where
      by : (o : Option ℕ) → Narrow w (completes R w n o)
      by None = none_narrow w []
      by (Some i) = inr (n, λ m e. eqb-true m n e)
  narrow w (Step.Restart n) s = inr (n, λ m e. eqb-true m n e)

  pub step_greatest : (w : World L) (e : Step L) → IsWhole R parts w → Greatest R w → Greatest R (step R parts w e)
  step_greatest w e s g = greatest_next w (change R parts w e) s (whole_change R parts w e s) g (narrow w e s)

pub empty_greatest : {L : Type 0} (R : Reading L) → Greatest R empty
empty_greatest R = record { version = 0; above = λ n. le_refl 0; reached = inl (omega arith) }
