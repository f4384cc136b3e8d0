-- A round that is open: it began, its node still stores a version below it, and knows its version.
use Rattle.std.proofs.Common.{◌≡◌, ℕ, suc, ◌<◌, ◌≤◌, ◌&&◌, ◌==◌, Option, Some, None, List, [], ◌∷◌, ◌++◌, IsTrue, IfSome, slice_get, refl, sym, subst, inl, arith, eqb-true, eq-eqb, leb, leb-true, le_refl}
use Rattle.std.proofs.lemmas.Bool.{cond_both, and_parts, leb-false}
use Rattle.layout_trackers.specs.declared.which.Which.TheVariants.{Ack, Sync, SyncAck}
use Rattle.view_model.specs.View.{Reading, View, oldest, newest, merged, cleaned, appended, with_entry}
use Rattle.view_model.proofs.Joins.{newest_merged}
use Rattle.view_model.proofs.Cleans.{newest_stays}
use Rattle.control_model.specs.Layouts.{is_lawful}
use Rattle.control_model.specs.World.{Round, Node, World, Change, next, nothing, empty, view_of}
use Rattle.control_model.specs.Steps.{Step, applies, installs, still, with_view, comes, completes, begins, begins_round, is_none, is_current, may_begin, least_start, without, change, step, round_of}
use Rattle.crdt_core.specs.Members.{Has}
use Rattle.control_model.specs.Facts.{Open, read_of}
use Rattle.version_laws.proofs.Tests.{has_right, some_at, some_is}
use Rattle.version_laws.proofs.OneView.{started, read_low, oldest_appended}
use Rattle.version_laws.proofs.WholeViews.{IsMessage, IsWhole, IsWholeChange, at_each, at_one}
use Rattle.version_laws.proofs.WholeSteps.{whole_change}
use Rattle.version_laws.proofs.Paced.{IsPaced}
use Rattle.version_laws.proofs.PacedSteps.{some_newest}

module _ {L : Type 0} (R : Reading L) where
  -- by cases on the round of node n with this view
  abbrev pub IsOpen : List Round → ℕ → View L → Option ℕ → Type 0
  IsOpen began n v o = IfSome o (λ i. Has began (round_of n i) × (oldest R v < i) × (i ≤ newest R v))

  abbrev pub AllOpen : World L → Type 0
  AllOpen w = (n : ℕ) → IsOpen w.began n (view_of w n) (w.nodes n).round

  -- a view that has no greater oldest version
  open_same : (began new : List Round) (n : ℕ) (a b : View L) (o : Option ℕ) → oldest R b ≤ oldest R a → newest R a ≤ newest R b → IsOpen began n a o → IsOpen (new ++ began) n b o
  open_same began new n a b None p q h = tt
  open_same began new n a b (Some i) p q h =
      let low = h.1 in let high = h.2 in
      (has_right new began (round_of n i) h.0, omega arith, omega arith)

  -- a view that grew, where rounds that it passed close
  open_still : (began : List Round) (n : ℕ) (a b : View L) (o : Option ℕ) → newest R a ≤ newest R b → IsOpen began n a o → IsOpen began n b (still (oldest R b) o)
  open_still began n a b None q h = tt
  open_still began n a b (Some i) q h =
      let high = h.2 in
      cond_both (leb i (oldest R b)) None (Some i) (IsOpen began n b) (λ _. tt) (λ e. let low = leb-false i (oldest R b) e in (h.0, omega arith, omega arith))

  -- one node alone changes
  open_at : (w : World L) (c : Change L) → AllOpen w → ((n : ℕ) → IsTrue (c.who n) → IsOpen (c.begins ++ w.began) n (c.node n).view (c.node n).round) → AllOpen (next w c)
  open_at w c h new = at_each w c (λ n x. IsOpen (c.begins ++ w.began) n x.view x.round) new
      (λ n. open_same w.began c.begins n (view_of w n) (view_of w n) (w.nodes n).round (le_refl (oldest R (view_of w n))) (le_refl (newest R (view_of w n))) (h n))

  -- the change of node n to x
  one_open : (w : World L) (n : ℕ) (x : Node L) (begins : List Round) → IsOpen (begins ++ w.began) n x.view x.round → (m : ℕ) → IsTrue (m == n) → IsOpen (begins ++ w.began) m x.view x.round
  one_open w n x begins one m e = at_one n (λ m. IsOpen (begins ++ w.began) m x.view x.round) one m e

  none_open : (began : List Round) (n : ℕ) (a b : View L) (o : Option ℕ) → newest R a ≡ 0 → IsOpen began n a o → IsOpen began n b o
  none_open began n a b None e h = tt
  none_open began n a b (Some i) e h = let low = h.1 in let high = h.2 in absurd (omega arith)

  module _ (parts : ℕ) (some : 1 ≤ parts) (w : World L) (s : IsWhole R parts w) (p : IsPaced R w) (h : AllOpen w) where
    came : (n : ℕ) (o : Option (View L)) → IfSome o (IsMessage R parts w) → AllOpen (next w (comes R w n o))
    came n None m = h
    came n (Some v) m =
        let own = view_of w n in
        let t = newest_merged R own v (s.views n).gapless m.0.gapless in
        open_at w (comes R w n (Some v)) h (one_open w n (with_view R (w.nodes n) (merged R own v)) [] (open_still w.began n own (merged R own v) (w.nodes n).round (omega arith) (h n)))

    done : (n : ℕ) (o : Option ℕ) → AllOpen (next w (completes R w n o))
    done n None = h
    done n (Some i) = open_at w (completes R w n (Some i)) h (one_open w n (record (w.nodes n) { view = with_entry R Sync n i (view_of w n); round = None }) [] tt)

    -- the layouts of the node's view stay
    open_kept : (n : ℕ) (x : Node L) → x.view.layouts ≡ (view_of w n).layouts → x.round ≡ (w.nodes n).round → (m : ℕ) → IsTrue (m == n) → IsOpen w.began m x.view x.round
    open_kept n x layouts round =
        one_open w n x [] (subst (IsOpen w.began n x.view) (sym round) (subst (λ ls. IsOpen w.began n (record x.view { layouts = ls }) (w.nodes n).round) (sym layouts) (h n)))

    round_begins : (n i : ℕ) → i ≡ suc (read_of R w n) → IsTrue (leb i (newest R (view_of w n))) → (m : ℕ) → IsTrue (m == n) → IsOpen (round_of n i ∷ w.began) m (view_of w n) (Some i)
    round_begins n i is within =
        let low = read_low R (view_of w n) (s.views n).gapless in
        one_open w n (record (w.nodes n) { round = Some i }) (round_of n i ∷ []) (inl refl, omega arith, leb-true i (newest R (view_of w n)) within)

    step_open : (e : Step L) → IsWholeChange R parts w (change R parts w e) → AllOpen (step R parts w e)
    step_open (Step.Install who l) = cond_both ((w.top == 0) && is_lawful R parts 1 l) (installs R w who l) (nothing w) (λ c. IsWholeChange R parts w c → AllOpen (next w c))
        (λ t hc. open_at w (installs R w who l) h (λ n _.
        let v = s.views n in let u = v.under in let z = eqb-true w.top 0 (and_parts (w.top == 0) (is_lawful R parts 1 l) t).0 in
        none_open w.began n (view_of w n) (appended R (view_of w n) l) (w.nodes n).round (omega arith) (h n)))
        (λ _ _. h)
    step_open (Step.Apply n l) =
        let own = view_of w n in
        let a = is_current R own n in
        let b = (newest R own == w.top) && is_lawful R parts (suc w.top) l in
        cond_both (a && b) (applies R w n l (appended R own l)) (nothing w) (λ c. IsWholeChange R parts w c → AllOpen (next w c))
        (λ t hc.
        let one = started R own (s.views n).gapless (some_newest R parts some w s p n (and_parts a b t).0) in
        let o = oldest_appended R own l one in
        let more = (hc.below n (self n)).newest_grew in
        open_at w (applies R w n l (appended R own l)) h (one_open w n (record (w.nodes n) { view = appended R own l }) [] (open_same w.began [] n own (appended R own l) (w.nodes n).round (omega arith) more (h n))))
        (λ _ _. h)
      where
        self : (n : ℕ) → IsTrue (n == n)
        self n = eq-eqb n n refl
    step_open (Step.Gossip n) = λ hc. h
    step_open (Step.Deliver n k) = λ hc. came n (slice_get w.sent k) (some_at (IsMessage R parts w) w.sent k s.sent)
    step_open (Step.RaiseAck n) = λ hc. open_at w (change R parts w (Step.RaiseAck n)) h (open_kept n (record (w.nodes n) { view = with_entry R Ack n (least_start (newest R (view_of w n)) (w.nodes n).requests) (view_of w n) }) refl refl)
    step_open (Step.RaiseSyncAck n) = λ hc. open_at w (change R parts w (Step.RaiseSyncAck n)) h (open_kept n (record (w.nodes n) { view = with_entry R SyncAck n (read_of R w n) (view_of w n) }) refl refl)
    step_open (Step.Clean n) = λ hc.
        let own = view_of w n in
        let e = newest_stays R own (s.views n).gapless in
        open_at w (change R parts w (Step.Clean n)) h (one_open w n (with_view R (w.nodes n) (cleaned R own)) [] (open_still w.began n own (cleaned R own) (w.nodes n).round (omega arith) (h n)))
    step_open (Step.Begin n) = cond_both (is_current R (view_of w n) n) (begins R w n) (nothing w) (λ c. IsWholeChange R parts w c → AllOpen (next w c))
        (λ t hc. open_at w (begins R w n) h (open_kept n (record (w.nodes n) { requests = record { number = suc w.asked; start = newest R (view_of w n) } ∷ (w.nodes n).requests }) refl refl))
        (λ _ _. h)
    step_open (Step.End n q) = λ hc. open_at w (change R parts w (Step.End n q)) h (open_kept n (record (w.nodes n) { requests = without q (w.nodes n).requests }) refl refl)
    step_open (Step.BeginRound n) =
        let x = w.nodes n in
        let i = suc (read_of R w n) in
        let a = is_none x.round in
        let b = leb i (newest R x.view) in
        cond_both (may_begin R x n i) (begins_round R w n i) (nothing w) (λ c. IsWholeChange R parts w c → AllOpen (next w c))
        (λ t hc. open_at w (begins_round R w n i) h (round_begins n i refl (and_parts b _ (and_parts a (b && _) t).1).0))
        (λ _ _. h)
    step_open (Step.Complete n) = λ hc. done n (w.nodes n).round
    step_open (Step.Restart n) = λ hc. open_at w (change R parts w (Step.Restart n)) h (one_open w n (record (w.nodes n) { requests = []; round = None }) [] tt)

    pub all_open : (e : Step L) → AllOpen (step R parts w e)
    all_open e = step_open e (whole_change R parts w e s)

  pub empty_open : AllOpen empty
  empty_open n = tt

  open_by : (w : World L) (n i : ℕ) (o : Option ℕ) → o ≡ Some i → IsOpen w.began n (view_of w n) o → Open R w n i
  open_by w n i None e h = cc
  open_by w n i (Some j) e h =
      let same : j ≡ i = some_is j i e in
      record { began = subst (λ t. Has w.began (round_of n t)) same h.0; stores_it = subst (λ t. oldest R (view_of w n) < t) same h.1; knows_it = subst (λ t. t ≤ newest R (view_of w n)) same h.2 }

  pub open_round : (w : World L) → AllOpen w → (n i : ℕ) → (w.nodes n).round ≡ Some i → Open R w n i
  open_round w h n i e = open_by w n i (w.nodes n).round e (h n)
